use Rattle.std.proofs.Common.{rules, ◌≡◌, ℕ, List, drop, map, Option, string_bytes, ap, subst}
use Rattle.crew.specs.Crews.{CrewView}
use Rattle.surf_kinds.specs.declared.status.Status.{Status}
use Rattle.surface_words.specs.declared.commands.Program.TheVariants.{Surface}
use Rattle.surface_top.specs.Outcome.{Outside}
use Rattle.surface_top.specs.Reporting.{IsAnsweredCall}
use Rattle.program_call.proofs.ending.surface_exit.Goals as goal

of_words : (words behind : List (List ℕ)) (s : Status) (kept : Option CrewView) (old new : Outside) → words ≡ behind → IsAnsweredCall Surface words s kept old new → IsAnsweredCall Surface behind s kept old new
of_words words behind s kept old new e h = subst (λ (w : List (List ℕ)). IsAnsweredCall Surface w s kept old new) e h

pub returns : goal.returns
returns g c =
    let same : c.words_behind_name-words.result.now ≡ drop 1 c.args.call.now.words.items = search rules in
    (c.surface_main.result, c.surface_main.new.kept, c.code.ensures, of_words _ _ c.surface_main.result c.surface_main.new.kept _ _ (ap (map string_bytes) same) c.surface_main.ensures.answer)
