use Rattle.std.proofs.Common.{rules, ◌≡◌, ℕ, List, subst, refl, map, string_bytes}
use Rattle.surface_top.specs.Answer.{answer_to, answer_within}
use Rattle.surface_top.specs.Kept.{run_to, run_within, Leaves}
use Rattle.surface_top.specs.Ending.{IsEndingOf, status_of}
use Rattle.surface_top.specs.Outcome.{OutGains}
use Rattle.surface_top.proofs.BytesRead.{short, ends_unread, ends_within}
use Rattle.surface_top.proofs.Leaving.{source_leaves, within_leaves}
use Rattle.surface_top.proofs.call.answer_source.Goals as goal

pub returns-in-Err-clause-ends : goal.returns-in-Err-clause-ends
returns-in-Err-clause-ends g c =
    let unread = g.S.Source.unread c.args.source.now in
    ends_unread (map string_bytes c.args.words.now) c.args.command _ c.in-Err.ending unread (g.O.Sink.written c.args.out.now) c.requires.reads c.in-Err.ensures.unread
    (λ bytes long. source_leaves c.in-Err.ending unread c.args.command bytes c.args.kept.now c.in-Err.ensures.unread long c.requires.none)

pub returns-in-Ok-clause-ends : goal.returns-in-Ok-clause-ends
returns-in-Ok-clause-ends g c =
    let words = map string_bytes c.args.words.now in
    let command = c.args.command in
    let r = c.answer_text.result in
    let kept = c.answer_text.new.kept in
    let text : List ℕ = c.in-Ok.text.items in
    let old = g.O.Sink.written c.args.out.now in
    let new = g.O.Sink.written c.answer_text.new.out in
    let same : c.deref.result.now ≡ text = search rules in
    ends_within words command (λ bytes. Leaves r (run_to command bytes) kept) text r (g.S.Source.unread c.args.source.now) old new c.requires.reads (search rules) (search rules)
    (subst (λ t. IsEndingOf r (answer_within command words t)) same c.answer_text.ensures.answered.is_of)
    (subst (λ t. OutGains (status_of r) (answer_within command words t) old new) same c.answer_text.ensures.answered.gains)
    (within_leaves command text r kept (short command text c.requires.reads (search rules)) (subst (λ t. Leaves r (run_within command t) kept) same c.answer_text.ensures.kept))
