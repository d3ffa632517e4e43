use Rattle.std.proofs.Common.{rules, [], map, string_bytes, sym, subst}
use Rattle.surface_words.specs.declared.commands.Program.TheVariants.{Surface}
use Rattle.surface_top.specs.Kept.{run_to, specified_run, Leaves}
use Rattle.surface_top.proofs.BytesRead.{ends_wrong, ends_alone, ends_accepted, unread_words}
use Rattle.surface_top.proofs.Leaving.{wrong_leaves, accepted_leaves, same_run}
use Rattle.surface_top.proofs.call.work.Goals as goal

pub returns-in-Err-clause-ends : goal.returns-in-Err-clause-ends
returns-in-Err-clause-ends g c =
    let words = map string_bytes c.args.words.now in
    let none = unread_words Surface words (λ h. let e = c.in-Err.ensures.accepted.1 h in cc) in
    ends_wrong Surface words _ c.in-Err.index (g.S.Source.unread c.args.source.now) (g.O.Sink.written c.args.out.now)
    none c.in-Err.ensures.wrong (λ bytes. wrong_leaves Surface words c.in-Err.index bytes c.args.kept.now none c.requires.none)

pub returns-in-Ok-2-clause-ends : goal.returns-in-Ok-2-clause-ends
returns-in-Ok-2-clause-ends g c =
    let words = map string_bytes c.args.words.now in
    let unread = g.S.Source.unread c.args.source.now in
    let old = g.O.Sink.written c.args.out.now in
    let new = g.O.Sink.written c.answer_text.new.out in
    let command = c.in-Ok.command in
    let kept = c.answer_text.new.kept in
    ends_accepted Surface words command (λ bytes. Leaves c.answer_text.result (run_to command bytes) kept) _ c.answer_text.result unread old new c.in-Ok.ensures.ok
    (ends_alone words command _ [] c.answer_text.result unread old new (search rules) c.answer_text.ensures.answered.is_of c.answer_text.ensures.answered.gains
    (λ bytes. subst (λ a. Leaves c.answer_text.result a kept) (same_run command [] bytes (search rules)) c.answer_text.ensures.kept))
    (λ bytes h. accepted_leaves Surface words command bytes c.answer_text.result kept c.in-Ok.ensures.ok h)
