use Rattle.std.proofs.Common.{rules, [], ◌≡◌, ℕ, List, subst, refl}
use Rattle.surface_top.specs.Answer.{answer_to, answer_within}
use Rattle.surface_top.specs.Ending.{IsEndingOf, IsUnread, status_of}
use Rattle.surface_top.specs.Kept.{run_to, run_within, Leaves}
use Rattle.surface_top.specs.Outcome.{OutGains}
use Rattle.surface_top.specs.Watched.{seats_within, Shows}
use Rattle.surface_top.proofs.BytesRead.{short, ends_unread, ends_within}
use Rattle.surface_top.proofs.Leaving.{source_leaves, within_leaves}
use Rattle.surface_top.proofs.Watches.{reads_watch, shows_within, watch_accepted}
use Rattle.surface_top.proofs.watch_call.watch_source.Goals as goal

pub returns-in-Err-clause-ends : goal.returns-in-Err-clause-ends
returns-in-Err-clause-ends g c =
    let unread = g.S.Source.unread c.args.source.now in
    λ words.
    ends_unread words c.args.command _ c.in-Err.ending unread (g.O.Sink.written c.args.out.now) (reads_watch c.args.command c.requires.watch) c.in-Err.ensures.unread
    (λ bytes long. (source_leaves c.in-Err.ending unread c.args.command bytes c.args.kept.now c.in-Err.ensures.unread long c.requires.none, λ done. absurd (subst (λ e. IsUnread e unread) done c.in-Err.ensures.unread)))

pub returns-in-Ok-clause-ends : goal.returns-in-Ok-clause-ends
returns-in-Ok-clause-ends g c =
    let command = c.args.command in
    let r = c.watch_text.result in
    let kept = c.watch_text.new.kept in
    let lines = c.watch_text.new.lines.items in
    let text : List ℕ = c.in-Ok.text.items in
    let old = g.O.Sink.written c.args.out.now in
    let new = g.O.Sink.written c.watch_text.new.out in
    let same : c.deref.result.now ≡ text = search rules in
    let reads = reads_watch command c.requires.watch in
    λ words.
    ends_within words command (λ bytes. Leaves r (run_to command bytes) kept × Shows r (seats_within command) (run_to command bytes) lines) text r (g.S.Source.unread c.args.source.now) old new reads (search rules) (search rules)
    (subst (λ t. IsEndingOf r (answer_within command words t)) same (c.watch_text.ensures.answered words).is_of)
    (subst (λ t. OutGains (status_of r) (answer_within command words t) old new) same (c.watch_text.ensures.answered words).gains) (
      within_leaves command text r kept (short command text reads (search rules)) (subst (λ t. Leaves r (run_within command t) kept) same c.watch_text.ensures.kept),
      shows_within command text r lines (short command text reads (search rules)) (subst (λ t. Shows r (seats_within command) (run_within command t) lines) same c.watch_text.ensures.shown),
    )

pub returns-in-Ok-clause-accepted : goal.returns-in-Ok-clause-accepted
returns-in-Ok-clause-accepted g c = watch_accepted c.args.command [] _ c.watch_text.result c.requires.watch (c.watch_text.ensures.answered []).is_of

pub returns-in-Ok-clause-read : goal.returns-in-Ok-clause-read
returns-in-Ok-clause-read g c = λ fault. absurd ((c.watch_text.ensures.answered []).read fault)

pub returns-in-Ok-clause-write : goal.returns-in-Ok-clause-write
returns-in-Ok-clause-write g c = (c.watch_text.ensures.answered []).write
