use Rattle.std.proofs.Common.{rules, [], length, map, string_bytes}
use Rattle.surface_words.specs.declared.commands.Program.TheVariants.{Watch}
use Rattle.surface_top.specs.Kept.{run_to, Leaves}
use Rattle.surface_top.specs.Watched.{seats_within, Shows}
use Rattle.surface_top.proofs.BytesRead.{ends_wrong, ends_accepted, unread_words}
use Rattle.surface_top.proofs.Leaving.{wrong_leaves, accepted_leaves}
use Rattle.surface_top.proofs.Watches.{only_watch, shows_accepted, some_accepted, some_wrong}
use Rattle.surface_top.proofs.watch_call.watch.Goals as goal

pub watch_source-requires-clause-within : goal.watch_source-requires-clause-within
watch_source-requires-clause-within g c lifetimes outlived = (length c.args.words.now, c.in-Ok.ensures.range)

pub watch_source-requires-clause-watch : goal.watch_source-requires-clause-watch
watch_source-requires-clause-watch g c lifetimes outlived = only_watch (map string_bytes c.args.words.now) c.in-Ok.command c.in-Ok.ensures.ok

pub returns-in-Err-clause-ends : goal.returns-in-Err-clause-ends
returns-in-Err-clause-ends g c =
    let words = map string_bytes c.args.words.now in
    let none = unread_words Watch words (λ h. let e = c.in-Err.ensures.accepted.1 h in cc) in
    ends_wrong Watch words _ c.in-Err.index (g.S.Source.unread c.args.source.now) (g.O.Sink.written c.args.out.now)
    none c.in-Err.ensures.wrong (λ bytes. (wrong_leaves Watch words c.in-Err.index bytes c.args.kept.now none c.requires.none, λ done. absurd (cc)))

pub returns-in-Err-clause-some : goal.returns-in-Err-clause-some
returns-in-Err-clause-some g c =
    let words = map string_bytes c.args.words.now in
    λ bytes. some_wrong words bytes (unread_words Watch words (λ h. let e = c.in-Err.ensures.accepted.1 h in cc))

pub returns-in-Ok-clause-ends : goal.returns-in-Ok-clause-ends
returns-in-Ok-clause-ends g c =
    let words = map string_bytes c.args.words.now in
    let command = c.in-Ok.command in
    let r = c.watch_source.result in
    let kept = c.watch_source.new.kept in
    let lines = c.watch_source.new.lines.items in
    ends_accepted Watch words command (λ bytes. Leaves r (run_to command bytes) kept × Shows r (seats_within command) (run_to command bytes) lines) _ r _ _ _ c.in-Ok.ensures.ok
    (c.watch_source.ensures.ends words)
    (λ bytes h. (accepted_leaves Watch words command bytes r kept c.in-Ok.ensures.ok h.0, shows_accepted words command bytes r lines c.in-Ok.ensures.ok h.1))

pub returns-in-Ok-clause-some : goal.returns-in-Ok-clause-some
returns-in-Ok-clause-some g c =
    λ bytes. some_accepted (map string_bytes c.args.words.now) c.in-Ok.command (length c.args.words.now) bytes c.in-Ok.ensures.ok c.in-Ok.ensures.range
