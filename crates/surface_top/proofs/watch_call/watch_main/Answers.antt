use Rattle.std.proofs.Common.{rules, ◌≡◌, map, string_bytes, subst}
use Rattle.surface_top.specs.Outcome.{sink_view}
use Rattle.surface_top.specs.Reporting.{Told}
use Rattle.surface_top.proofs.Watches.{watch_concludes}
use Rattle.surface_top.proofs.watch_call.watch_main.Goals as goal

pub returns-clause-answer : goal.returns-clause-answer
returns-clause-answer g c =
    let same : c.deref.result.now ≡ c.watch-ending.new.lines.items = search rules in
    let told : Told c.watch-ending.new.lines.items c.watch-ending.result c.put_views-ending.result (sink_view (g.N.Sink.written c.args.notes.now) (g.N.Sink.faults c.args.notes.now)) (sink_view (g.N.Sink.written c.put_views-ending.new.notes) (g.N.Sink.faults c.put_views-ending.new.notes)) =
    subst (λ l. Told l c.watch-ending.result c.put_views-ending.result (sink_view (g.N.Sink.written c.args.notes.now) (g.N.Sink.faults c.args.notes.now)) (sink_view (g.N.Sink.written c.put_views-ending.new.notes) (g.N.Sink.faults c.put_views-ending.new.notes))) same c.put_views-ending.ensures.told in
    watch_concludes (map string_bytes c.args.words.now) c.watch-ending.result c.put_views-ending.result c.watch-ending.new.kept c.put_views-ending.new.kept c.conclude.new.kept c.watch-ending.new.lines.items c.conclude.result _ _ _
    c.watch-ending.ensures.ends c.watch-ending.ensures.some told c.put_views-ending.ensures.same c.put_views-ending.ensures.none c.watch-ending.ensures.read c.watch-ending.ensures.write
    c.conclude.ensures
