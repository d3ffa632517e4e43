use Rattle.std.proofs.Common.{length, ap, ◌∙◌, arith}
use Rattle.region_run.specs.Starts.{received_entries_below}
use Rattle.region_run.proofs.Spares.{received_marked, drop_end}
use Rattle.region_run.proofs.region.Region.received_below.Goals as goal

pub returns : goal.returns
returns c b m =
    let es = c.entries-entries.result.now in
    let none = ap (λ l. length (received_entries_below c.args.key l)) (drop_end es c.loop-i.i (omega arith)) in
    let all = ap (λ l. length (received_entries_below c.args.key l)) c.entries-entries.ensures.entries ∙ ap length (received_marked b c.args.self.now.id c.args.key c.args.self.now.board.timeline.entries m) in
    omega (arith, none, all, c.loop-i.invariant.count)
