use Rattle.std.proofs.Common.{◌++◌, sym, ap, ◌∙◌, arith, append-nil}
use Rattle.region_run.specs.Starts.{own_entries_below}
use Rattle.region_run.proofs.Spares.{own_marked, drop_end}
use Rattle.region_run.proofs.region.Region.own_below.Goals as goal

pub returns-clause-ok : goal.returns-clause-ok
returns-clause-ok c n b until x g =
    let es = c.entries-entries.result.now in
    sym (append-nil c.loop-i.out.items)
    ∙ (sym (ap (λ l. c.loop-i.out.items ++ own_entries_below c.args.key l) (drop_end es c.loop-i.i (omega arith)))
    ∙ (c.loop-i.invariant.items
    ∙ ap (λ l. c.args.out.now.items ++ l) (ap (own_entries_below c.args.key) c.entries-entries.ensures.entries ∙ own_marked b c.args.self.now.id c.args.key c.args.self.now.board.timeline.entries g.marked)))
