use Rattle.std.proofs.Common.{Some, None, ap, ◌∙◌, arith, get_or, if◌then◌else◌}
use Rattle.track_layout.proofs.Filled.{same_cells}
use Rattle.track_layout.proofs.cells.lay.Goals as goal

pub returns-clause-each : goal.returns-clause-each
returns-clause-each c i =
    let tests = same_cells c.args.from c.args.to c.loop-cell.cell i (omega (arith, c.loop-cell-test.false)) c.loop-cell.auto.cell-end c.loop-cell.invariant.still in
    c.loop-cell.invariant.each i ∙ ap (λ b. if b then Some c.args.net else get_or c.args.cells.now.items i None) tests
