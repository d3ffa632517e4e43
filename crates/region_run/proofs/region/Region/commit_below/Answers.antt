use Rattle.std.proofs.Common.{ap}
use Rattle.region_run.specs.declared.board.Board.{Board}
use Rattle.region_run.proofs.Boarding.{board_forgot}
use Rattle.region_run.proofs.Commits.{committed}
use Rattle.region_run.proofs.region.Region.commit_below.Goals as goal

pub returns-clause-committed : goal.returns-clause-committed
returns-clause-committed c n b until x g low high =
    let r = c.args.self.now in
    let f = c.forget_below.ensures in
    let same = f.same in
    committed n b until x c.args.key r c.forget_below.new.self c.forget_below-2.new.self c.with_forgotten-self.result g low high
    (board_forgot n x.cells x.past x.surface x.floor c.args.key r.board c.forget_below.new.self g.board low f.entries (ap (λ (y : Board). y.surface) same) (ap (λ (y : Board). y.queue) same) (ap (λ (y : Board). y.range) same) (ap (λ (y : Board). y.undoable) same) f.changes)
    f.entries (ap (λ (y : Board). y.range) same) (ap (λ (y : Board). y.undoable) same) c.forget_below-2.ensures

pub returns-clause-received : goal.returns-clause-received
returns-clause-received c n b until x g = c.received_below-received.ensures b g.marked
