use Rattle.std.proofs.Common.{arith}
use Rattle.region_run.proofs.Delivering.{gives}
use Rattle.region_run.proofs.side.Ends.give.Goals as goal

pub returns-then-beside-gt0 : goal.returns-then-beside-gt0
returns-then-beside-gt0 c =
    gives c.args.self.now c.args.to.now c.beside.new.out c.beside.new.inn c.requires c.beside.ensures.out c.beside.ensures.inn c.beside.ensures.all c.take.result c.take.new.self (omega (arith, c.beside.ensures.waiting, c.if-beside-gt0.true))
    c.take.ensures.first c.take.ensures.some
