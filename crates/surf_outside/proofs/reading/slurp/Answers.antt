use Rattle.std.proofs.Common.{◌++◌, take, length-append, arith}
use Rattle.std.proofs.lemmas.List.{length-take}
use Rattle.surf_outside.proofs.Gains.{consumes_more}
use Rattle.surf_outside.proofs.reading.slurp.Goals as goal

pub returns-then-n-most-clause-some : goal.returns-then-n-most-clause-some
returns-then-n-most-clause-some g c = (_, consumes_more _ _ _ _ _ c.loop-n.invariant.taken c.in-Ok.ensures.bytes.0)

pub returns-then-n-most-clause-took : goal.returns-then-n-most-clause-took
returns-then-n-most-clause-took g c = (
  c.loop-n.all.items ++ take c.in-Ok.n c.read.new.buf,
  consumes_more _ _ _ _ _ c.loop-n.invariant.taken c.in-Ok.ensures.bytes.0,
  λ _. omega (arith, length-append c.loop-n.all.items (take c.in-Ok.n c.read.new.buf), length-take c.in-Ok.n c.read.new.buf, c.in-Ok.ensures.bound, c.if-n-most.true),
)

pub returns-then-is_err-clause-some : goal.returns-then-is_err-clause-some
returns-then-is_err-clause-some g c = (_, consumes_more _ _ _ _ _ c.loop-n.invariant.taken c.in-Ok.ensures.bytes.0)

pub returns-then-is_err-clause-took : goal.returns-then-is_err-clause-took
returns-then-is_err-clause-took g c = (_, consumes_more _ _ _ _ _ c.loop-n.invariant.taken c.in-Ok.ensures.bytes.0, λ e. cc)
