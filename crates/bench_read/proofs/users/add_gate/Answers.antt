use Rattle.std.proofs.Common.{◌≡◌, ◌<◌, ℕ, [], length, get_or, ◌∙◌, arith}
use Rattle.std.specs.List.{All, Contains}
use borrow.Author.Count.{below_more}
use Rattle.bench_read.specs.Readings.{lists_of}
use Rattle.bench_read.proofs.Steps.{contains-at}
use Rattle.bench_read.proofs.users.add_gate.Goals as goal

pub loop-operand-preserved : goal.loop-operand-preserved
loop-operand-preserved c =
    let P : ℕ → Type 0 = λ k. Contains (get_or (lists_of c.add_user.new.users.items) (get_or c.args.operands.now k 0) []) c.args.item in
    record {
      count = c.in_ok-add_user.ensures.count ∙ c.loop-operand.invariant.count;
      added = below_more P c.loop-operand.operand-index (λ k lt. c.in_ok-add_user.ensures.kept (get_or c.args.operands.now k 0) c.args.item (c.loop-operand.invariant.added k lt)) c.in_ok-add_user.ensures.added;
      kept = λ y d m. c.in_ok-add_user.ensures.kept y d (c.loop-operand.invariant.kept y d m);
      only = λ bound small all. c.in_ok-add_user.ensures.only bound small (c.loop-operand.invariant.only bound small all);
    }

pub returns-clause-added : goal.returns-clause-added
returns-clause-added c = λ y m.
    contains-at (λ d. Contains (get_or (lists_of c.loop-operand.users.items) d []) c.args.item) c.args.operands.now (λ k lt. c.loop-operand.invariant.added k (omega (arith, lt))) y m
