use Rattle.std.proofs.Common.{◌≡◌, ◌<◌, length, sym, ◌∙◌, subst, arith}
use Rattle.ensemble.specs.Outcomes.{nth_outcome}
use Rattle.ensemble.proofs.Tabling.{IsRight, table_set, one_outcome_more, stands}
use Rattle.ensemble.proofs.table.complete.Goals as goal
use Rattle.ensemble.proofs.table.complete.Goals.{in-Some, in-None+in_ok-outcome-in-None}

pub loop-number-preserved : goal.loop-number-preserved
loop-number-preserved c =
    let m = c.args.m.now in
    let s = c.args.settings in
    let table = c.loop-number.table.items in
    let i = c.loop-number.number in
    let inside : i < length table = omega (arith, c.loop-number-test.true, c.loop-number.invariant.0.long) in
    let right : c.match-take.outcome ≡ nth_outcome m s i = elim c.match-take.branch [
      | in-Some w ↦ w.outcome-is ∙ stands m s table i c.index_mut.result.now c.take.result w.in-Some.outcome c.loop-number.invariant.0 inside c.index_mut.ensures.value c.take.ensures.value w.in-Some.is
      | in-None+in_ok-outcome-in-None w ↦ w.outcome-is ∙ w.in_ok-outcome-in-None.ensures
    ] in (
      table_set m s table i c.take.new.self c.loop-number.invariant.0 (subst (IsRight m s i) (sym c.take.ensures.after) tt),
      one_outcome_more m s c.loop-number.outcomes.items c.push.new.self.items i c.match-take.outcome c.loop-number.invariant.1 right c.in_ok-push.ensures.items,
    )
