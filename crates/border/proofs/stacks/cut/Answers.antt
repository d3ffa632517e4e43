use Rattle.std.proofs.Common.{◌≡◌, true, arith, ◌∙◌, sym, ◌-◌}
use Rattle.surf_kinds.specs.Keys.{is_before}
use Rattle.border.proofs.Cutting.{end_cuts, none_cuts, rise-below}
use Rattle.border.proofs.stacks.cut.Goals as goal
use Rattle.border.proofs.stacks.cut.Goals.{then-loop-keep-test+else-not-is_before, else-loop-keep-test}

pub returns-clause-items : goal.returns-clause-items
returns-clause-items c =
    c.truncate.ensures.items ∙ (elim c.loop-keep-test.branch [
      | then-loop-keep-test+else-not-is_before w ↦
          let less : is_before w.key.result c.args.key ≡ true = sym w.is_before.ensures ∙ w.if-not-is_before.false in
          end_cuts c.args.key c.args.stack.now.items c.loop-keep.keep (c.loop-keep.keep - 1) w.index.result.now (omega arith) (omega arith) w.index.ensures c.requires (rw w.key.ensures at less)
      | else-loop-keep-test w ↦ none_cuts c.args.key _ _ w.loop-keep-test.false
    ] ∙ c.loop-keep.invariant.1)

pub returns-clause-rising : goal.returns-clause-rising
returns-clause-rising c = rw (returns-clause-items c) (rise-below c.args.key c.args.stack.now.items c.requires)
