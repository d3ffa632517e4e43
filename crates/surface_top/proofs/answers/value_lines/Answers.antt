use Rattle.surface_top.specs.ValueText.{value_line}
use Rattle.surface_top.proofs.Values.{lines_more}
use Rattle.surface_top.proofs.answers.value_lines.Goals as goal

pub loop-i-preserved : goal.loop-i-preserved
loop-i-preserved c =
    lines_more (value_line c.args.circuit.now c.args.values.now) c.args.circuit.now.outputs c.loop-i.i c.output.result c.loop-i.text.items _ _ c.output.ensures.output c.in_ok-put_value.ensures c.loop-i.invariant
