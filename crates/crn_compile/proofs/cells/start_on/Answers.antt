use Rattle.std.proofs.Common.{◌+◌, ◌∙◌, arith, sym, ap, refl, subst, Some}
use Rattle.std.specs.List.{range_with_len}
use Rattle.circuit_text.specs.Values.{bit}
use Rattle.gate_layout.specs.Nets.{AreNumbered}
use Rattle.crn_compile.specs.Cells.{Wire}
use Rattle.crn_compile.specs.Species.{id_of}
use Rattle.crn_compile.proofs.Blanks.{IsMarked, none_marked, input_within, mark_input}
use Rattle.crn_compile.proofs.cells.start_on.Goals as goal

pub loop-i-init : goal.loop-i-init
loop-i-init g c = none_marked c.args.circuit.now.nets c.args.inputs.now (g.L.Roles.table c.args.table.now) c.in_ok-cells.cells.items c.in_ok-cells.ensures.size c.in_ok-cells.ensures.cells

pub mark-requires-clause-within : goal.mark-requires-clause-within
mark-requires-clause-within g c =
    let numbered : AreNumbered c.args.circuit.now.nets = c.input_count-count.ensures.numbers ∙ ap (range_with_len 0) c.input_count-count.ensures.count in
    input_within c.args.circuit.now (g.L.Roles.table c.args.table.now) c.loop-i.i numbered c.requires.formed.ends (omega (arith, c.loop-i-test.true, c.input_count-count.ensures.count))

pub loop-i-preserved : goal.loop-i-preserved
loop-i-preserved g c =
    let t = g.L.Roles.table c.args.table.now in
    let numbered : AreNumbered c.args.circuit.now.nets = c.input_count-count.ensures.numbers ∙ ap (range_with_len 0) c.input_count-count.ensures.count in
    let m = mark_input c.args.circuit.now c.args.inputs.now t c.loop-i.cells.items c.loop-i.i (id_of (Wire (Some (bit c.args.inputs.now c.loop-i.i)))) numbered c.requires.formed.ends (omega (arith, c.loop-i-test.true, c.input_count-count.ensures.count)) refl c.loop-i.invariant in
    subst (λ S. IsMarked c.args.circuit.now.nets c.args.inputs.now t S (c.loop-i.i + 1)) (sym c.mark.ensures) m
