use Rattle.std.proofs.Common.{◌≡◌, ℕ, ◌+◌, ◌<◌, List, [], length, map, take, drop, get_or, sym, ap, ◌∙◌, arith, take_all}
use Rattle.std.proofs.lemmas.List.{length-map, get_or-map}
use Rattle.surf_outside.proofs.LawLemmas.{wrote_by, wrote_nothing, wrote_as, wrote_more, puts_done, puts_as, fails_behind}
use Rattle.bench_read.specs.Chains.{output_line, ended_lines}
use Rattle.bench_read.proofs.LineTexts.{lines-more, lines-within}
use Rattle.bench_read.proofs.writing.write_outputs.Goals as goal

pub loop-output-init : goal.loop-output-init
loop-output-init g c = wrote_nothing _ _

pub returns-in_err-write_output : goal.returns-in_err-write_output
returns-in_err-write_output g c =
    let outputs = c.args.outputs.now in
    let lines = map output_line outputs in
    let i = c.loop-output.output-index in
    let within : i < length lines = omega (arith, c.loop-output-test.true, length-map outputs output_line) in
    let line : output_line (get_or outputs i 0) ≡ get_or lines i [] = sym (get_or-map output_line outputs i 0 [] c.loop-output-test.true) in
    puts_as (ended_lines lines) (lines-within lines i (output_line (get_or outputs i 0)) within line)
    (fails_behind _ (ended_lines (drop (i + 1) lines)) c.from_residual.result c.from_residual.ensures.1 c.loop-output.invariant c.in_err-write_output.ensures)

pub loop-output-preserved : goal.loop-output-preserved
loop-output-preserved g c =
    let outputs = c.args.outputs.now in
    let lines = map output_line outputs in
    let i = c.loop-output.output-index in
    let within : i < length lines = omega (arith, c.loop-output-test.true, length-map outputs output_line) in
    let line : output_line (get_or outputs i 0) ≡ get_or lines i [] = sym (get_or-map output_line outputs i 0 [] c.loop-output-test.true) in
    wrote_as (ended_lines (take (i + 1) lines)) (lines-more lines i (output_line (get_or outputs i 0)) within line)
    (wrote_more c.loop-output.invariant (wrote_by c.in_ok-write_output.ensures))

pub returns : goal.returns
returns g c =
    let outputs = c.args.outputs.now in
    let lines = map output_line outputs in
    let i = c.loop-output.output-index in
    puts_done (wrote_as (ended_lines lines) (ap ended_lines (take_all i lines (omega (arith, c.loop-output-test.false, length-map outputs output_line)))) c.loop-output.invariant)
