use Rattle.std.proofs.Common.{◌≡◌, ◌++◌, map, ap, ◌∙◌}
use Rattle.surf_outside.proofs.LawLemmas.{wrote_by, fails_within, puts_after, puts_as}
use Rattle.bench_read.specs.Chains.{circuit_nets, circuit_outputs, net_lines, output_line, ended_lines, text_of}
use Rattle.bench_read.proofs.LineTexts.{whole-text}
use Rattle.bench_read.proofs.writing.write_circuit.Goals as goal

pub returns-in_err-write_nets : goal.returns-in_err-write_nets
returns-in_err-write_nets g c =
    let n = c.args.bench.now in
    let after = ended_lines (map output_line (circuit_outputs n)) in
    let whole : ended_lines (net_lines 0 c.nets.result.now) ++ after ≡ text_of n =
    ap (λ xs. ended_lines (net_lines 0 xs) ++ after) c.nets.ensures.nets ∙ whole-text (circuit_nets n) (circuit_outputs n)
    in
    let p = puts_as (text_of n) whole (fails_within _ after c.from_residual.result c.from_residual.ensures.1 c.in_err-write_nets.ensures) in
    record { ok = p.ok; err = p.err; cause = p.cause }

pub returns : goal.returns
returns g c =
    let n = c.args.bench.now in
    let whole : ended_lines (net_lines 0 c.nets.result.now) ++ ended_lines (map output_line c.circuit_outputs.result.now) ≡ text_of n =
    ap (λ xs. ended_lines (net_lines 0 xs) ++ ended_lines (map output_line c.circuit_outputs.result.now)) c.nets.ensures.nets
    ∙ ap (λ os. ended_lines (net_lines 0 (circuit_nets n)) ++ ended_lines (map output_line os)) c.circuit_outputs.ensures
    ∙ whole-text (circuit_nets n) (circuit_outputs n)
    in
    let p = puts_as (text_of n) whole (puts_after c.write_outputs.result (wrote_by c.in_ok-write_nets.ensures) c.write_outputs.ensures) in
    record { ok = p.ok; err = p.err; cause = p.cause }
