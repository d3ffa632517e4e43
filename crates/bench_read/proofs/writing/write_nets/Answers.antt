use Rattle.std.proofs.Common.{◌≡◌, ℕ, ◌+◌, ◌<◌, List, [], length, take, drop, get_or, refl, sym, ap, ◌∙◌, arith, take_all}
use Rattle.surf_outside.proofs.LawLemmas.{wrote_by, wrote_nothing, wrote_as, wrote_more, puts_done, puts_as, fails_behind}
use Rattle.circuit_text.specs.declared.kinds.Net.TheVariants as net
use Rattle.bench_read.specs.Chains.{net_line, net_lines, ended_lines}
use Rattle.bench_read.proofs.LineTexts.{lines-more, lines-within, net-lines-count, net-line-at}
use Rattle.bench_read.proofs.writing.write_nets.Goals as goal

pub loop-net-init : goal.loop-net-init
loop-net-init g c = record { wrote = wrote_nothing _ _; number = refl }

pub returns-in_err-write_net : goal.returns-in_err-write_net
returns-in_err-write_net g c =
    let nets = c.args.nets.now in
    let lines = net_lines 0 nets in
    let i = c.loop-net.net-index in
    let x = get_or nets i (net.Input 0) in
    let within : i < length lines = omega (arith, c.loop-net-test.true, net-lines-count nets 0) in
    let line : net_line c.loop-net.number x ≡ get_or lines i [] =
    ap (λ n. net_line n x) c.loop-net.invariant.number ∙ sym (net-line-at nets 0 i i (net.Input 0) (omega arith) c.loop-net-test.true)
    in
    puts_as (ended_lines lines) (lines-within lines i (net_line c.loop-net.number x) within line)
    (fails_behind _ (ended_lines (drop (i + 1) lines)) c.from_residual.result c.from_residual.ensures.1 c.loop-net.invariant.wrote c.in_err-write_net.ensures)

pub loop-net-preserved : goal.loop-net-preserved
loop-net-preserved g c =
    let nets = c.args.nets.now in
    let lines = net_lines 0 nets in
    let i = c.loop-net.net-index in
    let x = get_or nets i (net.Input 0) in
    let within : i < length lines = omega (arith, c.loop-net-test.true, net-lines-count nets 0) in
    let line : net_line c.loop-net.number x ≡ get_or lines i [] =
    ap (λ n. net_line n x) c.loop-net.invariant.number ∙ sym (net-line-at nets 0 i i (net.Input 0) (omega arith) c.loop-net-test.true)
    in
    record {
      wrote = wrote_as (ended_lines (take (i + 1) lines)) (lines-more lines i (net_line c.loop-net.number x) within line)
          (wrote_more c.loop-net.invariant.wrote (wrote_by c.in_ok-write_net.ensures));
      number = omega (arith, c.loop-net.invariant.number);
    }

pub returns : goal.returns
returns g c =
    let nets = c.args.nets.now in
    let lines = net_lines 0 nets in
    let i = c.loop-net.net-index in
    puts_done (wrote_as (ended_lines lines) (ap ended_lines (take_all i lines (omega (arith, c.loop-net-test.false, net-lines-count nets 0)))) c.loop-net.invariant.wrote)
