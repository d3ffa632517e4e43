use Rattle.std.proofs.Common.{◌≡◌, ◌+◌, ◌∷◌, length, sym, ap, ◌∙◌, arith}
use Rattle.std.proofs.lemmas.List.{length-append}
use Rattle.bench_read.specs.Chains.{links, chain, numbers_at}
use Rattle.bench_read.specs.Readings.{gate_of}
use Rattle.bench_read.proofs.Building.{chain-few}
use Rattle.bench_read.proofs.chain.Circuitry.push.Goals as goal

pub overflow_cast-last : goal.overflow_cast-last
overflow_cast-last c =
    let nets = c.args.self.now.nets.items in
    let at = c.args.self.now.at.items in
    let gate = gate_of c.args.gate.now in
    let a = c.in-Some.a.now in
    let more = c.in-Some.more.now in
    let is : numbers_at at gate.operands ≡ a ∷ more =
    sym (c.deref-3.ensures.value ∙ c.in_ok-operands.ensures ∙ ap (λ t. numbers_at t c.deref-2.result.now) c.deref.ensures.value ∙ ap (numbers_at at) c.deref-2.ensures.value)
    ∙ c.in-Some.ensures.cases.0
    in
    let here : chain (length nets) gate.op (numbers_at at gate.operands) ≡ links (length nets) gate.op a more = ap (chain (length nets) gate.op) is in
    let total : c.len.result ≡ length nets + length (links (length nets) gate.op a more) =
    omega (arith, ap length c.in_ok-push_links.ensures, length-append nets (links (length nets) gate.op a more))
    in
    omega (arith, total, ap length here, chain-few (length nets) at gate c.requires.gate.arity, c.requires.few)
