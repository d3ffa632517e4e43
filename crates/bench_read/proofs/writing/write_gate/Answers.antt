use Rattle.std.proofs.Common.{◌≡◌, ◌∷◌, [], ◌++◌, sym, ap, ◌∙◌, decimal}
use Rattle.surf_outside.proofs.LawLemmas.{puts_as}
use Rattle.circuit_text.specs.declared.kinds.Net.TheVariants as net
use Rattle.bench_read.specs.Chains.{net_line}
use Rattle.bench_read.proofs.LineTexts.{one-line, two-line}
use Rattle.bench_read.proofs.writing.write_gate.Goals as goal

pub returns-in-None : goal.returns-in-None
returns-in-None g c =
    puts_as (net_line c.args.number (net.Gate c.args.op c.args.a c.args.b) ++ 10 ∷ [])
    (one-line c.args.number c.args.a c.args.op c.bytes.result.now c.as_bytes-word.result.now c.bytes-in-None.result.now
    (c.bytes.ensures ∙ c.of-name.ensures ∙ ap decimal c.from.ensures)
    (c.as_bytes-word.ensures.value ∙ c.op_word.ensures)
    (c.bytes-in-None.ensures ∙ c.of-first.ensures ∙ ap decimal c.from-2.ensures)
    ∙ ap (λ b. net_line c.args.number (net.Gate c.args.op c.args.a b) ++ 10 ∷ []) (sym c.in-None.is))
    c.put_pieces.ensures

pub returns-in-Some : goal.returns-in-Some
returns-in-Some g c =
    puts_as (net_line c.args.number (net.Gate c.args.op c.args.a c.args.b) ++ 10 ∷ [])
    (two-line c.args.number c.args.a c.in-Some.b c.args.op c.bytes-in-Some.result.now c.as_bytes-word.result.now c.bytes-in-Some-2.result.now c.bytes-in-Some-3.result.now
    (c.bytes-in-Some.ensures ∙ c.of-name.ensures ∙ ap decimal c.from.ensures)
    (c.as_bytes-word.ensures.value ∙ c.op_word.ensures)
    (c.bytes-in-Some-2.ensures ∙ c.of-first.ensures ∙ ap decimal c.from-2.ensures)
    (c.bytes-in-Some-3.ensures ∙ c.of-second.ensures ∙ ap decimal c.from-in-Some.ensures)
    ∙ ap (λ b. net_line c.args.number (net.Gate c.args.op c.args.a b) ++ 10 ∷ []) (sym c.in-Some.is))
    c.put_pieces-in-Some.ensures
