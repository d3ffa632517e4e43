use Rattle.std.proofs.Common.{◌+◌, ◌≤◌, List, ℕ, length, drop, sym, subst, arith}
use Rattle.std.specs.Prelude.{decimal}
use Rattle.std.proofs.lemmas.List.{length-drop, length-append}
use Rattle.std.proofs.lemmas.Fmt.{length-decimal-le}
use Rattle.trace_text.proofs.line.Line.number.Goals as goal

pub write_digits-self-inside-requires : goal.write_digits-self-inside-requires
write_digits-self-inside-requires c =
    let n = length-decimal-le 20 c.args.number (omega arith) (omega arith) (omega arith) in
    let room : 20 + length (drop c.self.inside.start c.self.inside.bytes) ≤ 128 = subst (λ (v : List ℕ). 20 + length v ≤ 128) (sym c.self.view_is) c.requires in
    (omega (arith, length-drop c.self.inside.start c.self.inside.bytes), omega arith)

pub returns-clause-long : goal.returns-clause-long
returns-clause-long c =
    let n = length-decimal-le 20 c.args.number (omega arith) (omega arith) (omega arith) in
    rw (c.write_digits-self-inside.ensures.written, ← c.self.view_is)
    (omega (arith, length-append (decimal c.args.number) (drop c.self.inside.start c.self.inside.bytes)))
