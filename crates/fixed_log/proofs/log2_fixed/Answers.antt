use Rattle.std.proofs.Common.{◌≡◌, ◌≤◌, ◌^◌, ℕ, ◌+◌, ◌*◌, ◌/◌, ◌%◌, arith, refl, ap, ◌∙◌}
use Rattle.std.proofs.Math.Nat.{mod-eq_of_lt}
use Rattle.fixed_log.specs.Log.{fixed_log_of, bits_after, first_x, whole_log}
use Rattle.fixed_log.proofs.Squarings.{begins}
use Rattle.fixed_log.proofs.Bounds.{fixed_log-law_power, fixed_log-le}
use Rattle.fixed_log.proofs.log2_fixed.Goals as goal

start : (m n : ℕ) → m ≤ 2 ^ 64 → n ≡ whole_log m → m * 2 ^ 63 % 2 ^ 128 / 2 ^ n ≡ first_x m
start m n h e =
    let fits : m * 2 ^ 63 % 2 ^ 128 ≡ m * 2 ^ 63 = mod-eq_of_lt (omega arith) in
    rw (fits, e) refl

value_is : (m n bits : ℕ) → m ≤ 2 ^ 64 → n ≤ 64 → n ≡ whole_log m → bits ≡ bits_after (m * 2 ^ 63 % 2 ^ 128 / 2 ^ n) 32
    → n * 2 ^ 32 % 2 ^ 64 + bits ≡ fixed_log_of m
unfolding fixed_log_of
value_is m n bits most within n_is bits_are =
    let bits_is : bits ≡ bits_after (first_x m) 32 = bits_are ∙ ap (λ x. bits_after x 32) (start m n most n_is) in
    omega (arith, bits_is, n_is)

pub returns : goal.returns
returns c =
    let b = begins c.args.m c.ilog2-whole.result c.requires.positive c.requires.in_range c.ilog2-whole.ensures.power_le c.ilog2-whole.ensures.next_power_gt in
    let value = value_is c.args.m c.ilog2-whole.result c.fraction.result c.requires.in_range b.whole_at_most b.whole_is c.fraction.ensures.value in
    let law = fixed_log-law_power c.args.m c.requires.positive c.requires.in_range in
    rw (c.from.ensures, value) (record {
      value = refl;
      lower = law.0;
      upper = law.1;
      at_most = fixed_log-le c.args.m c.requires.positive c.requires.in_range;
    })
