-- The bytes of a decimal.
use Rattle.std.proofs.Common.{◌≡◌, ℕ, ◌<◌, ◌^◌, Bool, true, List, arith, decimal}
use Rattle.std.proofs.lemmas.Bool.Decides.{nat_tests}
use Rattle.surf_text.specs.Numbers.{is_digit, all_digits}
use Rattle.surf_text.specs.Passing.{Each, lacks, inked}
use Rattle.surf_text.proofs.LawLemmas.{each-weaker, decimal-digits}
use Rattle.circuit_text.specs.Names.{is_name_byte}

each-digit : (text : List ℕ) → all_digits text ≡ true → Each is_digit text
each-digit text h = h

digit-plain : (c : ℕ) → is_digit c ≡ true → (inked c ≡ true) × (is_name_byte c ≡ true) × (lacks 10 c ≡ true) × (lacks 35 c ≡ true) × (lacks 61 c ≡ true)
digit-plain c h = (grind (arith, nat_tests), grind (arith, nat_tests), grind (arith, nat_tests), grind (arith, nat_tests), grind (arith, nat_tests))

-- the bytes of a decimal
pub decimal-bytes : (test : ℕ → Bool) → ((c : ℕ) → is_digit c ≡ true → test c ≡ true) → (n : ℕ) → n < 2 ^ 64 → Each test (decimal n)
decimal-bytes test f n lt = each-weaker is_digit test f (decimal n) (each-digit (decimal n) (decimal-digits n lt))

pub decimal-inked : (n : ℕ) → n < 2 ^ 64 → Each inked (decimal n)
decimal-inked n lt = decimal-bytes inked (λ c h. (digit-plain c h).0) n lt

pub decimal-name : (n : ℕ) → n < 2 ^ 64 → Each is_name_byte (decimal n)
decimal-name n lt = decimal-bytes is_name_byte (λ c h. (digit-plain c h).1) n lt

pub decimal-unended : (n : ℕ) → n < 2 ^ 64 → Each (lacks 10) (decimal n)
decimal-unended n lt = decimal-bytes (lacks 10) (λ c h. (digit-plain c h).2) n lt

pub decimal-uncommented : (n : ℕ) → n < 2 ^ 64 → Each (lacks 35) (decimal n)
decimal-uncommented n lt = decimal-bytes (lacks 35) (λ c h. (digit-plain c h).3) n lt

pub decimal-uncut : (n : ℕ) → n < 2 ^ 64 → Each (lacks 61) (decimal n)
decimal-uncut n lt = decimal-bytes (lacks 61) (λ c h. (digit-plain c h).4) n lt
