-- Numbers that are equal or not.
use Rattle.std.proofs.Common.{◌≡◌, ℕ, zero, suc, ◌<◌, Bool, true, false, refl, arith}
use Rattle.std.proofs.lemmas.Bool.{eqb-true, eqb-false}
use lib.Dec.{eqb}

pub ne-less : (a b : ℕ) → a < b → a ≡ b → ⊥
ne-less a b l e = absurd (omega arith)

pub not_zero : (a : ℕ) → (a ≡ 0 → ⊥) → 0 < a
not_zero zero h = absurd (h refl)
not_zero (suc a) h = omega arith

-- a step by whether two numbers are equal
pub same_or : {P : Type 0} (a b : ℕ) → (a ≡ b → P) → ((a ≡ b → ⊥) → P) → P
same_or {P} a b y n = go (eqb a b) refl
  where
    go : (v : Bool) → eqb a b ≡ v → P
    go true e = y (eqb-true _ _ e)
    go false e = n (eqb-false _ _ e)
