-- Fractions in lowest terms.
use Rattle.std.proofs.Common.{ℕ, ◌≤◌, lit≤}
use Rattle.std.proofs.Math.Nat.{one-dvd}
use Rattle.std.proofs.lemmas.Nat.Gcd.{dvd_refl}
use Rattle.surf_kinds.specs.Rates.{IsReduced}

-- a whole number is in lowest terms over 1
pub whole_reduced : (p : ℕ) → p ≤ 1000000000 → IsReduced (record { p = p; q = 1 })
whole_reduced p h =
    record { p_at_most = h; q_at_least = lit≤ tt; q_at_most = lit≤ tt; lowest = (one-dvd p, one-dvd 1, λ d a b. b) }

-- 1 over a number is in lowest terms
pub one_over_reduced : (q : ℕ) → 1 ≤ q → q ≤ 1000000000 → IsReduced (record { p = 1; q = q })
one_over_reduced q h k =
    record { p_at_most = lit≤ tt; q_at_least = h; q_at_most = k; lowest = (dvd_refl 1, one-dvd q, λ d a b. a) }
