use Rattle.std.proofs.Common.{ℕ, ◌≡◌, ◌+◌, ◌*◌, ◌/◌, ◌^◌, ap, ◌∙◌, arith}
use Rattle.std.proofs.Math.Nat.{div-div-eq-div-mul}
use Rattle.rates.specs.Waits.{wait_of}
use Rattle.rates.proofs.waits.wait.Goals as goal

-- to divide by 2 ^ 32 and then by p is to divide by both at once
in_two_steps : (e q p : ℕ) → e * (q * 1000000) / 2 ^ 32 / p ≡ e * q * 10 ^ 6 / (p * 2 ^ 32)
in_two_steps e q p =
    let above : e * (q * 1000000) ≡ e * q * 10 ^ 6 = omega arith in
    let below : 2 ^ 32 * p ≡ p * 2 ^ 32 = omega arith in
    div-div-eq-div-mul (e * (q * 1000000)) (2 ^ 32) p ∙ ap (λ i. i / (2 ^ 32 * p)) above ∙ ap (λ i. e * q * 10 ^ 6 / i) below

pub returns-clause-value : goal.returns-clause-value
unfolding wait_of
returns-clause-value c =
    rw (← c.rate.view_is, c.from.ensures, c.energy.ensures.value, c.from-3.ensures, c.from-2.ensures, c.from-4.ensures) (ap (λ i. 1 + i) (in_two_steps _ _ _))
