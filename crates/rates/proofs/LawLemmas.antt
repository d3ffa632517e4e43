-- The lemmas that other crates cite: each is a clause of a law.
pub use Rattle.rates.proofs.Waiting.{wait-at_least}
pub use Rattle.rates.proofs.Divisors.{gcd_of-is, power_positive, divided}
