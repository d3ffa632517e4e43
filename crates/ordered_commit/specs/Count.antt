-- How many events were admitted.
use Rattle.std.specs.Prelude.{ℕ}

-- how many events are admitted at most, and how many were
pub record Count : Type 0 where
  pub limit : ℕ
  pub admitted : ℕ
