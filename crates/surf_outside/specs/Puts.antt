-- What calls that write a text leave, one after the other.
use Rattle.std.specs.Prelude.{ℕ, ◌≤◌, List, Option, Result, OnOk, OnErr}
use Rattle.std.specs.Io.KnownBytes.{Appends}
use Rattle.surf_outside.specs.Causes.{HasCause}
use Rattle.surf_outside.specs.Known.{AppendsPrefix}

-- The sink gained the text or, where the call failed, a prefix of it; and the call failed only where the count of
-- faults rose.
pub record Puts {T E : Type 0} (old new : Option (List ℕ)) (before now : ℕ) (text : List ℕ) (result : Result T E) : Type 0 where
  pub ok : OnOk result (Appends old new text)
  pub err : OnErr result (AppendsPrefix old new text)
  pub cause : HasCause before now result

-- the whole text was written
pub record Wrote (old new : Option (List ℕ)) (before now : ℕ) (text : List ℕ) : Type 0 where
  pub gained : Appends old new text
  pub later : before ≤ now
