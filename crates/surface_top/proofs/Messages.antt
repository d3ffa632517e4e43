-- What the messages and the notes gain.
use Rattle.std.proofs.Common.{◌≡◌, ℕ, List, [], ◌∷◌, ◌++◌, Option, Some, None, refl, sym, ap, append_assoc}
use Rattle.std.specs.Prelude.{Result, Ok, Err, OnOk, OnErr, IfSome}
use Rattle.std.specs.Io.KnownBytes.{Appends}
use Rattle.surf_outside.specs.Known.{AppendsPrefix}
use Rattle.surf_outside.proofs.LawLemmas.{prefix_whole}
use Rattle.surface_top.specs.Outcome.{Gains}

pub ruleset joined = (append_assoc)

-- what a write answers shows what was gained
pub gains_of : {T E : Type 0} (r : Result T E) (F : Type 0) (text : List ℕ) (old new : Option (List ℕ)) → OnOk r (Appends old new text) → OnErr r (AppendsPrefix old new text) → OnErr r F → Gains F text old new
gains_of (Ok v) F text old new all some fault = record { prefix = prefix_whole old new text all; whole = λ _. all }
gains_of (Err e) F text old new all some fault = record { prefix = some; whole = λ no. absurd (no fault) }

pub some_map : {X : Type 0} (o : Option X) (P Q : X → Type 0) → ((x : X) → P x → Q x) → IfSome o P → IfSome o Q
some_map None P Q f h = tt
some_map (Some x) P Q f h = f x h
