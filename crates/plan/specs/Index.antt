-- What an index of channels finds for reactants: what stands at the sites of a place.
use Rattle.std.specs.Prelude.{ℕ, ◌≡◌, ◌<◌, ◌≤◌, All, List, [], ◌∷◌, length, Option, Some, None, Bool, ◌==◌, ◌&&◌, if◌then◌else◌, slice_get, slice_index, true, false}
use Rattle.surf_kinds.specs.declared.site.SpeciesId.{SpeciesId}
use Rattle.plan.specs.declared.index.Reactants.{Reactants}
use Rattle.plan.specs.declared.index.Channel.{Channel}
use Rattle.plan.specs.declared.index.Row.{Row}
use Rattle.plan.specs.declared.index.Index.{Index}
use Rattle.std.specs.Global.{Vec}

abbrev pub same_species : Option SpeciesId → Option SpeciesId → Bool
same_species None None = true
same_species None (Some t) = false
same_species (Some s) None = false
same_species (Some s) (Some t) = s.0 == t.0

-- the same species stand there
abbrev pub same : Reactants → Reactants → Bool
same r k = r.first.0 == k.first.0 && same_species r.second k.second

-- what the lists have for this species
abbrev pub listed : List ℕ → List (Vec Channel) → ℕ → List Channel
listed [] lists s = []
listed (k ∷ ks) [] s = []
listed (k ∷ ks) (list ∷ lists) s = if k == s then list.items else listed ks lists s

-- each number is below those after it
abbrev pub Rises : List ℕ → Type 0
Rises ks = (i j : ℕ) → i < j → j < length ks → slice_index ks i < slice_index ks j

-- a row has a list for each second species, and these rise
pub record IsRow (r : Row) : Type 0 where
  pub paired : length r.pairs.items ≡ length r.seconds.items
  pub rising : Rises r.seconds.items

-- the number belongs at k, between those that are below it and those that are above it
pub record IsPlaceFor (ks : List ℕ) (k s : ℕ) : Type 0 where
  pub within : k ≤ length ks
  pub below : (j : ℕ) → j < k → slice_index ks j < s
  pub above : (j : ℕ) → k ≤ j → j < length ks → s < slice_index ks j

-- what a row has for a second species
abbrev pub found_in_row : Row → Option SpeciesId → List Channel
found_in_row r None = r.alone.items
found_in_row r (Some s) = listed r.seconds.items r.pairs.items s.0

abbrev pub found_at : Option Row → Option SpeciesId → List Channel
found_at None s = []
found_at (Some r) s = found_in_row r s

-- what an index has for these reactants
abbrev pub found_in : Index → Reactants → List Channel
found_in i r = found_at (slice_get i.rows.items r.first.0) r.second

abbrev pub AreRows : Index → Type 0
AreRows i = All IsRow i.rows.items
