-- The columns that a surface is kept in.
use Rattle.std.specs.Prelude.{◌≡◌, ℕ, ◌*◌, ◌^◌, ◌<◌, ◌≤◌, ◌==◌, List, [], ◌∷◌, length, All, count_by, cond, slice_index_or}
use Rattle.surf_kinds.specs.declared.site.SiteState.{SiteState}
use Rattle.surf_kinds.specs.declared.site.SpeciesId.{SpeciesId}
use Rattle.lattice.specs.Shape.{Shape}
use Rattle.surface_state.specs.declared.before.Mark.{Mark}

abbrev pub state_of : SpeciesId → Mark → SiteState
state_of species mark = record { species = species; version = mark.version; last = mark.last }

-- the states, site by site
abbrev pub states : List SpeciesId → List Mark → List SiteState
states [] marks = []
states (s ∷ species) [] = []
states (s ∷ species) (m ∷ marks) = state_of s m ∷ states species marks

-- one at the species' own number, and none at the others
abbrev pub one_at : SpeciesId → ℕ → ℕ
one_at species k = cond (species.0 == k) 1 0

-- each count is the number of sites with that species
abbrev pub AreCounts : List ℕ → List SpeciesId → Type 0
AreCounts counts species = (k d : ℕ) → k < length counts → slice_index_or counts k d ≡ count_by (λ s. s.0 == k) species

-- there is a species and a mark for each site, and the counts are right
pub record AreColumns (l : Shape) (species : List SpeciesId) (marks : List Mark) (counts : List ℕ) : Type 0 where
  pub species_long : length species ≡ l.rows * l.cols
  pub marks_long : length marks ≡ l.rows * l.cols
  pub few_sites : l.rows * l.cols ≤ 2 ^ 20
  pub few_species : length counts ≤ 4096
  pub below : All (λ s. s.0 < length counts) species
  pub counted : AreCounts counts species
