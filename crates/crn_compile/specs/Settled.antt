-- What holds of every list of species that the firings of a compiled circuit reach.
use Rattle.std.specs.Prelude.{◌≡◌, ℕ, ◌+◌, ◌^◌, ◌<◌, ◌≤◌, List, length, Some, Bool, get_or}
use Rattle.std.specs.List.{sum_by}
use Rattle.surf_kinds.specs.declared.site.SpeciesId.{SpeciesId}
use Rattle.lattice.specs.Surface.{after_all, first_surface}
use Rattle.plan.specs.Network.{Network}
use Rattle.plan.specs.History.{history}
use Rattle.reach.specs.Reach.{Firing, species_in, Fires, Reaches, IsReached, IsAtRest}
use Rattle.circuit_text.specs.Values.{bit}
use Rattle.circuit_text.specs.Circuits.{NetList}
use Rattle.gate_layout.specs.Table.{Table, Spot, IsSpot, role_at}
use Rattle.crn_compile.specs.Cells.{Wire, work_of, IsRight}
use Rattle.crn_compile.specs.Species.{cell_of, circuit_rules}
use Rattle.crn_compile.specs.Start.{shape_of, species_at}

-- how many halves are blank
abbrev pub work : List SpeciesId → ℕ
work S = sum_by (λ s. work_of (cell_of s)) S

-- each output cell carries the value of its net
abbrev pub OutputsAre : NetList → List Bool → Table → List SpeciesId → Type 0
OutputsAre c values t U = (i : ℕ) → i < length c.outputs → cell_of (species_at t U (t.output_cell i)) ≡ Wire (Some (bit values (get_or c.outputs i 0)))

-- whatever fires from the species S on, with these values of the nets: each cell is right, each firing lowers the work by
-- one, and where nothing can fire no work is left and the outputs have their values; so each order to the end has as many
-- firings as there is work
pub record Settles (c : NetList) (values : List Bool) (t : Table) (S : List SpeciesId) : Type 0 where
  pub right : (U : List SpeciesId) → IsReached (shape_of t) circuit_rules S U → (s : Spot) → IsSpot t s → IsRight c.nets values (role_at t s) (cell_of (species_at t U s))
  pub falls : (U V : List SpeciesId) (f : Firing) → IsReached (shape_of t) circuit_rules S U → Fires (shape_of t) circuit_rules f U V → work V + 1 ≡ work U
  pub rest : (U : List SpeciesId) → IsReached (shape_of t) circuit_rules S U → IsAtRest (shape_of t) circuit_rules U → work U ≡ 0
  pub done : (U : List SpeciesId) → IsReached (shape_of t) circuit_rules S U → work U ≡ 0 → OutputsAre c values t U
  pub count : (fs : List Firing) (U : List SpeciesId) → Reaches (shape_of t) circuit_rules S fs U → IsAtRest (shape_of t) circuit_rules U → length fs ≡ work S

-- the rules on the table's lattice, with a seed of the draws
abbrev pub network_of : Table → ℕ → Network
network_of t seed = record { lattice = shape_of t; rules = circuit_rules; seed = seed }

-- the species after the whole history of a seed, up to a tick
abbrev pub end_of : Table → List SpeciesId → ℕ → ℕ → List SpeciesId
end_of t S seed until = species_in (after_all (shape_of t) circuit_rules (first_surface S) (history (network_of t seed) until (first_surface S)))

-- the history has exactly as many events as there is work, leaves none, and ends with the outputs' values
pub record RunsOut (c : NetList) (values : List Bool) (t : Table) (S : List SpeciesId) (seed until : ℕ) : Type 0 where
  pub count : length (history (network_of t seed) until (first_surface S)) ≡ work S
  pub few : work S ≤ 2 ^ 21
  pub none_left : work (end_of t S seed until) ≡ 0
  pub done : OutputsAre c values t (end_of t S seed until)
