-- Every order of firings ends right.
use Rattle.std.proofs.Common.{◌≡◌, ℕ, ◌+◌, ◌≤◌, inl, inr, List, [], ◌∷◌, length, Some, None, Bool, ap, subst, arith, rules, get_or}
use Rattle.std.proofs.lemmas.List.Sums.{get_or-le-sum_by}
use Rattle.surf_kinds.specs.declared.site.SpeciesId.{SpeciesId}
use Rattle.reach.specs.Reach.{Firing, Fires, Reaches, IsAtRest}
use Rattle.circuit_text.specs.declared.kinds.Net.{Net}
use Rattle.circuit_text.specs.Values.{bit, AreValues, AreNets}
use Rattle.circuit_text.specs.Circuits.{NetList}
use Rattle.gate_layout.specs.declared.role.Role.TheVariants as role
use Rattle.gate_layout.specs.Nets.{AreNumbered}
use Rattle.gate_layout.specs.Table.{Table, IsWellFormed}
use Rattle.crn_compile.specs.Cells.{Cell, Wire, work_of, IsRight}
use Rattle.crn_compile.specs.Species.{cell_of, circuit_rules}
use Rattle.crn_compile.specs.Start.{shape_of, site, no_species, species_at, IsStart}
use Rattle.crn_compile.specs.Settled.{work, OutputsAre, Settles}
use Rattle.crn_compile.proofs.Steps.{IsSound, firing_right, firing_work}
use Rattle.crn_compile.proofs.Goes.{AreKnown, site_inside, spot_right, done_or}
use Rattle.crn_compile.proofs.Fires.{can_fire}
use Rattle.crn_compile.proofs.Starts.{start_sound, start_known, firing_known}

-- a right wire that isn't blank has its net's value
wire_done : (nets : List Net) (values : List Bool) (n : ℕ) (x : Cell) → IsRight nets values (role.Wire n) x → work_of x ≡ 0 → x ≡ Wire (Some (bit values n))
wire_done nets values n (Wire (Some d)) right none = ap (λ e. Wire (Some e)) right
wire_done nets values n (Wire None) right none = absurd (omega (arith, none))
wire_done nets values n x right none = first_of (cc, search rules)

-- each cell is right, and input cells have their bits
pub record IsOnWay (nets : List Net) (inputs values : List Bool) (t : Table) (S : List SpeciesId) : Type 0 where
  pub sound : IsSound nets values t S
  pub known : AreKnown inputs t S

-- what the theorems take: a circuit with its values, and a table that is well-formed for it
pub record Compiled (c : NetList) (inputs values : List Bool) (t : Table) : Type 0 where
  pub nets_are : AreNets c.nets
  pub numbered : AreNumbered c.nets
  pub values_are : AreValues c.nets inputs values
  pub formed : IsWellFormed c t

on_way : (c : NetList) (inputs values : List Bool) (t : Table) (S : List SpeciesId) → Compiled c inputs values t → IsStart c.nets inputs t S → IsOnWay c.nets inputs values t S
on_way c inputs values t S k start = record {
  sound = start_sound c inputs values t S k.nets_are k.numbered k.values_are k.formed.agree k.formed.ends start;
  known = start_known c.nets inputs t S start;
}

-- a firing keeps that, and lowers the work by one
keeps : (c : NetList) (inputs values : List Bool) (t : Table) (S U : List SpeciesId) (f : Firing) → Compiled c inputs values t → IsOnWay c.nets inputs values t S → Fires (shape_of t) circuit_rules f S U → IsOnWay c.nets inputs values t U
keeps c inputs values t S U f k p fires = record { sound = firing_right c.nets inputs values t S U f k.values_are k.formed.agree p.sound fires; known = firing_known inputs t S U f p.known fires }

falls : (c : NetList) (inputs values : List Bool) (t : Table) (S U : List SpeciesId) (f : Firing) → IsOnWay c.nets inputs values t S → Fires (shape_of t) circuit_rules f S U → work U + 1 ≡ work S
falls c inputs values t S U f p fires = firing_work t S U f p.sound.size fires

-- at rest there is none
none_at_rest : (c : NetList) (inputs values : List Bool) (t : Table) (S : List SpeciesId) → Compiled c inputs values t → IsOnWay c.nets inputs values t S → IsAtRest (shape_of t) circuit_rules S → work S ≡ 0
none_at_rest c inputs values t S k p rest = elim (done_or c.nets inputs values t S p.sound k.formed.fed p.known) [
  | inl none ↦ none
  | inr can ↦ let f = can_fire t S p.sound.size can in absurd (rest f.0 f.1 f.2)
]

-- with no work left each output cell carries its net's value
outputs_are : (c : NetList) (inputs values : List Bool) (t : Table) (U : List SpeciesId) → Compiled c inputs values t → IsOnWay c.nets inputs values t U → work U ≡ 0 → OutputsAre c values t U
outputs_are c inputs values t U k p none i below =
    let e = k.formed.ends.ends i (omega (arith, below, k.formed.ends.outputs)) in
    let right = spot_right c.nets values t U (t.output_cell i) p.sound e.0 in
    let here : work_of (cell_of (species_at t U (t.output_cell i))) ≤ work U = get_or-le-sum_by (λ s. work_of (cell_of s)) U (site t (t.output_cell i)) no_species (omega (arith, site_inside t (t.output_cell i) e.0, p.sound.size)) in
    wire_done c.nets values (get_or c.outputs i 0) (cell_of (species_at t U (t.output_cell i))) (subst (λ r. IsRight c.nets values r (cell_of (species_at t U (t.output_cell i)))) e.1 right) (omega (arith, here, none))

-- so of every list of firings
reach_keeps : (c : NetList) (inputs values : List Bool) (t : Table) → Compiled c inputs values t → (fs : List Firing) (S U : List SpeciesId) → IsOnWay c.nets inputs values t S → Reaches (shape_of t) circuit_rules S fs U → IsOnWay c.nets inputs values t U
reach_keeps c inputs values t k [] S U p reaches = subst (λ V. IsOnWay c.nets inputs values t V) reaches p
reach_keeps c inputs values t k (f ∷ fs) S U p reaches = reach_keeps c inputs values t k fs reaches.0 U (keeps c inputs values t S reaches.0 f k p reaches.1) reaches.2

reach_work : (c : NetList) (inputs values : List Bool) (t : Table) → Compiled c inputs values t → (fs : List Firing) (S U : List SpeciesId) → IsOnWay c.nets inputs values t S → Reaches (shape_of t) circuit_rules S fs U → work U + length fs ≡ work S
reach_work c inputs values t k [] S U p reaches = let e : work S ≡ work U = ap work reaches in omega (arith, e)
reach_work c inputs values t k (f ∷ fs) S U p reaches =
    let one : work reaches.0 + 1 ≡ work S = falls c inputs values t S reaches.0 f p reaches.1 in
    let rest : work U + length fs ≡ work reaches.0 = reach_work c inputs values t k fs reaches.0 U (keeps c inputs values t S reaches.0 f k p reaches.1) reaches.2 in
    omega (arith, one, rest)

pub settles : (c : NetList) (inputs values : List Bool) (t : Table) (S : List SpeciesId) → Compiled c inputs values t → IsStart c.nets inputs t S → Settles c values t S
settles c inputs values t S k start =
    let first = on_way c inputs values t S k start in
    record {
      right = λ U r s within. spot_right c.nets values t U s (reach_keeps c inputs values t k r.0 S U first r.1).sound within;
      falls = λ U V f r fires. falls c inputs values t U V f (reach_keeps c inputs values t k r.0 S U first r.1) fires;
      rest = λ U r rest. none_at_rest c inputs values t U k (reach_keeps c inputs values t k r.0 S U first r.1) rest;
      done = λ U r none. outputs_are c inputs values t U k (reach_keeps c inputs values t k r.0 S U first r.1) none;
      count = λ fs U reaches rest.
          let none = none_at_rest c inputs values t U k (reach_keeps c inputs values t k fs S U first reaches) rest in
          let all = reach_work c inputs values t k fs S U first reaches in
          omega (arith, none, all);
    }
