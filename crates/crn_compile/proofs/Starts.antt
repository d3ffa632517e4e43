-- The first species are right, and input cells keep their bits.
use Rattle.std.proofs.Common.{◌≡◌, ◌≢◌, ℕ, zero, suc, ◌+◌, ◌/◌, ◌%◌, ◌<◌, ◌⊎◌, inl, inr, List, [], ◌∷◌, length, Option, Some, None, Bool, true, false, refl, sym, ap, ◌∙◌, subst, arith, rules, get_or}
use Rattle.std.specs.Prelude.{slice_get, not, ⊤}
use Rattle.std.proofs.lemmas.Option.{none-some, slice_get-get_or}
use Rattle.std.proofs.lemmas.Bool.{cases_eq}
use Rattle.std.proofs.lemmas.List.FromFn.{get_or-range_with_len}
use Rattle.std.proofs.lemmas.List.{get_or-set_other}
use Rattle.std.proofs.lemmas.Nat.{div-add-mod', div_below, mod_below}
use Rattle.surf_kinds.specs.declared.site.SpeciesId.{SpeciesId}
use Rattle.reach.specs.Reach.{Firing, Fires}
use Rattle.circuit_text.specs.declared.kinds.Net.{Net}
use Rattle.circuit_text.specs.declared.kinds.Net.TheVariants as net
use Rattle.circuit_text.specs.Values.{bit, has_two, AreValues, AreNets, IsNetAt, input_numbers, input_count, gates_from}
use Rattle.circuit_text.specs.Circuits.{NetList}
use Rattle.gate_layout.specs.declared.role.Role.{Role}
use Rattle.gate_layout.specs.declared.role.Role.TheVariants as role
use Rattle.gate_layout.specs.Nets.{net_of, gate_count, AreNumbered}
use Rattle.gate_layout.specs.Table.{Table, Spot, IsSpot, role_at, IsNamed, DoAgree, HasEnds, IsInput}
use Rattle.crn_compile.specs.Cells.{Cell, Wire, Single, Pair, Neither, filled, work_of, IsRight, IsRightGate}
use Rattle.crn_compile.specs.Species.{cell_of, id_of, circuit_rules}
use Rattle.crn_compile.specs.Start.{shape_of, site, no_species, species_at, blank_gate, blank_cell, IsStart}
use Rattle.crn_compile.proofs.Tables.{cell_number}
use Rattle.crn_compile.proofs.Falls.{filled_falls}
use Rattle.crn_compile.proofs.Grid.{has_cols}
use Rattle.crn_compile.proofs.Steps.{IsSound, Step, has_fired}
use Rattle.crn_compile.proofs.Goes.{AreKnown}

-- a known wire is filled by nothing
known_stays : (x z : Cell) (d : Bool) → filled x (Wire (Some d)) ≡ Some z → ⊥
known_stays x z d fills = let e : work_of z + 1 ≡ 0 = filled_falls x (Wire (Some d)) z fills in omega (arith, e)

step_known : (inputs : List Bool) (t : Table) (i j : ℕ) (S U : List SpeciesId) → AreKnown inputs t S → Step i j S U → AreKnown inputs t U
step_known inputs t i j S U known step n lt = elim (cases_eq (site t (t.input_cell n)) j) [
  | inl same ↦
      let e : cell_of (get_or S j no_species) ≡ Wire (Some (bit inputs n)) = ap (λ k. cell_of (get_or S k no_species)) (sym same) ∙ known n lt in
      absurd (known_stays (cell_of (get_or S i no_species)) (cell_of step.made) (bit inputs n) (ap (filled (cell_of (get_or S i no_species))) (sym e) ∙ step.fills))
  | inr other ↦
      let e : get_or U (site t (t.input_cell n)) no_species ≡ get_or S (site t (t.input_cell n)) no_species = ap (λ l. get_or l (site t (t.input_cell n)) no_species) step.is ∙ get_or-set_other S j (site t (t.input_cell n)) step.made no_species other in
      ap cell_of e ∙ known n lt
]

pub firing_known : (inputs : List Bool) (t : Table) (S U : List SpeciesId) (f : Firing) → AreKnown inputs t S → Fires (shape_of t) circuit_rules f S U → AreKnown inputs t U
firing_known inputs t S U f known is =
    let fired = has_fired t.rows t.cols S U f is in
    elim fired.step [
      | inl step ↦ step_known inputs t fired.first fired.second S U known step
      | inr step ↦ step_known inputs t fired.second fired.first S U known step
    ]

-- the net of a gate is a gate

abbrev pub IsGate : Net → Type 0
IsGate (net.Input number) = ⊥
IsGate (net.Gate op a b) = ⊤

gate_from : (n k : ℕ) (nets all : List Net) → ((m : ℕ) (x : Net) → slice_get nets m ≡ Some x → slice_get all (n + m) ≡ Some x) → k < length (gates_from n nets) → (x : Net) × (slice_get all (get_or (gates_from n nets) k 0) ≡ Some x) × IsGate x
gate_from n k [] all tail lt = absurd (omega (arith, lt))
gate_from n k (net.Input number ∷ nets) all tail lt = gate_from (suc n) k nets all (λ m x is. ap (slice_get all) (omega arith) ∙ tail (suc m) x is) lt
gate_from n zero (net.Gate op a b ∷ nets) all tail lt = (net.Gate op a b, ap (slice_get all) (omega arith) ∙ tail 0 (net.Gate op a b) refl, tt)
gate_from n (suc k) (net.Gate op a b ∷ nets) all tail lt = gate_from (suc n) k nets all (λ m x is. ap (slice_get all) (omega arith) ∙ tail (suc m) x is) (omega (arith, lt))

pub gate_of : (nets : List Net) (g : ℕ) → g < gate_count nets → (x : Net) × (slice_get nets (net_of nets g) ≡ Some x) × IsGate x
gate_of nets g lt = gate_from 0 g nets nets (λ m x is. ap (slice_get nets) (omega arith) ∙ is) lt

-- the net of an input

number_from : (i number : ℕ) (nets : List Net) → slice_get (input_numbers nets) i ≡ Some number → (n : ℕ) × (slice_get nets n ≡ Some (net.Input number))
number_from i number [] is = absurd (none-some number is)
number_from zero number (net.Input k ∷ nets) is = (0, ap (λ x. Some (net.Input x)) (let e : k ≡ number = cc in e))
number_from (suc i) number (net.Input k ∷ nets) is = let r = number_from i number nets is in (suc r.0, r.1)
number_from i number (net.Gate op a b ∷ nets) is = let r = number_from i number nets is in (suc r.0, r.1)

pub net_of_input : (nets : List Net) (i : ℕ) → AreNumbered nets → i < input_count nets → (n : ℕ) × (slice_get nets n ≡ Some (net.Input i))
net_of_input nets i are lt =
    let e : get_or (input_numbers nets) i 0 ≡ 0 + i = ap (λ l. get_or l i 0) are ∙ get_or-range_with_len 0 (input_count nets) i 0 lt in
    number_from i i nets (slice_get-get_or (input_numbers nets) i 0 lt ∙ ap (λ k. Some k) (e ∙ omega arith))

-- a blank cell is right

gate_blank : (values : List Bool) (n : ℕ) (o : Option Net) (x : Net) → o ≡ Some x → IsGate x → IsNetAt n x → IsRightGate values n o (cell_of (id_of (blank_gate o)))
gate_blank values n (Some (net.Gate op a None)) (net.Gate p c None) is gate at =
    let e : has_two op ≡ false = let q : op ≡ p = cc in ap has_two q ∙ at.1 in
    subst (λ w. IsRightGate values n (Some (net.Gate op a None)) w) (sym (cell_number (Single op) (ap not e))) refl
gate_blank values n (Some (net.Gate op a (Some b))) (net.Gate p c (Some d)) is gate at =
    let e : has_two op ≡ true = let q : op ≡ p = cc in ap has_two q ∙ at.2 in
    subst (λ w. IsRightGate values n (Some (net.Gate op a (Some b))) w) (sym (cell_number (Pair op Neither) e)) (refl, tt)
gate_blank values n o x is gate at = first_of (cc, search rules)

blank_right : (nets : List Net) (values : List Bool) (r : Role) → AreNets nets → IsNamed nets r → IsRight nets values r (cell_of (id_of (blank_cell nets r)))
blank_right nets values role.Inert are named = tt
blank_right nets values (role.Wire n) are named = tt
blank_right nets values (role.Vert n) are named = tt
blank_right nets values (role.PinA n) are named = tt
blank_right nets values (role.PinB n) are named = tt
blank_right nets values (role.Cross n m) are named = (tt, tt)
blank_right nets values (role.Gate g) are named =
    let x = gate_of nets g named in
    gate_blank values (net_of nets g) (slice_get nets (net_of nets g)) x.0 x.1 x.2 (are (net_of nets g) x.0 x.1)

-- a cell is an input cell, or not

pub spot_eq : (s u : Spot) → s.row ≡ u.row → s.col ≡ u.col → s ≡ u
spot_eq s u e f = ap (λ (n : ℕ). let v : Spot = record { row = n; col = s.col } in v) e ∙ ap (λ (n : ℕ). let v : Spot = record { row = u.row; col = n } in v) f

pub same_spot : (s u : Spot) → (s ≡ u) ⊎ (s ≢ u)
same_spot s u = elim (cases_eq s.row u.row) [
  | inr other ↦ inr (λ same. other (ap (λ v. v.row) same))
  | inl row ↦ elim (cases_eq s.col u.col) [
    | inr other ↦ inr (λ same. other (ap (λ v. v.col) same))
    | inl col ↦ inl (spot_eq s u row col)
  ]
]

abbrev pub IsInputBelow : Table → ℕ → Spot → Type 0
IsInputBelow t n s = (i : ℕ) × (i < n) × (t.input_cell i ≡ s)

input_below : (t : Table) (s : Spot) (n : ℕ) → IsInputBelow t n s ⊎ (IsInputBelow t n s → ⊥)
input_below t s zero = inr (λ i. absurd (omega (arith, i.1)))
input_below t s (suc n) = elim (input_below t s n) [
  | inl i ↦ inl (i.0, omega (arith, i.1), i.2)
  | inr none ↦ elim (same_spot (t.input_cell n) s) [
    | inl same ↦ inl (n, omega arith, same)
    | inr other ↦ inr (λ i. elim (cases_eq i.0 n) [
      | inl e ↦ other (ap t.input_cell (sym e) ∙ i.2)
      | inr e ↦ none (i.0, omega (arith, i.1, e), i.2)
    ])
  ]
]

pub input_or : (t : Table) (s : Spot) → IsInput t s ⊎ (IsInput t s → ⊥)
input_or t s = input_below t s t.inputs

pub start_known : (nets : List Net) (inputs : List Bool) (t : Table) (S : List SpeciesId) → IsStart nets inputs t S → AreKnown inputs t S
start_known nets inputs t S start i lt = ap cell_of (start.known i lt) ∙ cell_number (Wire (Some (bit inputs i))) refl

pub start_sound : (c : NetList) (inputs values : List Bool) (t : Table) (S : List SpeciesId) → AreNets c.nets → AreNumbered c.nets → AreValues c.nets inputs values → DoAgree c.nets t → HasEnds c t
    → IsStart c.nets inputs t S → IsSound c.nets values t S
start_sound c inputs values t S are numbered vals agree ends start = record {
  size = start.size;
  right = λ k inside.
      let h = has_cols k t.rows t.cols inside in
      let s : Spot = record { row = k / t.cols; col = k % t.cols } in
      let within : IsSpot t s = (div_below k t.cols t.rows h inside, mod_below k t.cols h) in
      let e : site t s ≡ k = div-add-mod' k t.cols in
      subst (λ n. IsRight c.nets values (role_at t s) (cell_of (get_or S n no_species))) e
      (elim (input_or t s) [
        | inl i ↦
            let n = net_of_input c.nets i.0 numbered (omega (arith, i.1, ends.inputs)) in
            let w : cell_of (species_at t S s) ≡ Wire (Some (bit inputs i.0)) = ap (λ u. cell_of (species_at t S u)) (sym i.2) ∙ start_known c.nets inputs t S start i.0 i.1 in
            let r : role_at t s ≡ role.Wire n.0 = ap (role_at t) (sym i.2) ∙ (ends.starts n.0 i.0 n.1).1 in
            subst (λ q. IsRight c.nets values q (cell_of (species_at t S s))) (sym r) (subst (λ x. IsRight c.nets values (role.Wire n.0) x) (sym w) (sym (vals.each n.0 (net.Input i.0) n.1)))
        | inr none ↦
            let w = start.rest s within none in
            subst (λ x. IsRight c.nets values (role_at t s) (cell_of x)) (sym w) (blank_right c.nets values (role_at t s) are (agree.named s.row s.col within.0 within.1))
      ]);
}
