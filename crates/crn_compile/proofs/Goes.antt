-- Where a half is blank, some cell can be filled.
use Rattle.std.proofs.Common.{◌≡◌, ◌≢◌, ℕ, zero, suc, ◌*◌, ◌/◌, ◌%◌, ◌<◌, ◌⊎◌, inl, inr, List, [], ◌∷◌, length, Some, Bool, true, false, refl, sym, ap, ◌∙◌, subst, arith, get_or}
use Rattle.std.specs.List.{sum_by}
use Rattle.std.proofs.lemmas.Bool.{cases_eq}
use Rattle.std.proofs.lemmas.List.Sums.{sum_by-cons}
use Rattle.std.proofs.lemmas.Nat.{div-mul-add, mod-mul-add, div-add-mod', div_below, mod_below}
use Rattle.surf_kinds.specs.declared.site.SpeciesId.{SpeciesId}
use Rattle.circuit_text.specs.declared.kinds.Net.{Net}
use Rattle.circuit_text.specs.Values.{bit}
use Rattle.gate_layout.specs.declared.role.Role.{Role}
use Rattle.gate_layout.specs.Table.{Table, Spot, IsSpot, role_at, needs, AreBeside, IsInput, AreFed}
use Rattle.crn_compile.specs.Cells.{Cell, Wire, filled, work_of, IsRight}
use Rattle.crn_compile.specs.Species.{cell_of}
use Rattle.crn_compile.specs.Start.{site, no_species, species_at}
use Rattle.crn_compile.specs.Settled.{work}
use Rattle.crn_compile.proofs.Grid.{below, has_cols}
use Rattle.crn_compile.proofs.Steps.{IsSound}
use Rattle.crn_compile.proofs.Halves.{lacks, lacks_or, has_half, can_fill}

pub site_row : (t : Table) (s : Spot) → IsSpot t s → site t s / t.cols ≡ s.row
site_row t s h = div-mul-add s.row t.cols s.col h.1

pub site_col : (t : Table) (s : Spot) → IsSpot t s → site t s % t.cols ≡ s.col
site_col t s h = mod-mul-add s.row t.cols s.col h.1

pub site_inside : (t : Table) (s : Spot) → IsSpot t s → site t s < t.rows * t.cols
site_inside t s h = below t.rows t.cols (site t s) (omega (arith, h.1)) (subst (λ n. n < t.rows) (sym (site_row t s h)) h.0)

pub spot_right : (nets : List Net) (values : List Bool) (t : Table) (S : List SpeciesId) (s : Spot) → IsSound nets values t S → IsSpot t s → IsRight nets values (role_at t s) (cell_of (species_at t S s))
spot_right nets values t S s sound h =
    let now : IsRight nets values (t.role (site t s / t.cols) (site t s % t.cols)) (cell_of (get_or S (site t s) no_species)) = sound.right (site t s) (site_inside t s h) in
    subst (λ n. IsRight nets values (t.role s.row n) (cell_of (get_or S (site t s) no_species))) (site_col t s h)
    (subst (λ n. IsRight nets values (t.role n (site t s % t.cols)) (cell_of (get_or S (site t s) no_species))) (site_row t s h) now)

-- the input cells have their bits
abbrev pub AreKnown : List Bool → Table → List SpeciesId → Type 0
AreKnown inputs t S = (i : ℕ) → i < t.inputs → cell_of (species_at t S (t.input_cell i)) ≡ Wire (Some (bit inputs i))

-- a cell that a neighbour fills
pub record CanFill (t : Table) (S : List SpeciesId) : Type 0 where
  pub feeder : Spot
  pub target : Spot
  pub feeder_in : IsSpot t feeder
  pub target_in : IsSpot t target
  pub beside : AreBeside feeder target
  pub made : Cell
  pub fills : filled (cell_of (species_at t S feeder)) (cell_of (species_at t S target)) ≡ Some made

wire_lacks : (d : Bool) (half : ℕ) → lacks half (Wire (Some d)) ≡ true → ⊥
wire_lacks d zero h = cc
wire_lacks d (suc zero) h = cc
wire_lacks d (suc (suc n)) h = cc

no_input : (inputs : List Bool) (t : Table) (S : List SpeciesId) (s : Spot) (half : ℕ) → AreKnown inputs t S → lacks half (cell_of (species_at t S s)) ≡ true → IsInput t s → ⊥
no_input inputs t S s half known lack input =
    let e : cell_of (species_at t S s) ≡ Wire (Some (bit inputs input.0)) = ap (λ u. cell_of (species_at t S u)) (sym input.2) ∙ known input.0 input.1 in
    wire_lacks (bit inputs input.0) half (ap (lacks half) (sym e) ∙ lack)

-- a half that is needed is blank, or none of them
all_known : (a b : Role) (x : Cell) → (needs a b 0 ≡ true → lacks 0 x ≡ false) → (needs a b 1 ≡ true → lacks 1 x ≡ false) → (k : ℕ) → needs a b k ≡ true → lacks k x ≡ false
all_known a b x first second zero n = first n
all_known a b x first second (suc zero) n = second n
all_known a b x first second (suc (suc k)) n = refl

blank_in : (a b : Role) (x : Cell) (m p n q : Bool) → needs a b 0 ≡ m → lacks 0 x ≡ p → needs a b 1 ≡ n → lacks 1 x ≡ q → ((k : ℕ) × (needs a b k ≡ true) × (lacks k x ≡ true)) ⊎ ((k : ℕ) → needs a b k ≡ true → lacks k x ≡ false)
blank_in a b x true true n q m_is p_is n_is q_is = inl (0, m_is, p_is)
blank_in a b x m p true true m_is p_is n_is q_is = inl (1, n_is, q_is)
blank_in a b x m p n q m_is p_is n_is q_is = inr (all_known a b x (λ h. cc) (λ h. cc))

blank_or : (a b : Role) (x : Cell) → ((k : ℕ) × (needs a b k ≡ true) × (lacks k x ≡ true)) ⊎ ((k : ℕ) → needs a b k ≡ true → lacks k x ≡ false)
blank_or a b x = blank_in a b x (needs a b 0) (lacks 0 x) (needs a b 1) (lacks 1 x) refl refl refl refl

pub progress : (nets : List Net) (inputs values : List Bool) (t : Table) (S : List SpeciesId) → IsSound nets values t S → AreFed nets t → AreKnown inputs t S
    → (bound : ℕ) (s : Spot) (half : ℕ) → IsSpot t s → lacks half (cell_of (species_at t S s)) ≡ true → t.rank s.row s.col half < bound → CanFill t S
progress nets inputs values t S sound fed known zero s half within lack low = absurd (omega arith)
progress nets inputs values t S sound fed known (suc bound) s half within lack low =
    let right = spot_right nets values t S s sound within in
    let f = fed s half within (has_half nets values (role_at t s) (cell_of (species_at t S s)) half right lack) (no_input inputs t S s half known lack) in
    let it = spot_right nets values t S f.from sound f.within in
    elim (blank_or (role_at t f.from) (role_at t s) (cell_of (species_at t S f.from))) [
      | inl b ↦
          let l = f.lower b.0 (has_half nets values (role_at t f.from) (cell_of (species_at t S f.from)) b.0 it b.2) b.1 in
          progress nets inputs values t S sound fed known bound f.from b.0 f.within b.2 (omega (arith, l, low))
      | inr all ↦
          let c = can_fill nets values (role_at t f.from) (role_at t s) half (cell_of (species_at t S f.from)) (cell_of (species_at t S s)) f.feeds it right lack all in
          record { feeder = f.from; target = s; feeder_in = f.within; target_in = within; beside = f.beside; made = c.0; fills = c.1 }
    ]

-- a sum is 0, or a term is not
nonzero : (f : SpeciesId → ℕ) (xs : List SpeciesId) → (sum_by f xs ≡ 0) ⊎ ((k : ℕ) × (k < length xs) × (f (get_or xs k no_species) ≢ 0))
nonzero f [] = inl refl
nonzero f (x ∷ xs) = elim (cases_eq (f x) 0) [
  | inr other ↦ inr (0, omega arith, other)
  | inl e ↦ elim (nonzero f xs) [
    | inl none ↦ inl (sum_by-cons f x xs ∙ omega (arith, e, none))
    | inr some ↦ inr (suc some.0, omega (arith, some.1), some.2)
  ]
]

-- a surface has no work left, or a cell can be filled
pub done_or : (nets : List Net) (inputs values : List Bool) (t : Table) (S : List SpeciesId) → IsSound nets values t S → AreFed nets t → AreKnown inputs t S → (work S ≡ 0) ⊎ CanFill t S
done_or nets inputs values t S sound fed known = elim (nonzero (λ s. work_of (cell_of s)) S) [
  | inl none ↦ inl none
  | inr some ↦ inr (
      let inside : some.0 < t.rows * t.cols = omega (arith, some.1, sound.size) in
      let h = has_cols some.0 t.rows t.cols inside in
      let s : Spot = record { row = some.0 / t.cols; col = some.0 % t.cols } in
      let within : IsSpot t s = (div_below some.0 t.cols t.rows h inside, mod_below some.0 t.cols h) in
      let e : site t s ≡ some.0 = div-add-mod' some.0 t.cols in
      elim (lacks_or (cell_of (get_or S some.0 no_species))) [
        | inl nothing ↦ absurd (some.2 nothing)
        | inr half ↦ progress nets inputs values t S sound fed known (suc (t.rank s.row s.col half.0)) s half.0 within (ap (λ n. lacks half.0 (cell_of (get_or S n no_species))) e ∙ half.1) (omega arith)
      ])
]
