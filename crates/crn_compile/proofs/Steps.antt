-- A firing fills one cell beside another.
use Rattle.std.proofs.Common.{◌≡◌, ◌≢◌, ℕ, ◌+◌, ◌*◌, ◌/◌, ◌%◌, ◌<◌, ◌⊎◌, inl, inr, List, length, set, Option, Some, None, Bool, true, false, refl, sym, ap, ◌∙◌, subst, arith, rules, get_or, ◌==◌, ◌&&◌, if◌then◌else◌}
use Rattle.std.specs.Prelude.{slice_get, not, nat_lt}
use Rattle.std.specs.List.{sum_by}
use Rattle.std.proofs.lemmas.Option.{get_or_from_slice_get}
use Rattle.std.proofs.lemmas.Bool.{and_parts, eqb-true, cases_eq}
use Rattle.std.proofs.lemmas.List.{length-set, set-get_or, get_or-set_same, get_or-set_other}
use Rattle.std.proofs.lemmas.List.Sums.{sum_by-set}
use Rattle.std.proofs.lemmas.Nat.{div_below, mod_below}
use Rattle.surf_kinds.specs.declared.rule.Rule.{Rule}
use Rattle.surf_kinds.specs.declared.rule.Rule.TheVariants.{Two}
use Rattle.surf_kinds.specs.declared.site.SiteId.{SiteId}
use Rattle.surf_kinds.specs.declared.site.SpeciesId.{SpeciesId}
use Rattle.surf_kinds.specs.Channels.{rule_of_channel, way_of_channel}
use Rattle.lattice.specs.Channels.{matches, products}
use Rattle.reach.specs.Reach.{Firing, IsSecond, put, Fires}
use Rattle.circuit_text.specs.declared.kinds.Net.{Net}
use Rattle.circuit_text.specs.Values.{AreValues}
use Rattle.gate_layout.specs.declared.role.Role.{Role}
use Rattle.gate_layout.specs.declared.role.Role.TheVariants as role
use Rattle.gate_layout.specs.Table.{Table, Agree, DoAgree}
use Rattle.crn_compile.specs.Cells.{filled, work_of, IsRight}
use Rattle.crn_compile.specs.Species.{cell_of, unit_rate, circuit_rules}
use Rattle.crn_compile.specs.Start.{flat, shape_of, no_species}
use Rattle.crn_compile.specs.Settled.{work}
use Rattle.crn_compile.proofs.Right.{filled_right}
use Rattle.crn_compile.proofs.Tables.{Fills, is_rule}
use Rattle.crn_compile.proofs.Grid.{ArePair, of_place, apart, has_cols, below, spot_east, spot_south}
use Rattle.crn_compile.proofs.Falls.{filled_falls}

-- one cell becomes another beside a third
pub record Step (i j : ℕ) (S U : List SpeciesId) : Type 0 where
  pub made : SpeciesId
  pub is : U ≡ set S j made
  pub fills : filled (cell_of (get_or S i no_species)) (cell_of (get_or S j no_species)) ≡ Some (cell_of made)

-- one of two sites is filled beside the other
abbrev pub FillsOne : ℕ → ℕ → List SpeciesId → List SpeciesId → Type 0
FillsOne i j S U = Step i j S U ⊎ Step j i S U

same_id : (x y : SpeciesId) → x.0 ≡ y.0 → x ≡ y
same_id x y e = ap (λ (n : ℕ). let v : SpeciesId = record { 0 = n } in v) e

-- a rule, with its reactants
filled_by : (s t a b d : SpeciesId) → filled (cell_of a) (cell_of b) ≡ Some (cell_of d) → s ≡ a → t ≡ b → filled (cell_of s) (cell_of t) ≡ Some (cell_of d)
filled_by s t a b d f e g = subst (λ u. filled (cell_of u) (cell_of t) ≡ Some (cell_of d)) (sym e) (subst (λ u. filled (cell_of a) (cell_of u) ≡ Some (cell_of d)) (sym g) f)

fires_first : (a b d : SpeciesId) (i j : ℕ) (S : List SpeciesId) → filled (cell_of a) (cell_of b) ≡ Some (cell_of d) → get_or S i no_species ≡ a → get_or S j no_species ≡ b → Step i j S (set (set S i a) j d)
fires_first a b d i j S f e g =
    let same : set S i a ≡ S = ap (set S i) (sym e) ∙ set-get_or S i no_species in
    record { made = d; is = ap (λ l. set l j d) same; fills = filled_by (get_or S i no_species) (get_or S j no_species) a b d f e g }

fires_second : (a b d : SpeciesId) (i j : ℕ) (S : List SpeciesId) → j ≢ i → filled (cell_of a) (cell_of b) ≡ Some (cell_of d) → get_or S i no_species ≡ b → get_or S j no_species ≡ a → Step j i S (set (set S i d) j a)
fires_second a b d i j S apart f e g =
    let other : get_or (set S i d) j no_species ≡ get_or S j no_species = get_or-set_other S i j d no_species apart in
    let same : set (set S i d) j a ≡ set S i d = ap (set (set S i d) j) (sym g ∙ sym other) ∙ set-get_or (set S i d) j no_species in
    record { made = d; is = same; fills = filled_by (get_or S j no_species) (get_or S i no_species) a b d f g e }

fires_way : (w : Bool) (a b d s t : SpeciesId) (i j : ℕ) (S : List SpeciesId) → j ≢ i → filled (cell_of a) (cell_of b) ≡ Some (cell_of d) → get_or S i no_species ≡ s → get_or S j no_species ≡ t
    → (if w then s.0 == a.0 && t.0 == b.0 else s.0 == b.0 && t.0 == a.0 && not (a.0 == b.0 && a.0 == d.0)) ≡ true
    → FillsOne i j S (set (set S i (if w then a else d)) j (if w then d else a))
fires_way true a b d s t i j S apart f e g test =
    let parts = and_parts (s.0 == a.0) (t.0 == b.0) test in
    inl (fires_first a b d i j S f (e ∙ same_id s a (eqb-true _ _ parts.0)) (g ∙ same_id t b (eqb-true _ _ parts.1)))
fires_way false a b d s t i j S apart f e g test =
    let parts = and_parts (s.0 == b.0 && t.0 == a.0) (not (a.0 == b.0 && a.0 == d.0)) test in
    let more = and_parts (s.0 == b.0) (t.0 == a.0) parts.0 in
    inr (fires_second a b d i j S apart f (e ∙ same_id s b (eqb-true _ _ more.0)) (g ∙ same_id t a (eqb-true _ _ more.1)))

-- a rule of the table that matches two cells
fires_rule : (way : ℕ) (i j : SiteId) (s t : SpeciesId) (S U : List SpeciesId) (r : Rule) → Fills r → j.0 ≢ i.0 → slice_get S i.0 ≡ Some s → slice_get S j.0 ≡ Some t → matches r way s (Some t) ≡ true
    → U ≡ put (record { first = i; second = Some j }) (products way r) S → FillsOne i.0 j.0 S U
fires_rule way i j s t S U r f other is js so makes =
    let test = and_parts (nat_lt 0 1) _ (ap (λ q. matches q way s (Some t)) (sym f.is) ∙ so) in
    let made : U ≡ put (record { first = i; second = Some j }) (products way (Two unit_rate f.a f.b f.a f.d)) S = makes ∙ ap (λ q. put (record { first = i; second = Some j }) (products way q) S) f.is in
    subst (λ V. FillsOne i.0 j.0 S V) (sym made) (fires_way (way == 0) f.a f.b f.d s t i.0 j.0 S other f.fills (get_or_from_slice_get S i.0 s no_species is) (get_or_from_slice_get S j.0 t no_species js) test.1)

-- and one cell none does
never_one : (way : ℕ) (s : SpeciesId) (r : Rule) → Fills r → matches r way s None ≡ true → ⊥
never_one way s r f so = let e : false ≡ true = ap (λ q. matches q way s None) (sym f.is) ∙ so in cc

-- a firing is one of two neighbours
pub record HasFired (rows cols : ℕ) (S U : List SpeciesId) : Type 0 where
  pub first : ℕ
  pub second : ℕ
  pub are : ArePair rows cols first second
  pub step : FillsOne first second S U

fired_at : (rows cols way : ℕ) (i : SiteId) (j : Option SiteId) (s : SpeciesId) (t : Option SpeciesId) (S U : List SpeciesId) (r : Rule) → Fills r → ((k : SiteId) → j ≡ Some k → ArePair rows cols i.0 k.0)
    → slice_get S i.0 ≡ Some s → IsSecond S j t → matches r way s t ≡ true → U ≡ put (record { first = i; second = j }) (products way r) S → HasFired rows cols S U
fired_at rows cols way i None s None S U r f pairs is js so makes = absurd (never_one way s r f so)
fired_at rows cols way i (Some j) s (Some t) S U r f pairs is js so makes =
    record { first = i.0; second = j.0; are = pairs j refl; step = fires_rule way i j s t S U r f (apart rows cols i.0 j.0 (pairs j refl)) is js so makes }
fired_at rows cols way i None s (Some t) S U r f pairs is js so makes = absurd js
fired_at rows cols way i (Some j) s None S U r f pairs is js so makes = absurd js

pub has_fired : (rows cols : ℕ) (S U : List SpeciesId) (f : Firing) → Fires (flat rows cols) circuit_rules f S U → HasFired rows cols S U
has_fired rows cols S U f x =
    fired_at rows cols (way_of_channel f.channel) x.sites.first x.sites.second x.first x.second S U x.rule (is_rule (rule_of_channel f.channel) x.rule x.rule_is) (λ k. of_place rows cols f.place x.sites k x.at) x.first_is x.second_is x.matching x.makes

-- the role at a site
abbrev pub site_role : Table → ℕ → Role
site_role t k = t.role (k / t.cols) (k % t.cols)

-- each cell of the surface is right
pub record IsSound (nets : List Net) (values : List Bool) (t : Table) (S : List SpeciesId) : Type 0 where
  pub size : length S ≡ t.rows * t.cols
  pub right : (k : ℕ) → k < t.rows * t.cols → IsRight nets values (site_role t k) (cell_of (get_or S k no_species))

turned : (nets : List Net) (a b : Role) → Agree nets a b → Agree nets b a
turned nets (role.Wire m) (role.Wire n) agree = sym agree
turned nets (role.Wire m) (role.Vert n) agree = sym agree
turned nets (role.Vert m) (role.Wire n) agree = sym agree
turned nets (role.Vert m) (role.Vert n) agree = sym agree
turned nets (role.Vert m) (role.PinA n) agree = sym agree
turned nets (role.PinA m) (role.Vert n) agree = sym agree
turned nets (role.Vert m) (role.PinB n) agree = sym agree
turned nets (role.PinB m) (role.Vert n) agree = sym agree
turned nets a b agree = first_of (assumption, search rules)

second_row : (t : Table) (i j : ℕ) → ArePair t.rows t.cols i j → j < t.rows * t.cols
second_row t i j pair =
    let h = has_cols i t.rows t.cols pair.inside in
    elim pair.second [
      | inl e ↦
          let q = spot_east i t.cols e.1 in
          subst (λ n. n < t.rows * t.cols) (sym e.0) (below t.rows t.cols (i + 1) h (subst (λ n. n < t.rows) (sym q.0) (div_below i t.cols t.rows h pair.inside)))
      | inr e ↦
          let q = spot_south i t.cols h in
          subst (λ n. n < t.rows * t.cols) (sym e.0) (below t.rows t.cols (i + t.cols) h (subst (λ n. n < t.rows) (sym q.0) e.1))
    ]

pair_agrees : (nets : List Net) (t : Table) (i j : ℕ) → DoAgree nets t → ArePair t.rows t.cols i j → Agree nets (site_role t i) (site_role t j)
pair_agrees nets t i j agree pair =
    let h = has_cols i t.rows t.cols pair.inside in
    elim pair.second [
      | inl e ↦
          let q = spot_east i t.cols e.1 in
          let r : j / t.cols ≡ i / t.cols = ap (λ n. n / t.cols) e.0 ∙ q.0 in
          let c : j % t.cols ≡ i % t.cols + 1 = ap (λ n. n % t.cols) e.0 ∙ q.1 in
          let now = agree.east (i / t.cols) (i % t.cols) (div_below i t.cols t.rows h pair.inside) e.1 in
          subst (λ n. Agree nets (site_role t i) (t.role n (j % t.cols))) (sym r) (subst (λ n. Agree nets (site_role t i) (t.role (i / t.cols) n)) (sym c) now)
      | inr e ↦
          let q = spot_south i t.cols h in
          let r : j / t.cols ≡ i / t.cols + 1 = ap (λ n. n / t.cols) e.0 ∙ q.0 in
          let c : j % t.cols ≡ i % t.cols = ap (λ n. n % t.cols) e.0 ∙ q.1 in
          let now = agree.south (i / t.cols) (i % t.cols) e.1 (mod_below i t.cols h) in
          subst (λ n. Agree nets (site_role t i) (t.role n (j % t.cols))) (sym r) (subst (λ n. Agree nets (site_role t i) (t.role (i / t.cols + 1) n)) (sym c) now)
    ]

step_right : (nets : List Net) (inputs values : List Bool) (t : Table) (i j : ℕ) (S U : List SpeciesId) → AreValues nets inputs values
    → i < t.rows * t.cols → j < t.rows * t.cols → Agree nets (site_role t i) (site_role t j) → IsSound nets values t S → Step i j S U → IsSound nets values t U
step_right nets inputs values t i j S U vals hi hj agree sound step = record {
  size = ap length step.is ∙ length-set S j step.made ∙ sound.size;
  right = λ k h. elim (cases_eq k j) [
    | inl same ↦
        let now : IsRight nets values (site_role t j) (cell_of step.made) = filled_right nets inputs values vals (site_role t i) (site_role t j) _ _ (cell_of step.made) agree (sound.right i hi) (sound.right j hj) step.fills in
        let e : step.made ≡ get_or U k no_species = sym (get_or-set_same S j step.made no_species (omega (arith, hj, sound.size))) ∙ ap (λ n. get_or (set S j step.made) n no_species) (sym same) ∙ ap (λ l. get_or l k no_species) (sym step.is) in
        subst (λ n. IsRight nets values (site_role t n) (cell_of (get_or U k no_species))) (sym same) (subst (λ n. IsRight nets values (site_role t j) (cell_of n)) e now)
    | inr other ↦
        let e : get_or S k no_species ≡ get_or U k no_species = sym (get_or-set_other S j k step.made no_species other) ∙ ap (λ l. get_or l k no_species) (sym step.is) in
        subst (λ n. IsRight nets values (site_role t k) (cell_of n)) e (sound.right k h)
  ];
}

step_work : (i j : ℕ) (S U : List SpeciesId) → j < length S → Step i j S U → work U + 1 ≡ work S
step_work i j S U h step =
    let moved : sum_by (λ s. work_of (cell_of s)) (set S j step.made) + work_of (cell_of (get_or S j no_species)) ≡ sum_by (λ s. work_of (cell_of s)) S + work_of (cell_of step.made) = sum_by-set (λ s. work_of (cell_of s)) S j step.made no_species h in
    let falls : work_of (cell_of step.made) + 1 ≡ work_of (cell_of (get_or S j no_species)) = filled_falls (cell_of (get_or S i no_species)) (cell_of (get_or S j no_species)) (cell_of step.made) step.fills in
    let e : work U ≡ sum_by (λ s. work_of (cell_of s)) (set S j step.made) = ap work step.is in
    let g : sum_by (λ s. work_of (cell_of s)) (set S j step.made) + 1 ≡ work S = omega (arith, moved, falls) in
    ap (λ n. n + 1) e ∙ g

-- a firing keeps each cell right
pub firing_right : (nets : List Net) (inputs values : List Bool) (t : Table) (S U : List SpeciesId) (f : Firing) → AreValues nets inputs values → DoAgree nets t
    → IsSound nets values t S → Fires (shape_of t) circuit_rules f S U → IsSound nets values t U
firing_right nets inputs values t S U f vals agree sound is =
    let fired = has_fired t.rows t.cols S U f is in
    let one = pair_agrees nets t fired.first fired.second agree fired.are in
    let inside = second_row t fired.first fired.second fired.are in
    elim fired.step [
      | inl step ↦ step_right nets inputs values t fired.first fired.second S U vals fired.are.inside inside one sound step
      | inr step ↦ step_right nets inputs values t fired.second fired.first S U vals inside fired.are.inside (turned nets _ _ one) sound step
    ]

-- a firing leaves one blank half less
pub firing_work : (t : Table) (S U : List SpeciesId) (f : Firing) → length S ≡ t.rows * t.cols → Fires (shape_of t) circuit_rules f S U → work U + 1 ≡ work S
firing_work t S U f size is =
    let fired = has_fired t.rows t.cols S U f is in
    let inside = second_row t fired.first fired.second fired.are in
    elim fired.step [
      | inl step ↦ step_work fired.first fired.second S U (omega (arith, inside, size)) step
      | inr step ↦ step_work fired.second fired.first S U (omega (arith, fired.are.inside, size)) step
    ]
