-- The rules of the table are the fillings, and all of them.
use Rattle.std.proofs.Common.{◌≡◌, ℕ, zero, suc, ◌+◌, ◌<◌, ◌≤◌, inl, inr, List, [], ◌∷◌, length, Option, Some, None, Bool, true, false, refl, sym, ap, ◌∙◌, subst, arith, get_or, ◌==◌, ◌&&◌, ◌||◌}
use Rattle.std.specs.Prelude.{slice_get, map, not}
use Rattle.std.specs.List.{list_all, list_any, range_with_len}
use Rattle.std.proofs.lemmas.Option.{none-some, slice_get-get_or}
use Rattle.std.proofs.lemmas.Bool.{and_parts, eqb-true, cases_lt}
use Rattle.std.proofs.lemmas.List.FromFn.{get_or-range_with_len}
use Rattle.std.proofs.lemmas.List.{get_or-map, get_or_past}
use Rattle.circuit_text.specs.declared.kinds.GateOp.TheVariants.{And, Or, Xor, Nand, Nor, Xnor, Not, Buf}
use Rattle.surf_kinds.specs.declared.rule.Rule.{Rule}
use Rattle.surf_kinds.specs.declared.rule.Rule.TheVariants.{One, Two}
use Rattle.surf_kinds.specs.declared.site.SpeciesId.{SpeciesId}
use Rattle.surf_kinds.specs.Rates.{Fraction}
use Rattle.lattice.specs.Channels.{rate_of}
use Rattle.reach.specs.Bounds.{HaveRateOne}
use Rattle.circuit_text.specs.Values.{has_two}
use Rattle.crn_compile.specs.Cells.{Neither, First, Second, Cell, Inert, Wire, Vert, PinA, PinB, Cross, Single, Pair, Done, filled}
use Rattle.crn_compile.specs.Species.{species, cell_of, number_of, id_of, unit_rate, circuit_rules}

-- a cell with an operation of its own kind
abbrev pub is_proper : Cell → Bool
is_proper (Single op) = not (has_two op)
is_proper (Pair op known) = has_two op
is_proper x = true

-- the test of one rule, and of the table
abbrev pub made_as : Option Cell → ℕ → Bool
made_as None n = false
made_as (Some z) n = is_proper z && number_of z == n

abbrev pub is_filling : Rule → Bool
is_filling (One rate a c) = false
is_filling (Two rate a b c d) = (rate.p == 1 && rate.q == 1) && (c.0 == a.0 && made_as (filled (cell_of a) (cell_of b)) d.0)

pub all_fill : list_all is_filling circuit_rules ≡ true
unfolding circuit_rules
all_fill = refl

pub count : length circuit_rules ≡ 114
unfolding circuit_rules
count = refl

-- each filling of two species has a rule
abbrev pub is_rule_for : ℕ → ℕ → Rule → Bool
is_rule_for s t (One rate a c) = false
is_rule_for s t (Two rate a b c d) = a.0 == s && b.0 == t

abbrev pub covered : Option Cell → ℕ → ℕ → Bool
covered None a b = true
covered (Some z) a b = list_any (is_rule_for a b) circuit_rules

pub all_covered : list_all (λ x. list_all (λ y. covered (filled x y) (number_of x) (number_of y)) species) species ≡ true
unfolding circuit_rules
all_covered = refl

-- a cell is that of its number
pub cell_number : (x : Cell) → is_proper x ≡ true → cell_of (id_of x) ≡ x
cell_number Inert proper = refl
cell_number (Wire None) proper = refl
cell_number (Wire (Some false)) proper = refl
cell_number (Wire (Some true)) proper = refl
cell_number (Vert None) proper = refl
cell_number (Vert (Some false)) proper = refl
cell_number (Vert (Some true)) proper = refl
cell_number (PinA None) proper = refl
cell_number (PinA (Some false)) proper = refl
cell_number (PinA (Some true)) proper = refl
cell_number (PinB None) proper = refl
cell_number (PinB (Some false)) proper = refl
cell_number (PinB (Some true)) proper = refl
cell_number (Cross None None) proper = refl
cell_number (Cross None (Some false)) proper = refl
cell_number (Cross None (Some true)) proper = refl
cell_number (Cross (Some false) None) proper = refl
cell_number (Cross (Some false) (Some false)) proper = refl
cell_number (Cross (Some false) (Some true)) proper = refl
cell_number (Cross (Some true) None) proper = refl
cell_number (Cross (Some true) (Some false)) proper = refl
cell_number (Cross (Some true) (Some true)) proper = refl
cell_number (Done false) proper = refl
cell_number (Done true) proper = refl
cell_number (Single Not) proper = refl
cell_number (Single Buf) proper = refl
cell_number (Pair And Neither) proper = refl
cell_number (Pair And (First false)) proper = refl
cell_number (Pair And (First true)) proper = refl
cell_number (Pair And (Second false)) proper = refl
cell_number (Pair And (Second true)) proper = refl
cell_number (Pair Or Neither) proper = refl
cell_number (Pair Or (First false)) proper = refl
cell_number (Pair Or (First true)) proper = refl
cell_number (Pair Or (Second false)) proper = refl
cell_number (Pair Or (Second true)) proper = refl
cell_number (Pair Xor Neither) proper = refl
cell_number (Pair Xor (First false)) proper = refl
cell_number (Pair Xor (First true)) proper = refl
cell_number (Pair Xor (Second false)) proper = refl
cell_number (Pair Xor (Second true)) proper = refl
cell_number (Pair Nand Neither) proper = refl
cell_number (Pair Nand (First false)) proper = refl
cell_number (Pair Nand (First true)) proper = refl
cell_number (Pair Nand (Second false)) proper = refl
cell_number (Pair Nand (Second true)) proper = refl
cell_number (Pair Nor Neither) proper = refl
cell_number (Pair Nor (First false)) proper = refl
cell_number (Pair Nor (First true)) proper = refl
cell_number (Pair Nor (Second false)) proper = refl
cell_number (Pair Nor (Second true)) proper = refl
cell_number (Pair Xnor Neither) proper = refl
cell_number (Pair Xnor (First false)) proper = refl
cell_number (Pair Xnor (First true)) proper = refl
cell_number (Pair Xnor (Second false)) proper = refl
cell_number (Pair Xnor (Second true)) proper = refl
cell_number x proper = cc

pub numbers : map number_of species ≡ range_with_len 0 56
numbers = refl

-- what passes at each element passes at one
pub passes : {X : Type 0} (p : X → Bool) (xs : List X) (k : ℕ) (x : X) → list_all p xs ≡ true → slice_get xs k ≡ Some x → p x ≡ true
passes p [] k x all is = cc
passes p (y ∷ ys) zero x all is = let e : y ≡ x = cc in subst (λ v. p v ≡ true) e ((and_parts (p y) (list_all p ys) all).0)
passes p (y ∷ ys) (suc k) x all is = passes p ys k x ((and_parts (p y) (list_all p ys) all).1) is

-- an element that passes
pub record Found {X : Type 0} (p : X → Bool) (xs : List X) : Type 0 where
  pub at : ℕ
  pub it : X
  pub stands : slice_get xs at ≡ Some it
  pub passes : p it ≡ true

found_first : {X : Type 0} (p : X → Bool) (x : X) (xs : List X) (b : Bool) → p x ≡ b → (b || list_any p xs) ≡ true → (list_any p xs ≡ true → Found p xs) → Found p (x ∷ xs)
found_first p x xs true is any rest = record { at = zero; it = x; stands = refl; passes = is }
found_first p x xs false is any rest = let f = rest any in record { at = suc f.at; it = f.it; stands = f.stands; passes = f.passes }

pub finds : {X : Type 0} (p : X → Bool) (xs : List X) → list_any p xs ≡ true → Found p xs
finds p [] any = cc
finds p (x ∷ xs) any = found_first p x xs (p x) refl any (finds p xs)

made : (o : Option Cell) (n : SpeciesId) → made_as o n.0 ≡ true → o ≡ Some (cell_of n)
made None n is = cc
made (Some z) n is =
    let parts = and_parts (is_proper z) (number_of z == n.0) is in
    let same : number_of z ≡ n.0 = eqb-true (number_of z) n.0 parts.1 in
    ap (λ c. Some c) (sym (cell_number z parts.0) ∙ ap (λ k. get_or species k Inert) same)

-- a rule of the table keeps its first reactant, and fills its second
pub record Fills (r : Rule) : Type 0 where
  pub a : SpeciesId
  pub b : SpeciesId
  pub d : SpeciesId
  pub is : r ≡ Two unit_rate a b a d
  pub fills : filled (cell_of a) (cell_of b) ≡ Some (cell_of d)

same_id : (x y : SpeciesId) → x.0 ≡ y.0 → x ≡ y
same_id x y e = ap (λ (n : ℕ). let v : SpeciesId = record { 0 = n } in v) e

same_rate : (f : Fraction) → f.p ≡ 1 → f.q ≡ 1 → f ≡ unit_rate
same_rate f e g = ap (λ (n : ℕ). let v : Fraction = record { p = n; q = f.q } in v) e ∙ ap (λ (n : ℕ). let v : Fraction = record { p = 1; q = n } in v) g

filling : (r : Rule) → is_filling r ≡ true → Fills r
filling (One rate a c) h = cc
filling (Two rate a b c d) h =
    let parts = and_parts (rate.p == 1 && rate.q == 1) (c.0 == a.0 && made_as (filled (cell_of a) (cell_of b)) d.0) h in
    let one = and_parts (rate.p == 1) (rate.q == 1) parts.0 in
    let two = and_parts (c.0 == a.0) (made_as (filled (cell_of a) (cell_of b)) d.0) parts.1 in
    record {
      a = a;
      b = b;
      d = d;
      is = ap (λ f. Two f a b c d) (same_rate rate (eqb-true rate.p 1 one.0) (eqb-true rate.q 1 one.1)) ∙ ap (λ x. Two unit_rate a b x d) (same_id c a (eqb-true c.0 a.0 two.0));
      fills = made (filled (cell_of a) (cell_of b)) d two.1;
    }

pub is_rule : (k : ℕ) (r : Rule) → slice_get circuit_rules k ≡ Some r → Fills r
is_rule k r stands = filling r (passes is_filling circuit_rules k r all_fill stands)

-- all rates are 1
rate_one : (r : Rule) → Fills r → rate_of r ≡ unit_rate
rate_one r f = ap rate_of f.is

pub rates_one : HaveRateOne circuit_rules
rates_one k r stands = rate_one r (is_rule k r stands)

-- nothing fills an inert cell, and an inert cell fills nothing
cross_inert : (h k : Option Bool) → filled (Cross h k) Inert ≡ None
cross_inert None None = refl
cross_inert None (Some e) = refl
cross_inert (Some d) None = refl
cross_inert (Some d) (Some e) = refl

filled_inert : (x : Cell) → filled x Inert ≡ None
filled_inert (Cross h k) = cross_inert h k
filled_inert (Wire None) = refl
filled_inert (Wire (Some d)) = refl
filled_inert (Vert None) = refl
filled_inert (Vert (Some d)) = refl
filled_inert (PinA None) = refl
filled_inert (PinA (Some d)) = refl
filled_inert (PinB None) = refl
filled_inert (PinB (Some d)) = refl
filled_inert x = refl

-- a number past the species is inert
pub past : (s : SpeciesId) → 56 ≤ s.0 → cell_of s ≡ Inert
past s h = get_or_past species s.0 Inert h

-- a number below has itself
own_number : (s : SpeciesId) → s.0 < 56 → number_of (cell_of s) ≡ s.0
own_number s h =
    let e : get_or (map number_of species) s.0 0 ≡ number_of (get_or species s.0 Inert) = get_or-map number_of species s.0 Inert 0 h in
    let f : get_or (range_with_len 0 56) s.0 0 ≡ 0 + s.0 = get_or-range_with_len 0 56 s.0 0 h in
    sym e ∙ ap (λ l. get_or l s.0 0) numbers ∙ f ∙ omega arith

-- a filling has a rule
pub record HasRule (s t : SpeciesId) : Type 0 where
  pub at : ℕ
  pub d : SpeciesId
  pub stands : slice_get circuit_rules at ≡ Some (Two unit_rate s t s d)
  pub fills : filled (cell_of s) (cell_of t) ≡ Some (cell_of d)

covered_by : (o : Option Cell) (z : Cell) (a b : ℕ) → o ≡ Some z → covered o a b ≡ true → list_any (is_rule_for a b) circuit_rules ≡ true
covered_by None z a b is test = cc
covered_by (Some y) z a b is test = test

for_these : (s t : SpeciesId) (r : Rule) (f : Fills r) → is_rule_for s.0 t.0 r ≡ true → (f.a ≡ s) × (f.b ≡ t)
for_these s t r f test =
    let parts = and_parts (f.a.0 == s.0) (f.b.0 == t.0) (ap (is_rule_for s.0 t.0) (sym f.is) ∙ test) in
    (same_id f.a s (eqb-true f.a.0 s.0 parts.0), same_id f.b t (eqb-true f.b.0 t.0 parts.1))

pub has_rule_below : (s t : SpeciesId) (z : Cell) → s.0 < 56 → t.0 < 56 → filled (cell_of s) (cell_of t) ≡ Some z → HasRule s t
has_rule_below s t z hs ht fills =
    let row : list_all (λ y. covered (filled (cell_of s) y) (number_of (cell_of s)) (number_of y)) species ≡ true =
    passes (λ x. list_all (λ y. covered (filled x y) (number_of x) (number_of y)) species) species s.0 (cell_of s) all_covered (slice_get-get_or species s.0 Inert hs) in
    let one : covered (filled (cell_of s) (cell_of t)) (number_of (cell_of s)) (number_of (cell_of t)) ≡ true =
    passes (λ y. covered (filled (cell_of s) y) (number_of (cell_of s)) (number_of y)) species t.0 (cell_of t) row (slice_get-get_or species t.0 Inert ht) in
    let any = covered_by (filled (cell_of s) (cell_of t)) z (number_of (cell_of s)) (number_of (cell_of t)) fills one in
    let any2 : list_any (is_rule_for s.0 t.0) circuit_rules ≡ true = subst (λ k. list_any (is_rule_for s.0 k) circuit_rules ≡ true) (own_number t ht) (subst (λ k. list_any (is_rule_for k (number_of (cell_of t))) circuit_rules ≡ true) (own_number s hs) any) in
    let f = finds (is_rule_for s.0 t.0) circuit_rules any2 in
    let r = is_rule f.at f.it f.stands in
    let these = for_these s t f.it r f.passes in
    let e : f.it ≡ Two unit_rate s t s r.d = r.is ∙ ap (λ x. Two unit_rate x r.b x r.d) these.0 ∙ ap (λ x. Two unit_rate s x s r.d) these.1 in
    let g : filled (cell_of s) (cell_of t) ≡ Some (cell_of r.d) = subst (λ x. filled (cell_of x) (cell_of t) ≡ Some (cell_of r.d)) these.0 (subst (λ x. filled (cell_of r.a) (cell_of x) ≡ Some (cell_of r.d)) these.1 r.fills) in
    record { at = f.at; d = r.d; stands = f.stands ∙ ap (λ x. Some x) e; fills = g }

pub has_rule : (s t : SpeciesId) (z : Cell) → filled (cell_of s) (cell_of t) ≡ Some z → HasRule s t
has_rule s t z fills = elim (cases_lt s.0 56) [
  | inl hs ↦ elim (cases_lt t.0 56) [
    | inl ht ↦ has_rule_below s t z hs ht fills
    | inr le ↦ absurd (none-some z (sym (filled_inert (cell_of s)) ∙ ap (filled (cell_of s)) (sym (past t le)) ∙ fills))
  ]
  | inr le ↦ absurd (none-some z (ap (λ x. filled x (cell_of t)) (sym (past s le)) ∙ fills))
]
