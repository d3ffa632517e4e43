-- The counts of the species sum to the number of sites.
use Rattle.std.proofs.Common.{◌≡◌, ℕ, zero, suc, ◌+◌, ◌<◌, ◌≤◌, ◌==◌, cond, List, [], ◌∷◌, length, refl, sym, ap, subst, ◌∙◌, arith, inl, inr}
use Rattle.std.specs.Prelude.{All, sum}
use Rattle.std.specs.List.{range_with_len, sum_by}
use Rattle.std.proofs.lemmas.Bool.{cases_lt}
use Rattle.std.proofs.lemmas.Bool.Decides.{nat_tests}
use Rattle.std.proofs.lemmas.List.Elements.{All-head, All-tail}
use Rattle.std.proofs.lemmas.List.Sums.{sum_by-cons, sum-map}
use Rattle.surf_kinds.specs.declared.site.SiteState.{SiteState}
use Rattle.surf_kinds.specs.declared.site.SpeciesId.{SpeciesId}
use Rattle.trace_text.specs.Lines.{cells_of, count_of, counts_of}

-- one at the species' own number, and none at the others
abbrev one_at : ℕ → ℕ → ℕ
one_at species k = cond (species == k) 1 0

at_own : (species : ℕ) → one_at species species ≡ 1
at_own species = grind (arith, nat_tests)

at_other : (species k : ℕ) → (species ≡ k → ⊥) → one_at species k ≡ 0
at_other species k h = grind (arith, nat_tests)

-- no count is above another number than the species' own
none-above : (species a n : ℕ) → species < a → sum_by (one_at species) (range_with_len a n) ≡ 0
none-above species a zero h = refl
none-above species a (suc n) h =
    let here = at_other species a (λ e. omega (arith, h, e)) in
    let there = none-above species (a + 1) n (omega (arith, h)) in
    sum_by-cons (one_at species) a (range_with_len (a + 1) n) ∙ omega (arith, here, there)

-- among the numbers from a on, the species' own counts one
one-among : (species a n : ℕ) → a ≤ species → species < a + n → sum_by (one_at species) (range_with_len a n) ≡ 1
one-among species a zero low high = absurd (omega (arith, low, high))
one-among species a (suc n) low high =
    elim (cases_lt a species) [
      | inl later ↦
          let here = at_other species a (λ e. omega (arith, later, e)) in
          let there = one-among species (a + 1) n (omega (arith, later)) (omega (arith, high)) in
          sum_by-cons (one_at species) a (range_with_len (a + 1) n) ∙ omega (arith, here, there)
      | inr now ↦
          let own : species ≡ a = omega (arith, now, low) in
          let here : one_at species a ≡ 1 = ap (one_at species) (omega (arith, own)) ∙ at_own species in
          let there = none-above species (a + 1) n (omega (arith, own)) in
          sum_by-cons (one_at species) a (range_with_len (a + 1) n) ∙ omega (arith, here, there)
    ]

none-counted : (ks : List ℕ) → sum_by (count_of []) ks ≡ 0
none-counted [] = refl
none-counted (k ∷ ks) =
    let rest = none-counted ks in
    sum_by-cons (count_of []) k ks ∙ omega (arith, rest)

-- a site more
site-counted : (s : SiteState) (sites : List SiteState) (ks : List ℕ) → sum_by (count_of (s ∷ sites)) ks ≡ sum_by (one_at s.species.0) ks + sum_by (count_of sites) ks
site-counted s sites [] = refl
site-counted s sites (k ∷ ks) =
    let here = sum_by-cons (λ (x : SiteState). cond (x.species.0 == k) 1 0) s sites in
    let there = site-counted s sites ks in
    let ones = sum_by-cons (one_at s.species.0) k ks in
    let counts = sum_by-cons (count_of sites) k ks in
    sum_by-cons (count_of (s ∷ sites)) k ks ∙ omega (arith, here, there, ones, counts)

all-counted : (sites : List SiteState) (species_count : ℕ) → All (λ (s : SpeciesId). s.0 < species_count) (cells_of sites) → sum_by (count_of sites) (range_with_len 0 species_count) ≡ length sites
all-counted [] species_count below = none-counted (range_with_len 0 species_count)
all-counted (s ∷ sites) species_count below =
    let P : SpeciesId → Type 0 = λ s. s.0 < species_count in
    let first : s.species.0 < species_count = All-head P s.species (cells_of sites) below in
    let one = one-among s.species.0 0 species_count (omega arith) (omega (arith, first)) in
    let rest = all-counted sites species_count (All-tail P s.species (cells_of sites) below) in
    site-counted s sites (range_with_len 0 species_count) ∙ omega (arith, one, rest)

-- each site is counted once
pub sum-counts_of : (n : ℕ) (sites : List SiteState) → All (λ (s : SpeciesId). s.0 < n) (cells_of sites) → sum (counts_of sites n) ≡ length sites
sum-counts_of n sites below = sum-map (count_of sites) (range_with_len 0 n) ∙ all-counted sites n below
