-- The counts of a surface on which one site, or two, are rewritten.
use Rattle.std.proofs.Common.{◌≡◌, ◌≢◌, ℕ, ◌+◌, ◌-◌, ◌<◌, ◌≤◌, ◌==◌, cond, inl, inr, List, length, set, get_or, slice_index, sym, ap, ◌∙◌, subst, arith}
use Rattle.std.proofs.lemmas.Bool.Decides.{eqb_tells, nat_tests}
use Rattle.std.proofs.lemmas.List.{length-set, get_or-set_same, get_or-set_other, same_lists}
use Rattle.std.proofs.lemmas.List.Sums.{sum_by-set}
use Rattle.std.proofs.lemmas.List.FromFn.{length-map-range_with_len, get_or-map-range_with_len}
use Rattle.surf_kinds.specs.declared.site.SiteState.{SiteState}
use Rattle.surf_kinds.specs.declared.site.SpeciesId.{SpeciesId}
use Rattle.trace_text.specs.Lines.{count_of, counts_of}
use Rattle.frames.specs.States.{lowered, raised}

-- one at the species' own number, and none at the others
abbrev pub one_at : ℕ → ℕ → ℕ
one_at species k = cond (species == k) 1 0

pub one_own : (k : ℕ) → one_at k k ≡ 1
one_own k = grind (arith, nat_tests)

one_other : (species k : ℕ) → species ≢ k → one_at species k ≡ 0
one_other species k h = grind (arith, nat_tests)

-- a site with another species
other_than : ℕ → SiteState
other_than k = record { species = record { 0 = k + 1 }; version = 0; last = 0 }

other_none : (k : ℕ) → one_at (other_than k).species.0 k ≡ 0
unfolding other_than
other_none k = one_other (k + 1) k (λ e. omega (arith, e))

pub one_rewritten : (sites : List SiteState) (i : ℕ) (x d : SiteState) (k : ℕ) → i < length sites → count_of (set sites i x) k + one_at (get_or sites i d).species.0 k ≡ count_of sites k + one_at x.species.0 k
one_rewritten sites i x d k h = sum_by-set (λ (s : SiteState). cond (s.species.0 == k) 1 0) sites i x d h

-- what stands at a site is counted
pub one_stands : (sites : List SiteState) (i : ℕ) (d : SiteState) (k : ℕ) → i < length sites → one_at (get_or sites i d).species.0 k ≤ count_of sites k
one_stands sites i d k h = omega (arith, one_rewritten sites i (other_than k) d k h, other_none k)

-- and what stands at two sites is counted twice
pub two_stand : (sites : List SiteState) (i j : ℕ) (d : SiteState) (k : ℕ) → j ≢ i → i < length sites → j < length sites → one_at (get_or sites i d).species.0 k + one_at (get_or sites j d).species.0 k ≤ count_of sites k
two_stand sites i j d k apart hi hj =
    let there : one_at (get_or sites j d).species.0 k ≤ count_of (set sites i (other_than k)) k =
    subst (λ (s : SiteState). one_at s.species.0 k ≤ count_of (set sites i (other_than k)) k) (get_or-set_other sites i j (other_than k) d apart)
    (one_stands (set sites i (other_than k)) j d k (omega (arith, hj, length-set sites i (other_than k)))) in
    omega (arith, one_rewritten sites i (other_than k) d k hi, other_none k, there)

-- The list of the counts

pub counts-length : (sites : List SiteState) (n : ℕ) → length (counts_of sites n) ≡ n
counts-length sites n = length-map-range_with_len (count_of sites) 0 n

pub counts-index : (sites : List SiteState) (n k : ℕ) → k < n → slice_index (counts_of sites n) k ≡ count_of sites k
counts-index sites n k h = get_or-map-range_with_len (count_of sites) 0 n k k 0 h (omega arith)

pub lowered-index : (xs : List ℕ) (s : SpeciesId) (k : ℕ) → k < length xs → slice_index (lowered xs s) k ≡ slice_index xs k - one_at s.0 k
lowered-index xs s k h =
    elim (eqb_tells s.0 k) [
      | inl p ↦
          let own : one_at s.0 k ≡ 1 = ap (λ t. cond t 1 0) p.0 in
          let here : slice_index (set xs s.0 (slice_index xs s.0 - 1)) k ≡ slice_index xs k - 1 =
          subst (λ m. slice_index (set xs m (slice_index xs m - 1)) k ≡ slice_index xs k - 1) (sym p.1) (get_or-set_same xs k (slice_index xs k - 1) 0 h) in
          omega (arith, own, here)
      | inr p ↦
          let none : one_at s.0 k ≡ 0 = ap (λ t. cond t 1 0) p.0 in
          let here : slice_index (set xs s.0 (slice_index xs s.0 - 1)) k ≡ slice_index xs k = get_or-set_other xs s.0 k (slice_index xs s.0 - 1) 0 (λ e. p.1 (sym e)) in
          omega (arith, none, here)
    ]

pub raised-index : (xs : List ℕ) (s : SpeciesId) (k : ℕ) → k < length xs → slice_index (raised xs s) k ≡ slice_index xs k + one_at s.0 k
raised-index xs s k h =
    elim (eqb_tells s.0 k) [
      | inl p ↦
          let own : one_at s.0 k ≡ 1 = ap (λ t. cond t 1 0) p.0 in
          let here : slice_index (set xs s.0 (slice_index xs s.0 + 1)) k ≡ slice_index xs k + 1 =
          subst (λ m. slice_index (set xs m (slice_index xs m + 1)) k ≡ slice_index xs k + 1) (sym p.1) (get_or-set_same xs k (slice_index xs k + 1) 0 h) in
          omega (arith, own, here)
      | inr p ↦
          let none : one_at s.0 k ≡ 0 = ap (λ t. cond t 1 0) p.0 in
          let here : slice_index (set xs s.0 (slice_index xs s.0 + 1)) k ≡ slice_index xs k = get_or-set_other xs s.0 k (slice_index xs s.0 + 1) 0 (λ e. p.1 (sym e)) in
          omega (arith, none, here)
    ]

pub lowered-long : (xs : List ℕ) (s : SpeciesId) → length (lowered xs s) ≡ length xs
lowered-long xs s = length-set xs s.0 (slice_index xs s.0 - 1)

pub raised-long : (xs : List ℕ) (s : SpeciesId) → length (raised xs s) ≡ length xs
raised-long xs s = length-set xs s.0 (slice_index xs s.0 + 1)

-- the same number at each index, at the default 0
same_numbers : (xs ys : List ℕ) → length xs ≡ length ys → ((k : ℕ) → k < length xs → slice_index xs k ≡ slice_index ys k) → xs ≡ ys
same_numbers xs ys long each =
    same_lists xs ys long
    (λ k d h. Rattle.std.proofs.lemmas.List.get_or_default xs k d 0 h ∙ (each k h ∙ Rattle.std.proofs.lemmas.List.get_or_default ys k 0 d (omega (arith, h, long))))

pub counts_one : (sites : List SiteState) (n i : ℕ) (x d : SiteState) → i < length sites → counts_of (set sites i x) n ≡ raised (lowered (counts_of sites n) (get_or sites i d).species) x.species
counts_one sites n i x d inside =
    let old = counts_of sites n in
    let a = (get_or sites i d).species in
    let low = lowered old a in
    same_numbers (counts_of (set sites i x) n) (raised low x.species) (omega (arith, counts-length (set sites i x) n, counts-length sites n, lowered-long old a, raised-long low x.species))
    (λ k h.
    let within : k < n = omega (arith, h, counts-length (set sites i x) n) in
    let e : slice_index old k ≡ count_of sites k = counts-index sites n k within in
    let f : slice_index (counts_of (set sites i x) n) k ≡ count_of (set sites i x) k = counts-index (set sites i x) n k within in
    let down : slice_index low k ≡ slice_index old k - one_at a.0 k = lowered-index old a k (omega (arith, within, counts-length sites n)) in
    let up : slice_index (raised low x.species) k ≡ slice_index low k + one_at x.species.0 k = raised-index low x.species k (omega (arith, within, counts-length sites n, lowered-long old a)) in
    omega (arith, e, f, down, up, one_rewritten sites i x d k inside, one_stands sites i d k inside))

pub counts_two : (sites : List SiteState) (n i j : ℕ) (x y d : SiteState) → j ≢ i → i < length sites → j < length sites
    → counts_of (set (set sites i x) j y) n ≡ raised (raised (lowered (lowered (counts_of sites n) (get_or sites i d).species) (get_or sites j d).species) x.species) y.species
counts_two sites n i j x y d apart hi hj =
    let old = counts_of sites n in
    let a = (get_or sites i d).species in
    let c = (get_or sites j d).species in
    let low = lowered old a in
    let lower = lowered low c in
    let up = raised lower x.species in
    let new = set (set sites i x) j y in
    let same : get_or (set sites i x) j d ≡ get_or sites j d = get_or-set_other sites i j x d apart in
    same_numbers (counts_of new n) (raised up y.species)
    (omega (arith, counts-length new n, counts-length sites n, lowered-long old a, lowered-long low c, raised-long lower x.species, raised-long up y.species))
    (λ k h.
    let within : k < n = omega (arith, h, counts-length new n) in
    let e : slice_index old k ≡ count_of sites k = counts-index sites n k within in
    let f : slice_index (counts_of new n) k ≡ count_of new k = counts-index new n k within in
    let d1 : slice_index low k ≡ slice_index old k - one_at a.0 k = lowered-index old a k (omega (arith, within, counts-length sites n)) in
    let d2 : slice_index lower k ≡ slice_index low k - one_at c.0 k = lowered-index low c k (omega (arith, within, counts-length sites n, lowered-long old a)) in
    let u1 : slice_index up k ≡ slice_index lower k + one_at x.species.0 k = raised-index lower x.species k (omega (arith, within, counts-length sites n, lowered-long old a, lowered-long low c)) in
    let u2 : slice_index (raised up y.species) k ≡ slice_index up k + one_at y.species.0 k =
    raised-index up y.species k (omega (arith, within, counts-length sites n, lowered-long old a, lowered-long low c, raised-long lower x.species)) in
    let first = one_rewritten sites i x d k hi in
    let second : count_of new k + one_at c.0 k ≡ count_of (set sites i x) k + one_at y.species.0 k =
    subst (λ (s : SiteState). count_of new k + one_at s.species.0 k ≡ count_of (set sites i x) k + one_at y.species.0 k) same
    (one_rewritten (set sites i x) j y d k (omega (arith, hj, length-set sites i x))) in
    omega (arith, e, f, d1, d2, u1, u2, first, second, two_stand sites i j d k apart hi hj))
