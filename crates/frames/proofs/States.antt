-- The state after a list that grows by one change.
use Rattle.std.proofs.Common.{◌≡◌, ℕ, ◌≤◌, ◌+◌, ◌-◌, ◌<◌, ◌^◌, min, List, [], ◌∷◌, ◌++◌, length, fold, slice_index, slice_set, refl, ap, ◌∙◌, arith, Option, Some, None}
use Rattle.std.proofs.lemmas.List.Sums.{fold-append, sum_by-set, get_or-le-sum_by}
use Rattle.std.proofs.lemmas.List.{get_or_past}
use native.Mathlib.Decide.{dec_le}
use Rattle.std.proofs.Math.ListN.{length-set}
use Rattle.surf_kinds.specs.declared.site.SpeciesId.{SpeciesId}
use Rattle.frames.specs.declared.sample.Change.{Change}
use Rattle.frames.specs.declared.sample.Sample.{Sample}
use Rattle.frames.specs.States.{lowered, raised, lowered_second, raised_second, without_old, next, after, opening, total, MayFollow, HasSecond}
use Rattle.frames.specs.Capped.{raised_capped, raised_capped_second, applied}

pub after-snoc : (start : List ℕ) (cs : List Change) (c : Change) → after start (cs ++ c ∷ []) ≡ next (after start cs) c
after-snoc start cs c = fold-append next (opening start) cs (c ∷ [])

fold_events : (s : Sample) (cs : List Change) → (fold next s cs).events ≡ s.events + length cs
fold_events s [] = omega arith
fold_events s (c ∷ cs) = let h = fold_events (next s c) cs in omega (arith, h)

pub after-events : (start : List ℕ) (cs : List Change) → (after start cs).events ≡ length cs
after-events start cs = let h = fold_events (opening start) cs in omega (arith, h)

lowered-length : (xs : List ℕ) (s : SpeciesId) → length (lowered xs s) ≡ length xs
lowered-length xs s = simp length-set

raised-length : (xs : List ℕ) (s : SpeciesId) → length (raised xs s) ≡ length xs
raised-length xs s = simp length-set

lowered_second-length : (xs : List ℕ) (p : Option (SpeciesId × SpeciesId)) → length (lowered_second xs p) ≡ length xs
lowered_second-length xs None = refl
lowered_second-length xs (Some p) = lowered-length xs p.0

raised_second-length : (xs : List ℕ) (p : Option (SpeciesId × SpeciesId)) → length (raised_second xs p) ≡ length xs
raised_second-length xs None = refl
raised_second-length xs (Some p) = raised-length xs p.1

without-length : (xs : List ℕ) (c : Change) → length (without_old xs c) ≡ length xs
without-length xs c = lowered_second-length (lowered xs c.out1) c.second ∙ lowered-length xs c.out1

next-length : (s : Sample) (c : Change) → length (next s c).counts ≡ length s.counts
next-length s c = raised_second-length (raised (without_old s.counts c) c.in1) c.second ∙ (raised-length (without_old s.counts c) c.in1 ∙ without-length s.counts c)

fold_length : (s : Sample) (cs : List Change) → length (fold next s cs).counts ≡ length s.counts
fold_length s [] = refl
fold_length s (c ∷ cs) = fold_length (next s c) cs ∙ next-length s c

pub after-length : (start : List ℕ) (cs : List Change) → length (after start cs).counts ≡ length start
after-length start cs = fold_length (opening start) cs

pub events_of : (start : List ℕ) (cs : List Change) (s : Sample) → s ≡ after start cs → s.events ≡ length cs
events_of start cs s e = ap (λ (x : Sample). x.events) e ∙ after-events start cs

pub length_of : (start : List ℕ) (cs : List Change) (s : Sample) → s ≡ after start cs → length s.counts ≡ length start
length_of start cs s e = ap (λ (x : Sample). length x.counts) e ∙ after-length start cs

capped : (n : ℕ) → n < 2 ^ 64 - 1 → min (n + 1) (2 ^ 64 - 1) ≡ n + 1
capped n h = omega arith

-- a count that isn't 0 stands in the list
stands : (xs : List ℕ) (i : ℕ) → 0 < slice_index xs i → i < length xs
stands xs i h = elim (dec_le (length xs) i) as (λ _. i < length xs) [ yes p ↦ absurd (omega (arith, get_or_past xs i 0 p)) | no n ↦ omega arith ]

lowered-total : (xs : List ℕ) (s : SpeciesId) → 0 < slice_index xs s.0 → total (lowered xs s) + 1 ≡ total xs
lowered-total xs s h =
    let at : s.0 < length xs = stands xs s.0 h in
    let e : total (slice_set xs s.0 (slice_index xs s.0 - 1)) + slice_index xs s.0 ≡ total xs + (slice_index xs s.0 - 1) = sum_by-set (λ (n : ℕ). n) xs s.0 (slice_index xs s.0 - 1) 0 at in
    omega arith

raised-total : (xs : List ℕ) (s : SpeciesId) → s.0 < length xs → total (raised xs s) ≡ total xs + 1
raised-total xs s at =
    let e : total (slice_set xs s.0 (slice_index xs s.0 + 1)) + slice_index xs s.0 ≡ total xs + (slice_index xs s.0 + 1) = sum_by-set (λ (n : ℕ). n) xs s.0 (slice_index xs s.0 + 1) 0 at in
    omega arith

-- a raise that stays below the number of sites is exact
raised-exact : (xs : List ℕ) (s : SpeciesId) → s.0 < length xs → total xs < 2 ^ 64 - 1 → raised_capped xs s ≡ raised xs s
raised-exact xs s at room =
    let le : slice_index xs s.0 ≤ total xs = get_or-le-sum_by (λ (n : ℕ). n) xs s.0 0 at in
    ap (λ (n : ℕ). slice_set xs s.0 n) (capped (slice_index xs s.0) (omega arith))

second-total : (xs : List ℕ) (s : SpeciesId) (p : Option (SpeciesId × SpeciesId)) → s.0 < length xs → HasSecond xs p → total (raised_second (raised (lowered_second xs p) s) p) ≡ total xs + 1
second-total xs s None at may = raised-total xs s at
second-total xs s (Some p) at may =
    let low = lowered xs p.0 in
    let first : s.0 < length low = omega (arith, lowered-length xs p.0) in
    let second : p.1.0 < length (raised low s) = omega (arith, raised-length low s, lowered-length xs p.0, may.1) in
    omega (arith, lowered-total xs p.0 may.0, raised-total low s first, raised-total (raised low s) p.1 second)

pub next-total : (s : Sample) (c : Change) → MayFollow s c → total (next s c).counts ≡ total s.counts
next-total s c may =
    let at : c.in1.0 < length (lowered s.counts c.out1) = omega (arith, lowered-length s.counts c.out1, may.1) in
    omega (arith, lowered-total s.counts c.out1 may.0, second-total (lowered s.counts c.out1) c.in1 c.second at may.2)

second-exact : (xs : List ℕ) (s : SpeciesId) (p : Option (SpeciesId × SpeciesId)) → s.0 < length xs → HasSecond xs p → total xs < 2 ^ 64 - 1
    → raised_capped_second (raised_capped (lowered_second xs p) s) p ≡ raised_second (raised (lowered_second xs p) s) p
second-exact xs s None at may room = raised-exact xs s at room
second-exact xs s (Some p) at may room =
    let low = lowered xs p.0 in
    let first : s.0 < length low = omega (arith, lowered-length xs p.0) in
    let second : p.1.0 < length (raised low s) = omega (arith, raised-length low s, lowered-length xs p.0, may.1) in
    let sum : total low + 1 ≡ total xs = lowered-total xs p.0 may.0 in
    let one : raised_capped low s ≡ raised low s = raised-exact low s first (omega arith) in
    let more : total (raised low s) ≡ total low + 1 = raised-total low s first in
    ap (λ l. raised_capped l p.1) one ∙ raised-exact (raised low s) p.1 second (omega arith)

-- where the number of sites fits, applying a change that may follow is the change itself
pub exact : (s : Sample) (c : Change) → s.events < 2 ^ 64 - 1 → total s.counts < 2 ^ 64 → MayFollow s c → applied s c ≡ next s c
exact s c room fits may =
    let low : total (lowered s.counts c.out1) + 1 ≡ total s.counts = lowered-total s.counts c.out1 may.0 in
    let at : c.in1.0 < length (lowered s.counts c.out1) = omega (arith, lowered-length s.counts c.out1, may.1) in
    let e = second-exact (lowered s.counts c.out1) c.in1 c.second at may.2 (omega arith) in
    λ i. record { events = capped s.events room i; time = c.time; counts = e i }
