-- Columns and the states that they stand for.
use Rattle.std.proofs.Common.{◌≡◌, ℕ, zero, suc, ◌+◌, ◌*◌, ◌<◌, List, [], ◌∷◌, length, Some, ◌==◌, refl, sym, ap, ◌∙◌, arith, set, get_or, count_by, cond, replicate, map}
use Rattle.std.specs.Prelude.{slice_get, All}
use Rattle.std.proofs.lemmas.List.Elements.{All-cons, All-nil, All-head, All-tail}
use Rattle.std.proofs.lemmas.List.Sums.{sum_by-set, sum_by-cons}
use Rattle.surf_kinds.specs.declared.site.SiteState.{SiteState}
use Rattle.surf_kinds.specs.declared.site.SpeciesId.{SpeciesId}
use Rattle.lattice.specs.Shape.{Shape}
use Rattle.lattice.specs.Surface.{first_surface, fresh}
use Rattle.surface_state.specs.declared.before.Mark.{Mark}
use Rattle.surface_state.specs.SurfaceView.{SurfaceView}
use Rattle.surface_state.specs.Columns.{state_of, states, one_at, AreCounts, AreColumns}

abbrev pub the_view : Shape → ℕ → List SiteState → SurfaceView
the_view l species_count sites = record { lattice = l; species_count = species_count; sites = sites }

pub states-length : (species : List SpeciesId) (marks : List Mark) → length marks ≡ length species → length (states species marks) ≡ length species
states-length [] marks h = refl
states-length (s ∷ species) [] h = absurd (omega (arith, h))
states-length (s ∷ species) (m ∷ marks) h = ap (λ n. suc n) (states-length species marks (omega (arith, h)))

-- there is a state for each site
pub long_of : (l : Shape) (species : List SpeciesId) (marks : List Mark) (counts : List ℕ) → AreColumns l species marks counts → length (states species marks) ≡ l.rows * l.cols
long_of l species marks counts c = states-length species marks (c.marks_long ∙ sym c.species_long) ∙ c.species_long

-- the species of the states are the column
pub states-species : (species : List SpeciesId) (marks : List Mark) → length marks ≡ length species → map (λ (s : SiteState). s.species) (states species marks) ≡ species
states-species [] marks h = refl
states-species (s ∷ species) [] h = absurd (omega (arith, h))
states-species (s ∷ species) (m ∷ marks) h = ap (λ l. s ∷ l) (states-species species marks (omega (arith, h)))

pub states-set : (species : List SpeciesId) (marks : List Mark) (i : ℕ) (s : SpeciesId) (m : Mark) → states (set species i s) (set marks i m) ≡ set (states species marks) i (state_of s m)
states-set [] marks i s m = refl
states-set (x ∷ species) [] zero s m = refl
states-set (x ∷ species) [] (suc i) s m = refl
states-set (x ∷ species) (y ∷ marks) zero s m = refl
states-set (x ∷ species) (y ∷ marks) (suc i) s m = ap (λ l. state_of x y ∷ l) (states-set species marks i s m)

pub states-get : (species : List SpeciesId) (marks : List Mark) (i : ℕ) (d : SpeciesId) (e : Mark) → i < length species → i < length marks → slice_get (states species marks) i ≡ Some (state_of (get_or species i d) (get_or marks i e))
states-get [] marks i d e h k = absurd (omega (arith, h))
states-get (x ∷ species) [] i d e h k = absurd (omega (arith, k))
states-get (x ∷ species) (y ∷ marks) zero d e h k = refl
states-get (x ∷ species) (y ∷ marks) (suc i) d e h k = states-get species marks i d e (omega (arith, h)) (omega (arith, k))

pub states-count : (species : List SpeciesId) (marks : List Mark) (k : ℕ) → length marks ≡ length species → count_by (λ (s : SiteState). s.species.0 == k) (states species marks) ≡ count_by (λ (s : SpeciesId). s.0 == k) species
states-count [] marks k h = refl
states-count (s ∷ species) [] k h = absurd (omega (arith, h))
states-count (s ∷ species) (m ∷ marks) k h =
    sum_by-cons (λ (x : SiteState). cond (x.species.0 == k) 1 0) (state_of s m) (states species marks)
    ∙ ap (λ n. one_at s k + n) (states-count species marks k (omega (arith, h)))
    ∙ sym (sum_by-cons (λ (x : SpeciesId). cond (x.0 == k) 1 0) s species)

pub states-All : (species : List SpeciesId) (marks : List Mark) (n : ℕ) → All (λ (s : SpeciesId). s.0 < n) species → All (λ (s : SiteState). s.species.0 < n) (states species marks)
states-All [] marks n a = All-nil (λ (s : SiteState). s.species.0 < n)
states-All (s ∷ species) [] n a = All-nil (λ (s : SiteState). s.species.0 < n)
states-All (s ∷ species) (m ∷ marks) n a =
    All-cons (λ (s : SiteState). s.species.0 < n) (state_of s m) (states species marks)
    (All-head (λ (s : SpeciesId). s.0 < n) s species a)
    (states-All species marks n (All-tail (λ (s : SpeciesId). s.0 < n) s species a))

-- cells with fresh marks are the first surface
pub states-fresh : (cells : List SpeciesId) (n : ℕ) → length cells ≡ n → states cells (replicate n (record { version = 0; last = 0 })) ≡ first_surface cells
states-fresh [] n h = refl
states-fresh (c ∷ cells) zero h = absurd (omega (arith, h))
states-fresh (c ∷ cells) (suc n) h = ap (λ l. fresh c ∷ l) (states-fresh cells n (omega (arith, h)))

pub same_view : (l : Shape) (k m : ℕ) (xs ys : List SiteState) → k ≡ m → xs ≡ ys → the_view l k xs ≡ the_view l m ys
same_view l k m xs ys p q = ap (λ n. the_view l n xs) p ∙ ap (λ zs. the_view l m zs) q
