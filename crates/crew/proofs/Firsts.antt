-- A region at its start stays at its start while it gets its rings.
use Rattle.std.proofs.Common.{◌≡◌, ℕ, zero, suc, ◌+◌, ◌⊎◌, inl, inr, Bool, true, false, List, [], ◌∷◌, ◌++◌, length, refl, sym, ap, ◌∙◌, subst, arith, cond, Option, Some}
use Rattle.std.specs.Prelude.{slice_get}
use Rattle.std.proofs.lemmas.Bool.{both_ways, cases_Bool, cases_eq}
use Rattle.std.proofs.lemmas.List.{length_push}
use Rattle.std.proofs.lemmas.Option.{none-some}
use Rattle.surf_kinds.specs.declared.event.Event.{Event}
use Rattle.surf_kinds.specs.Keys.{key_of, AllKeys}
use Rattle.surface_state.specs.SurfaceView.{SurfaceView}
use Rattle.plan.specs.Network.{Network}
use Rattle.regions.specs.Bands.{Bands, owner_of}
use Rattle.border.specs.Stacked.{stack_of}
use Rattle.region_run.specs.declared.region.Region.{Region}
use Rattle.region_run.specs.declared.side.Ends.{Ends}
use Rattle.region_run.specs.Sides.{SideView, is_other}
use Rattle.region_run.specs.Regions.{part_of, line_to, stack_in, IsRegion}
use Rattle.region_run.specs.Starts.{IsFirst, first_base}
use Rattle.crew.specs.Rounds.{IsFirstRegion}
use Rattle.crew.specs.Rings.{IsJoined, AreMade}

pushed : {X : Type 0} → (xs : List X) (x y : X) (n : ℕ) → slice_get (xs ++ x ∷ []) n ≡ Some y → (slice_get xs n ≡ Some y) ⊎ ((n ≡ length xs) × (x ≡ y))
pushed [] x y zero h = inr (refl, cc)
pushed [] x y (suc n) h = absurd (none-some y h)
pushed (z ∷ xs) x y zero h = inl h
pushed (z ∷ xs) x y (suc n) h =
    elim (pushed xs x y n h) [
      | inl a ↦ inl a
      | inr p ↦ inr (ap suc p.0, p.1)
    ]

pub one_more_made : (n : Network) (b : Bands) (start : SurfaceView) (k : ℕ) (rs : List Region) (r : Region) → AreMade n b start k rs → IsFirst n b k start r → AreMade n b start (k + 1) (rs ++ r ∷ [])
one_more_made n b start k rs r made first =
    record {
      count = length_push rs r ∙ ap (λ m. m + 1) made.count;
      each = λ i t h.
          elim (pushed rs r t i h) [
            | inl g ↦ made.each i t g
            | inr p ↦ subst (λ (x : Region). IsFirst n b i start x) p.1 (subst (λ m. IsFirst n b m start r) (sym (p.0 ∙ made.count)) first)
          ];
    }

pub first_region : (n : Network) (b : Bands) (i : ℕ) (start : SurfaceView) (r : Region) → IsFirst n b i start r → IsFirstRegion n b i start r
first_region n b i start r f =
    record { id = f.id_is; timeline = f.timeline; clock = f.clock; stack = f.stack; line = f.line; totals = f.totals; region = f.region }

pick : {X : Type 0} → (p q : Bool) (x y z : X) → x ≡ z → y ≡ z → cond p x (cond q y z) ≡ z
pick true q x y z h g = h
pick false true x y z h g = g
pick false false x y z h g = refl

-- events that only a neighbour may have put, from none of whom there is any
no_events : (b : Bands) (s : Option SideView) (es : List Event) → AllKeys (λ k. is_other s (owner_of b k.place.0) ≡ true) es → ((l : ℕ) → is_other s l ≡ true → es ≡ []) → es ≡ []
no_events b s [] a h = refl
no_events b s (e ∷ es) a h = h (owner_of b (key_of e).place.0) a.0

module _ (n : Network) (b : Bands) (i : ℕ) (start : SurfaceView) (r t : Region) (f : IsFirstRegion n b i start r) where
  region_is : IsRegion n b 0 (first_base start) r
  region_is = f.region 0 (omega arith)

  first_empty : stack_of r.stacks 0 ≡ []
  first_empty =
      no_events b r.first (stack_of r.stacks 0) region_is.from_first
      (λ l h. ap (λ p. cond p (stack_of r.stacks 0) (cond (is_other r.second l) (stack_of r.stacks 1) [])) (sym h) ∙ f.stack l)

  second_empty : stack_of r.stacks 1 ≡ []
  second_empty = no_events b r.second (stack_of r.stacks 1) region_is.from_second at
    where
      at : (l : ℕ) → is_other r.second l ≡ true → stack_of r.stacks 1 ≡ []
      at l h =
          elim (cases_Bool (is_other r.first l)) [
            | inl p ↦ absurd (both_ways (is_other r.second l) (region_is.sited.apart l p) h)
            | inr p ↦
                ap (λ q. cond q (stack_of r.stacks 1) []) (sym h)
                ∙ ap (λ q. cond q (stack_of r.stacks 0) (cond (is_other r.second l) (stack_of r.stacks 1) [])) (sym p) ∙ f.stack l
          ]

  pub joined_first : (slots other : ℕ) (e : Ends) → IsJoined slots other e r t → IsFirstRegion n b i start t
  joined_first slots other e j =
      record {
        id = ap (λ (x : Region). x.id) j.attached.same ∙ f.id;
        timeline = ap (λ (x : Region). (part_of x).timeline) j.attached.same ∙ f.timeline;
        clock = ap (λ (x : Region). (part_of x).clock) j.attached.same ∙ f.clock;
        stack = λ l.
            ap (λ (x : Region). stack_in x.first x.second x.stacks l) j.attached.same
            ∙ pick (is_other t.first l) (is_other t.second l) (stack_of r.stacks 0) (stack_of r.stacks 1) [] first_empty second_empty;
        line = λ l.
            elim (cases_eq l other) [
              | inl q ↦ ap (line_to t) q ∙ j.attached.line ∙ ap (λ s. s ++ line_to r other) j.ends.sent ∙ f.line other
              | inr q ↦ (j.attached.others l q).1 ∙ f.line l
            ];
        totals = ap (λ (x : Region). x.totals) j.attached.same ∙ f.totals;
        region = λ until short. j.region n b until (first_base start) (f.region until short);
      }
