-- What stands at a site after an event depends on what stood there.
use Rattle.std.proofs.Common.{◌≡◌, ℕ, ◌⊎◌, inl, inr, List, Option, Some, None, refl, sym, ap, ◌∙◌}
use Rattle.std.specs.Prelude.{slice_get}
use Rattle.std.proofs.lemmas.Bool.Decides.{eqb_tells}
use Rattle.surf_kinds.specs.declared.rule.Rule.{Rule}
use Rattle.surf_kinds.specs.declared.site.SiteState.{SiteState}
use Rattle.surf_kinds.specs.declared.site.SpeciesId.{SpeciesId}
use Rattle.surf_kinds.specs.declared.site.SiteId.{SiteId}
use Rattle.surf_kinds.specs.declared.site.Sites.{Sites}
use Rattle.surf_kinds.specs.declared.event.Event.{Event}
use Rattle.lattice.specs.Shape.{Shape}
use Rattle.lattice.specs.Places.{sites_of}
use Rattle.lattice.specs.Surface.{after, rewrite, rewrite_second, rewrite_all, first_product_of, second_product_of}
use Rattle.lattice.proofs.LawLemmas.{rewrite_other, rewrite_same}

none_or_state : (o : Option SiteState) → (o ≡ None) ⊎ ((s : SiteState) × (o ≡ Some s))
none_or_state None = inl refl
none_or_state (Some s) = inr (s, refl)

rewrite_local : (product : SpeciesId → SpeciesId) (time i k : ℕ) (a b : List SiteState) → slice_get a k ≡ slice_get b k → slice_get (rewrite product time i (slice_get a i) a) k ≡ slice_get (rewrite product time i (slice_get b i) b) k
rewrite_local product time i k a b h =
    elim (eqb_tells k i) [
      | inr q ↦ rewrite_other product time i (slice_get a i) a k q.1 ∙ (h ∙ sym (rewrite_other product time i (slice_get b i) b k q.1))
      | inl q ↦
          let here : slice_get a i ≡ slice_get b i = ap (slice_get a) (sym q.1) ∙ (h ∙ ap (slice_get b) q.1) in
          elim (none_or_state (slice_get a i)) [
            | inl none ↦
                ap (λ o. slice_get (rewrite product time i o a) k) none
                ∙ (h ∙ sym (ap (λ o. slice_get (rewrite product time i o b) k) (sym here ∙ none)))
            | inr some ↦
                ap (slice_get (rewrite product time i (slice_get a i) a)) q.1
                ∙ (rewrite_same product time i a some.0 some.1
                ∙ (sym (rewrite_same product time i b some.0 (sym here ∙ some.1))
                ∙ sym (ap (slice_get (rewrite product time i (slice_get b i) b)) q.1)))
          ]
    ]

second_local : (product : SpeciesId → SpeciesId) (time : ℕ) (j : Option SiteId) (k : ℕ) (a b : List SiteState) → slice_get a k ≡ slice_get b k → slice_get (rewrite_second product time j a) k ≡ slice_get (rewrite_second product time j b) k
second_local product time None k a b h = h
second_local product time (Some j) k a b h = rewrite_local product time j.0 k a b h

all_local : (rules : List Rule) (e : Event) (o : Option Sites) (k : ℕ) (a b : List SiteState) → slice_get a k ≡ slice_get b k → slice_get (rewrite_all rules e o a) k ≡ slice_get (rewrite_all rules e o b) k
all_local rules e None k a b h = h
all_local rules e (Some p) k a b h = second_local (second_product_of rules e) e.time p.second k _ _ (rewrite_local (first_product_of rules e) e.time p.first.0 k a b h)

pub after_local : (l : Shape) (rules : List Rule) (e : Event) (k : ℕ) (a b : List SiteState) → slice_get a k ≡ slice_get b k → slice_get (after l rules a e) k ≡ slice_get (after l rules b e) k
after_local l rules e k a b h = all_local rules e (sites_of l e.place.0) k a b h
