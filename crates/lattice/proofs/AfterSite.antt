-- What an event leaves at each site.
use Rattle.std.proofs.Common.{◌≡◌, ◌≢◌, ℕ, ◌<◌, List, length, Option, Some, None, ◌⊎◌, inl, inr, refl, sym, ap, ◌∙◌, arith}
use Rattle.std.specs.Prelude.{slice_get}
use Rattle.std.proofs.lemmas.Option.{none-some, same_Some, slice_get_within}
use Rattle.std.proofs.lemmas.Bool.Decides.{eqb_tells}
use Rattle.surf_kinds.specs.declared.rule.Rule.{Rule}
use Rattle.surf_kinds.specs.declared.site.SiteState.{SiteState}
use Rattle.surf_kinds.specs.declared.site.SpeciesId.{SpeciesId}
use Rattle.surf_kinds.specs.declared.site.SiteId.{SiteId}
use Rattle.surf_kinds.specs.declared.site.Sites.{Sites}
use Rattle.surf_kinds.specs.declared.event.Event.{Event}
use Rattle.lattice.specs.Shape.{Shape}
use Rattle.lattice.specs.Places.{sites_of}
use Rattle.lattice.specs.Surface.{first_product_of, second_product_of, rewritten, rewrite, rewrite_second, rewrite_all, after, Rewritten}
use Rattle.lattice.proofs.Apart.{sites_differ, none_or_some}
use Rattle.lattice.proofs.Writes.{rewrite_other, rewrite_same, rewrite_length, there}

-- the surface after the rewriting of the first site
abbrev pub halfway : List Rule → List SiteState → Event → Sites → List SiteState
halfway rules sites e p = rewrite (first_product_of rules e) e.time p.first.0 (slice_get sites p.first.0) sites

after_both : (l : Shape) (rules : List Rule) (sites : List SiteState) (e : Event) (p : Sites) → sites_of l e.place.0 ≡ Some p → after l rules sites e ≡ rewrite_second (second_product_of rules e) e.time p.second (halfway rules sites e p)
after_both l rules sites e p is = ap (λ o. rewrite_all rules e o sites) is

second_other : (product : SpeciesId → SpeciesId) (time k : ℕ) (o : Option SiteId) (sites : List SiteState) → ((n : SiteId) → o ≡ Some n → k ≢ n.0) → slice_get (rewrite_second product time o sites) k ≡ slice_get sites k
second_other product time k None sites h = refl
second_other product time k (Some n) sites h = rewrite_other product time n.0 (slice_get sites n.0) sites k (h n refl)

second_length : (product : SpeciesId → SpeciesId) (time : ℕ) (o : Option SiteId) (sites : List SiteState) → length (rewrite_second product time o sites) ≡ length sites
second_length product time None sites = refl
second_length product time (Some n) sites = rewrite_length product time n.0 (slice_get sites n.0) sites

all_length : (rules : List Rule) (e : Event) (o : Option Sites) (sites : List SiteState) → length (rewrite_all rules e o sites) ≡ length sites
all_length rules e None sites = refl
all_length rules e (Some p) sites = second_length (second_product_of rules e) e.time p.second (halfway rules sites e p) ∙ rewrite_length (first_product_of rules e) e.time p.first.0 (slice_get sites p.first.0) sites

-- an event leaves the number of sites
pub after_length : (l : Shape) (rules : List Rule) (sites : List SiteState) (e : Event) → length (after l rules sites e) ≡ length sites
after_length l rules sites e = all_length rules e (sites_of l e.place.0) sites

-- where the number is no place, nothing is rewritten
pub after_none : (l : Shape) (rules : List Rule) (sites : List SiteState) (e : Event) → sites_of l e.place.0 ≡ None → after l rules sites e ≡ sites
after_none l rules sites e none = ap (λ o. rewrite_all rules e o sites) none

-- the first site
pub after_first : (l : Shape) (rules : List Rule) (sites : List SiteState) (e : Event) (p : Sites) (s : SiteState) → sites_of l e.place.0 ≡ Some p → slice_get sites p.first.0 ≡ Some s → slice_get (after l rules sites e) p.first.0 ≡ Some (rewritten (first_product_of rules e s.species) e.time s)
after_first l rules sites e p s is at =
    ap (λ x. slice_get x p.first.0) (after_both l rules sites e p is)
    ∙ second_other (second_product_of rules e) e.time p.first.0 p.second (halfway rules sites e p) (λ n second same. sites_differ l e.place.0 p n is second (sym same))
    ∙ rewrite_same (first_product_of rules e) e.time p.first.0 sites s at

-- the second site
pub after_second : (l : Shape) (rules : List Rule) (sites : List SiteState) (e : Event) (p : Sites) (n : SiteId) (s : SiteState) → sites_of l e.place.0 ≡ Some p → p.second ≡ Some n → slice_get sites n.0 ≡ Some s → slice_get (after l rules sites e) n.0 ≡ Some (rewritten (second_product_of rules e s.species) e.time s)
after_second l rules sites e p n s is second at =
    ap (λ x. slice_get x n.0) (after_both l rules sites e p is)
    ∙ ap (λ o. slice_get (rewrite_second (second_product_of rules e) e.time o (halfway rules sites e p)) n.0) second
    ∙ rewrite_same (second_product_of rules e) e.time n.0 (halfway rules sites e p) s
    (rewrite_other (first_product_of rules e) e.time p.first.0 (slice_get sites p.first.0) sites n.0 (sites_differ l e.place.0 p n is second) ∙ at)

-- any other site
pub after_other : (l : Shape) (rules : List Rule) (sites : List SiteState) (e : Event) (p : Sites) (k : ℕ) → sites_of l e.place.0 ≡ Some p → k ≢ p.first.0 → ((n : SiteId) → p.second ≡ Some n → k ≢ n.0) → slice_get (after l rules sites e) k ≡ slice_get sites k
after_other l rules sites e p k is first second =
    ap (λ x. slice_get x k) (after_both l rules sites e p is)
    ∙ second_other (second_product_of rules e) e.time k p.second (halfway rules sites e p) second
    ∙ rewrite_other (first_product_of rules e) e.time p.first.0 (slice_get sites p.first.0) sites k first

at_place : (l : Shape) (rules : List Rule) (sites : List SiteState) (e : Event) (p : Sites) (k : ℕ) (s : SiteState) → sites_of l e.place.0 ≡ Some p → k < length sites → slice_get (after l rules sites e) k ≡ Some s → (slice_get sites k ≡ Some s) ⊎ Rewritten l sites e k s
at_place l rules sites e p k s is within at =
    let old = there sites k within in
    elim (eqb_tells k p.first.0) [
      | inl first ↦
          let new = same_Some _ s (sym (after_first l rules sites e p old.0 is (ap (slice_get sites) (sym first.1) ∙ old.1)) ∙ ap (slice_get (after l rules sites e)) (sym first.1) ∙ at) in
          inr (record {
            has = record { sites = p; is = is; among = inl (sym first.1) };
            old = old.0;
            was = old.1;
            version = sym (ap (λ (x : SiteState). x.version) new);
            last = sym (ap (λ (x : SiteState). x.last) new);
          })
      | inr first ↦ elim (none_or_some p.second) [
        | inl none ↦ inl (sym (after_other l rules sites e p k is first.1 (λ n some same. none-some n (sym none ∙ some))) ∙ at)
        | inr second ↦ elim (eqb_tells k second.0.0) [
          | inl same ↦
              let new = same_Some _ s (sym (after_second l rules sites e p second.0 old.0 is second.1 (ap (slice_get sites) (sym same.1) ∙ old.1)) ∙ ap (slice_get (after l rules sites e)) (sym same.1) ∙ at) in
              inr (record {
                has = record { sites = p; is = is; among = inr (second.1 ∙ ap (λ n. Some (record { 0 = n })) (sym same.1)) };
                old = old.0;
                was = old.1;
                version = sym (ap (λ (x : SiteState). x.version) new);
                last = sym (ap (λ (x : SiteState). x.last) new);
              })
          | inr other ↦
              inl (sym (after_other l rules sites e p k is first.1 (λ n some same. other.1 (same ∙ ap (λ (x : SiteId). x.0) (same_Some n second.0 (sym some ∙ second.1))))) ∙ at)
        ]
      ]
    ]

-- each site is as it was, or was rewritten
pub after_site : (l : Shape) (rules : List Rule) (sites : List SiteState) (e : Event) (k : ℕ) (s : SiteState) → slice_get (after l rules sites e) k ≡ Some s → (slice_get sites k ≡ Some s) ⊎ Rewritten l sites e k s
after_site l rules sites e k s at =
    elim (none_or_some (sites_of l e.place.0)) [
      | inl none ↦ inl (ap (λ x. slice_get x k) (sym (after_none l rules sites e none)) ∙ at)
      | inr p ↦ at_place l rules sites e p.0 k s p.1 (omega (arith, slice_get_within (after l rules sites e) k s at, after_length l rules sites e)) at
    ]
