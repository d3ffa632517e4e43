-- What a place offers after an event: the event that it offered, or a later one.
use Rattle.std.proofs.Common.{◌≡◌, ℕ, ◌<◌, List, length, get_or, Option, Some, None, ◌⊎◌, inl, inr, refl, sym, ap, ◌∙◌, subst, arith}
use Rattle.std.specs.Prelude.{slice_get}
use Rattle.std.proofs.lemmas.Option.{none-some, same_Some, slice_get_within, slice_get-get_or}
use Rattle.std.proofs.lemmas.Bool.Decides.{eqb_tells}
use Rattle.surf_kinds.specs.declared.rule.Rule.{Rule}
use Rattle.surf_kinds.specs.declared.site.SiteState.{SiteState}
use Rattle.surf_kinds.specs.declared.site.SiteId.{SiteId}
use Rattle.surf_kinds.specs.declared.site.Sites.{Sites}
use Rattle.surf_kinds.specs.declared.event.Event.{Event}
use Rattle.lattice.specs.Shape.{Shape}
use Rattle.lattice.specs.Places.{sites_of, IsAmong, HasSite}
use Rattle.lattice.specs.Surface.{after}
use Rattle.lattice.proofs.LawLemmas.{after_length, after_none, after_first, after_second, after_other}
use Rattle.plan.specs.Network.{Network}
use Rattle.plan.specs.Next.{next}
use Rattle.plan.specs.Sharing.{ShareSite}
use Rattle.plan.proofs.Offers.{of_next, of_states, offer_later, next_local}

none_or_place : (o : Option Sites) → (o ≡ None) ⊎ ((p : Sites) × (o ≡ Some p))
none_or_place None = inl refl
none_or_place (Some p) = inr (p, refl)

-- a site that is none of the event's place stays
pub after_elsewhere : (l : Shape) (rules : List Rule) (sites : List SiteState) (e : Event) (k : ℕ) → (HasSite l e.place.0 k → ⊥) → slice_get (after l rules sites e) k ≡ slice_get sites k
after_elsewhere l rules sites e k h =
    elim (none_or_place (sites_of l e.place.0)) [
      | inl none ↦ ap (λ x. slice_get x k) (after_none l rules sites e none)
      | inr p ↦ after_other l rules sites e p.0 k p.1
          (λ q. h (record { sites = p.0; is = p.1; among = inl (sym q) }))
          (λ n some q. h (record { sites = p.0; is = p.1; among = inr (some ∙ ap (λ i. Some (record { 0 = i })) (sym q)) }))
    ]

-- a site of the event's place has the event's time
pub after_here : (l : Shape) (rules : List Rule) (sites : List SiteState) (e : Event) (k : ℕ) (s : SiteState) → HasSite l e.place.0 k → slice_get (after l rules sites e) k ≡ Some s → s.last ≡ e.time
after_here l rules sites e k s has at =
    let within : k < length sites = omega (arith, slice_get_within (after l rules sites e) k s at, after_length l rules sites e) in
    let old : (t : SiteState) × (slice_get sites k ≡ Some t) = (get_or sites k s, slice_get-get_or sites k s within) in
    elim has.among [
      | inl q ↦ sym (ap (λ (y : SiteState). y.last) (same_Some _ s (sym (after_first l rules sites e has.sites old.0 has.is (ap (slice_get sites) q ∙ old.1)) ∙ (ap (slice_get (after l rules sites e)) q ∙ at))))
      | inr q ↦ sym (ap (λ (y : SiteState). y.last) (same_Some _ s (sym (after_second l rules sites e has.sites (record { 0 = k }) old.0 has.is q old.1) ∙ at)))
    ]

-- Whether two places share a site

-- whether a site is one of these
among : (k : ℕ) (p : Sites) → IsAmong k p ⊎ (IsAmong k p → ⊥)
among k p =
    elim (eqb_tells p.first.0 k) [
      | inl e ↦ inl (inl e.1)
      | inr e ↦ second p.second refl e.1
    ]
  where
    second : (o : Option SiteId) → p.second ≡ o → (p.first.0 ≡ k → ⊥) → IsAmong k p ⊎ (IsAmong k p → ⊥)
    second None is differs = inr (λ h. elim h [ inl f ↦ differs f | inr s ↦ none-some _ (sym is ∙ s) ])
    second (Some j) is differs =
        elim (eqb_tells j.0 k) [
          | inl e ↦ inl (inr (is ∙ ap (λ i. Some (record { 0 = i })) e.1))
          | inr e ↦ inr (λ h. elim h [ inl f ↦ differs f | inr s ↦ e.1 (ap (λ (i : SiteId). i.0) (same_Some j _ (sym is ∙ s))) ])
        ]

-- the site of the one place is a site of the other, or not
has_or_not : (l : Shape) (p k : ℕ) → HasSite l p k ⊎ (HasSite l p k → ⊥)
has_or_not l p k =
    elim (none_or_place (sites_of l p)) [
      | inl none ↦ inr (λ h. none-some h.sites (sym none ∙ h.is))
      | inr x ↦ elim (among k x.0) [
        | inl a ↦ inl (record { sites = x.0; is = x.1; among = a })
        | inr a ↦ inr (λ h. a (subst (IsAmong k) (same_Some h.sites x.0 (sym h.is ∙ x.1)) h.among))
      ]
    ]

pub shares : (l : Shape) (p q : ℕ) → ShareSite l p q ⊎ (ShareSite l p q → ⊥)
shares l p q =
    elim (none_or_place (sites_of l p)) [
      | inl none ↦ inr (λ h. none-some h.first.sites (sym none ∙ h.first.is))
      | inr x ↦ elim (has_or_not l q x.0.first.0) [
        | inl a ↦ inl (record { site = x.0.first.0; first = record { sites = x.0; is = x.1; among = inl refl }; second = a })
        | inr a ↦ second x.0 x.1 x.0.second refl a
      ]
    ]
  where
    only : (x : Sites) → sites_of l p ≡ Some x → (o : Option SiteId) → x.second ≡ o → (HasSite l q x.first.0 → ⊥) → ((j : SiteId) → o ≡ Some j → HasSite l q j.0 → ⊥) → ShareSite l p q → ⊥
    only x is o some differs none h =
        elim (subst (IsAmong h.site) (same_Some h.first.sites x (sym h.first.is ∙ is)) h.first.among) [
          | inl f ↦ differs (subst (HasSite l q) (sym f) h.second)
          | inr s ↦ none (record { 0 = h.site }) (sym some ∙ s) h.second
        ]

    second : (x : Sites) → sites_of l p ≡ Some x → (o : Option SiteId) → x.second ≡ o → (HasSite l q x.first.0 → ⊥) → ShareSite l p q ⊎ (ShareSite l p q → ⊥)
    second x is None some differs = inr (only x is None some differs (λ j h. absurd (none-some j h)))
    second x is (Some j) some differs =
        elim (has_or_not l q j.0) [
          | inl a ↦ inl (record { site = j.0; first = record { sites = x; is = is; among = inr some }; second = a })
          | inr a ↦ inr (only x is (Some j) some differs (λ i same h. a (subst (λ (y : SiteId). HasSite l q y.0) (sym (same_Some j i same)) h)))
        ]

-- After an event

-- a place that shares no site with the event's offers what it offered
pub offer_apart : (n : Network) (sites : List SiteState) (e : Event) (place : ℕ) → (ShareSite n.lattice e.place.0 place → ⊥) → next n (after n.lattice n.rules sites e) place ≡ next n sites place
offer_apart n sites e place apart =
    next_local n place (after n.lattice n.rules sites e) sites (λ k has.
    after_elsewhere n.lattice n.rules sites e k (λ here. apart (record { site = k; first = here; second = has })))

-- one that shares a site offers a later event
pub offer_shared : (n : Network) (sites : List SiteState) (f e : Event) (place : ℕ) → ShareSite n.lattice f.place.0 place → next n (after n.lattice n.rules sites f) place ≡ Some e → f.time < e.time
offer_shared n sites f e place h o =
    let s = offer_later n (after n.lattice n.rules sites f) place h.site e o h.second in
    omega (arith, s.2, after_here n.lattice n.rules sites f h.site s.0 h.first s.1)

-- what a place offers after an event it offered before, or it is later than the event
pub offer_after : (n : Network) (sites : List SiteState) (f e : Event) (place : ℕ) → next n (after n.lattice n.rules sites f) place ≡ Some e → (next n sites place ≡ Some e) ⊎ (f.time < e.time)
offer_after n sites f e place o =
    elim (shares n.lattice f.place.0 place) [
      | inl h ↦ inr (offer_shared n sites f e place h o)
      | inr h ↦ inl (sym (offer_apart n sites f place h) ∙ o)
    ]

-- the event's own place offers a later one
pub offer_again : (n : Network) (sites : List SiteState) (f e : Event) → next n (after n.lattice n.rules sites f) f.place.0 ≡ Some e → f.time < e.time
offer_again n sites f e o =
    let p = of_next n (after n.lattice n.rules sites f) f.place.0 e o in
    let d = of_states n.lattice (after n.lattice n.rules sites f) f.place.0 p.states p.states_is in
    let has : HasSite n.lattice f.place.0 d.pair.first.0 = record { sites = d.pair; is = d.is; among = inl refl } in
    offer_shared n sites f e f.place.0 (record { site = d.pair.first.0; first = has; second = has }) o
