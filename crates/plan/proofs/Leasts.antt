-- The least event of a surface.
use Rattle.std.proofs.Common.{◌≡◌, ℕ, zero, suc, ◌*◌, ◌<◌, ◌≤◌, List, Option, Some, None, false, inl, inr, refl, sym, ap, ◌∙◌, subst, arith, if◌then◌else◌}
use Rattle.std.specs.Prelude.{nat_le}
use Rattle.std.proofs.lemmas.Option.{none-some, same_Some}
use Rattle.std.proofs.lemmas.Bool.{le-leb, leb-true}
use Rattle.std.proofs.lemmas.Bool.Decides.{eqb_tells, nat_tests}
use Rattle.surf_kinds.specs.declared.site.SiteState.{SiteState}
use Rattle.surf_kinds.specs.declared.event.Event.{Event}
use Rattle.surf_kinds.specs.declared.event.Key.{Key}
use Rattle.surf_kinds.specs.Keys.{earlier, is_earlier, key_of, ◌is_upto◌}
use Rattle.surf_kinds.specs.Steps.{end_of_places}
use Rattle.surf_kinds.proofs.Order.{key_cases, le_refl, le_le, lt_to_le, upto_both}
use Rattle.lattice.proofs.LawLemmas.{place_below}
use Rattle.plan.specs.Network.{Network}
use Rattle.plan.specs.Next.{next, least_upto, least}
use Rattle.plan.specs.History.{within, due}
use Rattle.plan.proofs.Standing.{picked, either}
use Rattle.plan.proofs.Offers.{of_next, of_states, offer_place}

-- there is an event, and g isn't before it
pub record IsUpto (o : Option Event) (g : Event) : Type 0 where
  pub event : Event
  pub is : o ≡ Some event
  pub upto : key_of event is_upto key_of g

upto_right : (a b : Option Event) (g : Event) → b ≡ Some g → IsUpto (earlier a b) g
upto_right None b g h = record { event = g; is = h; upto = le_refl (key_of g) }
upto_right (Some x) None g h = absurd (none-some g h)
upto_right (Some x) (Some y) g h =
    let e : y ≡ g = same_Some y g h in
    elim (key_cases (key_of y) (key_of x)) [
      | inl p ↦ record { event = y; is = ap (λ b. if b then Some y else Some x) p; upto = subst (λ (z : Event). key_of y is_upto key_of z) e (le_refl (key_of y)) }
      | inr p ↦ record { event = x; is = ap (λ b. if b then Some y else Some x) p; upto = subst (λ (z : Event). key_of x is_upto key_of z) e p }
    ]

upto_left : (a b : Option Event) (g : Event) → IsUpto a g → IsUpto (earlier a b) g
upto_left None b g h = absurd (none-some h.event h.is)
upto_left (Some x) None g h = h
upto_left (Some x) (Some y) g h =
    let first : key_of x is_upto key_of g = subst (λ (z : Event). key_of z is_upto key_of g) (sym (same_Some x h.event h.is)) h.upto in
    elim (key_cases (key_of y) (key_of x)) [
      | inl p ↦ record { event = y; is = ap (λ b. if b then Some y else Some x) p; upto = le_le (key_of y) (key_of x) (key_of g) (lt_to_le (key_of y) (key_of x) p) first }
      | inr p ↦ record { event = x; is = ap (λ b. if b then Some y else Some x) p; upto = first }
    ]

upto_places : (n : Network) (sites : List SiteState) (m place : ℕ) (g : Event) → place < m → next n sites place ≡ Some g → IsUpto (least_upto n sites m) g
upto_places n sites zero place g lt h = absurd (omega (arith, lt))
upto_places n sites (suc m) place g lt h =
    elim (eqb_tells place m) [
      | inl p ↦ upto_right _ _ g (ap (next n sites) (sym p.1) ∙ h)
      | inr p ↦ upto_left _ _ g (upto_places n sites m place g (omega (arith, lt, p.1)) h)
    ]

-- what a place offers isn't before the least event
pub least_upto_all : (n : Network) (sites : List SiteState) (place : ℕ) (g : Event) → next n sites place ≡ Some g → IsUpto (least n sites) g
least_upto_all n sites place g h =
    let o = of_next n sites place g h in
    let d = of_states n.lattice sites place o.states o.states_is in
    upto_places n sites (end_of_places (n.lattice.rows * n.lattice.cols)) place g (place_below n.lattice place d.pair d.is) h

next_of_least : (n : Network) (sites : List SiteState) (m : ℕ) (e : Event) → least_upto n sites m ≡ Some e → next n sites e.place.0 ≡ Some e
next_of_least n sites zero e h = absurd (none-some e h)
next_of_least n sites (suc m) e h =
    elim (either _ _ e h) [
      | inl p ↦ next_of_least n sites m e p
      | inr p ↦ ap (next n sites) (offer_place n sites m e p) ∙ p
    ]

-- the least event is the next one of its place
pub least_next : (n : Network) (sites : List SiteState) (e : Event) → least n sites ≡ Some e → next n sites e.place.0 ≡ Some e
least_next n sites e h = next_of_least n sites (end_of_places (n.lattice.rows * n.lattice.cols)) e h

-- a place's next event that no other is before is the least
pub least_is : (n : Network) (sites : List SiteState) (e : Event) → next n sites e.place.0 ≡ Some e → ((place : ℕ) (f : Event) → next n sites place ≡ Some f → is_earlier f e ≡ false) → least n sites ≡ Some e
least_is n sites e h first =
    let b = least_upto_all n sites e.place.0 e h in
    let is : next n sites b.event.place.0 ≡ Some b.event = least_next n sites b.event b.is in
    let same : key_of b.event ≡ key_of e = upto_both (key_of b.event) (key_of e) b.upto (first b.event.place.0 b.event is) in
    b.is ∙ (sym is ∙ (ap (λ (k : Key). next n sites k.place.0) same ∙ h))

none_upto : (n : Network) (sites : List SiteState) (m : ℕ) → ((place : ℕ) → next n sites place ≡ None) → least_upto n sites m ≡ None
none_upto n sites zero h = refl
none_upto n sites (suc m) h = ap (λ o. earlier o (next n sites m)) (none_upto n sites m h) ∙ h m

-- where no place offers an event, there is no least
pub least_none : (n : Network) (sites : List SiteState) → ((place : ℕ) → next n sites place ≡ None) → least n sites ≡ None
least_none n sites h = none_upto n sites (end_of_places (n.lattice.rows * n.lattice.cols)) h

-- Within a duration

pub within_is : (until : ℕ) (o : Option Event) (e : Event) → within until o ≡ Some e → (o ≡ Some e) × (e.time ≤ until)
within_is until None e h = absurd (none-some e h)
within_is until (Some x) e h =
    let p = picked (nat_le x.time until) x e h in
    (ap (λ y. Some y) p.1, subst (λ (y : Event). y.time ≤ until) p.1 (leb-true x.time until p.0))

pub within_some : (until : ℕ) (e : Event) → e.time ≤ until → within until (Some e) ≡ Some e
within_some until e le = ap (λ t. if t then Some e else None) (le-leb e.time until le)

-- what is due is the next event of its place, and within the duration
pub due_next : (n : Network) (until : ℕ) (sites : List SiteState) (e : Event) → due n until sites ≡ Some e → (next n sites e.place.0 ≡ Some e) × (e.time ≤ until)
due_next n until sites e h = let p = within_is until (least n sites) e h in (least_next n sites e p.0, p.1)

-- where a place offers an event within the duration, one is due that isn't after it
pub due_upto : (n : Network) (until : ℕ) (sites : List SiteState) (place : ℕ) (g : Event) → g.time ≤ until → next n sites place ≡ Some g → IsUpto (due n until sites) g
due_upto n until sites place g le h =
    let b = least_upto_all n sites place g h in
    record { event = b.event; is = ap (within until) b.is ∙ within_some until b.event (in_time b.event b.upto); upto = b.upto }
  where
    in_time : (e : Event) → key_of e is_upto key_of g → e.time ≤ until
    in_time e u = grind (arith, nat_tests, u)

-- what a place offers isn't before what is due
pub due_first : (n : Network) (until : ℕ) (sites : List SiteState) (e g : Event) (place : ℕ) → due n until sites ≡ Some e → next n sites place ≡ Some g → key_of e is_upto key_of g
due_first n until sites e g place d h =
    let b = least_upto_all n sites place g h in
    let same : b.event ≡ e = same_Some b.event e (sym b.is ∙ (within_is until (least n sites) e d).0) in
    subst (λ (x : Event). key_of x is_upto key_of g) same b.upto
