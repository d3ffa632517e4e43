-- Entries of a queue that are set one after the other.
use Rattle.std.proofs.Common.{◌≡◌, ℕ, suc, ◌+◌, ◌-◌, ◌*◌, ◌<◌, ◌≤◌, Bool, true, List, length, Option, Some, None, ◌⊎◌, inl, inr, refl, sym, ap, ◌∙◌, subst, arith, set, slice_index_or}
use Rattle.std.specs.Prelude.{All, IfSome, IsSome, nat_le, nat_lt, slice_get}
use Rattle.std.proofs.lemmas.Bool.{and_parts, false≢true, leb-true}
use Rattle.std.proofs.lemmas.Bool.Decides.{eqb_tells}
use Rattle.std.proofs.lemmas.List.{get_or-set_same, get_or-set_other, get_or_default, length-set}
use Rattle.std.proofs.lemmas.Option.{none-some, same_Some, slice_get_within, get_or_from_slice_get}
use Rattle.surf_kinds.specs.declared.site.SiteState.{SiteState}
use Rattle.surf_kinds.specs.declared.site.SiteId.{SiteId}
use Rattle.surf_kinds.specs.declared.site.Sites.{Sites}
use Rattle.surf_kinds.specs.declared.event.Event.{Event}
use Rattle.surf_kinds.specs.declared.place.Place.{Place}
use Rattle.surf_kinds.specs.Steps.{end_of_places}
use Rattle.event_queue.specs.QueueView.{QueueView, HasPlace}
use Rattle.lattice.specs.Shape.{Shape}
use Rattle.lattice.specs.Places.{sites_of, IsPlace, IsAmong, HasSite, ArePlacesOf}
use Rattle.lattice.specs.Ranges.{is_in_range}
use Rattle.lattice.specs.Rising.{number_at, IsListed}
use Rattle.lattice.specs.declared.place_range.PlaceRange.{PlaceRange}
use Rattle.lattice.proofs.LawLemmas.{place_below}
use Rattle.plan.specs.Network.{Network}
use Rattle.plan.specs.Next.{next}
use Rattle.plan.specs.Sharing.{ShareSite}
use Rattle.plan.proofs.LawLemmas.{offer_place, next_local, shares}
use Rattle.next_events.specs.Entries.{all_places, Covers, CoversRange, IsUpToDate, AreUpToDate, IsRefreshed, IsDone}

-- what holds of each site of a list holds of one that is looked up
pub at_site : (P : SiteState → Type 0) (sites : List SiteState) (k : ℕ) (s : SiteState) → All P sites → slice_get sites k ≡ Some s → P s
at_site P sites k s all h = subst P (get_or_from_slice_get sites k s s h) (all k s (slice_get_within sites k s h))

-- a next event is at its place
pub event_place : (n : Network) (sites : List SiteState) (place : Place) (o : Option Event) → o ≡ next n sites place.0 → IfSome o (λ e. e.place ≡ place)
event_place n sites place None h = tt
event_place n sites place (Some e) h = ap (λ k. record { 0 = k }) (offer_place n sites place.0 e (sym h))

pub has_still : (n : Network) (sites : List SiteState) (has : ℕ → Bool) (among : ℕ → Type 0) (q r : QueueView) (k : ℕ) → IsRefreshed n sites has among q r → HasPlace q (record { 0 = k }) → HasPlace r (record { 0 = k })
has_still n sites has among q r k h p = (omega (arith, h.first, p.0), omega (arith, h.first, h.count, p.1))

pub covers_still : (n : Network) (sites : List SiteState) (has : ℕ → Bool) (among : ℕ → Type 0) (l : Shape) (q r : QueueView) → IsRefreshed n sites has among q r → Covers has l q → Covers has l r
covers_still n sites has among l q r h c k is_in place = has_still n sites has among q r k h (c k is_in place)

-- an entry that has its place's next event keeps it, or gets it again
pub up_to_date_still : (n : Network) (sites : List SiteState) (has : ℕ → Bool) (among : ℕ → Type 0) (q r : QueueView) (k : ℕ) → IsRefreshed n sites has among q r → HasPlace q (record { 0 = k }) → IsUpToDate n sites q k → IsUpToDate n sites r k
up_to_date_still n sites has among q r k h p right = elim (h.others k p) [ inl same ↦ same ∙ right | inr new ↦ new.2 ]

pub done_still : (n : Network) (sites : List SiteState) (has : ℕ → Bool) (among : ℕ → Type 0) (q r : QueueView) (k : ℕ) → IsRefreshed n sites has among q r → IsDone n sites has q k → IsDone n sites has r k
done_still n sites has among q r k h done is_in =
    let d = done is_in in
    (has_still n sites has among q r k h d.0, up_to_date_still n sites has among q r k h d.0 d.1)

-- nothing is set
pub nothing_set : (n : Network) (sites : List SiteState) (has : ℕ → Bool) (among : ℕ → Type 0) (q : QueueView) → ((k : ℕ) → has k ≡ true → IsPlace n.lattice k → among k → IsUpToDate n sites q k) → IsRefreshed n sites has among q q
nothing_set n sites has among q h = record { first = refl; count = refl; set = h; others = λ k p. inl refl }

-- one entry is set
pub one_set : (n : Network) (sites : List SiteState) (has : ℕ → Bool) (q r : QueueView) (place : ℕ) (o : Option Event) → has place ≡ true → HasPlace q (record { 0 = place }) → o ≡ next n sites place
    → r ≡ record { first = q.first; events = set q.events (place - q.first) o } → IsRefreshed n sites has (λ k. k ≡ place) q r
one_set n sites has q r place o is_in p is new =
    subst (IsRefreshed n sites has (λ k. k ≡ place) q) (sym new) (record {
      first = refl;
      count = length-set q.events (place - q.first) o;
      set = λ k a b same. subst (λ j. slice_index_or (set q.events (place - q.first) o) (j - q.first) None ≡ next n sites j) (sym same) here;
      others = λ k w. elim (eqb_tells k place) [
        | inl e ↦ inr (ap has e.1 ∙ is_in, e.1, subst (λ j. slice_index_or (set q.events (place - q.first) o) (j - q.first) None ≡ next n sites j) (sym e.1) here)
        | inr e ↦ inl (get_or-set_other q.events (place - q.first) (k - q.first) o None (λ s. e.1 (omega (arith, s, p.0, w.0))))
      ];
    })
  where
    here : slice_index_or (set q.events (place - q.first) o) (place - q.first) None ≡ next n sites place
    here = get_or-set_same q.events (place - q.first) o None (omega (arith, p.0, p.1)) ∙ is

-- some entries are set, and then others
pub then_set : (n : Network) (sites : List SiteState) (has : ℕ → Bool) (A B C : ℕ → Type 0) (q r s : QueueView) → Covers has n.lattice q → IsRefreshed n sites has A q r → IsRefreshed n sites has B r s
    → ((k : ℕ) → C k → A k ⊎ B k) → ((k : ℕ) → A k → C k) → ((k : ℕ) → B k → C k) → IsRefreshed n sites has C q s
then_set n sites has A B C q r s c f g parts a b = record {
  first = g.first ∙ f.first;
  count = g.count ∙ f.count;
  set = λ k is_in place in_c. elim (parts k in_c) [
    | inl x ↦ up_to_date_still n sites has B r s k g (has_still n sites has A q r k f (c k is_in place)) (f.set k is_in place x)
    | inr x ↦ g.set k is_in place x
  ];
  others = λ k p. elim (g.others k (has_still n sites has A q r k f p)) [
    | inl same ↦ elim (f.others k p) [
      | inl before ↦ inl (same ∙ before)
      | inr new ↦ inr (new.0, a k new.1, same ∙ new.2)
    ]
    | inr new ↦ inr (new.0, b k new.1, new.2)
  ];
}

-- The places of a site

pub listed_has : (l : Shape) (s : ℕ) (places : List Place) (k : ℕ) → ArePlacesOf l s places → k < length places → HasSite l (number_at places k) s
listed_has l s places k are lt = (are.exactly (number_at places k)).1 (k, lt, get_or_default places k (record { 0 = number_at places k }) (record { 0 = 0 }) lt)

-- the first i places of a list were set, and now one more
pub listed_more : (n : Network) (sites : List SiteState) (has : ℕ → Bool) (q r s : QueueView) (places : List Place) (i : ℕ) → Covers has n.lattice q → IsRefreshed n sites has (IsListed places i) q r
    → IsRefreshed n sites has (λ k. k ≡ number_at places i) r s → IsRefreshed n sites has (IsListed places (i + 1)) q s
listed_more n sites has q r s places i c f g =
    then_set n sites has (IsListed places i) (λ k. k ≡ number_at places i) (IsListed places (i + 1)) q r s c f g
    (λ k h. elim (eqb_tells h.0 i) [ inl e ↦ inr (sym h.2 ∙ ap (number_at places) e.1) | inr e ↦ inl (h.0, omega (arith, h.1, e.1), h.2) ])
    (λ k h. (h.0, omega (arith, h.1), h.2))
    (λ k h. (i, omega arith, sym h))

-- in the end all places of the site
pub listed_all : (n : Network) (sites : List SiteState) (has : ℕ → Bool) (q r : QueueView) (places : List Place) (s i : ℕ) → ArePlacesOf n.lattice s places → length places ≤ i → i ≤ length places → IsRefreshed n sites has (IsListed places i) q r
    → IsRefreshed n sites has (λ k. HasSite n.lattice k s) q r
listed_all n sites has q r places s i are end within f = record {
  first = f.first;
  count = f.count;
  set = λ k is_in place h. f.set k is_in place (listed k h);
  others = λ k p. elim (f.others k p) [ inl same ↦ inl same | inr new ↦ inr (new.0, subst (λ j. HasSite n.lattice j s) new.1.2 (listed_has n.lattice s places new.1.0 are (omega (arith, new.1.1, within))), new.2) ];
}
  where
    listed : (k : ℕ) → HasSite n.lattice k s → IsListed places i k
    listed k h =
        let at = (are.exactly k).0 h in
        (at.0, omega (arith, at.1, end), ap (λ (p : Place). p.0) (get_or_default places at.0 (record { 0 = 0 }) (record { 0 = k }) at.1 ∙ at.2))

-- The places round a place

-- the place itself, or one that has the site
abbrev AroundFirst : Shape → ℕ → ℕ → ℕ → Type 0
AroundFirst l place s k = (k ≡ place) ⊎ HasSite l k s

itself : (l : Shape) (place : ℕ) (p : Sites) → sites_of l place ≡ Some p → (k : ℕ) → k ≡ place → ShareSite l place k
itself l place p is k same =
    let has : HasSite l place p.first.0 = record { sites = p; is = is; among = inl refl } in
    record { site = p.first.0; first = has; second = subst (λ j. HasSite l j p.first.0) (sym same) has }

share_by : (l : Shape) (place s : ℕ) (p : Sites) → sites_of l place ≡ Some p → IsAmong s p → (k : ℕ) → HasSite l k s → ShareSite l place k
share_by l place s p is among k h = record { site = s; first = record { sites = p; is = is; among = among }; second = h }

shared_among : (l : Shape) (place : ℕ) (p : Sites) → sites_of l place ≡ Some p → (k : ℕ) → (h : ShareSite l place k) → IsAmong h.site p
shared_among l place p is k h = subst (IsAmong h.site) (same_Some h.first.sites p (sym h.first.is ∙ is)) h.first.among

pub round_none : (n : Network) (sites : List SiteState) (has : ℕ → Bool) (place : ℕ) (q : QueueView) → sites_of n.lattice place ≡ None → IsRefreshed n sites has (ShareSite n.lattice place) q q
round_none n sites has place q none = nothing_set n sites has (ShareSite n.lattice place) q (λ k is_in at h. absurd (none-some h.first.sites (sym none ∙ h.first.is)))

pub round_one : (n : Network) (sites : List SiteState) (has : ℕ → Bool) (place : ℕ) (p : Sites) (q r s : QueueView) → sites_of n.lattice place ≡ Some p → p.second ≡ None → Covers has n.lattice q
    → IsRefreshed n sites has (λ k. k ≡ place) q r → IsRefreshed n sites has (λ k. HasSite n.lattice k p.first.0) r s → IsRefreshed n sites has (ShareSite n.lattice place) q s
round_one n sites has place p q r s is none c f g =
    then_set n sites has (λ k. k ≡ place) (λ k. HasSite n.lattice k p.first.0) (ShareSite n.lattice place) q r s c f g
    (λ k h. elim (shared_among n.lattice place p is k h) [
      | inl first ↦ inr (subst (HasSite n.lattice k) (sym first) h.second)
      | inr second ↦ absurd (none-some _ (sym none ∙ second))
    ])
    (itself n.lattice place p is)
    (share_by n.lattice place p.first.0 p is (inl refl))

pub round_two : (n : Network) (sites : List SiteState) (has : ℕ → Bool) (place : ℕ) (p : Sites) (j : SiteId) (q r s t : QueueView) → sites_of n.lattice place ≡ Some p → p.second ≡ Some j → Covers has n.lattice q
    → IsRefreshed n sites has (λ k. k ≡ place) q r → IsRefreshed n sites has (λ k. HasSite n.lattice k p.first.0) r s → IsRefreshed n sites has (λ k. HasSite n.lattice k j.0) s t
    → IsRefreshed n sites has (ShareSite n.lattice place) q t
round_two n sites has place p j q r s t is some c f g h =
    then_set n sites has (AroundFirst n.lattice place p.first.0) (λ k. HasSite n.lattice k j.0) (ShareSite n.lattice place) q s t c
    (then_set n sites has (λ k. k ≡ place) (λ k. HasSite n.lattice k p.first.0) (AroundFirst n.lattice place p.first.0) q r s c f g (λ k x. x) (λ k x. inl x) (λ k x. inr x))
    h
    (λ k x. elim (shared_among n.lattice place p is k x) [
      | inl first ↦ inl (inr (subst (HasSite n.lattice k) (sym first) x.second))
      | inr second ↦ inr (subst (λ (y : SiteId). HasSite n.lattice k y.0) (same_Some _ j (sym second ∙ some)) x.second)
    ])
    (λ k x. elim x [ inl a ↦ itself n.lattice place p is k a | inr a ↦ share_by n.lattice place p.first.0 p is (inl refl) k a ])
    (share_by n.lattice place j.0 p is (inr some))

-- The places that a queue covers

place_within : (l : Shape) (place : ℕ) → IsPlace l place → place < end_of_places (l.rows * l.cols)
place_within l place h = go (sites_of l place) refl h
  where
    go : (o : Option Sites) → sites_of l place ≡ o → IsSome o → place < end_of_places (l.rows * l.cols)
    go None is g = absurd (false≢true g)
    go (Some p) is g = place_below l place p is

-- a queue over a range covers its places
pub covers_range : (l : Shape) (r : PlaceRange) (q : QueueView) → CoversRange r q → Covers (is_in_range r) l q
covers_range l r q c k is_in place = (low (and_parts (nat_le r.first k) (nat_lt k r.end) is_in), high (and_parts (nat_le r.first k) (nat_lt k r.end) is_in))
  where
    low : (nat_le r.first k ≡ true) × (nat_lt k r.end ≡ true) → q.first ≤ k
    low h = let le : r.first ≤ k = leb-true r.first k h.0 in omega (arith, le, c.first)

    high : (nat_le r.first k ≡ true) × (nat_lt k r.end ≡ true) → k < q.first + length q.events
    high h = let lt : suc k ≤ r.end = leb-true (suc k) r.end h.1 in omega (arith, lt, c.end)

-- one over all places of a lattice covers every place
pub covers_all : (l : Shape) (q : QueueView) → CoversRange (all_places l) q → Covers (λ k. true) l q
covers_all l q c k is_in place =
    let below = place_within l k place in
    (omega (arith, c.first), omega (arith, c.end, below))

-- From one surface to another

-- a queue that was up to date before the sites of a place changed is so after it is refreshed round the place
pub up_to_date_after : (n : Network) (has : ℕ → Bool) (old new : List SiteState) (place : ℕ) (q r : QueueView) → ((s : ℕ) → (HasSite n.lattice place s → ⊥) → slice_get new s ≡ slice_get old s) → AreUpToDate n old has q
    → IsRefreshed n new has (ShareSite n.lattice place) q r → AreUpToDate n new has r
up_to_date_after n has old new place q r same right h k is_in p =
    let was : HasPlace q (record { 0 = k }) = (omega (arith, h.first, p.0), omega (arith, h.first, h.count, p.1)) in
    elim (h.others k was) [
      | inr set ↦ set.2
      | inl stays ↦ elim (shares n.lattice place k) [
        | inl share ↦ h.set k is_in (is_place k share.second) share
        | inr apart ↦ stays ∙ (right k is_in was ∙ sym (next_local n k new old (λ s has_s. same s (λ in_place. apart (record { site = s; first = in_place; second = has_s })))))
      ]
    ]
  where
    some_of : (o : Option Sites) (x : Sites) → o ≡ Some x → IsSome o
    some_of None x g = absurd (none-some x g)
    some_of (Some y) x g = refl

    is_place : (k : ℕ) {s : ℕ} → HasSite n.lattice k s → IsPlace n.lattice k
    is_place k g = some_of (sites_of n.lattice k) g.sites g.is
