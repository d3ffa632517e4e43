-- What is known of an event that a place offers.
use Rattle.std.proofs.Common.{◌≡◌, ℕ, ◌<◌, ◌≤◌, List, length, Option, Some, None, Bool, true, false, inl, inr, refl, sym, ap, ◌∙◌, ◌+◌, arith, subst, if◌then◌else◌}
use Rattle.std.specs.Prelude.{slice_get, option_and_then, is_some, nat_lt, not, ◌==◌, ◌&&◌, ◌||◌}
use Rattle.std.specs.Option.{option_map}
use Rattle.std.proofs.lemmas.Bool.{and_parts, false≢true}
use Rattle.std.proofs.lemmas.Option.{none-some, same_Some}
use Rattle.surf_kinds.specs.declared.rule.Rule.{Rule}
use Rattle.surf_kinds.specs.declared.rule.Rule.TheVariants.{One, Two}
use Rattle.surf_kinds.specs.declared.site.SiteId.{SiteId}
use Rattle.surf_kinds.specs.declared.site.Sites.{Sites}
use Rattle.surf_kinds.specs.declared.site.SiteState.{SiteState}
use Rattle.surf_kinds.specs.declared.site.SpeciesId.{SpeciesId}
use Rattle.surf_kinds.specs.declared.event.Event.{Event}
use Rattle.surf_kinds.specs.Channels.{rule_of_channel, way_of_channel}
use Rattle.lattice.specs.Shape.{Shape}
use Rattle.lattice.specs.Places.{sites_of, IsAmong, HasSite}
use Rattle.lattice.specs.Channels.{matches, are_ways_same, rate_of}
use Rattle.draws.specs.Draw.{draw_of}
use Rattle.rates.specs.Waits.{wait_of}
use Rattle.rates.proofs.LawLemmas.{wait-at_least}
use Rattle.plan.specs.Network.{Network}
use Rattle.plan.specs.declared.index.Reactants.{Reactants}
use Rattle.plan.specs.declared.index.Channel.{Channel}
use Rattle.plan.specs.Channels.{reactants_of}
use Rattle.plan.specs.Next.{with_second, states_at, latest, occurrence, armed, next_at, next}
use Rattle.plan.specs.Offered.{IsSecondState, AreStatesOf, IsOffered}
use Rattle.plan.specs.Products.{has_two, has_way, has_as_many, fits_place}
use Rattle.plan.proofs.Standing.{of_earliest, Stands, all_stand}

-- The states at the sites of a place

second_states : (sites : List SiteState) (j : Option SiteId) (s : SiteState) (st : SiteState × Option SiteState) → with_second sites j s ≡ Some st → (s ≡ st.0) × IsSecondState sites j st.1
second_states sites None s st h =
    let is : st ≡ (s, None) = sym (same_Some _ st h) in
    (ap (λ (x : SiteState × Option SiteState). x.0) (sym is), subst (λ (x : SiteState × Option SiteState). IsSecondState sites None x.1) (sym is) tt)
second_states sites (Some j) s st h = go (slice_get sites j.0) refl h
  where
    go : (o : Option SiteState) → slice_get sites j.0 ≡ o → option_map (λ (t : SiteState). let p : SiteState × Option SiteState = (s, Some t) in p) o ≡ Some st → (s ≡ st.0) × IsSecondState sites (Some j) st.1
    go None at g = absurd (none-some st g)
    go (Some t) at g =
        let is : st ≡ (s, Some t) = sym (same_Some _ st g) in
        (ap (λ (x : SiteState × Option SiteState). x.0) (sym is), subst (λ (x : SiteState × Option SiteState). IsSecondState sites (Some j) x.1) (sym is) at)

pub of_states : (l : Shape) (sites : List SiteState) (place : ℕ) (st : SiteState × Option SiteState) → states_at l sites place ≡ Some st → AreStatesOf l sites place st.0 st.1
of_states l sites place st h = go (sites_of l place) refl h
  where
    within : (p : Sites) → sites_of l place ≡ Some p → (o : Option SiteState) → slice_get sites p.first.0 ≡ o → option_and_then (with_second sites p.second) o ≡ Some st → AreStatesOf l sites place st.0 st.1
    within p is None at g = absurd (none-some st g)
    within p is (Some s) at g =
        let both = second_states sites p.second s st g in
        record { pair = p; is = is; first = at ∙ ap (λ x. Some x) both.0; second = both.1 }

    go : (o : Option Sites) → sites_of l place ≡ o → option_and_then (λ (p : Sites). option_and_then (with_second sites p.second) (slice_get sites p.first.0)) o ≡ Some st → AreStatesOf l sites place st.0 st.1
    go None is g = absurd (none-some st g)
    go (Some p) is g = within p is (slice_get sites p.first.0) refl g

-- The event that is offered

-- an event of a place whose sites have these states
pub record Offered (n : Network) (place : ℕ) (st : SiteState × Option SiteState) (e : Event) : Type 0 where
  pub at_place : e.place.0 ≡ place
  pub later : latest st.0 st.1 < e.time
  pub channel : Channel
  pub number : channel.number ≡ e.channel
  pub stands : Stands n.rules (reactants_of st.0 st.1) channel
  pub armed_is : armed n.seed place (occurrence st.0 st.1) (latest st.0 st.1) channel ≡ e

pub offered : (n : Network) (place : ℕ) (st : SiteState × Option SiteState) (e : Event) → next_at n place st.0 st.1 ≡ Some e → Offered n place st e
offered n place st e h =
    let r : Reactants = reactants_of st.0 st.1 in
    elim (of_earliest (Stands n.rules r) n.seed place (occurrence st.0 st.1) (latest st.0 st.1) None _ e (all_stand n.rules r (length n.rules)) h) [
      | inl p ↦ absurd (none-some e p)
      | inr p ↦ record {
        at_place = sym (ap (λ (x : Event). x.place.0) p.2);
        later = omega (arith, ap (λ (x : Event). x.time) p.2, wait-at_least p.0.rate (draw_of n.seed place (occurrence st.0 st.1) p.0.number));
        channel = p.0;
        number = ap (λ (x : Event). x.channel) p.2;
        stands = p.1;
        armed_is = p.2;
      }
    ]

-- an event of a place on a surface
pub record OfPlace (n : Network) (sites : List SiteState) (place : ℕ) (e : Event) : Type 0 where
  pub states : SiteState × Option SiteState
  pub states_is : states_at n.lattice sites place ≡ Some states
  pub event : Offered n place states e

pub of_next : (n : Network) (sites : List SiteState) (place : ℕ) (e : Event) → next n sites place ≡ Some e → OfPlace n sites place e
of_next n sites place e h = go (states_at n.lattice sites place) refl h
  where
    go : (o : Option (SiteState × Option SiteState)) → states_at n.lattice sites place ≡ o → option_and_then (λ (s : SiteState × Option SiteState). next_at n place s.0 s.1) o ≡ Some e → OfPlace n sites place e
    go None is g = absurd (none-some e g)
    go (Some st) is g = record { states = st; states_is = is; event = offered n place st e g }

-- all that is known of it
pub offer_is : (n : Network) (sites : List SiteState) (place : ℕ) (e : Event) → next n sites place ≡ Some e → IsOffered n sites place e
offer_is n sites place e h =
    let o = of_next n sites place e h in
    let s = o.states.0 in
    let t = o.states.1 in
    let c = o.event.channel in
    let stands = o.event.stands in
    let number : c.number ≡ e.channel = o.event.number in
    let wait : e.time ≡ latest s t + wait_of c.rate (draw_of n.seed place (occurrence s t) c.number) = sym (ap (λ (x : Event). x.time) o.event.armed_is) in
    record {
      state = s;
      second = t;
      states = of_states n.lattice sites place o.states o.states_is;
      at_place = o.event.at_place;
      rule = stands.rule;
      rule_is = ap (λ k. slice_get n.rules (rule_of_channel k)) (sym number) ∙ stands.at;
      matching = ap (λ k. matches stands.rule (way_of_channel k) s.species (option_map (λ (x : SiteState). x.species) t)) (sym number) ∙ stands.matching;
      time = wait ∙ (ap (λ f. latest s t + wait_of f (draw_of n.seed place (occurrence s t) c.number)) stands.rate_is ∙ ap (λ k. latest s t + wait_of (rate_of stands.rule) (draw_of n.seed place (occurrence s t) k)) number);
    }

-- it is at its place
pub offer_place : (n : Network) (sites : List SiteState) (place : ℕ) (e : Event) → next n sites place ≡ Some e → e.place.0 ≡ place
offer_place n sites place e h = (of_next n sites place e h).event.at_place

-- it comes after the last rewriting of each of the place's sites
pub offer_later : (n : Network) (sites : List SiteState) (place k : ℕ) (e : Event) → next n sites place ≡ Some e → HasSite n.lattice place k → (s : SiteState) × (slice_get sites k ≡ Some s) × (s.last < e.time)
offer_later n sites place k e h has =
    let o = of_next n sites place e h in
    let d = of_states n.lattice sites place o.states o.states_is in
    let same : has.sites ≡ d.pair = same_Some has.sites d.pair (sym has.is ∙ d.is) in
    elim (subst (IsAmong k) same has.among) [
      | inl q ↦ (o.states.0, ap (slice_get sites) (sym q) ∙ d.first, first o.states.0 o.states.1 o.event.later)
      | inr q ↦ second d.pair.second o.states.1 q d.second o.event.later
    ]
  where
    first : (s : SiteState) (t : Option SiteState) → latest s t < e.time → s.last < e.time
    first s None l = l
    first s (Some t) l = omega (arith, l)

    second : (j : Option SiteId) (t : Option SiteState) → j ≡ Some (record { 0 = k }) → IsSecondState sites j t → latest (of_next n sites place e h).states.0 t < e.time → (s : SiteState) × (slice_get sites k ≡ Some s) × (s.last < e.time)
    second None t is at l = absurd (none-some _ is)
    second (Some j) None is at l = absurd at
    second (Some j) (Some t) is at l = (t, ap (λ (i : SiteId). slice_get sites i.0) (sym (same_Some j _ is)) ∙ at, omega (arith, l))

-- and so at tick 1 or later
pub offer_from_one : (n : Network) (sites : List SiteState) (place : ℕ) (e : Event) → next n sites place ≡ Some e → 1 ≤ e.time
offer_from_one n sites place e h = let o = (of_next n sites place e h).event in omega (arith, o.later)

-- Its channel fits the place

-- a place with a second site or without one, and the rule of a channel
abbrev Suits : Bool → ℕ → Option Rule → Bool
Suits two way None = false
Suits two way (Some rule) = (if two then has_two rule else not (has_two rule)) && has_way way rule

matches_suits : (rule : Rule) (way : ℕ) (s : SpeciesId) (t : Option SiteState) → matches rule way s (option_map (λ (x : SiteState). x.species) t) ≡ true → Suits (is_some t) way (Some rule) ≡ true
matches_suits (One rate a c) way s None h = one (way == 0) (and_parts (way == 0) _ h).0
  where
    one : (w : Bool) → w ≡ true → (w || false) ≡ true
    one true g = refl
    one false g = g
matches_suits (One rate a c) way s (Some t) h = absurd (false≢true h)
matches_suits (Two rate a b c d) way s None h = absurd (false≢true h)
matches_suits (Two rate a b c d) way s (Some t) h = ways (way == 0) (not (are_ways_same (Two rate a b c d))) (s.0 == a.0 && t.species.0 == b.0) (s.0 == b.0) (t.species.0 == a.0) ((and_parts (nat_lt 0 rate.p) _ h).1)
  where
    ways : (w differ x y z : Bool) → (if w then x else (y && z && differ)) ≡ true → (w || differ) ≡ true
    ways true differ x y z g = refl
    ways false true x y z g = refl
    ways false false x true true g = g
    ways false false x true false g = g
    ways false false x false true g = g
    ways false false x false false g = g

suits_place : (p : Sites) (way : ℕ) (o : Option Rule) → Suits (is_some p.second) way o ≡ true → has_as_many way (Some p) o ≡ true
suits_place p way None h = h
suits_place p way (Some rule) h = h

second_is_some : (sites : List SiteState) (j : Option SiteId) (t : Option SiteState) → IsSecondState sites j t → is_some t ≡ is_some j
second_is_some sites None None h = refl
second_is_some sites None (Some t) h = absurd h
second_is_some sites (Some j) None h = absurd h
second_is_some sites (Some j) (Some t) h = refl

pub offer_fits : (n : Network) (sites : List SiteState) (place : ℕ) (e : Event) → next n sites place ≡ Some e → fits_place n e.place.0 e.channel ≡ true
offer_fits n sites place e h =
    let o = of_next n sites place e h in
    let d = of_states n.lattice sites place o.states o.states_is in
    let stands = o.event.stands in
    let suits : Suits (is_some o.states.1) (way_of_channel o.event.channel.number) (slice_get n.rules (rule_of_channel o.event.channel.number)) ≡ true =
    ap (Suits (is_some o.states.1) (way_of_channel o.event.channel.number)) stands.at ∙ matches_suits stands.rule (way_of_channel o.event.channel.number) o.states.0.species o.states.1 stands.matching in
    let here : Suits (is_some d.pair.second) (way_of_channel e.channel) (slice_get n.rules (rule_of_channel e.channel)) ≡ true =
    subst (λ c. Suits (is_some d.pair.second) (way_of_channel c) (slice_get n.rules (rule_of_channel c)) ≡ true) o.event.number
    (subst (λ b. Suits b (way_of_channel o.event.channel.number) (slice_get n.rules (rule_of_channel o.event.channel.number)) ≡ true) (second_is_some sites d.pair.second o.states.1 d.second) suits) in
    ap (λ p. has_as_many (way_of_channel e.channel) (sites_of n.lattice p) (slice_get n.rules (rule_of_channel e.channel))) o.event.at_place
    ∙ (ap (λ p. has_as_many (way_of_channel e.channel) p (slice_get n.rules (rule_of_channel e.channel))) d.is
    ∙ suits_place d.pair (way_of_channel e.channel) (slice_get n.rules (rule_of_channel e.channel)) here)

-- The next event of a place depends on its sites

with_second_local : (a b : List SiteState) (j : Option SiteId) (s : SiteState) → ((k : SiteId) → j ≡ Some k → slice_get a k.0 ≡ slice_get b k.0) → with_second a j s ≡ with_second b j s
with_second_local a b None s h = refl
with_second_local a b (Some j) s h = ap (option_map (λ (t : SiteState). let p : SiteState × Option SiteState = (s, Some t) in p)) (h j refl)

states_local : (l : Shape) (place : ℕ) (a b : List SiteState) → ((k : ℕ) → HasSite l place k → slice_get a k ≡ slice_get b k) → states_at l a place ≡ states_at l b place
states_local l place a b h = go (sites_of l place) refl
  where
    inner : (p : Sites) → sites_of l place ≡ Some p → (o : Option SiteState) → option_and_then (with_second a p.second) o ≡ option_and_then (with_second b p.second) o
    inner p is None = refl
    inner p is (Some s) = with_second_local a b p.second s (λ k some. h k.0 (record { sites = p; is = is; among = inr some }))

    go : (o : Option Sites) → sites_of l place ≡ o → states_at l a place ≡ states_at l b place
    go None is = ap (option_and_then (λ (p : Sites). option_and_then (with_second a p.second) (slice_get a p.first.0))) is ∙ sym (ap (option_and_then (λ (p : Sites). option_and_then (with_second b p.second) (slice_get b p.first.0))) is)
    go (Some p) is =
        ap (option_and_then (λ (p : Sites). option_and_then (with_second a p.second) (slice_get a p.first.0))) is
        ∙ (ap (option_and_then (with_second a p.second)) (h p.first.0 (record { sites = p; is = is; among = inl refl }))
        ∙ (inner p is (slice_get b p.first.0)
        ∙ sym (ap (option_and_then (λ (p : Sites). option_and_then (with_second b p.second) (slice_get b p.first.0))) is)))

pub next_local : (n : Network) (place : ℕ) (a b : List SiteState) → ((k : ℕ) → HasSite n.lattice place k → slice_get a k ≡ slice_get b k) → next n a place ≡ next n b place
next_local n place a b h = ap (option_and_then (λ (s : SiteState × Option SiteState). next_at n place s.0 s.1)) (states_local n.lattice place a b h)
