-- Where a surface offers no event, nothing can fire.
use Rattle.std.proofs.Common.{◌≡◌, ℕ, zero, suc, ◌+◌, ◌*◌, ◌<◌, List, [], ◌∷◌, ◌++◌, length, Option, Some, None, Bool, true, false, inl, inr, refl, sym, ap, ◌∙◌, arith, if◌then◌else◌}
use Rattle.std.specs.Prelude.{slice_get, option_and_then}
use Rattle.std.specs.Option.{option_map}
use Rattle.std.proofs.lemmas.Bool.{cases_Bool}
use Rattle.std.proofs.lemmas.Bool.Decides.{eqb_tells}
use Rattle.std.proofs.lemmas.Option.{none-some, same_Some, slice_get-map, slice_get_within}
use Rattle.surf_kinds.specs.declared.rule.Rule.{Rule}
use Rattle.surf_kinds.specs.declared.site.SiteId.{SiteId}
use Rattle.surf_kinds.specs.declared.site.Sites.{Sites}
use Rattle.surf_kinds.specs.declared.site.SpeciesId.{SpeciesId}
use Rattle.surf_kinds.specs.declared.site.SiteState.{SiteState}
use Rattle.surf_kinds.specs.declared.event.Event.{Event}
use Rattle.surf_kinds.specs.Keys.{is_earlier, earlier}
use Rattle.surf_kinds.specs.Channels.{rule_of_channel, way_of_channel}
use Rattle.surf_kinds.specs.Steps.{end_of_places}
use Rattle.lattice.specs.Channels.{matches}
use Rattle.lattice.proofs.LawLemmas.{place_below}
use Rattle.plan.specs.Network.{Network}
use Rattle.plan.specs.Channels.{reactants_of, channel_at, channels_upto, channels_of}
use Rattle.plan.specs.Next.{with_second, states_at, latest, occurrence, armed, earliest, next_at, next, least_upto, least}
use Rattle.reach.specs.Reach.{Firing, species_in, IsSecond, Fires, IsAtRest}
use Rattle.reach.proofs.Offered.{species_of}

-- A place with a channel offers an event

both_there : (x y : Event) → (z : Event) × (earlier (Some x) (Some y) ≡ Some z)
both_there x y = elim (cases_Bool (is_earlier y x)) [ inl p ↦ (y, ap (λ b. if b then Some y else Some x) p) | inr p ↦ (x, ap (λ b. if b then Some y else Some x) p) ]

earliest_there : (seed place o from : ℕ) (x : Event) (cs : List _) → earliest seed place o from (Some x) cs ≡ None → ⊥
earliest_there seed place o from x [] h = none-some x (sym h)
earliest_there seed place o from x (c ∷ cs) h =
    let y = both_there x (armed seed place o from c) in
    earliest_there seed place o from y.0 cs (ap (λ b. earliest seed place o from b cs) (sym y.1) ∙ h)

no_channel : (seed place o from : ℕ) (cs : List _) → earliest seed place o from None cs ≡ None → cs ≡ []
no_channel seed place o from [] h = refl
no_channel seed place o from (c ∷ cs) h = absurd (earliest_there seed place o from (armed seed place o from c) cs h)

both_nil : {X : Type 0} (a b : List X) → a ++ b ≡ [] → (a ≡ []) × (b ≡ [])
both_nil [] b h = (refl, h)
both_nil (x ∷ a) b h = absurd (more h)
  where
    more : x ∷ (a ++ b) ≡ [] → ⊥
    more e = cc

one_there : {X : Type 0} (b : Bool) (x : X) → b ≡ true → (if b then x ∷ [] else []) ≡ [] → ⊥
one_there true x m h = cc
one_there false x m h = cc

-- a rule that matches has a channel
one_channel : (s : SiteState) (t : Option SiteState) (n way : ℕ) (o : Option Rule) (rule : Rule) → o ≡ Some rule → matches rule way s.species (species_of t) ≡ true → channel_at (reactants_of s t) n way o ≡ [] → ⊥
one_channel s t n way None rule at m h = none-some rule at
one_channel s t n way (Some q) rule at m h = one_there (matches q way s.species (species_of t)) _ (ap (λ x. matches x way s.species (species_of t)) (same_Some q rule at) ∙ m) h

not_nothing : (rules : List Rule) (s : SiteState) (t : Option SiteState) (n k way : ℕ) (rule : Rule) → k < n → way < 2 → slice_get rules k ≡ Some rule → matches rule way s.species (species_of t) ≡ true → channels_upto rules (reactants_of s t) n ≡ [] → ⊥
not_nothing rules s t zero k way rule lt few at m h = absurd (omega (arith, lt))
not_nothing rules s t (suc n) k way rule lt few at m h =
    let all = both_nil (channels_upto rules (reactants_of s t) n ++ channel_at (reactants_of s t) (2 * n) 0 (slice_get rules n)) _ h in
    let old = both_nil (channels_upto rules (reactants_of s t) n) _ all.0 in
    elim (eqb_tells k n) [
      | inr p ↦ not_nothing rules s t n k way rule (omega (arith, lt, p.1)) few at m old.0
      | inl p ↦
          let here : slice_get rules n ≡ Some rule = ap (slice_get rules) (sym p.1) ∙ at in
          elim (eqb_tells way 0) [
            | inl z ↦ one_channel s t (2 * n) 0 (slice_get rules n) rule here (ap (λ w. matches rule w s.species (species_of t)) (sym z.1) ∙ m) old.1
            | inr z ↦
                let one : way ≡ 1 = omega (arith, few, z.1) in
                one_channel s t (2 * n + 1) 1 (slice_get rules n) rule here (ap (λ w. matches rule w s.species (species_of t)) (sym one) ∙ m) all.1
          ]
    ]

channel_offers : (n : Network) (place channel : ℕ) (s : SiteState) (t : Option SiteState) (rule : Rule) → slice_get n.rules (rule_of_channel channel) ≡ Some rule
    → matches rule (way_of_channel channel) s.species (species_of t) ≡ true → next_at n place s t ≡ None → ⊥
channel_offers n place channel s t rule at m none =
    let nil : channels_of n.rules (reactants_of s t) ≡ [] = no_channel n.seed place (occurrence s t) (latest s t) _ none in
    not_nothing n.rules s t (length n.rules) (rule_of_channel channel) (way_of_channel channel) rule (slice_get_within n.rules (rule_of_channel channel) rule at) (omega arith) at m nil

-- The states behind species

mapped : (o : Option SiteState) (x : SpeciesId) → option_map (λ (s : SiteState). s.species) o ≡ Some x → (s : SiteState) × (o ≡ Some s) × (s.species ≡ x)
mapped None x h = absurd (none-some x h)
mapped (Some s) x h = (s, refl, same_Some s.species x h)

behind : (sites : List SiteState) (k : ℕ) (x : SpeciesId) → slice_get (species_in sites) k ≡ Some x → (s : SiteState) × (slice_get sites k ≡ Some s) × (s.species ≡ x)
behind sites k x h = mapped (slice_get sites k) x (sym (slice_get-map (λ (s : SiteState). s.species) sites k) ∙ h)

-- the states at the sites of a place with these species
record Behind (sites : List SiteState) (j : Option SiteId) (s : SiteState) (y : Option SpeciesId) : Type 0 where
  pub second : Option SiteState
  pub states : with_second sites j s ≡ Some (s, second)
  pub species : species_of second ≡ y

second_behind : (sites : List SiteState) (j : Option SiteId) (s : SiteState) (y : Option SpeciesId) → IsSecond (species_in sites) j y → Behind sites j s y
second_behind sites None s None h = record { second = None; states = refl; species = refl }
second_behind sites (Some j) s (Some y) h =
    let b = behind sites j.0 y h in
    record { second = Some b.0; states = ap (option_map (λ (t : SiteState). let p : SiteState × Option SiteState = (s, Some t) in p)) b.1; species = ap (λ x. Some x) b.2 }
second_behind sites None s (Some y) h = absurd h
second_behind sites (Some j) s None h = absurd h

-- where something fires at a place, the place offers an event
fires_offers : (n : Network) (sites : List SiteState) (f : Firing) (U : List SpeciesId) → Fires n.lattice n.rules f (species_in sites) U → next n sites f.place ≡ None → ⊥
fires_offers n sites f U fires none =
    let p = fires.sites in
    let b = behind sites p.first.0 fires.first fires.first_is in
    let c = second_behind sites p.second b.0 fires.second fires.second_is in
    let states : states_at n.lattice sites f.place ≡ Some (b.0, c.second) =
    ap (option_and_then (λ (q : Sites). option_and_then (with_second sites q.second) (slice_get sites q.first.0))) fires.at ∙ ap (option_and_then (with_second sites p.second)) b.1 ∙ c.states in
    channel_offers n f.place f.channel b.0 c.second fires.rule fires.rule_is
    (ap (λ x. matches fires.rule (way_of_channel f.channel) x (species_of c.second)) b.2 ∙ ap (matches fires.rule (way_of_channel f.channel) fires.first) c.species ∙ fires.matching)
    (ap (option_and_then (λ (s : SiteState × Option SiteState). next_at n f.place s.0 s.1)) (sym states) ∙ none)

-- A surface without a next event

neither : (a b : Option Event) → earlier a b ≡ None → (a ≡ None) × (b ≡ None)
neither None b h = (refl, h)
neither (Some x) None h = absurd (none-some x (sym h))
neither (Some x) (Some y) h = let z = both_there x y in absurd (none-some z.0 (sym h ∙ z.1))

none_below : (n : Network) (sites : List SiteState) (m place : ℕ) → place < m → least_upto n sites m ≡ None → next n sites place ≡ None
none_below n sites zero place lt h = absurd (omega (arith, lt))
none_below n sites (suc m) place lt h =
    let both = neither (least_upto n sites m) (next n sites m) h in
    elim (eqb_tells place m) [
      | inl p ↦ ap (next n sites) p.1 ∙ both.1
      | inr p ↦ none_below n sites m place (omega (arith, lt, p.1)) both.0
    ]

-- it is at rest
pub rests : (n : Network) (sites : List SiteState) → least n sites ≡ None → IsAtRest n.lattice n.rules (species_in sites)
rests n sites none f U fires =
    fires_offers n sites f U fires (none_below n sites (end_of_places (n.lattice.rows * n.lattice.cols)) f.place (place_below n.lattice f.place fires.sites fires.at) none)
