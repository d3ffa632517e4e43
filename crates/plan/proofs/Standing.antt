-- The channels that stand at a place, and the earliest of their events.
use Rattle.std.proofs.Common.{◌≡◌, ℕ, zero, suc, ◌+◌, ◌*◌, ◌<◌, ◌≤◌, List, [], ◌∷◌, Option, Some, None, Bool, true, false, ◌⊎◌, inl, inr, ◌↔◌, refl, sym, ap, ◌∙◌, arith, if◌then◌else◌}
use Rattle.std.specs.Prelude.{All, slice_get, nat_lt}
use Rattle.std.proofs.lemmas.List.Elements.{All-append, All-tail}
use Rattle.std.proofs.lemmas.Bool.{leb-true, and_parts, false≢true, cases_Bool}
use Rattle.std.proofs.lemmas.Option.{none-some, same_Some}
use Rattle.surf_kinds.specs.declared.rule.Rule.{Rule}
use Rattle.surf_kinds.specs.declared.rule.Rule.TheVariants.{One, Two}
use Rattle.surf_kinds.specs.declared.site.SpeciesId.{SpeciesId}
use Rattle.surf_kinds.specs.declared.event.Event.{Event}
use Rattle.surf_kinds.specs.Keys.{is_earlier, earlier}
use Rattle.surf_kinds.specs.Channels.{rule_of_channel, way_of_channel}
use Rattle.lattice.specs.Channels.{matches, rate_of}
use Rattle.plan.specs.declared.index.Reactants.{Reactants}
use Rattle.plan.specs.declared.index.Channel.{Channel}
use Rattle.plan.specs.Channels.{channel_at, channels_upto, IsChannel}
use Rattle.plan.specs.Next.{armed, earliest}

-- The earliest of events

pub picked : {X : Type 0} (b : Bool) (x e : X) → (if b then Some x else None) ≡ Some e → (b ≡ true) × (x ≡ e)
picked true x e h = (refl, same_Some x e h)
picked false x e h = absurd (none-some e h)

pub either : (a b : Option Event) (e : Event) → earlier a b ≡ Some e → (a ≡ Some e) ⊎ (b ≡ Some e)
either None b e h = inr h
either (Some x) None e h = inl h
either (Some x) (Some y) e h = elim (is_earlier y x) as (λ t. (if t then Some y else Some x) ≡ Some e → (Some x ≡ Some e) ⊎ (Some y ≡ Some e)) [ true ↦ λ p. inr p | false ↦ λ p. inl p ] h

-- the earliest is the event that was there, or one of the channels'
pub of_earliest : (P : Channel → Type 0) (seed place o from : ℕ) (best : Option Event) (cs : List Channel) (e : Event) → All P cs → earliest seed place o from best cs ≡ Some e → (best ≡ Some e) ⊎ ((c : Channel) × P c × (armed seed place o from c ≡ e))
of_earliest P seed place o from best [] e all h = inl h
of_earliest P seed place o from best (c ∷ cs) e all h =
    elim (of_earliest P seed place o from (earlier best (Some (armed seed place o from c))) cs e (All-tail P c cs all) h) [
      | inl p ↦ elim (either best (Some (armed seed place o from c)) e p) [ inl q ↦ inl q | inr q ↦ inr (c, all 0 c (omega arith), same_Some _ e q) ]
      | inr p ↦ inr p
    ]

-- one of two events is there
both : (x y : Event) → (z : Event) × (earlier (Some x) (Some y) ≡ Some z)
both x y = elim (cases_Bool (is_earlier y x)) [ inl p ↦ (y, ap (λ b. if b then Some y else Some x) p) | inr p ↦ (x, ap (λ b. if b then Some y else Some x) p) ]

earliest_some : (seed place o from : ℕ) (x : Event) (cs : List Channel) → earliest seed place o from (Some x) cs ≡ None → ⊥
earliest_some seed place o from x [] h = none-some x (sym h)
earliest_some seed place o from x (c ∷ cs) h =
    let y = both x (armed seed place o from c) in
    earliest_some seed place o from y.0 cs (ap (λ b. earliest seed place o from b cs) (sym y.1) ∙ h)

-- there is no earliest event exactly where there is no channel
pub earliest_none : (seed place o from : ℕ) (cs : List Channel) → (earliest seed place o from None cs ≡ None) ↔ (cs ≡ [])
earliest_none seed place o from [] = (λ h. refl, λ h. refl)
earliest_none seed place o from (c ∷ cs) = (λ h. absurd (earliest_some seed place o from (armed seed place o from c) cs h), λ h. absurd (differ h))
  where
    differ : c ∷ cs ≡ [] → ⊥
    differ h = cc

-- The channels of a list of rules

-- a channel of a rule whose reactants stand so
pub record Stands (rules : List Rule) (r : Reactants) (c : Channel) : Type 0 where
  pub rule : Rule
  pub at : slice_get rules (rule_of_channel c.number) ≡ Some rule
  pub matching : matches rule (way_of_channel c.number) r.first r.second ≡ true
  pub rate_is : c.rate ≡ rate_of rule

All-nil : (P : Channel → Type 0) → All P []
All-nil P k d h = absurd (omega (arith, h))

All-one : (P : Channel → Type 0) (c : Channel) → P c → All P (c ∷ [])
All-one P c h zero d l = h
All-one P c h (suc k) d l = absurd (omega (arith, l))

one_channel : (P : Channel → Type 0) (r : Reactants) (number way : ℕ) (o : Option Rule) → ((rule : Rule) → o ≡ Some rule → matches rule way r.first r.second ≡ true → P (record { number = number; rate = rate_of rule })) → All P (channel_at r number way o)
one_channel P r number way None h = All-nil P
one_channel P r number way (Some rule) h = by (matches rule way r.first r.second) refl
  where
    by : (b : Bool) → matches rule way r.first r.second ≡ b → All P (if b then record { number = number; rate = rate_of rule } ∷ [] else [])
    by true e = All-one P (record { number = number; rate = rate_of rule }) (h rule refl e)
    by false e = All-nil P

-- what holds of each rule in each of its ways
pub all_channels : (P : Channel → Type 0) (rules : List Rule) (r : Reactants) (n : ℕ) → ((k number way : ℕ) (rule : Rule) → k < n → number ≡ 2 * k + way → way < 2 → slice_get rules k ≡ Some rule → matches rule way r.first r.second ≡ true → P (record { number = number; rate = rate_of rule }))
    → All P (channels_upto rules r n)
all_channels P rules r zero h = All-nil P
all_channels P rules r (suc n) h =
    All-append P _ _
    (All-append P _ _ (all_channels P rules r n (λ k number way rule lt. h k number way rule (omega (arith, lt))))
    (one_channel P r (2 * n) 0 (slice_get rules n) (λ rule at m. h n (2 * n) 0 rule (omega arith) (omega arith) (omega arith) at m)))
    (one_channel P r (2 * n + 1) 1 (slice_get rules n) (λ rule at m. h n (2 * n + 1) 1 rule (omega arith) refl (omega arith) at m))

halves : (number k way : ℕ) → number ≡ 2 * k + way → way < 2 → (rule_of_channel number ≡ k) × (way_of_channel number ≡ way)
halves number k way is lt = (omega (arith, is, lt), omega (arith, is, lt))

-- each channel is one of a rule whose reactants stand there
pub all_stand : (rules : List Rule) (r : Reactants) (n : ℕ) → All (Stands rules r) (channels_upto rules r n)
all_stand rules r n =
    all_channels (Stands rules r) rules r n (λ k number way rule lt is two at m.
    let of = halves number k way is two in
    record {
      rule = rule;
      at = ap (slice_get rules) of.0 ∙ at;
      matching = ap (λ w. matches rule w r.first r.second) of.1 ∙ m;
      rate_is = refl;
    })

-- a rule whose reactants stand has a rate above 0
rate_positive : (rule : Rule) (way : ℕ) (s : SpeciesId) (t : Option SpeciesId) → matches rule way s t ≡ true → 0 < (rate_of rule).p
rate_positive (One rate a c) way s None h = leb-true 1 rate.p (and_parts (nat_lt 0 rate.p) _ (and_parts _ _ h).1).0
rate_positive (One rate a c) way s (Some t) h = absurd (false≢true h)
rate_positive (Two rate a b c d) way s None h = absurd (false≢true h)
rate_positive (Two rate a b c d) way s (Some t) h = leb-true 1 rate.p (and_parts (nat_lt 0 rate.p) _ h).0

-- all channels of few rules have numbers and rates to draw by
pub all_drawn : (rules : List Rule) (r : Reactants) (n : ℕ) → n ≤ 4096 → All IsChannel (channels_upto rules r n)
all_drawn rules r n few =
    all_channels IsChannel rules r n (λ k number way rule lt is two at m.
    record { number = omega (arith, few, lt, is, two); rate = rate_positive rule way r.first r.second m })
