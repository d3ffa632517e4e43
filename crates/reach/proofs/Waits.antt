-- How late the next event of a surface is, where all rates are 1.
use Rattle.std.proofs.Common.{◌≡◌, ℕ, ◌+◌, ◌≤◌, List, Option, Some, None, inl, inr, sym, subst, arith}
use Rattle.std.specs.Prelude.{slice_get}
use Rattle.surf_kinds.specs.declared.rule.Rule.{Rule}
use Rattle.surf_kinds.specs.declared.site.SiteId.{SiteId}
use Rattle.surf_kinds.specs.declared.site.SiteState.{SiteState}
use Rattle.surf_kinds.specs.declared.event.Event.{Event}
use Rattle.surf_kinds.specs.Channels.{rule_of_channel}
use Rattle.surf_kinds.specs.Rates.{Fraction}
use Rattle.lattice.specs.Shape.{Shape}
use Rattle.lattice.specs.Channels.{rate_of}
use Rattle.lattice.specs.Surface.{after}
use Rattle.lattice.proofs.LawLemmas.{after_site}
use Rattle.fixed_log.proofs.LawLemmas.{energy-at_most}
use Rattle.rates.specs.Waits.{wait_of}
use Rattle.plan.specs.Network.{Network}
use Rattle.draws.specs.Draw.{draw_of}
use Rattle.plan.specs.Next.{latest, occurrence, next}
use Rattle.plan.specs.Offered.{IsSecondState}
use Rattle.plan.proofs.LawLemmas.{offer_is}
use Rattle.reach.specs.Bounds.{AreLastBy, HaveRateOne}

-- the longest wait at the rate 1
wait_one : (w : ℕ) → wait_of (record { p = 1; q = 1 }) w ≤ 44361420
unfolding wait_of
wait_one w = omega (arith, energy-at_most w)

latest_by : (sites : List SiteState) (i : ℕ) (j : Option SiteId) (s : SiteState) (t : Option SiteState) (time : ℕ) → AreLastBy time sites → slice_get sites i ≡ Some s → IsSecondState sites j t → latest s t ≤ time
latest_by sites i None s None time by is js = by i s is
latest_by sites i (Some j) s (Some t) time by is js = omega (arith, by i s is, by j.0 t js)
latest_by sites i None s (Some t) time by is js = absurd js
latest_by sites i (Some j) s None time by is js = absurd js

-- the next event of a place comes at most so much after the last rewriting
pub next_by : (n : Network) (sites : List SiteState) (place time : ℕ) (e : Event) → HaveRateOne n.rules → AreLastBy time sites → next n sites place ≡ Some e → e.time ≤ time + 44361420
next_by n sites place time e ones by h =
    let o = offer_is n sites place e h in
    let word = draw_of n.seed place (occurrence o.state o.second) e.channel in
    let one : rate_of o.rule ≡ record { p = 1; q = 1 } = ones (rule_of_channel e.channel) o.rule o.rule_is in
    let wait : wait_of (rate_of o.rule) word ≤ 44361420 = subst (λ (f : Fraction). wait_of f word ≤ 44361420) (sym one) (wait_one word) in
    let late = latest_by sites o.states.pair.first.0 o.states.pair.second o.state o.second time by o.states.first o.states.second in
    omega (arith, wait, o.time, late)

-- an event by then leaves all sites rewritten by then
pub after_by : (l : Shape) (rules : List Rule) (e : Event) (time : ℕ) (sites : List SiteState) → e.time ≤ time → AreLastBy time sites → AreLastBy time (after l rules sites e)
after_by l rules e time sites le by k s h = elim (after_site l rules sites e k s h) [
  | inl old ↦ by k s old
  | inr new ↦ omega (arith, new.last, le)
]
