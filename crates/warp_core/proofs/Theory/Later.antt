-- A region's own places never offer what lies before its clock.
use Rattle.std.proofs.Common.{◌≡◌, ℕ, ◌<◌, ◌≤◌, inl, inr, Bool, true, List, [], ◌∷◌, Option, Some, None, refl, sym, ap, ◌∙◌, subst, arith, cond}
use Rattle.std.proofs.lemmas.Bool.{cases_Bool}
use Rattle.std.proofs.lemmas.Bool.Decides.{nat_tests}
use Rattle.std.proofs.lemmas.Option.{none-some, same_Some}
use Rattle.surf_kinds.specs.declared.event.Event.{Event}
use Rattle.surf_kinds.specs.declared.site.SiteState.{SiteState}
use Rattle.surf_kinds.specs.declared.event.Key.{Key}
use Rattle.surf_kinds.specs.Keys.{same_key, key_of, at, below, from, AllKeys, origin, ◌is_below◌, ◌is_upto◌}
use Rattle.plan.specs.History.{if_at}
use Rattle.warp_core.specs.World.{World, IsWorld, IsMonotone, after_all, is_own, end_key}
use Rattle.warp_core.specs.Timelines.{IsLocal}
use Rattle.warp_core.specs.Parts.{IsSound, received_at}
use Rattle.warp_core.specs.Cores.{Core, IsConsistent, base_of}
use Rattle.surf_kinds.proofs.Order.{key_cases, le_refl, same_refl, same_is, is_upto_origin, le_le}
use Rattle.surf_kinds.proofs.Tables.{AllKeys_weaker}
use Rattle.surf_kinds.proofs.Rising.{parted}
use Rattle.warp_core.proofs.Theory.Cuts.{AllKeys_from, at_from}
use Rattle.warp_core.proofs.Theory.Locals.{after_all_append, cut}
use Rattle.warp_core.proofs.Theory.Commits.{every, nothing, history_local}

upto_time : (a b : Key) → a is_upto b → a.time ≤ b.time
upto_time a b h = grind (arith, nat_tests)

-- what a place offers after later events it offered before them
pub unwound : (w : World) → IsMonotone w → (p : ℕ) (e : Event) (fs : List Event) (a : List SiteState) → AllKeys (λ k. key_of e is_upto k) fs → w.next p (after_all w a fs) ≡ Some e → w.next p a ≡ Some e
unwound w m p e [] a all h = h
unwound w m p e (f ∷ fs) a all h =
    elim (m.overtaken p a f e (unwound w m p e fs (w.after a f) all.1 h)) [
      | inl q ↦ q
      | inr q ↦ absurd (omega (arith, q, upto_time (key_of e) (key_of f) all.0))
    ]

-- and it isn't among them
not_among : (w : World) → IsMonotone w → (e : Event) (fs : List Event) (a : List SiteState) → AllKeys (λ k. key_of e is_upto k) fs → w.next e.place.0 (after_all w a fs) ≡ Some e → at (key_of e) fs ≡ Some e → ⊥
not_among w m e [] a all h is = none-some e is
not_among w m e (f ∷ fs) a all h is =
    elim (cases_Bool (same_key (key_of f) (key_of e))) [
      | inl q ↦
          let same : f ≡ e = same_Some f e (sym (ap (λ b. cond b (Some f) (at (key_of e) fs)) q) ∙ is) in
          let now : w.next e.place.0 (w.after a f) ≡ Some e = unwound w m e.place.0 e fs (w.after a f) all.1 h in
          let late : f.time < e.time = m.renewed a f e (ap (λ (x : Event). w.next x.place.0 (w.after a f)) same ∙ now) in
          absurd (omega (arith, late, ap (λ (x : Event). x.time) same))
      | inr q ↦ not_among w m e fs (w.after a f) all.1 h (sym (ap (λ b. cond b (Some f) (at (key_of e) fs)) q) ∙ is)
    ]

-- what an own place offers after a local timeline isn't before the clock, if it isn't before the floor
pub not_before_clock : (w : World) → IsWorld w → IsMonotone w → (mine : Key → Bool) (base : List SiteState) (floor : Key) (ins : Key → Option Event) (clock : Key) (es : List Event) → IsLocal w mine base floor ins clock es
    → (p : ℕ) (e : Event) → w.next p (after_all w base es) ≡ Some e → mine (key_of e) ≡ true → floor is_upto key_of e → clock is_upto key_of e
not_before_clock w laws m mine base floor ins clock es l p e h own_e low =
    elim (key_cases (key_of e) clock) [
      | inr q ↦ q
      | inl under ↦
          let k = key_of e in
          let early = after_all w base (below k es) in
          let place : e.place.0 ≡ p = laws.at_place p (after_all w base es) e h in
          let whole : after_all w base es ≡ after_all w early (from k es) = ap (after_all w base) (parted k es l.rising) ∙ after_all_append w base (below k es) (from k es) in
          let then' : w.next e.place.0 (after_all w early (from k es)) ≡ Some e = ap (λ q. w.next q (after_all w early (from k es))) place ∙ (ap (w.next p) (sym whole) ∙ h) in
          let before : w.next e.place.0 early ≡ Some e = unwound w m e.place.0 e (from k es) early (AllKeys_from k es) then' in
          let has : at k es ≡ Some e =
          l.each k low under ∙ (ap (λ b. cond b (if_at k (w.next e.place.0 early)) (ins k)) own_e ∙ (ap (if_at k) before ∙ ap (λ b. cond b (Some e) None) (same_refl k))) in
          absurd (not_among w m e (from k es) early (AllKeys_from k es) then' (at_from k k es (le_refl k) ∙ has))
    ]

-- in a consistent configuration what the own places of a region offer lies from its clock on
pub offers_late : (w : World) → IsWorld w → IsMonotone w → (c : Core) (i : ℕ) → IsConsistent w c → i < w.regions → (p : ℕ) (e : Event) → w.owner p ≡ i → w.next p (after_all w (base_of w c) (c.part i).timeline) ≡ Some e → (c.part i).clock is_upto key_of e
offers_late w laws m c i good inside p e mine h =
    let s = good.sound i inside in
    let t = (c.part i).timeline in
    let place : e.place.0 ≡ p = laws.at_place p _ e h in
    let own_e : is_own w i (key_of e) ≡ true = Rattle.std.proofs.lemmas.Bool.eq-eqb _ _ (ap w.owner place ∙ mine) in
    not_before_clock w laws m (is_own w i) (base_of w c) c.horizon (received_at w (c.part i)) (c.part i).clock t s.local p e h own_e (low t s)
  where
    high : c.horizon is_upto end_key w
    high = le_le c.horizon (c.part i).clock (end_key w) (good.sound i inside).low (good.sound i inside).high

    old : IsLocal w every w.start origin nothing c.horizon c.committed
    old = subst (IsLocal w every w.start origin nothing c.horizon) (sym good.committed) (cut w every w.start origin nothing nothing (end_key w) c.horizon w.history (history_local w laws) high (λ j u. refl))

    low : (t : List Event) → IsSound w (base_of w c) c.horizon i (c.part i) → c.horizon is_upto key_of e
    low t s =
        elim (key_cases (key_of e) c.horizon) [
          | inr q ↦ q
          | inl q ↦ not_before_clock w laws m every w.start origin nothing c.horizon c.committed old p e
              (unwound w m p e (c.part i).timeline (base_of w c)
              (AllKeys_weaker (λ k. (c.horizon is_upto k) × (k is_below (c.part i).clock)) (λ k. key_of e is_upto k) (λ k a. le_le (key_of e) c.horizon k (Rattle.surf_kinds.proofs.Order.lt_to_le (key_of e) c.horizon q) a.0) (c.part i).timeline s.local.span) h)
              refl (is_upto_origin (key_of e))
        ]
