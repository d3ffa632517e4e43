-- Sweeps of the channels from a region to its neighbours.
use Rattle.std.proofs.Common.{◌≡◌, ◌≢◌, ◌⊎◌, ℕ, ◌+◌, ◌<◌, ◌≤◌, ◌||◌, Bool, true, false, List, [], length, inl, inr, refl, sym, ap, ◌∙◌, subst, arith, Option, Some, None}
use Rattle.std.proofs.lemmas.Bool.{both_ways}
use Rattle.std.proofs.lemmas.Bool.Decides.{eqb_tells}
use Rattle.std.proofs.lemmas.Option.{same_Some, none-some}
use Rattle.warp_core.specs.World.{World}
use Rattle.warp_core.specs.Cores.{Core}
use Rattle.warp_core.specs.Settling.{load, TakesTo}
use Rattle.warp_core.specs.SettlingLoops.{Swept, OneEmpty, RowEmpty}
use Rattle.warp_core.proofs.LawLemmas.{takes_join, takes_end, swept_nothing}
use Rattle.crew.specs.Crews.{ToEmpty}

pub swept_to : (w : World) (old new : Core) (moved : Bool) (j i : ℕ) → Swept w old new moved (OneEmpty j i) → Swept w old new moved (ToEmpty j (Some i))
swept_to w old new moved j i s = record { takes = s.takes; falls = s.falls; still = λ h. ((s.still h).0, λ k e. subst (λ x. new.channel j x ≡ []) (same_Some i k e) (s.still h).1) }

pub swept_to_none : (w : World) (c : Core) (j : ℕ) → Swept w c c false (ToEmpty j None)
swept_to_none w c j =
    let s = swept_nothing w c in
    record { takes = s.takes; falls = s.falls; still = λ h. (refl, λ k e. absurd (none-some k e)) }

is_or_not : (o : Option ℕ) (i : ℕ) → (o ≡ Some i) ⊎ (o ≢ Some i)
is_or_not None i = inr (λ e. none-some i e)
is_or_not (Some x) i = elim (eqb_tells x i) [ inl p ↦ inl (ap (λ (y : ℕ). Some y) p.1) | inr p ↦ inr (λ e. p.1 (same_Some x i e)) ]

no_more : (w : World) (old new : Core) → TakesTo w old new → load w new ≤ load w old
no_more w old new t = omega (arith, takes_end w old new t.0 t.1 t.2)

module _ (w : World) (old mid new : Core) (j n : ℕ) (first second : Option ℕ) (others : (i : ℕ) → i < n → first ≢ Some i → second ≢ Some i → old.channel j i ≡ []) where
  all_empty : (new ≡ mid) → (mid ≡ old) → ToEmpty j first mid → ToEmpty j second new → RowEmpty j n new
  all_empty a b s t i h =
      elim (is_or_not second i) [
        | inl p ↦ t i p
        | inr p ↦ elim (is_or_not first i) [
          | inl q ↦ ap (λ (c : Core). c.channel j i) a ∙ s i q
          | inr q ↦ ap (λ (c : Core). c.channel j i) (a ∙ b) ∙ others i h q p
        ]
      ]

  pub swept_both : (a b : Bool) → Swept w old mid a (ToEmpty j first) → Swept w mid new b (ToEmpty j second) → Swept w old new (a || b) (RowEmpty j n)
  swept_both true b s t = record { takes = takes_join w old mid new s.takes t.takes; falls = λ h. omega (arith, s.falls refl, no_more w mid new t.takes); still = λ h. absurd (both_ways true h refl) }
  swept_both false true s t = record { takes = takes_join w old mid new s.takes t.takes; falls = λ h. omega (arith, ap (load w) (s.still refl).0, t.falls refl); still = λ h. absurd (both_ways true h refl) }
  swept_both false false s t = record { takes = takes_join w old mid new s.takes t.takes; falls = λ h. absurd (both_ways false refl h); still = λ h. ((t.still refl).0 ∙ (s.still refl).0, all_empty (t.still refl).0 (s.still refl).0 (s.still refl).1 (t.still refl).1) }
