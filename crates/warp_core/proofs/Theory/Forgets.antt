-- Stacks that lost what lies below the horizon.
use Rattle.std.proofs.Common.{◌≡◌, ℕ, ◌<◌, List, [], ◌∷◌, inl, inr, refl, sym, ap, ◌∙◌, subst}
use Rattle.std.proofs.lemmas.Bool.{cases_Bool}
use Rattle.std.specs.Prelude.{not}
use Rattle.surf_kinds.specs.declared.event.Event.{Event}
use Rattle.surf_kinds.specs.declared.event.Key.{Key}
use Rattle.surf_kinds.specs.declared.site.SiteState.{SiteState}
use Rattle.surf_kinds.specs.Keys.{is_before, key_of, at, below, from, ◌is_below◌, ◌is_upto◌}
use Rattle.surf_kinds.proofs.Order.{le_refl}
use Rattle.surf_kinds.proofs.Tables.{keep_yes, keep_no, IsRising_keep}
use Rattle.border.specs.Messages.{replay}
use Rattle.border.proofs.LawLemmas.{from_replay}
use Rattle.warp_core.specs.Messages.{ArePutsOf}
use Rattle.warp_core.specs.World.{World, is_own, after_all}
use Rattle.warp_core.specs.Parts.{Part, IsSound}
use Rattle.warp_core.specs.Cores.{Core, IsConsistent, base_of}
use Rattle.warp_core.proofs.Theory.Cuts.{at_from}
use Rattle.warp_core.proofs.Theory.Commits.{from_from}
use Rattle.warp_core.proofs.Theory.Joined.{sent_from}

-- the part without what its stacks have below a key
abbrev pub forgetful : Key → Part → Part
forgetful k p = record { timeline = p.timeline; clock = p.clock; stack = λ j. from k (p.stack j) }

puts_keep : (w : World) (j i : ℕ) (k : Key) (es : List Event) → ArePutsOf w j i es → ArePutsOf w j i (from k es)
puts_keep w j i k [] h = tt
puts_keep w j i k (e ∷ es) h =
    elim (cases_Bool (not (is_before (key_of e) k))) [
      | inl p ↦ subst (ArePutsOf w j i) (sym (keep_yes (λ a. not (is_before a k)) e es p)) (h.0, puts_keep w j i k es h.1)
      | inr p ↦ subst (ArePutsOf w j i) (sym (keep_no (λ a. not (is_before a k)) e es p)) (puts_keep w j i k es h.1)
    ]

sound_forgetful : (w : World) (base : List SiteState) (k : Key) (i : ℕ) (p : Part) → IsSound w base k i p → IsSound w base k i (forgetful k p)
sound_forgetful w base k i p s =
    record {
      low = s.low;
      high = s.high;
      local = record {
        rising = s.local.rising;
        span = s.local.span;
        each = λ j over under.
            s.local.each j over under
            ∙ ap (λ o. Rattle.std.proofs.Common.cond (is_own w i j) (Rattle.plan.specs.History.if_at j (w.next j.place.0 (after_all w base (below j p.timeline)))) o) (sym (at_from k j (p.stack (w.owner j.place.0)) over));
      };
    }

-- a consistent configuration stays one where the stacks forget what lies below the horizon
pub forgetful_keeps : (w : World) (c : Core) → IsConsistent w c → IsConsistent w (record c { part = λ i. forgetful c.horizon (c.part i) })
forgetful_keeps w c good =
    record {
      committed = good.committed;
      sound = λ i h. sound_forgetful w (base_of w c) c.horizon i (c.part i) (good.sound i h);
      rising = λ j i a b. IsRising_keep (λ x. not (is_before x c.horizon)) ((c.part i).stack j) (good.rising j i a b);
      stacked = λ j i a b. puts_keep w j i c.horizon ((c.part i).stack j) (good.stacked j i a b);
      sent = good.sent;
      pairs = λ j i a b.
          from_replay c.horizon (from c.horizon ((c.part i).stack j)) (c.channel j i) (sent_from w j i c.horizon (c.channel j i) (good.sent j i a b))
          ∙ (ap (λ s. replay s (c.channel j i)) (from_from c.horizon c.horizon ((c.part i).stack j) (le_refl c.horizon))
          ∙ (sym (from_replay c.horizon ((c.part i).stack j) (c.channel j i) (sent_from w j i c.horizon (c.channel j i) (good.sent j i a b)))
          ∙ good.pairs j i a b));
    }
