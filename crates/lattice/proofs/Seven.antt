-- A site is rewritten at most 7 times in a tick, since it has at most 7 places and keys rise.
use Rattle.std.proofs.Common.{◌≡◌, ℕ, zero, suc, ◌+◌, ◌*◌, ◌<◌, ◌≤◌, List, [], ◌∷◌, get_or, Some, ◌⊎◌, inl, inr, sym, ap, arith}
use Rattle.std.specs.Prelude.{slice_get, All}
use Rattle.std.proofs.lemmas.Option.{none-some, same_Some, slice_get-get_or}
use Rattle.std.proofs.lemmas.List.Elements.{All-tail}
use Rattle.std.proofs.lemmas.Bool.Decides.{nat_tests}
use Rattle.surf_kinds.specs.Keys.{key_of, origin, ◌is_below◌, RiseFrom, RiseStrictly}
use Rattle.surf_kinds.specs.declared.event.Key.{Key}
use Rattle.surf_kinds.specs.declared.rule.Rule.{Rule}
use Rattle.surf_kinds.specs.declared.site.SiteState.{SiteState}
use Rattle.surf_kinds.specs.declared.site.SpeciesId.{SpeciesId}
use Rattle.surf_kinds.specs.declared.event.Event.{Event}
use Rattle.lattice.specs.Shape.{Shape}
use Rattle.lattice.specs.Surface.{first_surface, after, after_all, last_from, end_time}
use Rattle.lattice.proofs.Rank.{rank, rank_most, rank_rises, rank_here, rank_more}
use Rattle.lattice.proofs.AfterSite.{after_site}

-- never rewritten, or rewritten before this tick, or in it, and then at most r times in it
abbrev IsBounded : ℕ → ℕ → SiteState → Type 0
IsBounded r time s = ((s.version ≡ 0) × (s.last ≤ time)) ⊎ (((s.last < time) × (s.version ≤ 7 * s.last)) ⊎ ((s.last ≡ time) × (s.version + 7 ≤ 7 * time + r)))

-- a surface whose last event had the key
record Bounded (l : Shape) (sites : List SiteState) (last : Key) : Type 0 where
  each : (k : ℕ) (s : SiteState) → slice_get sites k ≡ Some s → IsBounded (rank l k last.place.0) last.time s

stays_bounded : (r r' t t' : ℕ) (s : SiteState) → r ≤ 7 → (t < t') ⊎ ((t ≡ t') × (r ≤ r')) → IsBounded r t s → IsBounded r' t' s
stays_bounded r r' t t' s most later h = grind arith

rewritten_bounded : (r r' t t' : ℕ) (old s : SiteState) → r ≤ 7 → 1 ≤ r' → 1 ≤ t' → (t < t') ⊎ ((t ≡ t') × (r + 1 ≤ r')) → s.version ≡ old.version + 1 → s.last ≡ t' → IsBounded r t old → IsBounded r' t' s
rewritten_bounded r r' t t' old s most here from later version last h = grind arith

fresh_at : (cells : List SpeciesId) (k : ℕ) (s : SiteState) → slice_get (first_surface cells) k ≡ Some s → (s.version ≡ 0) × (s.last ≡ 0)
fresh_at [] k s e = absurd (none-some s e)
fresh_at (x ∷ xs) zero s e = (sym (ap (λ (t : SiteState). t.version) (same_Some _ s e)), sym (ap (λ (t : SiteState). t.last) (same_Some _ s e)))
fresh_at (x ∷ xs) (suc k) s e = fresh_at xs k s e

-- the first surface
bounded_start : (l : Shape) (cells : List SpeciesId) → Bounded l (first_surface cells) origin
bounded_start l cells = record { each = λ k s at. inl (let new = fresh_at cells k s at in (new.0, omega (arith, new.1))) }

-- a later time, or the same time at a later place
by_time : (j k : Key) → j is_below k → (j.time < k.time) ⊎ ((j.time ≡ k.time) × (j.place.0 < k.place.0))
by_time j k h = grind (arith, nat_tests)

bounded_step : (l : Shape) (rules : List Rule) (sites : List SiteState) (last : Key) (e : Event) → Bounded l sites last → last is_below key_of e → 1 ≤ e.time → Bounded l (after l rules sites e) (key_of e)
bounded_step l rules sites last e b before from =
    let later = by_time last (key_of e) before in
    record {
      each = λ k s at. elim (after_site l rules sites e k s at) [
        | inl same ↦
            stays_bounded (rank l k last.place.0) (rank l k e.place.0) last.time e.time s (rank_most l k last.place.0)
            (elim later [ inl time ↦ inl time | inr place ↦ inr (place.0, rank_rises l k last.place.0 e.place.0 place.1) ])
            (b.each k s same)
        | inr new ↦
            rewritten_bounded (rank l k last.place.0) (rank l k e.place.0) last.time e.time new.old s (rank_most l k last.place.0) (rank_here l k e.place.0 new.has) from
            (elim later [ inl time ↦ inl time | inr place ↦ inr (place.0, rank_more l k last.place.0 e.place.0 new.has place.1) ])
            new.version new.last (b.each k new.old new.was)
      ];
    }

at_most : (r t : ℕ) (s : SiteState) → r ≤ 7 → IsBounded r t s → (s.version ≤ 7 * s.last) × (s.last ≤ t)
at_most r t s most h = grind arith

-- what a bounded surface says of each site
bounded_gives : (l : Shape) (sites : List SiteState) (last : Key) (k : ℕ) (s : SiteState) → Bounded l sites last → slice_get sites k ≡ Some s → (s.version ≤ 7 * s.last) × (s.last ≤ last.time)
bounded_gives l sites last k s b at = at_most (rank l k last.place.0) last.time s (rank_most l k last.place.0) (b.each k s at)

bounded_versions : (l : Shape) (sites : List SiteState) (last : Key) → Bounded l sites last → All (λ s. s.version ≤ 7 * s.last) sites
bounded_versions l sites last b k d h = (bounded_gives l sites last k (get_or sites k d) b (slice_get-get_or sites k d h)).0

bounded_lasts : (l : Shape) (sites : List SiteState) (last : Key) → Bounded l sites last → All (λ s. s.last ≤ last.time) sites
bounded_lasts l sites last b k d h = (bounded_gives l sites last k (get_or sites k d) b (slice_get-get_or sites k d h)).1

bounded_run : (l : Shape) (rules : List Rule) (sites : List SiteState) (e : Event) (es : List Event) → Bounded l sites (key_of e) → RiseFrom e es → All (λ f. 1 ≤ f.time) es → Bounded l (after_all l rules sites es) (key_of (last_from e es))
bounded_run l rules sites e [] b up from = b
bounded_run l rules sites e (f ∷ fs) b up from =
    bounded_run l rules (after l rules sites f) f fs (bounded_step l rules sites (key_of e) f b up.0 (from 0 f (omega arith))) up.1 (All-tail (λ g. 1 ≤ g.time) f fs from)

-- after any list of events from the first surface on
bounded_all : (l : Shape) (rules : List Rule) (cells : List SpeciesId) (e : Event) (es : List Event) → RiseStrictly (e ∷ es) → All (λ f. 1 ≤ f.time) (e ∷ es) → Bounded l (after_all l rules (first_surface cells) (e ∷ es)) (key_of (last_from e es))
bounded_all l rules cells e es up from =
    let first : 1 ≤ e.time = from 0 e (omega arith) in
    bounded_run l rules (after l rules (first_surface cells) e) e es (bounded_step l rules (first_surface cells) origin e (bounded_start l cells) (below_time e first) first) up (All-tail (λ g. 1 ≤ g.time) e es from)
  where
    below_time : (f : Event) → 1 ≤ f.time → origin is_below key_of f
    below_time f h = grind (arith, nat_tests)

-- each version is at most 7 times its last
pub seven : (l : Shape) (rules : List Rule) (cells : List SpeciesId) (es : List Event) → RiseStrictly es → All (λ e. 1 ≤ e.time) es → All (λ s. s.version ≤ 7 * s.last) (after_all l rules (first_surface cells) es)
seven l rules cells [] up from = bounded_versions l (first_surface cells) origin (bounded_start l cells)
seven l rules cells (e ∷ es) up from = bounded_versions l _ (key_of (last_from e es)) (bounded_all l rules cells e es up from)

-- each last is at most the time of the last event
pub last_at_most : (l : Shape) (rules : List Rule) (cells : List SpeciesId) (es : List Event) → RiseStrictly es → All (λ e. 1 ≤ e.time) es → All (λ s. s.last ≤ end_time es) (after_all l rules (first_surface cells) es)
last_at_most l rules cells [] up from = bounded_lasts l (first_surface cells) origin (bounded_start l cells)
last_at_most l rules cells (e ∷ es) up from = bounded_lasts l _ (key_of (last_from e es)) (bounded_all l rules cells e es up from)
