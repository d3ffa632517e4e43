-- A run of which the events are counted alone, and what is left of it on the way.
use Rattle.std.proofs.Common.{◌≡◌, ℕ, ◌+◌, ◌<◌, ◌≤◌, List, [], ◌∷◌, ◌++◌, length, None, refl, sym, ap, ◌∙◌, arith, subst}
use Rattle.std.specs.Prelude.{All}
use Rattle.std.proofs.lemmas.List.{length-append}
use Rattle.surf_kinds.specs.declared.event.Event.{Event}
use Rattle.surf_kinds.specs.declared.site.SiteState.{SiteState}
use Rattle.plan.specs.History.{due, history, AreNext}
use Rattle.plan.proofs.LawLemmas.{history_next, history_none}
use Rattle.warp_core.proofs.LawLemmas.{sites-append}
use Rattle.crew.specs.Crews.{CrewView}
use Rattle.one_engine.specs.Running.{IsSettled}
use Rattle.one_engine.proofs.LawLemmas.{first_settled}
use Rattle.run_writer.specs.declared.counting.RunEnd.{RunEnd}
use Rattle.run_writer.specs.Counting.{GoesOn, EndsAlike}
use Rattle.run_writer.specs.Crewed.{IsAlong}
use Rattle.run_writer.specs.Cuts.{surface_after}
use Rattle.run_writer.specs.RunText.{Scene, Reached, events_of}
use Rattle.run_writer.specs.Runs.{MayRun}
use Rattle.run_writer.specs.StressText.{last_time}

last_append : (tick : ℕ) (xs ys : List Event) → last_time tick (xs ++ ys) ≡ last_time (last_time tick xs) ys
last_append tick [] ys = refl
last_append tick (x ∷ xs) ys = last_append x.time xs ys

rest_is : (s : Scene) (v u : List SiteState) (es : List Event) → AreNext s.network s.until v es → u ≡ surface_after s v es → events_of s v ≡ es ++ events_of s u
rest_is s v u es next is = history_next s.network s.until v es next ∙ ap (λ (x : List SiteState). es ++ history s.network s.until x) (sym is)

-- the next events lead to a surface from which the run ends alike
pub next_alike : (s : Scene) (v u : List SiteState) (a : RunEnd) (last : ℕ) (es : List Event) → AreNext s.network s.until v es → u ≡ surface_after s v es → last ≡ last_time a.last es
    → EndsAlike s v a u (record { events = a.events + length es; last = last })
next_alike s v u a last es next is time =
    let rest = events_of s u in
    let whole = rest_is s v u es next is in
    record {
      count = omega (arith, ap length whole, length-append es rest);
      last = ap (last_time a.last) whole ∙ (last_append a.last es rest ∙ ap (λ t. last_time t rest) (sym time));
      sites = ap (surface_after s v) whole ∙ (sites-append s.network v es rest ∙ ap (λ x. surface_after s x rest) (sym is));
    }

-- with more of them than the limit leaves, the run has more events than the limit
pub next_many : (s : Scene) (v u : List SiteState) (events : ℕ) (es : List Event) → AreNext s.network s.until v es → u ≡ surface_after s v es → s.limit < events + length es → s.limit < events + length (events_of s v)
next_many s v u events es next is more = omega (arith, more, ap length (rest_is s v u es next is), length-append es (events_of s u))

pub alike_self : (s : Scene) (v : List SiteState) (a : RunEnd) → EndsAlike s v a v a
alike_self s v a = record { count = refl; last = refl; sites = refl }

pub alike_more : (s : Scene) (v u w : List SiteState) (a b c : RunEnd) → EndsAlike s v a u b → EndsAlike s u b w c → EndsAlike s v a w c
alike_more s v u w a b c p q = record { count = p.count ∙ q.count; last = p.last ∙ q.last; sites = p.sites ∙ q.sites }

same_end : (n m : ℕ) (k l : ℕ) → n ≡ m → k ≡ l → (let e : RunEnd = record { events = n; last = k } in e) ≡ record { events = m; last = l }
same_end n m k l p q = cc

-- Where nothing more is due, the run has ended

pub alike_end : (s : Scene) (v u : List SiteState) (b : RunEnd) → EndsAlike s v (record { events = 0; last = 0 }) u b → due s.network s.until u ≡ None → b ≡ record { events = length (events_of s v); last = last_time 0 (events_of s v) }
alike_end s v u b h none =
    let left : events_of s u ≡ [] = history_none s.network s.until u none in
    same_end _ _ _ _ (let e : b.events ≡ length (events_of s v) = omega (arith, h.count, ap length left) in e) (sym (h.last ∙ ap (last_time b.last) left))

pub alike_few : (s : Scene) (v u : List SiteState) (b : RunEnd) → EndsAlike s v (record { events = 0; last = 0 }) u b → due s.network s.until u ≡ None → b.events ≤ s.limit → length (events_of s v) ≤ s.limit
alike_few s v u b h none few = omega (arith, h.count, ap length (history_none s.network s.until u none), few)

pub alike_sites : (s : Scene) (v u : List SiteState) (a b : RunEnd) → EndsAlike s v a u b → due s.network s.until u ≡ None → u ≡ surface_after s v (events_of s v)
alike_sites s v u a b h none = sym (h.sites ∙ ap (surface_after s u) (history_none s.network s.until u none))

-- a run without sampling ticks has come as far
pub along_counted : (s : Scene) (c : CrewView) (r : Reached) → IsAlong s c r → IsAlong s c (record { sites = r.sites; events = r.events; ticks = [] })
along_counted s c r a = record { network = a.network; until = a.until; reached = a.reached; count = a.count }

-- a first surface goes on
pub first_goes_on : (s : Scene) (c : CrewView) → MayRun s c → GoesOn s.network c.start
first_goes_on s c may = record { lattice = may.lattice; species = may.species; settled = subst (All IsSettled) (sym may.first.1) (first_settled may.first.0) }
