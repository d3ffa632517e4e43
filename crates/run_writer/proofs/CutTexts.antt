-- Run texts that are cut at a tick, and run texts tick by tick.
use Rattle.std.proofs.Common.{◌≡◌, ℕ, suc, ◌+◌, ◌<◌, ◌≤◌, Bool, true, false, List, [], ◌∷◌, ◌++◌, length, refl, sym, ap, ◌∙◌, append_assoc, arith}
use Rattle.std.specs.Prelude.{nat_le, nat_lt, if◌then◌else◌}
use Rattle.std.proofs.lemmas.Bool.{leb-true}
use Rattle.std.proofs.lemmas.Bool.Decides.{nat_tests}
use Rattle.surf_kinds.specs.declared.event.Event.{Event}
use Rattle.surf_kinds.specs.declared.site.SiteState.{SiteState}
use Rattle.lattice.specs.Surface.{after}
use Rattle.plan.specs.History.{IsHistory}
use Rattle.trace_text.specs.Lines.{event_text, surface_text, end_text, limit_text}
use Rattle.run_writer.specs.RunText.{Scene, Reached, text_from, events_of, shown, reached, start, ticks_before, ticks_from, run_text, sampling_ticks}
use Rattle.run_writer.specs.Writing.{remaining_text}
use Rattle.run_writer.specs.Cuts.{events_upto, events_beyond, surface_after, reached_after, first_part, event_lines, text_by_ticks}
use Rattle.run_writer.proofs.Progressing.{events_step, text_step, text_end, below_limit}
use Rattle.run_writer.proofs.Sampling.{before_more, from_more}

-- a text of events goes on behind the first of them
pub text_parted : (es rest : List Event) (s : Scene) (r : Reached) → r.events + length es ≤ s.limit → text_from (es ++ rest) s r ≡ first_part es s r ++ text_from rest s (reached_after s r es)
text_parted [] rest s r h = refl
text_parted (e ∷ es) rest s r h =
    let before = shown s r (ticks_before e.time r.ticks) in
    let line = event_text s.network.lattice.cols e in
    let deep : text_from (es ++ rest) s (reached s r e) ≡ first_part es s (reached s r e) ++ text_from rest s (reached_after s (reached s r e) es) = text_parted es rest s (reached s r e) (omega (arith, h)) in
    text_step s r e (es ++ rest)
    ∙ (ap (λ b. before ++ (if b then limit_text s.limit else line ++ text_from (es ++ rest) s (reached s r e))) (below_limit r.events s.limit (omega (arith, h)))
    ∙ (ap (λ t. before ++ (line ++ t)) deep
    ∙ (ap (λ t. before ++ t) (sym (append_assoc line (first_part es s (reached s r e)) (text_from rest s (reached_after s (reached s r e) es))))
    ∙ sym (append_assoc before (line ++ first_part es s (reached s r e)) (text_from rest s (reached_after s (reached s r e) es))))))

-- the events up to a tick, and those behind it
pub events_parted : (tick : ℕ) (es : List Event) → events_upto tick es ++ events_beyond tick es ≡ es
events_parted tick [] = refl
events_parted tick (e ∷ es) = by (nat_le e.time tick) (events_parted tick es)
  where
    by : (b : Bool) → events_upto tick es ++ events_beyond tick es ≡ es → (if b then e ∷ events_upto tick es else []) ++ (if b then events_beyond tick es else e ∷ es) ≡ e ∷ es
    by true h = ap (λ l. e ∷ l) h
    by false h = refl

pub reached_sites : (s : Scene) (r : Reached) (es : List Event) → (reached_after s r es).sites ≡ surface_after s r.sites es
reached_sites s r [] = refl
reached_sites s r (e ∷ es) = reached_sites s (reached s r e) es

-- without events only the ticks are left
no_events : (ticks : List ℕ) (s : Scene) (sites : List SiteState) (events : ℕ) → text_from [] s (record { sites = sites; events = events; ticks = ticks }) ≡ text_by_ticks ticks [] s sites events
unfolding text_by_ticks
no_events [] s sites events = let none : events ≡ events + 0 = omega arith in text_end s (record { sites = sites; events = events; ticks = [] }) ∙ ap (end_text s.until) none
no_events (tick ∷ ticks) s sites events =
    let r : Reached = record { sites = sites; events = events; ticks = tick ∷ ticks } in
    let q : Reached = record { sites = sites; events = events; ticks = ticks } in
    let none : events ≡ events + 0 = omega arith in
    let here = surface_text s.names s.network.lattice sites tick events in
    text_end s r
    ∙ (append_assoc here (shown s q ticks) (end_text s.until events)
    ∙ (ap (λ t. here ++ t) (sym (text_end s q) ∙ no_events ticks s sites events)
    ∙ ap (λ n. surface_text s.names s.network.lattice sites tick n ++ text_by_ticks ticks [] s sites n) none))

-- what stands up to a tick and behind it, by the events up to it and the others
abbrev tick_text : Scene → List SiteState → ℕ → ℕ → List ℕ → List Event → List Event → List ℕ
tick_text s sites events tick ticks xs ys =
    event_lines s xs
    ++ (surface_text s.names s.network.lattice (surface_after s sites xs) tick (events + length xs) ++ text_by_ticks ticks ys s (surface_after s sites xs) (events + length xs))

tick_is : (tick : ℕ) (ticks : List ℕ) (es : List Event) (s : Scene) (sites : List SiteState) (events : ℕ) → tick_text s sites events tick ticks (events_upto tick es) (events_beyond tick es) ≡ text_by_ticks (tick ∷ ticks) es s sites events
unfolding text_by_ticks
tick_is tick ticks es s sites events = refl

last_is : (es : List Event) (s : Scene) (sites : List SiteState) (events : ℕ) → event_lines s es ++ end_text s.until (events + length es) ≡ text_by_ticks [] es s sites events
unfolding text_by_ticks
last_is es s sites events = refl

upto_more : (tick : ℕ) (e : Event) (es : List Event) (b : Bool) → nat_le e.time tick ≡ b → events_upto tick (e ∷ es) ≡ (if b then e ∷ events_upto tick es else [])
upto_more tick e es b h = ap (λ x. if x then e ∷ events_upto tick es else []) h

beyond_more : (tick : ℕ) (e : Event) (es : List Event) (b : Bool) → nat_le e.time tick ≡ b → events_beyond tick (e ∷ es) ≡ (if b then events_beyond tick es else e ∷ es)
beyond_more tick e es b h = ap (λ x. if x then events_beyond tick es else e ∷ es) h

-- with an event before the tick
tick_more : (tick : ℕ) (ticks : List ℕ) (e : Event) (es : List Event) (s : Scene) (sites : List SiteState) (events : ℕ) → nat_le e.time tick ≡ true
    → event_text s.network.lattice.cols e ++ text_by_ticks (tick ∷ ticks) es s (after s.network.lattice s.network.rules sites e) (events + 1) ≡ text_by_ticks (tick ∷ ticks) (e ∷ es) s sites events
tick_more tick ticks e es s sites events h =
    let line = event_text s.network.lattice.cols e in
    let xs = events_upto tick es in
    let ys = events_beyond tick es in
    let now = surface_after s (after s.network.lattice s.network.rules sites e) xs in
    let count : events + 1 + length xs ≡ events + suc (length xs) = omega arith in
    ap (λ t. line ++ t) (sym (tick_is tick ticks es s (after s.network.lattice s.network.rules sites e) (events + 1)))
    ∙ (sym (append_assoc line (event_lines s xs) (surface_text s.names s.network.lattice now tick (events + 1 + length xs) ++ text_by_ticks ticks ys s now (events + 1 + length xs)))
    ∙ (ap (λ n. (line ++ event_lines s xs) ++ (surface_text s.names s.network.lattice now tick n ++ text_by_ticks ticks ys s now n)) count
    ∙ (ap (λ (zs : List Event). tick_text s sites events tick ticks (e ∷ xs) zs) (sym (beyond_more tick e es true h))
    ∙ (ap (λ (zs : List Event). tick_text s sites events tick ticks zs (events_beyond tick (e ∷ es))) (sym (upto_more tick e es true h))
    ∙ tick_is tick ticks (e ∷ es) s sites events))))

-- with no event before the tick
tick_none : (tick : ℕ) (ticks : List ℕ) (e : Event) (es : List Event) (s : Scene) (sites : List SiteState) (events : ℕ) → nat_le e.time tick ≡ false
    → surface_text s.names s.network.lattice sites tick events ++ text_by_ticks ticks (e ∷ es) s sites events ≡ text_by_ticks (tick ∷ ticks) (e ∷ es) s sites events
tick_none tick ticks e es s sites events h =
    let none : events ≡ events + 0 = omega arith in
    ap (λ n. surface_text s.names s.network.lattice sites tick n ++ text_by_ticks ticks (e ∷ es) s sites n) none
    ∙ (ap (λ (zs : List Event). tick_text s sites events tick ticks [] zs) (sym (beyond_more tick e es false h))
    ∙ (ap (λ (zs : List Event). tick_text s sites events tick ticks zs (events_beyond tick (e ∷ es))) (sym (upto_more tick e es false h))
    ∙ tick_is tick ticks (e ∷ es) s sites events))

abbrev at_ticks : List SiteState → ℕ → List ℕ → Reached
at_ticks sites events ticks = record { sites = sites; events = events; ticks = ticks }

-- the next event below the limit
pub step_below : (s : Scene) (r : Reached) (e : Event) (es : List Event) → r.events < s.limit → text_from (e ∷ es) s r ≡ shown s r (ticks_before e.time r.ticks) ++ (event_text s.network.lattice.cols e ++ text_from es s (reached s r e))
step_below s r e es h =
    text_step s r e es ∙ ap (λ b. shown s r (ticks_before e.time r.ticks) ++ (if b then limit_text s.limit else event_text s.network.lattice.cols e ++ text_from es s (reached s r e))) (below_limit r.events s.limit h)

before_none : (time tick : ℕ) (ticks : List ℕ) → time ≤ tick → ticks_before time (tick ∷ ticks) ≡ []
before_none time tick ticks h =
    let test : nat_lt tick time ≡ false = grind (arith, nat_tests) in
    ap (λ b. if b then tick ∷ ticks_before time ticks else []) test

from_none : (time tick : ℕ) (ticks : List ℕ) → time ≤ tick → ticks_from time (tick ∷ ticks) ≡ tick ∷ ticks
from_none time tick ticks h =
    let test : nat_lt tick time ≡ false = grind (arith, nat_tests) in
    ap (λ b. if b then ticks_from time ticks else tick ∷ ticks) test

le_of : (n m : ℕ) → nat_le n m ≡ true → n ≤ m
le_of n m h = leb-true n m h

lt_of : (n m : ℕ) → nat_le n m ≡ false → m < n
lt_of n m h = grind (arith, nat_tests)

-- with one event more
with_event : (e : Event) (es : List Event) (s : Scene) → ((ticks : List ℕ) (sites : List SiteState) (events : ℕ) → events + length es ≤ s.limit → text_from es s (at_ticks sites events ticks) ≡ text_by_ticks ticks es s sites events)
    → (ticks : List ℕ) (sites : List SiteState) (events : ℕ) → events + suc (length es) ≤ s.limit → text_from (e ∷ es) s (at_ticks sites events ticks) ≡ text_by_ticks ticks (e ∷ es) s sites events
with_event e es s others [] sites events h =
    let line = event_text s.network.lattice.cols e in
    let r = at_ticks sites events [] in
    let deep = others [] (after s.network.lattice s.network.rules sites e) (events + 1) (omega (arith, h)) in
    let count : events + 1 + length es ≡ events + suc (length es) = omega arith in
    step_below s r e es (omega (arith, h))
    ∙ (ap (λ t. line ++ t) (deep ∙ sym (last_is es s (after s.network.lattice s.network.rules sites e) (events + 1)))
    ∙ (sym (append_assoc line (event_lines s es) (end_text s.until (events + 1 + length es)))
    ∙ (ap (λ n. (line ++ event_lines s es) ++ end_text s.until n) count
    ∙ last_is (e ∷ es) s sites events)))
with_event e es s others (tick ∷ ticks) sites events h = by (nat_le e.time tick) refl (with_event e es s others ticks sites events h)
  where
    by : (b : Bool) → nat_le e.time tick ≡ b → text_from (e ∷ es) s (at_ticks sites events ticks) ≡ text_by_ticks ticks (e ∷ es) s sites events → text_from (e ∷ es) s (at_ticks sites events (tick ∷ ticks)) ≡ text_by_ticks (tick ∷ ticks) (e ∷ es) s sites events
    by true t deep =
        let line = event_text s.network.lattice.cols e in
        let r = at_ticks sites events (tick ∷ ticks) in
        let next = after s.network.lattice s.network.rules sites e in
        let le : e.time ≤ tick = le_of e.time tick t in
        step_below s r e es (omega (arith, h))
        ∙ (ap (λ l. shown s r l ++ (line ++ text_from es s (reached s r e))) (before_none e.time tick ticks le)
        ∙ (ap (λ l. line ++ text_from es s (at_ticks next (events + 1) l)) (from_none e.time tick ticks le)
        ∙ (ap (λ x. line ++ x) (others (tick ∷ ticks) next (events + 1) (omega (arith, h)))
        ∙ tick_more tick ticks e es s sites events t)))
    by false t deep =
        let line = event_text s.network.lattice.cols e in
        let r = at_ticks sites events (tick ∷ ticks) in
        let q = at_ticks sites events ticks in
        let next = after s.network.lattice s.network.rules sites e in
        let here = surface_text s.names s.network.lattice sites tick events in
        let lt : tick < e.time = lt_of e.time tick t in
        step_below s r e es (omega (arith, h))
        ∙ (ap (λ l. shown s r l ++ (line ++ text_from es s (reached s r e))) (before_more e.time tick ticks lt)
        ∙ (ap (λ l. (here ++ shown s q (ticks_before e.time ticks)) ++ (line ++ text_from es s (at_ticks next (events + 1) l))) (from_more e.time tick ticks lt)
        ∙ (append_assoc here (shown s q (ticks_before e.time ticks)) (line ++ text_from es s (reached s q e))
        ∙ (ap (λ x. here ++ x) (sym (step_below s q e es (omega (arith, h))) ∙ deep)
        ∙ tick_none tick ticks e es s sites events t))))

pub by_ticks : (es : List Event) (s : Scene) (ticks : List ℕ) (sites : List SiteState) (events : ℕ) → events + length es ≤ s.limit → text_from es s (at_ticks sites events ticks) ≡ text_by_ticks ticks es s sites events
by_ticks [] s ticks sites events h = no_events ticks s sites events
by_ticks (e ∷ es) s ticks sites events h = with_event e es s (by_ticks es s) ticks sites events h

-- a history, step by step: behind the events up to a tick stands the history of the surface after them
pub rest_events : (s : Scene) (tick : ℕ) (es : List Event) (sites : List SiteState) → IsHistory s.network s.until sites es → events_of s sites ≡ es → events_of s (surface_after s sites (events_upto tick es)) ≡ events_beyond tick es
rest_events s tick [] sites h is = is
rest_events s tick (e ∷ es) sites h is =
    let next = after s.network.lattice s.network.rules sites e in
    let r : Reached = at_ticks sites 0 [] in
    let others : events_of s next ≡ es = cc (events_step s r e h.0) in
    by (nat_le e.time tick) (rest_events s tick es next h.1 others)
  where
    by : (b : Bool) → events_of s (surface_after s (after s.network.lattice s.network.rules sites e) (events_upto tick es)) ≡ events_beyond tick es → events_of s (surface_after s sites (if b then e ∷ events_upto tick es else [])) ≡ (if b then events_beyond tick es else e ∷ es)
    by true deep = deep
    by false deep = is

-- the whole text, cut at a tick
pub text_cut : (s : Scene) (sites : List SiteState) (tick : ℕ) → IsHistory s.network s.until sites (events_of s sites) → length (events_upto tick (events_of s sites)) ≤ s.limit
    → run_text s sites ≡ first_part (events_upto tick (events_of s sites)) s (start s sites) ++ remaining_text s (reached_after s (start s sites) (events_upto tick (events_of s sites)))
text_cut s sites tick h few =
    let es = events_of s sites in
    let front = events_upto tick es in
    let r = start s sites in
    let q = reached_after s r front in
    let rest : events_beyond tick es ≡ events_of s q.sites = sym (ap (events_of s) (reached_sites s r front) ∙ rest_events s tick es sites h refl) in
    ap (λ (l : List Event). text_from l s r) (sym (events_parted tick es))
    ∙ (text_parted front (events_beyond tick es) s r (omega (arith, few))
    ∙ ap (λ (l : List Event). first_part front s r ++ text_from l s q) rest)

-- the whole text, tick by tick
pub text_at_ticks : (s : Scene) (sites : List SiteState) → length (events_of s sites) ≤ s.limit → run_text s sites ≡ text_by_ticks (sampling_ticks s.until s.samples) (events_of s sites) s sites 0
text_at_ticks s sites h = by_ticks (events_of s sites) s (sampling_ticks s.until s.samples) sites 0 (omega (arith, h))
