-- The text of a run, event by event.
use Rattle.std.proofs.Common.{◌≡◌, ℕ, suc, ◌<◌, ◌≤◌, List, [], ◌∷◌, ◌++◌, length, Option, Some, None, true, false, refl, sym, ap, ◌∙◌, append_assoc, append-nil, arith, subst}
use Rattle.std.specs.Prelude.{Result, Ok, Err, OnOk, IsErrOf, ◌==◌, if◌then◌else◌}
use Rattle.std.proofs.lemmas.Bool.Decides.{nat_tests}
use Rattle.surf_kinds.specs.declared.event.Event.{Event}
use Rattle.lattice.specs.Surface.{after}
use Rattle.plan.proofs.LawLemmas.{history_due, history_none}
use Rattle.trace_text.specs.Lines.{event_text, end_text, limit_text}
use Rattle.run_writer.specs.declared.pages.Stop.{Stop}
use Rattle.run_writer.specs.declared.pages.Stop.TheVariants as stops
use Rattle.surf_outside.specs.Known.{AppendsPrefix}
use Rattle.run_writer.specs.Pages.{Page, page, Waiting, Wrote, Stopped, Puts, StopsWith, Sends}
use Rattle.run_writer.specs.RunText.{Scene, Reached, text_from, events_of, shown, reached, ticks_before}
use Rattle.plan.specs.History.{due}
use Rattle.run_writer.specs.Writing.{remaining_text, total, Progress, EndsWith, Ends, Advances}
use Rattle.run_writer.proofs.Written.{appends_none, wrote_nothing, wrote_more, stopped_after, stops_after, stops_within, sends_after}

-- the next event, and none, in a scene
abbrev pub IsDue : Scene → Reached → Event → Type 0
IsDue s r e = due s.network s.until r.sites ≡ Some e

abbrev pub NoneDue : Scene → Reached → Type 0
NoneDue s r = due s.network s.until r.sites ≡ None

pub events_step : (s : Scene) (r : Reached) (e : Event) → IsDue s r e → events_of s r.sites ≡ e ∷ events_of s (after s.network.lattice s.network.rules r.sites e)
events_step s r e h = history_due s.network s.until r.sites e h

-- what an event adds to the text
abbrev event_part : Scene → Reached → Event → List ℕ
event_part s r e = shown s r (ticks_before e.time r.ticks) ++ event_text s.network.lattice.cols e

pub text_step : (s : Scene) (r : Reached) (e : Event) (es : List Event) → text_from (e ∷ es) s r ≡ shown s r (ticks_before e.time r.ticks) ++ (if r.events == s.limit then limit_text s.limit else event_text s.network.lattice.cols e ++ text_from es s (reached s r e))
unfolding text_from
text_step s r e es = refl

pub below_limit : (n m : ℕ) → n < m → (n == m) ≡ false
below_limit n m h = grind (arith, nat_tests)

at_limit : (n m : ℕ) → n ≡ m → (n == m) ≡ true
at_limit n m h = grind (arith, nat_tests)

remaining_step : (s : Scene) (r : Reached) (e : Event) → IsDue s r e → r.events < s.limit → remaining_text s r ≡ event_part s r e ++ remaining_text s (reached s r e)
remaining_step s r e h lt =
    let es = events_of s (after s.network.lattice s.network.rules r.sites e) in
    let before = shown s r (ticks_before e.time r.ticks) in
    let line = event_text s.network.lattice.cols e in
    ap (λ l. text_from l s r) (events_step s r e h)
    ∙ (text_step s r e es
    ∙ (ap (λ b. before ++ (if b then limit_text s.limit else line ++ text_from es s (reached s r e))) (below_limit r.events s.limit lt)
    ∙ sym (append_assoc before line (text_from es s (reached s r e)))))

remaining_at_limit : (s : Scene) (r : Reached) (e : Event) → IsDue s r e → r.events ≡ s.limit → remaining_text s r ≡ shown s r (ticks_before e.time r.ticks) ++ limit_text s.limit
remaining_at_limit s r e h is =
    let es = events_of s (after s.network.lattice s.network.rules r.sites e) in
    let before = shown s r (ticks_before e.time r.ticks) in
    let line = event_text s.network.lattice.cols e in
    ap (λ l. text_from l s r) (events_step s r e h)
    ∙ (text_step s r e es
    ∙ ap (λ b. before ++ (if b then limit_text s.limit else line ++ text_from es s (reached s r e))) (at_limit r.events s.limit is))

-- the text goes on behind the surfaces before the event
remaining_shows : (s : Scene) (r : Reached) (e : Event) → IsDue s r e → (rest : List ℕ) × (remaining_text s r ≡ shown s r (ticks_before e.time r.ticks) ++ rest)
remaining_shows s r e h =
    let es = events_of s (after s.network.lattice s.network.rules r.sites e) in
    (_, ap (λ l. text_from l s r) (events_step s r e h) ∙ text_step s r e es)

pub text_end : (s : Scene) (r : Reached) → text_from [] s r ≡ shown s r r.ticks ++ end_text s.until r.events
unfolding text_from
text_end s r = refl

remaining_end : (s : Scene) (r : Reached) → NoneDue s r → remaining_text s r ≡ shown s r r.ticks ++ end_text s.until r.events
remaining_end s r h =
    ap (λ l. text_from l s r) (history_none s.network s.until r.sites h) ∙ text_end s r

total_step : (s : Scene) (r : Reached) (e : Event) → IsDue s r e → total s r ≡ total s (reached s r e)
total_step s r e h =
    let es = events_of s (after s.network.lattice s.network.rules r.sites e) in
    let long : length (events_of s r.sites) ≡ suc (length es) = ap length (events_step s r e h) in
    omega (arith, long)

total_more : (s : Scene) (r : Reached) (e : Event) → IsDue s r e → r.events < total s r
total_more s r e h =
    let es = events_of s (after s.network.lattice s.network.rules r.sites e) in
    let long : length (events_of s r.sites) ≡ suc (length es) = ap length (events_step s r e h) in
    omega (arith, long)

total_end : (s : Scene) (r : Reached) → NoneDue s r → total s r ≡ r.events
total_end s r h =
    let none : length (events_of s r.sites) ≡ 0 = ap length (history_none s.network s.until r.sites h) in
    omega (arith, none)

-- a failure within the first part of what was to be written
pub stopped_ends : {T : Type 0} (s : Scene) (r : Reached) (a b : Page) (x rest : List ℕ) (stop : Stop) → remaining_text s r ≡ x ++ rest → Stopped a b x stop → Ends {T = T} s r a b (Err stop)
stopped_ends {T} s r a b x rest stop is p = record {
  sends = subst (λ l. StopsWith a b l stop) (sym is) (stops_within a b x rest stop p);
  limited = by_failure stop p;
}
  where
    by_failure : (e : Stop) → Stopped a b x e → EndsWith {T = T} s r (Err e)
    by_failure stops.Limit p = absurd p.cause
    by_failure stops.Write p = tt
    by_failure stops.Memory p = tt

-- within the surfaces before an event
pub shows_ends : {T : Type 0} (s : Scene) (r : Reached) (e : Event) (a b : Page) (stop : Stop) → IsDue s r e → Stopped a b (shown s r (ticks_before e.time r.ticks)) stop → Ends {T = T} s r a b (Err stop)
shows_ends s r e a b stop h p =
    let next = remaining_shows s r e h in
    stopped_ends s r a b (shown s r (ticks_before e.time r.ticks)) next.0 stop next.1 p

-- the event is one more than the limit
pub stop_ends : {T : Type 0} (s : Scene) (r : Reached) (e : Event) (a b c : Page) (stop : Stop) → IsDue s r e → r.events ≡ s.limit → Wrote a b (shown s r (ticks_before e.time r.ticks)) → StopsWith b c (limit_text s.limit) stop → Ends {T = T} s r a c (Err stop)
stop_ends {T} s r e a b c stop h is p q = record {
  sends = subst (λ l. StopsWith a c l stop) (sym (remaining_at_limit s r e h is)) (stops_after a b c (shown s r (ticks_before e.time r.ticks)) (limit_text s.limit) stop p q);
  limited = by_stop stop;
}
  where
    by_stop : (k : Stop) → EndsWith {T = T} s r (Err k)
    by_stop stops.Limit = let more : r.events < total s r = total_more s r e h in omega (arith, more, is)
    by_stop stops.Write = tt
    by_stop stops.Memory = tt

-- the line of the event follows the surfaces before it
pub event_advances : {T : Type 0} (s : Scene) (r q : Reached) (e : Event) (a b c : Page) (result : Result T Stop) → IsDue s r e → r.events < s.limit → q ≡ reached s r e
    → Wrote a b (shown s r (ticks_before e.time r.ticks)) → Puts b c (event_text s.network.lattice.cols e) result → Advances s r q a c result
event_advances s r q e a b c (Ok x) h lt is p w = record {
  text = event_part s r e;
  wrote = wrote_more a b c (shown s r (ticks_before e.time r.ticks)) (event_text s.network.lattice.cols e) p w;
  rest = remaining_step s r e h lt ∙ ap (λ k. event_part s r e ++ remaining_text s k) (sym is);
  same_total = total_step s r e h ∙ ap (total s) (sym is);
}
event_advances s r q e a b c (Err stop) h lt is p w =
    stopped_ends s r a c (event_part s r e) (remaining_text s (reached s r e)) stop (remaining_step s r e h lt)
    (stopped_after a b c (shown s r (ticks_before e.time r.ticks)) (event_text s.network.lattice.cols e) stop p w)

-- the end line follows all surfaces
pub end_ends : {T : Type 0} (s : Scene) (r : Reached) (a b c : Page) (result : Result T Stop) → NoneDue s r → r.events ≤ s.limit → Wrote a b (shown s r r.ticks) → Puts b c (end_text s.until r.events) result → OnOk result (c.pending ≡ []) → Ends s r a c result
end_ends s r a b c (Ok x) h le p w none = record {
  sends = record {
    wrote = subst (Wrote a c) (sym (remaining_end s r h)) (wrote_more a b c (shown s r r.ticks) (end_text s.until r.events) p w);
    none = none;
  };
  limited = let same : total s r ≡ r.events = total_end s r h in omega (arith, same, le);
}
end_ends s r a b c (Err stop) h le p w none =
    stopped_ends s r a c (shown s r r.ticks ++ end_text s.until r.events) [] stop (remaining_end s r h ∙ sym (append-nil (shown s r r.ticks ++ end_text s.until r.events)))
    (stopped_after a b c (shown s r r.ticks) (end_text s.until r.events) stop p w)

-- within the surfaces before the end
pub last_shows_ends : {T : Type 0} (s : Scene) (r : Reached) (a b : Page) (stop : Stop) → NoneDue s r → Stopped a b (shown s r r.ticks) stop → Ends {T = T} s r a b (Err stop)
last_shows_ends s r a b stop h p = stopped_ends s r a b (shown s r r.ticks) (end_text s.until r.events) stop (remaining_end s r h) p

-- nothing was written yet
pub progress_start : (s : Scene) (r : Reached) (a : Page) → Progress s r r a a
progress_start s r a = record { text = []; wrote = wrote_nothing a; rest = refl; same_total = refl }

-- one part and then another
pub progress_more : (s : Scene) (r q p : Reached) (a b c : Page) → Progress s r q a b → Progress s q p b c → Progress s r p a c
progress_more s r q p a b c t u = record {
  text = t.text ++ u.text;
  wrote = wrote_more a b c t.text u.text t.wrote u.wrote;
  rest = t.rest ∙ (ap (λ l. t.text ++ l) u.rest ∙ sym (append_assoc t.text u.text (remaining_text s p)));
  same_total = t.same_total ∙ u.same_total;
}

-- one part, and then what ends the telling
pub progress_ends : {T : Type 0} (s : Scene) (r q : Reached) (a b c : Page) (result : Result T Stop) → Progress s r q a b → Ends s q b c result → Ends s r a c result
progress_ends {T} s r q a b c result t u = record {
  sends = subst (λ l. Sends a c l result) (sym t.rest) (sends_after a b c t.text (remaining_text s q) result t.wrote u.sends);
  limited = subst_total result u.limited;
}
  where
    subst_total : (x : Result T Stop) → EndsWith s q x → EndsWith s r x
    subst_total (Ok x) h = omega (arith, h, t.same_total)
    subst_total (Err stops.Limit) h = omega (arith, h, t.same_total)
    subst_total (Err stops.Write) h = tt
    subst_total (Err stops.Memory) h = tt

-- memory ran out behind a part
pub progress_memory : {T : Type 0} (s : Scene) (r q : Reached) (a b : Page) → Progress s r q a b → Ends {T = T} s r a b (Err stops.Memory)
progress_memory {T} s r q a b t = progress_ends {T = T} s r q a b b (Err stops.Memory) t (stopped_ends s q b b [] (remaining_text s q) stops.Memory refl (record { prefix = (0, appends_none b.written); later = omega arith; cause = tt }))

-- behind a part what waits was sent
pub flushed_advances : {T : Type 0} (s : Scene) (r q : Reached) (a b c : Page) (result : Result T Stop) → Progress s r q a b → Puts b c [] result → Advances s r q a c result
flushed_advances s r q a b c (Ok x) t w = progress_more s r q q a b c t (record { text = []; wrote = w; rest = refl; same_total = refl })
flushed_advances {T} s r q a b c (Err stop) t w = progress_ends {T = T} s r q a b c (Err stop) t (stopped_ends s q b c [] (remaining_text s q) stop refl w)

-- what pends and what was put behind it
pub puts_behind : {T : Type 0} (written : Option (List ℕ)) (faults : ℕ) (p q : Waiting) (c : Page) (x : List ℕ) (result : Result T Stop) → q.bytes ≡ p.bytes ++ x → Puts (page written faults q) c [] result → Puts (page written faults p) c x result
puts_behind written faults p q c x (Ok v) is w = record { sent = w.sent; gone = w.gone; rest = sym is ∙ (sym (append-nil q.bytes) ∙ w.rest); later = w.later }
puts_behind written faults p q c x (Err stop) is w = record { prefix = subst (AppendsPrefix written c.written) (append-nil q.bytes ∙ is) w.prefix; later = w.later; cause = w.cause }

-- memory ran out, and nothing went out
pub out_of_memory : (written : Option (List ℕ)) (faults : ℕ) (p q : Waiting) (x : List ℕ) → Stopped (page written faults p) (page written faults q) x stops.Memory
out_of_memory written faults p q x = record { prefix = (0, appends_none written); later = omega arith; cause = tt }

pub on_ok : {T E P : Type 0} (r : Result T E) → P → OnOk r P
on_ok (Ok x) p = p
on_ok (Err e) p = tt

-- what fails within a text doesn't stop at the limit
pub no_limit : {T : Type 0} (a b : Page) (x : List ℕ) (r : Result T Stop) → Puts a b x r → IsErrOf r stops.Limit → ⊥
no_limit a b x (Ok v) p h = cc
no_limit a b x (Err stops.Limit) p h = p.cause
no_limit a b x (Err stops.Write) p h = cc
no_limit a b x (Err stops.Memory) p h = cc

-- nor does the end, where no event is due and there were no more than the limit
pub ends_no_limit : {T : Type 0} (s : Scene) (r : Reached) (a b : Page) (result : Result T Stop) → NoneDue s r → r.events ≤ s.limit → Ends s r a b result → IsErrOf result stops.Limit → ⊥
ends_no_limit s r a b (Ok v) none le e h = cc
ends_no_limit s r a b (Err stops.Limit) none le e h = let same : total s r ≡ r.events = total_end s r none in omega (arith, e.limited, same, le)
ends_no_limit s r a b (Err stops.Write) none le e h = cc
ends_no_limit s r a b (Err stops.Memory) none le e h = cc
