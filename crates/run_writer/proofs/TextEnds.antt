-- A run text that isn't cut ends with the number of its events, and the last surface that is shown stands before that.
use Rattle.std.proofs.Common.{◌≡◌, ℕ, zero, suc, ◌+◌, ◌*◌, ◌/◌, ◌<◌, ◌≤◌, List, [], ◌∷◌, ◌++◌, length, map, Bool, true, false, sym, ap, ◌∙◌, arith, append_assoc, append-nil, refl, if◌then◌else◌}
use Rattle.std.specs.Prelude.{nat_lt}
use Rattle.std.specs.List.{range_with_len}
use Rattle.std.proofs.lemmas.Bool.Decides.{nat_tests}
use Rattle.std.proofs.Math.Nat.{mul-div_cancel_left}
use Rattle.std.proofs.lemmas.List.{map-append}
use Rattle.std.proofs.lemmas.Grind.{flat_map-append}
use Rattle.surf_kinds.specs.declared.event.Event.{Event}
use Rattle.lattice.specs.Surface.{after_all}
use Rattle.plan.specs.History.{IsHistory}
use Rattle.plan.proofs.LawLemmas.{due_next}
use Rattle.trace_text.specs.Lines.{event_text, surface_text, end_text}
use Rattle.run_writer.specs.RunText.{Scene, Reached, sampling_ticks, ticks_before, ticks_from, shown, reached, text_from}
use Rattle.run_writer.specs.Cuts.{EndsWithText}
use Rattle.run_writer.proofs.CutTexts.{step_below}
use Rattle.run_writer.proofs.Progressing.{text_end}

three : (a b c d : List ℕ) → a ++ (b ++ (c ++ d)) ≡ (a ++ (b ++ c)) ++ d
three a b c d = ap (λ x. a ++ x) (sym (append_assoc b c d)) ∙ sym (append_assoc a (b ++ c) d)

-- what the text of the later events ends with ends the whole
behind_event : (es : List Event) (s : Scene) (r : Reached) (e : Event) (back : List ℕ) → r.events < s.limit → EndsWithText back (text_from es s (reached s r e)) → EndsWithText back (text_from (e ∷ es) s r)
behind_event es s r e back lt rest =
    let a = shown s r (ticks_before e.time r.ticks) in
    let b = event_text s.network.lattice.cols e in (
      a ++ (b ++ rest.0),
      step_below s r e es lt ∙ ap (λ x. a ++ (b ++ x)) rest.1 ∙ three a b rest.0 back,
    )

pub ends : (es : List Event) (s : Scene) (r : Reached) (n : ℕ) → n ≡ r.events + length es → n ≤ s.limit → EndsWithText (end_text s.until n) (text_from es s r)
ends [] s r n is few = (shown s r r.ticks, text_end s r ∙ ap (λ k. shown s r r.ticks ++ end_text s.until k) (let e : r.events ≡ n = omega (arith, is) in e))
ends (e ∷ es) s r n is few = behind_event es s r e (end_text s.until n) (omega (arith, is, few)) (ends es s (reached s r e) n (omega (arith, is)) few)

-- the last of the ticks is the end of the run, and stays to the end
from_last : (time until : ℕ) (xs : List ℕ) → time ≤ until → (ys : List ℕ) × (ticks_from time (xs ++ until ∷ []) ≡ ys ++ until ∷ [])
from_last time until [] le =
    let test : nat_lt until time ≡ false = grind (arith, nat_tests) in
    ([], ap (λ b. if b then [] else until ∷ []) test)
from_last time until (x ∷ xs) le = by (nat_lt x time) (from_last time until xs le)
  where
    by : (b : Bool) → ((ys : List ℕ) × (ticks_from time (xs ++ until ∷ []) ≡ ys ++ until ∷ [])) → (ys : List ℕ) × ((if b then ticks_from time (xs ++ until ∷ []) else x ∷ (xs ++ until ∷ [])) ≡ ys ++ until ∷ [])
    by true rest = rest
    by false rest = (x ∷ xs, refl)

abbrev last_text : Scene → Reached → ℕ → List ℕ
last_text s r n = surface_text s.names s.network.lattice r.sites s.until n ++ end_text s.until n

shown_last : (s : Scene) (r : Reached) (xs : List ℕ) → r.ticks ≡ xs ++ s.until ∷ [] → shown s r r.ticks ++ end_text s.until r.events ≡ shown s r xs ++ last_text s r r.events
shown_last s r xs is =
    let line : ℕ → List ℕ = λ tick. surface_text s.names s.network.lattice r.sites tick r.events in
    let e : shown s r r.ticks ≡ shown s r xs ++ line s.until = ap (shown s r) is ∙ flat_map-append line xs (s.until ∷ []) ∙ ap (λ x. shown s r xs ++ x) (append-nil (line s.until)) in
    ap (λ x. x ++ end_text s.until r.events) e ∙ append_assoc (shown s r xs) (line s.until) (end_text s.until r.events)

abbrev back_text : Scene → Reached → List Event → ℕ → List ℕ
back_text s r es n = surface_text s.names s.network.lattice (after_all s.network.lattice s.network.rules r.sites es) s.until n ++ end_text s.until n

pub shows : (es : List Event) (s : Scene) (r : Reached) (xs : List ℕ) (n : ℕ) → IsHistory s.network s.until r.sites es → r.ticks ≡ xs ++ s.until ∷ [] → n ≡ r.events + length es → n ≤ s.limit
    → EndsWithText (back_text s r es n) (text_from es s r)
shows [] s r xs n h is count few =
    (shown s r xs, text_end s r ∙ shown_last s r xs is ∙ ap (λ k. shown s r xs ++ last_text s r k) (let e : r.events ≡ n = omega (arith, count) in e))
shows (e ∷ es) s r xs n h is count few =
    let in_time : e.time ≤ s.until = (due_next s.network s.until r.sites e h.0).1 in
    let left = from_last e.time s.until xs in_time in
    behind_event es s r e (back_text s r (e ∷ es) n) (omega (arith, count, few))
    (shows es s (reached s r e) left.0 n h.1 (ap (ticks_from e.time) is ∙ left.1) (omega (arith, count)) few)

-- the sampling ticks end with the duration

range_snoc : (a n : ℕ) → range_with_len a (suc n) ≡ range_with_len a n ++ (a + n) ∷ []
range_snoc a zero = ap (λ k. k ∷ []) (let e : a ≡ a + 0 = omega arith in e)
range_snoc a (suc n) = ap (λ l. a ∷ l) (range_snoc (a + 1) n ∙ ap (λ k. range_with_len (a + 1) n ++ k ∷ []) (let e : a + 1 + n ≡ a + suc n = omega arith in e))

pub ticks_end : (until samples : ℕ) → 1 ≤ samples → (xs : List ℕ) × (sampling_ticks until samples ≡ xs ++ until ∷ [])
ticks_end until zero some = absurd (omega (arith, some))
ticks_end until (suc n) some =
    let f : ℕ → ℕ = λ i. i * until / suc n in
    let last : f (1 + n) ≡ until = ap f (let e : 1 + n ≡ suc n = omega arith in e) ∙ mul-div_cancel_left until {n = suc n} (omega arith) in
    (map f (range_with_len 1 n), ap (map f) (range_snoc 1 n) ∙ map-append f (range_with_len 1 n) ((1 + n) ∷ []) ∙ ap (λ k. map f (range_with_len 1 n) ++ k ∷ []) last)
