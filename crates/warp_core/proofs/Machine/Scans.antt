-- Scans of the entries for the first that passes a test, and the Backs that follow.
use Rattle.std.proofs.Common.{◌≡◌, ℕ, zero, suc, ◌+◌, ◌<◌, ◌≤◌, Bool, true, false, ◌&&◌, ◌==◌, List, [], ◌∷◌, length, drop, refl, sym, ap, ◌∙◌, subst, arith, slice_index_or, Option, Some, None, add-one, cond}
use Rattle.std.specs.Prelude.{not, IsTrue}
use Rattle.std.proofs.Math.Seq.{drop-cons}
use Rattle.std.specs.Option.{is_some}
use Rattle.std.proofs.lemmas.Bool.{both_ways, and_from, and_right, not_from_false, cases_Bool}
use Rattle.std.proofs.Common.{inl, inr}
use Rattle.surf_kinds.specs.declared.event.Event.{Event}
use Rattle.surf_kinds.specs.declared.event.Key.{Key}
use Rattle.surf_kinds.specs.Keys.{is_before, key_of, keep, from}
use Rattle.surf_kinds.proofs.Tables.{keep_keep, keep_yes, keep_no, keep_none, all_keys}
use Rattle.lattice.specs.Shape.{Shape}
use Rattle.lattice.specs.Places.{IsPlace}
use Rattle.border.specs.declared.op.Op.TheVariants.{Put, Back}
use Rattle.timeline.specs.declared.entry.Entry.{Entry}
use Rattle.timeline.specs.TimelineView.{events_of}
use Rattle.regions.specs.Bands.{Bands, owner_of}
use Rattle.regions.specs.Seen.{is_told}
use Rattle.warp_core.specs.Parts.{back_if_any, fire_puts}
use Rattle.warp_core.specs.Grounds.{ArePlaces}
use Rattle.warp_core.specs.Backs.{first_key, first_from, is_told_of_own, is_told_own, back_at, back_puts}

-- the test on both parts at once
abbrev pub scan_of : (Key → Bool) → Key → List Event → Option Key
scan_of test k es = first_key (keep (λ j. not (is_before j k) && test j) es)

pub scan_is : (test : Key → Bool) (k : Key) (es : List Event) → first_from test k es ≡ scan_of test k es
scan_is test k es = ap first_key (keep_keep test (λ j. not (is_before j k)) es)

dropped : (es : List Entry) (i : ℕ) (e : Entry) → i < length es → e ≡ slice_index_or es i e → drop i es ≡ e ∷ drop (i + 1) es
dropped es i e h is = rw add-one (drop-cons es i e h ∙ ap (λ x. x ∷ drop (suc i) es) (sym is))

-- the entry does not pass
pub scan_skip : (test : Key → Bool) (k : Key) (es : List Entry) (i : ℕ) (e : Entry) → i < length es → e ≡ slice_index_or es i e → (not (is_before (key_of e.before.event) k) && test (key_of e.before.event)) ≡ false → scan_of test k (events_of (drop i es)) ≡ scan_of test k (events_of (drop (i + 1) es))
scan_skip test k es i e h is out =
    ap (λ l. scan_of test k (events_of l)) (dropped es i e h is) ∙ ap first_key (keep_no (λ j. not (is_before j k) && test j) e.before.event (events_of (drop (i + 1) es)) out)

-- the entry passes
scan_hit : (test : Key → Bool) (k : Key) (es : List Entry) (i : ℕ) (e : Entry) → i < length es → e ≡ slice_index_or es i e → (not (is_before (key_of e.before.event) k) && test (key_of e.before.event)) ≡ true → scan_of test k (events_of (drop i es)) ≡ Some (key_of e.before.event)
scan_hit test k es i e h is hit =
    ap (λ l. scan_of test k (events_of l)) (dropped es i e h is) ∙ ap first_key (keep_yes (λ j. not (is_before j k) && test j) e.before.event (events_of (drop (i + 1) es)) hit)

pub scan_end : (test : Key → Bool) (k : Key) (es : List Entry) (i : ℕ) → length es ≤ i → scan_of test k (events_of (drop i es)) ≡ None
scan_end test k [] zero h = refl
scan_end test k [] (suc i) h = refl
scan_end test k (e ∷ es) zero h = absurd (omega (arith, h))
scan_end test k (e ∷ es) (suc i) h = scan_end test k es i (omega (arith, h))

-- the same, by the key
pub scan_hit_at : (test : Key → Bool) (k : Key) (es : List Entry) (i : ℕ) (d : Entry) (here : Key) → i < length es → here ≡ key_of (slice_index_or es i d).before.event → is_before here k ≡ false → test here ≡ true → scan_of test k (events_of (drop i es)) ≡ Some here
scan_hit_at test k es i d here h is low passes =
    let e = slice_index_or es i d in
    scan_hit test k es i e h (default es i h) (subst (λ j. (not (is_before j k) && test j) ≡ true) is (and_from (not (is_before here k)) (test here) (not_from_false (is_before here k) low) passes))
    ∙ ap (λ (j : Key). Some j) (sym is)
  where
    default : (xs : List Entry) (n : ℕ) → n < length xs → slice_index_or xs n d ≡ slice_index_or xs n (slice_index_or es i d)
    default [] n g = absurd (omega (arith, g))
    default (x ∷ xs) zero g = refl
    default (x ∷ xs) (suc n) g = default xs n (omega (arith, g))

pub back_is : (xs ys : List Event) → back_if_any xs ys ≡ back_at (first_key xs) (first_key ys)
back_is [] ys = refl
back_is (x ∷ xs) [] = refl
back_is (x ∷ xs) (y ∷ ys) = refl

-- no region past the last is told
told_past : (b : Bands) (p l : ℕ) → ((l q : ℕ) → IsTrue (is_told b l q) → l < b.count) → b.count ≤ l → is_told b l p ≡ false
told_past b p l known h = elim (cases_Bool (is_told b l p)) [ inl q ↦ absurd (omega (arith, known l p q, h)) | inr q ↦ q ]

pub puts_past : (b : Bands) (e : Event) (l : ℕ) → ((l q : ℕ) → IsTrue (is_told b l q) → l < b.count) → b.count ≤ l → fire_puts (is_told b) e l ≡ []
puts_past b e l known h = ap (λ t. cond t (Put e ∷ []) []) (told_past b e.place.0 l known h)

pub backs_past : (b : Bands) (region : ℕ) (k : Key) (es : List Event) (l : ℕ) → ((l q : ℕ) → IsTrue (is_told b l q) → l < b.count) → b.count ≤ l → back_puts b region k es l ≡ []
backs_past b region k es l known h =
    ap (λ xs. back_at (first_key xs) (first_from (is_told_own b region) k es))
    (keep_none (is_told_of_own b region l) (from k es) (all_keys (λ j. is_told_of_own b region l j ≡ false) (λ j. and_right (owner_of b j.place.0 == region) (is_told b l j.place.0) (told_past b j.place.0 l known h)) (from k es)))

pub backs_none : (b : Bands) (region : ℕ) (k : Key) (es : List Event) (l : ℕ) → None ≡ first_from (is_told_own b region) k es → back_puts b region k es l ≡ []
backs_none b region k es l h = ap (back_at (first_from (is_told_of_own b region l) k es)) (sym h) ∙ none (first_from (is_told_of_own b region l) k es)
  where
    none : (o : Option Key) → back_at o None ≡ []
    none None = refl
    none (Some j) = refl

pub back_some : (o any : Option Key) (j : Key) → is_some o ≡ true → any ≡ Some j → back_at o any ≡ Back j ∷ []
back_some None any j h a = absurd (both_ways false refl h)
back_some (Some k) any j h a = ap (back_at (Some k)) a

pub back_nil : (o any : Option Key) → is_some o ≡ false → back_at o any ≡ []
back_nil None any h = refl
back_nil (Some k) any h = absurd (both_ways true h refl)

pub place_at : (l : Shape) (es : List Entry) (i : ℕ) (d : Entry) → ArePlaces l es → i < length es → IsPlace l (slice_index_or es i d).before.event.place.0
place_at l [] i d a h = absurd (omega (arith, h))
place_at l (e ∷ es) zero d a h = a.0
place_at l (e ∷ es) (suc i) d a h = place_at l es i d a.1 (omega (arith, h))
