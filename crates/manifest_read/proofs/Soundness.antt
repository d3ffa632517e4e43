-- Every manifest of a text is sound.
use Rattle.std.proofs.Common.{◌≡◌, ℕ, ◌+◌, ◌^◌, ◌≤◌, Bool, true, false, cond, List, [], ◌∷◌, ◌++◌, length, map, Option, Some, None, Result, Ok, Err, refl, sym, subst, ◌∙◌, arith, lit≤}
use Rattle.std.specs.Prelude.{nat_le, nat_lt}
use Rattle.std.specs.List.{All, flat_map, filter_map, cons_option}
use Rattle.std.specs.Option.{option_and_then}
use Rattle.std.specs.Str.{is_utf8}
use Rattle.std.specs.Str.Lossy.{utf8_valid_len}
use Rattle.std.proofs.lemmas.Bool.Decides.{nat_tests}
use Rattle.std.proofs.lemmas.List.{length-map}
use Rattle.std.proofs.lemmas.List.Elements.{All-nil, All-cons}
use Rattle.surf_text.specs.Lines.{lines_of}
use Rattle.surf_text.specs.Decimals.{decimal_of}
use Rattle.surf_text.specs.declared.numbers.Dec.{Dec}
use Rattle.rates.specs.Durations.{ticks_of, duration_of}
use Rattle.lattice.specs.Shape.{IsSize}
use Rattle.species.specs.Names.{place_of}
use Rattle.manifest_read.specs.declared.section.Opened.{Opened}
use Rattle.manifest_read.specs.declared.section.Section.TheVariants.{Surface}
use Rattle.manifest_read.specs.declared.text.Setting.{Setting}
use Rattle.manifest_read.specs.declared.fault.ManifestKind.TheVariants.{NotUtf8}
use Rattle.manifest_read.specs.declared.fault.ManifestFault.{ManifestFault}
use Rattle.manifest_read.specs.declared.manifest.Manifest.{Manifest}
use Rattle.manifest_read.specs.Rules.{NamedRule, names_of_rule}
use Rattle.manifest_read.specs.Settings.{duration_in, is_duration, last_or}
use Rattle.manifest_read.specs.Sorts.{sort_of}
use Rattle.manifest_read.specs.Manifest.{Line, fault, open_of, was_started, unless, Content, content_of, first_seen, numbered, verdict, end_verdict, end_verdict_of, manifest_by, outcome, manifest_of, unmarked}
use Rattle.manifest_read.specs.Sound.{IsKnown, IsKnownRule, IsSound}
use Rattle.manifest_read.specs.Limits.{IsAccepted, IsWithin}
use Rattle.manifest_read.specs.Steps.{ReaderState, state_after}
use Rattle.manifest_read.specs.Views.{IsShaped}
use Rattle.manifest_read.specs.Names.{AreListed}
use Rattle.manifest_read.proofs.Numbers.{listed-left, listed-right, listed-both, listed-seen, few-seen}
use Rattle.manifest_read.proofs.Stays.{known-place, known-rule}
use Rattle.manifest_read.proofs.Joined.{state_after-more, fault-is}
use Rattle.manifest_read.proofs.Formed.{IsFormed, has_rows, formed-start, formed-more, proper-line}

-- Durations

at_most : (n m : ℕ) → nat_le n m ≡ true → n ≤ m
at_most n m h = grind (arith, nat_tests)

duration-small : (text : List ℕ) (n : ℕ) → duration_of text ≡ Some n → n ≤ 10 ^ 15
duration-small text n h = by (decimal_of text) h
  where
    below : (t : ℕ) (b : Bool) → nat_le t (10 ^ 15) ≡ b → cond b (Some t) None ≡ Some n → n ≤ 10 ^ 15
    below t true e g = let same : t ≡ n = cc in subst (λ x. x ≤ 10 ^ 15) same (at_most t (10 ^ 15) e)
    below t false e g = absurd cc

    by : (o : Option Dec) → option_and_then (λ d. cond (nat_le (ticks_of d) (10 ^ 15)) (Some (ticks_of d)) None) o ≡ Some n → n ≤ 10 ^ 15
    by None g = absurd cc
    by (Some d) g = below (ticks_of d) (nat_le (ticks_of d) (10 ^ 15)) refl g

duration_in-small : (s : Setting) (n : ℕ) → duration_in s ≡ Some n → n ≤ 10 ^ 15
duration_in-small s n h = by (is_duration s.name) h
  where
    by : (b : Bool) → cond b (duration_of s.value) None ≡ Some n → n ≤ 10 ^ 15
    by true g = duration-small s.value n g
    by false g = absurd cc

until-small : (settings : List Setting) (default : ℕ) → default ≤ 10 ^ 15 → last_or default (filter_map duration_in settings) ≤ 10 ^ 15
until-small [] default h = h
until-small (s ∷ ss) default h = by (duration_in s) refl (until-small ss default h) (λ n l. until-small ss n l)
  where
    by : (o : Option ℕ) → duration_in s ≡ o → last_or default (filter_map duration_in ss) ≤ 10 ^ 15 → ((n : ℕ) → n ≤ 10 ^ 15 → last_or n (filter_map duration_in ss) ≤ 10 ^ 15)
        → last_or default (cons_option o (filter_map duration_in ss)) ≤ 10 ^ 15
    by None e same more = same
    by (Some n) e same more = more n (duration_in-small s n e)

-- Listed species have numbers below their count

known-cells : (names cells : List (List ℕ)) → AreListed names cells → All (IsKnown (length names)) (map (place_of names) cells)
known-cells names [] h = All-nil (IsKnown (length names))
known-cells names (c ∷ cs) h = All-cons (IsKnown (length names)) (place_of names c) (map (place_of names) cs) (known-place names c h.0) (known-cells names cs h.1)

known-rules : (names : List (List ℕ)) (rules : List NamedRule) → AreListed names (flat_map names_of_rule rules) → All (IsKnownRule (length names)) (map (numbered names) rules)
known-rules names [] h = All-nil (IsKnownRule (length names))
known-rules names (r ∷ rs) h =
    All-cons (IsKnownRule (length names)) (numbered names r) (map (numbered names) rs) (known-rule names r (listed-left names (names_of_rule r) (flat_map names_of_rule rs) h))
    (known-rules names rs (listed-right names (names_of_rule r) (flat_map names_of_rule rs) h))

size-of : (t : Content) → IsWithin t → 1 ≤ t.rows → IsSize t.rows t.cols
size-of t f h = record { rows_at_least = h; cols_at_least = f.area.full h; at_most = omega (arith, f.area.is, f.sites) }

sound : (t : Content) → IsWithin t → 1 ≤ t.rows → IsSound (manifest_by t)
sound t f h =
    let words = flat_map names_of_rule t.rules ++ t.cells in
    let names = first_seen words in
    record {
      size = size-of t f h;
      cell_count = length-map t.cells (place_of names) ∙ f.area.is;
      cells = known-cells names t.cells (listed-right names (flat_map names_of_rule t.rules) t.cells (listed-seen words));
      rules = known-rules names t.rules (listed-left names (flat_map names_of_rule t.rules) t.cells (listed-seen words));
      rule_count = omega (arith, length-map t.rules (numbered names), f.rule_count);
      name_count = omega (arith, few-seen words t.names (listed-both t.names (flat_map names_of_rule t.rules) t.cells f.in_rules f.in_cells), f.name_count);
      until = until-small t.settings 100000000 (lit≤ tt);
    }

-- The end of the lines

some_row : (n : ℕ) → nat_lt 0 n ≡ true → 1 ≤ n
some_row n h = grind (arith, nat_tests)

closed : (was : Option Opened) (seen : Bool) (rows line : ℕ) → end_verdict_of was seen line ≡ None → has_rows was seen rows ≡ true → 1 ≤ rows
closed None true rows line h g = some_row rows g
closed None false rows line h g = absurd cc
closed (Some o) seen rows line h g = absurd cc

-- the rows and columns make a lattice where the surface is there and closed
pub shaped : (k : ReaderState) → IsFormed k → IsShaped k
shaped k f = λ within seen. size-of k.content f.content (some_row k.content.rows (by k.within k.surface_seen within seen f.surface))
  where
    by : (was : Option Opened) (b : Bool) → was ≡ None → b ≡ true → has_rows was b k.content.rows ≡ true → nat_lt 0 k.content.rows ≡ true
    by None true e g h = h
    by None false e g h = absurd cc
    by (Some o) b e g h = absurd cc

-- The lines, one after the other

pub formed-next : (line : Line) (before : List Line) → IsFormed (state_after before) → verdict before line ≡ None → IsFormed (state_after (line ∷ before))
formed-next line before f h =
    subst IsFormed (sym (state_after-more line before))
    (formed-more (length before + 1) (state_after before) (sort_of line) (proper-line line) f (fault-is (length before + 1) before (sort_of line) ∙ h))

-- lines without a fault
accepted-formed : (lines : List Line) → IsAccepted lines → IsFormed (state_after lines)
accepted-formed [] h = formed-start
accepted-formed (line ∷ before) h = formed-next line before (accepted-formed before h.1) h.0

pub accepted-within : (lines : List Line) → IsAccepted lines → IsWithin (content_of lines)
accepted-within lines h = (accepted-formed lines h).content

-- and their rows and columns, where the text may end there
pub accepted-size : (lines : List Line) → IsAccepted lines → end_verdict lines ≡ None → IsSize (content_of lines).rows (content_of lines).cols
accepted-size lines h e =
    let f = accepted-formed lines h in
    size-of (content_of lines) f.content (closed (open_of lines) (was_started Surface lines) (content_of lines).rows (length lines + 1) e f.surface)

ended : (v : Option ManifestFault) (t : Content) (m : Manifest) → (v ≡ None → IsSound (manifest_by t)) → unless v (Ok (manifest_by t)) ≡ Ok m → IsSound m
ended None t m f h = let e : manifest_by t ≡ m = cc in subst IsSound e (f refl)
ended (Some x) t m f h = absurd cc

going : (v : Option ManifestFault) (r : Result Manifest ManifestFault) (m : Manifest) → (v ≡ None → r ≡ Ok m → IsSound m) → unless v r ≡ Ok m → IsSound m
going None r m f h = f refl h
going (Some x) r m f h = absurd cc

outcome-sound : (lines before : List Line) (m : Manifest) → IsFormed (state_after before) → outcome lines before ≡ Ok m → IsSound m
unfolding outcome
outcome-sound [] before m f h =
    ended (end_verdict before) (content_of before) m (λ e. sound (content_of before) f.content (closed (open_of before) (was_started Surface before) (content_of before).rows (length before + 1) e f.surface)) h
outcome-sound (line ∷ lines) before m f h =
    going (verdict before line) (outcome lines (line ∷ before)) m (λ e g. outcome-sound lines (line ∷ before) m (formed-next line before f e) g) h

-- a manifest that a text has is sound
pub manifest-sound : (m : Manifest) (text : List ℕ) → manifest_of text ≡ Ok m → IsSound m
manifest-sound m text h = by (is_utf8 text) h
  where
    by : (b : Bool) → cond b (outcome (lines_of (unmarked text)) []) (Err (fault NotUtf8 (utf8_valid_len text))) ≡ Ok m → IsSound m
    by true e = outcome-sound (lines_of (unmarked text)) [] m formed-start e
    by false e = absurd cc
