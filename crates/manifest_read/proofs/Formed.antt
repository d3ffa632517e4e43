-- What is known of lines that have no fault: no count is above its limit, and all names are listed.
use Rattle.std.proofs.Common.{◌≡◌, ℕ, suc, ◌+◌, ◌*◌, ◌≤◌, Bool, true, false, cond, not, ◌&&◌, ◌||◌, ◌==◌, List, [], ◌∷◌, ◌++◌, length, fold, filter, Option, Some, None, Result, Ok, Err, refl, ap, ◌∙◌, arith}
use Rattle.std.specs.Prelude.{nat_le, nat_lt}
use Rattle.std.specs.List.{list_any, flat_map, slice_split, onto_first}
use Rattle.std.specs.Option.{option_map}
use Rattle.std.specs.Str.{bytes_eq}
use Rattle.std.proofs.lemmas.Bool.Decides.{nat_tests}
use Rattle.std.proofs.lemmas.List.{append-nil, length-append}
use Rattle.std.proofs.lemmas.Grind.{flat_map-append}
use Rattle.surf_text.specs.Lines.{is_blank, trim_front, trim_back, onto_trimmed, trimmed}
use Rattle.surf_text.specs.Cuts.{cut_at, is_word, words_of}
use Rattle.species.specs.Names.{with_name, is_full}
use Rattle.manifest_read.specs.declared.section.Section.{Section}
use Rattle.manifest_read.specs.declared.section.Section.TheVariants.{Rules, Surface, Colours}
use Rattle.manifest_read.specs.declared.section.Opened.{Opened}
use Rattle.manifest_read.specs.declared.fault.ManifestKind.{ManifestKind}
use Rattle.manifest_read.specs.declared.fault.ManifestKind.TheVariants.{RaggedRow, TooManySites, TooManyRules, TooManySpecies, BadName, UnknownSection, NoSites}
use Rattle.manifest_read.specs.Names.{is_name, AreListed}
use Rattle.manifest_read.specs.Rules.{NamedRule, names_of_rule, rule_of}
use Rattle.manifest_read.specs.Sorts.{LineSort, Starts, Ends, Unknown, Plain, front_of, bare, sorted, section_line, sort_of}
use Rattle.manifest_read.specs.Manifest.{Line, fault, same_section, starts, Entry, SettingEntry, RuleEntry, RowEntry, ColourEntry, NoEntry, entry_in, entry_at, Content, entry_fault, rule_fault, row_fault, is_ragged, names_fault, words_fault, start_fault, close_fault, end_fault}
use Rattle.manifest_read.specs.Limits.{Area, IsWithin}
use Rattle.manifest_read.specs.Steps.{ReaderState, start, with_entry, with_rule, with_row, with_start, at_line, fault_at, was_seen}
use Rattle.manifest_read.proofs.Cells.{listed-fold, listed-words}
use Rattle.manifest_read.proofs.Numbers.{listed-both}

-- A line without its comment begins with a character other than a blank

abbrev pub Inked : List ℕ → Type 0
Inked [] = Unit {0}
Inked (c ∷ cs) = is_blank c ≡ false

inked-front : (text : List ℕ) → Inked (trim_front text)
inked-front [] = tt
inked-front (c ∷ cs) = by (is_blank c) refl (inked-front cs)
  where
    by : (b : Bool) → is_blank c ≡ b → Inked (trim_front cs) → Inked (cond b (trim_front cs) (c ∷ cs))
    by true e more = more
    by false e more = e

inked_before : (c : ℕ) (rest : List ℕ) → is_blank c ≡ false → Inked (onto_trimmed c rest)
inked_before c [] h = by (is_blank c) h
  where
    by : (b : Bool) → b ≡ false → Inked (cond b [] (c ∷ []))
    by true e = tt
    by false e = h
inked_before c (d ∷ ds) h = h

inked-back : (text : List ℕ) → Inked text → Inked (trim_back text)
inked-back [] h = tt
inked-back (c ∷ cs) h = inked_before c (trim_back cs) h

pub inked-trimmed : (text : List ℕ) → Inked (trimmed text)
inked-trimmed text = inked-back (trim_front text) (inked-front text)

word_on : (c : ℕ) (pieces : List (List ℕ)) → 1 ≤ length (filter is_word (onto_first c pieces))
word_on c [] = omega arith
word_on c (p ∷ ps) = let e : (suc (length p) == 0) ≡ false = grind (arith, nat_tests) in rw e (omega arith)

-- so a row has a word
inked-words : (c : ℕ) (cs : List ℕ) → is_blank c ≡ false → 1 ≤ length (words_of (c ∷ cs))
inked-words c cs h = rw h (word_on c (slice_split is_blank cs))

abbrev pub Proper : LineSort → Type 0
Proper (Starts s) = Unit {0}
Proper (Ends s) = Unit {0}
Proper Unknown = Unit {0}
Proper (Plain bare whole) = Inked bare

proper_section : (text : List ℕ) (b1 b2 b3 b4 b5 b6 : Bool)
    → Proper (cond b1 (Starts Rules) (cond b2 (Ends Rules) (cond b3 (Starts Surface) (cond b4 (Ends Surface) (cond b5 (Starts Colours) (cond b6 (Ends Colours) Unknown))))))
proper_section text true b2 b3 b4 b5 b6 = tt
proper_section text false true b3 b4 b5 b6 = tt
proper_section text false false true b4 b5 b6 = tt
proper_section text false false false true b5 b6 = tt
proper_section text false false false false true b6 = tt
proper_section text false false false false false true = tt
proper_section text false false false false false false = tt

proper_by : (text whole : List ℕ) → Inked text → Proper (sorted text whole)
proper_by [] whole h = tt
proper_by (c ∷ cs) whole h = by (c == 33)
  where
    by : (b : Bool) → Proper (cond b (section_line (c ∷ cs)) (Plain (c ∷ cs) whole))
    by true = proper_section (c ∷ cs) _ _ _ _ _ _
    by false = h

pub proper-line : (line : Line) → Proper (sort_of line)
proper-line line = proper_by (bare line) (trimmed line) (inked-trimmed (front_of line (cut_at 35 line)))

-- The content of the lines

listed-grown : (words known names : List (List ℕ)) → AreListed known names → AreListed (fold with_name known words) names
listed-grown words known [] h = tt
listed-grown words known (n ∷ ns) h = (listed-fold words known n h.0, listed-grown words known ns h.1)

-- names for which there is room
fits_one : (known : List (List ℕ)) (name : List ℕ) → is_full known name ≡ false → length known ≤ 4096 → length (with_name known name) ≤ 4096
fits_one known name h l = by (list_any (bytes_eq name) known) h
  where
    by : (b : Bool) → (not b && length known == 4096) ≡ false → length (cond b known (known ++ name ∷ [])) ≤ 4096
    by true e = l
    by false e = let n : length (known ++ name ∷ []) ≡ length known + 1 = length-append known (name ∷ []) in grind (arith, nat_tests)

names-fit : (names known : List (List ℕ)) → names_fault names known ≡ None → length known ≤ 4096 → length (fold with_name known names) ≤ 4096
names-fit [] known h l = l
names-fit (name ∷ names) known h l = by (is_full known name) refl h (λ g k. names-fit names (with_name known name) g k)
  where
    by : (b : Bool) → is_full known name ≡ b → cond b (Some TooManySpecies) (names_fault names (with_name known name)) ≡ None
        → (names_fault names (with_name known name) ≡ None → length (with_name known name) ≤ 4096 → length (fold with_name (with_name known name) names) ≤ 4096)
        → length (fold with_name (with_name known name) names) ≤ 4096
    by true e g more = absurd cc
    by false e g more = more g (fits_one known name e l)

words-fit : (words known : List (List ℕ)) → words_fault words known ≡ None → length known ≤ 4096 → length (fold with_name known words) ≤ 4096
words-fit [] known h l = l
words-fit (word ∷ words) known h l = by (is_name word) (is_full known word) refl h (λ g k. words-fit words (with_name known word) g k)
  where
    by : (a b : Bool) → is_full known word ≡ b → cond (not a) (Some BadName) (cond b (Some TooManySpecies) (words_fault words (with_name known word))) ≡ None
        → (words_fault words (with_name known word) ≡ None → length (with_name known word) ≤ 4096 → length (fold with_name (with_name known word) words) ≤ 4096)
        → length (fold with_name (with_name known word) words) ≤ 4096
    by false b e g more = absurd cc
    by true true e g more = absurd cc
    by true false e g more = more g (fits_one known word e l)

rule-more : (t : Content) (r : Result NamedRule ManifestKind) → IsWithin t → rule_fault t r ≡ None → IsWithin (with_rule r t)
rule-more t (Err kind) f h = absurd cc
rule-more t (Ok r) f h = by (nat_le 4096 (length t.rules)) refl h
  where
    by : (b : Bool) → nat_le 4096 (length t.rules) ≡ b → cond b (Some TooManyRules) (names_fault (names_of_rule r) t.names) ≡ None → IsWithin (with_rule (Ok r) t)
    by true e g = absurd cc
    by false e g =
        let count : length (t.rules ++ r ∷ []) ≡ length t.rules + 1 = length-append t.rules (r ∷ []) in
        let more : flat_map names_of_rule (t.rules ++ r ∷ []) ≡ flat_map names_of_rule t.rules ++ names_of_rule r
        = flat_map-append names_of_rule t.rules (r ∷ []) ∙ ap (λ l. flat_map names_of_rule t.rules ++ l) (append-nil (names_of_rule r)) in
        let known = fold with_name t.names (names_of_rule r) in
        record {
          area = f.area;
          sites = f.sites;
          rule_count = grind (arith, nat_tests);
          name_count = names-fit (names_of_rule r) t.names g f.name_count;
          in_rules = rw more (listed-both known (flat_map names_of_rule t.rules) (names_of_rule r) (listed-grown (names_of_rule r) t.names (flat_map names_of_rule t.rules) f.in_rules) (listed-words (names_of_rule r) t.names));
          in_cells = listed-grown (names_of_rule r) t.names t.cells f.in_cells;
        }

one_row : (r w : ℕ) → (r + 1) * w ≡ r * w + w
one_row r w = omega arith

area-more : (rows cols sites count : ℕ) → Area rows cols sites → 1 ≤ count → is_ragged rows cols count ≡ false → Area (rows + 1) (cond (rows == 0) count cols) (sites + count)
area-more rows cols sites count a l h = by (rows == 0) refl
  where
    same : (b : Bool) → (count == cols) ≡ b → (nat_lt 0 rows && not b) ≡ false → (rows == 0) ≡ false → count ≡ cols
    same true e g k = grind (arith, nat_tests)
    same false e g k = let r : nat_lt 0 rows ≡ true = grind (arith, nat_tests) in absurd (none (nat_lt 0 rows) r g)
      where
        none : (x : Bool) → x ≡ true → (x && true) ≡ false → ⊥
        none true p q = cc
        none false p q = cc

    by : (b : Bool) → (rows == 0) ≡ b → Area (rows + 1) (cond b count cols) (sites + count)
    by true e =
        let zero_rows : rows ≡ 0 = grind (arith, nat_tests) in
        record { is = rw zero_rows (omega (arith, a.is, ap (λ n. n * cols) zero_rows)); full = λ k. l }
    by false e =
        let c : count ≡ cols = same (count == cols) refl h e in
        record { is = omega (arith, a.is, one_row rows cols, c); full = λ k. omega (arith, l, c) }

row-more : (t : Content) (words : List (List ℕ)) → 1 ≤ length words → IsWithin t → row_fault t words ≡ None → IsWithin (with_row words t)
row-more t words l f h = by (is_ragged t.rows t.cols (length words)) (nat_lt 1048576 (length t.cells + length words)) refl refl h
  where
    by : (a b : Bool) → is_ragged t.rows t.cols (length words) ≡ a → nat_lt 1048576 (length t.cells + length words) ≡ b
        → cond a (Some RaggedRow) (cond b (Some TooManySites) (words_fault words t.names)) ≡ None → IsWithin (with_row words t)
    by true b d e g = absurd cc
    by false true d e g = absurd cc
    by false false d e g =
        let count : length (t.cells ++ words) ≡ length t.cells + length words = length-append t.cells words in
        record {
          area = rw count (area-more t.rows t.cols (length t.cells) (length words) f.area l d);
          sites = grind (arith, nat_tests);
          rule_count = f.rule_count;
          name_count = words-fit words t.names g f.name_count;
          in_rules = listed-grown words t.names (flat_map names_of_rule t.rules) f.in_rules;
          in_cells = listed-both (fold with_name t.names words) t.cells words (listed-grown words t.names t.cells f.in_cells) (listed-words words t.names);
        }

abbrev ProperEntry : Entry → Type 0
ProperEntry (SettingEntry text) = Unit {0}
ProperEntry (RuleEntry text) = Unit {0}
ProperEntry (RowEntry words) = 1 ≤ length words
ProperEntry (ColourEntry text) = Unit {0}
ProperEntry NoEntry = Unit {0}

proper_in : (s : Section) (bare whole : List ℕ) → Inked bare → ProperEntry (entry_in s bare whole)
proper_in Rules [] whole h = tt
proper_in Rules (c ∷ cs) whole h = tt
proper_in Surface [] whole h = tt
proper_in Surface (c ∷ cs) whole h = inked-words c cs h
proper_in Colours bare [] h = tt
proper_in Colours bare (c ∷ cs) h = tt

proper_at : (was : Option Opened) (bare whole : List ℕ) → Inked bare → ProperEntry (entry_at was (Plain bare whole))
proper_at None [] whole h = tt
proper_at None (c ∷ cs) whole h = tt
proper_at (Some o) bare whole h = proper_in o.section bare whole h

entry-more : (t : Content) (e : Entry) → ProperEntry e → IsWithin t → entry_fault t e ≡ None → IsWithin (with_entry e t)
entry-more t (SettingEntry text) p f h =
    record { area = f.area; sites = f.sites; rule_count = f.rule_count; name_count = f.name_count; in_rules = f.in_rules; in_cells = f.in_cells }
entry-more t (RuleEntry text) p f h = rule-more t (rule_of text) f h
entry-more t (RowEntry words) p f h = row-more t words p f h
entry-more t (ColourEntry text) p f h =
    record { area = f.area; sites = f.sites; rule_count = f.rule_count; name_count = f.name_count; in_rules = f.in_rules; in_cells = f.in_cells }
entry-more t NoEntry p f h = f

start-more : (t : Content) (s : Section) → IsWithin t → IsWithin (with_start s t)
start-more t Rules f = f
start-more t Surface f = f
start-more t Colours f =
    record { area = f.area; sites = f.sites; rule_count = f.rule_count; name_count = f.name_count; in_rules = f.in_rules; in_cells = f.in_cells }

-- The state of the reader

abbrev pub in_surface : Option Opened → Bool
in_surface None = false
in_surface (Some o) = same_section Surface o.section

-- a surface that is closed has a row
abbrev pub has_rows : Option Opened → Bool → ℕ → Bool
has_rows was seen rows = not seen || (in_surface was || nat_lt 0 rows)

pub record IsFormed (k : ReaderState) : Type 0 where
  pub content : IsWithin k.content
  pub surface : has_rows k.within k.surface_seen k.content.rows ≡ true

pub formed-start : IsFormed start
formed-start = record {
  content = record { area = record { is = omega arith; full = λ h. absurd (omega arith) }; sites = omega arith; rule_count = omega arith; name_count = omega arith; in_rules = tt; in_cells = tt };
  surface = refl;
}

more_rows : (was : Option Opened) (seen : Bool) (n m : ℕ) → n ≤ m → has_rows was seen n ≡ true → has_rows was seen m ≡ true
more_rows was false n m l h = refl
more_rows was true n m l h = by (in_surface was) h
  where
    by : (b : Bool) → (b || nat_lt 0 n) ≡ true → (b || nat_lt 0 m) ≡ true
    by true e = refl
    by false e = grind (arith, nat_tests)

rule_rows : (t : Content) (r : Result NamedRule ManifestKind) → t.rows ≤ (with_rule r t).rows
rule_rows t (Ok r) = omega arith
rule_rows t (Err kind) = omega arith

entry_rows : (t : Content) (e : Entry) → t.rows ≤ (with_entry e t).rows
entry_rows t (SettingEntry text) = omega arith
entry_rows t (RuleEntry text) = rule_rows t (rule_of text)
entry_rows t (RowEntry words) = omega arith
entry_rows t (ColourEntry text) = omega arith
entry_rows t NoEntry = omega arith

no_kind : (o : Option ManifestKind) (n : ℕ) → option_map (λ kind. fault kind n) o ≡ None → o ≡ None
no_kind None n h = refl
no_kind (Some kind) n h = absurd cc

starts_rows : (s : Section) (n : ℕ) (was : Option Opened) (twice seen : Bool) (rows : ℕ) → start_fault twice n was ≡ None → has_rows was seen rows ≡ true
    → has_rows (Some (record { section = s; line = n })) (starts Surface (Starts s) || seen) rows ≡ true
starts_rows s n (Some o) twice seen rows h g = absurd cc
starts_rows Rules n None twice seen rows h g = g
starts_rows Surface n None twice seen rows h g = refl
starts_rows Colours n None twice seen rows h g = g

ends_by : (o s : Section) (n : ℕ) (seen : Bool) (rows : ℕ) → same_section o s ≡ true → option_map (λ kind. fault kind n) (end_fault s rows) ≡ None
    → (not seen || (same_section Surface o || nat_lt 0 rows)) ≡ true → (not seen || (false || nat_lt 0 rows)) ≡ true
ends_by Rules s n seen rows e h g = g
ends_by Colours s n seen rows e h g = g
ends_by Surface Rules n seen rows e h g = absurd cc
ends_by Surface Colours n seen rows e h g = absurd cc
ends_by Surface Surface n seen rows e h g = by (rows == 0) refl h
  where
    either : (a b : Bool) → b ≡ true → (a || (false || b)) ≡ true
    either true b p = refl
    either false b p = p

    by : (b : Bool) → (rows == 0) ≡ b → option_map (λ kind. fault kind n) (cond b (Some NoSites) None) ≡ None → (not seen || (false || nat_lt 0 rows)) ≡ true
    by true p q = absurd cc
    by false p q = let r : nat_lt 0 rows ≡ true = grind (arith, nat_tests) in either (not seen) (nat_lt 0 rows) r

ends_rows : (s : Section) (n : ℕ) (was : Option Opened) (seen : Bool) (rows : ℕ) → close_fault s rows n was ≡ None → has_rows was seen rows ≡ true → has_rows None seen rows ≡ true
ends_rows s n None seen rows h g = absurd cc
ends_rows s n (Some o) seen rows h g = by (same_section o.section s) refl h
  where
    by : (b : Bool) → same_section o.section s ≡ b → cond b (option_map (λ kind. fault kind n) (end_fault s rows)) (Some (fault UnknownSection n)) ≡ None → has_rows None seen rows ≡ true
    by true e k = ends_by o.section s n seen rows e k g
    by false e k = absurd cc

-- a line that has no fault
pub formed-more : (n : ℕ) (k : ReaderState) (sort : LineSort) → Proper sort → IsFormed k → fault_at n k sort ≡ None → IsFormed (at_line n k sort)
formed-more n k (Starts s) p f h = record { content = start-more k.content s f.content; surface = by s (starts_rows s n k.within (was_seen k s) k.surface_seen k.content.rows h f.surface) }
  where
    by : (t : Section) → has_rows (Some (record { section = t; line = n })) (starts Surface (Starts t) || k.surface_seen) k.content.rows ≡ true
        → has_rows (Some (record { section = t; line = n })) (starts Surface (Starts t) || k.surface_seen) (with_start t k.content).rows ≡ true
    by Rules e = e
    by Surface e = e
    by Colours e = e
formed-more n k (Ends s) p f h = record { content = f.content; surface = ends_rows s n k.within k.surface_seen k.content.rows h f.surface }
formed-more n k Unknown p f h = absurd cc
formed-more n k (Plain bare whole) p f h =
    let e = entry_at k.within (Plain bare whole) in
    record {
      content = entry-more k.content e (proper_at k.within bare whole p) f.content (no_kind (entry_fault k.content e) n h);
      surface = more_rows k.within k.surface_seen k.content.rows (with_entry e k.content).rows (entry_rows k.content e) f.surface;
    }
