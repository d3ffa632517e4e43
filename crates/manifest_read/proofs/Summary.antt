-- The content of the lines, as one more line comes.
use Rattle.std.proofs.Common.{◌≡◌, ℕ, suc, ◌+◌, Bool, true, false, cond, ◌||◌, ◌==◌, List, [], ◌∷◌, ◌++◌, length, fold, Option, Some, None, Result, Ok, Err, refl, sym, ap, ◌∙◌, arith}
use Rattle.std.specs.List.{cons_option, filter_map, flat_map}
use Rattle.std.specs.Option.{option_map}
use Rattle.std.proofs.lemmas.Bool.Decides.{nat_tests}
use Rattle.std.proofs.lemmas.List.{append-nil, length-append}
use Rattle.std.proofs.lemmas.List.Elements.{filter_map-append}
use Rattle.std.proofs.lemmas.List.Sums.{fold-append}
use Rattle.std.proofs.lemmas.Grind.{flat_map-append}
use Rattle.surf_text.specs.Cuts.{words_of}
use Rattle.species.specs.Names.{with_name}
use Rattle.manifest_read.specs.declared.section.Section.{Section}
use Rattle.manifest_read.specs.declared.section.Section.TheVariants.{Rules, Surface, Colours}
use Rattle.manifest_read.specs.declared.section.Opened.{Opened}
use Rattle.manifest_read.specs.declared.text.Setting.{Setting}
use Rattle.manifest_read.specs.declared.fault.ManifestKind.{ManifestKind}
use Rattle.manifest_read.specs.Rules.{NamedRule, rule_of}
use Rattle.manifest_read.specs.Sorts.{LineSort, Starts, Ends, Unknown, Plain, sort_of}
use Rattle.manifest_read.specs.Manifest.{Line, open_of, open_after, was_started, starts, same_section, Entry, SettingEntry, RuleEntry, RowEntry, ColourEntry, NoEntry, entry_of, entry_in, entry_at, entries_of, setting_in, rule_in, row_in, colour_in, names_in, names_of_named, ok, first_seen, width_of, Content, content_by, content_of}
use Rattle.manifest_read.specs.Steps.{with_rule, with_row, with_entry, with_start, content_after}

-- Sections

same-itself : (s : Section) → same_section s s ≡ true
same-itself Rules = refl
same-itself Surface = refl
same-itself Colours = refl

abbrev OpenIsStarted : Option Opened → List Line → Type 0
OpenIsStarted None lines = Unit {0}
OpenIsStarted (Some o) lines = was_started o.section lines ≡ true

same_open : (o : Option Opened) (sort : LineSort) (lines : List Line) → ((s : Section) → starts s sort ≡ false) → OpenIsStarted o lines → (line : Line) → sort_of line ≡ sort → OpenIsStarted o (line ∷ lines)
same_open None sort lines no_start h line e = tt
same_open (Some o) sort lines no_start h line e = ap (λ x. starts o.section x || was_started o.section lines) e ∙ ap (λ b. b || was_started o.section lines) (no_start o.section) ∙ h

opens : (sort : LineSort) (line : Line) (lines : List Line) → sort_of line ≡ sort → OpenIsStarted (open_of lines) lines → OpenIsStarted (open_after sort (length lines + 1) (open_of lines)) (line ∷ lines)
opens (Starts s) line lines e h = ap (λ x. starts s x || was_started s lines) e ∙ ap (λ b. b || was_started s lines) (same-itself s)
opens (Ends s) line lines e h = tt
opens Unknown line lines e h = same_open (open_of lines) Unknown lines (λ s. refl) h line e
opens (Plain bare whole) line lines e h = same_open (open_of lines) (Plain bare whole) lines (λ s. refl) h line e

-- the section that is open was started
pub open-started : (lines : List Line) → OpenIsStarted (open_of lines) lines
open-started [] = tt
open-started (line ∷ lines) = opens (sort_of line) line lines refl (open-started lines)

-- Colours

no_colour_of : (form : List ℕ → Entry) (text : List ℕ) → ((t : List ℕ) → colour_in (form t) ≡ None) → colour_in (entry_of form text) ≡ None
no_colour_of form [] h = refl
no_colour_of form (c ∷ cs) h = h (c ∷ cs)

-- lines on colours stand in the colour section alone
no_colour_in : (s : Section) (bare whole : List ℕ) → (same_section s Colours ≡ true → ⊥) → colour_in (entry_in s bare whole) ≡ None
no_colour_in Rules bare whole h = no_colour_of RuleEntry bare (λ t. refl)
no_colour_in Surface bare whole h = no_colour_of (λ text. RowEntry (words_of text)) bare (λ t. refl)
no_colour_in Colours bare whole h = absurd (h refl)

not_colours : (s : Section) (lines : List Line) → was_started s lines ≡ true → was_started Colours lines ≡ false → same_section s Colours ≡ true → ⊥
not_colours Rules lines h g e = cc
not_colours Surface lines h g e = cc
not_colours Colours lines h g e = cc

no_colour_at : (was : Option Opened) (sort : LineSort) (lines : List Line) → OpenIsStarted was lines → was_started Colours lines ≡ false → colour_in (entry_at was sort) ≡ None
no_colour_at None (Plain bare whole) lines h g = no_colour_of SettingEntry bare (λ t. refl)
no_colour_at (Some o) (Plain bare whole) lines h g = no_colour_in o.section bare whole (not_colours o.section lines h g)
no_colour_at was (Starts s) lines h g = refl
no_colour_at was (Ends s) lines h g = refl
no_colour_at was Unknown lines h g = refl

neither : (a b : Bool) → (a || b) ≡ false → b ≡ false
neither true b h = absurd cc
neither false b h = h

no-colours : (lines : List Line) → was_started Colours lines ≡ false → filter_map colour_in (entries_of lines) ≡ []
no-colours [] h = refl
no-colours (line ∷ before) h =
    let g : was_started Colours before ≡ false = neither (starts Colours (sort_of line)) (was_started Colours before) h in
    filter_map-append colour_in (entries_of before) (entry_at (open_of before) (sort_of line) ∷ [])
    ∙ ap (λ l. l ++ cons_option (colour_in (entry_at (open_of before) (sort_of line))) []) (no-colours before g)
    ∙ ap (λ o. cons_option o []) (no_colour_at (open_of before) (sort_of line) before (open-started before) g)

-- The content, by its parts

abbrev parts : List Setting → List NamedRule → List (List (List ℕ)) → List (List ℕ) → Option (List (List ℕ)) → Content
parts S R W N C = record { settings = S; rules = R; rows = length W; cols = width_of W; cells = flat_map (λ row. row) W; names = N; colours = C }

parts-same : (S S' : List Setting) (R R' : List NamedRule) (W W' : List (List (List ℕ))) (N N' : List (List ℕ)) (C C' : Option (List (List ℕ)))
    → S ≡ S' → R ≡ R' → W ≡ W' → N ≡ N' → C ≡ C' → parts S R W N C ≡ parts S' R' W' N' C'
parts-same S S' R R' W W' N N' C C' s r w n c =
    ap (λ x. parts x R W N C) s ∙ ap (λ x. parts S' x W N C) r ∙ ap (λ x. parts S' R' x N C) w ∙ ap (λ x. parts S' R' W' x C) n ∙ ap (λ x. parts S' R' W' N' x) c

abbrev colours_by : List (List ℕ) → Bool → Option (List (List ℕ))
colours_by lines coloured = cond coloured (Some lines) None

-- with one more entry
abbrev more : List Entry → Bool → Entry → Content
more es coloured e =
    parts (filter_map setting_in es ++ cons_option (setting_in e) []) (filter_map rule_in es ++ cons_option (rule_in e) []) (filter_map row_in es ++ cons_option (row_in e) [])
    (fold with_name (first_seen (flat_map names_in es)) (names_in e)) (colours_by (filter_map colour_in es ++ cons_option (colour_in e) []) coloured)

content_by-push : (es : List Entry) (coloured : Bool) (e : Entry) → content_by (es ++ e ∷ []) coloured ≡ more es coloured e
content_by-push es coloured e =
    parts-same _ _ _ _ _ _ _ _ _ _ (filter_map-append setting_in es (e ∷ [])) (filter_map-append rule_in es (e ∷ [])) (filter_map-append row_in es (e ∷ []))
    (ap first_seen (flat_map-append names_in es (e ∷ []) ∙ ap (λ l. flat_map names_in es ++ l) (append-nil (names_in e))) ∙ fold-append with_name [] (flat_map names_in es) (names_in e))
    (ap (λ l. colours_by l coloured) (filter_map-append colour_in es (e ∷ [])))

colours_same : (lines : List (List ℕ)) (coloured : Bool) → colours_by (lines ++ []) coloured ≡ colours_by lines coloured
colours_same lines coloured = ap (λ l. colours_by l coloured) (append-nil lines)

colours_more : (lines : List (List ℕ)) (text : List ℕ) (coloured : Bool) → colours_by (lines ++ text ∷ []) coloured ≡ option_map (λ l. l ++ text ∷ []) (colours_by lines coloured)
colours_more lines text true = refl
colours_more lines text false = refl

-- rows
abbrev content_with_rows : List Setting → List NamedRule → ℕ → ℕ → List (List ℕ) → List (List ℕ) → Option (List (List ℕ)) → Content
content_with_rows S R rows cols cells N C = record { settings = S; rules = R; rows = rows; cols = cols; cells = cells; names = N; colours = C }

width_more : (W : List (List (List ℕ))) (words : List (List ℕ)) → width_of (W ++ words ∷ []) ≡ cond (length W == 0) (length words) (width_of W)
width_more [] words = refl
width_more (w ∷ ws) words = sym (ap (λ b. cond b (length words) (length w)) (not_zero (length ws)))
  where
    not_zero : (n : ℕ) → (suc n == 0) ≡ false
    not_zero n = grind (arith, nat_tests)

row_more : (S : List Setting) (R : List NamedRule) (W : List (List (List ℕ))) (N : List (List ℕ)) (C : Option (List (List ℕ))) (words : List (List ℕ))
    → parts S R (W ++ words ∷ []) (fold with_name N words) C ≡ with_row words (parts S R W N C)
row_more S R W N C words =
    ap (λ x. content_with_rows S R x (width_of (W ++ words ∷ [])) (flat_map (λ row. row) (W ++ words ∷ [])) (fold with_name N words) C) (length-append W (words ∷ []))
    ∙ ap (λ x. content_with_rows S R (length W + 1) x (flat_map (λ row. row) (W ++ words ∷ [])) (fold with_name N words) C) (width_more W words)
    ∙ ap (λ x. content_with_rows S R (length W + 1) (cond (length W == 0) (length words) (width_of W)) x (fold with_name N words) C)
    (flat_map-append (λ (row : List (List ℕ)). row) W (words ∷ []) ∙ ap (λ l. flat_map (λ row. row) W ++ l) (append-nil words))

rule_more : (S : List Setting) (R : List NamedRule) (W : List (List (List ℕ))) (N : List (List ℕ)) (C : Option (List (List ℕ))) (r : Result NamedRule ManifestKind)
    → parts S (R ++ cons_option (ok r) []) W (fold with_name N (names_of_named (ok r))) C ≡ with_rule r (parts S R W N C)
rule_more S R W N C (Ok r) = refl
rule_more S R W N C (Err kind) = ap (λ x. parts S x W N C) (append-nil R)

entry_more : (es : List Entry) (coloured : Bool) (e : Entry) → more es coloured e ≡ with_entry e (content_by es coloured)
entry_more es coloured (SettingEntry text) =
    parts-same _ _ _ _ _ _ _ _ _ _ refl (append-nil (filter_map rule_in es)) (append-nil (filter_map row_in es)) refl (colours_same (filter_map colour_in es) coloured)
entry_more es coloured (RuleEntry text) =
    parts-same _ _ _ _ _ _ _ _ _ _ (append-nil (filter_map setting_in es)) refl (append-nil (filter_map row_in es)) refl (colours_same (filter_map colour_in es) coloured)
    ∙ rule_more (filter_map setting_in es) (filter_map rule_in es) (filter_map row_in es) (first_seen (flat_map names_in es)) (colours_by (filter_map colour_in es) coloured) (rule_of text)
entry_more es coloured (RowEntry words) =
    parts-same _ _ _ _ _ _ _ _ _ _ (append-nil (filter_map setting_in es)) (append-nil (filter_map rule_in es)) refl refl (colours_same (filter_map colour_in es) coloured)
    ∙ row_more (filter_map setting_in es) (filter_map rule_in es) (filter_map row_in es) (first_seen (flat_map names_in es)) (colours_by (filter_map colour_in es) coloured) words
entry_more es coloured (ColourEntry text) =
    parts-same _ _ _ _ _ _ _ _ _ _ (append-nil (filter_map setting_in es)) (append-nil (filter_map rule_in es)) (append-nil (filter_map row_in es)) refl (colours_more (filter_map colour_in es) text coloured)
entry_more es coloured NoEntry =
    parts-same _ _ _ _ _ _ _ _ _ _ (append-nil (filter_map setting_in es)) (append-nil (filter_map rule_in es)) (append-nil (filter_map row_in es)) refl (colours_same (filter_map colour_in es) coloured)

-- one more entry
pub content_by-entry : (es : List Entry) (coloured : Bool) (e : Entry) → content_by (es ++ e ∷ []) coloured ≡ with_entry e (content_by es coloured)
content_by-entry es coloured e = content_by-push es coloured e ∙ entry_more es coloured e

-- where the colour section starts
coloured_now : (before : List Line) (b : Bool) → was_started Colours before ≡ b
    → content_by (entries_of before) true ≡ with_start Colours (content_by (entries_of before) b)
coloured_now before true e = refl
coloured_now before false e = ap (λ (l : List (List ℕ)). let t : Content = record (content_by (entries_of before) true) { colours = Some l } in t) (no-colours before e)

by_sort : (before : List Line) (sort : LineSort) → content_by (entries_of before ++ entry_at (open_of before) sort ∷ []) (starts Colours sort || was_started Colours before) ≡ content_after (open_of before) sort (content_of before)
by_sort before (Starts Rules) = content_by-entry (entries_of before) (was_started Colours before) NoEntry
by_sort before (Starts Surface) = content_by-entry (entries_of before) (was_started Colours before) NoEntry
by_sort before (Starts Colours) = content_by-entry (entries_of before) true NoEntry ∙ coloured_now before (was_started Colours before) refl
by_sort before (Ends s) = content_by-entry (entries_of before) (was_started Colours before) NoEntry
by_sort before Unknown = content_by-entry (entries_of before) (was_started Colours before) NoEntry
by_sort before (Plain bare whole) = content_by-entry (entries_of before) (was_started Colours before) (entry_at (open_of before) (Plain bare whole))

-- one more line
pub content_of-more : (line : Line) (before : List Line) → content_of (line ∷ before) ≡ content_after (open_of before) (sort_of line) (content_of before)
content_of-more line before = by_sort before (sort_of line)
