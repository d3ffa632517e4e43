-- The settings, rules, rows and colours of a manifest are taken one after the other.
use Rattle.std.proofs.Common.{◌≡◌, ℕ, ◌+◌, ◌≤◌, ◌==◌, ◌&&◌, ◌⊎◌, Bool, true, false, cond, not, List, [], ◌∷◌, ◌++◌, map, fold, length, Option, None, Some, Ok, refl, sym, ap, ◌∙◌, subst, inl, inr, arith, append_assoc, append-nil, length-append, eq-eqb, le-ltb}
use Rattle.std.specs.Prelude.{nat_le, nat_lt}
use Rattle.std.specs.List.{list_any, flat_map, AllByRecursion}
use Rattle.std.specs.Option.{option_map}
use Rattle.std.specs.Str.{bytes_eq}
use Rattle.std.proofs.lemmas.Bool.{lt-leb}
use Rattle.std.proofs.lemmas.List.{map-append}
use Rattle.std.proofs.lemmas.List.Sums.{fold-append}
use Rattle.surf_text.specs.Cuts.{words_of}
use Rattle.surf_text.specs.Passing.{begins}
use Rattle.species.specs.Names.{with_name}
use Rattle.surface_rows.specs.Rows.{spaced}
use Rattle.manifest_read.specs.declared.section.Section.TheVariants.{Rules, Surface, Colours}
use Rattle.manifest_read.specs.declared.section.Opened.{Opened}
use Rattle.manifest_read.specs.declared.text.Setting.{Setting}
use Rattle.manifest_read.specs.declared.fault.ManifestKind.TheVariants.{SettingTwice, TooManyRules, RaggedRow, TooManySites}
use Rattle.manifest_read.specs.Rules.{NamedRule, names_of_rule}
use Rattle.manifest_read.specs.Settings.{setting_fault, value_fault}
use Rattle.manifest_read.specs.Manifest.{Entry, SettingEntry, RuleEntry, RowEntry, ColourEntry, entry_of, Content, names_fault, words_fault, rule_fault}
use Rattle.manifest_read.specs.Steps.{with_setting, with_rule, with_row, with_colour}
use Rattle.manifest_write.specs.Canon.{setting_line}
use Rattle.manifest_write.proofs.Contents.Fits.{FitsName, FitsRule, FitsSetting, FitsColour}
use Rattle.manifest_write.proofs.Lines.LineSorts.{setting-sort, setting-read, setting-some, colour-sort, row-sort, row-words, row-some}
use Rattle.manifest_write.proofs.Lines.RuleLines.{named_line, rule-read, rule-bare, rule-sort}
use Rattle.manifest_write.proofs.Contents.Room.{HasRoom, room-first, room-rest, names-fit, words-fit}
use Rattle.manifest_write.proofs.Contents.Reaching.{IsLine, Passes}

entry-some : (form : List ℕ → Entry) (text : List ℕ) → begins text ≡ true → entry_of form text ≡ form text
entry-some form [] h = absurd cc
entry-some form (c ∷ cs) h = refl

-- Settings

-- no name was there before
abbrev pub AreNew : List Setting → List (List ℕ) → Type 0
AreNew [] before = Unit {0}
AreNew (s ∷ ss) before = (list_any (bytes_eq s.name) before ≡ false) × AreNew ss (before ++ s.name ∷ [])

-- a setting without a fault
pub record IsRead (s : Setting) : Type 0 where
  pub fits : FitsSetting s
  pub value : value_fault s ≡ None

abbrev pub setting_entry : Setting → Entry
setting_entry s = SettingEntry (setting_line s)

abbrev pub and_setting : Content → Setting → Content
and_setting t s = record t { settings = t.settings ++ s ∷ [] }

abbrev pub names_in : List Setting → List (List ℕ)
names_in ss = map (λ s. s.name) ss

setting-line : (s : Setting) → FitsSetting s → IsLine setting_line setting_entry and_setting None s
setting-line s h = record { bare = setting_line s; whole = setting_line s; sort = setting-sort s h; entry_is = entry-some SettingEntry (setting_line s) (setting-some s h) }

pub settings-pass : (ss : List Setting) (t : Content) → AllByRecursion IsRead ss → AreNew ss (names_in t.settings) → Passes setting_line setting_entry and_setting None ss t
settings-pass [] t h g = tt
settings-pass (s ∷ ss) t h g = (
  setting-line s h.0.fits,
  ap (setting_fault (names_in t.settings)) (setting-read s h.0.fits) ∙ ap (λ b. cond b (Some SettingTwice) (value_fault s)) g.0 ∙ h.0.value,
  ap (λ o. with_setting o t) (setting-read s h.0.fits),
  settings-pass ss (and_setting t s) h.1 (subst (AreNew ss) (sym (map-append (λ (x : Setting). x.name) t.settings (s ∷ []))) g.1),
)

pub settings-added : (ss : List Setting) (t : Content) → fold and_setting t ss ≡ record t { settings = t.settings ++ ss }
settings-added [] t = ap (λ (x : List Setting). let u : Content = record t { settings = x } in u) (sym (append-nil t.settings))
settings-added (s ∷ ss) t =
    settings-added ss (and_setting t s) ∙ ap (λ (x : List Setting). let u : Content = record t { settings = x } in u) (append_assoc t.settings (s ∷ []) ss)

-- Rules

abbrev pub rule_entry : NamedRule → Entry
rule_entry r = RuleEntry (named_line r)

abbrev pub and_rule : Content → NamedRule → Content
and_rule t r = with_rule (Ok r) t

abbrev pub names_of : List NamedRule → List (List ℕ)
names_of rs = flat_map names_of_rule rs

abbrev pub in_rules : ℕ → Option Opened
in_rules line = Some (record { section = Rules; line = line })

rule-line : (line : ℕ) (r : NamedRule) → FitsRule r → IsLine named_line rule_entry and_rule (in_rules line) r
rule-line line r h = record { bare = named_line r; whole = named_line r; sort = rule-sort r h; entry_is = entry-some RuleEntry (named_line r) (rule-bare r h).tight.front }

pub rules-pass : (line : ℕ) (rs : List NamedRule) (later : List (List ℕ)) (t : Content) → AllByRecursion FitsRule rs → length t.rules + length rs ≤ 4096 → HasRoom t.names (names_of rs ++ later)
    → Passes named_line rule_entry and_rule (in_rules line) rs t
rules-pass line [] later t h few room = tt
rules-pass line (r ∷ rs) later t h few room =
    let all : HasRoom t.names (names_of_rule r ++ (names_of rs ++ later)) = subst (HasRoom t.names) (append_assoc (names_of_rule r) (names_of rs) later) room in
    let fits = names-fit (names_of_rule r) t.names (room-first t.names (names_of_rule r) (names_of rs ++ later) all) in
    let space : nat_le 4096 (length t.rules) ≡ false = lt-leb 4096 (length t.rules) (omega (arith, few)) in (
      rule-line line r h.0,
      ap (rule_fault t) (rule-read r h.0) ∙ ap (λ b. cond b (Some TooManyRules) (names_fault (names_of_rule r) t.names)) space ∙ fits,
      ap (λ x. with_rule x t) (rule-read r h.0),
      rules-pass line rs later (and_rule t r) h.1 (omega (arith, few, length-append t.rules (r ∷ []))) (room-rest t.names (names_of_rule r) (names_of rs ++ later) all),
    )

abbrev rules_and_names : Content → List NamedRule → List (List ℕ) → Content
rules_and_names t rules names = record t { rules = rules; names = names }

pub rules-added : (rs : List NamedRule) (t : Content) → fold and_rule t rs ≡ record t { rules = t.rules ++ rs; names = fold with_name t.names (names_of rs) }
rules-added [] t = ap (λ x. rules_and_names t x t.names) (sym (append-nil t.rules))
rules-added (r ∷ rs) t =
    rules-added rs (and_rule t r)
    ∙ ap (λ x. rules_and_names t x (fold with_name (fold with_name t.names (names_of_rule r)) (names_of rs))) (append_assoc t.rules (r ∷ []) rs)
    ∙ ap (rules_and_names t (t.rules ++ r ∷ rs)) (sym (fold-append with_name t.names (names_of_rule r) (names_of rs)))

-- Rows

pub record FitsRow (cols : ℕ) (words : List (List ℕ)) : Type 0 where
  pub count : length words ≡ cols
  pub some : 1 ≤ cols
  pub names : AllByRecursion FitsName words

-- rows have so many names, if there are any
abbrev pub HasWidth : ℕ → Content → Type 0
HasWidth cols t = (t.rows ≡ 0) ⊎ (t.cols ≡ cols)

abbrev pub and_row : Content → List (List ℕ) → Content
and_row t words = with_row words t

abbrev pub in_surface : ℕ → Option Opened
in_surface line = Some (record { section = Surface; line = line })

abbrev pub words_in : List (List (List ℕ)) → List (List ℕ)
words_in rows = flat_map (λ row. row) rows

row-line : (line cols : ℕ) (words : List (List ℕ)) → FitsRow cols words → IsLine spaced RowEntry and_row (in_surface line) words
row-line line cols [] h = absurd (omega (arith, h.count, h.some))
row-line line cols (w ∷ ws) h = record {
  bare = spaced (w ∷ ws);
  whole = spaced (w ∷ ws);
  sort = row-sort w ws h.names;
  entry_is = entry-some (λ text. RowEntry (words_of text)) (spaced (w ∷ ws)) (row-some w ws h.names) ∙ ap RowEntry (row-words w ws h.names);
}

even : (cols : ℕ) (t : Content) (count : ℕ) → HasWidth cols t → count ≡ cols → (nat_lt 0 t.rows && not (count == t.cols)) ≡ false
even cols t count (inl e) h = ap (λ b. b && not (count == t.cols)) (le-ltb 0 t.rows (omega (arith, e)))
even cols t count (inr e) h = ap (λ b. nat_lt 0 t.rows && not b) (eq-eqb count t.cols (h ∙ sym e)) ∙ none (nat_lt 0 t.rows)
  where
    none : (b : Bool) → (b && false) ≡ false
    none true = refl
    none false = refl

next-width : (cols : ℕ) (t : Content) (words : List (List ℕ)) → HasWidth cols t → length words ≡ cols → HasWidth cols (and_row t words)
next-width cols t words h e = inr (by (t.rows == 0) refl h)
  where
    by : (b : Bool) → (t.rows == 0) ≡ b → HasWidth cols t → cond b (length words) t.cols ≡ cols
    by true z g = e
    by false z (inl g) = absurd (cc (eq-eqb t.rows 0 g))
    by false z (inr g) = g

pub rows-pass : (line cols : ℕ) (rows : List (List (List ℕ))) (t : Content) → AllByRecursion (FitsRow cols) rows → HasWidth cols t
    → length t.cells + length (words_in rows) ≤ 1048576 → HasRoom t.names (words_in rows) → Passes spaced RowEntry and_row (in_surface line) rows t
rows-pass line cols [] t h width few room = tt
rows-pass line cols (row ∷ rows) t h width few room =
    let fits = words-fit row t.names h.0.names (room-first t.names row (words_in rows) room) in
    let count = length-append row (words_in rows) in
    let space : nat_lt 1048576 (length t.cells + length row) ≡ false = le-ltb 1048576 (length t.cells + length row) (omega (arith, few, count)) in (
      row-line line cols row h.0,
      ap (λ b. cond b (Some RaggedRow) (cond (nat_lt 1048576 (length t.cells + length row)) (Some TooManySites) (words_fault row t.names))) (even cols t (length row) width h.0.count)
          ∙ ap (λ b. cond b (Some TooManySites) (words_fault row t.names)) space ∙ fits,
      refl,
      rows-pass line cols rows (and_row t row) h.1 (next-width cols t row width h.0.count) (omega (arith, few, count, length-append t.cells row)) (room-rest t.names row (words_in rows) room),
    )

-- the content after rows
pub record AddsRows (cols : ℕ) (rows : List (List (List ℕ))) (t u : Content) : Type 0 where
  pub settings : u.settings ≡ t.settings
  pub rules : u.rules ≡ t.rules
  pub rows_are : u.rows ≡ t.rows + length rows
  pub width : HasWidth cols u
  pub cells : u.cells ≡ t.cells ++ words_in rows
  pub colours : u.colours ≡ t.colours

pub rows-added : (cols : ℕ) (rows : List (List (List ℕ))) (t : Content) → AllByRecursion (FitsRow cols) rows → HasWidth cols t → AddsRows cols rows t (fold and_row t rows)
rows-added cols [] t h width = record { settings = refl; rules = refl; rows_are = omega arith; width = width; cells = sym (append-nil t.cells); colours = refl }
rows-added cols (row ∷ rows) t h width =
    let rest = rows-added cols rows (and_row t row) h.1 (next-width cols t row width h.0.count) in
    record {
      settings = rest.settings;
      rules = rest.rules;
      rows_are = omega (arith, rest.rows_are);
      width = rest.width;
      cells = rest.cells ∙ append_assoc t.cells row (words_in rows);
      colours = rest.colours;
    }

-- Colours

abbrev pub and_colour : Content → List ℕ → Content
and_colour t text = with_colour text t

abbrev pub in_colours : ℕ → Option Opened
in_colours line = Some (record { section = Colours; line = line })

abbrev pub the_line : List ℕ → List ℕ
the_line line = line

colour-line : (n : ℕ) (line : List ℕ) → FitsColour line → IsLine the_line ColourEntry and_colour (in_colours n) line
colour-line n line h =
    let sort = colour-sort line h in
    record { bare = sort.0; whole = line; sort = sort.1; entry_is = entry-some ColourEntry line h.tight.front }

pub colours-pass : (n : ℕ) (lines : List (List ℕ)) (t : Content) → AllByRecursion FitsColour lines → Passes the_line ColourEntry and_colour (in_colours n) lines t
colours-pass n [] t h = tt
colours-pass n (line ∷ lines) t h = (colour-line n line h.0, refl, refl, colours-pass n lines (and_colour t line) h.1)

pub colours-added : (lines before : List (List ℕ)) (t : Content) → t.colours ≡ Some before → fold and_colour t lines ≡ record t { colours = Some (before ++ lines) }
colours-added [] before t h = ap (λ (o : Option (List (List ℕ))). let u : Content = record t { colours = o } in u) (h ∙ ap (λ x. Some x) (sym (append-nil before)))
colours-added (line ∷ lines) before t h =
    colours-added lines (before ++ line ∷ []) (and_colour t line) (ap (option_map (λ ls. ls ++ line ∷ [])) h)
    ∙ ap (λ (x : List (List ℕ)). let u : Content = record t { colours = Some x } in u) (append_assoc before (line ∷ []) lines)
