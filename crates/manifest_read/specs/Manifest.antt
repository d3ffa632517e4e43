-- The manifest of a text, or its first fault.
--
-- The text is a list of lines. The verdict of a line depends on the line and on the lines before it, which stand here with
-- the nearest first; their content is settings, rules, rows and colours, each kind filtered from the whole list.
use Rattle.std.specs.Prelude.{◌≡◌, ℕ, ◌+◌, Bool, true, false, not, ◌&&◌, List, [], ◌∷◌, ◌++◌, map, fold, length, drop, Option, Some, None, Result, Ok, Err, nat_eq, nat_le, nat_lt, ◌==◌, if◌then◌else◌}
use Rattle.std.specs.List.{list_any, filter_map, flat_map, starts_with}
use Rattle.std.specs.Option.{option_map}
use Rattle.std.specs.Str.{is_utf8}
use Rattle.std.specs.Str.Lossy.{utf8_valid_len}
use Rattle.surf_text.specs.Lines.{lines_of}
use Rattle.surf_text.specs.Cuts.{words_of}
use Rattle.species.specs.Names.{with_name, place_of, is_full}
use Rattle.surf_kinds.specs.declared.rule.Rule.{Rule}
use Rattle.surf_kinds.specs.declared.rule.Rule.TheVariants.{One, Two}
use Rattle.manifest_read.specs.declared.section.Section.{Section}
use Rattle.manifest_read.specs.declared.section.Section.TheVariants.{Rules, Surface, Colours}
use Rattle.manifest_read.specs.declared.section.Opened.{Opened}
use Rattle.manifest_read.specs.declared.text.Setting.{Setting}
use Rattle.manifest_read.specs.declared.fault.ManifestKind.{ManifestKind}
use Rattle.manifest_read.specs.declared.fault.ManifestKind.TheVariants.{NotUtf8, UnknownSection, SectionTwice, SectionOpen, SectionMissing, RaggedRow, BadName, NoSites, TooManySites, TooManyRules, TooManySpecies}
use Rattle.manifest_read.specs.declared.fault.ManifestFault.{ManifestFault}
use Rattle.manifest_read.specs.declared.manifest.Manifest.{Manifest}
use Rattle.manifest_read.specs.Names.{is_name}
use Rattle.manifest_read.specs.Rules.{NamedRule, NamedOne, NamedTwo, names_of_rule, rule_of}
use Rattle.manifest_read.specs.Settings.{SettingValues, setting_values, setting_of, setting_fault}
use Rattle.manifest_read.specs.Sorts.{LineSort, Starts, Ends, Unknown, Plain, sort_of}

abbrev pub Line : Type 0
Line = List ℕ

abbrev pub fault : ManifestKind → ℕ → ManifestFault
fault kind at = record { kind = kind; at = at }

-- Sections

abbrev pub same_section : Section → Section → Bool
same_section Rules Rules = true
same_section Surface Surface = true
same_section Colours Colours = true
same_section s t = false

abbrev pub open_after : LineSort → ℕ → Option Opened → Option Opened
open_after (Starts s) line was = Some (record { section = s; line = line })
open_after (Ends s) line was = None
open_after Unknown line was = was
open_after (Plain bare whole) line was = was

-- the section that is open after these lines: that of the last section line, if it is a start
abbrev pub open_of : List Line → Option Opened
open_of [] = None
open_of (line ∷ before) = open_after (sort_of line) (length before + 1) (open_of before)

abbrev pub starts : Section → LineSort → Bool
starts s (Starts t) = same_section s t
starts s (Ends t) = false
starts s Unknown = false
starts s (Plain bare whole) = false

abbrev pub was_started : Section → List Line → Bool
was_started s lines = list_any (λ line. starts s (sort_of line)) lines

-- What stands in the lines

pub data Entry : Type 0 where
  SettingEntry : (text : List ℕ) → Entry
  RuleEntry : (text : List ℕ) → Entry
  RowEntry : (words : List (List ℕ)) → Entry
  ColourEntry : (text : List ℕ) → Entry
  NoEntry : Entry

-- the entry of a text; an empty one is none
abbrev pub entry_of : (List ℕ → Entry) → List ℕ → Entry
entry_of form [] = NoEntry
entry_of form (c ∷ cs) = form (c ∷ cs)

-- comments of colour lines aren't removed
abbrev pub entry_in : Section → List ℕ → List ℕ → Entry
entry_in Rules bare whole = entry_of RuleEntry bare
entry_in Surface bare whole = entry_of (λ text. RowEntry (words_of text)) bare
entry_in Colours bare whole = entry_of ColourEntry whole

abbrev pub entry_at : Option Opened → LineSort → Entry
entry_at None (Plain bare whole) = entry_of SettingEntry bare
entry_at (Some o) (Plain bare whole) = entry_in o.section bare whole
entry_at was (Starts s) = NoEntry
entry_at was (Ends s) = NoEntry
entry_at was Unknown = NoEntry

-- what stands in the lines, in the order of the text
abbrev pub entries_of : List Line → List Entry
entries_of [] = []
entries_of (line ∷ before) = entries_of before ++ entry_at (open_of before) (sort_of line) ∷ []

abbrev pub setting_in : Entry → Option Setting
setting_in (SettingEntry text) = setting_of text
setting_in entry = None

abbrev pub ok : {A B : Type 0} → Result A B → Option A
ok (Ok x) = Some x
ok (Err e) = None

abbrev pub rule_in : Entry → Option NamedRule
rule_in (RuleEntry text) = ok (rule_of text)
rule_in entry = None

abbrev pub row_in : Entry → Option (List (List ℕ))
row_in (RowEntry words) = Some words
row_in entry = None

abbrev pub colour_in : Entry → Option (List ℕ)
colour_in (ColourEntry text) = Some text
colour_in entry = None

-- the names of species in an entry, from left to right
abbrev pub names_of_named : Option NamedRule → List (List ℕ)
names_of_named None = []
names_of_named (Some r) = names_of_rule r

abbrev pub names_in : Entry → List (List ℕ)
names_in (RuleEntry text) = names_of_named (ok (rule_of text))
names_in (RowEntry words) = words
names_in entry = []

-- the names by first appearance
abbrev pub first_seen : List (List ℕ) → List (List ℕ)
first_seen names = fold with_name [] names

-- the number of names in the first row
abbrev pub width_of : List (List (List ℕ)) → ℕ
width_of [] = 0
width_of (row ∷ rows) = length row

-- The content of lines

pub record Content : Type 0 where
  pub settings : List Setting
  pub rules : List NamedRule
  -- the number of rows, and of names in the first of them
  pub rows : ℕ
  pub cols : ℕ
  -- the names in the rows, row by row
  pub cells : List (List ℕ)
  -- the names of species, by first appearance in the text
  pub names : List (List ℕ)
  pub colours : Option (List (List ℕ))

abbrev pub content_by : List Entry → Bool → Content
content_by entries coloured = record {
  settings = filter_map setting_in entries;
  rules = filter_map rule_in entries;
  rows = length (filter_map row_in entries);
  cols = width_of (filter_map row_in entries);
  cells = flat_map (λ row. row) (filter_map row_in entries);
  names = first_seen (flat_map names_in entries);
  colours = if coloured then Some (filter_map colour_in entries) else None;
}

abbrev pub content_of : List Line → Content
content_of lines = content_by (entries_of lines) (was_started Colours lines)

-- Verdicts

-- an answer where there is no fault
abbrev pub unless : {A F : Type 0} → Option F → Result A F → Result A F
unless None r = r
unless (Some f) r = Err f

-- names of a rule, where these are known: at most 4,096 are
abbrev pub names_fault : List (List ℕ) → List (List ℕ) → Option ManifestKind
names_fault [] known = None
names_fault (name ∷ names) known = if is_full known name then Some TooManySpecies else names_fault names (with_name known name)

-- words of a row: each is a name
abbrev pub words_fault : List (List ℕ) → List (List ℕ) → Option ManifestKind
words_fault [] known = None
words_fault (word ∷ words) known =
    if not (is_name word) then Some BadName
    else (if is_full known word then Some TooManySpecies
    else words_fault words (with_name known word))

abbrev pub rule_fault : Content → Result NamedRule ManifestKind → Option ManifestKind
rule_fault t (Err kind) = Some kind
rule_fault t (Ok r) = if nat_le 4096 (length t.rules) then Some TooManyRules else names_fault (names_of_rule r) t.names

-- a row has as many names as the first one
abbrev pub is_ragged : ℕ → ℕ → ℕ → Bool
is_ragged rows cols count = nat_lt 0 rows && not (count == cols)

abbrev pub row_fault : Content → List (List ℕ) → Option ManifestKind
row_fault t words =
    if is_ragged t.rows t.cols (length words) then Some RaggedRow
    else (if nat_lt 1048576 (length t.cells + length words) then Some TooManySites
    else words_fault words t.names)

abbrev pub entry_fault : Content → Entry → Option ManifestKind
entry_fault t (SettingEntry text) = setting_fault (map (λ s. s.name) t.settings) (setting_of text)
entry_fault t (RuleEntry text) = rule_fault t (rule_of text)
entry_fault t (RowEntry words) = row_fault t words
entry_fault t (ColourEntry text) = None
entry_fault t NoEntry = None

-- the surface has at least one row
abbrev pub end_fault : Section → ℕ → Option ManifestKind
end_fault Surface rows = if rows == 0 then Some NoSites else None
end_fault s rows = None

-- a section line with its number, where this section is open; of a start it matters whether the section was there before
abbrev pub start_fault : Bool → ℕ → Option Opened → Option ManifestFault
start_fault twice line (Some o) = Some (fault SectionOpen o.line)
start_fault twice line None = if twice then Some (fault SectionTwice line) else None

abbrev pub close_fault : Section → ℕ → ℕ → Option Opened → Option ManifestFault
close_fault s rows line None = Some (fault UnknownSection line)
close_fault s rows line (Some o) =
    if same_section o.section s then option_map (λ kind. fault kind line) (end_fault s rows) else Some (fault UnknownSection line)

-- the verdict of a line of this sort with its number, after these lines
abbrev pub fault_of : List Line → ℕ → LineSort → Option ManifestFault
fault_of before line (Starts s) = start_fault (was_started s before) line (open_of before)
fault_of before line (Ends s) = close_fault s (content_of before).rows line (open_of before)
fault_of before line Unknown = Some (fault UnknownSection line)
fault_of before line (Plain bare whole) =
    option_map (λ kind. fault kind line) (entry_fault (content_of before) (entry_at (open_of before) (Plain bare whole)))

abbrev pub verdict : List Line → Line → Option ManifestFault
verdict before line = fault_of before (length before + 1) (sort_of line)

abbrev pub end_verdict_of : Option Opened → Bool → ℕ → Option ManifestFault
end_verdict_of (Some o) surface line = Some (fault SectionOpen o.line)
end_verdict_of None surface line = if surface then None else Some (fault SectionMissing line)

-- the verdict of the end of the text
abbrev pub end_verdict : List Line → Option ManifestFault
end_verdict lines = end_verdict_of (open_of lines) (was_started Surface lines) (length lines + 1)

-- The manifest

abbrev pub numbered : List (List ℕ) → NamedRule → Rule
numbered names (NamedOne rate a c) = One rate (place_of names a) (place_of names c)
numbered names (NamedTwo rate a b c d) = Two rate (place_of names a) (place_of names b) (place_of names c) (place_of names d)

-- with the species by these names
abbrev pub manifest_with : List (List ℕ) → Content → SettingValues → Manifest
manifest_with names t k = record {
  seed = k.seed;
  until = k.until;
  lattice = record { kind = k.kind; rows = t.rows; cols = t.cols; wrap = k.wrap };
  others = k.others;
  names = names;
  rules = map (numbered names) t.rules;
  cells = map (place_of names) t.cells;
  colours = t.colours;
}

-- the names of the species are those of all rules, and then those of all rows, by first appearance
abbrev pub manifest_by : Content → Manifest
manifest_by t = manifest_with (first_seen (flat_map names_of_rule t.rules ++ t.cells)) t (setting_values t.settings)

-- the manifest of the lines, which stand behind others, or their first fault
unfoldable pub outcome : List Line → List Line → Result Manifest ManifestFault
outcome [] before = unless (end_verdict before) (Ok (manifest_by (content_of before)))
outcome (line ∷ lines) before = unless (verdict before line) (outcome lines (line ∷ before))

-- the mark of the byte order goes
abbrev pub unmarked : List ℕ → List ℕ
unmarked text = if starts_with nat_eq text (239 ∷ 187 ∷ 191 ∷ []) then drop 3 text else text

-- the manifest of a text, or its first fault; of a text that isn't UTF-8 the number is how many of its bytes are
abbrev pub manifest_of : List ℕ → Result Manifest ManifestFault
manifest_of text = if is_utf8 text then outcome (lines_of (unmarked text)) [] else Err (fault NotUtf8 (utf8_valid_len text))

-- a manifest that some text has
abbrev pub IsValid : Manifest → Type 0
IsValid m = (text : List ℕ) × (manifest_of text ≡ Ok m)
