-- The state of a reader, and what a line does to it.
use Rattle.std.specs.Prelude.{ℕ, ◌+◌, Bool, false, ◌||◌, List, [], ◌∷◌, ◌++◌, fold, length, Option, Some, None, Result, Ok, Err, is_some, unwrap_or, ◌==◌, if◌then◌else◌}
use Rattle.std.specs.List.{cons_option}
use Rattle.std.specs.Option.{option_map}
use Rattle.species.specs.Names.{with_name}
use Rattle.manifest_read.specs.declared.section.Section.{Section}
use Rattle.manifest_read.specs.declared.section.Section.TheVariants.{Rules, Surface, Colours}
use Rattle.manifest_read.specs.declared.section.Opened.{Opened}
use Rattle.manifest_read.specs.declared.fault.ManifestKind.{ManifestKind}
use Rattle.manifest_read.specs.declared.text.Setting.{Setting}
use Rattle.manifest_read.specs.declared.fault.ManifestKind.TheVariants.{UnknownSection}
use Rattle.manifest_read.specs.declared.fault.ManifestFault.{ManifestFault}
use Rattle.manifest_read.specs.declared.manifest.Manifest.{Manifest}
use Rattle.manifest_read.specs.Rules.{NamedRule, names_of_rule, rule_of}
use Rattle.manifest_read.specs.Settings.{setting_of}
use Rattle.manifest_read.specs.Sorts.{LineSort, Starts, Ends, Unknown, Plain, sort_of}
use Rattle.manifest_read.specs.Manifest.{Line, fault, open_after, open_of, starts, was_started, content_of, Entry, SettingEntry, RuleEntry, RowEntry, ColourEntry, NoEntry, entry_at, Content, unless, entry_fault, start_fault, close_fault, end_verdict_of, manifest_by}

-- the number of lines, the section that is open, whether the rules and the surface were there, and the content of the lines
pub record ReaderState : Type 0 where
  pub lines : ℕ
  pub within : Option Opened
  pub rules_seen : Bool
  pub surface_seen : Bool
  pub content : Content

abbrev pub start : ReaderState
start = record {
  lines = 0;
  within = None;
  rules_seen = false;
  surface_seen = false;
  content = record { settings = []; rules = []; rows = 0; cols = 0; cells = []; names = []; colours = None };
}

-- the state after the lines, which stand with the nearest first
abbrev pub state_after : List Line → ReaderState
state_after lines = record {
  lines = length lines;
  within = open_of lines;
  rules_seen = was_started Rules lines;
  surface_seen = was_started Surface lines;
  content = content_of lines;
}

-- the section was there
abbrev pub was_seen : ReaderState → Section → Bool
was_seen k Rules = k.rules_seen
was_seen k Surface = k.surface_seen
was_seen k Colours = is_some k.content.colours

-- What an entry adds

abbrev pub with_setting : Option Setting → Content → Content
with_setting s t = record t { settings = t.settings ++ cons_option s [] }

abbrev pub with_rule : Result NamedRule ManifestKind → Content → Content
with_rule (Ok r) t = record t { rules = t.rules ++ r ∷ []; names = fold with_name t.names (names_of_rule r) }
with_rule (Err kind) t = t

-- the first row decides how many names a row has
abbrev pub with_row : List (List ℕ) → Content → Content
with_row words t = record t {
  rows = t.rows + 1;
  cols = if t.rows == 0 then length words else t.cols;
  cells = t.cells ++ words;
  names = fold with_name t.names words;
}

abbrev pub with_colour : List ℕ → Content → Content
with_colour text t = record t { colours = option_map (λ lines. lines ++ text ∷ []) t.colours }

abbrev pub with_entry : Entry → Content → Content
with_entry (SettingEntry text) t = with_setting (setting_of text) t
with_entry (RuleEntry text) t = with_rule (rule_of text) t
with_entry (RowEntry words) t = with_row words t
with_entry (ColourEntry text) t = with_colour text t
with_entry NoEntry t = t

-- the colours of a section that starts are there, if there are none yet
abbrev pub with_start : Section → Content → Content
with_start Rules t = t
with_start Surface t = t
with_start Colours t = record t { colours = Some (unwrap_or t.colours []) }

-- the content after a line of this sort, where this section is open
abbrev pub content_after : Option Opened → LineSort → Content → Content
content_after was (Starts s) t = with_start s t
content_after was (Ends s) t = t
content_after was Unknown t = t
content_after was (Plain bare whole) t = with_entry (entry_at was (Plain bare whole)) t

-- A line

-- the state after a line of this sort with its number
abbrev pub at_line : ℕ → ReaderState → LineSort → ReaderState
at_line line k sort = record {
  lines = line;
  within = open_after sort line k.within;
  rules_seen = starts Rules sort || k.rules_seen;
  surface_seen = starts Surface sort || k.surface_seen;
  content = content_after k.within sort k.content;
}

-- the state after a line of this sort
abbrev pub after : ReaderState → LineSort → ReaderState
after k sort = at_line (k.lines + 1) k sort

-- what is wrong with a line of this sort with its number
abbrev pub fault_at : ℕ → ReaderState → LineSort → Option ManifestFault
fault_at line k (Starts s) = start_fault (was_seen k s) line k.within
fault_at line k (Ends s) = close_fault s k.content.rows line k.within
fault_at line k Unknown = Some (fault UnknownSection line)
fault_at line k (Plain bare whole) = option_map (λ kind. fault kind line) (entry_fault k.content (entry_at k.within (Plain bare whole)))

abbrev pub by_sort : ℕ → ReaderState → LineSort → Result ReaderState ManifestFault
by_sort line k sort = unless (fault_at line k sort) (Ok (at_line line k sort))

-- what a line makes of the state
abbrev pub next : ReaderState → Line → Result ReaderState ManifestFault
next k line = by_sort (k.lines + 1) k (sort_of line)

-- the manifest in the end
abbrev pub ended : ReaderState → Result Manifest ManifestFault
ended k = unless (end_verdict_of k.within k.surface_seen (k.lines + 1)) (Ok (manifest_by k.content))
