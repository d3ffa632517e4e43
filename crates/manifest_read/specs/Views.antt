-- The views of the reader, and how its calls answer.
use Rattle.std.specs.Prelude.{◌≡◌, ℕ, true, List, ◌++◌, fold, Option, Some, None, Result, Ok, Err}
use Rattle.species.specs.Names.{with_name}
use Rattle.manifest_read.specs.declared.section.Section.{Section}
use Rattle.manifest_read.specs.declared.section.Section.TheVariants.{Rules, Surface, Colours}
use Rattle.manifest_read.specs.declared.section.Opened.{Opened}
use Rattle.manifest_read.specs.declared.fault.ManifestKind.{ManifestKind}
use Rattle.manifest_read.specs.declared.content.Refusal.{Refusal}
use Rattle.manifest_read.specs.declared.content.Refusal.TheVariants as refusals
use Rattle.manifest_read.specs.declared.content.ContentBuilder.{ContentBuilder}
use Rattle.manifest_read.specs.declared.state.State.{State}
use Rattle.manifest_read.specs.declared.manifest.Manifest.{Manifest}
use Rattle.manifest_read.specs.declared.fault.ManifestFault.{ManifestFault}
use Rattle.manifest_read.specs.declared.fault.ManifestError.{ManifestError}
use Rattle.manifest_read.specs.declared.fault.ManifestError.TheVariants as errors
use Rattle.lattice.specs.Shape.{IsSize}
use Rattle.surf_text.specs.Cuts.{words_of}
use Rattle.manifest_read.specs.Manifest.{Entry, SettingEntry, RuleEntry, RowEntry, ColourEntry, Content, unless, entry_fault, words_fault}
use Rattle.manifest_read.specs.Steps.{ReaderState, with_entry, start}
use Rattle.manifest_read.specs.CollectedView.{CollectedView}

-- the content so far

abbrev pub content_so_far : ContentBuilder → Content
content_so_far c = record { settings = c.settings; rules = c.collected.rules; rows = c.rows; cols = c.cols; cells = c.collected.cells; names = c.collected.names; colours = c.colours }

abbrev pub start_content : Content
start_content = start.content

abbrev pub entered : Content → Entry → Result Content ManifestKind
entered t e = unless (entry_fault t e) (Ok (with_entry e t))

-- the form of an entry where this section is open
abbrev pub form_in : Section → List ℕ → Entry
form_in Rules text = RuleEntry text
form_in Surface text = RowEntry (words_of text)
form_in Colours text = ColourEntry text

abbrev pub form_at : Option Opened → List ℕ → Entry
form_at None text = SettingEntry text
form_at (Some o) text = form_in o.section text

-- and its text
abbrev pub text_in : Section → List ℕ → List ℕ → List ℕ
text_in Rules bare whole = bare
text_in Surface bare whole = bare
text_in Colours bare whole = whole

abbrev pub text_at : Option Opened → List ℕ → List ℕ → List ℕ
text_at None bare whole = bare
text_at (Some o) bare whole = text_in o.section bare whole

-- the names of a row, where these are known
abbrev pub cells_collected : List (List ℕ) → CollectedView → Result CollectedView ManifestKind
cells_collected words s =
    unless (words_fault words s.names) (Ok (record { names = fold with_name s.names words; rules = s.rules; cells = s.cells ++ words }))

-- What a call answered is the outcome, unless memory ran out.

abbrev pub Refuses : {B : Type 0} → Refusal → Result B ManifestKind → Type 0
Refuses refusals.Memory outcome = Unit {0}
Refuses (refusals.Kind kind) outcome = outcome ≡ Err kind

abbrev pub Enters : {A : Type 0} → Result A Refusal → Content → Result Content ManifestKind → Type 0
Enters (Ok x) t outcome = outcome ≡ Ok t
Enters (Err e) t outcome = Refuses e outcome

abbrev pub Fills : {A : Type 0} → Result A Refusal → CollectedView → Result CollectedView ManifestKind → Type 0
Fills (Ok x) s outcome = outcome ≡ Ok s
Fills (Err e) s outcome = Refuses e outcome

-- The state of the reader

abbrev pub reader_state : State → ReaderState
reader_state s = record { lines = s.lines; within = s.within; rules_seen = s.rules_seen; surface_seen = s.surface_seen; content = content_so_far s.content }

abbrev pub Fails : {B : Type 0} → ManifestError → Result B ManifestFault → Type 0
Fails errors.Memory outcome = Unit {0}
Fails (errors.Fault f) outcome = outcome ≡ Err f

abbrev pub Takes : {A : Type 0} → Result A ManifestError → ReaderState → Result ReaderState ManifestFault → Type 0
Takes (Ok x) k outcome = outcome ≡ Ok k
Takes (Err e) k outcome = Fails e outcome

abbrev pub Gives : Result Manifest ManifestError → Result Manifest ManifestFault → Type 0
Gives (Ok m) outcome = outcome ≡ Ok m
Gives (Err e) outcome = Fails e outcome

-- at the end of a text the rows and columns make a lattice
abbrev pub IsShaped : ReaderState → Type 0
IsShaped k = k.within ≡ None → k.surface_seen ≡ true → IsSize k.content.rows k.content.cols
