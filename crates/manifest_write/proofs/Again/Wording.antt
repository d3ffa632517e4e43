-- What the texts in lines without a fault keep to.
use Rattle.std.proofs.Common.{◌≡◌, ℕ, ◌+◌, ◌⊎◌, Bool, true, false, cond, not, List, [], ◌∷◌, ◌++◌, length, Option, None, Some, Ok, Err, refl, sym, ap, ◌∙◌, inl, inr, append_assoc}
use Rattle.std.specs.Prelude.{Result, unwrap_or, nat_lt}
use Rattle.std.specs.List.{list_any, AllByRecursion}
use Rattle.std.specs.Option.{option_map}
use Rattle.std.specs.Str.{bytes_eq}
use Rattle.std.proofs.lemmas.List.{append-nil}
use Rattle.species.specs.Names.{with_name, is_full}
use Rattle.manifest_read.specs.declared.section.Section.{Section}
use Rattle.manifest_read.specs.declared.section.Section.TheVariants.{Rules, Surface, Colours}
use Rattle.manifest_read.specs.declared.section.Opened.{Opened}
use Rattle.manifest_read.specs.declared.text.Setting.{Setting}
use Rattle.manifest_read.specs.declared.fault.ManifestKind.{ManifestKind}
use Rattle.manifest_read.specs.declared.fault.ManifestKind.TheVariants.{SettingTwice, BadName, RaggedRow, TooManySites, TooManySpecies}
use Rattle.manifest_read.specs.Names.{is_name}
use Rattle.manifest_read.specs.Rules.{NamedRule, rule_of}
use Rattle.manifest_read.specs.Settings.{setting_of, setting_fault, value_fault}
use Rattle.manifest_read.specs.Sorts.{LineSort, Starts, Ends, Unknown, Plain, sort_of}
use Rattle.manifest_read.specs.Manifest.{Entry, SettingEntry, RuleEntry, RowEntry, ColourEntry, NoEntry, entry_of, entry_in, entry_at, Content, entry_fault, rule_fault, row_fault, is_ragged, words_fault, fault}
use Rattle.manifest_read.specs.Steps.{ReaderState, with_setting, with_rule, with_row, with_entry, with_start, content_after, fault_at}
use Rattle.manifest_write.proofs.Cutting.Parted.{words-parted}
use Rattle.manifest_write.proofs.Cutting.Tight.{IsTight}
use Rattle.manifest_write.proofs.Contents.Fits.{IsClean, is_plain, IsBare, FitsName, FitsRule, FitsSetting, FitsColour}
use Rattle.manifest_write.proofs.Contents.NumberedNames.{all-both}
use Rattle.manifest_write.proofs.Contents.Blocks.{AreNew, names_in}
use Rattle.manifest_write.proofs.Contents.Content.{FitsColours}
use Rattle.manifest_write.proofs.Lines.PlainLines.{clean-parted, IsPlainLine, plain-line, setting-fits}
use Rattle.manifest_write.proofs.Lines.RuleTexts.{rule-fits}

pub record Worded (t : Content) : Type 0 where
  pub settings : AllByRecursion FitsSetting t.settings
  pub new : AreNew t.settings []
  pub rules : AllByRecursion FitsRule t.rules
  pub cells : AllByRecursion FitsName t.cells
  pub colours : FitsColours t.colours

-- Entries of lines

abbrev pub FitsEntry : Entry → Type 0
FitsEntry (SettingEntry text) = IsBare text × (is_plain text ≡ true) × IsClean text
FitsEntry (RuleEntry text) = IsClean text
FitsEntry (RowEntry words) = AllByRecursion IsClean words
FitsEntry (ColourEntry text) = FitsColour text
FitsEntry NoEntry = Unit {0}

setting-entry : (text whole : List ℕ) → IsPlainLine text whole → FitsEntry (entry_of SettingEntry text)
setting-entry [] whole h = tt
setting-entry (c ∷ cs) whole h = by h.bare
  where
    by : (c ∷ cs ≡ []) ⊎ IsBare (c ∷ cs) → FitsEntry (SettingEntry (c ∷ cs))
    by (inl e) = absurd cc
    by (inr b) = (b, h.bare_plain, h.bare_clean)

section-entry : (s : Section) (text whole : List ℕ) → IsPlainLine text whole → FitsEntry (entry_in s text whole)
section-entry Rules [] whole h = tt
section-entry Rules (c ∷ cs) whole h = h.bare_clean
section-entry Surface [] whole h = tt
section-entry Surface (c ∷ cs) whole h = words-parted IsClean clean-parted (c ∷ cs) h.bare_clean
section-entry Colours text [] h = tt
section-entry Colours text (c ∷ cs) h = by h.tight
  where
    by : (c ∷ cs ≡ []) ⊎ IsTight (c ∷ cs) → FitsColour (c ∷ cs)
    by (inl e) = absurd cc
    by (inr t) = record { tight = t; plain = h.plain; clean = h.clean }

pub entry-fits : (within : Option Opened) (text whole : List ℕ) → IsPlainLine text whole → FitsEntry (entry_at within (Plain text whole))
entry-fits None text whole h = setting-entry text whole h
entry-fits (Some o) text whole h = section-entry o.section text whole h

-- One entry more

new-push : (ss : List Setting) (s : Setting) (before : List (List ℕ)) → AreNew ss before → list_any (bytes_eq s.name) (before ++ names_in ss) ≡ false → AreNew (ss ++ s ∷ []) before
new-push [] s before h g = (ap (list_any (bytes_eq s.name)) (sym (append-nil before)) ∙ g, tt)
new-push (x ∷ xs) s before h g =
    (h.0, new-push xs s (before ++ x.name ∷ []) h.1 (ap (list_any (bytes_eq s.name)) (append_assoc before (x.name ∷ []) (names_in xs)) ∙ g))

setting-more : (t : Content) (text : List ℕ) → FitsEntry (SettingEntry text) → Worded t → setting_fault (names_in t.settings) (setting_of text) ≡ None → Worded (with_setting (setting_of text) t)
setting-more t text f w h = by (setting_of text) refl h
  where
    added : (s : Setting) → setting_of text ≡ Some s → (b : Bool) → list_any (bytes_eq s.name) (names_in t.settings) ≡ b → cond b (Some SettingTwice) (value_fault s) ≡ None → Worded (with_setting (Some s) t)
    added s e true g k = absurd cc
    added s e false g k = record {
      settings = all-both FitsSetting t.settings (s ∷ []) w.settings (setting-fits text s f.0 f.1 f.2 e, tt);
      new = new-push t.settings s [] w.new g;
      rules = w.rules;
      cells = w.cells;
      colours = w.colours;
    }

    by : (o : Option Setting) → setting_of text ≡ o → setting_fault (names_in t.settings) o ≡ None → Worded (with_setting o t)
    by None e g = absurd cc
    by (Some s) e g = added s e (list_any (bytes_eq s.name) (names_in t.settings)) refl g

rule-more : (t : Content) (text : List ℕ) → IsClean text → Worded t → rule_fault t (rule_of text) ≡ None → Worded (with_rule (rule_of text) t)
rule-more t text c w h = by (rule_of text) refl h
  where
    by : (o : Result NamedRule ManifestKind) → rule_of text ≡ o → rule_fault t o ≡ None → Worded (with_rule o t)
    by (Err kind) e g = absurd cc
    by (Ok r) e g = record {
      settings = w.settings;
      new = w.new;
      rules = all-both FitsRule t.rules (r ∷ []) w.rules (rule-fits text r c e, tt);
      cells = w.cells;
      colours = w.colours;
    }

words-fit : (words known : List (List ℕ)) → AllByRecursion IsClean words → words_fault words known ≡ None → AllByRecursion FitsName words
words-fit [] known c h = tt
words-fit (word ∷ words) known c h = by (is_name word) (is_full known word) refl h (words-fit words (with_name known word) c.1)
  where
    by : (a b : Bool) → is_name word ≡ a → cond (not a) (Some BadName) (cond b (Some TooManySpecies) (words_fault words (with_name known word))) ≡ None
        → (words_fault words (with_name known word) ≡ None → AllByRecursion FitsName words) → AllByRecursion FitsName (word ∷ words)
    by false b e g ih = absurd cc
    by true true e g ih = absurd cc
    by true false e g ih = (record { named = e; clean = c.0 }, ih g)

row-more : (t : Content) (words : List (List ℕ)) → AllByRecursion IsClean words → Worded t → row_fault t words ≡ None → Worded (with_row words t)
row-more t words c w h = by (is_ragged t.rows t.cols (length words)) (nat_lt 1048576 (length t.cells + length words)) h
  where
    by : (a b : Bool) → cond a (Some RaggedRow) (cond b (Some TooManySites) (words_fault words t.names)) ≡ None → Worded (with_row words t)
    by true b g = absurd cc
    by false true g = absurd cc
    by false false g = record {
      settings = w.settings;
      new = w.new;
      rules = w.rules;
      cells = all-both FitsName t.cells words w.cells (words-fit words t.names c g);
      colours = w.colours;
    }

colour-more : (colours : Option (List (List ℕ))) (text : List ℕ) → FitsColour text → FitsColours colours → FitsColours (option_map (λ lines. lines ++ text ∷ []) colours)
colour-more None text f h = tt
colour-more (Some lines) text f h = all-both FitsColour lines (text ∷ []) h (f, tt)

entry-more : (t : Content) (e : Entry) → FitsEntry e → Worded t → entry_fault t e ≡ None → Worded (with_entry e t)
entry-more t (SettingEntry text) f w h = setting-more t text f w h
entry-more t (RuleEntry text) f w h = rule-more t text f w h
entry-more t (RowEntry words) f w h = row-more t words f w h
entry-more t (ColourEntry text) f w h =
    record { settings = w.settings; new = w.new; rules = w.rules; cells = w.cells; colours = colour-more t.colours text f w.colours }
entry-more t NoEntry f w h = w

-- One line more

colours-start : (colours : Option (List (List ℕ))) → FitsColours colours → AllByRecursion FitsColour (unwrap_or colours [])
colours-start None h = tt
colours-start (Some lines) h = h

start-more : (s : Section) (t : Content) → Worded t → Worded (with_start s t)
start-more Rules t w = w
start-more Surface t w = w
start-more Colours t w = record { settings = w.settings; new = w.new; rules = w.rules; cells = w.cells; colours = colours-start t.colours w.colours }

no_kind : (o : Option ManifestKind) (n : ℕ) → option_map (λ kind. fault kind n) o ≡ None → o ≡ None
no_kind None n h = refl
no_kind (Some kind) n h = absurd cc

pub line-more : (n : ℕ) (k : ReaderState) (line : List ℕ) → IsClean line → Worded k.content → fault_at n k (sort_of line) ≡ None → Worded (content_after k.within (sort_of line) k.content)
line-more n k line c w h = by (sort_of line) refl h
  where
    by : (sort : LineSort) → sort_of line ≡ sort → fault_at n k sort ≡ None → Worded (content_after k.within sort k.content)
    by (Starts s) e g = start-more s k.content w
    by (Ends s) e g = w
    by Unknown e g = absurd cc
    by (Plain text whole) e g =
        let entry = entry_at k.within (Plain text whole) in
        entry-more k.content entry (entry-fits k.within text whole (plain-line line text whole c e)) w (no_kind (entry_fault k.content entry) n g)
