-- Reading line by line gives what the definition of a whole text gives.
use Rattle.std.proofs.Common.{◌≡◌, ℕ, suc, ◌+◌, ◌≤◌, Bool, true, false, cond, List, [], ◌∷◌, length, Option, Some, None, Result, Ok, Err, refl, sym, ap, ◌∙◌, arith}
use Rattle.std.specs.Prelude.{IfOk, ◌==◌}
use Rattle.std.specs.List.{onto_first}
use Rattle.std.specs.Str.{is_utf8, IsUtf8}
use Rattle.std.specs.Str.Lossy.{utf8_valid_len}
use Rattle.std.proofs.lemmas.Bool.Decides.{nat_tests}
use Rattle.std.proofs.lemmas.Str.{is_utf8-from_IsUtf8, IsUtf8-from_is_utf8}
use Rattle.surf_text.specs.Lines.{lines_of}
use Rattle.manifest_read.specs.declared.fault.ManifestKind.TheVariants.{NotUtf8}
use Rattle.manifest_read.specs.declared.fault.ManifestFault.{ManifestFault}
use Rattle.manifest_read.specs.declared.fault.ManifestError.{ManifestError}
use Rattle.manifest_read.specs.declared.fault.ManifestError.TheVariants as errors
use Rattle.manifest_read.specs.declared.manifest.Manifest.{Manifest}
use Rattle.manifest_read.specs.Manifest.{Line, fault, unless, verdict, outcome, manifest_of, unmarked}
use Rattle.manifest_read.specs.Sound.{IsSound}
use Rattle.manifest_read.specs.Steps.{ReaderState, start, next, ended, state_after}
use Rattle.manifest_read.specs.Views.{Fails, Gives}
use Rattle.manifest_read.proofs.Joined.{next-is, ended-is}
use Rattle.manifest_read.proofs.Formed.{IsFormed, formed-start}
use Rattle.manifest_read.proofs.Soundness.{formed-next, manifest-sound}

shorter : (c : ℕ) (ls : List Line) (b : Bool) (n : ℕ) → length ls ≤ n → length (cond b ([] ∷ ls) (onto_first c ls)) ≤ suc n
shorter c ls true n h = omega arith
shorter c [] false n h = omega arith
shorter c (l ∷ ls) false n h = omega arith

pub lines-few : (text : List ℕ) → length (lines_of text) ≤ length text
lines-few [] = omega arith
lines-few (c ∷ cs) = shorter c (lines_of cs) _ (length cs) (lines-few cs)

-- some lines of the text were read, these are unread, and this is the state
pub record Reads (text : List ℕ) (left : List Line) (k : ReaderState) : Type 0 where
  pub lines : List Line
  pub state_is : k ≡ state_after lines
  pub formed : IsFormed (state_after lines)
  pub outcome_is : outcome left lines ≡ outcome (lines_of text) []
  pub count_is : length lines + length left ≡ length (lines_of text)

pub begins : (text : List ℕ) (k : ReaderState) → k ≡ start → Reads text (lines_of text) k
begins text k h = record { lines = []; state_is = h; formed = formed-start; outcome_is = refl; count_is = omega arith }

took : (v : Option ManifestFault) (k after : ReaderState) → unless v (Ok k) ≡ Ok after → (v ≡ None) × (after ≡ k)
took None k after h = (refl, cc)
took (Some f) k after h = absurd cc

refused : (v : Option ManifestFault) (k : ReaderState) (f : ManifestFault) → unless v (Ok k) ≡ Err f → v ≡ Some f
refused None k f h = absurd cc
refused (Some g) k f h = let e : g ≡ f = cc in ap (λ x. Some x) e

pub goes-on : (text : List ℕ) (left rest : List Line) (line : Line) (k after : ReaderState) → left ≡ line ∷ rest → next k line ≡ Ok after → Reads text left k → Reads text rest after
unfolding outcome
goes-on text left rest line k after e h r =
    let p = took (verdict r.lines line) (state_after (line ∷ r.lines)) after (sym (ap (λ (q : ReaderState). next q line) r.state_is ∙ next-is line r.lines) ∙ h) in
    record {
      lines = line ∷ r.lines;
      state_is = p.1;
      formed = formed-next line r.lines r.formed p.0;
      outcome_is = sym (ap (λ ls. outcome ls r.lines) e ∙ ap (λ v. unless v (outcome rest (line ∷ r.lines))) p.0) ∙ r.outcome_is;
      count_is = omega (arith, r.count_is, ap length e);
    }

pub fails : (e : ManifestError) (text : List ℕ) (left rest : List Line) (line : Line) (k : ReaderState) → left ≡ line ∷ rest → Fails e (next k line) → Reads text left k → Fails e (outcome (lines_of text) [])
unfolding outcome
fails errors.Memory text left rest line k e h r = tt
fails (errors.Fault f) text left rest line k e h r =
    let p = refused (verdict r.lines line) (state_after (line ∷ r.lines)) f (sym (ap (λ (q : ReaderState). next q line) r.state_is ∙ next-is line r.lines) ∙ h) in
    sym r.outcome_is ∙ ap (λ ls. outcome ls r.lines) e ∙ ap (λ v. unless v (outcome rest (line ∷ r.lines))) p

-- where no line is left
pub ends : (text : List ℕ) (left : List Line) (k : ReaderState) → left ≡ [] → Reads text left k → ended k ≡ outcome (lines_of text) []
unfolding outcome
ends text left k e r = ap ended r.state_is ∙ ended-is r.lines ∙ sym (ap (λ ls. outcome ls r.lines) e) ∙ r.outcome_is

pub reads-lines : (text : List ℕ) (left : List Line) (k : ReaderState) → Reads text left k → k.lines + length left ≤ length text
reads-lines text left k r = omega (arith, ap (λ (q : ReaderState). q.lines) r.state_is, r.count_is, lines-few text)

-- where a text is read up to its end
pub ends-rest : (rest : List ℕ) → (length rest == 0) ≡ true → lines_of rest ≡ []
ends-rest [] h = refl
ends-rest (c ∷ cs) h = absurd (not_zero (length cs) h)
  where
    not_zero : (n : ℕ) → (suc n == 0) ≡ true → ⊥
    not_zero n e = grind (arith, nat_tests)

-- The check of UTF-8

abbrev chosen : List ℕ → Bool → Result Manifest ManifestFault
chosen text b = cond b (outcome (lines_of (unmarked text)) []) (Err (fault NotUtf8 (utf8_valid_len text)))

pub is-text : (text lines rest : List ℕ) → lines ≡ text → IsUtf8 text → rest ≡ unmarked lines → outcome (lines_of rest) [] ≡ manifest_of text
is-text text lines rest e u h =
    ap (λ t. outcome (lines_of t) []) (h ∙ ap unmarked e) ∙ sym (ap (chosen text) (is_utf8-from_IsUtf8 text u))

pub no-text : (text : List ℕ) (at : ℕ) → (IsUtf8 text → ⊥) → at ≡ utf8_valid_len text → manifest_of text ≡ Err (fault NotUtf8 at)
no-text text at h e = by (is_utf8 text) refl
  where
    by : (b : Bool) → is_utf8 text ≡ b → chosen text b ≡ Err (fault NotUtf8 at)
    by true g = absurd (h (IsUtf8-from_is_utf8 text g))
    by false g = ap (λ n. Err (fault NotUtf8 n)) (sym e)

pub sound-by : (r : Result Manifest ManifestError) (text : List ℕ) → Gives r (manifest_of text) → IfOk r IsSound
sound-by (Ok m) text h = manifest-sound m text h
sound-by (Err e) text h = tt
