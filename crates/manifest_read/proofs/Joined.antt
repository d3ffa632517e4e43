-- The steps of the reader make what the definitions say.
use Rattle.std.proofs.Common.{◌≡◌, ℕ, ◌+◌, Bool, true, false, cond, List, ◌∷◌, length, Option, Some, None, Result, Ok, refl, sym, ap, ◌∙◌, add-one}
use Rattle.std.specs.Prelude.{is_some}
use Rattle.manifest_read.specs.declared.section.Section.{Section}
use Rattle.manifest_read.specs.declared.section.Section.TheVariants.{Rules, Surface, Colours}
use Rattle.manifest_read.specs.declared.fault.ManifestFault.{ManifestFault}
use Rattle.manifest_read.specs.Sorts.{LineSort, Starts, Ends, Unknown, Plain, sort_of}
use Rattle.manifest_read.specs.Manifest.{Line, open_of, was_started, Content, content_of, unless, start_fault, fault_of, verdict, end_verdict, manifest_by}
use Rattle.manifest_read.specs.Steps.{ReaderState, state_after, was_seen, after, fault_at, next, ended}
use Rattle.manifest_read.proofs.Summary.{content_of-more}

-- the state after one more line
pub state_after-more : (line : Line) (before : List Line) → state_after (line ∷ before) ≡ after (state_after before) (sort_of line)
state_after-more line before =
    ap (λ (t : Content). let k : ReaderState = record (state_after (line ∷ before)) { content = t } in k) (content_of-more line before)
    ∙ ap (λ (n : ℕ). let k : ReaderState = record (after (state_after before) (sort_of line)) { lines = n } in k) (sym (add-one (length before)))

coloured : (b : Bool) (lines : List (List ℕ)) → is_some (cond b (Some lines) None) ≡ b
coloured true lines = refl
coloured false lines = refl

-- the section was there
seen-is : (s : Section) (before : List Line) → was_seen (state_after before) s ≡ was_started s before
seen-is Rules before = refl
seen-is Surface before = refl
seen-is Colours before = coloured (was_started Colours before) _

-- the verdict is that of the definitions
pub fault-is : (n : ℕ) (before : List Line) (sort : LineSort) → fault_at n (state_after before) sort ≡ fault_of before n sort
fault-is n before (Starts s) = ap (λ b. start_fault b n (open_of before)) (seen-is s before)
fault-is n before (Ends s) = refl
fault-is n before Unknown = refl
fault-is n before (Plain bare whole) = refl

-- the next line, by the definitions
pub next-is : (line : Line) (before : List Line) → next (state_after before) line ≡ unless (verdict before line) (Ok (state_after (line ∷ before)))
next-is line before =
    ap (λ (o : Option ManifestFault). unless o (Ok (after (state_after before) (sort_of line)))) (fault-is (length before + 1) before (sort_of line))
    ∙ ap (λ (k : ReaderState). let r : Result ReaderState ManifestFault = unless (verdict before line) (Ok k) in r) (sym (state_after-more line before))

-- the end, by the definitions
pub ended-is : (lines : List Line) → ended (state_after lines) ≡ unless (end_verdict lines) (Ok (manifest_by (content_of lines)))
ended-is lines = refl
