-- How the run of a compiled circuit ends.
use Rattle.std.specs.Prelude.{◌≡◌, ℕ, ◌≤◌, List, ◌++◌, Option, Some, None, Bool}
use Rattle.surf_kinds.specs.declared.site.SiteState.{SiteState}
use Rattle.manifest_read.specs.declared.manifest.Manifest.{Manifest}
use Rattle.manifest_write.specs.Canon.{canonical_text}
use Rattle.trace_text.specs.Lines.{surface_text, end_text}
use Rattle.circuit_text.specs.Circuits.{NetList}
use Rattle.gate_layout.specs.Table.{Table}
use Rattle.reach.specs.Reach.{species_in}
use Rattle.crn_compile.specs.Settled.{OutputsAre, work}
use Rattle.surface_words.specs.declared.commands.Program.TheVariants.{Surface}
use Rattle.surface_words.specs.declared.words.Words.TheVariants.{Run}
use Rattle.surface_words.specs.Reading.{reading}
use Rattle.run_writer.specs.Cuts.{EndsWithText}
use Rattle.surface_top.specs.Answer.{Text, specified_answer}

-- the words say `run --limit 10000000` with these samples and no duration, whatever the seed, the workers and what these are
-- given may be
abbrev pub IsLongRun : List (List ℕ) → ℕ → Type 0
IsLongRun words samples =
    (workers : ℕ) × (seed : Option ℕ) × (quota : ℕ) × (slots : ℕ) × (report : Bool) × (reading Surface words ≡ Some (Run workers seed None samples 10000000 quota slots report))

-- The answer to the canonical text of a manifest is a text, which ends after exactly as many events as there is work.
-- Where surfaces are shown the last of them stands before that end, and on it each output cell has the value of its net.
pub record RunsToItsValues (c : NetList) (values : List Bool) (t : Table) (m : Manifest) (words : List (List ℕ)) (samples : ℕ) : Type 0 where
  pub text : List ℕ
  pub last : List SiteState
  pub answer : specified_answer Surface words (canonical_text m) ≡ Text text
  pub ends : EndsWithText (end_text m.until (work m.cells)) text
  pub shows : 1 ≤ samples → EndsWithText (surface_text m.names m.lattice last m.until (work m.cells) ++ end_text m.until (work m.cells)) text
  pub outputs : OutputsAre c values t (species_in last)
