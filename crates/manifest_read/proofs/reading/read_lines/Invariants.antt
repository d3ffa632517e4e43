use Rattle.std.proofs.Common.{length}
use denote.Text.{Utf8}
use denote.Shadow.{shadow}
use Rattle.surf_text.specs.Lines.{lines_of}
use Rattle.manifest_read.specs.Views.{reader_state}
use Rattle.manifest_read.proofs.Outcomes.{Reads}
use Rattle.manifest_read.proofs.reading.read_lines.Given as goal

abbrev pub invariant-loop-rest : goal.invariant-loop-rest
invariant-loop-rest l = record {
  text : shadow (Utf8 l.rest);
  reads : Reads l.text (lines_of l.rest) (reader_state l.state);
}

abbrev pub decreases-loop-rest : goal.decreases-loop-rest
decreases-loop-rest l = length l.rest
