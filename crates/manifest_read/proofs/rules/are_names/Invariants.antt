use Rattle.std.proofs.Common.{◌≡◌, length}
use denote.Text.{Utf8}
use denote.Shadow.{shadow}
use Rattle.std.specs.List.{list_all}
use Rattle.manifest_read.specs.Names.{is_name}
use Rattle.manifest_read.specs.Rules.{side_of}
use Rattle.manifest_read.proofs.rules.are_names.Given as goal

abbrev pub invariant-loop-piece : goal.invariant-loop-piece
invariant-loop-piece l = record {
  text : shadow (Utf8 l.rest);
  same : list_all is_name (side_of l.text) ≡ list_all is_name (side_of l.rest);
}

abbrev pub decreases-loop-piece : goal.decreases-loop-piece
decreases-loop-piece l = length l.rest
