use Rattle.std.proofs.Common.{◌≡◌, [], map, slice_index_or}
use Rattle.surf_outside.specs.Parts.{parts}
use Rattle.viewer.specs.declared.viewer.Viewer.{Viewer}
use Rattle.watching.specs.Lines.{samples_text}
use Rattle.watching.proofs.lines.views_of.Given as goal

abbrev pub invariant-loop-i : goal.invariant-loop-i
invariant-loop-i l = l.text.items ≡ parts (λ viewer. samples_text l.names viewer (slice_index_or (map (λ (v : Viewer). v.samples) l.viewers) viewer [])) l.i
