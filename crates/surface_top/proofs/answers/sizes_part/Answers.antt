use Rattle.std.proofs.Common.{append_assoc}
use Rattle.surface_top.specs.Checks.{sizes_text}
use Rattle.surface_top.proofs.answers.sizes_part.Goals as goal

pub returns : goal.returns
unfolding sizes_text
returns c = simp append_assoc c.format.ensures.ok
