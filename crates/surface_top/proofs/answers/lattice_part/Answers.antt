use Rattle.std.proofs.Common.{append_assoc}
use Rattle.surface_top.specs.Checks.{lattice_text}
use Rattle.surface_top.proofs.answers.lattice_part.Goals as goal

pub returns : goal.returns
unfolding lattice_text
returns c = simp append_assoc c.format.ensures.ok
