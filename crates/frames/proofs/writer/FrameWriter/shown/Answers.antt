use Rattle.std.proofs.Common.{refl, ◌∙◌}
use Rattle.frames.proofs.Writing.{publishes_all}
use Rattle.frames.proofs.writer.FrameWriter.shown.Goals as goal

pub publish_as-writer-requires : goal.publish_as-writer-requires
publish_as-writer-requires g c next is = publishes_all _ _ _ next _ c.self.invariant.known refl (is ∙ c.self.invariant.reach)
