use Rattle.std.proofs.Common.{ap, ◌∙◌}
use Rattle.frames.proofs.Writing.{opens_first}
use Rattle.frames.proofs.writer.FrameWriter.open.Goals as goal

pub publish_as-writer-requires : goal.publish_as-writer-requires
publish_as-writer-requires g c next is =
    let made = c.in_ok-writer.ensures in
    opens_first _ _ _ next _ made.2 made.1
    (ap (λ x. x.seen.log) made.0 ∙ (ap (λ s. s.log) c.in_ok-first.ensures.1 ∙ (ap (λ s. s.log) c.again.ensures ∙ c.new-log.ensures))) is
