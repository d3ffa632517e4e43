use Rattle.run_writer.proofs.CutTexts.{text_at_ticks}
use Rattle.run_writer.proofs.laws.surfaces_stand_at_their_ticks.Goals as goal

pub returns : goal.returns
returns c = text_at_ticks
