use Rattle.run_writer.proofs.CutTexts.{text_cut}
use Rattle.run_writer.proofs.laws.a_text_goes_on_from_a_tick.Goals as goal

pub returns : goal.returns
returns c = λ s sites tick h. text_cut s sites tick (c.one_after_the_other.ensures.is_one s.network s.until sites) h
