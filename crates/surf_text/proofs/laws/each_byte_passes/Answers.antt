use Rattle.surf_text.proofs.LawLemmas.{each-append, each-weaker}
use Rattle.surf_text.proofs.laws.each_byte_passes.Goals as goal

pub returns : goal.returns
returns c = record { append = each-append; weaker = each-weaker }
