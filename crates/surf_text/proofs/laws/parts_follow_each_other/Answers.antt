use Rattle.surf_text.proofs.LawLemmas.{parts-more, parts-within}
use Rattle.surf_text.proofs.laws.parts_follow_each_other.Goals as goal

pub returns : goal.returns
returns g c = record { more = parts-more; within = parts-within }
