use Rattle.surf_text.proofs.LawLemmas.{decimal-complete}
use Rattle.surf_text.proofs.laws.decimals.Goals as goal

pub returns : goal.returns
returns c = decimal-complete
