use Rattle.surf_text.proofs.LawLemmas.{after-append}
use Rattle.surf_text.proofs.laws.more_digits.Goals as goal

pub returns : goal.returns
returns c = after-append
