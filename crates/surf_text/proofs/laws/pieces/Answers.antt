use Rattle.surf_text.proofs.LawLemmas.{pieces-cut, pieces-uncut, cut-shorter_at}
use Rattle.surf_text.proofs.laws.pieces.Goals as goal

pub returns : goal.returns
returns c = record { cut = pieces-cut; uncut = pieces-uncut; shorter = cut-shorter_at }
