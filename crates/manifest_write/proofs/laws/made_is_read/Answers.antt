use Rattle.manifest_write.proofs.Again.Made.{made-again}
use Rattle.manifest_write.proofs.laws.made_is_read.Goals as goal

pub returns : goal.returns
returns c = made-again
