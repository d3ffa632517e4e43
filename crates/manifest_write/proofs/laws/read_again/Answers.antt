use Rattle.manifest_write.proofs.Again.OneSpelling.{again}
use Rattle.manifest_write.proofs.laws.read_again.Goals as goal

pub returns : goal.returns
returns c = again
