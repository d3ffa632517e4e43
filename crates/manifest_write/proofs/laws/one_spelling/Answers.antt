use Rattle.manifest_write.proofs.Again.OneSpelling.{same-text}
use Rattle.manifest_write.proofs.laws.one_spelling.Goals as goal

pub returns : goal.returns
returns c = same-text
