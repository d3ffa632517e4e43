use Rattle.manifest_read.proofs.LawLemmas.{manifest-sound}
use Rattle.manifest_read.proofs.laws.manifests_are_sound.Goals as goal

pub returns : goal.returns
returns c m valid = manifest-sound m valid.0 valid.1
