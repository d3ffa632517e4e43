use Rattle.manifest_read.proofs.Outcomes.{sound-by}
use Rattle.manifest_read.proofs.reading.read_manifest.Goals as goal

pub returns-clause-sound : goal.returns-clause-sound
returns-clause-sound c = sound-by c.read_text.result c.args.text.now c.read_text.ensures
