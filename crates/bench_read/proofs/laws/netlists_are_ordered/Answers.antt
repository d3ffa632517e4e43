use Rattle.bench_read.proofs.TextSound.{text-sound}
use Rattle.bench_read.proofs.laws.netlists_are_ordered.Goals as goal

pub returns : goal.returns
returns c = text-sound
