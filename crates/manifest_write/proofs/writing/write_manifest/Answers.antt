use Rattle.manifest_read.proofs.LawLemmas.{manifest-sound}
use Rattle.manifest_write.proofs.writing.write_manifest.Goals as goal

pub write_canon-requires : goal.write_canon-requires
write_canon-requires g c = manifest-sound c.args.m.now c.requires.valid.0 c.requires.valid.1
