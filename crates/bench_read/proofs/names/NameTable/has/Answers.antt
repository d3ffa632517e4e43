use Rattle.std.specs.Str.{bytes_eq}
use Rattle.species.proofs.LawLemmas.{list_any-map}
use Rattle.bench_read.proofs.names.NameTable.has.Goals as goal

pub returns : goal.returns
returns c = rw (← c.self.view_is, list_any-map (λ k. k.now) (bytes_eq c.args.name.now) c.self.inside.names.keys) c.contains.ensures
