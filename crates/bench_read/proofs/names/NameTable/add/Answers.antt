use Rattle.std.proofs.Common.{ap, ◌∙◌, map}
use Rattle.bench_read.proofs.NameLists.{pushed}
use Rattle.bench_read.proofs.names.NameTable.add.Goals as goal

pub returns : goal.returns
returns c =
    ap (map (λ k. k.now)) c.in_ok-insert.ensures.keys ∙ pushed (λ k. k.now) c.self.inside.names.keys c.args.name c.args.self.now c.self.view_is c.requires
