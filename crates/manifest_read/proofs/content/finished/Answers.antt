use Rattle.manifest_read.specs.Views.{content_so_far}
use Rattle.manifest_read.proofs.Taken.{made}
use Rattle.manifest_read.proofs.content.finished.Goals as goal

pub returns : goal.returns
returns c =
    made (content_so_far c.args.content) c.values-values.result.seed c.values-values.result.until c.values-values.result.kind c.values-values.result.wrap c.values-values.result.others
    c.in_ok-numbered.numbered.names c.in_ok-numbered.numbered.rules c.in_ok-numbered.numbered.cells c.in-Ok.lattice
    c.values-values.ensures c.in_ok-numbered.ensures.names c.in_ok-numbered.ensures.rules c.in_ok-numbered.ensures.cells c.in-Ok.ensures.ok
