use Rattle.manifest_read.proofs.Arrows.{cut-split}
use Rattle.manifest_read.proofs.names.cut_arrow.Goals as goal

pub returns : goal.returns
returns c = cut-split c.args.text.now c.split_once.result c.split_once.ensures.cases
