use Rattle.std.proofs.Common.{◌∙◌, Some, None}
use Rattle.manifest_read.specs.Seen.{side_by}
use Rattle.manifest_read.proofs.Pieces.{sides-arrow}
use Rattle.manifest_read.proofs.rules.by_arrow.Goals as goal

pub returns-in_default-read_side-2 : goal.returns-in_default-read_side-2
returns-in_default-read_side-2 c =
    sides-arrow c.args.rate c.args.text.now c.in-Some.left.now c.in-Some.right.now (Some (side_by c.in-Some-read_side.left)) None
    c.in-Some.ensures c.in-Some-read_side.ensures c.in_default-read_side-2.ensures

pub returns : goal.returns
returns c =
    c.by_sides.ensures
    ∙ sides-arrow c.args.rate c.args.text.now c.in-Some.left.now c.in-Some.right.now (Some (side_by c.in-Some-read_side.left)) (Some (side_by c.in-Some-read_side-2.right))
    c.in-Some.ensures c.in-Some-read_side.ensures c.in-Some-read_side-2.ensures
