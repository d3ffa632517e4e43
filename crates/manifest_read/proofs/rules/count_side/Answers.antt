use Rattle.manifest_read.proofs.Pieces.{counted-one, counted-two, counted-many}
use Rattle.manifest_read.proofs.rules.count_side.Goals as goal

pub returns-in-None : goal.returns-in-None
returns-in-None c = rw c.trim_text.ensures (counted-one c.args.text.now c.in-None.ensures)

pub returns-in-None-cut_text : goal.returns-in-None-cut_text
returns-in-None-cut_text c =
    rw (c.trim_text-in-None-cut_text.ensures, c.trim_text-in-None-cut_text-2.ensures)
    (counted-two c.args.text.now c.in-Some.first.now c.in-Some.rest.now c.in-Some.ensures c.in-None-cut_text.ensures)

pub returns-in-Some-cut_text : goal.returns-in-Some-cut_text
returns-in-Some-cut_text c = counted-many c.args.text.now c.in-Some.first.now c.in-Some.rest.now _ _ c.in-Some.ensures c.in-Some-cut_text.ensures
