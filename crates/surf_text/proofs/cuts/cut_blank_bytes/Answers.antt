use Rattle.surf_text.specs.Lines.{is_blank}
use Rattle.surf_text.proofs.Places.{cut-parts, cut-none, cut-shorter_at, at_blank}
use Rattle.surf_text.proofs.cuts.cut_blank_bytes.Goals as goal

pub around-requires : goal.around-requires
around-requires c = (at_blank c.args.text.now c.in-Some.index c.in-Some.ensures).0

pub returns-in-Some-clause-parts : goal.returns-in-Some-clause-parts
returns-in-Some-clause-parts c =
    rw (c.around.ensures.front, c.around.ensures.back) (cut-parts is_blank c.args.text.now c.in-Some.index c.in-Some.ensures)

pub returns-in-Some-clause-shorter : goal.returns-in-Some-clause-shorter
returns-in-Some-clause-shorter c = cut-shorter_at is_blank c.args.text.now c.around.result.0.now c.around.result.1.now (returns-in-Some-clause-parts c)

pub returns-in-None-clause-parts : goal.returns-in-None-clause-parts
returns-in-None-clause-parts c = cut-none is_blank c.args.text.now c.in-None.ensures
