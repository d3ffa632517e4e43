use Rattle.std.proofs.Common.{sym}
use Rattle.std.proofs.lemmas.List.Quantifiers.{position-Some}
use Rattle.surf_text.specs.Decimals.{is_mark}
use Rattle.surf_text.proofs.Places.{cut-parts, cut-none}
use Rattle.surf_text.proofs.numbers.cut_mark.Goals as goal

pub around-requires : goal.around-requires
around-requires c = (position-Some is_mark c.args.text.now c.in-Some.index 0 (sym c.in-Some.ensures)).0

pub returns-in-Some : goal.returns-in-Some
returns-in-Some c = rw (c.around.ensures.front, c.around.ensures.back) (cut-parts is_mark c.args.text.now c.in-Some.index c.in-Some.ensures)

pub returns-in-None : goal.returns-in-None
returns-in-None c = cut-none is_mark c.args.text.now c.in-None.ensures
