use Rattle.std.proofs.Common.{sym}
use Rattle.manifest_read.proofs.Cells.{place-more, listed-itself}
use Rattle.manifest_read.proofs.numbering.both.Goals as goal

pub returns-clause-first : goal.returns-clause-first
returns-clause-first c =
    rw (c.in-Ok-number.ensures.names, c.in-Ok.ensures.place, c.in-Ok.ensures.names)
    (sym (place-more _ c.args.b.now c.args.a.now (listed-itself c.args.names.now c.args.a.now)))
