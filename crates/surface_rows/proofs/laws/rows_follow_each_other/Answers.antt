use Rattle.surface_rows.proofs.RowParts.{rows-none, rows-more, rows-within}
use Rattle.surface_rows.proofs.laws.rows_follow_each_other.Goals as goal

pub returns-clause-none : goal.returns-clause-none
returns-clause-none c = rows-none

pub returns-clause-more : goal.returns-clause-more
returns-clause-more c = rows-more

pub returns-clause-within : goal.returns-clause-within
returns-clause-within c = rows-within
