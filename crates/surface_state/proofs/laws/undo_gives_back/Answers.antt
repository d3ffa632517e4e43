use Rattle.surface_state.proofs.Undoing.{undone_applied, left_applied, place_before, pair_before}
use Rattle.surface_state.proofs.laws.undo_gives_back.Goals as goal

pub returns-clause-may : goal.returns-clause-may
returns-clause-may c s b to before = left_applied s b to before

pub returns-clause-back : goal.returns-clause-back
returns-clause-back c s b to before = undone_applied s b to before

pub returns-clause-place : goal.returns-clause-place
returns-clause-place c = place_before

pub returns-clause-pair : goal.returns-clause-pair
returns-clause-pair c = pair_before
