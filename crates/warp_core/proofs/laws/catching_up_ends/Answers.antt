use Rattle.std.proofs.Common.{refl}
use Rattle.warp_core.proofs.LawLemmas.{settles_first, pass_settles, pass_lags, two_passes, settles_done}
use Rattle.warp_core.proofs.laws.catching_up_ends.Goals as goal

pub returns-clause-begins : goal.returns-clause-begins
returns-clause-begins c = λ w laws c m good empty least early. settles_first w laws c c m good refl empty least early

pub returns-clause-goes_on : goal.returns-clause-goes_on
returns-clause-goes_on c = pass_settles

pub returns-clause-falls : goal.returns-clause-falls
returns-clause-falls c = pass_lags

pub returns-clause-two_passes : goal.returns-clause-two_passes
returns-clause-two_passes c = two_passes

pub returns-clause-settled : goal.returns-clause-settled
returns-clause-settled c = settles_done
