use Rattle.warp_core.proofs.LawLemmas.{sound_rebased, sound_raised, next_rebased, none_rebased, run_rebased, own_base_kept}
use Rattle.warp_core.proofs.laws.a_base_may_move.Goals as goal

pub returns-clause-agree : goal.returns-clause-agree
returns-clause-agree c = sound_rebased

pub returns-clause-next : goal.returns-clause-next
returns-clause-next c = next_rebased

pub returns-clause-none : goal.returns-clause-none
returns-clause-none c = none_rebased

pub returns-clause-raised : goal.returns-clause-raised
returns-clause-raised c = sound_raised

pub returns-clause-committed : goal.returns-clause-committed
returns-clause-committed c = λ w laws core key good may. own_base_kept w laws core key good may

pub returns-clause-run : goal.returns-clause-run
returns-clause-run c = run_rebased
