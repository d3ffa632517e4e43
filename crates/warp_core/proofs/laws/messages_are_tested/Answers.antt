use Rattle.std.proofs.Common.{ap, []}
use Rattle.std.specs.Option.{option_map_or}
use Rattle.warp_core.specs.Parts.{after_op, op_puts}
use Rattle.warp_core.proofs.Theory.Accepted.{passed_over, back_at_floor}
use Rattle.warp_core.proofs.laws.messages_are_tested.Goals as goal

pub returns-clause-passed_over : goal.returns-clause-passed_over
returns-clause-passed_over c = λ w floor i j p e not_lawful. ap (λ o. option_map_or (after_op p j) o p) (passed_over w floor i j e not_lawful)

pub returns-clause-nothing_put : goal.returns-clause-nothing_put
returns-clause-nothing_put c = λ w floor i j l p e not_lawful. ap (λ o. option_map_or (λ a. op_puts w i p a l) o []) (passed_over w floor i j e not_lawful)

pub returns-clause-at_floor : goal.returns-clause-at_floor
returns-clause-at_floor c = λ w floor key i j p h. ap (λ o. option_map_or (after_op p j) o p) (back_at_floor w floor key i j h)
