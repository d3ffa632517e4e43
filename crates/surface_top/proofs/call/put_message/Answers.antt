use Rattle.surface_top.proofs.Messages.{gains_of}
use Rattle.surface_top.proofs.call.put_message.Goals as goal

pub returns-clause-gains : goal.returns-clause-gains
returns-clause-gains g c = gains_of c.put_all.result _ _ _ _ c.put_all.ensures.ok c.put_all.ensures.err c.put_all.ensures.cause.failed
