use Rattle.std.proofs.Common.{◌⊎◌, inl, inr, refl, ◌∙◌, subst}
use Rattle.surf_outside.specs.Causes.{Rose}
use Rattle.surface_top.specs.Outcome.{Gains}
use Rattle.surface_top.proofs.call.conclude.Goals as goal

pub returns-in-Ok : goal.returns-in-Ok
returns-in-Ok g c =
    inl (
      c.status.ensures,
      refl,
      subst (λ text. Gains (Rose (g.N.Sink.faults c.args.notes.now) (g.N.Sink.faults c.put_message.new.notes)) text (g.N.Sink.written c.args.notes.now) (g.N.Sink.written c.put_message.new.notes)) (c.as_bytes.ensures.value ∙ c.in-Ok.ensures) c.put_message.ensures.gains,
      c.put_message.ensures.later,
    )

pub returns-in-Err : goal.returns-in-Err
returns-in-Err g c = inr (refl, refl, c.put_message-in-Err.ensures.gains)
