use Rattle.std.proofs.Common.{ap, subst, ◌∙◌}
use Rattle.surf_text.specs.Cuts.{words_of}
use Rattle.species.specs.Texts.{is_in}
use Rattle.circuit_text.specs.Steps.{state_of, next, Takes}
use Rattle.circuit_text.proofs.Taken.{inputs_law, outputs_law}
use Rattle.circuit_text.proofs.reader.Reader.take.Goals as goal

pub returns-in-Inputs-clause-outcome : goal.returns-in-Inputs-clause-outcome
returns-in-Inputs-clause-outcome c =
    subst (Takes c.inputs.result (state_of c.inputs.new.self))
    (inputs_law (words_of c.in-Inputs.names.now) (state_of c.args.self.now) ∙ ap (next (is_in c.args.all.now) (state_of c.args.self.now)) c.in-Inputs.ensures.sort)
    c.inputs.ensures.outcome

pub returns-in-Outputs-clause-outcome : goal.returns-in-Outputs-clause-outcome
returns-in-Outputs-clause-outcome c =
    subst (Takes c.outputs.result (state_of c.outputs.new.self))
    (outputs_law (is_in c.args.all.now) (words_of c.in-Outputs.names.now) (state_of c.args.self.now) ∙ ap (next (is_in c.args.all.now) (state_of c.args.self.now)) c.in-Outputs.ensures.sort)
    c.outputs.ensures.outcome
