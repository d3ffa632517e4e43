use Rattle.std.proofs.Common.{◌≡◌, List, Bool, sym, ap, subst, ◌∙◌}
use Rattle.std.proofs.lemmas.Result.{IfOk-weaker}
use Rattle.circuit_text.specs.Values.{values_of, AreNets, AreValues}
use Rattle.circuit_text.proofs.NetValues.{only_values}
use Rattle.circuit_text.proofs.circuit.Circuit.values.Goals as goal

pub returns-clause-only : goal.returns-clause-only
returns-clause-only c =
    let own : c.self.inside.nets ≡ c.args.self.now.nets = ap (λ x. x.nets) c.self.view_is in
    let nets : c.as_slice.result.now ≡ c.args.self.now.nets = c.as_slice.ensures.nets ∙ own in
    IfOk-weaker c.values_of.result (λ v. v.items ≡ values_of c.as_slice.result.now c.args.inputs.now)
    (λ v. (w : List Bool) → AreValues c.args.self.now.nets c.args.inputs.now w → w ≡ v.items)
    (λ v e w are. only_values c.args.self.now.nets c.args.inputs.now w (subst AreNets own c.as_slice.ensures.formed) are
    ∙ ap (λ ns. values_of ns c.args.inputs.now) (sym nets) ∙ sym e)
    c.values_of.ensures
