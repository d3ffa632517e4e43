use Rattle.std.proofs.Common.{◌<◌, length, sym, ap, ◌∙◌}
use Rattle.std.specs.Prelude.{nat_lt}
use Rattle.circuit_text.specs.Circuits.{circuit_in}
use Rattle.bench_read.specs.Netlists.{netlist_in}
use Rattle.bench_read.specs.Chains.{circuit_of}
use Rattle.surface_top.proofs.NetlistAnswers.{netlist_of_text}
use Rattle.surface_top.proofs.laws.circuit_texts_keep_the_values_of_netlists.Goals as goal

pub returns : goal.returns
returns c bytes text h =
    let law = c.netlists_keep_their_values.ensures in
    let found = netlist_of_text (nat_lt 67108864 (length bytes)) (netlist_in bytes) text h in
    let n = found.0 in
    record {
      netlist = n;
      read = found.1;
      circuit = circuit_of n;
      accepted = sym (ap circuit_in found.2) ∙ law.accepted bytes n found.1;
      inputs = law.inputs n;
      values = law.values bytes n found.1;
    }
