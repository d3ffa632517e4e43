use Rattle.std.proofs.Common.{◌≡◌, ◌<◌, ◌^◌}
use Rattle.gate_layout.specs.Layout.{site_count}
use Rattle.surface_top.proofs.Compiling.{compact_exact}
use Rattle.surface_top.proofs.answers.manifest_on.Goals as goal

pub returns-in-Closed-clause-wrong : goal.returns-in-Closed-clause-wrong
returns-in-Closed-clause-wrong c expected given e = ((c.compile.ensures.wrong expected given).0 e).2 c.requires.count

pub returns-in-Closed-clause-many : goal.returns-in-Closed-clause-many
returns-in-Closed-clause-many c sites e =
    let why = (c.compile.ensures.many sites).0 e in
    let is : (sites ≡ site_count c.args.circuit.now.nets) × (2 ^ 20 < sites) = (why.1, why.2) in
    rw c.in-Closed.is is

pub returns-in-Compact-clause-wrong : goal.returns-in-Compact-clause-wrong
returns-in-Compact-clause-wrong c expected given e = ((c.compact.ensures.wrong expected given).0 e).2 c.requires.count

pub returns-in-Compact-clause-exact : goal.returns-in-Compact-clause-exact
returns-in-Compact-clause-exact c = rw c.in-Compact.is (compact_exact c.args.circuit.now c.args.bits.now c.compact.result c.compact.ensures.compact)
