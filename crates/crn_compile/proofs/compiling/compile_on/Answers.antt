use Rattle.std.proofs.Common.{◌≡◌, ℕ, ◌^◌, ◌≤◌, length, arith}
use Rattle.std.proofs.lemmas.Result.{IfOk-weaker}
use Rattle.circuit_text.specs.Values.{values_of}
use Rattle.manifest_read.specs.Manifest.{IsValid}
use Rattle.manifest_write.specs.Canon.{canonical_text}
use Rattle.crn_compile.specs.Compiled.{manifest_on, compiled_manifest}
use Rattle.crn_compile.specs.Settled.{Settles, RunsOut}
use Rattle.crn_compile.proofs.Parts.{made_from, made_exact, made_valid, made_short, made_settles, made_runs}
use Rattle.crn_compile.proofs.Blanks.{some_cells}
use Rattle.crn_compile.proofs.compiling.compile_on.Goals as goal

pub returns-clause-valid : goal.returns-clause-valid
returns-clause-valid g c =
    let t = g.L.Roles.table c.args.table.now in
    IfOk-weaker c.manifest_of.result (λ m. m ≡ manifest_on c.rows.result c.cols.result c.in_ok-cells.cells.items) (λ m. IsValid m)
    (λ m e. made_valid c.args.circuit.now c.args.inputs.now t m c.requires.size (some_cells c.args.circuit.now t c.requires.formed.ends c.circuit_facts.ensures.outputs).0 (some_cells c.args.circuit.now t c.requires.formed.ends c.circuit_facts.ensures.outputs).1
    (made_from c.args.circuit.now c.args.inputs.now t c.rows.result c.cols.result c.in_ok-cells.cells.items m c.rows.ensures c.cols.ensures e c.in_ok-cells.ensures.start))
    c.manifest_of.ensures

pub returns-clause-settles : goal.returns-clause-settles
returns-clause-settles g c =
    let t = g.L.Roles.table c.args.table.now in
    IfOk-weaker c.manifest_of.result (λ m. m ≡ manifest_on c.rows.result c.cols.result c.in_ok-cells.cells.items) (λ m. Settles c.args.circuit.now (values_of c.args.circuit.now.nets c.args.inputs.now) t m.cells)
    (λ m e. made_settles c.args.circuit.now c.args.inputs.now t m c.circuit_facts.ensures.nets c.circuit_facts.ensures.inputs c.requires.formed
    (made_from c.args.circuit.now c.args.inputs.now t c.rows.result c.cols.result c.in_ok-cells.cells.items m c.rows.ensures c.cols.ensures e c.in_ok-cells.ensures.start))
    c.manifest_of.ensures

pub returns-clause-runs : goal.returns-clause-runs
returns-clause-runs g c =
    let t = g.L.Roles.table c.args.table.now in
    IfOk-weaker c.manifest_of.result (λ m. m ≡ manifest_on c.rows.result c.cols.result c.in_ok-cells.cells.items) (λ m. (seed : ℕ) → RunsOut c.args.circuit.now (values_of c.args.circuit.now.nets c.args.inputs.now) t m.cells seed (10 ^ 15))
    (λ m e. made_runs c.args.circuit.now c.args.inputs.now t m c.circuit_facts.ensures.nets c.circuit_facts.ensures.inputs c.requires.formed c.requires.size
    (made_from c.args.circuit.now c.args.inputs.now t c.rows.result c.cols.result c.in_ok-cells.cells.items m c.rows.ensures c.cols.ensures e c.in_ok-cells.ensures.start))
    c.manifest_of.ensures

pub returns-clause-exact : goal.returns-clause-exact
returns-clause-exact g c =
    let t = g.L.Roles.table c.args.table.now in
    IfOk-weaker c.manifest_of.result (λ m. m ≡ manifest_on c.rows.result c.cols.result c.in_ok-cells.cells.items) (λ m. m ≡ compiled_manifest c.args.circuit.now c.args.inputs.now t)
    (λ m e. made_exact c.args.circuit.now c.args.inputs.now t m
    (made_from c.args.circuit.now c.args.inputs.now t c.rows.result c.cols.result c.in_ok-cells.cells.items m c.rows.ensures c.cols.ensures e c.in_ok-cells.ensures.start))
    c.manifest_of.ensures

pub manifest_of-requires-clause-rows : goal.manifest_of-requires-clause-rows
manifest_of-requires-clause-rows g c =
    let t = g.L.Roles.table c.args.table.now in
    let some = some_cells c.args.circuit.now t c.requires.formed.ends c.circuit_facts.ensures.outputs in
    omega (arith, some.0, c.rows.ensures)

pub manifest_of-requires-clause-cols : goal.manifest_of-requires-clause-cols
manifest_of-requires-clause-cols g c =
    let t = g.L.Roles.table c.args.table.now in
    let some = some_cells c.args.circuit.now t c.requires.formed.ends c.circuit_facts.ensures.outputs in
    omega (arith, some.1, c.cols.ensures)

pub returns-clause-short : goal.returns-clause-short
returns-clause-short g c =
    let t = g.L.Roles.table c.args.table.now in
    IfOk-weaker c.manifest_of.result (λ m. m ≡ manifest_on c.rows.result c.cols.result c.in_ok-cells.cells.items) (λ m. length (canonical_text m) ≤ 67108864)
    (λ m e. made_short c.args.circuit.now c.args.inputs.now t m c.requires.size (some_cells c.args.circuit.now t c.requires.formed.ends c.circuit_facts.ensures.outputs).1
    (made_from c.args.circuit.now c.args.inputs.now t c.rows.result c.cols.result c.in_ok-cells.cells.items m c.rows.ensures c.cols.ensures e c.in_ok-cells.ensures.start))
    c.manifest_of.ensures
