use Rattle.std.proofs.Common.{◌≡◌, ◌≤◌, ◌^◌, subst}
use Rattle.circuit_text.specs.Values.{values_of}
use Rattle.gate_layout.specs.Table.{IsWellFormed}
use Rattle.crn_compile.specs.Compiled.{IsCompiled, compiled_manifest}
use Rattle.crn_compile.specs.Settled.{Settles, RunsOut}
use Rattle.track_layout.specs.Tracks.{TracksView, compact_table, site_count}
use Rattle.track_layout.proofs.manifest.compact.Goals as goal

pub returns-in-Ok-compile_on-clause-compact : goal.returns-in-Ok-compile_on-clause-compact
returns-in-Ok-compile_on-clause-compact c =
    let list = c.args.circuit.now in
    let inputs = c.args.inputs.now in
    let m = c.in-Ok-compile_on.manifest in
    let same = c.in-Ok.ensures.turns in
    let is = c.in-Ok-compile_on.ensures in
    record {
      room = subst (λ (t : TracksView). site_count t ≤ 2 ^ 20) same c.in-Ok.ensures.room;
      formed = subst (λ (t : TracksView). IsWellFormed list (compact_table t)) same c.in-Ok.ensures.formed;
      exact = subst (λ (t : TracksView). m ≡ compiled_manifest list inputs (compact_table t)) same is.exact;
      compiled = subst (λ (t : TracksView). IsCompiled list inputs (compact_table t) m) same is.compiled;
      valid = is.valid;
      short = is.short;
      settles = subst (λ (t : TracksView). Settles list (values_of list.nets inputs) (compact_table t) m.cells) same is.settles;
      runs = λ seed. subst (λ (t : TracksView). RunsOut list (values_of list.nets inputs) (compact_table t) m.cells seed (10 ^ 15)) same (is.runs seed);
    }
