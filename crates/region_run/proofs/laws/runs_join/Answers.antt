use Rattle.warp_core.specs.Cores.{base_of}
use Rattle.warp_core.proofs.LawLemmas.{round_keeps, run_rebased}
use Rattle.region_run.specs.Regions.{world_at}
use Rattle.region_run.proofs.laws.runs_join.Goals as goal

pub returns : goal.returns
returns c n b until x laws core own_base steps channel good agree may flow =
    let w = world_at n b until x in
    round_keeps w laws core steps channel good (λ i h. run_rebased w laws (own_base i) (base_of w core) core.horizon i (core.part i) (steps i) (agree i h) (may i h)) flow
