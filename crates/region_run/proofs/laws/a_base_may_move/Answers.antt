use Rattle.lattice.specs.Surface.{first_surface}
use Rattle.warp_core.proofs.LawLemmas.{is_world, sound_rebased, sound_raised}
use Rattle.region_run.specs.Regions.{world_at, part_of}
use Rattle.region_run.proofs.laws.a_base_may_move.Goals as goal

pub returns-clause-agree : goal.returns-clause-agree
returns-clause-agree c n b until x r g base agree = sound_rebased (world_at n b until x) (is_world n b until (first_surface x.cells) g.cut g.lattice g.short) r.id x.surface.sites base x.floor (part_of r) agree g.sound

pub returns-clause-raised : goal.returns-clause-raised
returns-clause-raised c n b until x r key g low high = sound_raised (world_at n b until x) r.id x.surface.sites x.floor key (part_of r) low high g.sound
