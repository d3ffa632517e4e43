use Rattle.std.proofs.Common.{◌≡◌, ℕ, ◌<◌, List, length, refl, sym, ap, ◌∙◌, subst, slice_set, slice_index_or, arith, ◌∷◌, drop}
use Rattle.std.proofs.lemmas.List.{length-set}
use Rattle.std.proofs.lemmas.Result.{err_from_is_err_and}
use Rattle.regions.specs.Bands.{Bands}
use Rattle.border.specs.declared.op.Op.{Op}
use Rattle.warp_core.specs.Regions.{part_of, outbox_of}
use Rattle.warp_core.specs.Configs.{core_with}
use Rattle.warp_core.specs.declared.region.Region.{Region}
use Rattle.warp_core.specs.declared.step.Step.TheVariants.{Take}
use Rattle.warp_core.proofs.Machine.Cores.{reads_same, read_after}
use Rattle.warp_core.proofs.Machine.Stepping.{kept_config, home_of, sized_here, alike_core, alike_homes, alike_consistent, take_made, take_homes, no_take, made_consistent, box_within}
use Rattle.warp_core.proofs.config.Config.take.Goals as goal

pub first_waiting-requires : goal.first_waiting-requires
first_waiting-requires c =
    let w = c.requires.config in
    box_within c.args.plan.now w.0 c.args.self.now c.args.from c.index.result.now w.1 c.requires.from c.index.ensures c.args.to c.requires.to

pub returns-in-None-clause-made : goal.returns-in-None-clause-made
returns-in-None-clause-made c s g =
    (refl, no_take c.args.plan.now s c.args.self.now c.args.from c.args.to c.index.result.now c.requires.from c.index.ensures c.in-None.ensures.none)

pub take-requires-clause-ground : goal.take-requires-clause-ground
take-requires-clause-ground c =
    let w = c.requires.config in
    let h = home_of c.args.plan.now w.0 c.args.self.now c.args.to c.index_mut.result.now w.1 c.requires.to c.index_mut.ensures.value in
    (c.args.plan.now, sym (ap (λ (b : Bands). b.lattice) w.1.bands ∙ w.1.setting.lattice), (w.0.cells, h.past, h.base, h.ground))

pub take-requires-clause-sized : goal.take-requires-clause-sized
take-requires-clause-sized c =
    let w = c.requires.config in
    sized_here c.args.plan.now w.0 c.args.self.now c.args.to c.index_mut.result.now w.1 c.requires.to c.index_mut.ensures.value

pub take-requires-clause-sender : goal.take-requires-clause-sender
take-requires-clause-sender c =
    let w = c.requires.config in
    omega (arith, c.requires.from, w.1.count, ap (λ (b : Bands). b.count) w.1.bands)

pub returns-in_err-take-in-Some-clause-made : goal.returns-in_err-take-in-Some-clause-made
returns-in_err-take-in-Some-clause-made c s g =
    let p = err_from_is_err_and c.from_residual.result c.from_residual.ensures.1 in
    rw p.1 (alike_core c.args.plan.now s c.args.self.now c.args.to c.index_mut.result.now g c.requires.to c.index_mut.ensures.value c.take.new.self c.in_err-take-in-Some.ensures.err)

pub returns-in_err-take-in-Some-clause-kept : goal.returns-in_err-take-in-Some-clause-kept
returns-in_err-take-in-Some-clause-kept c s g =
    let now = c.args.self.now in
    let i = c.args.to in
    let r = c.index_mut.result.now in
    let new = c.take.new.self in
    kept_config c.args.plan.now s now _ g refl refl (length-set now.regions.items i new)
    (alike_consistent c.args.plan.now s now i r g c.requires.to c.index_mut.ensures.value new c.in_err-take-in-Some.ensures.err)
    (alike_homes c.args.plan.now s now i r g c.requires.to c.index_mut.ensures.value new c.in_err-take-in-Some.ensures.err)

-- the sender as it was read first, and as it is read again
first_op : (rs : List Region) (j i : ℕ) (first rj : Region) (op : Op) → j < length rs → first ≡ slice_index_or rs j first → rj ≡ slice_index_or rs j rj → outbox_of first i ≡ op ∷ drop 1 (outbox_of first i) → outbox_of rj i ≡ op ∷ drop 1 (outbox_of rj i)
first_op rs j i first rj op h a b some = subst (λ (r : Region). outbox_of r i ≡ op ∷ drop 1 (outbox_of r i)) (reads_same rs j first rj h a b) some

pub returns-in_ok-take-in-Some-clause-made : goal.returns-in_ok-take-in-Some-clause-made
returns-in_ok-take-in-Some-clause-made c s g =
    let now = c.args.self.now in
    let rs = now.regions.items in
    let j = c.args.from in
    let i = c.args.to in
    let rj = c.index_mut-in-Some.result.now in
    let ri = c.index_mut.result.now in
    let taken = c.take.new.self in
    let less = c.drop_first.new.self in
    let is_j = read_after rs i j rj taken c.requires.other c.index_mut-in-Some.ensures.value in
    take_made c.args.plan.now s now j i rj ri taken less c.in-Some.op g c.requires.from c.requires.to c.requires.other is_j c.index_mut.ensures.value
    (first_op rs j i c.index.result.now rj c.in-Some.op c.requires.from c.index.ensures is_j c.in-Some.ensures.some)
    c.in_ok-take-in-Some.ensures.part c.in_ok-take-in-Some.ensures.outboxes (ap part_of c.drop_first.ensures.same) c.drop_first.ensures.outboxes

pub returns-in_ok-take-in-Some-clause-kept : goal.returns-in_ok-take-in-Some-clause-kept
returns-in_ok-take-in-Some-clause-kept c s g =
    let now = c.args.self.now in
    let rs = now.regions.items in
    let j = c.args.from in
    let i = c.args.to in
    let rj = c.index_mut-in-Some.result.now in
    let ri = c.index_mut.result.now in
    let taken = c.take.new.self in
    let less = c.drop_first.new.self in
    let is_j = read_after rs i j rj taken c.requires.other c.index_mut-in-Some.ensures.value in
    let first = first_op rs j i c.index.result.now rj c.in-Some.op c.requires.from c.index.ensures is_j c.in-Some.ensures.some in
    kept_config c.args.plan.now s now _ g refl refl (length-set (slice_set rs i taken) j less ∙ length-set rs i taken)
    (made_consistent c.args.plan.now s now (Take j i) (core_with now.horizon now.committed.items (slice_set (slice_set rs i taken) j less)) g (returns-in_ok-take-in-Some-clause-made c s g))
    (take_homes c.args.plan.now s now j i rj ri taken less c.in-Some.op g c.requires.from c.requires.to c.requires.other is_j c.index_mut.ensures.value first (c.take.ensures.ground c.args.plan.now) c.take.ensures.sized c.drop_first.ensures.same c.drop_first.ensures.long)
