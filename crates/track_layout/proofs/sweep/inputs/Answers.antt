use Rattle.std.proofs.Common.{◌≡◌, length, [], sym, subst, arith, ◌==◌, heap_items}
use Rattle.std.specs.List.{IsDistinct}
use Rattle.std.proofs.lemmas.Map.Keys.{IsDistinct-from_apart}
use Rattle.track_layout.specs.Free.{has}
use Rattle.track_layout.specs.Sweep.{IsSwept, IsInputBy, seen}
use Rattle.track_layout.proofs.Steps.{unlooked, looked_all}
use Rattle.track_layout.proofs.sweep.inputs.Goals as goal

pub invariant_of-sweep-clause-once : goal.invariant_of-sweep-clause-once
invariant_of-sweep-clause-once c = subst (λ xs. IsDistinct (λ x y. x.0 == y.0) xs) (sym c.new.ensures.items) (IsDistinct-from_apart _ [] (λ i j d a b. absurd (omega (arith, b))))

pub loop-input-init : goal.loop-input-init
loop-input-init c =
    let list = c.args.circuit.now in
    let all : c.loop-net.net ≡ length list.nets = omega (arith, c.loop-net-test.false, c.loop-net.auto.net-end, c.net_count-nets.ensures.count) in
    record {
      few = omega (arith, c.loop-net.invariant.few, c.loop-net.auto.net-end, c.net_count-nets.ensures.at_most);
      swept = unlooked list c.loop-net.sweep.tracks.items c.loop-net.sweep.count _
          (subst (λ b. IsSwept list c.loop-net.sweep.tracks.items c.loop-net.sweep.count (has (heap_items c.loop-net.sweep.free) (λ r. r.0)) (IsInputBy list b) (λ n. 0)) all c.loop-net.invariant.swept);
    }

pub returns-clause-swept : goal.returns-clause-swept
returns-clause-swept c =
    let list = c.args.circuit.now in
    let all : c.loop-input.input ≡ length list.nets = omega (arith, c.loop-input-test.false, c.loop-input.auto.input-end, c.net_count-nets.ensures.count) in
    looked_all list c.loop-input.sweep.tracks.items c.loop-input.sweep.count _
    (subst (λ b. IsSwept list c.loop-input.sweep.tracks.items c.loop-input.sweep.count (has (heap_items c.loop-input.sweep.free) (λ r. r.0)) (IsInputBy list (length list.nets)) (seen b)) all c.loop-input.invariant.swept)
