use Rattle.std.proofs.Common.{◌≡◌, ◌+◌, ◌*◌, length, false, sym, ap, ◌∙◌, subst, arith, heap_items}
use Rattle.std.proofs.lemmas.List.{get_or_read}
use Rattle.gate_layout.specs.Nets.{gate_at}
use Rattle.gate_layout.specs.Placed.{source_in}
use Rattle.track_layout.specs.Spans.{first}
use Rattle.track_layout.specs.Tracks.{track_in}
use Rattle.track_layout.specs.Free.{has, Gives}
use Rattle.track_layout.specs.Sweep.{IsInputBy, seen}
use Rattle.track_layout.proofs.Filled.{last_of}
use Rattle.track_layout.proofs.Steps.{not_free, unseen, looked_end, looked_on}
use Rattle.track_layout.proofs.sweep.end_input.Goals as goal

pub give-requires-clause-absent : goal.give-requires-clause-absent
give-requires-clause-absent c =
    let list = c.args.circuit.now in
    let tracks = c.args.sweep.now.tracks.items in
    let own : c.index.result.now ≡ track_in tracks c.args.net = get_or_read tracks c.args.net c.index.result.now (omega (arith, c.requires.swept.size, c.requires.within)) c.index.ensures 0 in
    let ends = last_of list c.args.lasts.now c.args.net c.requires.within c.requires.ends in
    subst (λ k. has (heap_items c.args.sweep.now.free) (λ r. r.0) k ≡ false) (sym own)
    (not_free list tracks c.args.sweep.now.count _ (IsInputBy list (length list.nets)) (seen c.args.net) c.args.net c.requires.swept
    (c.requires.within, ap (source_in list.nets c.args.net) c.in-Input.ensures.net, c.requires.within) (omega (arith, ends, c.if-lasts-net-eq1.true, unseen c.args.net)))

pub returns-in_ok-give-in-Input-clause-swept : goal.returns-in_ok-give-in-Input-clause-swept
returns-in_ok-give-in-Input-clause-swept c =
    let list = c.args.circuit.now in
    let tracks = c.args.sweep.now.tracks.items in
    let own : c.index.result.now ≡ track_in tracks c.args.net = get_or_read tracks c.args.net c.index.result.now (omega (arith, c.requires.swept.size, c.requires.within)) c.index.ensures 0 in
    let ends = last_of list c.args.lasts.now c.args.net c.requires.within c.requires.ends in
    looked_end list tracks c.args.sweep.now.count c.args.net _ _ c.requires.within (ap (source_in list.nets c.args.net) c.in-Input.ensures.net) (omega (arith, ends, c.if-lasts-net-eq1.true)) c.requires.swept
    (subst (λ k. Gives (has (heap_items c.args.sweep.now.free) (λ r. r.0)) (has (heap_items c.give.new.free) (λ r. r.0)) k) own c.in_ok-give-in-Input.ensures.gives)

pub returns-else-lasts-net-eq1-clause-swept : goal.returns-else-lasts-net-eq1-clause-swept
returns-else-lasts-net-eq1-clause-swept c =
    let list = c.args.circuit.now in
    let ends = last_of list c.args.lasts.now c.args.net c.requires.within c.requires.ends in
    looked_on list c.args.sweep.now.tracks.items c.args.sweep.now.count c.args.net _ (λ z e. c.if-lasts-net-eq1.false (ends ∙ e)) c.requires.swept

pub returns-in-Gate-clause-swept : goal.returns-in-Gate-clause-swept
returns-in-Gate-clause-swept c =
    let list = c.args.circuit.now in
    looked_on list c.args.sweep.now.tracks.items c.args.sweep.now.count c.args.net _
    (λ z l. let e : first list c.args.net ≡ 6 * gate_at list.nets c.args.net + 5 = ap (source_in list.nets c.args.net) c.in-Gate.ensures.net in omega (arith, z, e)) c.requires.swept
