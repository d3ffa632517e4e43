use Rattle.std.proofs.Common.{◌≡◌, ◌+◌, false, sym, ◌∙◌, subst, arith, heap_items}
use Rattle.std.proofs.lemmas.List.{get_or_read}
use Rattle.gate_layout.proofs.LawLemmas.{column_facts}
use Rattle.track_layout.specs.Tracks.{track_in}
use Rattle.track_layout.specs.Free.{has, Gives}
use Rattle.track_layout.specs.Sweep.{BeginsBy}
use Rattle.track_layout.proofs.Filled.{last_of}
use Rattle.track_layout.proofs.Steps.{not_free, goes, goes_on}
use Rattle.track_layout.proofs.sweep.end.Goals as goal

pub give-requires-clause-absent : goal.give-requires-clause-absent
give-requires-clause-absent c =
    let list = c.args.circuit.now in
    let tracks = c.args.sweep.now.tracks.items in
    let own : c.index.result.now ≡ track_in tracks c.args.net = get_or_read tracks c.args.net c.index.result.now (omega (arith, c.requires.swept.size, c.requires.within)) c.index.ensures 0 in
    let ends = last_of list c.args.lasts.now c.args.net c.requires.within c.requires.ends in
    let facts = column_facts list.nets (c.args.col + 1) c.args.net c.requires.nets c.requires.net in
    subst (λ k. has (heap_items c.args.sweep.now.free) (λ r. r.0) k ≡ false) (sym own)
    (not_free list tracks c.args.sweep.now.count _ (BeginsBy list (c.args.col + 1)) (λ n. c.args.col) c.args.net c.requires.swept (facts.net, facts.begun) (omega (arith, ends, c.if-lasts-net.true)))

pub returns-in_ok-give-clause-swept : goal.returns-in_ok-give-clause-swept
returns-in_ok-give-clause-swept c =
    let list = c.args.circuit.now in
    let tracks = c.args.sweep.now.tracks.items in
    let own : c.index.result.now ≡ track_in tracks c.args.net = get_or_read tracks c.args.net c.index.result.now (omega (arith, c.requires.swept.size, c.requires.within)) c.index.ensures 0 in
    let ends = last_of list c.args.lasts.now c.args.net c.requires.within c.requires.ends in
    goes list tracks c.args.sweep.now.count c.args.col c.args.net _ _ c.requires.nets c.requires.some c.requires.col c.requires.net (omega (arith, ends, c.if-lasts-net.true)) c.requires.swept
    (subst (λ k. Gives (has (heap_items c.args.sweep.now.free) (λ r. r.0)) (has (heap_items c.give.new.free) (λ r. r.0)) k) own c.in_ok-give.ensures.gives)

pub returns-else-lasts-net-clause-swept : goal.returns-else-lasts-net-clause-swept
returns-else-lasts-net-clause-swept c =
    let list = c.args.circuit.now in
    let ends = last_of list c.args.lasts.now c.args.net c.requires.within c.requires.ends in
    goes_on list c.args.sweep.now.tracks.items c.args.sweep.now.count c.args.col c.args.net _ c.requires.some c.requires.col c.requires.net (λ e. c.if-lasts-net.false (ends ∙ e)) c.requires.swept
