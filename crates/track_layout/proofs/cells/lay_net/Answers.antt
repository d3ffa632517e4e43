use Rattle.std.proofs.Common.{◌≡◌, ◌*◌, ap, arith}
use Rattle.gate_layout.specs.Placed.{col_count}
use Rattle.track_layout.specs.Tracks.{track_in}
use Rattle.track_layout.proofs.Filled.{first_of, last_of, end_inside, span_laid}
use Rattle.track_layout.proofs.cells.lay_net.Goals as goal

pub lay-requires : goal.lay-requires
lay-requires c =
    let list = c.args.circuit.now in
    let t = track_in c.args.tracks.now c.args.net in
    let start : t * c.column_count.result ≡ t * col_count list.nets = ap (λ w. t * w) c.column_count.ensures.count in
    let ends = last_of list c.args.spans.1.now c.args.net c.requires.net c.requires.ends in
    let inside = end_inside list c.args.tracks.now c.args.count c.args.net c.requires.net c.requires.tracks in
    record { within = omega (arith, start, ends, inside, c.requires.before.0) }

pub returns : goal.returns
returns c =
    let list = c.args.circuit.now in
    let t = track_in c.args.tracks.now c.args.net in
    let start : t * c.column_count.result ≡ t * col_count list.nets = ap (λ w. t * w) c.column_count.ensures.count in
    let begins = first_of list c.args.spans.0.now c.args.net c.requires.net c.requires.firsts in
    let ends = last_of list c.args.spans.1.now c.args.net c.requires.net c.requires.ends in
    span_laid list c.args.tracks.now c.args.count c.args.net _ _ c.args.cells.now.items c.lay.new.cells.items c.requires.net c.requires.before c.lay.ensures.size
    (omega (arith, start, begins)) (omega (arith, start, ends)) c.lay.ensures.each
