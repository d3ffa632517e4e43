use Rattle.std.proofs.Common.{◌≡◌, ◌+◌, ◌*◌, ◌<◌, length, None, ap, ◌∙◌, subst, arith, get_or}
use Rattle.std.proofs.lemmas.List.{get_or_read}
use Rattle.gate_layout.specs.Placed.{col_count}
use Rattle.track_layout.specs.Tracks.{running}
use Rattle.track_layout.proofs.Filled.{cell_inside}
use Rattle.track_layout.proofs.Placing.{run_within}
use Rattle.track_layout.proofs.tracks.Tracks.net_at.Goals as goal

pub index-requires : goal.index-requires
index-requires c =
    let t = c.self.inside in
    let w = col_count t.circuit.now.nets in
    let count : t.count ≡ c.args.self.now.count = ap (λ v. v.count) c.self.view_is in
    let cols : w ≡ col_count c.args.self.now.list.nets = ap (λ v. col_count v.list.nets) c.self.view_is in
    let start : c.args.track * c.column_count-cols.result ≡ c.args.track * w = ap (λ z. c.args.track * z) c.column_count-cols.ensures.count in
    let inside = cell_inside c.args.track t.count w c.args.col (omega (arith, c.requires.track, count)) (omega (arith, c.requires.col, cols)) in
    omega (arith, start, inside, c.self.invariant.2.0)

pub returns-clause-net : goal.returns-clause-net
returns-clause-net c =
    let t = c.self.inside in
    let w = col_count t.circuit.now.nets in
    let count : t.count ≡ c.args.self.now.count = ap (λ v. v.count) c.self.view_is in
    let cols : w ≡ col_count c.args.self.now.list.nets = ap (λ v. col_count v.list.nets) c.self.view_is in
    let start : c.args.track * c.column_count-cols.result + c.args.col ≡ c.args.track * w + c.args.col = ap (λ z. c.args.track * z + c.args.col) c.column_count-cols.ensures.count in
    let below : c.args.track < t.count = omega (arith, c.requires.track, count) in
    let within : c.args.col < w = omega (arith, c.requires.col, cols) in
    let inside = cell_inside c.args.track t.count w c.args.col below within in
    let read : c.index.result.now ≡ get_or t.cells.items (c.args.track * c.column_count-cols.result + c.args.col) None =
    get_or_read t.cells.items (c.args.track * c.column_count-cols.result + c.args.col) c.index.result.now (omega (arith, start, inside, c.self.invariant.2.0)) c.index.ensures None in
    subst (λ v. c.index.result.now ≡ running v.list v.tracks (length v.list.nets) c.args.track c.args.col) c.self.view_is
    (read ∙ ap (λ z. get_or t.cells.items z None) start ∙ c.self.invariant.2.1 c.args.track c.args.col below within)

pub returns-clause-within : goal.returns-clause-within
returns-clause-within c = run_within c.args.self.now.list c.args.self.now.tracks (length c.args.self.now.list.nets) c.args.track c.args.col c.index.result.now (returns-clause-net c)
