use Rattle.std.proofs.Common.{◌≡◌, ℕ, ◌+◌, ◌*◌, ◌<◌, List, sym, ap, ◌∙◌, subst}
use Rattle.track_layout.specs.Tracks.{AreTracks}
use Rattle.track_layout.proofs.Turns.{only_tracks, sites_are}
use Rattle.track_layout.proofs.tracks.Tracks.of.Goals as goal

pub cells_of-requires-clause-tracks : goal.cells_of-requires-clause-tracks
cells_of-requires-clause-tracks c = subst (λ (ts : List ℕ). AreTracks c.args.circuit.now ts c.in-Ok.sweep.count) (sym c.deref.ensures.value) c.in-Ok.ensures

pub returns-in-Ok-cells_of-clause-formed : goal.returns-in-Ok-cells_of-clause-formed
returns-in-Ok-cells_of-clause-formed c = c.compact_tables_are_well_formed.ensures c.in-Ok.sweep.tracks.items c.in-Ok.sweep.count c.in-Ok.ensures

pub returns-then-sites-gt-MOST_SITES-clause-many : goal.returns-then-sites-gt-MOST_SITES-clause-many
returns-then-sites-gt-MOST_SITES-clause-many c sites e =
    let same : (2 * c.in-Ok.sweep.count + 2) * c.column_count.result ≡ sites = cc in (
      sym same ∙ ap (λ w. (2 * c.in-Ok.sweep.count + 2) * w) c.column_count.ensures.count
          ∙ sites_are c.args.circuit.now c.in-Ok.sweep.tracks.items c.in-Ok.sweep.count c.circuits_have_tracks.ensures.tracks c.in-Ok.ensures,
      subst (λ s. 1048576 < s) same c.if-sites-gt-MOST_SITES.true,
    )

pub returns-in-Ok-cells_of-clause-turns : goal.returns-in-Ok-cells_of-clause-turns
returns-in-Ok-cells_of-clause-turns c = only_tracks c.args.circuit.now c.in-Ok.sweep.tracks.items c.in-Ok.sweep.count c.circuits_have_tracks.ensures.tracks c.in-Ok.ensures
