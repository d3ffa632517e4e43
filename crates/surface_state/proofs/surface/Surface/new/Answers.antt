use Rattle.std.proofs.Common.{rules, ap, ◌∙◌, arith}
use Rattle.surface_state.specs.Columns.{states}
use Rattle.surface_state.proofs.Columns.{states-fresh, same_view}
use Rattle.surface_state.proofs.surface.Surface.new.Goals as goal

pub returns : goal.returns
returns c =
    same_view c.args.lattice _ _ _ _ c.in_ok-counts.ensures.long
    (ap (λ s. states s c.in_ok-marks.marks.items) (search rules) ∙ ap (states c.args.cells.now) (search rules) ∙ states-fresh c.args.cells.now c.site_count-sites.result (omega (arith, c.requires.cells, c.site_count-sites.ensures.count)))
