use Rattle.std.proofs.Common.{◌≡◌, ◌<◌, length, sym, ap, subst, ◌∙◌}
use Rattle.std.specs.Prelude.{All}
use Rattle.std.proofs.lemmas.List.{length-map}
use Rattle.surf_kinds.specs.declared.site.SiteState.{SiteState}
use Rattle.surf_kinds.specs.declared.site.SpeciesId.{SpeciesId}
use Rattle.trace_text.specs.Lines.{cells_of}
use Rattle.trace_text.proofs.Counted.{sum-counts_of}
use Rattle.trace_text.proofs.laws.counts_are_whole.Goals as goal

pub returns : goal.returns
returns c =
    let sites = c.args.surface.now.sites in
    let n = c.args.surface.now.species_count in
    let is = c.cells-cells.ensures.cells in
    let below : All (λ (s : SpeciesId). s.0 < n) (cells_of sites) = subst (All (λ (s : SpeciesId). s.0 < n)) is c.cells-cells.ensures.below in
    sum-counts_of n sites below
    ∙ sym (length-map sites (λ (s : SiteState). s.species))
    ∙ sym (ap length is)
    ∙ c.cells-cells.ensures.sites
