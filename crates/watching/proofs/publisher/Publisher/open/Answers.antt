use Rattle.std.proofs.Common.{rules, ◌≡◌, ◌<◌, ◌*◌, ℕ, List, All, length, sum_by, sym, ap, ◌∙◌, subst, arith}
use Rattle.surf_kinds.specs.declared.site.SpeciesId.{SpeciesId}
use Rattle.lattice.specs.Shape.{Shape}
use Rattle.trace_text.specs.Lines.{cells_of, counts_of}
use Rattle.trace_text.proofs.LawLemmas.{sum-counts_of}
use Rattle.watching.proofs.Counting.{counts-length}
use Rattle.watching.proofs.Publishing.{opened}
use Rattle.watching.proofs.publisher.Publisher.open.Goals as goal

pub frames-requires-clause-start : goal.frames-requires-clause-start
frames-requires-clause-start g c =
    let v = c.args.surface.now in
    let below : All (λ (s : SpeciesId). s.0 < v.species_count) (cells_of v.sites) = subst (All (λ (s : SpeciesId). s.0 < v.species_count)) c.cells.ensures.cells c.cells.ensures.below in
    let same : c.as_slice.result.now ≡ counts_of v.sites v.species_count = c.as_slice.ensures.value ∙ c.in_ok-counts.ensures in
    let total : sum_by (λ (n : ℕ). n) c.as_slice.result.now ≡ length v.sites = ap (sum_by (λ (n : ℕ). n)) same ∙ sum-counts_of v.species_count v.sites below in
    omega (arith, total, c.lattice.ensures.sites, c.lattice.ensures.lattice, ap (λ (l : Shape). l.rows * l.cols) c.lattice.ensures.lattice, c.site_count.ensures.count, c.site_count.ensures.at_most)

pub returns-clause-published : goal.returns-clause-published
returns-clause-published g c n same leaves =
    let v = c.args.surface.now in
    let below : All (λ (s : SpeciesId). s.0 < v.species_count) (cells_of v.sites) = subst (All (λ (s : SpeciesId). s.0 < v.species_count)) c.cells.ensures.cells c.cells.ensures.below in
    let items : c.in_ok-cells.cells.items ≡ c.cells.result.now = search rules in
    opened n v.sites v.species_count _ (c.lattice.ensures.sites ∙ ap (λ (l : Shape). l.rows * l.cols) (sym same)) below leaves (c.in_ok-writer.ensures.start ∙ (c.as_slice.ensures.value ∙ c.in_ok-counts.ensures))
    (items ∙ c.cells.ensures.cells) c.in_ok-writer.ensures.empty.0 c.in_ok-writer.ensures.empty.1

pub returns-clause-kinds : goal.returns-clause-kinds
returns-clause-kinds g c = ap (λ (l : List ℕ). length l) (c.in_ok-writer.ensures.start ∙ (c.as_slice.ensures.value ∙ c.in_ok-counts.ensures)) ∙ counts-length c.args.surface.now.sites c.args.surface.now.species_count
