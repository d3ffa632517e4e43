use Rattle.std.proofs.Common.{◌≡◌, ◌++◌, ◌∷◌, [], map, take, get_or, ◌+◌, Err, Some, sym, ap, subst, ◌∙◌}
use Rattle.std.specs.List.{flat_map, slice_get}
use Rattle.std.proofs.lemmas.Option.{get_or_from_slice_get}
use Rattle.surf_kinds.specs.declared.site.SpeciesId.{SpeciesId}
use Rattle.manifest_read.specs.Rules.{names_of_rule}
use Rattle.manifest_read.specs.CollectedView.{CollectedView, name_at}
use Rattle.manifest_read.proofs.Renumbered.{Placed, cells-of, cells-fit, placed-start, placed-more, map-take-push}
use Rattle.manifest_read.proofs.collected.Collected.renumber_cells.Goals as goal

pub loop-old-init : goal.loop-old-init
loop-old-init c = record {
  items = cells-of c.self.inside.names c.self.inside.rules c.self.inside.cells c.args.self.now c.as_slice-old-items.result.now c.self.view_is c.as_slice-old-items.ensures c.self.invariant;
  placed = placed-start (flat_map names_of_rule c.args.self.now.rules) c.args.names.now c.new-cells.result c.requires c.new-cells.ensures;
}

pub unreachable-requires : goal.unreachable-requires
unreachable-requires c =
    let names = c.args.self.now.names in
    let items = c.as_slice-old-items.result.now in
    let i = c.loop-old.old-index in
    let d : SpeciesId = record { 0 = 0 } in
    let same : c.self.inside.names ≡ names = ap (λ (s : CollectedView). s.names) c.self.view_is in
    let id : SpeciesId = get_or items i d in
    let found : slice_get c.self.inside.names id.0 ≡ Some c.name.result.now = c.name.ensures in
    let one : map (name_at names) (take i items) ++ c.name.result.now ∷ [] ≡ map (name_at names) (take (i + 1) items)
    = map-take-push (name_at names) items i d c.name.result.now c.loop-old-test.true (ap (λ l. name_at l id) (sym same) ∙ get_or_from_slice_get c.self.inside.names id.0 _ [] found) in
    let fits = cells-fit c.args.self.now items i c.name.result.now c.loop-old.names c.loop-old.cells c.loop-old.invariant.items one c.loop-old.invariant.placed in
    let fault = c.intern.ensures.full (c.in-Err-TooMany.is ∙ ap Err c.in-Err-TooMany.field-0-is) in
    cc

pub loop-old-preserved : goal.loop-old-preserved
loop-old-preserved c =
    let names = c.args.self.now.names in
    let items = c.as_slice-old-items.result.now in
    let i = c.loop-old.old-index in
    let d : SpeciesId = record { 0 = 0 } in
    let same : c.self.inside.names ≡ names = ap (λ (s : CollectedView). s.names) c.self.view_is in
    let id : SpeciesId = get_or items i d in
    let found : slice_get c.self.inside.names id.0 ≡ Some c.name.result.now = c.name.ensures in
    let one : map (name_at names) (take i items) ++ c.name.result.now ∷ [] ≡ map (name_at names) (take (i + 1) items)
    = map-take-push (name_at names) items i d c.name.result.now c.loop-old-test.true (ap (λ l. name_at l id) (sym same) ∙ get_or_from_slice_get c.self.inside.names id.0 _ [] found) in
    record {
      items = c.loop-old.invariant.items;
      placed = subst (λ done. Placed (flat_map names_of_rule c.args.self.now.rules) done c.intern.new.self c.push.new.self) one
          (placed-more (flat_map names_of_rule c.args.self.now.rules) (map (name_at names) (take i items)) c.loop-old.names c.intern.new.self c.loop-old.cells c.push.new.self c.name.result.now c.in-Ok.id
          c.in-Ok.ensures.names c.in_ok-push.ensures.ok c.in-Ok.ensures.place c.loop-old.invariant.placed);
    }
