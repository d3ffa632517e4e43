use Rattle.std.proofs.Common.{length, ap, arith}
use Rattle.std.proofs.lemmas.List.{with_items_is}
use Rattle.surface_state.proofs.Columns.{states-set, same_view}
use Rattle.surface_state.proofs.surface.Surface.put.Goals as goal

pub returns : goal.returns
returns c =
    rw (← c.self.view_is)
    (same_view c.self.inside.lattice _ _ _ _ (omega (arith, ap length (with_items_is c.self.inside.counts c.count_moved.new.counts (omega (arith, c.count_moved.auto.counts, c.deref_mut.ensures.len))), c.count_moved.auto.counts, ap length c.deref_mut.ensures.value))
    (states-set c.self.inside.species.items c.self.inside.marks.items c.args.site.0 c.args.state.species (record { version = c.args.state.version; last = c.args.state.last })))
