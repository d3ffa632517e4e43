-- What a publisher has added and published of a run.
use Rattle.std.specs.Prelude.{◌≡◌, ◌*◌, ◌<◌, List, length, All}
use Rattle.surf_kinds.specs.declared.event.Event.{Event}
use Rattle.surf_kinds.specs.declared.site.SiteState.{SiteState}
use Rattle.lattice.specs.Surface.{after_all}
use Rattle.plan.specs.Network.{Network}
use Rattle.plan.specs.Products.{LeavesWithin}
use Rattle.trace_text.specs.Lines.{cells_of, counts_of}
use Rattle.watching.specs.Changes.{changes_of}
use Rattle.watching.specs.declared.publisher.Publisher.{Publisher}

-- The publisher has added the changes of these events of a run from a first surface on, and stands at the surface after them.
pub record HasAdded (n : Network) (first : List SiteState) (es : List Event) (p : Publisher) : Type 0 where
  pub long : length first ≡ n.lattice.rows * n.lattice.cols
  pub below : All (λ s. s.species.0 < length p.writer.name.start) first
  pub leaves : All (LeavesWithin (length p.writer.name.start)) n.rules
  pub start : p.writer.name.start ≡ counts_of first (length p.writer.name.start)
  pub cells : p.cells.items ≡ cells_of (after_all n.lattice n.rules first es)
  pub added : p.writer.added ≡ changes_of n.lattice n.rules first es

-- It has published all that it added.
pub record HasPublished (n : Network) (first : List SiteState) (es : List Event) (p : Publisher) : Type 0 where
  pub added : HasAdded n first es p
  pub published : p.writer.published ≡ p.writer.added
