-- Which own events a cut takes back.
use Rattle.std.specs.Prelude.{ℕ, ◌&&◌, ◌==◌, List, [], ◌∷◌, Option, Some, None, Bool, if◌then◌else◌}
use Rattle.surf_kinds.specs.declared.event.Event.{Event}
use Rattle.surf_kinds.specs.declared.event.Key.{Key}
use Rattle.surf_kinds.specs.Keys.{is_before, key_of, keep, below, from}
use Rattle.border.specs.declared.op.Op.{Op}
use Rattle.border.specs.declared.op.Op.TheVariants.{Back}
use Rattle.regions.specs.Bands.{Bands, owner_of}
use Rattle.regions.specs.Seen.{is_told}
use Rattle.warp_core.specs.Parts.{Part, is_told_to_some}

abbrev pub first_key : List Event → Option Key
first_key [] = None
first_key (e ∷ es) = Some (key_of e)

-- the place is one of the region, and region l is told of its events
abbrev pub is_told_of_own : Bands → ℕ → ℕ → Key → Bool
is_told_of_own b region l k = owner_of b k.place.0 == region && is_told b l k.place.0

-- the place is one of the region, and some region is told of its events
abbrev pub is_told_own : Bands → ℕ → Key → Bool
is_told_own b region k = owner_of b k.place.0 == region && is_told_to_some (is_told b) b.count k.place.0

-- the key of the first event from a key on that passes a test
abbrev pub first_from : (Key → Bool) → Key → List Event → Option Key
first_from test k es = first_key (keep test (from k es))

abbrev pub back_at : Option Key → Option Key → List Op
back_at None any = []
back_at (Some k) None = []
back_at (Some k) (Some j) = Back j ∷ []

-- what a cut at a key puts for region l
abbrev pub back_puts : Bands → ℕ → Key → List Event → ℕ → List Op
back_puts b region k es l = back_at (first_from (is_told_of_own b region l) k es) (first_from (is_told_own b region) k es)

-- a part cut at a key, if that is below its clock
abbrev pub part_cut : Part → Key → Part
part_cut p k = record p { timeline = if is_before k p.clock then below k p.timeline else p.timeline; clock = if is_before k p.clock then k else p.clock }

abbrev pub cut_puts : Bands → ℕ → Part → Key → ℕ → List Op
cut_puts b region p k l = if is_before k p.clock then back_puts b region k p.timeline l else []
