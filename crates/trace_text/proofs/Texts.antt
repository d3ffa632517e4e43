-- The lines, from their parts.
use Rattle.std.proofs.Common.{◌≡◌, ℕ, ◌/◌, ◌%◌, List, [], ◌∷◌, ◌++◌, refl, append_assoc}
use Rattle.std.specs.Prelude.{decimal, codes, slice_index_or, length}
use Rattle.std.specs.List.{flat_map, range_with_len}
use Rattle.surf_kinds.specs.declared.event.Event.{Event}
use Rattle.surf_kinds.specs.declared.site.SiteState.{SiteState}
use Rattle.surf_kinds.specs.Channels.{rule_of_channel, way_of_channel}
use Rattle.surf_kinds.specs.Steps.{site_of_place, step_of_place}
use Rattle.lattice.specs.Shape.{Shape}
use Rattle.surface_rows.specs.Rows.{rows_text}
use Rattle.trace_text.specs.Lines.{direction, event_text, heading_text, cells_of, count_of, count_text, counts_text, surface_text, end_text, limit_text}

pub event-is : (cols : ℕ) (e : Event) (line : List ℕ)
    → line ≡ codes "event " ++ (decimal e.time ++ (codes " " ++ (decimal (site_of_place e.place.0 / cols) ++ (codes " " ++ (decimal (site_of_place e.place.0 % cols) ++ (codes " "
    ++ (direction (step_of_place e.place.0) ++ (codes " " ++ (decimal (rule_of_channel e.channel) ++ (codes " " ++ (decimal (way_of_channel e.channel) ++ 10 ∷ [])))))))))))
    → line ≡ event_text cols e
unfolding event_text
event-is cols e line is = simp append_assoc is

pub heading-is : (tick events : ℕ) (line : List ℕ) → line ≡ codes "surface " ++ decimal tick ++ codes " " ++ decimal events ++ 10 ∷ [] → line ≡ heading_text tick events
unfolding heading_text
heading-is tick events line is = is

pub end-is : (until events : ℕ) (line : List ℕ) → line ≡ codes "end " ++ decimal until ++ codes " " ++ decimal events ++ 10 ∷ [] → line ≡ end_text until events
unfolding end_text
end-is until events line is = is

pub limit-is : (limit : ℕ) (line : List ℕ) → line ≡ codes "limit " ++ (decimal limit ++ 10 ∷ []) → line ≡ limit_text limit
unfolding limit_text
limit-is limit line is = simp append_assoc is

pub count-is : (names : List (List ℕ)) (sites : List SiteState) (species : ℕ) → 32 ∷ slice_index_or names species [] ++ 58 ∷ decimal (count_of sites species) ≡ count_text names sites species
unfolding count_text
count-is names sites species = refl

pub counts-is : (names : List (List ℕ)) (sites : List SiteState) → codes "counts" ++ flat_map (count_text names sites) (range_with_len 0 (length names)) ++ 10 ∷ [] ≡ counts_text names sites
unfolding counts_text
counts-is names sites = refl

pub surface-is : (names : List (List ℕ)) (l : Shape) (sites : List SiteState) (tick events : ℕ)
    → heading_text tick events ++ rows_text names l.rows l.cols (cells_of sites) ++ counts_text names sites ≡ surface_text names l sites tick events
unfolding surface_text
surface-is names l sites tick events = refl
