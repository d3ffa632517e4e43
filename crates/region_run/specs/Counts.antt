-- How many entries the steps of a region add and cut, and how many messages they take.
use Rattle.std.specs.Prelude.{ℕ, ◌+◌, ◌-◌, List, [], ◌∷◌, length}
use Rattle.surf_kinds.specs.declared.event.Key.{Key}
use Rattle.warp_core.specs.World.{World}
use Rattle.warp_core.specs.Parts.{Part, PartStep, part_after, after_take}
use Rattle.region_run.specs.Sides.{raised}
use Rattle.region_run.specs.declared.totals.Turn.{Turn}
use Rattle.region_run.specs.declared.totals.Totals.{Totals}

abbrev pub added_by : PartStep → ℕ
added_by (PartStep.Fires e) = 1
added_by (PartStep.Passes e) = 1
added_by PartStep.Ends = 0
added_by (PartStep.Takes j op) = 0

abbrev pub taken_by : PartStep → ℕ
taken_by (PartStep.Fires e) = 0
taken_by (PartStep.Passes e) = 0
taken_by PartStep.Ends = 0
taken_by (PartStep.Takes j op) = 1

-- the entries by which a message shortens the timeline
abbrev pub cut_by : World → Key → ℕ → Part → PartStep → ℕ
cut_by w floor i p (PartStep.Fires e) = 0
cut_by w floor i p (PartStep.Passes e) = 0
cut_by w floor i p PartStep.Ends = 0
cut_by w floor i p (PartStep.Takes j op) = length p.timeline - length (after_take w floor i p j op).timeline

abbrev pub added_in : List PartStep → ℕ
added_in [] = 0
added_in (s ∷ ss) = added_by s + added_in ss

abbrev pub taken_in : List PartStep → ℕ
taken_in [] = 0
taken_in (s ∷ ss) = taken_by s + taken_in ss

abbrev pub cut_in : World → Key → ℕ → Part → List PartStep → ℕ
cut_in w floor i p [] = 0
cut_in w floor i p (s ∷ ss) = cut_by w floor i p s + cut_in w floor i (part_after w floor i p s) ss

-- the totals after entries were added and others cut
abbrev pub with_work : Totals → ℕ → ℕ → Totals
with_work t added cut = record t { added = raised t.added added; cut = raised t.cut cut }

-- the totals after a turn
abbrev pub with_turn : Totals → Turn → Totals
with_turn t turn = record t { turns = raised t.turns 1; last_turn = turn; added = raised t.added turn.added; cut = raised t.cut turn.cut }

-- the totals after so many received entries were forgotten
abbrev pub with_forgotten : Totals → ℕ → Totals
with_forgotten t n = record t { forgotten = raised t.forgotten n }
