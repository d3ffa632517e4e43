use Rattle.std.proofs.Common.{◌≡◌, ◌+◌, ◌≤◌, length}
use Rattle.std.specs.Prelude.{vec_len, vec_capacity}
use Rattle.lattice.specs.Places.{ArePlacesOf}
use Rattle.lattice.specs.Rising.{IsListed}
use Rattle.region_run.specs.Boards.{AreNoted}
use Rattle.region_run.proofs.changes.note_site.Given as goal

abbrev pub invariant-loop-place : goal.invariant-loop-place
invariant-loop-place l = record {
  places : ArePlacesOf l.lattice l.fn.site.0 l.listed;
  few : length l.listed ≤ 7;
  noted : AreNoted l.at l.range l.queue (IsListed l.listed l.place-index) l.fn.changes.items l.changes.items;
  len : vec_len l.changes ≤ vec_len l.fn.changes + l.place-index;
  capacity : vec_capacity l.changes ≡ vec_capacity l.fn.changes;
}
