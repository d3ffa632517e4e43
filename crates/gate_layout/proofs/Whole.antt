-- On each placement the table is well-formed, and the layout is one of them.
use Rattle.std.proofs.Common.{◌≡◌, ℕ, ◌<◌, length, Some, inl, refl, get_or, arith}
use Rattle.circuit_text.specs.Values.{AreNets}
use Rattle.circuit_text.specs.Circuits.{NetList}
use Rattle.gate_layout.specs.Nets.{AreNumbered}
use Rattle.gate_layout.specs.Table.{IsWellFormed}
use Rattle.gate_layout.specs.Placed.{Placement, IsPlaced, table_on}
use Rattle.gate_layout.specs.Layout.{closed, layout}
use Rattle.gate_layout.proofs.Agrees.{roles_agree}
use Rattle.gate_layout.proofs.Ends.{ends_are}
use Rattle.gate_layout.proofs.Fed.{halves_are_fed}

pub table_is : (c : NetList) (p : Placement) → AreNets c.nets → AreNumbered c.nets → ((i : ℕ) → i < length c.outputs → get_or c.outputs i 0 < length c.nets) → IsPlaced c p → IsWellFormed c (table_on p c)
table_is c p are own outs placed = record { agree = roles_agree c p are placed; ends = ends_are c p own outs placed; fed = halves_are_fed c p are own placed }

-- a track for each net, along which it runs through all columns
pub closed_is : (c : NetList) → IsPlaced c (closed c.nets)
closed_is c = record {
  on = λ n lt. lt;
  named = λ k col n below is. let e : k ≡ n = cc in (omega (arith, below, e), omega (arith, e));
  sources = λ n lt. refl;
  columns = λ n col is. refl;
  outputs = λ i lt. refl;
  to_east = λ k col n below lt is. is;
  to_west = λ k col n below le is. is;
  ends_east = λ k col n below within is. inl is;
  ends_west = λ k col n below within is. inl is;
}

pub layout_is : (c : NetList) → AreNets c.nets → AreNumbered c.nets → ((i : ℕ) → i < length c.outputs → get_or c.outputs i 0 < length c.nets) → IsWellFormed c (layout c)
layout_is c are own outs = table_is c (closed c.nets) are own outs (closed_is c)
