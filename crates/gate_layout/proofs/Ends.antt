-- Input and output cells, on each placement.
use Rattle.std.proofs.Common.{◌≡◌, ℕ, ◌+◌, ◌*◌, ◌<◌, suc, List, length, Option, Some, None, refl, sym, ap, ◌∙◌, subst, arith, get_or}
use Rattle.std.specs.Prelude.{slice_get}
use Rattle.std.proofs.lemmas.Option.{slice_get_within}
use Rattle.std.proofs.lemmas.Bool.{le-ltb}
use Rattle.circuit_text.specs.declared.kinds.Net.{Net}
use Rattle.circuit_text.specs.declared.kinds.Net.TheVariants as net
use Rattle.circuit_text.specs.Values.{input_count}
use Rattle.circuit_text.specs.Circuits.{NetList}
use Rattle.gate_layout.specs.declared.role.Role.TheVariants.{Wire}
use Rattle.gate_layout.specs.declared.parts.Column.TheVariants.{Outside}
use Rattle.gate_layout.specs.Nets.{gate_count, input_net, AreNumbered}
use Rattle.gate_layout.specs.Table.{HasEnds}
use Rattle.gate_layout.specs.Placed.{Placement, IsPlaced, row_of, column_of, column_net, net_role, role_in, role_on, source_in, input_cell_on, table_on}
use Rattle.gate_layout.proofs.Gates.{input_at, input_has}
use Rattle.gate_layout.proofs.Places.{row_track}

column_after : (gates : ℕ) → column_of gates (6 * gates + 2) ≡ Outside
column_after gates =
    let e : suc (6 * gates + 1) ≡ 6 * gates + 2 = omega arith in
    subst (λ c. column_of gates c ≡ Outside) e (rw (le-ltb (6 * gates + 1) (6 * gates) (omega arith)) refl)

-- a cell outside the gates at which a net runs is a wire of it
wire_at : (p : Placement) (nets : List Net) (k col n : ℕ) → k < p.tracks → column_of (gate_count nets) col ≡ Outside → p.runs k col ≡ Some n → role_on p nets (2 * k) col ≡ Wire n
unfolding role_on
wire_at p nets k col n lt out runs =
    ap (λ r. role_in p nets r (column_of (gate_count nets) col) col) (row_track p.tracks k lt)
    ∙ ap (λ c. net_role p k (p.runs k col) (column_net nets c)) out ∙ ap (λ z. net_role p k z None) runs

-- an input's net runs at the first column
pub input_runs : (c : NetList) (p : Placement) → IsPlaced c p → (n i : ℕ) → slice_get c.nets n ≡ Some (net.Input i) → p.runs (p.track n) 0 ≡ Some n
input_runs c p placed n i is = ap (p.runs (p.track n)) (sym (ap (source_in c.nets n) is)) ∙ placed.sources n (slice_get_within c.nets n _ is)

pub wire_first : (c : NetList) (p : Placement) → IsPlaced c p → (n i : ℕ) → slice_get c.nets n ≡ Some (net.Input i) → role_on p c.nets (2 * p.track n) 0 ≡ Wire n
wire_first c p placed n i is = wire_at p c.nets (p.track n) 0 n (placed.on n (slice_get_within c.nets n _ is)) refl (input_runs c p placed n i is)

-- two inputs have different cells: at the first column of a track runs one net
apart : (c : NetList) (p : Placement) → IsPlaced c p → (i k : ℕ) → AreNumbered c.nets → i < input_count c.nets → k < input_count c.nets → input_cell_on p c.nets i ≡ input_cell_on p c.nets k → i ≡ k
apart c p placed i k are one two same =
    let rows : 2 * p.track (input_net c.nets i) ≡ 2 * p.track (input_net c.nets k) = ap (λ s. s.row) same in
    let e : p.track (input_net c.nets i) ≡ p.track (input_net c.nets k) = omega (arith, rows) in
    let first = input_runs c p placed (input_net c.nets i) i (input_has c.nets i are one) in
    let second = input_runs c p placed (input_net c.nets k) k (input_has c.nets k are two) in
    let both : Some (input_net c.nets i) ≡ Some (input_net c.nets k) = sym first ∙ ap (λ j. p.runs j 0) e ∙ second in
    let n : input_net c.nets i ≡ input_net c.nets k = cc in
    let f : Some (net.Input i) ≡ Some (net.Input k) = sym (input_has c.nets i are one) ∙ ap (slice_get c.nets) n ∙ input_has c.nets k are two in
    cc

-- the second condition
pub ends_are : (c : NetList) (p : Placement) → AreNumbered c.nets → ((i : ℕ) → i < length c.outputs → get_or c.outputs i 0 < length c.nets) → IsPlaced c p → HasEnds c (table_on p c)
ends_are c p are outs placed = record {
  inputs = refl;
  starts = λ n i is.
      let e = input_at c.nets n i are is in
      let lt = placed.on n (slice_get_within c.nets n _ is) in
      ((let t : p.track (input_net c.nets i) ≡ p.track n = ap p.track e in omega (arith, t, lt), omega arith), ap (λ m. role_on p c.nets (2 * p.track m) 0) e ∙ wire_first c p placed n i is);
  distinct = λ i k one two same. apart c p placed i k are one two same;
  outputs = refl;
  ends = λ i lt.
      let n = get_or c.outputs i 0 in
      let below = placed.on n (outs i lt) in
      ((omega (arith, below), omega arith), wire_at p c.nets (p.track n) (6 * gate_count c.nets + 2) n below (column_after (gate_count c.nets)) (placed.outputs i lt));
}
