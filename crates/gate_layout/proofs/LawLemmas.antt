-- The columns of nets.
use Rattle.std.proofs.Common.{◌≡◌, ◌≢◌, ℕ, zero, suc, ◌+◌, ◌*◌, ◌/◌, ◌%◌, ◌<◌, ◌≤◌, ◌⊎◌, inl, inr, List, [], ◌∷◌, length, Option, Some, None, Bool, true, false, refl, sym, ap, ◌∙◌, subst, arith, get_or, if◌then◌else◌}
use Rattle.std.specs.Prelude.{nat_lt, slice_get}
use Rattle.std.proofs.lemmas.Option.{none-some}
use Rattle.std.proofs.lemmas.Bool.{cases_lt, cases_eq, ltb-true}
use Rattle.std.proofs.lemmas.Nat.{div-add-mod', mod_below}
use Rattle.circuit_text.specs.declared.kinds.Net.{Net}
use Rattle.circuit_text.specs.declared.kinds.Net.TheVariants as net
use Rattle.circuit_text.specs.Values.{AreNets, gates_from, gates_of}
use Rattle.gate_layout.specs.declared.parts.Part.TheVariants.{FirstPin, Body, SecondPin, Bend, Rise, Gap}
use Rattle.gate_layout.specs.declared.parts.Column.{Column}
use Rattle.gate_layout.specs.declared.parts.Column.TheVariants.{Outside, Of}
use Rattle.circuit_text.specs.Circuits.{NetList}
use Rattle.gate_layout.specs.Nets.{gate_count, net_of, operand_a, operand_b, AreNumbered}
use Rattle.gate_layout.specs.Table.{IsWellFormed}
use Rattle.gate_layout.specs.Placed.{Placement, IsPlaced, part_of, column_of, column_net, source, table_on}
use Rattle.gate_layout.proofs.Gates.{IsGate, gate_of, first_low, second_low, gate_named}
use Rattle.gate_layout.proofs.Sources.{SourceView, FromInput, FromGate, source_view, column_rise}
use Rattle.gate_layout.proofs.Whole.{table_is}

-- on each placement the table is well-formed
pub placed_is : (c : NetList) (p : Placement) → AreNets c.nets → AreNumbered c.nets → ((i : ℕ) → i < length c.outputs → get_or c.outputs i 0 < length c.nets) → IsPlaced c p → IsWellFormed c (table_on p c)
placed_is c p are own outs placed = table_is c p are own outs placed

-- gates have rising nets
from_least : (k : ℕ) (nets : List Net) (g : ℕ) → g < length (gates_from k nets) → k ≤ get_or (gates_from k nets) g 0
from_least k [] g lt = absurd (omega (arith, lt))
from_least k (net.Input i ∷ nets) g lt = let r = from_least (suc k) nets g lt in omega (arith, r)
from_least k (net.Gate op a b ∷ nets) zero lt = omega arith
from_least k (net.Gate op a b ∷ nets) (suc g) lt = let r = from_least (suc k) nets g (omega (arith, lt)) in omega (arith, r)

from_rise : (k : ℕ) (nets : List Net) (g h : ℕ) → g < h → h < length (gates_from k nets) → get_or (gates_from k nets) g 0 < get_or (gates_from k nets) h 0
from_rise k [] g h lt within = absurd (omega (arith, within))
from_rise k (net.Input i ∷ nets) g h lt within = from_rise (suc k) nets g h lt within
from_rise k (net.Gate op a b ∷ nets) zero zero lt within = absurd (omega (arith, lt))
from_rise k (net.Gate op a b ∷ nets) zero (suc h) lt within = let r = from_least (suc k) nets h (omega (arith, within)) in omega (arith, r)
from_rise k (net.Gate op a b ∷ nets) (suc g) zero lt within = absurd (omega (arith, lt))
from_rise k (net.Gate op a b ∷ nets) (suc g) (suc h) lt within = from_rise (suc k) nets g h (omega (arith, lt)) (omega (arith, within))

gates_below : (nets : List Net) (g h : ℕ) → g < gate_count nets → h < gate_count nets → net_of nets g < net_of nets h → g < h
gates_below nets g h gin hin lt = elim (cases_lt g h) [
  | inl less ↦ less
  | inr ge ↦ elim (cases_eq g h) [
    | inl same ↦ absurd (let e : net_of nets g ≡ net_of nets h = ap (net_of nets) same in omega (arith, lt, e))
    | inr other ↦ absurd (let r = from_rise 0 nets h g (omega (arith, ge, other)) gin in omega (arith, lt, r))
  ]
]

gates_same : (nets : List Net) (g h : ℕ) → g < gate_count nets → h < gate_count nets → net_of nets g ≡ net_of nets h → g ≡ h
gates_same nets g h gin hin same = elim (cases_lt g h) [
  | inl less ↦ absurd (let r = from_rise 0 nets g h less hin in omega (arith, r, same))
  | inr ge ↦ elim (cases_eq g h) [ inl e ↦ e | inr other ↦ absurd (let r = from_rise 0 nets h g (omega (arith, ge, other)) gin in omega (arith, r, same)) ]
]

-- a net has its source before the net of a gate that reads it
source_before : (nets : List Net) (t g : ℕ) → t < length nets → g < gate_count nets → t < net_of nets g → source nets t < 6 * g + 1
source_before nets t g lt gin below = by (source_view nets t lt)
  where
    by : SourceView nets t → source nets t < 6 * g + 1
    by (FromInput i is at) = omega (arith, at)
    by (FromGate h hin is at side) =
        let r = gates_below nets h g hin gin (subst (λ m. m < net_of nets g) (sym is) below) in
        omega (arith, at, r)

source_rise : (nets : List Net) (t g : ℕ) → t < length nets → g < gate_count nets → net_of nets g ≡ t → source nets t ≡ 6 * g + 5
source_rise nets t g lt gin own = by (source_view nets t lt) refl
  where
    by : SourceView nets t → source nets t ≡ source nets t → source nets t ≡ 6 * g + 5
    by (FromGate h hin is at side) e = let same : h ≡ g = gates_same nets h g hin gin (is ∙ sym own) in omega (arith, at, same)
    by (FromInput i is at) e = absurd (gate_no_input nets g i gin (ap (slice_get nets) own ∙ is))
      where
        gate_no_input : (nets : List Net) (g i : ℕ) → g < gate_count nets → slice_get nets (net_of nets g) ≡ Some (net.Input i) → ⊥
        gate_no_input nets g i gin is = let x = gate_of nets g gin in no_gate x.0 x.1 x.2
          where
            no_gate : (x : Net) → slice_get nets (net_of nets g) ≡ Some x → IsGate x → ⊥
            no_gate (net.Input k) e gate = gate
            no_gate (net.Gate op a b) e gate = let f : Some (net.Gate op a b) ≡ Some (net.Input i) = sym e ∙ is in cc

-- what is known of the net of a column
pub record IsColumnNet (nets : List Net) (col t : ℕ) : Type 0 where
  pub net : t < length nets
  pub gate : ℕ
  pub within : gate < gate_count nets
  pub begun : source nets t ≤ col
  pub at : (col ≡ 6 * gate + 1) ⊎ ((col ≡ 6 * gate + 3) ⊎ ((col ≡ 6 * gate + 5) × (source nets t ≡ col)))

at_part : (nets : List Net) (k t r g : ℕ) → AreNets nets → g < gate_count nets → k ≡ 6 * g + r → r < 6 → column_net nets (Of g (part_of r)) ≡ Some t → IsColumnNet nets (suc k) t
at_part nets k t zero g are gin e lt is =
    let low = first_low nets g t are is in
    let below : t < length nets = omega (arith, low, gate_named nets g gin) in
    let s = source_before nets t g below gin low in
    record { net = below; gate = g; within = gin; begun = omega (arith, s, e); at = inl (omega (arith, e)) }
at_part nets k t (suc zero) g are gin e lt is = absurd (none-some t is)
at_part nets k t (suc (suc zero)) g are gin e lt is =
    let low = second_low nets g t are is in
    let below : t < length nets = omega (arith, low, gate_named nets g gin) in
    let s = source_before nets t g below gin low in
    record { net = below; gate = g; within = gin; begun = omega (arith, s, e); at = inr (inl (omega (arith, e))) }
at_part nets k t (suc (suc (suc zero))) g are gin e lt is = absurd (none-some t is)
at_part nets k t (suc (suc (suc (suc zero)))) g are gin e lt is =
    let own : net_of nets g ≡ t = cc in
    let below : t < length nets = subst (λ n. n < length nets) own (gate_named nets g gin) in
    let s = source_rise nets t g below gin own in
    record { net = below; gate = g; within = gin; begun = omega (arith, s, e); at = inr (inr (omega (arith, e), omega (arith, s, e))) }
at_part nets k t (suc (suc (suc (suc (suc zero))))) g are gin e lt is = absurd (none-some t is)
at_part nets k t (suc (suc (suc (suc (suc (suc r)))))) g are gin e lt is = absurd (omega (arith, lt))

column_in : (nets : List Net) (k t : ℕ) (b : Bool) → AreNets nets → nat_lt k (6 * gate_count nets) ≡ b → column_net nets (if b then Of (k / 6) (part_of (k % 6)) else Outside) ≡ Some t → IsColumnNet nets (suc k) t
column_in nets k t true are test is =
    let lt = ltb-true k (6 * gate_count nets) test in
    at_part nets k t (k % 6) (k / 6) are (omega (arith, lt)) (omega (arith, div-add-mod' k 6)) (mod_below k 6 (omega arith)) is
column_in nets k t false are test is = absurd (none-some t is)

pub column_facts : (nets : List Net) (col t : ℕ) → AreNets nets → column_net nets (column_of (gate_count nets) col) ≡ Some t → IsColumnNet nets col t
column_facts nets zero t are is = absurd (none-some t is)
column_facts nets (suc k) t are is = column_in nets k t (nat_lt k (6 * gate_count nets)) are refl is

-- a net begins at the first column, or in the rise of its gate
pub source_facts : (nets : List Net) (n : ℕ) → n < length nets → (source nets n ≡ 0) ⊎ ((g : ℕ) × (g < gate_count nets) × (source nets n ≡ 6 * g + 5) × (column_net nets (column_of (gate_count nets) (source nets n)) ≡ Some n))
source_facts nets n lt = by (source_view nets n lt)
  where
    by : SourceView nets n → (source nets n ≡ 0) ⊎ ((g : ℕ) × (g < gate_count nets) × (source nets n ≡ 6 * g + 5) × (column_net nets (column_of (gate_count nets) (source nets n)) ≡ Some n))
    by (FromInput i is at) = inl at
    by (FromGate g gin is at side) = inr (g, gin, at, ap (λ col. column_net nets (column_of (gate_count nets) col)) at ∙ ap (column_net nets) (column_rise (gate_count nets) g gin) ∙ ap (λ m. Some m) is)

-- the net of a gate is one of the circuit's, and begins in its rise
pub gate_facts : (nets : List Net) (g : ℕ) → g < gate_count nets → (net_of nets g < length nets) × (source nets (net_of nets g) ≡ 6 * g + 5)
gate_facts nets g lt = (gate_named nets g lt, source_rise nets (net_of nets g) g (gate_named nets g lt) lt refl)

-- a net begins at the first column or is that of a gate
pub net_facts : (nets : List Net) (n : ℕ) → n < length nets → (source nets n ≡ 0) ⊎ ((g : ℕ) × (g < gate_count nets) × (net_of nets g ≡ n) × (source nets n ≡ 6 * g + 5))
net_facts nets n lt = by (source_view nets n lt)
  where
    by : SourceView nets n → (source nets n ≡ 0) ⊎ ((g : ℕ) × (g < gate_count nets) × (net_of nets g ≡ n) × (source nets n ≡ 6 * g + 5))
    by (FromInput i is at) = inl at
    by (FromGate g gin is at side) = inr (g, gin, is, at)
