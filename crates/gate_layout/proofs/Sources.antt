-- The column at which a net comes into its row.
use Rattle.std.proofs.Common.{◌≡◌, ◌≢◌, ℕ, zero, suc, ◌+◌, ◌*◌, ◌/◌, ◌%◌, ◌<◌, ◌≤◌, List, length, Option, Some, None, Bool, true, false, refl, sym, ap, ◌∙◌, subst, arith, rules, get_or, if◌then◌else◌}
use Rattle.std.specs.Prelude.{slice_get, nat_lt}
use Rattle.std.proofs.lemmas.Option.{none-some, slice_get-get_or}
use Rattle.std.proofs.lemmas.Bool.{ltb-true, lt-ltb, le-ltb}
use Rattle.circuit_text.specs.declared.kinds.Net.{Net}
use Rattle.circuit_text.specs.declared.kinds.Net.TheVariants as net
use Rattle.gate_layout.specs.declared.parts.Part.TheVariants.{FirstPin, Body, SecondPin, Bend, Rise}
use Rattle.gate_layout.specs.declared.parts.Column.{Column}
use Rattle.gate_layout.specs.declared.parts.Column.TheVariants.{Outside, Of}
use Rattle.gate_layout.specs.declared.parts.Side.TheVariants.{East, South, West}
use Rattle.gate_layout.specs.Nets.{gate_count, net_of, gate_at}
use Rattle.gate_layout.specs.Placed.{col_count, part_of, column_of, source_in, source, source_side, row_side}
use Rattle.gate_layout.proofs.Gates.{gate_found}
use Rattle.gate_layout.proofs.Places.{AreNext, next_column}

pub column_rise : (gates g : ℕ) → g < gates → column_of gates (6 * g + 5) ≡ Of g Rise
column_rise gates g lt =
    let e : suc (6 * g + 4) ≡ 6 * g + 5 = omega arith in
    let d : (6 * g + 4) / 6 ≡ g = omega arith in
    let m : (6 * g + 4) % 6 ≡ 4 = omega arith in
    subst (λ c. column_of gates c ≡ Of g Rise) e (rw (lt-ltb (6 * g + 4) (6 * gates) (omega (arith, lt)), d, m) refl)

-- an input comes in at the first column, and a gate's net at the rise of the gate
pub data SourceView (nets : List Net) (n : ℕ) : Type 0 where
  FromInput : (i : ℕ) → slice_get nets n ≡ Some (net.Input i) → source nets n ≡ 0 → SourceView nets n
  FromGate : (g : ℕ) → g < gate_count nets → net_of nets g ≡ n → source nets n ≡ 6 * g + 5 → source_side (slice_get nets n) ≡ Some South → SourceView nets n

source_in_view : (nets : List Net) (n : ℕ) (o : Option Net) → n < length nets → slice_get nets n ≡ o → SourceView nets n
source_in_view nets n None lt is = absurd (none-some (get_or nets n (net.Input 0)) (sym is ∙ slice_get-get_or nets n (net.Input 0) lt))
source_in_view nets n (Some (net.Input i)) lt is = FromInput i is (ap (source_in nets n) is)
source_in_view nets n (Some (net.Gate op a b)) lt is =
    let f = gate_found nets n (net.Gate op a b) is tt in
    FromGate (gate_at nets n) f.0 f.1 (ap (source_in nets n) is) (ap source_side is)

pub source_view : (nets : List Net) (n : ℕ) → n < length nets → SourceView nets n
source_view nets n lt = source_in_view nets n (slice_get nets n) lt refl

pub source_within : (nets : List Net) (n : ℕ) → SourceView nets n → source nets n < col_count nets
source_within nets n (FromInput i is at) = omega (arith, at)
source_within nets n (FromGate g lt is at side) = omega (arith, at, lt)

-- which side of a cell its net comes from
pub from_east : (nets : List Net) (n col : ℕ) → col < source nets n → row_side nets n col ≡ Some East
from_east nets n col lt = ap (λ b. if b then Some East else (if nat_lt (source nets n) col then Some West else source_side (slice_get nets n))) (lt-ltb col (source nets n) lt)

from_not_east : (nets : List Net) (n col : ℕ) → source nets n ≤ col → row_side nets n col ≡ (if nat_lt (source nets n) col then Some West else source_side (slice_get nets n))
from_not_east nets n col le = ap (λ b. if b then Some East else (if nat_lt (source nets n) col then Some West else source_side (slice_get nets n))) (le-ltb col (source nets n) le)

pub from_west : (nets : List Net) (n col : ℕ) → source nets n < col → row_side nets n col ≡ Some West
from_west nets n col lt = from_not_east nets n col (omega (arith, lt)) ∙ ap (λ b. if b then Some West else source_side (slice_get nets n)) (lt-ltb (source nets n) col lt)

pub from_source : (nets : List Net) (n col : ℕ) → col ≡ source nets n → row_side nets n col ≡ source_side (slice_get nets n)
from_source nets n col is = from_not_east nets n col (omega (arith, is)) ∙ ap (λ b. if b then Some West else source_side (slice_get nets n)) (le-ltb (source nets n) col (omega (arith, is)))

-- a column and the one before it

pub before_body : (c : Column) (g : ℕ) → AreNext c (Of g Body) → c ≡ Of g FirstPin
before_body (Of h FirstPin) g next = ap (λ k. Of k FirstPin) next
before_body c g next = first_of (cc, search rules)

pub before_second : (c : Column) (g : ℕ) → AreNext c (Of g SecondPin) → c ≡ Of g Body
before_second (Of h Body) g next = ap (λ k. Of k Body) next
before_second c g next = first_of (cc, search rules)

pub before_bend : (c : Column) (g : ℕ) → AreNext c (Of g Bend) → c ≡ Of g SecondPin
before_bend (Of h SecondPin) g next = ap (λ k. Of k SecondPin) next
before_bend c g next = first_of (cc, search rules)

pub before_rise : (c : Column) (g : ℕ) → AreNext c (Of g Rise) → c ≡ Of g Bend
before_rise (Of h Bend) g next = ap (λ k. Of k Bend) next
before_rise c g next = first_of (cc, search rules)

pub after_body : (c : Column) (g : ℕ) → AreNext (Of g Body) c → c ≡ Of g SecondPin
after_body (Of h SecondPin) g next = ap (λ k. Of k SecondPin) (sym next)
after_body c g next = first_of (cc, search rules)

-- a column with a part isn't the first one
pub record IsAfter (gates col : ℕ) (d : Column) : Type 0 where
  pub before : ℕ
  pub next : before + 1 ≡ col
  pub are : AreNext (column_of gates before) d

pub after_some : (gates col : ℕ) (d : Column) → column_of gates col ≡ d → Outside ≢ d → IsAfter gates col d
after_some gates zero d is other = absurd (other is)
after_some gates (suc k) d is other =
    let e : k + 1 ≡ suc k = omega arith in
    record { before = k; next = e; are = subst (AreNext (column_of gates k)) (ap (column_of gates) e ∙ is) (next_column gates k) }

-- a column with a part is within the table
within_in : (gates k : ℕ) (d : Column) (b : Bool) → nat_lt k (6 * gates) ≡ b → (if b then Of (k / 6) (part_of (k % 6)) else Outside) ≡ d → Outside ≢ d → suc k < 6 * gates + 3
within_in gates k d true test is other = omega (arith, ltb-true k (6 * gates) test)
within_in gates k d false test is other = absurd (other is)

pub within_of : (gates col : ℕ) (d : Column) → column_of gates col ≡ d → Outside ≢ d → col < 6 * gates + 3
within_of gates zero d is other = omega arith
within_of gates (suc k) d is other = within_in gates k d (nat_lt k (6 * gates)) refl is other
