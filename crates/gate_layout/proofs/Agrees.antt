-- The roles of neighbours agree, on each placement.
use Rattle.std.proofs.Common.{◌≡◌, ℕ, ◌+◌, ◌*◌, ◌<◌, ◌≤◌, ◌⊎◌, inl, inr, List, length, Option, Some, None, Bool, true, false, refl, sym, ap, ◌∙◌, subst, arith, rules, if◌then◌else◌}
use Rattle.std.specs.Prelude.{nat_lt, nat_le}
use Rattle.std.proofs.lemmas.Bool.{cases_lt, cases_eq, ltb-true, lt-ltb, leb-true}
use Rattle.std.proofs.lemmas.Option.{none-some}
use Rattle.circuit_text.specs.declared.kinds.Net.{Net}
use Rattle.gate_layout.specs.declared.parts.Part.TheVariants.{FirstPin, Body, SecondPin, Bend, Rise, Gap}
use Rattle.gate_layout.specs.declared.parts.Column.{Column}
use Rattle.gate_layout.specs.declared.parts.Column.TheVariants.{Outside, Of}
use Rattle.gate_layout.specs.declared.parts.Row.{Row}
use Rattle.gate_layout.specs.declared.parts.Row.TheVariants.{TrackRow, Between, Pins, Bottom}
use Rattle.circuit_text.specs.Values.{AreNets}
use Rattle.circuit_text.specs.Circuits.{NetList}
use Rattle.gate_layout.specs.declared.role.Role.{Role}
use Rattle.gate_layout.specs.declared.role.Role.TheVariants.{Inert, Wire, Vert, PinA, PinB, Cross, Gate}
use Rattle.gate_layout.specs.Nets.{gate_count, net_of, operand_a, operand_b}
use Rattle.gate_layout.specs.Table.{Agree, IsNamed, DoAgree}
use Rattle.gate_layout.specs.Placed.{Placement, IsPlaced, rows_on, col_count, column_of, row_of, column_net, net_role, between_role, pin_a, pin_b, pins_role, bottom_role, role_in, role_on, table_on}
use Rattle.gate_layout.specs.Within.{IsColumnOf, IsRowOf}
use Rattle.gate_layout.proofs.Gates.{gate_named, first_low, second_low}
use Rattle.gate_layout.proofs.Places.{AreNext, next_column, AreUnder, under_row, view, row_is, column_is}
use Rattle.gate_layout.proofs.Columns.{one_net}

inert_any : (nets : List Net) (r : Role) → Agree nets Inert r
inert_any nets r = tt

any_inert : (nets : List Net) (r : Role) → Agree nets r Inert
any_inert nets Inert = tt
any_inert nets (Wire n) = tt
any_inert nets (Vert n) = tt
any_inert nets (PinA n) = tt
any_inert nets (PinB n) = tt
any_inert nets (Cross n m) = tt
any_inert nets (Gate g) = tt

-- east: the row of a track

net_east_in : (nets : List Net) (n t u : ℕ) (b d : Bool) → Agree nets (if b then Cross n t else Wire n) (if d then Cross n u else Wire n)
net_east_in nets n t u true true = tt
net_east_in nets n t u true false = refl
net_east_in nets n t u false true = refl
net_east_in nets n t u false false = refl

net_wire : (nets : List Net) (n t : ℕ) (b : Bool) → Agree nets (if b then Cross n t else Wire n) (Wire n)
net_wire nets n t true = refl
net_wire nets n t false = refl

wire_net : (nets : List Net) (n t : ℕ) (b : Bool) → Agree nets (Wire n) (if b then Cross n t else Wire n)
wire_net nets n t true = refl
wire_net nets n t false = refl

-- one net runs on
same_east : (p : Placement) (nets : List Net) (k n : ℕ) (o q : Option ℕ) → Agree nets (net_role p k (Some n) o) (net_role p k (Some n) q)
same_east p nets k n None None = refl
same_east p nets k n (Some t) None = net_wire nets n t (nat_lt (p.track t) k)
same_east p nets k n None (Some u) = wire_net nets n u (nat_lt (p.track u) k)
same_east p nets k n (Some t) (Some u) = net_east_in nets n t u (nat_lt (p.track t) k) (nat_lt (p.track u) k)

-- none runs
none_east : (p : Placement) (nets : List Net) (k : ℕ) (o q : Option ℕ) → (o ≡ None) ⊎ (q ≡ None) → Agree nets (net_role p k None o) (net_role p k None q)
none_east p nets k None q one = tt
none_east p nets k (Some t) None one = any_inert nets (net_role p k None (Some t))
none_east p nets k (Some t) (Some u) one = elim one [ inl e ↦ absurd (none-some t (sym e)) | inr e ↦ absurd (none-some u (sym e)) ]

net_east : (c : NetList) (p : Placement) → IsPlaced c p → (k col : ℕ) → k < p.tracks → col + 1 < col_count c.nets
    → Agree c.nets (net_role p k (p.runs k col) (column_net c.nets (column_of (gate_count c.nets) col))) (net_role p k (p.runs k (col + 1)) (column_net c.nets (column_of (gate_count c.nets) (col + 1))))
net_east c p placed k col below within = by (p.runs k col) (p.runs k (col + 1)) refl refl
  where
    o : Option ℕ
    o = column_net c.nets (column_of (gate_count c.nets) col)

    q : Option ℕ
    q = column_net c.nets (column_of (gate_count c.nets) (col + 1))

    by : (x y : Option ℕ) → p.runs k col ≡ x → p.runs k (col + 1) ≡ y → Agree c.nets (net_role p k x o) (net_role p k y q)
    by None None is at = none_east p c.nets k o q (one_net c.nets (column_of (gate_count c.nets) col) (column_of (gate_count c.nets) (col + 1)) (next_column (gate_count c.nets) col))
    by (Some n) y is at = elim (placed.ends_east k col n below within is) [
      | inl same ↦ subst (λ z. Agree c.nets (net_role p k (Some n) o) (net_role p k z q)) (sym same ∙ at) (same_east p c.nets k n o q)
      | inr gone ↦ subst (λ z. Agree c.nets (net_role p k (Some n) o) (net_role p k z q)) (sym gone.0 ∙ at) (subst (λ z. Agree c.nets (net_role p k (Some n) o) (net_role p k None z)) (sym gone.1) (any_inert c.nets (net_role p k (Some n) o)))
    ]
    by None (Some n) is at = elim (placed.ends_west k col n below within at) [
      | inl same ↦ absurd (none-some n (sym is ∙ same))
      | inr gone ↦ subst (λ z. Agree c.nets (net_role p k None z) (net_role p k (Some n) q)) (sym gone.1) tt
    ]

-- east: the row below it; of two columns one has no net

between_east : (p : Placement) (nets : List Net) (k : ℕ) (c d : Column) → AreNext c d → Agree nets (between_role p k (column_net nets c)) (between_role p k (column_net nets d))
between_east p nets k Outside d next = tt
between_east p nets k (Of g Body) d next = tt
between_east p nets k (Of g Bend) d next = tt
between_east p nets k (Of g Gap) d next = tt
between_east p nets k (Of g FirstPin) (Of h Body) next = any_inert nets (between_role p k (operand_a nets g))
between_east p nets k (Of g SecondPin) (Of h Bend) next = any_inert nets (between_role p k (operand_b nets g))
between_east p nets k (Of g Rise) (Of h Gap) next = any_inert nets (between_role p k (Some (net_of nets g)))
between_east p nets k c d next = first_of (cc, search rules)

-- east: the pins and the last row

first_beside : (nets : List Net) (g : ℕ) (o : Option ℕ) → operand_a nets g ≡ o → Agree nets (pin_a o) (Gate g)
first_beside nets g None is = tt
first_beside nets g (Some n) is = is

second_beside : (nets : List Net) (g : ℕ) (o : Option ℕ) → operand_b nets g ≡ o → Agree nets (Gate g) (pin_b o)
second_beside nets g None is = tt
second_beside nets g (Some n) is = is

pins_east : (nets : List Net) (c d : Column) → AreNext c d → Agree nets (pins_role nets c) (pins_role nets d)
pins_east nets Outside d next = tt
pins_east nets (Of g Bend) d next = tt
pins_east nets (Of g Gap) d next = tt
pins_east nets (Of g FirstPin) (Of h Body) next = subst (λ k. Agree nets (pins_role nets (Of g FirstPin)) (Gate k)) next (first_beside nets g (operand_a nets g) refl)
pins_east nets (Of g Body) (Of h SecondPin) next = subst (λ k. Agree nets (Gate g) (pins_role nets (Of k SecondPin))) next (second_beside nets g (operand_b nets g) refl)
pins_east nets (Of g SecondPin) (Of h Bend) next = any_inert nets (pins_role nets (Of g SecondPin))
pins_east nets (Of g Rise) (Of h Gap) next = tt
pins_east nets c d next = first_of (cc, search rules)

bottom_east : (nets : List Net) (c d : Column) → AreNext c d → Agree nets (bottom_role nets c) (bottom_role nets d)
bottom_east nets Outside d next = tt
bottom_east nets (Of g Gap) d next = tt
bottom_east nets (Of g FirstPin) d next = tt
bottom_east nets (Of g Body) (Of h SecondPin) next = ap (net_of nets) next
bottom_east nets (Of g SecondPin) (Of h Bend) next = ap (net_of nets) next
bottom_east nets (Of g Bend) (Of h Rise) next = ap (net_of nets) next
bottom_east nets (Of g Rise) (Of h Gap) next = tt
bottom_east nets c d next = first_of (cc, search rules)

east_in : (c : NetList) (p : Placement) → IsPlaced c p → (r : Row) (col : ℕ) → IsRowOf p.tracks r → col + 1 < col_count c.nets
    → Agree c.nets (role_in p c.nets r (column_of (gate_count c.nets) col) col) (role_in p c.nets r (column_of (gate_count c.nets) (col + 1)) (col + 1))
east_in c p placed (TrackRow k) col row within = net_east c p placed k col row within
east_in c p placed (Between k) col row within = between_east p c.nets k _ _ (next_column (gate_count c.nets) col)
east_in c p placed Pins col row within = pins_east c.nets _ _ (next_column (gate_count c.nets) col)
east_in c p placed Bottom col row within = bottom_east c.nets _ _ (next_column (gate_count c.nets) col)

-- south

net_south_in : (p : Placement) (nets : List Net) (k n t : ℕ) (b d : Bool) → nat_lt (p.track t) k ≡ b → nat_le (p.track t) k ≡ d → (p.track t ≡ k → n ≡ t)
    → Agree nets (if b then Cross n t else Wire n) (if d then Vert t else Inert)
net_south_in p nets k n t true true is at own = refl
net_south_in p nets k n t true false is at own = tt
net_south_in p nets k n t false false is at own = tt
net_south_in p nets k n t false true is at own = elim (cases_lt (p.track t) k) [ inl lt ↦ absurd (let e : nat_lt (p.track t) k ≡ true = lt-ltb (p.track t) k lt in cc) | inr le ↦ own (omega (arith, le, leb-true (p.track t) k at)) ]

none_south_in : (nets : List Net) (t : ℕ) (b d : Bool) → Agree nets (if b then Vert t else Inert) (if d then Vert t else Inert)
none_south_in nets t true true = refl
none_south_in nets t true false = tt
none_south_in nets t false d = tt

net_south : (p : Placement) (nets : List Net) (k : ℕ) (run o : Option ℕ) → ((t : ℕ) → o ≡ Some t → p.track t ≡ k → run ≡ Some t) → Agree nets (net_role p k run o) (between_role p k o)
net_south p nets k (Some n) None own = tt
net_south p nets k (Some n) (Some t) own = net_south_in p nets k n t (nat_lt (p.track t) k) (nat_le (p.track t) k) refl refl (λ e. let s = own t refl e in cc)
net_south p nets k None None own = tt
net_south p nets k None (Some t) own = none_south_in nets t (nat_lt (p.track t) k) (nat_le (p.track t) k)

between_south_in : (p : Placement) (nets : List Net) (k m n t : ℕ) (b d : Bool) → k + 1 ≡ m → nat_le (p.track t) k ≡ b → nat_lt (p.track t) m ≡ d → Agree nets (if b then Vert t else Inert) (if d then Cross n t else Wire n)
between_south_in p nets k m n t false d next is at = tt
between_south_in p nets k m n t true true next is at = refl
between_south_in p nets k m n t true false next is at = absurd (let e : nat_lt (p.track t) m ≡ true = lt-ltb (p.track t) m (omega (arith, next, leb-true (p.track t) k is)) in cc)

between_south : (p : Placement) (nets : List Net) (k m : ℕ) (run o : Option ℕ) → k + 1 ≡ m → Agree nets (between_role p k o) (net_role p m run o)
between_south p nets k m run None next = tt
between_south p nets k m (Some n) (Some t) next = between_south_in p nets k m n t (nat_le (p.track t) k) (nat_lt (p.track t) m) next refl refl
between_south p nets k m None (Some t) next = none_south_in nets t (nat_le (p.track t) k) (nat_lt (p.track t) m)

vert_pin_a : (nets : List Net) (t : ℕ) (b : Bool) → Agree nets (if b then Vert t else Inert) (PinA t)
vert_pin_a nets t true = refl
vert_pin_a nets t false = tt

vert_pin_b : (nets : List Net) (t : ℕ) (b : Bool) → Agree nets (if b then Vert t else Inert) (PinB t)
vert_pin_b nets t true = refl
vert_pin_b nets t false = tt

vert_vert : (nets : List Net) (t : ℕ) (b : Bool) → Agree nets (if b then Vert t else Inert) (Vert t)
vert_vert nets t true = refl
vert_vert nets t false = tt

over_a : (p : Placement) (nets : List Net) (k : ℕ) (o : Option ℕ) → Agree nets (between_role p k o) (pin_a o)
over_a p nets k None = tt
over_a p nets k (Some t) = vert_pin_a nets t (nat_le (p.track t) k)

over_b : (p : Placement) (nets : List Net) (k : ℕ) (o : Option ℕ) → Agree nets (between_role p k o) (pin_b o)
over_b p nets k None = tt
over_b p nets k (Some t) = vert_pin_b nets t (nat_le (p.track t) k)

over_pins : (p : Placement) (nets : List Net) (k : ℕ) (c : Column) → Agree nets (between_role p k (column_net nets c)) (pins_role nets c)
over_pins p nets k Outside = tt
over_pins p nets k (Of g FirstPin) = over_a p nets k (operand_a nets g)
over_pins p nets k (Of g Body) = tt
over_pins p nets k (Of g SecondPin) = over_b p nets k (operand_b nets g)
over_pins p nets k (Of g Bend) = tt
over_pins p nets k (Of g Rise) = vert_vert nets (net_of nets g) (nat_le (p.track (net_of nets g)) k)
over_pins p nets k (Of g Gap) = tt

b_wire : (nets : List Net) (m : ℕ) (o : Option ℕ) → Agree nets (pin_b o) (Wire m)
b_wire nets m None = tt
b_wire nets m (Some t) = tt

over_bottom : (nets : List Net) (c : Column) → Agree nets (pins_role nets c) (bottom_role nets c)
over_bottom nets Outside = tt
over_bottom nets (Of g FirstPin) = any_inert nets (pins_role nets (Of g FirstPin))
over_bottom nets (Of g Body) = refl
over_bottom nets (Of g SecondPin) = b_wire nets (net_of nets g) (operand_b nets g)
over_bottom nets (Of g Bend) = tt
over_bottom nets (Of g Rise) = refl
over_bottom nets (Of g Gap) = tt

-- the net of a column runs on its own track there
pub own_track : (c : NetList) (p : Placement) → IsPlaced c p → (k col t : ℕ) → column_net c.nets (column_of (gate_count c.nets) col) ≡ Some t → p.track t ≡ k → p.runs k col ≡ Some t
own_track c p placed k col t is e = subst (λ j. p.runs j col ≡ Some t) e (placed.columns t col is)

south_in : (c : NetList) (p : Placement) → IsPlaced c p → (r s : Row) (col : ℕ) → AreUnder p.tracks r s
    → Agree c.nets (role_in p c.nets r (column_of (gate_count c.nets) col) col) (role_in p c.nets s (column_of (gate_count c.nets) col) col)
south_in c p placed (TrackRow k) (Between m) col next =
    subst (λ j. Agree c.nets (net_role p k (p.runs k col) (column_net c.nets (column_of (gate_count c.nets) col))) (between_role p j (column_net c.nets (column_of (gate_count c.nets) col)))) next
    (net_south p c.nets k (p.runs k col) (column_net c.nets (column_of (gate_count c.nets) col)) (λ t is e. own_track c p placed k col t is e))
south_in c p placed (Between k) (TrackRow m) col next = between_south p c.nets k m (p.runs m col) (column_net c.nets (column_of (gate_count c.nets) col)) next
south_in c p placed (Between k) Pins col next = over_pins p c.nets k (column_of (gate_count c.nets) col)
south_in c p placed Pins Bottom col next = over_bottom c.nets (column_of (gate_count c.nets) col)
south_in c p placed r s col next = first_of (cc, search rules)

-- the nets and gates that roles name

pub first_named : (nets : List Net) (g t : ℕ) → AreNets nets → g < gate_count nets → operand_a nets g ≡ Some t → t < length nets
first_named nets g t are lt is = omega (arith, first_low nets g t are is, gate_named nets g lt)

pub second_named : (nets : List Net) (g t : ℕ) → AreNets nets → g < gate_count nets → operand_b nets g ≡ Some t → t < length nets
second_named nets g t are lt is = omega (arith, second_low nets g t are is, gate_named nets g lt)

pub column_named : (nets : List Net) (c : Column) (t : ℕ) → AreNets nets → IsColumnOf nets c → column_net nets c ≡ Some t → t < length nets
column_named nets Outside t are is at = absurd (none-some t at)
column_named nets (Of g FirstPin) t are is at = first_named nets g t are is at
column_named nets (Of g Body) t are is at = absurd (none-some t at)
column_named nets (Of g SecondPin) t are is at = second_named nets g t are is at
column_named nets (Of g Bend) t are is at = absurd (none-some t at)
column_named nets (Of g Rise) t are is at = let e : net_of nets g ≡ t = cc in subst (λ n. n < length nets) e (gate_named nets g is)
column_named nets (Of g Gap) t are is at = absurd (none-some t at)

cross_named_in : (nets : List Net) (n t : ℕ) (b : Bool) → n < length nets → t < length nets → IsNamed nets (if b then Cross n t else Wire n)
cross_named_in nets n t true lt low = (lt, low)
cross_named_in nets n t false lt low = lt

vert_named_in : (nets : List Net) (t : ℕ) (b : Bool) → t < length nets → IsNamed nets (if b then Vert t else Inert)
vert_named_in nets t true low = low
vert_named_in nets t false low = tt

net_named : (p : Placement) (nets : List Net) (k : ℕ) (run o : Option ℕ) → ((n : ℕ) → run ≡ Some n → n < length nets) → ((t : ℕ) → o ≡ Some t → t < length nets) → IsNamed nets (net_role p k run o)
net_named p nets k None None runs low = tt
net_named p nets k None (Some t) runs low = vert_named_in nets t (nat_lt (p.track t) k) (low t refl)
net_named p nets k (Some n) None runs low = runs n refl
net_named p nets k (Some n) (Some t) runs low = cross_named_in nets n t (nat_lt (p.track t) k) (runs n refl) (low t refl)

between_named : (p : Placement) (nets : List Net) (k : ℕ) (o : Option ℕ) → ((t : ℕ) → o ≡ Some t → t < length nets) → IsNamed nets (between_role p k o)
between_named p nets k None low = tt
between_named p nets k (Some t) low = vert_named_in nets t (nat_le (p.track t) k) (low t refl)

a_named : (nets : List Net) (o : Option ℕ) → ((t : ℕ) → o ≡ Some t → t < length nets) → IsNamed nets (pin_a o)
a_named nets None low = tt
a_named nets (Some t) low = low t refl

b_named : (nets : List Net) (o : Option ℕ) → ((t : ℕ) → o ≡ Some t → t < length nets) → IsNamed nets (pin_b o)
b_named nets None low = tt
b_named nets (Some t) low = low t refl

pins_named : (nets : List Net) (c : Column) → AreNets nets → IsColumnOf nets c → IsNamed nets (pins_role nets c)
pins_named nets Outside are is = tt
pins_named nets (Of g FirstPin) are is = a_named nets (operand_a nets g) (λ t e. first_named nets g t are is e)
pins_named nets (Of g Body) are is = is
pins_named nets (Of g SecondPin) are is = b_named nets (operand_b nets g) (λ t e. second_named nets g t are is e)
pins_named nets (Of g Bend) are is = tt
pins_named nets (Of g Rise) are is = gate_named nets g is
pins_named nets (Of g Gap) are is = tt

bottom_named : (nets : List Net) (c : Column) → IsColumnOf nets c → IsNamed nets (bottom_role nets c)
bottom_named nets Outside is = tt
bottom_named nets (Of g FirstPin) is = tt
bottom_named nets (Of g Body) is = gate_named nets g is
bottom_named nets (Of g SecondPin) is = gate_named nets g is
bottom_named nets (Of g Bend) is = gate_named nets g is
bottom_named nets (Of g Rise) is = gate_named nets g is
bottom_named nets (Of g Gap) is = tt

-- a placement names nets of the circuit alone
abbrev pub DoName : List Net → Placement → Type 0
DoName nets p = (k col n : ℕ) → k < p.tracks → p.runs k col ≡ Some n → n < length nets

named_in : (p : Placement) (nets : List Net) (r : Row) (c : Column) (col : ℕ) → DoName nets p → AreNets nets → IsRowOf p.tracks r → IsColumnOf nets c → IsNamed nets (role_in p nets r c col)
named_in p nets (TrackRow k) c col names are row is = net_named p nets k (p.runs k col) (column_net nets c) (λ n e. names k col n row e) (λ t e. column_named nets c t are is e)
named_in p nets (Between k) c col names are row is = between_named p nets k (column_net nets c) (λ t e. column_named nets c t are is e)
named_in p nets Pins c col names are row is = pins_named nets c are is
named_in p nets Bottom c col names are row is = bottom_named nets c is

pub role_named : (p : Placement) (nets : List Net) (r c : ℕ) → DoName nets p → AreNets nets → r < rows_on p → IsNamed nets (role_on p nets r c)
unfolding role_on
role_named p nets r c names are lt = named_in p nets (row_of p.tracks r) (column_of (gate_count nets) c) c names are (row_is p.tracks r (view p.tracks r lt)) (column_is nets c)

-- the first condition
pub roles_agree : (c : NetList) (p : Placement) → AreNets c.nets → IsPlaced c p → DoAgree c.nets (table_on p c)
unfolding role_on
roles_agree c p are placed = record {
  named = λ r col in_rows in_cols. role_named p c.nets r col (λ k q n below e. (placed.named k q n below e).0) are in_rows;
  east = λ r col in_rows in_cols. east_in c p placed (row_of p.tracks r) col (row_is p.tracks r (view p.tracks r in_rows)) in_cols;
  south = λ r col in_rows in_cols. south_in c p placed (row_of p.tracks r) (row_of p.tracks (r + 1)) col (under_row p.tracks r (view p.tracks r (omega (arith, in_rows))) in_rows);
}
