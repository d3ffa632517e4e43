-- A cell that a rule fills is right.
use Rattle.std.proofs.Common.{◌≡◌, ℕ, List, Option, Some, None, Bool, false, refl, sym, ap, ◌∙◌, subst, rules}
use Rattle.std.specs.Prelude.{slice_get, ⊤}
use Rattle.circuit_text.specs.declared.kinds.GateOp.{GateOp}
use Rattle.circuit_text.specs.declared.kinds.Net.{Net}
use Rattle.circuit_text.specs.declared.kinds.Net.TheVariants as net
use Rattle.gate_layout.specs.declared.role.Role.{Role}
use Rattle.gate_layout.specs.declared.role.Role.TheVariants as role
use Rattle.circuit_text.specs.Values.{operate, bit, net_value, AreValues}
use Rattle.crn_compile.specs.Cells.{Neither, First, Second, Cell, Inert, Wire, Vert, PinA, PinB, Cross, Single, Pair, Done, from_wire, from_vert, from_cross, from_first, from_second, from_gate, filled, Carries, IsRightGate, IsRight}
use Rattle.std.proofs.lemmas.Option.{none-some, same_Some}
use Rattle.gate_layout.specs.Nets.{net_of, a_of, b_of}
use Rattle.gate_layout.specs.Table.{Agree}

-- a bit that was the value of a net is the value of an equal net
along : (values : List Bool) (f d : Bool) (m n : ℕ) → f ≡ d → d ≡ bit values m → m ≡ n → f ≡ bit values n
along values f d m n e is agree = e ∙ is ∙ ap (bit values) agree

wire_fills : (nets : List Net) (values : List Bool) (m : ℕ) (d : Bool) → d ≡ bit values m
    → (y : Cell) (b : Role) (z : Cell) → Agree nets (role.Wire m) b → IsRight nets values b y → from_wire d y ≡ Some z → IsRight nets values b z
wire_fills nets values m d is (Wire None) (role.Wire n) (Wire (Some f)) agree right fills = along values f d m n (cc) is agree
wire_fills nets values m d is (Vert None) (role.Vert n) (Vert (Some f)) agree right fills = along values f d m n (cc) is agree
wire_fills nets values m d is (Cross None k) (role.Cross n c) (Cross (Some f) l) agree right fills = let e : k ≡ l = cc in (along values f d m n (cc) is agree, subst (λ o. Carries o (bit values c)) e right.1)
wire_fills nets values m d is y b z agree right fills = first_of (cc, search rules)

vert_fills : (nets : List Net) (values : List Bool) (m : ℕ) (d : Bool) → d ≡ bit values m
    → (y : Cell) (b : Role) (z : Cell) → Agree nets (role.Vert m) b → IsRight nets values b y → from_vert d y ≡ Some z → IsRight nets values b z
vert_fills nets values m d is (Wire None) (role.Wire n) (Wire (Some f)) agree right fills = along values f d m n (cc) is agree
vert_fills nets values m d is (Vert None) (role.Vert n) (Vert (Some f)) agree right fills = along values f d m n (cc) is agree
vert_fills nets values m d is (PinA None) (role.PinA n) (PinA (Some f)) agree right fills = along values f d m n (cc) is agree
vert_fills nets values m d is (PinB None) (role.PinB n) (PinB (Some f)) agree right fills = along values f d m n (cc) is agree
vert_fills nets values m d is (Cross h None) (role.Cross c n) (Cross l (Some f)) agree right fills = let e : h ≡ l = cc in (subst (λ o. Carries o (bit values c)) e right.0, along values f d m n (cc) is agree)
vert_fills nets values m d is y b z agree right fills = first_of (cc, search rules)

row_fills : (nets : List Net) (values : List Bool) (m c : ℕ) (d : Bool) → d ≡ bit values m
    → (b : Role) (z : Cell) → Agree nets (role.Cross m c) b → IsRight nets values b (Wire None) → Some (Wire (Some d)) ≡ Some z → IsRight nets values b z
row_fills nets values m c d is (role.Wire n) (Wire (Some f)) agree right fills = along values f d m n (cc) is (sym agree)
row_fills nets values m c d is b z agree right fills = first_of (cc, search rules)

col_fills : (nets : List Net) (values : List Bool) (m c : ℕ) (d : Bool) → d ≡ bit values c
    → (b : Role) (z : Cell) → Agree nets (role.Cross m c) b → IsRight nets values b (Vert None) → Some (Vert (Some d)) ≡ Some z → IsRight nets values b z
col_fills nets values m c d is (role.Vert n) (Vert (Some f)) agree right fills = along values f d c n (cc) is (sym agree)
col_fills nets values m c d is b z agree right fills = first_of (cc, search rules)

cross_fills : (nets : List Net) (values : List Bool) (m c : ℕ) (h k : Option Bool) → Carries h (bit values m) → Carries k (bit values c)
    → (y : Cell) (b : Role) (z : Cell) → Agree nets (role.Cross m c) b → IsRight nets values b y → from_cross h k y ≡ Some z → IsRight nets values b z
cross_fills nets values m c (Some d) k is also (Wire None) b z agree right fills = row_fills nets values m c d is b z agree right fills
cross_fills nets values m c h (Some d) is also (Vert None) b z agree right fills = col_fills nets values m c d also b z agree right fills
cross_fills nets values m c h k is also y b z agree right fills = first_of (cc, search rules)

gate_fills : (nets : List Net) (values : List Bool) (g : ℕ) (d : Bool) → d ≡ bit values (net_of nets g)
    → (y : Cell) (b : Role) (z : Cell) → Agree nets (role.Gate g) b → IsRight nets values b y → from_gate d y ≡ Some z → IsRight nets values b z
gate_fills nets values g d is (Wire None) (role.Wire n) (Wire (Some f)) agree right fills = along values f d (net_of nets g) n (cc) is (sym agree)
gate_fills nets values g d is y b z agree right fills = first_of (cc, search rules)

-- the net is the first operand of a gate, or the second
abbrev IsFirst : ℕ → Option Net → Type 0
IsFirst n (Some (net.Gate op a b)) = n ≡ a
IsFirst n other = ⊥

abbrev IsSecond : ℕ → Option Net → Type 0
IsSecond n (Some (net.Gate op a (Some b))) = n ≡ b
IsSecond n other = ⊥

first_is : (m : ℕ) (o : Option Net) → a_of o ≡ Some m → IsFirst m o
first_is m (Some (net.Gate op a b)) h = sym (same_Some a m h)
first_is m (Some (net.Input k)) h = absurd (none-some m h)
first_is m None h = absurd (none-some m h)

second_is : (m : ℕ) (o : Option Net) → b_of o ≡ Some m → IsSecond m o
second_is m (Some (net.Gate op a (Some b))) h = sym (same_Some b m h)
second_is m (Some (net.Gate op a None)) h = absurd (none-some m h)
second_is m (Some (net.Input k)) h = absurd (none-some m h)
second_is m None h = absurd (none-some m h)

-- a one-operand gate is done
single_done : (inputs values : List Bool) (n : ℕ) (op p : GateOp) (a m : ℕ) (d f : Bool) → bit values n ≡ net_value inputs values (net.Gate op a None)
    → d ≡ bit values m → m ≡ a → p ≡ op → operate p d false ≡ f → f ≡ bit values n
single_done inputs values n op p a m d f law is agree same made = let e : operate p d false ≡ operate op (bit values a) false = cc in cc

-- a two-operand gate is done
pair_done : (inputs values : List Bool) (n : ℕ) (op p : GateOp) (a b : ℕ) (d e f : Bool) → bit values n ≡ net_value inputs values (net.Gate op a (Some b))
    → d ≡ bit values a → e ≡ bit values b → p ≡ op → operate p d e ≡ f → f ≡ bit values n
pair_done inputs values n op p a b d e f law is also same made = let g : operate p d e ≡ operate op (bit values a) (bit values b) = cc in cc

first_gate : (inputs values : List Bool) (n : ℕ) (o : Option Net) → ((x : Net) → o ≡ Some x → bit values n ≡ net_value inputs values x) → (m : ℕ) (d : Bool) → d ≡ bit values m
    → (y z : Cell) → IsFirst m o → IsRightGate values n o y → from_first d y ≡ Some z → IsRightGate values n o z
first_gate inputs values n (Some (net.Gate op a None)) law m d is (Single p) (Done f) agree right fills = single_done inputs values n op p a m d f (law _ refl) is agree right (cc)
first_gate inputs values n (Some (net.Gate op a (Some b))) law m d is (Pair p Neither) (Pair q (First f)) agree right fills = let e : p ≡ q = cc in (sym e ∙ right.0, along values f d m a (cc) is agree)
first_gate inputs values n (Some (net.Gate op a (Some b))) law m d is (Pair p (Second e)) (Done f) agree right fills = pair_done inputs values n op p a b d e f (law _ refl) (is ∙ ap (bit values) agree) right.1 right.0 (cc)
first_gate inputs values n o law m d is y z agree right fills = first_of (cc, search rules)

second_gate : (inputs values : List Bool) (n : ℕ) (o : Option Net) → ((x : Net) → o ≡ Some x → bit values n ≡ net_value inputs values x) → (m : ℕ) (d : Bool) → d ≡ bit values m
    → (y z : Cell) → IsSecond m o → IsRightGate values n o y → from_second d y ≡ Some z → IsRightGate values n o z
second_gate inputs values n (Some (net.Gate op a (Some b))) law m d is (Pair p Neither) (Pair q (Second f)) agree right fills = let e : p ≡ q = cc in (sym e ∙ right.0, along values f d m b (cc) is agree)
second_gate inputs values n (Some (net.Gate op a (Some b))) law m d is (Pair p (First e)) (Done f) agree right fills = pair_done inputs values n op p a b e d f (law _ refl) right.1 (is ∙ ap (bit values) agree) right.0 (cc)
second_gate inputs values n o law m d is y z agree right fills = first_of (cc, search rules)

first_fills : (nets : List Net) (inputs values : List Bool) → AreValues nets inputs values → (m : ℕ) (d : Bool) → d ≡ bit values m
    → (y : Cell) (b : Role) (z : Cell) → Agree nets (role.PinA m) b → IsRight nets values b y → from_first d y ≡ Some z → IsRight nets values b z
first_fills nets inputs values vals m d is y (role.Gate g) z agree right fills = first_gate inputs values (net_of nets g) (slice_get nets (net_of nets g)) (vals.each (net_of nets g)) m d is y z (first_is m (slice_get nets (net_of nets g)) agree) right fills
first_fills nets inputs values vals m d is y b z agree right fills = first_of (cc, search rules)

second_fills : (nets : List Net) (inputs values : List Bool) → AreValues nets inputs values → (m : ℕ) (d : Bool) → d ≡ bit values m
    → (y : Cell) (b : Role) (z : Cell) → Agree nets (role.PinB m) b → IsRight nets values b y → from_second d y ≡ Some z → IsRight nets values b z
second_fills nets inputs values vals m d is y (role.Gate g) z agree right fills = second_gate inputs values (net_of nets g) (slice_get nets (net_of nets g)) (vals.each (net_of nets g)) m d is y z (second_is m (slice_get nets (net_of nets g)) agree) right fills
second_fills nets inputs values vals m d is y b z agree right fills = first_of (cc, search rules)

-- a done gate has its net's value
done_is : (values : List Bool) (n : ℕ) (o : Option Net) (d : Bool) → IsRightGate values n o (Done d) → d ≡ bit values n
done_is values n (Some (net.Gate op a None)) d right = right
done_is values n (Some (net.Gate op a (Some b))) d right = right
done_is values n o d right = first_of (cc, search rules)

-- a cell of a gate's kind
abbrev pub IsGateCell : Cell → Type 0
IsGateCell (Single op) = ⊤
IsGateCell (Pair op known) = ⊤
IsGateCell (Done d) = ⊤
IsGateCell x = ⊥

pub gate_cell : (values : List Bool) (n : ℕ) (o : Option Net) (x : Cell) → IsRightGate values n o x → IsGateCell x
gate_cell values n (Some (net.Gate op a None)) (Single p) right = tt
gate_cell values n (Some (net.Gate op a (Some b))) (Pair p known) right = tt
gate_cell values n (Some (net.Gate op a None)) (Done d) right = tt
gate_cell values n (Some (net.Gate op a (Some b))) (Done d) right = tt
gate_cell values n o x right = first_of (cc, search rules)

gate_source : (nets : List Net) (values : List Bool) (g : ℕ) (b : Role) (x y z : Cell) → IsGateCell x
    → Agree nets (role.Gate g) b → IsRight nets values (role.Gate g) x → IsRight nets values b y → filled x y ≡ Some z → IsRight nets values b z
gate_source nets values g b (Done d) y z kind agree it right fills = gate_fills nets values g d (done_is values (net_of nets g) (slice_get nets (net_of nets g)) d it) y b z agree right fills
gate_source nets values g b x y z kind agree it right fills = first_of (cc, search rules)

-- what a rule makes of a right cell beside a right cell is right
pub filled_right : (nets : List Net) (inputs values : List Bool) → AreValues nets inputs values
    → (a b : Role) (x y z : Cell) → Agree nets a b → IsRight nets values a x → IsRight nets values b y → filled x y ≡ Some z → IsRight nets values b z
filled_right nets inputs values vals (role.Wire m) b (Wire (Some d)) y z agree it right fills = wire_fills nets values m d it y b z agree right fills
filled_right nets inputs values vals (role.Vert m) b (Vert (Some d)) y z agree it right fills = vert_fills nets values m d it y b z agree right fills
filled_right nets inputs values vals (role.Cross m c) b (Cross h k) y z agree it right fills = cross_fills nets values m c h k it.0 it.1 y b z agree right fills
filled_right nets inputs values vals (role.PinA m) b (PinA (Some d)) y z agree it right fills = first_fills nets inputs values vals m d it y b z agree right fills
filled_right nets inputs values vals (role.PinB m) b (PinB (Some d)) y z agree it right fills = second_fills nets inputs values vals m d it y b z agree right fills
filled_right nets inputs values vals (role.Gate g) b x y z agree it right fills = gate_source nets values g b x y z (gate_cell values (net_of nets g) (slice_get nets (net_of nets g)) x it) agree it right fills
filled_right nets inputs values vals role.Inert b Inert y z agree it right fills = cc
filled_right nets inputs values vals a b x y z agree it right fills = first_of (cc, search rules)
