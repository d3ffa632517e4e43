-- The last columns of nets.
use Rattle.std.proofs.Common.{◌≡◌, ℕ, zero, suc, ◌+◌, ◌*◌, ◌%◌, ◌<◌, ◌≤◌, inl, inr, List, length, Option, Some, None, Bool, true, false, refl, ap, subst, arith, if◌then◌else◌}
use Rattle.std.proofs.lemmas.Bool.{cases_eq, eqb-true, eq-eqb}
use Rattle.circuit_text.specs.declared.kinds.Net.{Net}
use Rattle.circuit_text.specs.Values.{AreNets}
use Rattle.circuit_text.specs.Circuits.{NetList}
use Rattle.gate_layout.specs.Nets.{gate_count}
use Rattle.gate_layout.specs.Placed.{column_of, column_net}
use Rattle.gate_layout.proofs.LawLemmas.{column_facts, source_facts}
use Rattle.track_layout.specs.Spans.{first, is_this, has_net, last_by, is_output, last}

pub this_is : (n : ℕ) (o : Option ℕ) → is_this n o ≡ true → o ≡ Some n
this_is n None is = absurd cc
this_is n (Some t) is = ap (λ m. Some m) (eqb-true t n is)

pub is_this_true : (n : ℕ) (o : Option ℕ) → o ≡ Some n → is_this n o ≡ true
is_this_true n None is = absurd cc
is_this_true n (Some t) is = let e : t ≡ n = cc in eq-eqb t n e

-- a last column has the net, or is 1
pub data LastView (nets : List Net) (n : ℕ) : ℕ → Type 0 where
  Alone : LastView nets n 1
  At : (col : ℕ) → 1 ≤ col → col ≤ 6 * gate_count nets → column_net nets (column_of (gate_count nets) col) ≡ Some n → LastView nets n col

by_view : (nets : List Net) (col n : ℕ) → col ≤ 6 * gate_count nets → LastView nets n (last_by nets col n)
by_view nets zero n le = Alone
by_view nets (suc col) n le = at (has_net nets (suc col) n) refl (by_view nets col n (omega (arith, le)))
  where
    at : (b : Bool) → has_net nets (suc col) n ≡ b → LastView nets n (last_by nets col n) → LastView nets n (if b then suc col else last_by nets col n)
    at true is before = At (suc col) (omega arith) le (this_is n _ is)
    at false is before = before

pub by_least : (nets : List Net) (col n i : ℕ) → column_net nets (column_of (gate_count nets) i) ≡ Some n → 1 ≤ i → i ≤ col → i ≤ last_by nets col n
by_least nets zero n i is one le = absurd (omega (arith, one, le))
by_least nets (suc col) n i is one le = at (has_net nets (suc col) n) refl (λ less. by_least nets col n i is one less)
  where
    at : (b : Bool) → has_net nets (suc col) n ≡ b → (i ≤ col → i ≤ last_by nets col n) → i ≤ (if b then suc col else last_by nets col n)
    at true e before = le
    at false e before = elim (cases_eq i (suc col)) [
      | inl same ↦ absurd (let t = is_this_true n _ (subst (λ z. column_net nets (column_of (gate_count nets) z) ≡ Some n) same is) in cc)
      | inr other ↦ before (omega (arith, le, other))
    ]

-- an output's last column is that of the table
pub data EndView (c : NetList) (n : ℕ) : ℕ → Type 0 where
  IsOutput : is_output c.outputs (length c.outputs) n ≡ true → EndView c n (6 * gate_count c.nets + 2)
  Within : (col : ℕ) → LastView c.nets n col → EndView c n col

pub end_view : (c : NetList) (n : ℕ) → EndView c n (last c n)
unfolding last
end_view c n = at (is_output c.outputs (length c.outputs) n) refl
  where
    at : (b : Bool) → is_output c.outputs (length c.outputs) n ≡ b → EndView c n (if b then 6 * gate_count c.nets + 2 else last_by c.nets (6 * gate_count c.nets) n)
    at true is = IsOutput is
    at false is = Within _ (by_view c.nets (6 * gate_count c.nets) n (omega arith))

-- the column of a net is in its span
pub last_least : (c : NetList) (n i : ℕ) → AreNets c.nets → column_net c.nets (column_of (gate_count c.nets) i) ≡ Some n → i ≤ last c n
unfolding last
last_least c n i are is = at (is_output c.outputs (length c.outputs) n)
  where
    i_in : (1 ≤ i) × (i ≤ 6 * gate_count c.nets)
    i_in = let f = column_facts c.nets i n are is in elim f.at [
      | inl e ↦ (omega (arith, e), omega (arith, e, f.within))
      | inr r ↦ elim r [ inl e ↦ (omega (arith, e), omega (arith, e, f.within)) | inr e ↦ (omega (arith, e.0), omega (arith, e.0, f.within)) ]
    ]

    at : (b : Bool) → i ≤ (if b then 6 * gate_count c.nets + 2 else last_by c.nets (6 * gate_count c.nets) n)
    at true = omega (arith, i_in.1)
    at false = by_least c.nets (6 * gate_count c.nets) n i is i_in.0 i_in.1

view_positive : (c : NetList) (n l : ℕ) → EndView c n l → 1 ≤ l
view_positive c n _ (IsOutput is) = omega arith
view_positive c n _ (Within _ Alone) = omega arith
view_positive c n _ (Within _ (At col one le is)) = one

pub last_positive : (c : NetList) (n : ℕ) → 1 ≤ last c n
last_positive c n = view_positive c n (last c n) (end_view c n)

view_within : (c : NetList) (n l : ℕ) → EndView c n l → l ≤ 6 * gate_count c.nets + 2
view_within c n _ (IsOutput is) = omega arith
view_within c n _ (Within _ Alone) = omega arith
view_within c n _ (Within _ (At col one le is)) = omega (arith, le)

pub last_within : (c : NetList) (n : ℕ) → last c n ≤ 6 * gate_count c.nets + 2
last_within c n = view_within c n (last c n) (end_view c n)

-- a net begins no later than it ends
pub first_last : (c : NetList) (n : ℕ) → AreNets c.nets → n < length c.nets → first c n ≤ last c n
first_last c n are lt = elim (source_facts c.nets n lt) [
  | inl z ↦ omega (arith, z)
  | inr g ↦ last_least c n (first c n) are g.3
]

view_at : (c : NetList) (n l i : ℕ) → EndView c n l → l ≡ suc i → 1 ≤ i → suc i ≤ 6 * gate_count c.nets → column_net c.nets (column_of (gate_count c.nets) (suc i)) ≡ Some n
view_at c n _ i (IsOutput is) e one le = absurd (omega (arith, e, le))
view_at c n _ i (Within _ Alone) e one le = absurd (omega (arith, e, one))
view_at c n _ i (Within _ (At col first within is)) e one le = subst (λ z. column_net c.nets (column_of (gate_count c.nets) z) ≡ Some n) e is

-- a net that ends at a column past the first is the column's
pub ends_at : (c : NetList) (n i : ℕ) → last c n ≡ suc i → 1 ≤ i → suc i ≤ 6 * gate_count c.nets → column_net c.nets (column_of (gate_count c.nets) (suc i)) ≡ Some n
ends_at c n i e one le = view_at c n (last c n) i (end_view c n) e one le

-- so does a net that begins there
pub begins_at : (c : NetList) (n i : ℕ) → n < length c.nets → first c n ≡ suc i → (column_net c.nets (column_of (gate_count c.nets) (suc i)) ≡ Some n) × (i % 6 ≡ 4)
begins_at c n i lt e = elim (source_facts c.nets n lt) [
  | inl z ↦ absurd (omega (arith, z, e))
  | inr g ↦ (subst (λ z. column_net c.nets (column_of (gate_count c.nets) z) ≡ Some n) e g.3, omega (arith, e, g.2))
]

pub rise_begins : (c : NetList) (n i : ℕ) → AreNets c.nets → column_net c.nets (column_of (gate_count c.nets) (suc i)) ≡ Some n → i % 6 ≡ 4 → first c n ≡ suc i
rise_begins c n i are is r = let f = column_facts c.nets (suc i) n are is in elim f.at [
  | inl e ↦ absurd (omega (arith, e, r))
  | inr o ↦ elim o [ inl e ↦ absurd (omega (arith, e, r)) | inr e ↦ e.1 ]
]
