-- The rows and columns of a layout, one after the other.
use Rattle.std.proofs.Common.{◌≡◌, ◌≢◌, ℕ, zero, suc, ◌+◌, ◌*◌, ◌/◌, ◌%◌, ◌<◌, ◌≤◌, inl, inr, List, length, Bool, true, false, refl, sym, ap, ◌∙◌, subst, arith, ◌==◌, if◌then◌else◌}
use Rattle.std.specs.Prelude.{nat_lt, ⊤}
use Rattle.std.proofs.lemmas.Bool.{cases_lt, cases_eq, ltb-true, lt-ltb, le-ltb, eq-eqb}
use Rattle.std.proofs.lemmas.Bool.Decides.{eqb_tells}
use Rattle.circuit_text.specs.declared.kinds.Net.{Net}
use Rattle.gate_layout.specs.declared.parts.Part.TheVariants.{FirstPin, Body, SecondPin, Bend, Rise, Gap}
use Rattle.gate_layout.specs.declared.parts.Column.{Column}
use Rattle.gate_layout.specs.declared.parts.Column.TheVariants.{Outside, Of}
use Rattle.gate_layout.specs.declared.parts.Row.{Row}
use Rattle.gate_layout.specs.declared.parts.Row.TheVariants.{TrackRow, Between, Pins, Bottom}
use Rattle.std.proofs.lemmas.Nat.{mod-mul-add, div-mul-add, div-add-mod', mod_below}
use Rattle.gate_layout.specs.Nets.{gate_count}
use Rattle.gate_layout.specs.Placed.{part_of, column_of, row_of}
use Rattle.gate_layout.specs.Within.{IsColumnOf, IsRowOf}

spot_east : (s cols : ℕ) → s % cols + 1 < cols → ((s + 1) / cols ≡ s / cols) × ((s + 1) % cols ≡ s % cols + 1)
spot_east s cols h =
    let e : s + 1 ≡ s / cols * cols + (s % cols + 1) = omega (arith, div-add-mod' s cols) in
    (ap (λ n. n / cols) e ∙ div-mul-add (s / cols) cols (s % cols + 1) h, ap (λ n. n % cols) e ∙ mod-mul-add (s / cols) cols (s % cols + 1) h)

pub not_same : (a b : ℕ) → a ≢ b → (a == b) ≡ false
not_same a b other = elim (eqb_tells a b) [ inl t ↦ absurd (other t.1) | inr f ↦ f.0 ]

-- a column and the next one
abbrev pub AreNext : Column → Column → Type 0
AreNext Outside Outside = ⊤
AreNext Outside (Of h FirstPin) = ⊤
AreNext (Of g FirstPin) (Of h Body) = g ≡ h
AreNext (Of g Body) (Of h SecondPin) = g ≡ h
AreNext (Of g SecondPin) (Of h Bend) = g ≡ h
AreNext (Of g Bend) (Of h Rise) = g ≡ h
AreNext (Of g Rise) (Of h Gap) = g ≡ h
AreNext (Of g Gap) (Of h FirstPin) = ⊤
AreNext (Of g Gap) Outside = ⊤
AreNext c d = ⊥

small : (j : ℕ) → j < 5 → (g h : ℕ) → g ≡ h → AreNext (Of g (part_of j)) (Of h (part_of (suc j)))
small zero lt g h e = e
small (suc zero) lt g h e = e
small (suc (suc zero)) lt g h e = e
small (suc (suc (suc zero))) lt g h e = e
small (suc (suc (suc (suc zero)))) lt g h e = e
small (suc (suc (suc (suc (suc j))))) lt g h e = absurd (omega arith)

-- the columns of a gate, one after the other
abbrev column_in : ℕ → ℕ → Bool → Column
column_in gates k b = if b then Of (k / 6) (part_of (k % 6)) else Outside

gap_at : (k : ℕ) → k % 6 ≡ 5 → part_of (k % 6) ≡ Gap
gap_at k e = ap part_of e

first_at : (k : ℕ) → k % 6 ≡ 0 → part_of (k % 6) ≡ FirstPin
first_at k e = ap part_of e

-- five columns on, or at the last of six
inner_next : (k : ℕ) → AreNext (Of (k / 6) (part_of (k % 6))) (Of ((k + 1) / 6) (part_of ((k + 1) % 6)))
inner_next k = elim (cases_lt (k % 6) 5) [
  | inl lt ↦
      let q = spot_east k 6 (omega (arith, lt)) in
      let e : (k + 1) % 6 ≡ suc (k % 6) = q.1 ∙ omega arith in
      subst (λ n. AreNext (Of (k / 6) (part_of (k % 6))) (Of ((k + 1) / 6) (part_of n))) (sym e) (small (k % 6) lt (k / 6) ((k + 1) / 6) (sym q.0))
  | inr le ↦
      let m : k % 6 ≡ 5 = omega (arith, le, mod_below k 6 (omega arith)) in
      let e : k + 1 ≡ (k / 6 + 1) * 6 + 0 = omega (arith, div-add-mod' k 6, m) in
      let z : (k + 1) % 6 ≡ 0 = ap (λ n. n % 6) e ∙ mod-mul-add (k / 6 + 1) 6 0 (omega arith) in
      subst (λ p. AreNext (Of (k / 6) p) (Of ((k + 1) / 6) (part_of ((k + 1) % 6)))) (sym (gap_at k m)) (subst (λ p. AreNext (Of (k / 6) Gap) (Of ((k + 1) / 6) p)) (sym (first_at (k + 1) z)) tt)
]

last_next : (k gates : ℕ) → k < 6 * gates → 6 * gates ≤ k + 1 → AreNext (Of (k / 6) (part_of (k % 6))) Outside
last_next k gates lt le =
    let e : k + 1 ≡ 6 * gates = omega (arith, lt, le) in
    let m : k % 6 ≡ 5 = omega (arith, e) in
    subst (λ p. AreNext (Of (k / 6) p) Outside) (sym (gap_at k m)) tt

next_in : (k gates : ℕ) (b d : Bool) → nat_lt k (6 * gates) ≡ b → nat_lt (k + 1) (6 * gates) ≡ d → AreNext (column_in gates k b) (column_in gates (k + 1) d)
next_in k gates true true is at = inner_next k
next_in k gates true false is at = last_next k gates (ltb-true k (6 * gates) is) (elim (cases_lt (k + 1) (6 * gates)) [ inl lt ↦ absurd (let e : nat_lt (k + 1) (6 * gates) ≡ true = lt-ltb (k + 1) (6 * gates) lt in cc) | inr le ↦ le ])
next_in k gates false true is at = absurd (let e : nat_lt k (6 * gates) ≡ true = lt-ltb k (6 * gates) (omega (arith, ltb-true (k + 1) (6 * gates) at)) in cc)
next_in k gates false false is at = tt

zero_next : (gates : ℕ) (b : Bool) → AreNext Outside (column_in gates 0 b)
zero_next gates true = tt
zero_next gates false = tt

pub next_column : (gates c : ℕ) → AreNext (column_of gates c) (column_of gates (c + 1))
next_column gates zero = zero_next gates (nat_lt 0 (6 * gates))
next_column gates (suc k) =
    let e : suc (k + 1) ≡ suc k + 1 = omega arith in
    subst (λ n. AreNext (column_of gates (suc k)) (column_of gates n)) e (next_in k gates (nat_lt k (6 * gates)) (nat_lt (k + 1) (6 * gates)) refl refl)

-- a row and the next one
abbrev pub AreUnder : ℕ → Row → Row → Type 0
AreUnder tracks (TrackRow n) (Between m) = n ≡ m
AreUnder tracks (Between n) (TrackRow m) = n + 1 ≡ m
AreUnder tracks (Between n) Pins = n + 1 ≡ tracks
AreUnder tracks Pins Bottom = ⊤
AreUnder tracks r s = ⊥

pub row_track : (tracks n : ℕ) → n < tracks → row_of tracks (2 * n) ≡ TrackRow n
row_track tracks n lt =
    let z : 2 * n % 2 ≡ 0 = omega arith in
    let d : 2 * n / 2 ≡ n = omega arith in
    rw (lt-ltb (2 * n) (2 * tracks) (omega (arith, lt)), z, d) refl

pub row_between : (tracks n : ℕ) → n < tracks → row_of tracks (2 * n + 1) ≡ Between n
row_between tracks n lt =
    let z : (2 * n + 1) % 2 ≡ 1 = omega arith in
    let d : (2 * n + 1) / 2 ≡ n = omega arith in
    rw (lt-ltb (2 * n + 1) (2 * tracks) (omega (arith, lt)), z, d) refl

pub row_pins : (tracks : ℕ) → row_of tracks (2 * tracks) ≡ Pins
row_pins tracks = rw (le-ltb (2 * tracks) (2 * tracks) (omega arith), eq-eqb (2 * tracks) (2 * tracks) refl) refl

pub row_bottom : (tracks : ℕ) → row_of tracks (2 * tracks + 1) ≡ Bottom
row_bottom tracks = rw (le-ltb (2 * tracks + 1) (2 * tracks) (omega arith), not_same (2 * tracks + 1) (2 * tracks) (omega arith)) refl

-- which row a number is
pub data RowView (tracks : ℕ) : ℕ → Type 0 where
  OfTrack : (n : ℕ) → n < tracks → RowView tracks (2 * n)
  Below : (n : ℕ) → n < tracks → RowView tracks (2 * n + 1)
  OfPins : RowView tracks (2 * tracks)
  Last : RowView tracks (2 * tracks + 1)

pub view : (tracks r : ℕ) → r < 2 * tracks + 2 → RowView tracks r
view tracks r lt = elim (cases_lt r (2 * tracks)) [
  | inl in_nets ↦ elim (cases_eq (r % 2) 0) [
    | inl even ↦ let e : 2 * (r / 2) ≡ r = omega (arith, even) in subst (RowView tracks) e (OfTrack (r / 2) (omega (arith, in_nets, e)))
    | inr odd ↦ let e : 2 * (r / 2) + 1 ≡ r = omega (arith, odd) in subst (RowView tracks) e (Below (r / 2) (omega (arith, in_nets, e)))
  ]
  | inr after ↦ elim (cases_eq r (2 * tracks)) [
    | inl same ↦ subst (RowView tracks) (sym same) OfPins
    | inr other ↦ let e : 2 * tracks + 1 ≡ r = omega (arith, lt, after, other) in subst (RowView tracks) e Last
  ]
]

pub under_row : (tracks r : ℕ) → RowView tracks r → r + 1 < 2 * tracks + 2 → AreUnder tracks (row_of tracks r) (row_of tracks (r + 1))
under_row tracks _ (OfTrack n lt) inside = subst (λ s. AreUnder tracks s (row_of tracks (2 * n + 1))) (sym (row_track tracks n lt)) (subst (λ s. AreUnder tracks (TrackRow n) s) (sym (row_between tracks n lt)) refl)
under_row tracks _ (Below n lt) inside = subst (λ s. AreUnder tracks s (row_of tracks (2 * n + 1 + 1))) (sym (row_between tracks n lt)) (elim (cases_eq (n + 1) tracks) [
  | inl last ↦ let e : 2 * tracks ≡ 2 * n + 1 + 1 = omega (arith, last) in subst (λ k. AreUnder tracks (Between n) (row_of tracks k)) e (subst (λ s. AreUnder tracks (Between n) s) (sym (row_pins tracks)) last)
  | inr more ↦ let e : 2 * (n + 1) ≡ 2 * n + 1 + 1 = omega arith in subst (λ k. AreUnder tracks (Between n) (row_of tracks k)) e (subst (λ s. AreUnder tracks (Between n) s) (sym (row_track tracks (n + 1) (omega (arith, lt, more)))) refl)
])
under_row tracks _ OfPins inside = subst (λ s. AreUnder tracks s (row_of tracks (2 * tracks + 1))) (sym (row_pins tracks)) (subst (λ s. AreUnder tracks Pins s) (sym (row_bottom tracks)) tt)
under_row tracks _ Last inside = absurd (omega (arith, inside))

pub row_is : (tracks r : ℕ) → RowView tracks r → IsRowOf tracks (row_of tracks r)
row_is tracks _ (OfTrack n lt) = subst (IsRowOf tracks) (sym (row_track tracks n lt)) lt
row_is tracks _ (Below n lt) = subst (IsRowOf tracks) (sym (row_between tracks n lt)) lt
row_is tracks _ OfPins = subst (IsRowOf tracks) (sym (row_pins tracks)) tt
row_is tracks _ Last = subst (IsRowOf tracks) (sym (row_bottom tracks)) tt

column_is_in : (nets : List Net) (k : ℕ) (b : Bool) → nat_lt k (6 * gate_count nets) ≡ b → IsColumnOf nets (column_in (gate_count nets) k b)
column_is_in nets k true is = omega (arith, ltb-true k (6 * gate_count nets) is)
column_is_in nets k false is = tt

pub column_is : (nets : List Net) (c : ℕ) → IsColumnOf nets (column_of (gate_count nets) c)
column_is nets zero = tt
column_is nets (suc k) = column_is_in nets k (nat_lt k (6 * gate_count nets)) refl

pub row_inside : (tracks r : ℕ) → r < 2 * tracks + 2 → IsRowOf tracks (row_of tracks r)
row_inside tracks r lt = row_is tracks r (view tracks r lt)
