-- What a feeder has to show: that it can fill the half, and that what it must know has a lower rank.
use Rattle.std.proofs.Common.{◌≡◌, ℕ, ◌+◌, ◌*◌, ◌<◌, ◌≤◌, ◌⊎◌, inl, inr, List, length, Option, Some, None, Bool, true, false, refl, sym, ap, subst, arith, rules, if◌then◌else◌}
use Rattle.std.specs.Prelude.{nat_lt, nat_le, IsSome}
use Rattle.std.proofs.lemmas.Option.{none-some}
use Rattle.std.proofs.lemmas.Bool.{cases_lt, lt-ltb, eqb-true, le-leb, le-ltb}
use Rattle.std.proofs.Math.Nat.{mul-le-mul_right}
use Rattle.std.proofs.lemmas.Bool.Decides.{leb_tells}
use Rattle.circuit_text.specs.declared.kinds.Net.{Net}
use Rattle.gate_layout.specs.declared.role.Role.TheVariants.{Inert, Wire, Vert, PinA, PinB, Cross, Gate}
use Rattle.gate_layout.specs.declared.parts.Column.{Column}
use Rattle.gate_layout.specs.declared.parts.Side.{Side}
use Rattle.gate_layout.specs.Nets.{gate_count}
use Rattle.gate_layout.specs.Table.{halves, gate_halves, Feeds, needs}
use Rattle.gate_layout.specs.Placed.{Placement, net_role, between_role, pin_a, pin_b, source, column_side, net_side, stride, distance, down_rank, column_rank, net_rank}

not_le : (t n : ℕ) → n < t → nat_le t n ≡ false
not_le t n lt = elim (leb_tells t n) [ inl e ↦ absurd (omega (arith, e.1, lt)) | inr e ↦ e.0 ]

-- a net is within its stride
below_stride : (p : Placement) (nets : List Net) (a b x : ℕ) → a < b → x < stride p nets → a * stride p nets + x < b * stride p nets
below_stride p nets a b x lt small =
    let m : (a + 1) * stride p nets ≤ b * stride p nets = mul-le-mul_right (stride p nets) (omega (arith, lt)) in
    let e : (a + 1) * stride p nets ≡ a * stride p nets + stride p nets = omega arith in
    omega (arith, m, e, small)

pub down_small : (p : Placement) (nets : List Net) → 2 * p.tracks + 6 * gate_count nets + 12 + 2 * p.tracks < stride p nets
unfolding stride
down_small p nets = omega arith

-- roles where the tests are known
pub vert_is : (p : Placement) (k t : ℕ) → p.track t ≤ k → Vert t ≡ between_role p k (Some t)
vert_is p k t le = ap (λ b. if b then Vert t else Inert) (sym (le-leb (p.track t) k le))

pub cross_is : (p : Placement) (k n t : ℕ) → p.track t < k → Cross n t ≡ net_role p k (Some n) (Some t)
cross_is p k n t lt = ap (λ b. if b then Cross n t else Wire n) (sym (lt-ltb (p.track t) k lt))

pub wire_is : (p : Placement) (k n t : ℕ) → k ≤ p.track t → Wire n ≡ net_role p k (Some n) (Some t)
wire_is p k n t le = ap (λ b. if b then Cross n t else Wire n) (sym (le-ltb (p.track t) k le))

pass_is : (p : Placement) (k t : ℕ) → p.track t < k → Vert t ≡ net_role p k None (Some t)
pass_is p k t lt = ap (λ b. if b then Vert t else Inert) (sym (lt-ltb (p.track t) k lt))

empty_is : (p : Placement) (k t : ℕ) → k ≤ p.track t → Inert ≡ net_role p k None (Some t)
empty_is p k t le = ap (λ b. if b then Vert t else Inert) (sym (le-ltb (p.track t) k le))

-- the half of a cell in the row of a track that belongs to the net of its column: the second one of a crossing, and
-- the only one where no net runs
abbrev pub column_half : Option ℕ → ℕ
column_half None = 0
column_half (Some n) = 1

pub half_rank : (p : Placement) (nets : List Net) (run : Option ℕ) (c : Column) (r col : ℕ) → net_rank p nets run c r col (column_half run) ≡ column_rank p nets c r
half_rank p nets None c r col = refl
half_rank p nets (Some n) c r col = refl

pub half_side : (nets : List Net) (run : Option ℕ) (c : Column) (col : ℕ) → net_side nets run c col (column_half run) ≡ Some (column_side c)
half_side nets None c col = refl
half_side nets (Some n) c col = refl

-- the pins are fed from the row above
pub a_shows : (p : Placement) (nets : List Net) (k half x y : ℕ) (o : Option ℕ) → ((t : ℕ) → o ≡ Some t → p.track t ≤ k) → x < y → half < halves nets (pin_a o)
    → Feeds (between_role p k o) (pin_a o) half × ((j : ℕ) → j < halves nets (between_role p k o) → needs (between_role p k o) (pin_a o) j ≡ true → down_rank p nets o x < down_rank p nets o y)
a_shows p nets k half x y None low lt has = absurd (omega (arith, has))
a_shows p nets k half x y (Some t) low lt has =
    subst (λ r. Feeds r (PinA t) half × ((j : ℕ) → j < halves nets r → needs r (PinA t) j ≡ true → down_rank p nets (Some t) x < down_rank p nets (Some t) y)) (vert_is p k t (low t refl)) (tt, λ j h m. omega (arith, lt))

pub b_shows : (p : Placement) (nets : List Net) (k half x y : ℕ) (o : Option ℕ) → ((t : ℕ) → o ≡ Some t → p.track t ≤ k) → x < y → half < halves nets (pin_b o)
    → Feeds (between_role p k o) (pin_b o) half × ((j : ℕ) → j < halves nets (between_role p k o) → needs (between_role p k o) (pin_b o) j ≡ true → down_rank p nets o x < down_rank p nets o y)
b_shows p nets k half x y None low lt has = absurd (omega (arith, has))
b_shows p nets k half x y (Some t) low lt has =
    subst (λ r. Feeds r (PinB t) half × ((j : ℕ) → j < halves nets r → needs r (PinB t) j ≡ true → down_rank p nets (Some t) x < down_rank p nets (Some t) y)) (vert_is p k t (low t refl)) (tt, λ j h m. omega (arith, lt))

-- a gate is fed by its pins
pub gate_a_shows : (p : Placement) (nets : List Net) (g o x : ℕ) (q : Option ℕ) → ((t : ℕ) → q ≡ Some t → t < o) → IsSome q → 2 * p.tracks + 6 * gate_count nets + 12 + x < stride p nets
    → Feeds (pin_a q) (Gate g) 0 × ((j : ℕ) → j < halves nets (pin_a q) → needs (pin_a q) (Gate g) j ≡ true → down_rank p nets q x < o * stride p nets)
gate_a_shows p nets g o x None low is small = absurd cc
gate_a_shows p nets g o x (Some t) low is small = (refl, λ j h m. below_stride p nets t o (2 * p.tracks + 6 * gate_count nets + 12 + x) (low t refl) small)

pub gate_b_shows : (p : Placement) (nets : List Net) (g o x : ℕ) (q : Option ℕ) → ((t : ℕ) → q ≡ Some t → t < o) → 1 < gate_halves q → 2 * p.tracks + 6 * gate_count nets + 12 + x < stride p nets
    → Feeds (pin_b q) (Gate g) 1 × ((j : ℕ) → j < halves nets (pin_b q) → needs (pin_b q) (Gate g) j ≡ true → down_rank p nets q x < o * stride p nets)
gate_b_shows p nets g o x None low is small = absurd (omega (arith, is))
gate_b_shows p nets g o x (Some t) low is small = (refl, λ j h m. below_stride p nets t o (2 * p.tracks + 6 * gate_count nets + 12 + x) (low t refl) small)

-- along the row of a track

row_wire : (nets : List Net) (n t : ℕ) (b : Bool) → Feeds (Wire n) (if b then Cross n t else Wire n) 0 × ((j : ℕ) → j < halves nets (Wire n) → needs (Wire n) (if b then Cross n t else Wire n) j ≡ true → j ≡ 0)
row_wire nets n t true = (refl, λ j h m. omega (arith, h))
row_wire nets n t false = (tt, λ j h m. omega (arith, h))

row_cross : (nets : List Net) (n t : ℕ) (b : Bool) → Feeds (if b then Cross n t else Wire n) (Wire n) 0 × ((j : ℕ) → j < halves nets (if b then Cross n t else Wire n) → needs (if b then Cross n t else Wire n) (Wire n) j ≡ true → j ≡ 0)
row_cross nets n t true = (tt, λ j h m. eqb-true j 0 m)
row_cross nets n t false = (tt, λ j h m. omega (arith, h))

pub row_shows : (p : Placement) (nets : List Net) (k n : ℕ) (f o : Option ℕ) → (f ≡ None) ⊎ (o ≡ None)
    → Feeds (net_role p k (Some n) f) (net_role p k (Some n) o) 0 × ((j : ℕ) → j < halves nets (net_role p k (Some n) f) → needs (net_role p k (Some n) f) (net_role p k (Some n) o) j ≡ true → j ≡ 0)
row_shows p nets k n None None one = (tt, λ j h m. omega (arith, h))
row_shows p nets k n None (Some t) one = row_wire nets n t (nat_lt (p.track t) k)
row_shows p nets k n (Some u) None one = row_cross nets n u (nat_lt (p.track u) k)
row_shows p nets k n (Some u) (Some t) one = elim one [ inl e ↦ absurd (none-some u (sym e)) | inr e ↦ absurd (none-some t (sym e)) ]

-- the net of a column comes from a track above
pub from_above : (p : Placement) (nets : List Net) (k : ℕ) (run : Option ℕ) (t : ℕ) → column_half run < halves nets (net_role p k run (Some t)) → p.track t < k
from_above p nets k None t has = elim (cases_lt (p.track t) k) [ inl lt ↦ lt | inr le ↦ absurd (let e : 0 < halves nets Inert = subst (λ r. 0 < halves nets r) (sym (empty_is p k t le)) has in omega (arith, e)) ]
from_above p nets k (Some n) t has = elim (cases_lt (p.track t) k) [ inl lt ↦ lt | inr le ↦ absurd (let e : 1 < halves nets (Wire n) = subst (λ r. 1 < halves nets r) (sym (wire_is p k n t le)) has in omega (arith, e)) ]

pub some_above : (p : Placement) (nets : List Net) (k : ℕ) (run o : Option ℕ) → column_half run < halves nets (net_role p k run o) → 0 < k
some_above p nets k run (Some t) has = omega (arith, from_above p nets k run t has)
some_above p nets k None None has = absurd (omega (arith, has))
some_above p nets k (Some n) None has = absurd (omega (arith, has))

-- a vertical cell fills that half
vert_fills : (p : Placement) (nets : List Net) (k t : ℕ) (run : Option ℕ) (R : Type 0) → p.track t < k → R
    → Feeds (Vert t) (net_role p k run (Some t)) (column_half run) × ((j : ℕ) → j < halves nets (Vert t) → needs (Vert t) (net_role p k run (Some t)) j ≡ true → R)
vert_fills p nets k t None R lt is = subst (λ r. Feeds (Vert t) r 0 × ((j : ℕ) → j < halves nets (Vert t) → needs (Vert t) r j ≡ true → R)) (pass_is p k t lt) (tt, λ j h q. is)
vert_fills p nets k t (Some n) R lt is = subst (λ r. Feeds (Vert t) r 1 × ((j : ℕ) → j < halves nets (Vert t) → needs (Vert t) r j ≡ true → R)) (cross_is p k n t lt) (refl, λ j h q. is)

-- down: from the row above
pub cross_down : (p : Placement) (nets : List Net) (m k x y : ℕ) (run o : Option ℕ) → m + 1 ≡ k → x < y → column_half run < halves nets (net_role p k run o)
    → Feeds (between_role p m o) (net_role p k run o) (column_half run) × ((j : ℕ) → j < halves nets (between_role p m o) → needs (between_role p m o) (net_role p k run o) j ≡ true → down_rank p nets o x < down_rank p nets o y)
cross_down p nets m k x y None None next lt has = absurd (omega (arith, has))
cross_down p nets m k x y (Some n) None next lt has = absurd (omega (arith, has))
cross_down p nets m k x y run (Some t) next lt has =
    let above = from_above p nets k run t has in
    subst (λ r. Feeds r (net_role p k run (Some t)) (column_half run) × ((j : ℕ) → j < halves nets r → needs r (net_role p k run (Some t)) j ≡ true → down_rank p nets (Some t) x < down_rank p nets (Some t) y))
    (vert_is p m t (omega (arith, above, next))) (vert_fills p nets k t run (down_rank p nets (Some t) x < down_rank p nets (Some t) y) above (omega (arith, lt)))

-- up: from the row below
pub cross_up : (p : Placement) (nets : List Net) (k t x y : ℕ) (run : Option ℕ) → x < y → column_half run < halves nets (net_role p k run (Some t))
    → Feeds (between_role p k (Some t)) (net_role p k run (Some t)) (column_half run) × ((j : ℕ) → j < halves nets (between_role p k (Some t)) → needs (between_role p k (Some t)) (net_role p k run (Some t)) j ≡ true → x < y)
cross_up p nets k t x y run lt has =
    let above = from_above p nets k run t has in
    subst (λ r. Feeds r (net_role p k run (Some t)) (column_half run) × ((j : ℕ) → j < halves nets r → needs r (net_role p k run (Some t)) j ≡ true → x < y))
    (vert_is p k t (omega (arith, above))) (vert_fills p nets k t run (x < y) above lt)

-- what fills a vertical cell below or above the row of a track
cross_gives : (p : Placement) (nets : List Net) (k t half : ℕ) (run : Option ℕ) → p.track t < k
    → Feeds (net_role p k run (Some t)) (Vert t) half × ((j : ℕ) → j < halves nets (net_role p k run (Some t)) → needs (net_role p k run (Some t)) (Vert t) j ≡ true → j ≡ column_half run)
cross_gives p nets k t half None lt = subst (λ r. Feeds r (Vert t) half × ((j : ℕ) → j < halves nets r → needs r (Vert t) j ≡ true → j ≡ 0)) (pass_is p k t lt) (tt, λ j h q. omega (arith, h))
cross_gives p nets k t half (Some n) lt = subst (λ r. Feeds r (Vert t) half × ((j : ℕ) → j < halves nets r → needs r (Vert t) j ≡ true → j ≡ 1)) (cross_is p k n t lt) (tt, λ j h q. eqb-true j 1 q)

-- there is a vertical cell below the row of a track
pub is_vert : (p : Placement) (nets : List Net) (k t half : ℕ) → half < halves nets (between_role p k (Some t)) → p.track t ≤ k
is_vert p nets k t half has = elim (cases_lt k (p.track t)) [
  | inl above ↦ absurd (let e : half < halves nets Inert = subst (λ b. half < halves nets (if b then Vert t else Inert)) (not_le (p.track t) k above) has in omega (arith, e))
  | inr le ↦ le
]

-- a vertical cell below the row of a track, from above
pub vert_down : (p : Placement) (nets : List Net) (k half col x y : ℕ) (run o : Option ℕ) (c : Column) → ((t : ℕ) → o ≡ Some t → p.track t ≡ k → run ≡ Some t) → x < y
    → column_rank p nets c x ≡ down_rank p nets o x → ((t : ℕ) → run ≡ Some t → distance col (source nets t) < 6 * gate_count nets + 3) → half < halves nets (between_role p k o)
    → Feeds (net_role p k run o) (between_role p k o) half × ((j : ℕ) → j < halves nets (net_role p k run o) → needs (net_role p k run o) (between_role p k o) j ≡ true → net_rank p nets run c x col j < down_rank p nets o y)
vert_down p nets k half col x y run None c own lt is near has = absurd (omega (arith, has))
vert_down p nets k half col x y run (Some t) c own lt is near has =
    let le = is_vert p nets k t half has in
    subst (λ r. Feeds (net_role p k run (Some t)) r half × ((j : ℕ) → j < halves nets (net_role p k run (Some t)) → needs (net_role p k run (Some t)) r j ≡ true → net_rank p nets run c x col j < down_rank p nets (Some t) y)) (vert_is p k t le)
    (elim (cases_lt (p.track t) k) [
      | inl below ↦
          let gives = cross_gives p nets k t half run below in
          (gives.0, λ j h q. subst (λ i. net_rank p nets run c x col i < down_rank p nets (Some t) y) (sym (gives.1 j h q)) (omega (arith, lt, is, half_rank p nets run c x col)))
      | inr same ↦
          let e : run ≡ Some t = own t refl (omega (arith, le, same)) in
          subst (λ z. Feeds (net_role p k z (Some t)) (Vert t) half × ((j : ℕ) → j < halves nets (net_role p k z (Some t)) → needs (net_role p k z (Some t)) (Vert t) j ≡ true → net_rank p nets z c x col j < down_rank p nets (Some t) y)) (sym e)
          (subst (λ r. Feeds r (Vert t) half × ((j : ℕ) → j < halves nets r → needs r (Vert t) j ≡ true → net_rank p nets (Some t) c x col j < down_rank p nets (Some t) y)) (wire_is p k t t same) (
            tt,
            λ j h q. subst (λ i. net_rank p nets (Some t) c x col i < down_rank p nets (Some t) y) (let z : j ≡ 0 = omega (arith, h) in sym z) (omega (arith, near t e)),
          ))
    ])

-- a vertical cell above the row of a track, from below
pub vert_up : (p : Placement) (nets : List Net) (k m t half : ℕ) (run : Option ℕ) → k + 1 ≡ m → half < halves nets (between_role p k (Some t))
    → Feeds (net_role p m run (Some t)) (between_role p k (Some t)) half × ((j : ℕ) → j < halves nets (net_role p m run (Some t)) → needs (net_role p m run (Some t)) (between_role p k (Some t)) j ≡ true → j ≡ column_half run)
vert_up p nets k m t half run next has =
    let le = is_vert p nets k t half has in
    subst (λ r. Feeds (net_role p m run (Some t)) r half × ((j : ℕ) → j < halves nets (net_role p m run (Some t)) → needs (net_role p m run (Some t)) r j ≡ true → j ≡ column_half run)) (vert_is p k t le)
    (cross_gives p nets m t half run (omega (arith, le, next)))

pub pin_up : (p : Placement) (nets : List Net) (k t half x y : ℕ) → x < y → half < halves nets (between_role p k (Some t))
    → Feeds (Vert t) (between_role p k (Some t)) half × ((j : ℕ) → j < halves nets (Vert t) → needs (Vert t) (between_role p k (Some t)) j ≡ true → x < y)
pin_up p nets k t half x y lt has =
    subst (λ r. Feeds (Vert t) r half × ((j : ℕ) → j < halves nets (Vert t) → needs (Vert t) r j ≡ true → x < y)) (vert_is p k t (is_vert p nets k t half has)) (tt, λ j h q. lt)
