-- Each half has a feeder of a lower rank, on each placement.
use Rattle.std.proofs.Common.{◌≡◌, ℕ, zero, suc, ◌+◌, ◌*◌, ◌<◌, ◌≤◌, ◌⊎◌, inl, inr, List, length, Option, Some, None, Bool, true, false, refl, sym, ap, ◌∙◌, subst, arith, rules, if◌then◌else◌}
use Rattle.std.specs.Option.{option_map}
use Rattle.std.specs.Prelude.{nat_lt}
use Rattle.std.proofs.lemmas.Bool.{cases_lt, cases_eq, lt-ltb}
use Rattle.std.proofs.lemmas.Option.{none-some}
use Rattle.circuit_text.specs.declared.kinds.Net.{Net}
use Rattle.circuit_text.specs.Values.{AreNets, input_count}
use Rattle.circuit_text.specs.Circuits.{NetList}
use Rattle.gate_layout.specs.declared.role.Role.TheVariants.{Inert, Wire, Vert, Cross}
use Rattle.gate_layout.specs.declared.parts.Part.TheVariants.{FirstPin, Body, SecondPin, Bend, Rise, Gap}
use Rattle.gate_layout.specs.declared.parts.Column.{Column}
use Rattle.gate_layout.specs.declared.parts.Column.TheVariants.{Outside, Of}
use Rattle.gate_layout.specs.declared.parts.Row.{Row}
use Rattle.gate_layout.specs.declared.parts.Row.TheVariants.{TrackRow, Between, Pins, Bottom}
use Rattle.gate_layout.specs.declared.parts.Side.{Side}
use Rattle.gate_layout.specs.declared.parts.Side.TheVariants.{North, East, South, West}
use Rattle.gate_layout.specs.Nets.{gate_count, net_of, operand_a, operand_b, input_net, AreNumbered}
use Rattle.gate_layout.specs.Table.{Spot, halves, gate_halves, Feeds, needs, AreBeside, AreFed}
use Rattle.gate_layout.specs.Placed.{Placement, IsPlaced, rows_on, col_count, column_of, row_of, column_net, net_role, between_role, pins_role, bottom_role, role_in, role_on, source, row_side, net_side, side_in, column_side, neighbour, side_on, feeder_on, stride, distance, down_rank, column_rank, net_rank, rank_in, rank_on, input_cell_on, table_on}
use Rattle.gate_layout.specs.Within.{IsColumnOf}
use Rattle.gate_layout.proofs.Gates.{gate_named, first_low, second_low, has_first, input_at, input_within}
use Rattle.gate_layout.proofs.Places.{AreNext, next_column, RowView, OfTrack, Below, OfPins, Last, view, row_track, row_between, row_pins, row_bottom, column_is}
use Rattle.gate_layout.proofs.Sources.{column_rise, SourceView, FromInput, FromGate, source_view, source_within, from_east, from_west, from_source, before_body, before_second, before_bend, before_rise, after_body, after_some, within_of}
use Rattle.gate_layout.proofs.Columns.{one_net, turn_one}
use Rattle.gate_layout.proofs.Agrees.{own_track, first_named, second_named}
use Rattle.gate_layout.proofs.Shows.{down_small, vert_is, wire_is, column_half, half_rank, half_side, a_shows, b_shows, gate_a_shows, gate_b_shows, row_shows, some_above, cross_down, cross_up, vert_down, vert_up, pin_up}

-- a cell on this side of another one
abbrev pub IsStep : Side → Spot → Spot → Type 0
IsStep North f s = (f.row + 1 ≡ s.row) × (f.col ≡ s.col)
IsStep East f s = (f.row ≡ s.row) × (f.col ≡ s.col + 1)
IsStep South f s = (f.row ≡ s.row + 1) × (f.col ≡ s.col)
IsStep West f s = (f.row ≡ s.row) × (f.col + 1 ≡ s.col)

-- a half has its feeder on the side that the layout says
pub record FedAt (p : Placement) (nets : List Net) (s : Spot) (half : ℕ) : Type 0 where
  pub side : Side
  pub from : Spot
  pub chosen : side_in p nets (row_of p.tracks s.row) (column_of (gate_count nets) s.col) s.col half ≡ Some side
  pub step : IsStep side from s
  pub within : (from.row < rows_on p) × (from.col < col_count nets)
  pub feeds : Feeds (role_on p nets from.row from.col) (role_on p nets s.row s.col) half
  pub lower : (k : ℕ) → k < halves nets (role_on p nets from.row from.col) → needs (role_on p nets from.row from.col) (role_on p nets s.row s.col) k ≡ true → rank_on p nets from.row from.col k < rank_on p nets s.row s.col half

pub same_spot : (s u : Spot) → s.row ≡ u.row → s.col ≡ u.col → s ≡ u
same_spot s u e f = λ i. record { row = e i; col = f i }

abbrev pub IsInputAt : Placement → List Net → Spot → Type 0
IsInputAt p nets s = (i : ℕ) × (i < input_count nets) × (input_cell_on p nets i ≡ s)

-- what a feeder has to show, by rows and columns
abbrev Shows : Placement → List Net → Spot → Spot → ℕ → Row → Column → Row → Column → Type 0
Shows p nets f s half fr fc sr sc =
    Feeds (role_in p nets fr fc f.col) (role_in p nets sr sc s.col) half ×
    ((k : ℕ) → k < halves nets (role_in p nets fr fc f.col) → needs (role_in p nets fr fc f.col) (role_in p nets sr sc s.col) k ≡ true → rank_in p nets fr fc f.row f.col k < rank_in p nets sr sc s.row s.col half)

fed_by : (p : Placement) (nets : List Net) (d : Side) (f s : Spot) (half : ℕ) (fr sr : Row) (fc sc : Column) → row_of p.tracks f.row ≡ fr → column_of (gate_count nets) f.col ≡ fc → row_of p.tracks s.row ≡ sr → column_of (gate_count nets) s.col ≡ sc
    → (f.row < rows_on p) × (f.col < col_count nets) → IsStep d f s → side_in p nets sr sc s.col half ≡ Some d → Shows p nets f s half fr fc sr sc → FedAt p nets s half
unfolding role_on rank_on
fed_by p nets d f s half fr sr fc sc e g h i within step chosen shows =
    let a = subst (λ x. Shows p nets f s half x fc sr sc) (sym e) shows in
    let b = subst (λ x. Shows p nets f s half (row_of p.tracks f.row) x sr sc) (sym g) a in
    let c = subst (λ x. Shows p nets f s half (row_of p.tracks f.row) (column_of (gate_count nets) f.col) x sc) (sym h) b in
    let q = subst (λ x. Shows p nets f s half (row_of p.tracks f.row) (column_of (gate_count nets) f.col) (row_of p.tracks s.row) x) (sym i) c in
    let u = subst (λ x. side_in p nets x sc s.col half ≡ Some d) (sym h) chosen in
    let o = subst (λ y. side_in p nets (row_of p.tracks s.row) y s.col half ≡ Some d) (sym i) u in
    record { side = d; from = f; chosen = o; step = step; within = within; feeds = q.0; lower = q.1 }

-- the last row
bottom_fed : (p : Placement) (nets : List Net) (col half : ℕ) (c : Column) → column_of (gate_count nets) col ≡ c → col < 6 * gate_count nets + 3 → half < halves nets (bottom_role nets c)
    → FedAt p nets (record { row = 2 * p.tracks + 1; col = col }) half
bottom_fed p nets col half (Of g Body) is lt has =
    fed_by p nets North (record { row = 2 * p.tracks; col = col }) (record { row = 2 * p.tracks + 1; col = col }) half Pins Bottom (Of g Body) (Of g Body) (row_pins p.tracks) is (row_bottom p.tracks) is
    (omega arith, lt) (omega arith, refl) refl (tt, λ k h n. omega arith)
bottom_fed p nets col half (Of g SecondPin) is lt has =
    let b = after_some (gate_count nets) col (Of g SecondPin) is (λ e. cc) in
    let f : Spot = record { row = 2 * p.tracks + 1; col = b.before } in
    let s : Spot = record { row = 2 * p.tracks + 1; col = col } in
    fed_by p nets West f s half Bottom Bottom (Of g Body) (Of g SecondPin) (row_bottom p.tracks) (before_second (column_of (gate_count nets) b.before) g b.are) (row_bottom p.tracks) is
    (omega arith, omega (arith, b.next, lt)) (refl, b.next) refl (tt, λ k h n. omega arith)
bottom_fed p nets col half (Of g Bend) is lt has =
    let b = after_some (gate_count nets) col (Of g Bend) is (λ e. cc) in
    let f : Spot = record { row = 2 * p.tracks + 1; col = b.before } in
    let s : Spot = record { row = 2 * p.tracks + 1; col = col } in
    fed_by p nets West f s half Bottom Bottom (Of g SecondPin) (Of g Bend) (row_bottom p.tracks) (before_bend (column_of (gate_count nets) b.before) g b.are) (row_bottom p.tracks) is
    (omega arith, omega (arith, b.next, lt)) (refl, b.next) refl (tt, λ k h n. omega arith)
bottom_fed p nets col half (Of g Rise) is lt has =
    let b = after_some (gate_count nets) col (Of g Rise) is (λ e. cc) in
    let f : Spot = record { row = 2 * p.tracks + 1; col = b.before } in
    let s : Spot = record { row = 2 * p.tracks + 1; col = col } in
    fed_by p nets West f s half Bottom Bottom (Of g Bend) (Of g Rise) (row_bottom p.tracks) (before_rise (column_of (gate_count nets) b.before) g b.are) (row_bottom p.tracks) is
    (omega arith, omega (arith, b.next, lt)) (refl, b.next) refl (tt, λ k h n. omega arith)
bottom_fed p nets col half c is lt has = first_of (cc, search rules)

-- the row of the pins

body_fed : (p : Placement) (nets : List Net) (col half g : ℕ) → AreNets nets → column_of (gate_count nets) col ≡ Of g Body → g < gate_count nets → col < 6 * gate_count nets + 3 → half < gate_halves (operand_b nets g)
    → FedAt p nets (record { row = 2 * p.tracks; col = col }) half
body_fed p nets col zero g are is named lt has =
    let b = after_some (gate_count nets) col (Of g Body) is (λ e. cc) in
    let f : Spot = record { row = 2 * p.tracks; col = b.before } in
    let s : Spot = record { row = 2 * p.tracks; col = col } in
    let shows = gate_a_shows p nets g (net_of nets g) (2 * p.tracks) (operand_a nets g) (λ t e. first_low nets g t are e) (has_first nets g named) (down_small p nets) in
    fed_by p nets West f s 0 Pins Pins (Of g FirstPin) (Of g Body) (row_pins p.tracks) (before_body (column_of (gate_count nets) b.before) g b.are) (row_pins p.tracks) is
    (omega arith, omega (arith, b.next, lt)) (refl, b.next) refl (shows.0, λ k h m. omega (arith, shows.1 k h m))
body_fed p nets col (suc zero) g are is named lt has =
    let f : Spot = record { row = 2 * p.tracks; col = col + 1 } in
    let s : Spot = record { row = 2 * p.tracks; col = col } in
    let a = after_body (column_of (gate_count nets) (col + 1)) g (subst (λ d. AreNext d (column_of (gate_count nets) (col + 1))) is (next_column (gate_count nets) col)) in
    let shows = gate_b_shows p nets g (net_of nets g) (2 * p.tracks) (operand_b nets g) (λ t e. second_low nets g t are e) has (down_small p nets) in
    fed_by p nets East f s 1 Pins Pins (Of g SecondPin) (Of g Body) (row_pins p.tracks) a (row_pins p.tracks) is
    (omega arith, within_of (gate_count nets) (col + 1) (Of g SecondPin) a (λ e. cc)) (refl, refl) refl (shows.0, λ k h m. omega (arith, shows.1 k h m))
body_fed p nets col (suc (suc half)) g are is named lt has = absurd (omega (arith, has, at_most_two (operand_b nets g)))
  where
    at_most_two : (o : Option ℕ) → gate_halves o ≤ 2
    at_most_two None = omega arith
    at_most_two (Some b) = omega arith

pins_fed : (c : NetList) (p : Placement) → IsPlaced c p → (m col half : ℕ) (d : Column) → AreNets c.nets → m + 1 ≡ p.tracks → column_of (gate_count c.nets) col ≡ d → IsColumnOf c.nets d → col < 6 * gate_count c.nets + 3 → half < halves c.nets (pins_role c.nets d)
    → FedAt p c.nets (record { row = 2 * p.tracks; col = col }) half
pins_fed c p placed m col half (Of g FirstPin) are last is named lt has =
    fed_by p c.nets North (record { row = 2 * m + 1; col = col }) (record { row = 2 * p.tracks; col = col }) half (Between m) Pins (Of g FirstPin) (Of g FirstPin) (row_between p.tracks m (omega (arith, last))) is (row_pins p.tracks) is
    (omega (arith, last), lt) (omega (arith, last), refl) refl
    (a_shows p c.nets m half (2 * m + 1) (2 * p.tracks) (operand_a c.nets g) (λ t e. omega (arith, placed.on t (first_named c.nets g t are named e), last)) (omega (arith, last)) has)
pins_fed c p placed m col half (Of g SecondPin) are last is named lt has =
    fed_by p c.nets North (record { row = 2 * m + 1; col = col }) (record { row = 2 * p.tracks; col = col }) half (Between m) Pins (Of g SecondPin) (Of g SecondPin) (row_between p.tracks m (omega (arith, last))) is (row_pins p.tracks) is
    (omega (arith, last), lt) (omega (arith, last), refl) refl
    (b_shows p c.nets m half (2 * m + 1) (2 * p.tracks) (operand_b c.nets g) (λ t e. omega (arith, placed.on t (second_named c.nets g t are named e), last)) (omega (arith, last)) has)
pins_fed c p placed m col half (Of g Rise) are last is named lt has =
    fed_by p c.nets South (record { row = 2 * p.tracks + 1; col = col }) (record { row = 2 * p.tracks; col = col }) half Bottom Pins (Of g Rise) (Of g Rise) (row_bottom p.tracks) is (row_pins p.tracks) is
    (omega arith, lt) (omega arith, refl) refl (tt, λ k h n. omega arith)
pins_fed c p placed m col half (Of g Body) are last is named lt has = body_fed p c.nets col half g are is named lt has
pins_fed c p placed m col half d are last is named lt has = first_of (cc, search rules)

-- the first half of a cell at which a net runs, fed from a column nearer to the source
row_fed : (p : Placement) (nets : List Net) (d : Side) (k n col near : ℕ) → k < p.tracks → p.runs k col ≡ Some n → p.runs k near ≡ Some n → near < 6 * gate_count nets + 3
    → IsStep d (record { row = 2 * k; col = near }) (record { row = 2 * k; col = col }) → row_side nets n col ≡ Some d
    → (column_net nets (column_of (gate_count nets) near) ≡ None) ⊎ (column_net nets (column_of (gate_count nets) col) ≡ None)
    → distance near (source nets n) < distance col (source nets n) → FedAt p nets (record { row = 2 * k; col = col }) 0
row_fed p nets d k n col near below here there near_lt step chosen one nearer =
    let f : Spot = record { row = 2 * k; col = near } in
    let s : Spot = record { row = 2 * k; col = col } in
    let fc = column_of (gate_count nets) near in
    let sc = column_of (gate_count nets) col in
    let shows = row_shows p nets k n (column_net nets fc) (column_net nets sc) one in
    fed_by p nets d f s 0 (TrackRow k) (TrackRow k) fc sc (row_track p.tracks k below) refl (row_track p.tracks k below) refl
    (omega (arith, below), near_lt) step (subst (λ z. net_side nets z sc col 0 ≡ Some d) (sym here) chosen)
    (subst (λ z. Feeds (net_role p k z (column_net nets fc)) (net_role p k (p.runs k col) (column_net nets sc)) 0
    × ((j : ℕ) → j < halves nets (net_role p k z (column_net nets fc)) → needs (net_role p k z (column_net nets fc)) (net_role p k (p.runs k col) (column_net nets sc)) j ≡ true → net_rank p nets z fc (2 * k) near j < net_rank p nets (p.runs k col) sc (2 * k) col 0)) (sym there)
    (subst (λ z. Feeds (net_role p k (Some n) (column_net nets fc)) (net_role p k z (column_net nets sc)) 0
    × ((j : ℕ) → j < halves nets (net_role p k (Some n) (column_net nets fc)) → needs (net_role p k (Some n) (column_net nets fc)) (net_role p k z (column_net nets sc)) j ≡ true → net_rank p nets (Some n) fc (2 * k) near j < net_rank p nets z sc (2 * k) col 0)) (sym here)
    (shows.0, λ j h m. subst (λ i. net_rank p nets (Some n) fc (2 * k) near i < net_rank p nets (Some n) sc (2 * k) col 0) (sym (shows.1 j h m)) (omega (arith, nearer)))))

-- at the source
source_fed : (c : NetList) (p : Placement) → IsPlaced c p → (k n col : ℕ) → AreNumbered c.nets → k < p.tracks → p.runs k col ≡ Some n → col < 6 * gate_count c.nets + 3 → SourceView c.nets n → col ≡ source c.nets n
    → (IsInputAt p c.nets (record { row = 2 * k; col = col }) → ⊥) → FedAt p c.nets (record { row = 2 * k; col = col }) 0
source_fed c p placed k n col own below runs lt (FromInput i is at) here other =
    let e : input_net c.nets i ≡ n = input_at c.nets n i own is in
    let t : p.track (input_net c.nets i) ≡ k = ap p.track e ∙ (placed.named k col n below runs).1 in
    let inside = input_within 0 (input_count c.nets) c.nets n i own is in
    absurd (other (i, omega (arith, inside.2), same_spot (input_cell_on p c.nets i) (record { row = 2 * k; col = col }) (omega (arith, t)) (omega (arith, here, at))))
source_fed c p placed k n col own below runs lt (FromGate g in_gates is at side) here other =
    let nets = c.nets in
    let d : column_of (gate_count nets) col ≡ Of g Rise = ap (column_of (gate_count nets)) (here ∙ at) ∙ column_rise (gate_count nets) g in_gates in
    let t : p.track n ≡ k = (placed.named k col n below runs).1 in
    fed_by p nets South (record { row = 2 * k + 1; col = col }) (record { row = 2 * k; col = col }) 0 (Between k) (TrackRow k) (Of g Rise) (Of g Rise) (row_between p.tracks k below) d (row_track p.tracks k below) d
    (omega (arith, below), lt) (omega arith, refl) (subst (λ z. net_side nets z (Of g Rise) col 0 ≡ Some South) (sym runs) (from_source nets n col here ∙ side))
    (subst (λ z. Feeds (between_role p k (Some (net_of nets g))) (net_role p k z (Some (net_of nets g))) 0 × ((j : ℕ) → j < halves nets (between_role p k (Some (net_of nets g))) → needs (between_role p k (Some (net_of nets g))) (net_role p k z (Some (net_of nets g))) j ≡ true → column_rank p nets (Of g Rise) (2 * k + 1) < net_rank p nets z (Of g Rise) (2 * k) col 0)) (sym runs)
    (subst (λ t. Feeds (between_role p k (Some t)) (net_role p k (Some n) (Some t)) 0 × ((j : ℕ) → j < halves nets (between_role p k (Some t)) → needs (between_role p k (Some t)) (net_role p k (Some n) (Some t)) j ≡ true → column_rank p nets (Of g Rise) (2 * k + 1) < net_rank p nets (Some n) (Of g Rise) (2 * k) col 0)) (sym is)
    (subst (λ r. Feeds (between_role p k (Some n)) r 0 × ((j : ℕ) → j < halves nets (between_role p k (Some n)) → needs (between_role p k (Some n)) r j ≡ true → column_rank p nets (Of g Rise) (2 * k + 1) < net_rank p nets (Some n) (Of g Rise) (2 * k) col 0)) (wire_is p k n n (omega (arith, t)))
    (subst (λ r. Feeds r (Wire n) 0 × ((j : ℕ) → j < halves nets r → needs r (Wire n) j ≡ true → column_rank p nets (Of g Rise) (2 * k + 1) < net_rank p nets (Some n) (Of g Rise) (2 * k) col 0)) (vert_is p k n (omega (arith, t)))
    (tt, λ j h q. let e : net_of nets g * stride p nets ≡ n * stride p nets = ap (λ j. j * stride p nets) is in omega (arith, e, below))))))

right_fed : (c : NetList) (p : Placement) → IsPlaced c p → (k n col : ℕ) → k < p.tracks → p.runs k col ≡ Some n → col < 6 * gate_count c.nets + 3 → source c.nets n < col → FedAt p c.nets (record { row = 2 * k; col = col }) 0
right_fed c p placed k n zero below runs lt right = absurd (omega (arith, right))
right_fed c p placed k n (suc i) below runs lt right =
    let e : i + 1 ≡ suc i = omega arith in
    row_fed p c.nets West k n (suc i) i below runs (placed.to_west k i n below (omega (arith, right)) (ap (p.runs k) e ∙ runs)) (omega (arith, lt)) (refl, e) (from_west c.nets n (suc i) right)
    (one_net c.nets (column_of (gate_count c.nets) i) (column_of (gate_count c.nets) (suc i)) (subst (λ j. AreNext (column_of (gate_count c.nets) i) (column_of (gate_count c.nets) j)) e (next_column (gate_count c.nets) i))) (omega (arith, right))

-- the first half of a cell at which a net runs
first_fed : (c : NetList) (p : Placement) → IsPlaced c p → (k n col : ℕ) → AreNumbered c.nets → k < p.tracks → p.runs k col ≡ Some n → col < 6 * gate_count c.nets + 3
    → (IsInputAt p c.nets (record { row = 2 * k; col = col }) → ⊥) → FedAt p c.nets (record { row = 2 * k; col = col }) 0
first_fed c p placed k n col own below runs lt other =
    let nets = c.nets in
    let v = source_view nets n (placed.named k col n below runs).0 in
    let w = source_within nets n v in
    elim (cases_lt col (source nets n)) [
      | inl left ↦ row_fed p nets East k n col (col + 1) below runs (placed.to_east k col n below left runs) (omega (arith, left, w)) (refl, refl) (from_east nets n col left)
          (turn_one nets (column_of (gate_count nets) col) (column_of (gate_count nets) (col + 1)) (one_net nets (column_of (gate_count nets) col) (column_of (gate_count nets) (col + 1)) (next_column (gate_count nets) col))) (omega (arith, left))
      | inr from ↦ elim (cases_eq col (source nets n)) [
        | inl here ↦ source_fed c p placed k n col own below runs lt v here other
        | inr right ↦ right_fed c p placed k n col below runs lt (omega (arith, from, right))
      ]
    ]

-- from the row above, in a column that leads down
over_fed : (p : Placement) (nets : List Net) (k col : ℕ) (c : Column) → k < p.tracks → col < 6 * gate_count nets + 3 → column_of (gate_count nets) col ≡ c → column_half (p.runs k col) < halves nets (net_role p k (p.runs k col) (column_net nets c))
    → ((r : ℕ) → column_rank p nets c r ≡ down_rank p nets (column_net nets c) r) → column_side c ≡ North → FedAt p nets (record { row = 2 * k; col = col }) (column_half (p.runs k col))
over_fed p nets zero col c below lt is has down side = absurd (let e = some_above p nets 0 (p.runs 0 col) (column_net nets c) has in omega (arith, e))
over_fed p nets (suc m) col c below lt is has down side =
    let next : m + 1 ≡ suc m = omega arith in
    let run = p.runs (suc m) col in
    let d = cross_down p nets m (suc m) (2 * m + 1) (2 * suc m) run (column_net nets c) next (omega arith) has in
    fed_by p nets North (record { row = 2 * m + 1; col = col }) (record { row = 2 * suc m; col = col }) (column_half run) (Between m) (TrackRow (suc m)) c c (row_between p.tracks m (omega (arith, below))) is (row_track p.tracks (suc m) below) is
    (omega (arith, below), lt) (omega arith, refl) (half_side nets run c col ∙ ap (λ x. Some x) side)
    (d.0, λ j h q. let l = d.1 j h q in omega (arith, l, down (2 * m + 1), down (2 * suc m), half_rank p nets run c (2 * suc m) col))

under_fed : (c : NetList) (p : Placement) → IsPlaced c p → (k col half : ℕ) (d : Column) → k < p.tracks → col < 6 * gate_count c.nets + 3 → column_of (gate_count c.nets) col ≡ d → half < halves c.nets (between_role p k (column_net c.nets d))
    → ((r : ℕ) → column_rank p c.nets d r ≡ down_rank p c.nets (column_net c.nets d) r) → column_side d ≡ North → FedAt p c.nets (record { row = 2 * k + 1; col = col }) half
under_fed c p placed k col half d below lt is has down side =
    let nets = c.nets in
    let run = p.runs k col in
    let e = vert_down p nets k half col (2 * k) (2 * k + 1) run (column_net nets d) d (λ t u v. own_track c p placed k col t (ap (column_net nets) is ∙ u) v) (omega arith) (down (2 * k))
    (λ t u. let w = source_within nets t (source_view nets t (placed.named k col t below u).0) in omega (arith, w, lt)) has in
    fed_by p nets North (record { row = 2 * k; col = col }) (record { row = 2 * k + 1; col = col }) half (TrackRow k) (Between k) d d (row_track p.tracks k below) is (row_between p.tracks k below) is
    (omega (arith, below), lt) (omega arith, refl) (ap (λ x. Some x) side)
    (e.0, λ j h q. let l = e.1 j h q in omega (arith, l, down (2 * k + 1)))

-- the half that belongs to the net of the column
second_fed : (p : Placement) (nets : List Net) (k col : ℕ) (c : Column) → k < p.tracks → col < 6 * gate_count nets + 3 → column_of (gate_count nets) col ≡ c → column_half (p.runs k col) < halves nets (net_role p k (p.runs k col) (column_net nets c))
    → FedAt p nets (record { row = 2 * k; col = col }) (column_half (p.runs k col))
second_fed p nets k col (Of g Rise) below lt is has =
    let run = p.runs k col in
    let d = cross_up p nets k (net_of nets g) (column_rank p nets (Of g Rise) (2 * k + 1)) (column_rank p nets (Of g Rise) (2 * k)) run (omega (arith, below)) has in
    fed_by p nets South (record { row = 2 * k + 1; col = col }) (record { row = 2 * k; col = col }) (column_half run) (Between k) (TrackRow k) (Of g Rise) (Of g Rise) (row_between p.tracks k below) is (row_track p.tracks k below) is
    (omega (arith, below), lt) (omega arith, refl) (half_side nets run (Of g Rise) col)
    (d.0, λ j h q. let l = d.1 j h q in omega (arith, l, half_rank p nets run (Of g Rise) (2 * k) col))
second_fed p nets k col (Of g FirstPin) below lt is has = over_fed p nets k col (Of g FirstPin) below lt is has (λ r. refl) refl
second_fed p nets k col (Of g SecondPin) below lt is has = over_fed p nets k col (Of g SecondPin) below lt is has (λ r. refl) refl
second_fed p nets k col Outside below lt is has = over_fed p nets k col Outside below lt is has (λ r. refl) refl
second_fed p nets k col (Of g Body) below lt is has = over_fed p nets k col (Of g Body) below lt is has (λ r. refl) refl
second_fed p nets k col (Of g Bend) below lt is has = over_fed p nets k col (Of g Bend) below lt is has (λ r. refl) refl
second_fed p nets k col (Of g Gap) below lt is has = over_fed p nets k col (Of g Gap) below lt is has (λ r. refl) refl

-- a cell between the rows of tracks
between_fed : (c : NetList) (p : Placement) → IsPlaced c p → (k col half : ℕ) (d : Column) → k < p.tracks → col < 6 * gate_count c.nets + 3 → column_of (gate_count c.nets) col ≡ d → half < halves c.nets (between_role p k (column_net c.nets d))
    → FedAt p c.nets (record { row = 2 * k + 1; col = col }) half
between_fed c p placed k col half (Of g FirstPin) below lt is has = under_fed c p placed k col half (Of g FirstPin) below lt is has (λ r. refl) refl
between_fed c p placed k col half (Of g SecondPin) below lt is has = under_fed c p placed k col half (Of g SecondPin) below lt is has (λ r. refl) refl
between_fed c p placed k col half (Of g Rise) below lt is has = elim (cases_eq (k + 1) p.tracks) [
  | inl last ↦
      fed_by p c.nets South (record { row = 2 * p.tracks; col = col }) (record { row = 2 * k + 1; col = col }) half Pins (Between k) (Of g Rise) (Of g Rise) (row_pins p.tracks) is (row_between p.tracks k below) is
      (omega arith, lt) (omega (arith, last), refl) refl (pin_up p c.nets k (net_of c.nets g) half _ _ (omega (arith, below)) has)
  | inr more ↦
      let run = p.runs (k + 1) col in
      let u = vert_up p c.nets k (k + 1) (net_of c.nets g) half run refl has in
      fed_by p c.nets South (record { row = 2 * (k + 1); col = col }) (record { row = 2 * k + 1; col = col }) half (TrackRow (k + 1)) (Between k) (Of g Rise) (Of g Rise) (row_track p.tracks (k + 1) (omega (arith, below, more))) is (row_between p.tracks k below) is
      (omega (arith, below, more), lt) (omega arith, refl) refl
      (u.0, λ j h q. subst (λ i. net_rank p c.nets run (Of g Rise) (2 * (k + 1)) col i < column_rank p c.nets (Of g Rise) (2 * k + 1)) (sym (u.1 j h q)) (omega (arith, below, more, half_rank p c.nets run (Of g Rise) (2 * (k + 1)) col)))
]
between_fed c p placed k col half d below lt is has = absurd (omega (arith, has))

-- which half of a cell in the row of a track
few_halves_in : (nets : List Net) (n t half : ℕ) (b : Bool) → half < halves nets (if b then Cross n t else Wire n) → half < 2
few_halves_in nets n t half true has = has
few_halves_in nets n t half false has = omega (arith, has)

one_half_in : (p : Placement) (nets : List Net) (k t half : ℕ) → half < halves nets (net_role p k None (Some t)) → half ≡ 0
one_half_in p nets k t half has = by (nat_lt (p.track t) k) refl
  where
    by : (b : Bool) → nat_lt (p.track t) k ≡ b → half ≡ 0
    by b e = at b (subst (λ z. half < halves nets (if z then Vert t else Inert)) e has)
      where
        at : (b : Bool) → half < halves nets (if b then Vert t else Inert) → half ≡ 0
        at true h = omega (arith, h)
        at false h = omega (arith, h)

pub one_half : (p : Placement) (nets : List Net) (k half : ℕ) (o : Option ℕ) → half < halves nets (net_role p k None o) → half ≡ 0
one_half p nets k half None has = absurd (omega (arith, has))
one_half p nets k half (Some t) has = one_half_in p nets k t half has

few_halves : (p : Placement) (nets : List Net) (k n half : ℕ) (o : Option ℕ) → half < halves nets (net_role p k (Some n) o) → half < 2
few_halves p nets k n half None has = omega (arith, has)
few_halves p nets k n half (Some t) has = few_halves_in nets n t half (nat_lt (p.track t) k) has

net_fed : (c : NetList) (p : Placement) → IsPlaced c p → (k col half : ℕ) → AreNumbered c.nets → k < p.tracks → col < 6 * gate_count c.nets + 3
    → half < halves c.nets (net_role p k (p.runs k col) (column_net c.nets (column_of (gate_count c.nets) col)))
    → (IsInputAt p c.nets (record { row = 2 * k; col = col }) → ⊥) → FedAt p c.nets (record { row = 2 * k; col = col }) half
net_fed c p placed k col half own below lt has other = by (p.runs k col) refl half has
  where
    o : Option ℕ
    o = column_net c.nets (column_of (gate_count c.nets) col)

    the_half : (run : Option ℕ) → p.runs k col ≡ run → (half : ℕ) → half ≡ column_half run → half < halves c.nets (net_role p k run o) → FedAt p c.nets (record { row = 2 * k; col = col }) half
    the_half run is half e h =
        let f : half ≡ column_half (p.runs k col) = e ∙ ap column_half (sym is) in
        let g : half < halves c.nets (net_role p k (p.runs k col) o) = subst (λ z. half < halves c.nets (net_role p k z o)) (sym is) h in
        subst (FedAt p c.nets (record { row = 2 * k; col = col })) (sym f) (second_fed p c.nets k col (column_of (gate_count c.nets) col) below lt refl (subst (λ z. z < halves c.nets (net_role p k (p.runs k col) o)) f g))

    by : (run : Option ℕ) → p.runs k col ≡ run → (half : ℕ) → half < halves c.nets (net_role p k (p.runs k col) o) → FedAt p c.nets (record { row = 2 * k; col = col }) half
    by None is half h =
        let g = subst (λ z. half < halves c.nets (net_role p k z o)) is h in
        the_half None is half (one_half p c.nets k half o g) g
    by (Some n) is zero h = first_fed c p placed k n col own below is lt other
    by (Some n) is (suc zero) h = the_half (Some n) is 1 refl (subst (λ z. 1 < halves c.nets (net_role p k z o)) is h)
    by (Some n) is (suc (suc half)) h = absurd (let g = few_halves p c.nets k n (suc (suc half)) o (subst (λ z. suc (suc half) < halves c.nets (net_role p k z o)) is h) in omega (arith, g))

-- tracks are there where a column has a part
pub some_tracks : (p : Placement) (nets : List Net) → (0 < length nets → 0 < p.tracks) → (c : Column) (half : ℕ) → IsColumnOf nets c → half < halves nets (pins_role nets c) → 0 < p.tracks
some_tracks p nets some (Of g q) half named has = some (let l = gate_named nets g named in omega (arith, l))
some_tracks p nets some Outside half named has = absurd (omega (arith, has))

before_number : (n : ℕ) → 0 < n → (m : ℕ) × (m + 1 ≡ n)
before_number zero lt = absurd (omega (arith, lt))
before_number (suc m) lt = (m, omega arith)

fed_at : (c : NetList) (p : Placement) → IsPlaced c p → (r col half : ℕ) → RowView p.tracks r → AreNets c.nets → AreNumbered c.nets → col < 6 * gate_count c.nets + 3
    → half < halves c.nets (role_in p c.nets (row_of p.tracks r) (column_of (gate_count c.nets) col) col) → (IsInputAt p c.nets (record { row = r; col = col }) → ⊥)
    → FedAt p c.nets (record { row = r; col = col }) half
fed_at c p placed _ col half (OfTrack k below) are own lt has other =
    net_fed c p placed k col half own below lt (subst (λ x. half < halves c.nets (role_in p c.nets x (column_of (gate_count c.nets) col) col)) (row_track p.tracks k below) has) other
fed_at c p placed _ col half (Below k below) are own lt has other =
    between_fed c p placed k col half (column_of (gate_count c.nets) col) below lt refl (subst (λ x. half < halves c.nets (role_in p c.nets x (column_of (gate_count c.nets) col) col)) (row_between p.tracks k below) has)
fed_at c p placed _ col half OfPins are own lt has other =
    let h : half < halves c.nets (pins_role c.nets (column_of (gate_count c.nets) col)) = subst (λ x. half < halves c.nets (role_in p c.nets x (column_of (gate_count c.nets) col) col)) (row_pins p.tracks) has in
    let m = before_number p.tracks (some_tracks p c.nets (λ some. let l = placed.on 0 some in omega (arith, l)) (column_of (gate_count c.nets) col) half (column_is c.nets col) h) in
    pins_fed c p placed m.0 col half (column_of (gate_count c.nets) col) are m.1 refl (column_is c.nets col) lt h
fed_at c p placed _ col half Last are own lt has other =
    bottom_fed p c.nets col half (column_of (gate_count c.nets) col) refl lt (subst (λ x. half < halves c.nets (role_in p c.nets x (column_of (gate_count c.nets) col) col)) (row_bottom p.tracks) has)

pub has_feeder : (c : NetList) (p : Placement) → IsPlaced c p → (s : Spot) (half : ℕ) → AreNets c.nets → AreNumbered c.nets → (s.row < rows_on p) × (s.col < col_count c.nets) → half < halves c.nets (role_on p c.nets s.row s.col) → (IsInputAt p c.nets s → ⊥) → FedAt p c.nets s half
unfolding role_on
has_feeder c p placed s half are own within has other = fed_at c p placed s.row s.col half (view p.tracks s.row within.0) are own within.1 has other

-- what is on a side of a cell is its neighbour there
is_neighbour : (d : Side) (f s : Spot) → IsStep d f s → neighbour s.row s.col d ≡ f
is_neighbour North f s step = same_spot _ f (omega (arith, step.0)) (sym step.1)
is_neighbour East f s step = same_spot _ f (sym step.0) (sym step.1)
is_neighbour South f s step = same_spot _ f (sym step.0) (sym step.1)
is_neighbour West f s step = same_spot _ f (sym step.0) (omega (arith, step.1))

are_beside : (d : Side) (f s : Spot) → IsStep d f s → AreBeside f s
are_beside North f s step = inr (step.1, inl step.0)
are_beside East f s step = inl (step.0, inr (sym step.1))
are_beside South f s step = inr (step.1, inr (sym step.0))
are_beside West f s step = inl (step.0, inl step.1)

feeder_is : (p : Placement) (nets : List Net) (s : Spot) (half : ℕ) → half < halves nets (role_on p nets s.row s.col) → (fed : FedAt p nets s half) → feeder_on p nets s.row s.col half ≡ Some fed.from
unfolding feeder_on
feeder_is p nets s half has fed =
    let chosen : side_on p nets s.row s.col half ≡ Some fed.side = ap (λ b. if b then side_in p nets (row_of p.tracks s.row) (column_of (gate_count nets) s.col) s.col half else None) (lt-ltb half (halves nets (role_on p nets s.row s.col)) has) ∙ fed.chosen in
    ap (option_map (neighbour s.row s.col)) chosen ∙ ap (λ x. Some x) (is_neighbour fed.side fed.from s fed.step)

-- the third condition
pub halves_are_fed : (c : NetList) (p : Placement) → AreNets c.nets → AreNumbered c.nets → IsPlaced c p → AreFed c.nets (table_on p c)
halves_are_fed c p are own placed s half within has other =
    let fed = has_feeder c p placed s half are own within has other in
    record {
      from = fed.from;
      is = feeder_is p c.nets s half has fed;
      within = fed.within;
      beside = are_beside fed.side fed.from s fed.step;
      feeds = fed.feeds;
      lower = fed.lower;
    }
