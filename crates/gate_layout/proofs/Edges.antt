-- Where a feeder lies within the table, and where there is none.
use Rattle.std.proofs.Common.{◌≡◌, ℕ, zero, suc, ◌*◌, ◌<◌, ◌≤◌, ◌⊎◌, inl, inr, List, length, Option, Some, None, Bool, true, false, refl, sym, ap, ◌∙◌, subst, arith, if◌then◌else◌}
use Rattle.std.specs.Option.{option_map}
use Rattle.std.specs.Prelude.{slice_get, nat_lt}
use Rattle.std.proofs.lemmas.Option.{none-some, slice_get_within}
use Rattle.std.proofs.lemmas.Bool.{cases_lt, lt-ltb, le-ltb}
use Rattle.circuit_text.specs.declared.kinds.Net.{Net}
use Rattle.circuit_text.specs.declared.kinds.Net.TheVariants as net
use Rattle.circuit_text.specs.Values.{input_count}
use Rattle.circuit_text.specs.Circuits.{NetList}
use Rattle.gate_layout.specs.declared.parts.Column.TheVariants.{Outside}
use Rattle.gate_layout.specs.declared.parts.Row.{Row}
use Rattle.gate_layout.specs.declared.parts.Row.TheVariants.{TrackRow, Between, Pins, Bottom}
use Rattle.gate_layout.specs.declared.parts.Side.{Side}
use Rattle.gate_layout.specs.declared.parts.Side.TheVariants.{North, East, South, West}
use Rattle.gate_layout.specs.Nets.{gate_count, input_net, AreNumbered}
use Rattle.gate_layout.specs.Table.{Spot, halves}
use Rattle.gate_layout.specs.Placed.{Placement, IsPlaced, rows_on, column_of, row_of, column_net, column_side, net_role, role_in, role_on, source_in, source, source_side, row_side, net_side, side_in, neighbour, side_on, feeder_on, input_cell_on}
use Rattle.gate_layout.proofs.Gates.{input_at, input_has, input_within}
use Rattle.gate_layout.proofs.Ends.{input_runs, wire_first}
use Rattle.gate_layout.proofs.Places.{RowView, OfTrack, Below, OfPins, Last, view, row_track, row_between, row_pins, row_bottom, column_is}
use Rattle.gate_layout.proofs.Sources.{SourceView, FromInput, FromGate, source_view, from_east, from_west, from_source}
use Rattle.gate_layout.proofs.Shows.{column_half, some_above}
use Rattle.gate_layout.proofs.Fed.{IsInputAt, same_spot, some_tracks, one_half}

-- along a row a feeder is never to the north or beyond the first column
not_north : (o : Option Net) → source_side o ≡ Some North → ⊥
not_north None is = absurd (none-some _ is)
not_north (Some (net.Input i)) is = absurd (none-some _ is)
not_north (Some (net.Gate op a b)) is = cc

not_west : (o : Option Net) → source_side o ≡ Some West → ⊥
not_west None is = absurd (none-some _ is)
not_west (Some (net.Input i)) is = absurd (none-some _ is)
not_west (Some (net.Gate op a b)) is = cc

row_north : (nets : List Net) (n col : ℕ) → row_side nets n col ≡ Some North → ⊥
row_north nets n col is = by (nat_lt col (source nets n)) (nat_lt (source nets n) col) is
  where
    by : (b d : Bool) → (if b then Some East else (if d then Some West else source_side (slice_get nets n))) ≡ Some North → ⊥
    by true d is = cc
    by false true is = cc
    by false false is = not_north (slice_get nets n) is

row_west : (nets : List Net) (n : ℕ) → row_side nets n 0 ≡ Some West → ⊥
row_west nets n is = by (nat_lt 0 (source nets n)) (ap (λ d. if nat_lt 0 (source nets n) then Some East else (if d then Some West else source_side (slice_get nets n))) (sym (le-ltb (source nets n) 0 (omega arith))) ∙ is)
  where
    by : (b : Bool) → (if b then Some East else source_side (slice_get nets n)) ≡ Some West → ⊥
    by true is = cc
    by false is = not_west (slice_get nets n) is

-- a feeder to the north is within the table
first_north : (p : Placement) (nets : List Net) (col half : ℕ) (run o : Option ℕ) → half < halves nets (net_role p 0 run o) → net_side nets run (column_of (gate_count nets) col) col half ≡ Some North → ⊥
first_north p nets col half None o has is =
    let z = one_half p nets 0 half o has in
    let l = some_above p nets 0 None o (subst (λ h. h < halves nets (net_role p 0 None o)) z has) in
    omega (arith, l)
first_north p nets col zero (Some n) o has is = row_north nets n col is
first_north p nets col (suc half) (Some n) o has is = let l = some_above p nets 0 (Some n) o (omega (arith, has)) in omega (arith, l)

north_in : (p : Placement) (nets : List Net) → (0 < length nets → 0 < p.tracks) → (r col half : ℕ) → RowView p.tracks r → half < halves nets (role_in p nets (row_of p.tracks r) (column_of (gate_count nets) col) col)
    → side_in p nets (row_of p.tracks r) (column_of (gate_count nets) col) col half ≡ Some North → 0 < r
north_in p nets some _ col half (OfTrack (suc n) below) has is = omega arith
north_in p nets some _ col half (Below n below) has is = omega arith
north_in p nets some _ col half Last has is = omega arith
north_in p nets some _ col half OfPins has is =
    let h = subst (λ x. half < halves nets (role_in p nets x (column_of (gate_count nets) col) col)) (row_pins p.tracks) has in
    let l = some_tracks p nets some (column_of (gate_count nets) col) half (column_is nets col) h in
    omega (arith, l)
north_in p nets some _ col half (OfTrack zero below) has is =
    let c = column_of (gate_count nets) col in
    let h : half < halves nets (net_role p 0 (p.runs 0 col) (column_net nets c)) = subst (λ x. half < halves nets (role_in p nets x c col)) (row_track p.tracks 0 below) has in
    let d : net_side nets (p.runs 0 col) c col half ≡ Some North = subst (λ x. side_in p nets x c col half ≡ Some North) (row_track p.tracks 0 below) is in
    absurd (first_north p nets col half (p.runs 0 col) (column_net nets c) h d)

past_side : (p : Placement) (nets : List Net) (r col half : ℕ) → halves nets (role_on p nets r col) ≤ half → side_on p nets r col half ≡ None
past_side p nets r col half le = ap (λ b. if b then side_in p nets (row_of p.tracks r) (column_of (gate_count nets) col) col half else None) (le-ltb half (halves nets (role_on p nets r col)) le)

-- where a half has a side, the role has that half
side_inside : (p : Placement) (nets : List Net) (r col half : ℕ) (d : Side) → side_on p nets r col half ≡ Some d → (half < halves nets (role_on p nets r col)) × (side_in p nets (row_of p.tracks r) (column_of (gate_count nets) col) col half ≡ Some d)
side_inside p nets r col half d is = elim (cases_lt half (halves nets (role_on p nets r col))) [
  | inl has ↦ (has, ap (λ b. if b then side_in p nets (row_of p.tracks r) (column_of (gate_count nets) col) col half else None) (sym (lt-ltb half (halves nets (role_on p nets r col)) has)) ∙ is)
  | inr le ↦ absurd (none-some _ (sym (past_side p nets r col half le) ∙ is))
]

pub north_inside : (p : Placement) (nets : List Net) (r col half : ℕ) → (0 < length nets → 0 < p.tracks) → r < rows_on p → side_on p nets r col half ≡ Some North → 0 < r
unfolding role_on
north_inside p nets r col half some lt is = let t = side_inside p nets r col half North is in north_in p nets some r col half (view p.tracks r lt) t.0 t.1

-- a feeder to the west is within the table
net_west : (nets : List Net) (run : Option ℕ) (half : ℕ) → net_side nets run Outside 0 half ≡ Some West → ⊥
net_west nets None half is = cc
net_west nets (Some n) zero is = row_west nets n is
net_west nets (Some n) (suc half) is = cc

first_west : (p : Placement) (nets : List Net) (row : Row) (half : ℕ) → half < halves nets (role_in p nets row Outside 0) → side_in p nets row Outside 0 half ≡ Some West → ⊥
first_west p nets (TrackRow k) half has is = net_west nets (p.runs k 0) half is
first_west p nets (Between k) half has is = omega (arith, has)
first_west p nets Pins half has is = omega (arith, has)
first_west p nets Bottom half has is = omega (arith, has)

pub west_inside : (p : Placement) (nets : List Net) (r col half : ℕ) → side_on p nets r col half ≡ Some West → 0 < col
unfolding role_on
west_inside p nets r zero half is = let t = side_inside p nets r zero half West is in absurd (first_west p nets (row_of p.tracks r) half t.0 t.1)
west_inside p nets r (suc col) half is = omega arith

-- a half without a feeder is none that the role has, or that of an input cell

no_side : (o : Option Side) (f : Side → Spot) → option_map f o ≡ None → o ≡ None
no_side None f is = refl
no_side (Some d) f is = absurd (none-some _ (sym is))

row_none : (c : NetList) (p : Placement) → IsPlaced c p → (k n col : ℕ) → AreNumbered c.nets → k < p.tracks → p.runs k col ≡ Some n → row_side c.nets n col ≡ None → IsInputAt p c.nets (record { row = 2 * k; col = col })
row_none c p placed k n col own below runs is = elim (cases_lt col (source c.nets n)) [
  | inl lt ↦ absurd (none-some _ (sym is ∙ from_east c.nets n col lt))
  | inr le ↦ elim (cases_lt (source c.nets n) col) [
    | inl lt ↦ absurd (none-some _ (sym is ∙ from_west c.nets n col lt))
    | inr ge ↦
        let here : col ≡ source c.nets n = omega (arith, le, ge) in
        by (source_view c.nets n (placed.named k col n below runs).0) here
  ]
]
  where
    by : SourceView c.nets n → col ≡ source c.nets n → IsInputAt p c.nets (record { row = 2 * k; col = col })
    by (FromInput i is at) here =
        let e : p.track (input_net c.nets i) ≡ k = ap p.track (input_at c.nets n i own is) ∙ (placed.named k col n below runs).1 in
        let inside = input_within 0 (input_count c.nets) c.nets n i own is in
        (i, omega (arith, inside.2), same_spot (input_cell_on p c.nets i) (record { row = 2 * k; col = col }) (omega (arith, e)) (omega (arith, here, at)))
    by (FromGate g lt own at side) here = absurd (none-some _ (sym is ∙ from_source c.nets n col here ∙ side))

net_none : (c : NetList) (p : Placement) → IsPlaced c p → (k col half : ℕ) → AreNumbered c.nets → k < p.tracks → net_side c.nets (p.runs k col) (column_of (gate_count c.nets) col) col half ≡ None → IsInputAt p c.nets (record { row = 2 * k; col = col })
net_none c p placed k col half own below is = by (p.runs k col) refl
  where
    by : (run : Option ℕ) → p.runs k col ≡ run → IsInputAt p c.nets (record { row = 2 * k; col = col })
    by None e = absurd (none-some _ (sym (subst (λ z. net_side c.nets z (column_of (gate_count c.nets) col) col half ≡ None) e is)))
    by (Some n) e = at half (subst (λ z. net_side c.nets z (column_of (gate_count c.nets) col) col half ≡ None) e is)
      where
        at : (half : ℕ) → net_side c.nets (Some n) (column_of (gate_count c.nets) col) col half ≡ None → IsInputAt p c.nets (record { row = 2 * k; col = col })
        at zero d = row_none c p placed k n col own below e d
        at (suc i) d = absurd (none-some _ (sym d))

side_none : (c : NetList) (p : Placement) → IsPlaced c p → (r col half : ℕ) → RowView p.tracks r → AreNumbered c.nets → side_in p c.nets (row_of p.tracks r) (column_of (gate_count c.nets) col) col half ≡ None → IsInputAt p c.nets (record { row = r; col = col })
side_none c p placed _ col half (Below k below) own is = absurd (none-some _ (sym is ∙ ap (λ x. side_in p c.nets x (column_of (gate_count c.nets) col) col half) (row_between p.tracks k below)))
side_none c p placed _ col half OfPins own is = absurd (none-some _ (sym is ∙ ap (λ x. side_in p c.nets x (column_of (gate_count c.nets) col) col half) (row_pins p.tracks)))
side_none c p placed _ col half Last own is = absurd (none-some _ (sym is ∙ ap (λ x. side_in p c.nets x (column_of (gate_count c.nets) col) col half) (row_bottom p.tracks)))
side_none c p placed _ col half (OfTrack k below) own is =
    net_none c p placed k col half own below (subst (λ x. side_in p c.nets x (column_of (gate_count c.nets) col) col half ≡ None) (row_track p.tracks k below) is)

pub none_is : (c : NetList) (p : Placement) → IsPlaced c p → (r col half : ℕ) → r < rows_on p → AreNumbered c.nets → feeder_on p c.nets r col half ≡ None → (halves c.nets (role_on p c.nets r col) ≤ half) ⊎ IsInputAt p c.nets (record { row = r; col = col })
unfolding feeder_on
none_is c p placed r col half lt own is = elim (cases_lt half (halves c.nets (role_on p c.nets r col))) [
  | inl le ↦
      let e : side_on p c.nets r col half ≡ None = no_side (side_on p c.nets r col half) (neighbour r col) is in
      let d = ap (λ b. if b then side_in p c.nets (row_of p.tracks r) (column_of (gate_count c.nets) col) col half else None) (sym (lt-ltb half (halves c.nets (role_on p c.nets r col)) le)) ∙ e in
      inr (side_none c p placed r col half (view p.tracks r lt) own d)
  | inr le ↦ inl le
]

-- and the other way round
past_none : (p : Placement) (nets : List Net) (r col half : ℕ) → halves nets (role_on p nets r col) ≤ half → feeder_on p nets r col half ≡ None
unfolding feeder_on
past_none p nets r col half le = ap (option_map (neighbour r col)) (past_side p nets r col half le)

none_by : (b : Bool) {o : Option Side} → o ≡ None → (if b then o else None) ≡ None
none_by true is = is
none_by false is = refl

input_none : (c : NetList) (p : Placement) → IsPlaced c p → (i half : ℕ) → AreNumbered c.nets → i < input_count c.nets → feeder_on p c.nets (2 * p.track (input_net c.nets i)) 0 half ≡ None
unfolding feeder_on
input_none c p placed i half own lt = by half
  where
    n : ℕ
    n = input_net c.nets i

    is : slice_get c.nets n ≡ Some (net.Input i)
    is = input_has c.nets i own lt

    below : p.track n < p.tracks
    below = placed.on n (slice_get_within c.nets n _ is)

    runs : p.runs (p.track n) 0 ≡ Some n
    runs = input_runs c p placed n i is

    none : row_side c.nets n 0 ≡ None
    none =
        let at : source c.nets n ≡ 0 = ap (source_in c.nets n) is in
        from_source c.nets n 0 (sym at) ∙ ap source_side is

    by : (half : ℕ) → feeder_on p c.nets (2 * p.track n) 0 half ≡ None
    by zero =
        let e : side_in p c.nets (row_of p.tracks (2 * p.track n)) Outside 0 0 ≡ None =
        ap (λ x. side_in p c.nets x Outside 0 0) (row_track p.tracks (p.track n) below) ∙ ap (λ z. net_side c.nets z Outside 0 0) runs ∙ none in
        ap (option_map (neighbour (2 * p.track n) 0)) (none_by (nat_lt 0 (halves c.nets (role_on p c.nets (2 * p.track n) 0))) e)
    by (suc k) = past_none p c.nets (2 * p.track n) 0 (suc k) (subst (λ r. halves c.nets r ≤ suc k) (sym (wire_first c p placed n i is)) (omega arith))

pub none_if : (c : NetList) (p : Placement) → IsPlaced c p → (r col half : ℕ) → AreNumbered c.nets → (halves c.nets (role_on p c.nets r col) ≤ half) ⊎ IsInputAt p c.nets (record { row = r; col = col }) → feeder_on p c.nets r col half ≡ None
none_if c p placed r col half own one = elim one [
  | inl le ↦ past_none p c.nets r col half le
  | inr input ↦ subst (λ s. feeder_on p c.nets s.row s.col half ≡ None) input.2 (input_none c p placed input.0 half own input.1)
]
