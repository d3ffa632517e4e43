-- The gates among nets, and the nets of inputs.
use Rattle.std.proofs.Common.{◌≡◌, ℕ, zero, suc, ◌+◌, ◌<◌, ◌≤◌, inl, inr, List, [], ◌∷◌, length, Option, Some, None, Bool, true, false, refl, sym, ap, ◌∙◌, subst, arith, get_or, ◌==◌}
use Rattle.std.specs.Prelude.{slice_get, IsSome}
use Rattle.std.specs.List.{range_with_len}
use Rattle.std.proofs.lemmas.Option.{none-some, slice_get_within, slice_get-get_or}
use Rattle.std.proofs.lemmas.Bool.{cases_lt, eqb-true, eq-eqb}
use Rattle.std.proofs.lemmas.List.Sums.{passes_at_first, fails_before_first, position_or_len_is}
use Rattle.circuit_text.specs.declared.kinds.Net.{Net}
use Rattle.circuit_text.specs.declared.kinds.Net.TheVariants as net
use Rattle.circuit_text.specs.Values.{AreNets, gates_from, gates_of, input_numbers, input_count}
use Rattle.gate_layout.specs.Nets.{gate_count, net_of, gate_at, a_of, b_of, operand_a, operand_b, is_input, input_net, AreNumbered}

abbrev pub IsGate : Net → Type 0
IsGate (net.Input k) = ⊥
IsGate (net.Gate op a b) = Unit {0}

-- a gate of nets, of which the first has this number
pub record GateNet (nets : List Net) (k m : ℕ) : Type 0 where
  pub at : ℕ
  pub it : Net
  pub number : m ≡ k + at
  pub stands : slice_get nets at ≡ Some it
  pub gate : IsGate it

later_net : (x : Net) (nets : List Net) (k m : ℕ) → GateNet nets (suc k) m → GateNet (x ∷ nets) k m
later_net x nets k m g = record { at = suc g.at; it = g.it; number = omega (arith, g.number); stands = g.stands; gate = g.gate }

gate_from : (k : ℕ) (nets : List Net) (g : ℕ) → g < length (gates_from k nets) → GateNet nets k (get_or (gates_from k nets) g 0)
gate_from k [] g lt = absurd (omega (arith, lt))
gate_from k (net.Input i ∷ nets) g lt = later_net _ nets k _ (gate_from (suc k) nets g lt)
gate_from k (net.Gate op a b ∷ nets) zero lt = record { at = zero; it = net.Gate op a b; number = omega arith; stands = refl; gate = tt }
gate_from k (net.Gate op a b ∷ nets) (suc g) lt = later_net _ nets k _ (gate_from (suc k) nets g (omega (arith, lt)))

-- each gate has a net that is a gate
pub gate_of : (nets : List Net) (g : ℕ) → g < gate_count nets → (x : Net) × (slice_get nets (net_of nets g) ≡ Some x) × IsGate x
gate_of nets g lt =
    let f = gate_from 0 nets g lt in
    let e : net_of nets g ≡ f.at = omega (arith, f.number) in
    (f.it, ap (slice_get nets) e ∙ f.stands, f.gate)

-- there are no more gates than nets
gates_within : (k : ℕ) (nets : List Net) → length (gates_from k nets) ≤ length nets
gates_within k [] = omega arith
gates_within k (net.Input i ∷ nets) = omega (arith, gates_within (suc k) nets)
gates_within k (net.Gate op a b ∷ nets) = omega (arith, gates_within (suc k) nets)

pub few_gates : (nets : List Net) → gate_count nets ≤ length nets
few_gates nets = gates_within 0 nets

pub gate_named : (nets : List Net) (g : ℕ) → g < gate_count nets → net_of nets g < length nets
gate_named nets g lt = let x = gate_of nets g lt in slice_get_within nets (net_of nets g) x.0 x.1

-- each net that is a gate is the net of one
found_gate : (k : ℕ) (nets : List Net) (n : ℕ) (x : Net) → slice_get nets n ≡ Some x → IsGate x → (g : ℕ) × (g < length (gates_from k nets)) × (get_or (gates_from k nets) g 0 ≡ k + n)
found_gate k [] n x is gate = absurd (none-some x is)
found_gate k (net.Input i ∷ nets) zero x is gate = absurd (let e : net.Input i ≡ x = cc in subst IsGate (sym e) gate)
found_gate k (net.Input i ∷ nets) (suc n) x is gate = let r = found_gate (suc k) nets n x is gate in (r.0, r.1, omega (arith, r.2))
found_gate k (net.Gate op a b ∷ nets) zero x is gate = (zero, omega arith, omega arith)
found_gate k (net.Gate op a b ∷ nets) (suc n) x is gate = let r = found_gate (suc k) nets n x is gate in (suc r.0, omega (arith, r.1), omega (arith, r.2))

-- the gate that a net is
pub gate_found : (nets : List Net) (n : ℕ) (x : Net) → slice_get nets n ≡ Some x → IsGate x → (gate_at nets n < gate_count nets) × (net_of nets (gate_at nets n) ≡ n)
gate_found nets n x is gate =
    let r = found_gate 0 nets n x is gate in
    let own : get_or (gates_of nets) r.0 0 ≡ n = omega (arith, r.2) in
    let inside : gate_at nets n < gate_count nets = elim (cases_lt (gate_at nets n) (gate_count nets)) [
      | inl lt ↦ lt
      | inr le ↦
          let f : (get_or (gates_of nets) r.0 0 == n) ≡ false = fails_before_first (λ m. m == n) (gates_of nets) r.0 0 (omega (arith, le, r.1)) in
          let t : (get_or (gates_of nets) r.0 0 == n) ≡ true = eq-eqb _ n own in
          absurd cc
    ] in
    (inside, eqb-true _ n (passes_at_first (λ m. m == n) (gates_of nets) 0 inside))

-- operands

pub first_low : (nets : List Net) (g t : ℕ) → AreNets nets → operand_a nets g ≡ Some t → t < net_of nets g
first_low nets g t are e = by (slice_get nets (net_of nets g)) refl e
  where
    by : (o : Option Net) → slice_get nets (net_of nets g) ≡ o → a_of o ≡ Some t → t < net_of nets g
    by None is e = absurd (none-some t e)
    by (Some (net.Input i)) is e = absurd (none-some t e)
    by (Some (net.Gate op a None)) is e = let q : a ≡ t = cc in let lt = (are _ _ is).0 in omega (arith, q, lt)
    by (Some (net.Gate op a (Some b))) is e = let q : a ≡ t = cc in let lt = (are _ _ is).0 in omega (arith, q, lt)

pub second_low : (nets : List Net) (g t : ℕ) → AreNets nets → operand_b nets g ≡ Some t → t < net_of nets g
second_low nets g t are e = by (slice_get nets (net_of nets g)) refl e
  where
    by : (o : Option Net) → slice_get nets (net_of nets g) ≡ o → b_of o ≡ Some t → t < net_of nets g
    by None is e = absurd (none-some t e)
    by (Some (net.Input i)) is e = absurd (none-some t e)
    by (Some (net.Gate op a None)) is e = absurd (none-some t e)
    by (Some (net.Gate op a (Some b))) is e = let q : b ≡ t = cc in let lt = (are _ _ is).1 in omega (arith, q, lt)

pub has_first : (nets : List Net) (g : ℕ) → g < gate_count nets → IsSome (operand_a nets g)
has_first nets g lt = let x = gate_of nets g lt in by (slice_get nets (net_of nets g)) x.0 x.1 x.2
  where
    by : (o : Option Net) (x : Net) → o ≡ Some x → IsGate x → IsSome (a_of o)
    by (Some (net.Gate op a b)) x is gate = refl
    by (Some (net.Input i)) x is gate = absurd (let e : net.Input i ≡ x = cc in subst IsGate (sym e) gate)
    by None x is gate = absurd (none-some x is)

-- inputs

first_number : (k i count : ℕ) (rest : List ℕ) → i ∷ rest ≡ range_with_len k count → (c : ℕ) × (i ≡ k) × (count ≡ suc c) × (rest ≡ range_with_len (k + 1) c)
first_number k i zero rest is = absurd cc
first_number k i (suc c) rest is = (c, cc, refl, cc)

-- an input among nets whose inputs have rising numbers from k on
pub input_within : (k count : ℕ) (nets : List Net) (n i : ℕ) → input_numbers nets ≡ range_with_len k count → slice_get nets n ≡ Some (net.Input i) → (k ≤ i) × (i ≤ k + n) × (i < k + count)
input_within k count [] n i are is = absurd (none-some _ is)
input_within k count (net.Gate op a b ∷ nets) zero i are is = absurd cc
input_within k count (net.Gate op a b ∷ nets) (suc n) i are is = let r = input_within k count nets n i are is in (r.0, omega (arith, r.1), r.2)
input_within k count (net.Input j ∷ nets) zero i are is =
    let f = first_number k j count (input_numbers nets) are in
    let e : j ≡ i = cc in
    (omega (arith, f.1, e), omega (arith, f.1, e), omega (arith, f.1, e, f.2))
input_within k count (net.Input j ∷ nets) (suc n) i are is =
    let f = first_number k j count (input_numbers nets) are in
    let r = input_within (k + 1) f.0 nets n i f.3 is in
    (omega (arith, r.0), omega (arith, r.1), omega (arith, r.2, f.2))

-- no other net is the same input
pub input_once : (k count : ℕ) (nets : List Net) (n m i : ℕ) → input_numbers nets ≡ range_with_len k count → slice_get nets n ≡ Some (net.Input i) → slice_get nets m ≡ Some (net.Input i) → n ≡ m
input_once k count [] n m i are is at = absurd (none-some _ is)
input_once k count (x ∷ nets) zero zero i are is at = refl
input_once k count (net.Gate op a b ∷ nets) zero (suc m) i are is at = absurd cc
input_once k count (net.Gate op a b ∷ nets) (suc n) zero i are is at = absurd cc
input_once k count (net.Gate op a b ∷ nets) (suc n) (suc m) i are is at = ap suc (input_once k count nets n m i are is at)
input_once k count (net.Input j ∷ nets) zero (suc m) i are is at =
    let f = first_number k j count (input_numbers nets) are in
    let e : j ≡ i = cc in
    absurd (omega (arith, f.1, e, (input_within (k + 1) f.0 nets m i f.3 at).0))
input_once k count (net.Input j ∷ nets) (suc n) zero i are is at =
    let f = first_number k j count (input_numbers nets) are in
    let e : j ≡ i = cc in
    absurd (omega (arith, f.1, e, (input_within (k + 1) f.0 nets n i f.3 is).0))
input_once k count (net.Input j ∷ nets) (suc n) (suc m) i are is at =
    let f = first_number k j count (input_numbers nets) are in
    ap suc (input_once (k + 1) f.0 nets n m i f.3 is at)

-- each number has its input
pub input_there : (k count : ℕ) (nets : List Net) (i : ℕ) → input_numbers nets ≡ range_with_len k count → i < count → (n : ℕ) × (slice_get nets n ≡ Some (net.Input (k + i)))
input_there k count [] i are lt = by count lt are
  where
    by : (c : ℕ) → i < c → [] ≡ range_with_len k c → (n : ℕ) × (slice_get [] n ≡ Some (net.Input (k + i)))
    by zero lt are = absurd (omega (arith, lt))
    by (suc c) lt are = absurd cc
input_there k count (net.Gate op a b ∷ nets) i are lt = let r = input_there k count nets i are lt in (suc r.0, r.1)
input_there k count (net.Input j ∷ nets) zero are lt =
    let f = first_number k j count (input_numbers nets) are in
    (zero, ap (λ x. Some (net.Input x)) (omega (arith, f.1)))
input_there k count (net.Input j ∷ nets) (suc i) are lt =
    let f = first_number k j count (input_numbers nets) are in
    let r = input_there (k + 1) f.0 nets i f.3 (omega (arith, lt, f.2)) in
    (suc r.0, r.1 ∙ ap (λ x. Some (net.Input x)) (omega arith))

is_input_true : (i : ℕ) (x : Net) → is_input i x ≡ true → x ≡ net.Input i
is_input_true i (net.Input k) is = ap net.Input (eqb-true k i is)
is_input_true i (net.Gate op a b) is = absurd cc

-- the net of an input is the one that was found first
pub input_at : (nets : List Net) (n i : ℕ) → AreNumbered nets → slice_get nets n ≡ Some (net.Input i) → input_net nets i ≡ n
input_at nets n i are is =
    let lt = slice_get_within nets n _ is in
    let d : Net = net.Input 0 in
    position_or_len_is (is_input i) nets n d (omega (arith, lt)) (λ k below. before k below (is_input i (get_or nets k d)) refl) (λ inside. ap (is_input i) (here d lt) ∙ eq-eqb i i refl)
  where
    here : (d : Net) → n < length nets → get_or nets n d ≡ net.Input i
    here d lt = let e : Some (get_or nets n d) ≡ Some (net.Input i) = sym (slice_get-get_or nets n d lt) ∙ is in cc

    before : (k : ℕ) → k < n → (b : Bool) → is_input i (get_or nets k (net.Input 0)) ≡ b → b ≡ false
    before k below false e = refl
    before k below true e =
        let lt : k < length nets = omega (arith, below, slice_get_within nets n _ is) in
        let s : slice_get nets k ≡ Some (net.Input i) = slice_get-get_or nets k (net.Input 0) lt ∙ ap (λ x. Some x) (is_input_true i _ e) in
        absurd (omega (arith, below, input_once 0 (input_count nets) nets k n i are s is))

pub input_has : (nets : List Net) (i : ℕ) → AreNumbered nets → i < input_count nets → slice_get nets (input_net nets i) ≡ Some (net.Input i)
input_has nets i are lt =
    let r = input_there 0 (input_count nets) nets i are lt in
    let is : slice_get nets r.0 ≡ Some (net.Input i) = r.1 ∙ ap (λ x. Some (net.Input x)) (omega arith) in
    ap (slice_get nets) (input_at nets r.0 i are is) ∙ is

pub input_inside : (nets : List Net) (i : ℕ) → AreNumbered nets → i < input_count nets → input_net nets i < length nets
input_inside nets i are lt = slice_get_within nets (input_net nets i) _ (input_has nets i are lt)

-- no input comes before the net with its own number
pub none_before : (nets : List Net) (i k : ℕ) → AreNumbered nets → k < i → k < length nets → is_input i (get_or nets k (net.Input 0)) ≡ false
none_before nets i k are below lt = by (is_input i (get_or nets k (net.Input 0))) refl
  where
    by : (b : Bool) → is_input i (get_or nets k (net.Input 0)) ≡ b → b ≡ false
    by false e = refl
    by true e =
        let s : slice_get nets k ≡ Some (net.Input i) = slice_get-get_or nets k (net.Input 0) lt ∙ ap (λ x. Some x) (is_input_true i _ e) in
        let w = input_within 0 (input_count nets) nets k i are s in
        absurd (omega (arith, below, w.1))
