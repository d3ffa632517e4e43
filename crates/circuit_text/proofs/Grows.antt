-- A net more at the end of a list of nets.
use Rattle.std.proofs.Common.{◌≡◌, ℕ, zero, suc, ◌+◌, ◌≤◌, ◌⊎◌, inl, inr, List, [], ◌∷◌, ◌++◌, length, Option, Some, refl, sym, ap, ◌∙◌, subst, arith}
use Rattle.std.specs.Prelude.{slice_get}
use Rattle.std.proofs.lemmas.Option.{none-some}
use Rattle.circuit_text.specs.declared.kinds.GateOp.{GateOp}
use Rattle.circuit_text.specs.declared.kinds.Net.{Net}
use Rattle.circuit_text.specs.declared.kinds.Net.TheVariants as net
use Rattle.std.specs.List.{range_with_len}
use Rattle.circuit_text.specs.Values.{IsNetAt, AreNets, IsBelow, AreInputsBelow, input_count, input_numbers}

pushed : (xs : List Net) (x y : Net) (n : ℕ) → slice_get (xs ++ x ∷ []) n ≡ Some y → (slice_get xs n ≡ Some y) ⊎ ((n ≡ length xs) × (x ≡ y))
pushed [] x y zero h = inr (refl, cc)
pushed [] x y (suc n) h = absurd (none-some y h)
pushed (z ∷ xs) x y zero h = inl h
pushed (z ∷ xs) x y (suc n) h = elim (pushed xs x y n h) [
  | inl a ↦ inl a
  | inr p ↦ inr (ap suc p.0, p.1)
]

pub nets_push : (nets : List Net) (x : Net) → AreNets nets → IsNetAt (length nets) x → AreNets (nets ++ x ∷ [])
nets_push nets x are at = λ n y h. elim (pushed nets x y n h) [
  | inl a ↦ are n y a
  | inr p ↦ subst (λ k. IsNetAt k y) (sym p.0) (subst (IsNetAt (length nets)) p.1 at)
]

below_more : (count more : ℕ) (x : Net) → count ≤ more → IsBelow count x → IsBelow more x
below_more count more (net.Input k) le h = omega (arith, le, h)
below_more count more (net.Gate op a b) le h = tt

below_push : (count more : ℕ) (nets : List Net) (x : Net) → AreInputsBelow count nets → count ≤ more → IsBelow more x → AreInputsBelow more (nets ++ x ∷ [])
below_push count more nets x are le at = λ n y h. elim (pushed nets x y n h) [
  | inl a ↦ below_more count more y le (are n y a)
  | inr p ↦ subst (IsBelow more) p.1 at
]

pub below_input : (count : ℕ) (nets : List Net) → AreInputsBelow count nets → AreInputsBelow (count + 1) (nets ++ net.Input count ∷ [])
below_input count nets are = below_push count (count + 1) nets (net.Input count) are (omega arith) (omega arith)

pub below_gate : (count : ℕ) (nets : List Net) (op : GateOp) (a : ℕ) (b : Option ℕ) → AreInputsBelow count nets → AreInputsBelow count (nets ++ net.Gate op a b ∷ [])
below_gate count nets op a b are = below_push count count nets (net.Gate op a b) are (omega arith) tt

pub count_input : (nets : List Net) (k : ℕ) → input_count (nets ++ net.Input k ∷ []) ≡ input_count nets + 1
count_input [] k = refl
count_input (net.Input n ∷ nets) k = omega (arith, count_input nets k)
count_input (net.Gate op a b ∷ nets) k = count_input nets k

pub count_gate : (nets : List Net) (op : GateOp) (a : ℕ) (b : Option ℕ) → input_count (nets ++ net.Gate op a b ∷ []) ≡ input_count nets
count_gate [] op a b = refl
count_gate (net.Input n ∷ nets) op a b = ap suc (count_gate nets op a b)
count_gate (net.Gate op' a' b' ∷ nets) op a b = count_gate nets op a b

number_last : (nets : List Net) (k : ℕ) → input_numbers (nets ++ net.Input k ∷ []) ≡ input_numbers nets ++ k ∷ []
number_last [] k = refl
number_last (net.Input n ∷ nets) k = ap (λ ns. n ∷ ns) (number_last nets k)
number_last (net.Gate op a b ∷ nets) k = number_last nets k

counted_on : (a n j : ℕ) → a + n ≡ j → range_with_len a (suc n) ≡ range_with_len a n ++ j ∷ []
counted_on a zero j e = let same : a ≡ j = omega (arith, e) in ap (λ k. k ∷ []) same
counted_on a (suc n) j e = ap (λ ns. a ∷ ns) (counted_on (a + 1) n j (omega (arith, e)))

-- the numbers of inputs go on where they ended
pub next_input : (nets : List Net) (k : ℕ) → input_numbers nets ≡ range_with_len 0 k → input_numbers (nets ++ net.Input k ∷ []) ≡ range_with_len 0 (k + 1)
next_input nets k h =
    let on : suc k ≡ k + 1 = omega arith in
    number_last nets k ∙ ap (λ ns. ns ++ k ∷ []) h ∙ sym (counted_on 0 k k (omega arith)) ∙ ap (range_with_len 0) on

pub same_inputs : (nets : List Net) (op : GateOp) (a : ℕ) (b : Option ℕ) → input_numbers (nets ++ net.Gate op a b ∷ []) ≡ input_numbers nets
same_inputs [] op a b = refl
same_inputs (net.Input n ∷ nets) op a b = ap (λ ns. n ∷ ns) (same_inputs nets op a b)
same_inputs (net.Gate op' a' b' ∷ nets) op a b = same_inputs nets op a b
