-- The values of a list of nets are those of its nets.
use Rattle.std.proofs.Common.{◌≡◌, ℕ, zero, suc, ◌+◌, ◌<◌, List, [], ◌∷◌, ◌++◌, length, Some, None, Bool, false, refl, sym, ap, ◌∙◌, subst, arith, get_or, length-append}
use Rattle.std.specs.Prelude.{slice_get}
use Rattle.std.proofs.lemmas.Option.{none-some, slice_get-get_or, slice_get_within}
use Rattle.circuit_text.specs.declared.kinds.Net.{Net}
use Rattle.circuit_text.specs.declared.kinds.Net.TheVariants as net
use Rattle.circuit_text.specs.Values.{operate, bit, net_value, values_after, values_of, AreNets, IsNetAt, AreValues}
use Rattle.std.proofs.lemmas.List.{get_or_append_left, ext_get_or}
use Rattle.std.proofs.Math.Seq.{get_or-append_seam}

pub count_after : (inputs known : List Bool) (nets : List Net) → length (values_after inputs known nets) ≡ length known + length nets
count_after inputs known [] = omega arith
count_after inputs known (x ∷ nets) =
    let l : length (known ++ net_value inputs known x ∷ []) ≡ length known + 1 = length-append known (net_value inputs known x ∷ []) in
    let e = count_after inputs (known ++ net_value inputs known x ∷ []) nets in
    omega (arith, e, l)

kept_after : (inputs known : List Bool) (nets : List Net) (n : ℕ) → n < length known → bit (values_after inputs known nets) n ≡ bit known n
kept_after inputs known [] n lt = refl
kept_after inputs known (x ∷ nets) n lt =
    let l : length (known ++ net_value inputs known x ∷ []) ≡ length known + 1 = length-append known (net_value inputs known x ∷ []) in
    kept_after inputs (known ++ net_value inputs known x ∷ []) nets n (omega (arith, l, lt)) ∙ get_or_append_left known (net_value inputs known x ∷ []) false n lt

same_value : (inputs known more : List Bool) (k : ℕ) (x : Net) → ((n : ℕ) → n < k → bit more n ≡ bit known n) → IsNetAt k x → net_value inputs known x ≡ net_value inputs more x
same_value inputs known more k (net.Input number) same at = refl
same_value inputs known more k (net.Gate op a None) same at = ap (λ d. operate op d false) (sym (same a at.0))
same_value inputs known more k (net.Gate op a (Some b)) same at = ap (λ d. operate op d (bit known b)) (sym (same a at.0)) ∙ ap (operate op (bit more a)) (sym (same b at.1))

each_after : (inputs known : List Bool) (nets : List Net) (n : ℕ) (x : Net) → slice_get nets n ≡ Some x → IsNetAt (length known + n) x
    → bit (values_after inputs known nets) (length known + n) ≡ net_value inputs (values_after inputs known nets) x
each_after inputs known [] n x is at = absurd (none-some x is)
each_after inputs known (y ∷ nets) zero x is at =
    let same : y ≡ x = cc in
    let next = known ++ net_value inputs known y ∷ [] in
    let l : length next ≡ length known + 1 = length-append known (net_value inputs known y ∷ []) in
    let here : bit (values_after inputs next nets) (length known) ≡ net_value inputs known y = kept_after inputs next nets (length known) (omega (arith, l)) ∙ get_or-append_seam known (net_value inputs known y) [] false in
    let e : length known + 0 ≡ length known = omega arith in
    let below : net_value inputs known x ≡ net_value inputs (values_after inputs next nets) x = same_value inputs known (values_after inputs next nets) (length known + 0) x
    (λ n lt. kept_after inputs next nets n (omega (arith, l, lt)) ∙ get_or_append_left known (net_value inputs known y ∷ []) false n (omega (arith, lt))) at in
    ap (bit (values_after inputs next nets)) e ∙ here ∙ ap (net_value inputs known) same ∙ below
each_after inputs known (y ∷ nets) (suc n) x is at =
    let next = known ++ net_value inputs known y ∷ [] in
    let l : length next ≡ length known + 1 = length-append known (net_value inputs known y ∷ []) in
    let e : length next + n ≡ length known + suc n = omega (arith, l) in
    subst (λ k. bit (values_after inputs next nets) k ≡ net_value inputs (values_after inputs next nets) x) e
    (each_after inputs next nets n x is (subst (λ k. IsNetAt k x) (sym e) at))

-- the values of a circuit are values
pub values_are : (nets : List Net) (inputs : List Bool) → AreNets nets → AreValues nets inputs (values_of nets inputs)
unfolding values_of
values_are nets inputs are = record {
  count = count_after inputs [] nets ∙ omega arith;
  each = λ n x is.
      let e : 0 + n ≡ n = omega arith in
      subst (λ k. bit (values_after inputs [] nets) k ≡ net_value inputs (values_after inputs [] nets) x) e (each_after inputs [] nets n x is (subst (λ k. IsNetAt k x) (sym e) (are n x is)));
}

-- any two lists of values agree at each net
one_values : (nets : List Net) (inputs v w : List Bool) → AreNets nets → AreValues nets inputs v → AreValues nets inputs w → (bound n : ℕ) → n < bound → (x : Net) → slice_get nets n ≡ Some x → bit v n ≡ bit w n
one_values nets inputs v w are first second zero n lt x is = absurd (omega (arith, lt))
one_values nets inputs v w are first second (suc bound) n lt x is =
    let lower : (m : ℕ) → m < n → bit w m ≡ bit v m = λ m below. sym (one_values nets inputs v w are first second bound m (omega (arith, lt, below)) (get_or nets m x) (slice_get-get_or nets m x (omega (arith, below, slice_get_within nets n x is)))) in
    first.each n x is ∙ same_value inputs v w n x lower (are n x is) ∙ sym (second.each n x is)

-- the values of a circuit are the only ones
pub only_values : (nets : List Net) (inputs w : List Bool) → AreNets nets → AreValues nets inputs w → w ≡ values_of nets inputs
only_values nets inputs w are is =
    let own : AreValues nets inputs (values_of nets inputs) = values_are nets inputs are in
    ext_get_or false w (values_of nets inputs) (is.count ∙ sym own.count)
    (λ n lt. one_values nets inputs w (values_of nets inputs) are is own (suc n) n (omega arith) (get_or nets n (net.Input 0)) (slice_get-get_or nets n (net.Input 0) (omega (arith, lt, is.count))))
