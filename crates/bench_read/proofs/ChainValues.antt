-- The value of a chain of gates is that of the gate that it stands for.
use Rattle.std.proofs.Common.{◌≡◌, ℕ, zero, suc, ◌+◌, ◌-◌, ◌<◌, ◌≤◌, Bool, true, false, not, ◌&&◌, ◌||◌, List, [], ◌∷◌, ◌++◌, length, map, get_or, Some, None, refl, sym, ap, ◌∙◌, arith, subst, append_assoc, append-nil}
use Rattle.std.specs.List.{list_all, list_any, AllByRecursion, range_with_len}
use Rattle.std.proofs.lemmas.List.{length-append, length-map, get_or_append_left, get_or_push}
use Rattle.circuit_text.specs.declared.kinds.GateOp.{GateOp}
use Rattle.circuit_text.specs.declared.kinds.GateOp.TheVariants.{And, Or, Xor, Nand, Nor, Xnor, Not, Buf}
use Rattle.circuit_text.specs.declared.kinds.Net.{Net}
use Rattle.circuit_text.specs.declared.kinds.Net.TheVariants as net
use Rattle.circuit_text.specs.Values.{differ, operate, bit, net_value, values_after, values_of, has_two}
use Rattle.bench_read.specs.Netlists.{is_odd, value_by, HasArity}
use Rattle.bench_read.specs.Chains.{base_op, links, chain}

-- Bits

and-two : (x y : Bool) → x && y ≡ (x && (y && true))
and-two true true = refl
and-two true false = refl
and-two false y = refl

or-two : (x y : Bool) → x || y ≡ (x || (y || false))
or-two true y = refl
or-two false true = refl
or-two false false = refl

differ-two : (x y : Bool) → differ x y ≡ differ x (differ y false)
differ-two true true = refl
differ-two true false = refl
differ-two false true = refl
differ-two false false = refl

and-three : (x y r : Bool) → (x && y) && r ≡ (x && (y && r))
and-three true y r = refl
and-three false y r = refl

or-three : (x y r : Bool) → (x || y) || r ≡ (x || (y || r))
or-three true y r = refl
or-three false y r = refl

differ-three : (x y r : Bool) → differ (differ x y) r ≡ differ x (differ y r)
differ-three true true true = refl
differ-three true true false = refl
differ-three true false true = refl
differ-three true false false = refl
differ-three false y r = refl

or-one : (x : Bool) → x ≡ (x || false)
or-one true = refl
or-one false = refl

-- a gate of two operands
two-value : (op : GateOp) (x y : Bool) → has_two op ≡ true → operate op x y ≡ value_by op (x ∷ y ∷ [])
two-value And x y h = and-two x y
two-value Or x y h = or-two x y
two-value Xor x y h = differ-two x y
two-value Nand x y h = ap not (and-two x y)
two-value Nor x y h = ap not (or-two x y)
two-value Xnor x y h = ap not (differ-two x y)
two-value Not x y h = absurd cc
two-value Buf x y h = absurd cc

-- the first two operands taken together
more-value : (op : GateOp) (x y : Bool) (rest : List Bool) → has_two op ≡ true → value_by op (operate (base_op op) x y ∷ rest) ≡ value_by op (x ∷ y ∷ rest)
more-value And x y rest h = and-three x y (list_all (λ d. d) rest)
more-value Or x y rest h = or-three x y (list_any (λ d. d) rest)
more-value Xor x y rest h = differ-three x y (is_odd rest)
more-value Nand x y rest h = ap not (and-three x y (list_all (λ d. d) rest))
more-value Nor x y rest h = ap not (or-three x y (list_any (λ d. d) rest))
more-value Xnor x y rest h = ap not (differ-three x y (is_odd rest))
more-value Not x y rest h = absurd cc
more-value Buf x y rest h = absurd cc

-- a gate of one operand
one-value : (op : GateOp) (x : Bool) → has_two op ≡ false → operate op x false ≡ value_by op (x ∷ [])
one-value And x h = absurd cc
one-value Or x h = absurd cc
one-value Xor x h = absurd cc
one-value Nand x h = absurd cc
one-value Nor x h = absurd cc
one-value Xnor x h = absurd cc
one-value Not x h = ap not (or-one x)
one-value Buf x h = or-one x

-- Values of nets

pub count-after : (inputs known : List Bool) (nets : List Net) → length (values_after inputs known nets) ≡ length known + length nets
count-after inputs known [] = omega arith
count-after inputs known (x ∷ nets) =
    let l : length (known ++ net_value inputs known x ∷ []) ≡ length known + 1 = length-append known (net_value inputs known x ∷ []) in
    let e = count-after inputs (known ++ net_value inputs known x ∷ []) nets in
    omega (arith, e, l)

pub values-kept : (inputs known : List Bool) (nets : List Net) (n : ℕ) → n < length known → bit (values_after inputs known nets) n ≡ bit known n
values-kept inputs known [] n lt = refl
values-kept inputs known (x ∷ nets) n lt =
    let l : length (known ++ net_value inputs known x ∷ []) ≡ length known + 1 = length-append known (net_value inputs known x ∷ []) in
    values-kept inputs (known ++ net_value inputs known x ∷ []) nets n (omega (arith, l, lt)) ∙ get_or_append_left known (net_value inputs known x ∷ []) false n lt

pub values-append : (inputs known : List Bool) (xs ys : List Net) → values_after inputs known (xs ++ ys) ≡ values_after inputs (values_after inputs known xs) ys
values-append inputs known [] ys = refl
values-append inputs known (x ∷ xs) ys = values-append inputs (known ++ net_value inputs known x ∷ []) xs ys

-- Chains

abbrev pub last_bit : List Bool → Bool
last_bit v = bit v (length v - 1)

last-push : (v : List Bool) (x : Bool) → last_bit (v ++ x ∷ []) ≡ x
last-push v x =
    let l : length v ≡ length (v ++ x ∷ []) - 1 = omega (arith, length-append v (x ∷ [])) in
    get_or_push v x false (length (v ++ x ∷ []) - 1) l

-- the operands of a list that has grown
bits-kept : (v : List Bool) (x : Bool) (bs : List ℕ) → AllByRecursion (λ b. b < length v) bs → map (bit (v ++ x ∷ [])) bs ≡ map (bit v) bs
bits-kept v x [] h = refl
bits-kept v x (b ∷ bs) h =
    let first : bit (v ++ x ∷ []) b ≡ bit v b = get_or_append_left v (x ∷ []) false b h.0 in
    let rest : map (bit (v ++ x ∷ [])) bs ≡ map (bit v) bs = bits-kept v x bs h.1 in
    rw (first, rest) refl

below-more : (m n : ℕ) (bs : List ℕ) → m ≤ n → AllByRecursion (λ b. b < m) bs → AllByRecursion (λ b. b < n) bs
below-more m n [] h all = all
below-more m n (b ∷ bs) h all = (omega (arith, h, all.0), below-more m n bs h all.1)

module _ (inputs : List Bool) where
  -- two operands or more
  links-value : (op : GateOp) (more : List ℕ) (n a b : ℕ) (v : List Bool) → has_two op ≡ true → n ≡ length v → a < length v → AllByRecursion (λ x. x < length v) (b ∷ more)
      → last_bit (values_after inputs v (links n op a (b ∷ more))) ≡ value_by op (map (bit v) (a ∷ b ∷ more))
  links-value op [] n a b v two count lt below = last-push v (operate op (bit v a) (bit v b)) ∙ two-value op (bit v a) (bit v b) two
  links-value op (c ∷ more) n a b v two count lt below =
      let x = operate (base_op op) (bit v a) (bit v b) in
      let next = v ++ x ∷ [] in
      let l : length next ≡ length v + 1 = length-append v (x ∷ []) in
      let first : bit next n ≡ x = get_or_push v x false n (sym count) in
      let rest : map (bit next) (c ∷ more) ≡ map (bit v) (c ∷ more) = bits-kept v x (c ∷ more) below.1 in
      links-value op more (n + 1) n c next two (omega (arith, count, l)) (omega (arith, count, l)) (below-more (length v) (length next) (c ∷ more) (omega (arith, l)) below.1)
      ∙ ap (λ bits. value_by op (bit next n ∷ bits)) rest ∙ ap (λ d. value_by op (d ∷ map (bit v) (c ∷ more))) first
      ∙ more-value op (bit v a) (bit v b) (map (bit v) (c ∷ more)) two

  pub chain-value : (op : GateOp) (operands : List ℕ) (v : List Bool) → HasArity op operands → AllByRecursion (λ x. x < length v) operands
      → last_bit (values_after inputs v (chain (length v) op operands)) ≡ value_by op (map (bit v) operands)
  chain-value op [] v h below = absurd h
  chain-value op (a ∷ []) v h below = last-push v (operate op (bit v a) false) ∙ one-value op (bit v a) h
  chain-value op (a ∷ b ∷ more) v h below = links-value op more (length v) a b v h refl below.0 below.1
