-- The messages that are known to wait, once the first is taken.
use Rattle.std.proofs.Common.{◌≡◌, ℕ, zero, suc, ◌-◌, ◌≤◌, List, [], ◌∷◌, ◌++◌, length, take, drop, refl, sym, ap, arith}
use Rattle.std.proofs.lemmas.List.{take-append-le}
use mathlib.Core.List.{IsPrefix}
use Rattle.border.specs.declared.op.Op.{Op}

abbrev tail_of : List Op → List Op
tail_of [] = []
tail_of (x ∷ xs) = xs

-- of w known messages, or of more that became known with the first of them
pub take-tail : (w : ℕ) (xs ys : List Op) (x : Op) → IsPrefix xs (x ∷ ys) → w ≤ length xs → take (w - 1) ys ≡ drop 1 (take w xs)
take-tail zero xs ys x p h = refl
take-tail (suc n) [] ys x p h = absurd (omega arith)
take-tail (suc n) (z ∷ zs) ys x p h =
    let less : suc n - 1 ≡ n = omega arith in
    let rest : zs ++ p.0 ≡ ys = ap tail_of p.1 in
    rw (less, sym rest) (take-append-le n zs p.0 (omega arith))
