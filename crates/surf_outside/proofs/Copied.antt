-- What a read from memory takes.
use Rattle.std.proofs.Common.{◌≡◌, ℕ, ◌+◌, ◌-◌, ◌≤◌, List, ◌++◌, length, take, drop, sym, ap, ◌∙◌, arith, subst}
use Rattle.std.proofs.Math.Seq.{take-append_seam}
use Rattle.std.proofs.lemmas.List.{drop-drop, take-append-drop, length-drop, length-take-le}

-- n bytes copied from a place on are n bytes
pub length-copied : (bytes copied : List ℕ) (at n : ℕ) → n ≤ length bytes - at → copied ≡ take (at + n - at) (drop at bytes) → length copied ≡ n
length-copied bytes copied at n h same =
    let e : at + n - at ≡ n = omega arith in
    let fits : n ≤ length (drop at bytes) = omega (arith, length-drop at bytes) in
    ap length (rw e at same) ∙ length-take-le n (drop at bytes) fits

-- the bytes from a place on, where the first n of them stand at the start of a buffer
pub drop-copied : (bytes copied rest : List ℕ) (at n : ℕ) → n ≤ length bytes - at → copied ≡ take (at + n - at) (drop at bytes)
    → drop at bytes ≡ take n (copied ++ rest) ++ drop (at + n) bytes
drop-copied bytes copied rest at n h same =
    let e : at + n - at ≡ n = omega arith in
    let first : copied ≡ take n (drop at bytes) = rw e at same in
    let size = length-copied bytes copied at n h same in
    let seam : take n (copied ++ rest) ≡ copied = subst (λ k. take k (copied ++ rest) ≡ copied) size (take-append_seam copied rest) in
    rw (seam, first, ← drop-drop n at bytes) (sym (take-append-drop n (drop at bytes)))
