-- The operands of a text, one after the other.
use Rattle.std.proofs.Common.{◌≡◌, ◌≤◌, ◌+◌, ℕ, ◌==◌, List, [], ◌∷◌, length, map, None, Some, ap, arith}
use Rattle.std.proofs.lemmas.List.{length-map}
use Rattle.std.proofs.lemmas.List.Splits.{length-slice_split}
use Rattle.std.proofs.lemmas.List.Sums.{count_by-le-length}
use Rattle.std.specs.List.{slice_split}
use Rattle.surf_text.specs.Lines.{trimmed}
use Rattle.surf_text.specs.Cuts.{cut_at}
use Rattle.surf_text.proofs.LawLemmas.{pieces-cut, pieces-uncut}
use Rattle.bench_read.specs.Lines.{operands_of}

pub operands-cut : (text front back : List ℕ) → Some (front, back) ≡ cut_at 44 text → operands_of text ≡ trimmed front ∷ operands_of back
operands-cut text front back e = ap (map trimmed) (pieces-cut (λ c. c == 44) text front back e)

pub operands-last : (text : List ℕ) → None ≡ cut_at 44 text → operands_of text ≡ trimmed text ∷ []
operands-last text e = ap (map trimmed) (pieces-uncut (λ c. c == 44) text e)

pub some-none : {X : Type 0} (x : X) (xs ys : List X) → xs ≡ x ∷ ys → xs ≡ [] → ⊥
some-none x xs ys e h = cc

pub operands_few : (text : List ℕ) → length (operands_of text) ≤ length text + 1
operands_few text =
    omega (arith, length-map (slice_split (λ c. c == 44) text) trimmed, length-slice_split (λ c. c == 44) text, count_by-le-length (λ c. c == 44) text)
