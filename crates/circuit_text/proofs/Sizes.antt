-- A text names no more outputs than it has bytes.
use Rattle.std.proofs.Common.{◌≡◌, ℕ, suc, ◌≤◌, ◌==◌, Bool, true, false, not, ◌&&◌, cond, refl, List, [], ◌∷◌, length, filter, Option, Some, None, arith, if◌then◌else◌}
use Rattle.std.specs.Prelude.{codes}
use Rattle.std.specs.List.{slice_split, onto_first, sum_by}
use Rattle.std.specs.Str.{bytes_eq}
use Rattle.std.proofs.lemmas.List.Sums.{sum_by-cons}
use Rattle.surf_text.specs.Lines.{lines_of, is_blank, trim_front, trim_back, onto_trimmed, trimmed}
use Rattle.surf_text.specs.Cuts.{with_front, cut_at, is_word, words_of}
use Rattle.circuit_text.specs.declared.kinds.GateOp.{GateOp}
use Rattle.circuit_text.specs.Values.{has_two}
use Rattle.circuit_text.specs.Names.{Name, is_name, are_names}
use Rattle.circuit_text.specs.Lines.{Inputs, Outputs, OneGate, TwoGate, Formless, op_of, one_operand, two_operands, gate_of, plain_of, names_or, sort_by, before_comment, bare_line, sort_of}
use Rattle.circuit_text.specs.Circuits.{puts_out}

-- Lines, and what is cut from one

onto_bytes : (c n : ℕ) (ls : List (List ℕ)) → sum_by length ls ≤ n → sum_by length (onto_first c ls) ≤ suc n
onto_bytes c n [] h = omega arith
onto_bytes c n (l ∷ ls) h = omega (arith, h, sum_by-cons length l ls, sum_by-cons length (c ∷ l) ls)

pub lines_bytes : (text : List ℕ) → sum_by length (lines_of text) ≤ length text
lines_bytes [] = omega arith
lines_bytes (c ∷ cs) = elim (c == 10) as (λ t. sum_by length (cond t ([] ∷ lines_of cs) (onto_first c (lines_of cs))) ≤ suc (length cs)) [
  | true ↦ omega (arith, lines_bytes cs)
  | false ↦ onto_bytes c (length cs) (lines_of cs) (lines_bytes cs)
]

front_short : (c : ℕ) (cs : List ℕ) → length (trim_front cs) ≤ length cs → length (cond (is_blank c) (trim_front cs) (c ∷ cs)) ≤ suc (length cs)
front_short c cs h = elim (is_blank c) as (λ t. length (cond t (trim_front cs) (c ∷ cs)) ≤ suc (length cs)) [
  | true ↦ omega (arith, h)
  | false ↦ omega arith
]

trim_front_short : (cs : List ℕ) → length (trim_front cs) ≤ length cs
trim_front_short [] = omega arith
trim_front_short (c ∷ cs) = front_short c cs (trim_front_short cs)

kept_short : (c : ℕ) (ds : List ℕ) → length (onto_trimmed c ds) ≤ suc (length ds)
kept_short c [] = elim (is_blank c) as (λ t. length (cond t [] (c ∷ [])) ≤ 1) [ true ↦ omega arith | false ↦ omega arith ]
kept_short c (d ∷ ds) = omega arith

trim_back_short : (cs : List ℕ) → length (trim_back cs) ≤ length cs
trim_back_short [] = omega arith
trim_back_short (c ∷ cs) = omega (arith, kept_short c (trim_back cs), trim_back_short cs)

trimmed_short : (cs : List ℕ) → length (trimmed cs) ≤ length cs
trimmed_short cs = omega (arith, trim_back_short (trim_front cs), trim_front_short cs)

-- what stands before a cut is no longer than this
abbrev IsWithin : ℕ → Option (List ℕ × List ℕ) → Type 0
IsWithin n None = Unit {0}
IsWithin n (Some p) = length p.0 ≤ n

within_onto : (c n : ℕ) (o : Option (List ℕ × List ℕ)) → IsWithin n o → IsWithin (suc n) (with_front c o)
within_onto c n None h = tt
within_onto c n (Some p) h = omega (arith, h)

cut_within : (byte : ℕ) (cs : List ℕ) → IsWithin (length cs) (cut_at byte cs)
cut_within byte [] = tt
cut_within byte (c ∷ cs) = elim (c == byte) as (λ t. IsWithin (suc (length cs)) (cond t (Some ([], cs)) (with_front c (cut_at byte cs)))) [
  | true ↦ omega arith
  | false ↦ within_onto c (length cs) (cut_at byte cs) (cut_within byte cs)
]

before_short : (line : List ℕ) (o : Option (List ℕ × List ℕ)) → IsWithin (length line) o → length (before_comment line o) ≤ length line
before_short line None h = omega arith
before_short line (Some p) h = h

bare_short : (line : List ℕ) → length (bare_line line) ≤ length line
bare_short line = omega (arith, trimmed_short (before_comment line (cut_at 35 line)), before_short line (cut_at 35 line) (cut_within 35 line))

-- Words

more_words : (p : List ℕ) (ps : List (List ℕ)) → length (filter is_word ps) ≤ length (filter is_word (p ∷ ps))
more_words p ps = elim (is_word p) as (λ t. length (filter is_word ps) ≤ length (cond t (p ∷ filter is_word ps) (filter is_word ps))) [
  | true ↦ omega arith
  | false ↦ omega arith
]

onto_words : (c n : ℕ) (ps : List (List ℕ)) → length (filter is_word ps) ≤ n → length (filter is_word (onto_first c ps)) ≤ suc n
onto_words c n [] h = omega arith
onto_words c n (p ∷ ps) h = elim (is_word (c ∷ p)) as (λ t. length (cond t ((c ∷ p) ∷ filter is_word ps) (filter is_word ps)) ≤ suc n) [
  | true ↦ omega (arith, h, more_words p ps)
  | false ↦ omega (arith, h, more_words p ps)
]

words_few : (text : List ℕ) → length (words_of text) ≤ length text
words_few [] = omega arith
words_few (c ∷ cs) = elim (is_blank c) as (λ t. length (filter is_word (cond t ([] ∷ slice_split is_blank cs) (onto_first c (slice_split is_blank cs)))) ≤ suc (length cs)) [
  | true ↦ omega (arith, words_few cs)
  | false ↦ onto_words c (length cs) (slice_split is_blank cs) (words_few cs)
]

-- Outputs

inputs_none : (names : List Name) (b : Bool) → length (puts_out (if b then Inputs names else Formless)) ≤ length names
inputs_none names true = omega arith
inputs_none names false = omega arith

named_few : (names : List Name) (b : Bool) → length (puts_out (if b then Outputs names else Formless)) ≤ length names
named_few names true = omega arith
named_few names false = omega arith

by_word : (names : List Name) (b c : Bool) → length (puts_out (if b then names_or Inputs names else (if c then names_or Outputs names else Formless))) ≤ length names
by_word names true c = inputs_none names (are_names names)
by_word names false true = named_few names (are_names names)
by_word names false false = omega arith

plain_few : (words : List Name) → length (puts_out (plain_of words)) ≤ length words
plain_few [] = omega arith
plain_few (word ∷ names) = omega (arith, by_word names (bytes_eq word (codes "input")) (bytes_eq word (codes "output")))

one_none : (name a : Name) (o : Option GateOp) → length (puts_out (one_operand name o a)) ≡ 0
one_none name a None = refl
one_none name a (Some op) = by (is_name name && (is_name a && not (has_two op)))
  where
    by : (b : Bool) → length (puts_out (if b then OneGate name op a else Formless)) ≡ 0
    by true = refl
    by false = refl

two_none : (name a b : Name) (o : Option GateOp) → length (puts_out (two_operands name o a b)) ≡ 0
two_none name a b None = refl
two_none name a b (Some op) = by (is_name name && (is_name a && (is_name b && has_two op)))
  where
    by : (t : Bool) → length (puts_out (if t then TwoGate name op a b else Formless)) ≡ 0
    by true = refl
    by false = refl

gate_none : (name : Name) (words : List Name) → length (puts_out (gate_of name words)) ≡ 0
gate_none name [] = refl
gate_none name (op ∷ []) = refl
gate_none name (op ∷ a ∷ []) = one_none name a (op_of op)
gate_none name (op ∷ a ∷ b ∷ []) = two_none name a b (op_of op)
gate_none name (op ∷ a ∷ b ∷ c ∷ more) = refl

by_cut : (text : List ℕ) (o : Option (List ℕ × List ℕ)) → length (puts_out (sort_by text o)) ≤ length text
by_cut text None = omega (arith, plain_few (words_of text), words_few text)
by_cut text (Some p) = omega (arith, gate_none (trimmed p.0) (words_of p.1))

-- a line names no more outputs than it has bytes
pub outputs_few : (line : List ℕ) → length (puts_out (sort_of line)) ≤ length line
outputs_few line = omega (arith, by_cut (bare_line line) (cut_at 61 (bare_line line)), bare_short line)
