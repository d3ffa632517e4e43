-- Each line is formed.
use Rattle.std.proofs.Common.{◌≡◌, ℕ, Bool, true, false, not, ◌&&◌, ◌==◌, List, [], ◌∷◌, length, Option, Some, None, refl, if◌then◌else◌}
use Rattle.std.proofs.lemmas.Bool.{and_parts}
use Rattle.std.specs.Prelude.{codes}
use Rattle.std.specs.List.{list_all}
use Rattle.std.specs.Str.{bytes_eq}
use Rattle.surf_text.specs.Lines.{trimmed}
use Rattle.surf_text.specs.Cuts.{cut_at, words_of}
use Rattle.circuit_text.specs.declared.kinds.GateOp.{GateOp}
use Rattle.circuit_text.specs.Values.{has_two}
use Rattle.circuit_text.specs.Names.{Name, is_name, are_names}
use Rattle.circuit_text.specs.Lines.{Inputs, Outputs, OneGate, TwoGate, Formless, op_of, one_operand, two_operands, gate_of, plain_of, names_or, sort_by, bare_line, sort_of}
use Rattle.circuit_text.specs.Formed.{IsFormed}

one_formed : (name a : Name) (op : GateOp) (b : Bool) → has_two op ≡ b → (c d : Bool) → IsFormed (if c && (d && not b) then OneGate name op a else Formless)
one_formed name a op true is true true = tt
one_formed name a op true is true false = tt
one_formed name a op true is false d = tt
one_formed name a op false is true true = is
one_formed name a op false is true false = tt
one_formed name a op false is false d = tt

two_formed : (name a b : Name) (op : GateOp) (t : Bool) → has_two op ≡ t → (c d e : Bool) → IsFormed (if c && (d && (e && t)) then TwoGate name op a b else Formless)
two_formed name a b op t is false d e = tt
two_formed name a b op t is true false e = tt
two_formed name a b op t is true true false = tt
two_formed name a b op true is true true true = is
two_formed name a b op false is true true true = tt

one_line : (name a : Name) (o : Option GateOp) → IsFormed (one_operand name o a)
one_line name a None = tt
one_line name a (Some op) = one_formed name a op (has_two op) refl (is_name name) (is_name a)

two_line : (name a b : Name) (o : Option GateOp) → IsFormed (two_operands name o a b)
two_line name a b None = tt
two_line name a b (Some op) = two_formed name a b op (has_two op) refl (is_name name) (is_name a) (is_name b)

pub gate_line : (name : Name) (words : List Name) → IsFormed (gate_of name words)
gate_line name [] = tt
gate_line name (op ∷ []) = tt
gate_line name (op ∷ a ∷ []) = one_line name a (op_of op)
gate_line name (op ∷ a ∷ b ∷ []) = two_line name a b (op_of op)
gate_line name (op ∷ a ∷ b ∷ c ∷ words) = tt

inputs_line : (names : List Name) (b : Bool) → are_names names ≡ b → IsFormed (if b then Inputs names else Formless)
inputs_line names true h = (and_parts (not (length names == 0)) (list_all is_name names) h).1
inputs_line names false h = tt

outputs_line : (names : List Name) (b : Bool) → are_names names ≡ b → IsFormed (if b then Outputs names else Formless)
outputs_line names true h = (and_parts (not (length names == 0)) (list_all is_name names) h).1
outputs_line names false h = tt

by_word : (names : List Name) (b c : Bool) → IsFormed (if b then names_or Inputs names else (if c then names_or Outputs names else Formless))
by_word names true c = inputs_line names (are_names names) refl
by_word names false true = outputs_line names (are_names names) refl
by_word names false false = tt

plain_line : (words : List Name) → IsFormed (plain_of words)
plain_line [] = tt
plain_line (word ∷ names) = by_word names (bytes_eq word (codes "input")) (bytes_eq word (codes "output"))

by_cut : (text : List ℕ) (cut : Option (List ℕ × List ℕ)) → IsFormed (sort_by text cut)
by_cut text (Some p) = gate_line (trimmed p.0) (words_of p.1)
by_cut text None = plain_line (words_of text)

pub line_formed : (line : List ℕ) → IsFormed (sort_of line)
line_formed line = by_cut (bare_line line) (cut_at 61 (bare_line line))
