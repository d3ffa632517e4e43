-- What a line of a circuit text is, by itself.
use Rattle.std.specs.Prelude.{ℕ, not, List, [], ◌∷◌, Option, Some, None, ◌&&◌, if◌then◌else◌, codes}
use Rattle.std.specs.Str.{bytes_eq}
use Rattle.surf_text.specs.Lines.{trimmed}
use Rattle.surf_text.specs.Cuts.{cut_at, words_of}
use Rattle.circuit_text.specs.declared.kinds.GateOp.{GateOp}
use Rattle.circuit_text.specs.declared.kinds.GateOp.TheVariants.{And, Or, Xor, Nand, Nor, Xnor, Not, Buf}
use Rattle.circuit_text.specs.Values.{has_two}
use Rattle.circuit_text.specs.Names.{Name, is_name, are_names}

pub data LineSort : Type 0 where
  Blank : LineSort
  Inputs : (names : List Name) → LineSort
  Outputs : (names : List Name) → LineSort
  OneGate : (name : Name) (op : GateOp) (a : Name) → LineSort
  TwoGate : (name : Name) (op : GateOp) (a b : Name) → LineSort
  Formless : LineSort

-- the operation of a word
abbrev pub op_of : List ℕ → Option GateOp
op_of word =
    if bytes_eq word (codes "AND") then Some And
    else (if bytes_eq word (codes "OR") then Some Or
    else (if bytes_eq word (codes "XOR") then Some Xor
    else (if bytes_eq word (codes "NAND") then Some Nand
    else (if bytes_eq word (codes "NOR") then Some Nor
    else (if bytes_eq word (codes "XNOR") then Some Xnor
    else (if bytes_eq word (codes "NOT") then Some Not
    else (if bytes_eq word (codes "BUF") then Some Buf
    else None)))))))

abbrev pub one_operand : Name → Option GateOp → Name → LineSort
one_operand name None a = Formless
one_operand name (Some op) a = if is_name name && (is_name a && not (has_two op)) then OneGate name op a else Formless

abbrev pub two_operands : Name → Option GateOp → Name → Name → LineSort
two_operands name None a b = Formless
two_operands name (Some op) a b = if is_name name && (is_name a && (is_name b && has_two op)) then TwoGate name op a b else Formless

-- a gate line: the name before the first `=`, and the words after it
abbrev pub gate_of : Name → List (List ℕ) → LineSort
gate_of name [] = Formless
gate_of name (op ∷ []) = Formless
gate_of name (op ∷ a ∷ []) = one_operand name (op_of op) a
gate_of name (op ∷ a ∷ b ∷ []) = two_operands name (op_of op) a b
gate_of name (op ∷ a ∷ b ∷ c ∷ more) = Formless

abbrev pub names_or : (List Name → LineSort) → List Name → LineSort
names_or sort names = if are_names names then sort names else Formless

-- a line without a `=`, by its words
abbrev pub plain_of : List (List ℕ) → LineSort
plain_of [] = Blank
plain_of (word ∷ names) =
    if bytes_eq word (codes "input") then names_or Inputs names
    else (if bytes_eq word (codes "output") then names_or Outputs names else Formless)

-- a line by its first `=` (61)
abbrev pub sort_by : List ℕ → Option (List ℕ × List ℕ) → LineSort
sort_by text None = plain_of (words_of text)
sort_by text (Some p) = gate_of (trimmed p.0) (words_of p.1)

-- what stands before a comment
abbrev pub before_comment : List ℕ → Option (List ℕ × List ℕ) → List ℕ
before_comment line None = line
before_comment line (Some p) = p.0

-- a line without its comment, which begins with # (35), and without blanks at the ends
abbrev pub bare_line : List ℕ → List ℕ
bare_line line = trimmed (before_comment line (cut_at 35 line))

-- what a line is
abbrev pub sort_of : List ℕ → LineSort
sort_of line = sort_by (bare_line line) (cut_at 61 (bare_line line))
