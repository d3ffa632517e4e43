-- What a line of a netlist is, by itself.
use Rattle.std.specs.Prelude.{ℕ, Bool, true, false, not, List, [], ◌∷◌, Option, Some, None, ◌&&◌, ◌||◌, ◌==◌, length, map, nat_le, if◌then◌else◌, codes}
use Rattle.std.specs.List.{list_all, slice_split}
use Rattle.std.specs.Str.{bytes_eq}
use Rattle.std.specs.Char.{to_ascii_lowercase}
use Rattle.surf_text.specs.Lines.{is_blank, trimmed}
use Rattle.surf_text.specs.Cuts.{cut_at}
use Rattle.circuit_text.specs.declared.kinds.GateOp.{GateOp}
use Rattle.circuit_text.specs.declared.kinds.GateOp.TheVariants.{And, Or, Xor, Nand, Nor, Xnor, Not, Buf}
use Rattle.circuit_text.specs.Values.{has_two}
use Rattle.circuit_text.specs.Lines.{bare_line}

abbrev pub Name : Type 0
Name = List ℕ

-- any byte but a blank, # (35), ( (40), ) (41), the comma (44) and = (61)
abbrev pub is_name_byte : ℕ → Bool
is_name_byte c = not (is_blank c || (c == 35 || (c == 40 || (c == 41 || (c == 44 || c == 61)))))

-- one or more such bytes
abbrev pub is_name : Name → Bool
is_name word = not (length word == 0) && list_all is_name_byte word

pub data LineSort : Type 0 where
  Blank : LineSort
  Input : (name : Name) → LineSort
  Output : (name : Name) → LineSort
  Gate : (name : Name) (op : GateOp) (operands : List Name) → LineSort
  Flop : LineSort
  Formless : LineSort

-- the two words are the same in any mixture of cases
abbrev pub spells : List ℕ → List ℕ → Bool
spells word text = bytes_eq (map to_ascii_lowercase word) (map to_ascii_lowercase text)

-- the operation of a word
abbrev pub op_of : List ℕ → Option GateOp
op_of word =
    if spells word (codes "AND") then Some And
    else (if spells word (codes "OR") then Some Or
    else (if spells word (codes "XOR") then Some Xor
    else (if spells word (codes "NAND") then Some Nand
    else (if spells word (codes "NOR") then Some Nor
    else (if spells word (codes "XNOR") then Some Xnor
    else (if spells word (codes "NOT") then Some Not
    else (if spells word (codes "BUF") then Some Buf
    else (if spells word (codes "BUFF") then Some Buf
    else None))))))))

-- an operation has 2 to 64 operands, NOT, BUF and BUFF one
abbrev pub fits : GateOp → ℕ → Bool
fits op count = if has_two op then nat_le 2 count && nat_le count 64 else count == 1

-- what stands between the brackets, where nothing but blanks stands behind them
abbrev pub closed : Option (List ℕ × List ℕ) → Option (List ℕ)
closed None = None
closed (Some p) = if length (trimmed p.1) == 0 then Some p.0 else None

abbrev pub with_word : List ℕ → Option (List ℕ) → Option (List ℕ × List ℕ)
with_word word None = None
with_word word (Some inside) = Some (word, inside)

abbrev pub bracketed : Option (List ℕ × List ℕ) → Option (List ℕ × List ℕ)
bracketed None = None
bracketed (Some p) = with_word (trimmed p.0) (closed (cut_at 41 p.1))

-- a text `word(inside)` by its first bracket and the first one behind it that closes
abbrev pub call_of : List ℕ → Option (List ℕ × List ℕ)
call_of text = bracketed (cut_at 40 text)

-- the operands between the brackets
abbrev pub operands_of : List ℕ → List Name
operands_of inside = map trimmed (slice_split (λ c. c == 44) inside)

-- a line without a `=`
abbrev pub declared_as : Option (List ℕ × List ℕ) → LineSort
declared_as None = Formless
declared_as (Some p) =
    if is_name (trimmed p.1) then
    (if spells p.0 (codes "INPUT") then Input (trimmed p.1) else (if spells p.0 (codes "OUTPUT") then Output (trimmed p.1) else Formless))
    else Formless

abbrev pub gate_by : Name → Option GateOp → List Name → LineSort
gate_by name None operands = Formless
gate_by name (Some op) operands = if list_all is_name operands && fits op (length operands) then Gate name op operands else Formless

-- a line by the name before its first `=` and the text behind it; DFF has any operands
abbrev pub gate_of : Name → Option (List ℕ × List ℕ) → LineSort
gate_of name None = Formless
gate_of name (Some p) =
    if is_name name then (if spells p.0 (codes "DFF") then Flop else gate_by name (op_of p.0) (operands_of p.1)) else Formless

abbrev pub filled_sort : List ℕ → Option (List ℕ × List ℕ) → LineSort
filled_sort text None = declared_as (call_of text)
filled_sort text (Some p) = gate_of (trimmed p.0) (call_of p.1)

-- a line by its bare text: without its comment, and without blanks at its ends
abbrev pub sort_by : List ℕ → LineSort
sort_by text = if length text == 0 then Blank else filled_sort text (cut_at 61 text)

-- what a line is
abbrev pub sort_of : List ℕ → LineSort
sort_of line = sort_by (bare_line line)
