-- The order in which the nets of a netlist are placed.
--
-- The lines that define nets are numbered from 0. The operands of a gate are the numbers of the lines that define them.
use Rattle.std.specs.Prelude.{ℕ, zero, suc, ◌+◌, Bool, true, false, not, ◌&&◌, ◌==◌, List, [], ◌∷◌, ◌++◌, length, map, filter, get_or, Option, Some, None, if◌then◌else◌}
use Rattle.std.specs.List.{list_all, list_any, flat_map, position_or_len, range_with_len}
use Rattle.species.specs.Texts.{index_of}
use Rattle.circuit_text.specs.declared.kinds.GateOp.{GateOp}
use Rattle.bench_read.specs.Lines.{Name, LineSort, Blank, Input, Output, Gate, Flop, Formless}
use Rattle.bench_read.specs.Passes.{defines}

-- what a line defines
pub data Item : Type 0 where
  InputNet : Item
  GateNet : (op : GateOp) (operands : List ℕ) → Item

-- what a line defines, where these are the names that all lines define
abbrev pub items_in : List Name → LineSort → List Item
items_in names Blank = []
items_in names (Input name) = InputNet ∷ []
items_in names (Output name) = []
items_in names (Gate name op operands) = GateNet op (map (index_of names) operands) ∷ []
items_in names Flop = []
items_in names Formless = []

-- the number of its line for each net that a line defines, where the next line has this number
unfoldable pub lines_from : ℕ → List LineSort → List ℕ
lines_from number [] = []
lines_from number (line ∷ lines) = map (λ name. number) (defines line) ++ lines_from (number + 1) lines

abbrev pub is_input : Item → Bool
is_input InputNet = true
is_input (GateNet op operands) = false

abbrev pub operands_at : Item → List ℕ
operands_at InputNet = []
operands_at (GateNet op operands) = operands

abbrev pub item_at : List Item → ℕ → Item
item_at items d = get_or items d InputNet

abbrev pub is_placed : List ℕ → ℕ → Bool
is_placed placed d = list_any (λ e. e == d) placed

-- a gate that isn't placed and whose operands all are
abbrev pub is_ready : List Item → List ℕ → ℕ → Bool
is_ready items placed d =
    not (is_input (item_at items d)) && (not (is_placed placed d) && list_all (is_placed placed) (operands_at (item_at items d)))

-- the number of the first item below `count` that is ready; `count` where there is none
abbrev pub next_of : List Item → List ℕ → ℕ
next_of items placed = position_or_len (is_ready items placed) (range_with_len 0 (length items))

-- the inputs, in their order
abbrev pub inputs_of : List Item → List ℕ
inputs_of items = filter (λ d. is_input (item_at items d)) (range_with_len 0 (length items))

-- the next gate placed is the first one that is ready, until there is none
unfoldable pub placed_after : ℕ → List Item → List ℕ → List ℕ
placed_after zero items placed = placed
placed_after (suc steps) items placed =
    if next_of items placed == length items then placed else placed_after steps items (placed ++ next_of items placed ∷ [])

-- the inputs, and then the gates in the order in which they are placed
abbrev pub order_of : List Item → List ℕ
order_of items = placed_after (length items) items (inputs_of items)

-- the place of an item in the order
abbrev pub place_of : List ℕ → ℕ → ℕ
place_of order d = position_or_len (λ e. e == d) order

-- the first of so many items that isn't placed; their number where each is
abbrev pub first_unplaced : ℕ → List ℕ → ℕ
first_unplaced count placed = position_or_len (λ d. not (is_placed placed d)) (range_with_len 0 count)
