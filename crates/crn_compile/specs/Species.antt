-- The species and the rules of a compiled manifest.
use Rattle.std.specs.Prelude.{ℕ, ◌+◌, List, [], ◌∷◌, ◌++◌, Option, Some, None, Bool, true, false, map, get_or}
use Rattle.std.specs.List.{flat_map}
use Rattle.circuit_text.specs.declared.kinds.GateOp.{GateOp}
use Rattle.circuit_text.specs.declared.kinds.GateOp.TheVariants.{And, Or, Xor, Nand, Nor, Xnor, Not, Buf}
use Rattle.surf_kinds.specs.declared.rule.Rule.{Rule}
use Rattle.surf_kinds.specs.declared.rule.Rule.TheVariants.{Two}
use Rattle.surf_kinds.specs.declared.site.SpeciesId.{SpeciesId}
use Rattle.surf_kinds.specs.Rates.{Fraction}
use Rattle.circuit_text.specs.Values.{operate}
use Rattle.crn_compile.specs.Cells.{Known, Neither, First, Second, Cell, Inert, Wire, Vert, PinA, PinB, Cross, Single, Pair, Done}

-- a rule of the table: the second cell becomes another beside the first, which stays
pub record Filling : Type 0 where
  pub beside : Cell
  pub before : Cell
  pub after : Cell

abbrev pub fills : Cell → Cell → Cell → Filling
fills x y z = record { beside = x; before = y; after = z }

abbrev pub bits : List Bool
bits = false ∷ true ∷ []

abbrev pub half_bits : List (Option Bool)
half_bits = None ∷ Some false ∷ Some true ∷ []

abbrev pub pairs_of_gates : List GateOp
pairs_of_gates = And ∷ Or ∷ Xor ∷ Nand ∷ Nor ∷ Xnor ∷ []

-- one rule for each bit, and for each bit with each half or bit
abbrev pub each_bit : (Bool → Filling) → List Filling
each_bit f = map f bits

abbrev pub each_half : (Bool → Option Bool → Filling) → List Filling
each_half f = flat_map (λ d. map (f d) half_bits) bits

abbrev pub each_pair : (Bool → Bool → Filling) → List Filling
each_pair f = flat_map (λ d. map (f d) bits) bits

-- the rules of a gate with two operands
abbrev pub gate_rules : GateOp → List Filling
gate_rules op =
    each_bit (λ d. fills (PinA (Some d)) (Pair op Neither) (Pair op (First d))) ++
    (each_pair (λ d e. fills (PinA (Some d)) (Pair op (Second e)) (Done (operate op d e))) ++
    (each_bit (λ e. fills (PinB (Some e)) (Pair op Neither) (Pair op (Second e))) ++
    each_pair (λ e d. fills (PinB (Some e)) (Pair op (First d)) (Done (operate op d e)))))

-- the rules of a gate with one operand
abbrev pub single_rules : GateOp → List Filling
single_rules op = each_bit (λ d. fills (PinA (Some d)) (Single op) (Done (operate op d false)))

-- the rules, in their order
abbrev pub fillings : List Filling
fillings =
    each_bit (λ d. fills (Wire (Some d)) (Wire None) (Wire (Some d))) ++
    (each_bit (λ d. fills (Wire (Some d)) (Vert None) (Vert (Some d))) ++
    (each_bit (λ d. fills (Vert (Some d)) (Vert None) (Vert (Some d))) ++
    (each_bit (λ d. fills (Vert (Some d)) (Wire None) (Wire (Some d))) ++
    (each_bit (λ d. fills (Vert (Some d)) (PinA None) (PinA (Some d))) ++
    (each_bit (λ d. fills (Vert (Some d)) (PinB None) (PinB (Some d))) ++
    (each_half (λ d h. fills (Wire (Some d)) (Cross None h) (Cross (Some d) h)) ++
    (each_half (λ d h. fills (Vert (Some d)) (Cross h None) (Cross h (Some d))) ++
    (each_half (λ d h. fills (Cross (Some d) h) (Wire None) (Wire (Some d))) ++
    (each_half (λ d h. fills (Cross h (Some d)) (Vert None) (Vert (Some d))) ++
    (flat_map gate_rules pairs_of_gates ++
    (single_rules Not ++
    (single_rules Buf ++
    each_bit (λ d. fills (Done d) (Wire None) (Wire (Some d)))))))))))))))

-- the species, by their numbers: as they first appear in the rules, and the inert one
abbrev pub gate_species : GateOp → List Cell
gate_species op = Pair op Neither ∷ Pair op (First false) ∷ Pair op (First true) ∷ Pair op (Second false) ∷ Pair op (Second true) ∷ []

abbrev pub species : List Cell
species =
    Wire (Some false) ∷ Wire None ∷ Wire (Some true) ∷
    Vert None ∷ Vert (Some false) ∷ Vert (Some true) ∷
    PinA None ∷ PinA (Some false) ∷ PinA (Some true) ∷
    PinB None ∷ PinB (Some false) ∷ PinB (Some true) ∷
    Cross None None ∷ Cross (Some false) None ∷ Cross None (Some false) ∷ Cross (Some false) (Some false) ∷ Cross None (Some true) ∷ Cross (Some false) (Some true) ∷
    Cross (Some true) None ∷ Cross (Some true) (Some false) ∷ Cross (Some true) (Some true) ∷
    Pair And Neither ∷ Pair And (First false) ∷ Pair And (First true) ∷ Pair And (Second false) ∷ Done false ∷ Pair And (Second true) ∷ Done true ∷
    gate_species Or ++ (gate_species Xor ++ (gate_species Nand ++ (gate_species Nor ++ (gate_species Xnor ++
    (Single Not ∷ Single Buf ∷ Inert ∷ [])))))

-- the cell of a species
abbrev pub cell_of : SpeciesId → Cell
cell_of s = get_or species s.0 Inert

-- the first number of a gate's species
abbrev pub gate_number : GateOp → ℕ
gate_number And = 21
gate_number Or = 28
gate_number Xor = 33
gate_number Nand = 38
gate_number Nor = 43
gate_number Xnor = 48
gate_number Not = 53
gate_number Buf = 54

abbrev pub known_number : GateOp → Known → ℕ
known_number And (Second true) = 26
known_number op Neither = gate_number op
known_number op (First false) = gate_number op + 1
known_number op (First true) = gate_number op + 2
known_number op (Second false) = gate_number op + 3
known_number op (Second true) = gate_number op + 4

-- the number of a species
abbrev pub number_of : Cell → ℕ
number_of (Wire (Some false)) = 0
number_of (Wire None) = 1
number_of (Wire (Some true)) = 2
number_of (Vert None) = 3
number_of (Vert (Some false)) = 4
number_of (Vert (Some true)) = 5
number_of (PinA None) = 6
number_of (PinA (Some false)) = 7
number_of (PinA (Some true)) = 8
number_of (PinB None) = 9
number_of (PinB (Some false)) = 10
number_of (PinB (Some true)) = 11
number_of (Cross None None) = 12
number_of (Cross (Some false) None) = 13
number_of (Cross None (Some false)) = 14
number_of (Cross (Some false) (Some false)) = 15
number_of (Cross None (Some true)) = 16
number_of (Cross (Some false) (Some true)) = 17
number_of (Cross (Some true) None) = 18
number_of (Cross (Some true) (Some false)) = 19
number_of (Cross (Some true) (Some true)) = 20
number_of (Pair op known) = known_number op known
number_of (Done false) = 25
number_of (Done true) = 27
number_of (Single op) = gate_number op
number_of Inert = 55

-- the species of a cell
abbrev pub id_of : Cell → SpeciesId
id_of x = record { 0 = number_of x }

-- all rates are 1
abbrev pub unit_rate : Fraction
unit_rate = record { p = 1; q = 1 }

abbrev pub rule_of : Filling → Rule
rule_of f = Two unit_rate (id_of f.beside) (id_of f.before) (id_of f.beside) (id_of f.after)

-- a row of the code's table: the first reactant, the second, and what it becomes
abbrev pub rule_of_row : ℕ × ℕ × ℕ → Rule
rule_of_row r = Two unit_rate (record { 0 = r.0 }) (record { 0 = r.1 }) (record { 0 = r.0 }) (record { 0 = r.2 })

-- the rules of a compiled manifest
unfoldable pub circuit_rules : List Rule
circuit_rules = map rule_of fillings
