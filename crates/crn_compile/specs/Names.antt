-- The names of the species of a compiled manifest.
use Rattle.std.specs.Prelude.{ℕ, List, ◌++◌, map, take, Option, Some, None, Bool, true, false, if◌then◌else◌, nat_le, codes}
use Rattle.std.specs.List.{list_any}
use Rattle.surf_kinds.specs.declared.site.SpeciesId.{SpeciesId}
use Rattle.circuit_text.specs.declared.kinds.GateOp.{GateOp}
use Rattle.circuit_text.specs.declared.kinds.GateOp.TheVariants.{And, Or, Xor, Nand, Nor, Xnor, Not, Buf}
use Rattle.crn_compile.specs.Cells.{Known, Neither, First, Second, Cell, Inert, Wire, Vert, PinA, PinB, Cross, Single, Pair, Done}
use Rattle.crn_compile.specs.Species.{species}

abbrev pub bit_text : Bool → List ℕ
bit_text false = codes "0"
bit_text true = codes "1"

abbrev pub half_text : Option Bool → List ℕ
half_text None = codes "x"
half_text (Some d) = bit_text d

abbrev pub op_text : GateOp → List ℕ
op_text And = codes "AND"
op_text Or = codes "OR"
op_text Xor = codes "XOR"
op_text Nand = codes "NAND"
op_text Nor = codes "NOR"
op_text Xnor = codes "XNOR"
op_text Not = codes "NOT"
op_text Buf = codes "BUF"

-- small while blank, and a capital with a bit
abbrev pub one_half : List ℕ → List ℕ → Option Bool → List ℕ
one_half small capital None = small
one_half small capital (Some d) = capital ++ bit_text d

abbrev pub known_text : Known → List ℕ
known_text Neither = codes "xx"
known_text (First d) = bit_text d ++ codes "x"
known_text (Second e) = codes "x" ++ bit_text e

abbrev pub name_of : Cell → List ℕ
name_of Inert = codes "."
name_of (Wire h) = one_half (codes "w") (codes "W") h
name_of (Vert h) = one_half (codes "v") (codes "V") h
name_of (PinA h) = one_half (codes "p") (codes "P") h
name_of (PinB h) = one_half (codes "q") (codes "Q") h
name_of (Cross h k) = codes "c" ++ (half_text h ++ half_text k)
name_of (Single op) = codes "g" ++ op_text op
name_of (Pair op known) = codes "g" ++ (op_text op ++ known_text known)
name_of (Done d) = codes "G" ++ bit_text d

-- the inert species has the last number
abbrev pub is_inert : SpeciesId → Bool
is_inert id = nat_le 55 id.0

-- all names, and those that stand in rules: all but that of the inert species
abbrev pub all_names : List (List ℕ)
all_names = map name_of species

abbrev pub rule_names : List (List ℕ)
rule_names = take 55 all_names

-- the names of a manifest with these species: an inert one has a name only where it stands
abbrev pub names_for : List SpeciesId → List (List ℕ)
names_for S = if list_any is_inert S then all_names else rule_names
