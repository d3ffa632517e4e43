-- What the lines define, where the first two passes found no fault.
use Rattle.std.proofs.Common.{◌≡◌, ℕ, zero, suc, ◌+◌, ◌<◌, ◌≤◌, Bool, true, false, cond, not, ◌&&◌, ◌==◌, List, [], ◌∷◌, ◌++◌, length, map, get_or, Option, None, Some, refl, sym, ap, ◌∙◌, arith, subst, nat_le, nat_lt, if◌then◌else◌, codes, eqb-true}
use Rattle.std.specs.List.{list_all, flat_map, AllByRecursion, All, sum_by}
use Rattle.std.proofs.lemmas.Bool.{and_parts, false≢true}
use Rattle.std.proofs.lemmas.Bool.Decides.{nat_tests}
use Rattle.std.proofs.lemmas.List.{length-append, length-map}
use Rattle.std.proofs.lemmas.List.Elements.{All-from_recursion, All-get_or}
use Rattle.std.proofs.lemmas.List.Sums.{sum_by-cons}
use Rattle.surf_text.specs.Lines.{trimmed}
use Rattle.surf_text.specs.Cuts.{cut_at}
use Rattle.species.specs.Texts.{is_in, index_of}
use Rattle.circuit_text.specs.declared.kinds.GateOp.{GateOp}
use Rattle.circuit_text.specs.Values.{has_two}
use Rattle.circuit_text.specs.Lines.{bare_line}
use Rattle.bench_read.specs.declared.fault.BenchKind.{BenchKind}
use Rattle.bench_read.specs.declared.fault.BenchKind.TheVariants.{NetTwice, TooManyNets, UnknownNet}
use Rattle.bench_read.specs.declared.fault.BenchFault.{BenchFault}
use Rattle.bench_read.specs.Lines.{Name, LineSort, Blank, Input, Output, Gate, Flop, Formless, is_name, spells, op_of, fits, call_of, operands_of, declared_as, gate_by, gate_of, filled_sort, sort_by, sort_of}
use Rattle.bench_read.specs.Passes.{defines, puts_out, uses, gate_nets, net_count, fault_at, name_fault, own_fault, or_later, first_pass, second_pass}
use Rattle.bench_read.specs.Order.{Item, InputNet, GateNet, items_in, lines_from, operands_at, item_at}
use Rattle.bench_read.specs.Netlists.{HasArity}
use Rattle.bench_read.specs.Placing.{AreWithin}
use Rattle.species.proofs.LawLemmas.{index-within}

-- How many items there are

pub items-count : (names : List Name) (lines : List LineSort) → length (flat_map (items_in names) lines) ≡ length (flat_map defines lines)
items-count names [] = refl
items-count names (Blank ∷ lines) = items-count names lines
items-count names (Input name ∷ lines) = ap suc (items-count names lines)
items-count names (Output name ∷ lines) = items-count names lines
items-count names (Gate name op operands ∷ lines) = ap suc (items-count names lines)
items-count names (Flop ∷ lines) = items-count names lines
items-count names (Formless ∷ lines) = items-count names lines

pub lines-count : (number : ℕ) (lines : List LineSort) → length (lines_from number lines) ≡ length (flat_map defines lines)
unfolding lines_from
lines-count number [] = refl
lines-count number (line ∷ lines) =
    omega (
      arith,
      length-append (map (λ name. number) (defines line)) (lines_from (number + 1) lines),
      length-map (defines line) (λ (name : Name). number),
      lines-count (number + 1) lines,
      length-append (defines line) (flat_map defines lines),
    )

-- The second pass

second-parts : (known : Name → Bool) (number : ℕ) (line : LineSort) (lines : List LineSort) → second_pass known number (line ∷ lines) ≡ None
    → (list_all known (uses line) ≡ true) × (second_pass known (number + 1) lines ≡ None)
unfolding second_pass
second-parts known number line lines h = by (list_all known (uses line)) refl h
  where
    by : (b : Bool) → list_all known (uses line) ≡ b → (if b then second_pass known (number + 1) lines else Some (fault_at number UnknownNet)) ≡ None
        → (list_all known (uses line) ≡ true) × (second_pass known (number + 1) lines ≡ None)
    by true e g = (e, g)
    by false e g = absurd cc

numbers-within : (names : List Name) (operands : List Name) → list_all (is_in names) operands ≡ true → AllByRecursion (λ y. y < length names) (map (index_of names) operands)
numbers-within names [] h = tt
numbers-within names (x ∷ operands) h =
    let p = and_parts (is_in names x) (list_all (is_in names) operands) h in
    (index-within names x p.0, numbers-within names operands p.1)

abbrev pub AreBelow : ℕ → Item → Type 0
AreBelow count item = AllByRecursion (λ y. y < count) (operands_at item)

pub items-within : (names : List Name) (number : ℕ) (lines : List LineSort) → second_pass (is_in names) number lines ≡ None → AllByRecursion (AreBelow (length names)) (flat_map (items_in names) lines)
items-within names number [] h = tt
items-within names number (Blank ∷ lines) h = items-within names (number + 1) lines (second-parts (is_in names) number Blank lines h).1
items-within names number (Input name ∷ lines) h = (tt, items-within names (number + 1) lines (second-parts (is_in names) number (Input name) lines h).1)
items-within names number (Output name ∷ lines) h = items-within names (number + 1) lines (second-parts (is_in names) number (Output name) lines h).1
items-within names number (Gate name op operands ∷ lines) h =
    let p = second-parts (is_in names) number (Gate name op operands) lines h in
    (numbers-within names operands p.0, items-within names (number + 1) lines p.1)
items-within names number (Flop ∷ lines) h = items-within names (number + 1) lines (second-parts (is_in names) number Flop lines h).1
items-within names number (Formless ∷ lines) h = items-within names (number + 1) lines (second-parts (is_in names) number Formless lines h).1

pub outputs-within : (names : List Name) (number : ℕ) (lines : List LineSort) → second_pass (is_in names) number lines ≡ None → AllByRecursion (λ y. y < length names) (map (index_of names) (flat_map puts_out lines))
outputs-within names number [] h = tt
outputs-within names number (Blank ∷ lines) h = outputs-within names (number + 1) lines (second-parts (is_in names) number Blank lines h).1
outputs-within names number (Input name ∷ lines) h = outputs-within names (number + 1) lines (second-parts (is_in names) number (Input name) lines h).1
outputs-within names number (Output name ∷ lines) h =
    let p = second-parts (is_in names) number (Output name) lines h in
    ((numbers-within names (name ∷ []) p.0).0, outputs-within names (number + 1) lines p.1)
outputs-within names number (Gate name op operands ∷ lines) h = outputs-within names (number + 1) lines (second-parts (is_in names) number (Gate name op operands) lines h).1
outputs-within names number (Flop ∷ lines) h = outputs-within names (number + 1) lines (second-parts (is_in names) number Flop lines h).1
outputs-within names number (Formless ∷ lines) h = outputs-within names (number + 1) lines (second-parts (is_in names) number Formless lines h).1

pub are-within : (items : List Item) (count : ℕ) → length items ≡ count → AllByRecursion (AreBelow count) items → AreWithin items
are-within items count e h d lt =
    All-from_recursion (λ y. y < length items) (operands_at (item_at items d))
    (subst (λ n. AllByRecursion (λ y. y < n) (operands_at (item_at items d))) (sym e) (All-get_or (AreBelow count) items d InputNet lt (All-from_recursion (AreBelow count) items h)))

-- Arity

abbrev pub IsFormed : LineSort → Type 0
IsFormed Blank = Unit {0}
IsFormed (Input name) = Unit {0}
IsFormed (Output name) = Unit {0}
IsFormed (Gate name op operands) = fits op (length operands) ≡ true
IsFormed Flop = Unit {0}
IsFormed Formless = Unit {0}

gate-formed : (name : Name) (o : Option GateOp) (operands : List Name) → IsFormed (gate_by name o operands)
gate-formed name None operands = tt
gate-formed name (Some op) operands = by (list_all is_name operands && fits op (length operands)) refl
  where
    by : (b : Bool) → (list_all is_name operands && fits op (length operands)) ≡ b → IsFormed (if b then Gate name op operands else Formless)
    by true e = (and_parts (list_all is_name operands) (fits op (length operands)) e).1
    by false e = tt

named-formed : (name : Name) (call : Option (List ℕ × List ℕ)) → IsFormed (gate_of name call)
named-formed name None = tt
named-formed name (Some p) = by (is_name name) (spells p.0 (codes "DFF"))
  where
    by : (b d : Bool) → IsFormed (if b then (if d then Flop else gate_by name (op_of p.0) (operands_of p.1)) else Formless)
    by true true = tt
    by true false = gate-formed name (op_of p.0) (operands_of p.1)
    by false d = tt

declared-formed : (call : Option (List ℕ × List ℕ)) → IsFormed (declared_as call)
declared-formed None = tt
declared-formed (Some p) = by (is_name (trimmed p.1)) (spells p.0 (codes "INPUT")) (spells p.0 (codes "OUTPUT"))
  where
    by : (a b c : Bool) → IsFormed (if a then (if b then Input (trimmed p.1) else (if c then Output (trimmed p.1) else Formless)) else Formless)
    by true true c = tt
    by true false true = tt
    by true false false = tt
    by false b c = tt

filled-formed : (text : List ℕ) (cut : Option (List ℕ × List ℕ)) → IsFormed (filled_sort text cut)
filled-formed text None = declared-formed (call_of text)
filled-formed text (Some p) = named-formed (trimmed p.0) (call_of p.1)

pub line-formed : (line : List ℕ) → IsFormed (sort_of line)
line-formed line = by (length (bare_line line) == 0)
  where
    by : (b : Bool) → IsFormed (if b then Blank else filled_sort (bare_line line) (cut_at 61 (bare_line line)))
    by true = tt
    by false = filled-formed (bare_line line) (cut_at 61 (bare_line line))

pub lines-formed : (lines : List (List ℕ)) → AllByRecursion IsFormed (map sort_of lines)
lines-formed [] = tt
lines-formed (line ∷ lines) = (line-formed line, lines-formed lines)

arity-by : (op : GateOp) (operands : List ℕ) (b : Bool) → has_two op ≡ b → (if b then nat_le 2 (length operands) && nat_le (length operands) 64 else length operands == 1) ≡ true → HasArity op operands
arity-by op [] true e h = absurd (false≢true h)
arity-by op [] false e h = absurd (false≢true h)
arity-by op (a ∷ []) true e h = absurd (false≢true h)
arity-by op (a ∷ []) false e h = e
arity-by op (a ∷ b ∷ more) true e h = e
arity-by op (a ∷ b ∷ more) false e h = absurd (omega (arith, eqb-true (length (a ∷ b ∷ more)) 1 h))

abbrev pub ItemArity : Item → Type 0
ItemArity InputNet = Unit {0}
ItemArity (GateNet op operands) = HasArity op operands

pub items-arity : (names : List Name) (lines : List LineSort) → AllByRecursion IsFormed lines → AllByRecursion ItemArity (flat_map (items_in names) lines)
items-arity names [] h = tt
items-arity names (Blank ∷ lines) h = items-arity names lines h.1
items-arity names (Input name ∷ lines) h = (tt, items-arity names lines h.1)
items-arity names (Output name ∷ lines) h = items-arity names lines h.1
items-arity names (Gate name op operands ∷ lines) h =
    (arity-by op (map (index_of names) operands) (has_two op) refl (ap (λ n. fits op n) (length-map operands (index_of names)) ∙ h.0), items-arity names lines h.1)
items-arity names (Flop ∷ lines) h = items-arity names lines h.1
items-arity names (Formless ∷ lines) h = items-arity names lines h.1

-- The first pass

abbrev pub item_nets : Item → ℕ
item_nets InputNet = 1
item_nets (GateNet op operands) = gate_nets (length operands)

few-nets : (names : List Name) (name : Name) (nets : ℕ) → name_fault names name nets ≡ None → nets ≤ 65536
few-nets names name nets h = by (is_in names name) (nat_lt 65536 nets) refl h
  where
    small : nat_lt 65536 nets ≡ false → nets ≤ 65536
    small e = grind (arith, nat_tests)

    by : (b c : Bool) → nat_lt 65536 nets ≡ c → (if b then Some NetTwice else (if c then Some TooManyNets else None)) ≡ None → nets ≤ 65536
    by true c e g = absurd cc
    by false true e g = absurd cc
    by false false e g = small e

own-few : (names : List Name) (nets : ℕ) (line : LineSort) → nets ≤ 65536 → own_fault names nets line ≡ None → nets + net_count line ≤ 65536
own-few names nets Blank most h = omega (arith, most)
own-few names nets (Input name) most h = few-nets names name (nets + 1) h
own-few names nets (Output name) most h = omega (arith, most)
own-few names nets (Gate name op operands) most h = few-nets names name (nets + gate_nets (length operands)) h
own-few names nets Flop most h = absurd cc
own-few names nets Formless most h = absurd cc

first-parts : (number nets : ℕ) (names : List Name) (line : LineSort) (lines : List LineSort) → first_pass number names nets (line ∷ lines) ≡ None
    → (own_fault names nets line ≡ None) × (first_pass (number + 1) (names ++ defines line) (nets + net_count line) lines ≡ None)
unfolding first_pass
first-parts number nets names line lines h = by (own_fault names nets line) refl h
  where
    later : Option BenchFault
    later = first_pass (number + 1) (names ++ defines line) (nets + net_count line) lines

    by : (o : Option BenchKind) → own_fault names nets line ≡ o → or_later number o later ≡ None → (own_fault names nets line ≡ None) × (later ≡ None)
    by None e g = (e, g)
    by (Some kind) e g = absurd cc

pub nets-few : (number nets : ℕ) (names : List Name) (lines : List LineSort) → nets ≤ 65536 → first_pass number names nets lines ≡ None → nets + sum_by net_count lines ≤ 65536
nets-few number nets names [] most h = omega (arith, most)
nets-few number nets names (line ∷ lines) most h =
    let p = first-parts number nets names line lines h in
    let rest = nets-few (number + 1) (nets + net_count line) (names ++ defines line) lines (own-few names nets line most p.0) p.1 in
    omega (arith, rest, sum_by-cons net_count line lines)

pub items-nets : (names : List Name) (lines : List LineSort) → sum_by item_nets (flat_map (items_in names) lines) ≡ sum_by net_count lines
items-nets names [] = refl
items-nets names (Blank ∷ lines) = omega (arith, items-nets names lines, sum_by-cons net_count Blank lines)
items-nets names (Input name ∷ lines) =
    omega (arith, items-nets names lines, sum_by-cons item_nets InputNet (flat_map (items_in names) lines), sum_by-cons net_count (Input name) lines)
items-nets names (Output name ∷ lines) = omega (arith, items-nets names lines, sum_by-cons net_count (Output name) lines)
items-nets names (Gate name op operands ∷ lines) =
    let same : gate_nets (length (map (index_of names) operands)) ≡ gate_nets (length operands) = ap gate_nets (length-map operands (index_of names)) in
    omega (arith, same, items-nets names lines, sum_by-cons item_nets (GateNet op (map (index_of names) operands)) (flat_map (items_in names) lines), sum_by-cons net_count (Gate name op operands) lines)
items-nets names (Flop ∷ lines) = omega (arith, items-nets names lines, sum_by-cons net_count Flop lines)
items-nets names (Formless ∷ lines) = omega (arith, items-nets names lines, sum_by-cons net_count Formless lines)
