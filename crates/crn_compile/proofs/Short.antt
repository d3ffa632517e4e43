-- The canonical text of a compiled manifest is within what is read.
use Rattle.std.proofs.Common.{◌≡◌, ℕ, zero, suc, ◌+◌, ◌*◌, ◌^◌, ◌≤◌, List, [], ◌∷◌, ◌++◌, length, map, take, drop, Bool, true, false, refl, ap, ◌∙◌, arith, codes, length-append, if◌then◌else◌, mul-le-mul_left}
use Rattle.std.specs.Prelude.{nat_le, slice_index_or}
use Rattle.std.specs.List.{flat_map, list_all, list_any, range_with_len}
use Rattle.std.proofs.lemmas.Bool.{and_parts, leb-true}
use Rattle.std.proofs.lemmas.Grind.{flat_map-append}
use Rattle.std.specs.Fmt.{digits}
use Rattle.surf_kinds.specs.declared.site.SpeciesId.{SpeciesId}
use Rattle.surface_rows.specs.Rows.{row_at, spaced, name_of, row_line, row_lines, lines_text}
use Rattle.manifest_read.specs.declared.manifest.Manifest.{Manifest}
use Rattle.manifest_write.specs.Canon.{read_setting_lines, rule_line, canon, canonical_text}
use Rattle.crn_compile.specs.Species.{circuit_rules}
use Rattle.crn_compile.specs.Names.{is_inert, all_names, rule_names, names_for}
use Rattle.crn_compile.specs.Compiled.{manifest_on}

abbrev bytes : List (List ℕ) → ℕ
bytes lines = length (lines_text lines)

bytes_append : (xs ys : List (List ℕ)) → bytes (xs ++ ys) ≡ bytes xs + bytes ys
bytes_append xs ys = ap length (flat_map-append (λ line. line ++ 10 ∷ []) xs ys) ∙ length-append (lines_text xs) (lines_text ys)

bytes_first : (line : List ℕ) (lines : List (List ℕ)) → bytes (line ∷ lines) ≡ length line + 1 + bytes lines
bytes_first line lines = length-append (line ++ 10 ∷ []) (lines_text lines) ∙ ap (λ n. n + bytes lines) (length-append line (10 ∷ []))

-- names are short
abbrev is_short : List ℕ → Bool
is_short name = nat_le (length name) 7

short_at : (names : List (List ℕ)) (k : ℕ) → list_all is_short names ≡ true → length (slice_index_or names k []) ≤ 7
short_at [] k h = omega arith
short_at (n ∷ ns) zero h = leb-true (length n) 7 (and_parts (is_short n) (list_all is_short ns) h).0
short_at (n ∷ ns) (suc k) h = short_at ns k (and_parts (is_short n) (list_all is_short ns) h).1

take_short : {A : Type 0} (n : ℕ) (xs : List A) → length (take n xs) ≤ n
take_short zero xs = omega arith
take_short (suc n) [] = omega arith
take_short (suc n) (x ∷ xs) = omega (arith, take_short n xs)

module _ (names : List (List ℕ)) (short : list_all is_short names ≡ true) where
  others_short : (ids : List SpeciesId) → length (flat_map (λ n. 32 ∷ n) (map (name_of names) ids)) ≤ 8 * length ids
  others_short [] = omega arith
  others_short (id ∷ ids) = omega (arith, length-append (32 ∷ name_of names id) (flat_map (λ n. 32 ∷ n) (map (name_of names) ids)), short_at names id.0 short, others_short ids)

  spaced_short : (ids : List SpeciesId) → length (spaced (map (name_of names) ids)) ≤ 8 * length ids
  spaced_short [] = omega arith
  spaced_short (id ∷ ids) = omega (arith, length-append (name_of names id) (flat_map (λ n. 32 ∷ n) (map (name_of names) ids)), short_at names id.0 short, others_short ids)

  rows_short : (cols : ℕ) (cells : List SpeciesId) (a n : ℕ) → bytes (map (row_line names cols cells) (range_with_len a n)) ≤ n * (8 * cols + 1)
  rows_short cols cells a zero = omega arith
  rows_short cols cells a (suc n) =
      omega (arith, bytes_first (row_line names cols cells a) (map (row_line names cols cells) (range_with_len (a + 1) n)), spaced_short (row_at cols cells a), take_short cols (drop (a * cols) cells), rows_short cols cells (a + 1) n)

-- either list of names
all_short : list_all is_short all_names ≡ true
all_short = refl

rule_short : list_all is_short rule_names ≡ true
rule_short = refl

all_rules : nat_le (bytes (map (rule_line all_names) circuit_rules)) 10000 ≡ true
unfolding circuit_rules digits
all_rules = refl

rule_rules : nat_le (bytes (map (rule_line rule_names) circuit_rules)) 10000 ≡ true
unfolding circuit_rules digits
rule_rules = refl

names_short : (S : List SpeciesId) → list_all is_short (names_for S) ≡ true
names_short S = by (list_any is_inert S)
  where
    by : (b : Bool) → list_all is_short (if b then all_names else rule_names) ≡ true
    by true = all_short
    by false = rule_short

rules_short : (S : List SpeciesId) → bytes (map (rule_line (names_for S)) circuit_rules) ≤ 10000
rules_short S = by (list_any is_inert S)
  where
    by : (b : Bool) → bytes (map (rule_line (if b then all_names else rule_names)) circuit_rules) ≤ 10000
    by true = leb-true _ 10000 all_rules
    by false = leb-true _ 10000 rule_rules

known_short : (rows cols : ℕ) (S : List SpeciesId) → bytes (read_setting_lines (manifest_on rows cols S)) ≤ 1000
unfolding digits
known_short rows cols S = leb-true (bytes (read_setting_lines (manifest_on rows cols S))) 1000 refl

size_short : (rows cols : ℕ) → rows * cols ≤ 2 ^ 20 → 1 ≤ cols → rows * (8 * cols + 1) ≤ 9 * 2 ^ 20
size_short rows cols size some =
    let one : rows * 1 ≤ rows * cols = mul-le-mul_left rows some in
    let split : rows * (8 * cols + 1) ≡ 8 * (rows * cols) + rows * 1 = omega arith in
    omega (arith, one, split, size)

text_bytes : (m : Manifest) → length (canonical_text m) ≡ bytes (canon m)
unfolding canonical_text
text_bytes m = refl

-- at most ten million bytes
pub short_text : (rows cols : ℕ) (S : List SpeciesId) → rows * cols ≤ 2 ^ 20 → 1 ≤ cols → length (canonical_text (manifest_on rows cols S)) ≤ 10000000
short_text rows cols S size some =
    let m = manifest_on rows cols S in
    let names = names_for S in
    let last : List (List ℕ) = codes "!END_INIT_STATE" ∷ [] in
    let grid = row_lines names rows cols S in
    let rules = map (rule_line names) circuit_rules in
    let one : List (List ℕ) = codes "!START_TRANSITION_RULES" ∷ rules in
    let two : List (List ℕ) = codes "!END_TRANSITION_RULES" ∷ codes "!START_INIT_STATE" ∷ grid in
    let known = read_setting_lines m in
    let a : bytes (canon m) ≡ bytes (((known ++ []) ++ one) ++ two) + bytes last = bytes_append (((known ++ []) ++ one) ++ two) last in
    let b = bytes_append ((known ++ []) ++ one) two in
    let c = bytes_append (known ++ []) one in
    let d = bytes_append known [] in
    let e = bytes_first (codes "!START_TRANSITION_RULES") rules in
    let f = bytes_first (codes "!END_TRANSITION_RULES") (codes "!START_INIT_STATE" ∷ grid) in
    let f2 = bytes_first (codes "!START_INIT_STATE") grid in
    let g : bytes last ≡ 16 = refl in
    let none : bytes [] ≡ 0 = refl in
    let l1 : length (codes "!START_TRANSITION_RULES") ≡ 23 = refl in
    let l2 : length (codes "!END_TRANSITION_RULES") ≡ 21 = refl in
    let l3 : length (codes "!START_INIT_STATE") ≡ 17 = refl in
    omega (arith, text_bytes m, a, b, c, d, e, f, f2, g, none, l1, l2, l3, known_short rows cols S, rules_short S, rows_short names (names_short S) cols S 0 rows, size_short rows cols size some)
