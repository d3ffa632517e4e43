-- What the lines of a circuit's text are.
use Rattle.std.proofs.Common.{◌≡◌, ℕ, ◌<◌, ◌^◌, ◌==◌, Bool, true, false, cond, not, ◌&&◌, List, [], ◌∷◌, ◌++◌, length, map, Option, None, Some, refl, sym, ap, ◌∙◌, arith, decimal, codes, ne_eqb, append_assoc, append-nil}
use Rattle.std.specs.List.{list_all}
use Rattle.std.proofs.lemmas.Bool.{and_from, not_from_false}
use Rattle.surf_text.specs.Lines.{trimmed}
use Rattle.surf_text.specs.Cuts.{cut_at, words_of}
use Rattle.surf_text.specs.Passing.{Each, lacks, inked, begins, ends}
use Rattle.surf_text.proofs.LawLemmas.{each-append, cut-front, cut-missing, word-first, word-last, begins-append, ends-append, inked-ends, trimmed-same, trimmed-behind}
use Rattle.circuit_text.specs.declared.kinds.GateOp.{GateOp}
use Rattle.circuit_text.specs.declared.kinds.GateOp.TheVariants.{And, Or, Xor, Nand, Nor, Xnor, Not, Buf}
use Rattle.circuit_text.specs.declared.kinds.Net.{Net}
use Rattle.circuit_text.specs.declared.kinds.Net.TheVariants as net
use Rattle.circuit_text.specs.Names.{Name, is_name_byte, is_name, are_names}
use Rattle.circuit_text.specs.Values.{has_two}
use Rattle.circuit_text.specs.Lines.{LineSort, Inputs, Outputs, OneGate, TwoGate, Formless, op_of, one_operand, two_operands, gate_of, plain_of, sort_by, before_comment, bare_line, sort_of}
use Rattle.bench_read.specs.Chains.{net_name, op_word, second_text, net_line, output_line}
use Rattle.bench_read.proofs.Bytes.{decimal-inked, decimal-name, decimal-unended, decimal-uncommented, decimal-uncut}

-- Names

pub name-inked : (n : ℕ) → n < 2 ^ 64 → Each inked (net_name n)
name-inked n lt = decimal-inked n lt

pub name-is : (n : ℕ) → n < 2 ^ 64 → is_name (net_name n) ≡ true
name-is n lt =
    let some : (length (net_name n) == 0) ≡ false = ne_eqb (length (net_name n)) 0 (λ e. omega (arith, e)) in
    and_from (not (length (net_name n) == 0)) (list_all is_name_byte (net_name n)) (not_from_false (length (net_name n) == 0) some) (decimal-name n lt)

name-ends : (n : ℕ) → n < 2 ^ 64 → ends (net_name n) ≡ true
name-ends n lt = inked-ends 110 (decimal n) (name-inked n lt)

-- a line without a comment, tight at its ends
bare-same : (line : List ℕ) → Each (lacks 35) line → begins line ≡ true → ends line ≡ true → bare_line line ≡ line
bare-same line h b e = ap (λ o. trimmed (before_comment line o)) (cut-missing 35 line h) ∙ trimmed-same line b e

sort-same : (line : List ℕ) → Each (lacks 35) line → begins line ≡ true → ends line ≡ true → sort_of line ≡ sort_by line (cut_at 61 line)
sort-same line h b e = ap (λ t. sort_by t (cut_at 61 t)) (bare-same line h b e)

names-one : (n : ℕ) → n < 2 ^ 64 → are_names (net_name n ∷ []) ≡ true
names-one n lt = and_from (is_name (net_name n)) true (name-is n lt) refl

-- Inputs and outputs

pub input-sort : (n : ℕ) → n < 2 ^ 64 → sort_of (codes "input " ++ net_name n) ≡ Inputs (net_name n ∷ [])
input-sort n lt =
    sort-same (codes "input " ++ net_name n) (decimal-uncommented n lt) refl (ends-append (codes "input ") (net_name n) (name-ends n lt))
    ∙ ap (sort_by (codes "input " ++ net_name n)) (cut-missing 61 (codes "input " ++ net_name n) (decimal-uncut n lt))
    ∙ ap plain_of (word-first 105 (codes "nput") (net_name n) refl ∙ ap (λ ws. codes "input" ∷ ws) (word-last 110 (decimal n) (name-inked n lt)))
    ∙ ap (λ b. cond b (Inputs (net_name n ∷ [])) Formless) (names-one n lt)

pub output-sort : (n : ℕ) → n < 2 ^ 64 → sort_of (output_line n) ≡ Outputs (net_name n ∷ [])
output-sort n lt =
    sort-same (output_line n) (decimal-uncommented n lt) refl (ends-append (codes "output ") (net_name n) (name-ends n lt))
    ∙ ap (sort_by (output_line n)) (cut-missing 61 (output_line n) (decimal-uncut n lt))
    ∙ ap plain_of (word-first 111 (codes "utput") (net_name n) refl ∙ ap (λ ws. codes "output" ∷ ws) (word-last 110 (decimal n) (name-inked n lt)))
    ∙ ap (λ b. cond b (Outputs (net_name n ∷ [])) Formless) (names-one n lt)

-- Gates

op-read : (op : GateOp) → op_of (op_word op) ≡ Some op
op-read And = refl
op-read Or = refl
op-read Xor = refl
op-read Nand = refl
op-read Nor = refl
op-read Xnor = refl
op-read Not = refl
op-read Buf = refl

op-words : (op : GateOp) (ys : List ℕ) → words_of (op_word op ++ 32 ∷ ys) ≡ op_word op ∷ words_of ys
op-words And ys = word-first 65 (codes "ND") ys refl
op-words Or ys = word-first 79 (codes "R") ys refl
op-words Xor ys = word-first 88 (codes "OR") ys refl
op-words Nand ys = word-first 78 (codes "AND") ys refl
op-words Nor ys = word-first 78 (codes "OR") ys refl
op-words Xnor ys = word-first 88 (codes "NOR") ys refl
op-words Not ys = word-first 78 (codes "OT") ys refl
op-words Buf ys = word-first 66 (codes "UF") ys refl

op-clean : (op : GateOp) → Each (lacks 10) (op_word op) × Each (lacks 35) (op_word op)
op-clean And = (refl, refl)
op-clean Or = (refl, refl)
op-clean Xor = (refl, refl)
op-clean Nand = (refl, refl)
op-clean Nor = (refl, refl)
op-clean Xnor = (refl, refl)
op-clean Not = (refl, refl)
op-clean Buf = (refl, refl)

-- what stands behind the operation
abbrev behind_op : ℕ → Option ℕ → List ℕ
behind_op a b = net_name a ++ second_text b

-- a second operand, where there is one, is small
abbrev pub IsSmall : Option ℕ → Type 0
IsSmall None = Unit {0}
IsSmall (Some b) = b < 2 ^ 64

one-words : (a : ℕ) → a < 2 ^ 64 → words_of (behind_op a None) ≡ net_name a ∷ []
one-words a h = ap words_of (append-nil (net_name a)) ∙ word-last 110 (decimal a) (name-inked a h)

two-words : (a b : ℕ) → a < 2 ^ 64 → b < 2 ^ 64 → words_of (behind_op a (Some b)) ≡ net_name a ∷ net_name b ∷ []
two-words a b h g = word-first 110 (decimal a) (net_name b) (name-inked a h) ∙ ap (λ ws. net_name a ∷ ws) (word-last 110 (decimal b) (name-inked b g))

behind-ends : (a : ℕ) (b : Option ℕ) → a < 2 ^ 64 → IsSmall b → ends (behind_op a b) ≡ true
behind-ends a None h g = ap ends (append-nil (net_name a)) ∙ name-ends a h
behind-ends a (Some b) h g = ends-append (net_name a) (32 ∷ net_name b) (ends-append (32 ∷ []) (net_name b) (name-ends b g))

module _ (byte : ℕ) (digits : (n : ℕ) → n < 2 ^ 64 → Each (lacks byte) (net_name n)) (blank : lacks byte 32 ≡ true) where
  behind-clean : (a : ℕ) (b : Option ℕ) → a < 2 ^ 64 → IsSmall b → Each (lacks byte) (behind_op a b)
  behind-clean a None h g = each-append (lacks byte) (net_name a) [] (digits a h) refl
  behind-clean a (Some b) h g = each-append (lacks byte) (net_name a) (32 ∷ net_name b) (digits a h) (and_from (lacks byte 32) (list_all (lacks byte) (net_name b)) blank (digits b g))

  line-clean : (n a : ℕ) (b : Option ℕ) (op : GateOp) → n < 2 ^ 64 → a < 2 ^ 64 → IsSmall b → Each (lacks byte) (codes " = ") → Each (lacks byte) (op_word op) → Each (lacks byte) (net_line n (net.Gate op a b))
  line-clean n a b op l h g sign word =
      each-append (lacks byte) (net_name n) (codes " = " ++ (op_word op ++ (32 ∷ behind_op a b))) (digits n l)
      (each-append (lacks byte) (codes " = ") (op_word op ++ (32 ∷ behind_op a b)) sign
      (each-append (lacks byte) (op_word op) (32 ∷ behind_op a b) word (and_from (lacks byte 32) (list_all (lacks byte) (behind_op a b)) blank (behind-clean a b h g))))

gate-ends : (n a : ℕ) (b : Option ℕ) (op : GateOp) → a < 2 ^ 64 → IsSmall b → ends (net_line n (net.Gate op a b)) ≡ true
gate-ends n a b op h g =
    ends-append (net_name n) (codes " = " ++ (op_word op ++ (32 ∷ behind_op a b)))
    (ends-append (codes " = ") (op_word op ++ (32 ∷ behind_op a b)) (ends-append (op_word op) (32 ∷ behind_op a b) (ends-append (32 ∷ []) (behind_op a b) (behind-ends a b h g))))

-- a gate line is read by its words
gate-words : (n a : ℕ) (b : Option ℕ) (op : GateOp) → n < 2 ^ 64 → a < 2 ^ 64 → IsSmall b → sort_of (net_line n (net.Gate op a b)) ≡ gate_of (net_name n) (op_word op ∷ words_of (behind_op a b))
gate-words n a b op l h g =
    let tail = op_word op ++ (32 ∷ behind_op a b) in
    let line = net_line n (net.Gate op a b) in
    let cut : cut_at 61 line ≡ Some (net_name n ++ 32 ∷ [], 32 ∷ tail) =
    ap (cut_at 61) (sym (append_assoc (net_name n) (32 ∷ []) (61 ∷ 32 ∷ tail))) ∙ cut-front 61 (net_name n ++ 32 ∷ []) (32 ∷ tail) (each-append (lacks 61) (net_name n) (32 ∷ []) (decimal-uncut n l) refl) in
    sort-same line (line-clean 35 decimal-uncommented refl n a b op l h g refl (op-clean op).1) refl (gate-ends n a b op h g)
    ∙ ap (sort_by line) cut
    ∙ ap (λ name. gate_of name (words_of (32 ∷ tail))) (trimmed-behind (net_name n) refl (name-ends n l))
    ∙ ap (gate_of (net_name n)) (op-words op (behind_op a b))

pub one-sort : (n a : ℕ) (op : GateOp) → n < 2 ^ 64 → a < 2 ^ 64 → has_two op ≡ false → sort_of (net_line n (net.Gate op a None)) ≡ OneGate (net_name n) op (net_name a)
one-sort n a op l h one =
    gate-words n a None op l h tt ∙ ap (λ ws. gate_of (net_name n) (op_word op ∷ ws)) (one-words a h)
    ∙ ap (λ o. one_operand (net_name n) o (net_name a)) (op-read op)
    ∙ ap (λ b. cond b (OneGate (net_name n) op (net_name a)) Formless)
    (and_from (is_name (net_name n)) (is_name (net_name a) && not (has_two op)) (name-is n l) (and_from (is_name (net_name a)) (not (has_two op)) (name-is a h) (not_from_false (has_two op) one)))

pub two-sort : (n a b : ℕ) (op : GateOp) → n < 2 ^ 64 → a < 2 ^ 64 → b < 2 ^ 64 → has_two op ≡ true → sort_of (net_line n (net.Gate op a (Some b))) ≡ TwoGate (net_name n) op (net_name a) (net_name b)
two-sort n a b op l h g two =
    gate-words n a (Some b) op l h g ∙ ap (λ ws. gate_of (net_name n) (op_word op ∷ ws)) (two-words a b h g)
    ∙ ap (λ o. two_operands (net_name n) o (net_name a) (net_name b)) (op-read op)
    ∙ ap (λ t. cond t (TwoGate (net_name n) op (net_name a) (net_name b)) Formless)
    (and_from (is_name (net_name n)) (is_name (net_name a) && (is_name (net_name b) && has_two op)) (name-is n l)
    (and_from (is_name (net_name a)) (is_name (net_name b) && has_two op) (name-is a h) (and_from (is_name (net_name b)) (has_two op) (name-is b g) two)))

-- no line has the end of a line in it
pub input-unended : (n : ℕ) → n < 2 ^ 64 → Each (lacks 10) (codes "input " ++ net_name n)
input-unended n l = each-append (lacks 10) (codes "input ") (net_name n) refl (decimal-unended n l)

pub output-unended : (n : ℕ) → n < 2 ^ 64 → Each (lacks 10) (output_line n)
output-unended n l = each-append (lacks 10) (codes "output ") (net_name n) refl (decimal-unended n l)

pub gate-unended : (n a : ℕ) (b : Option ℕ) (op : GateOp) → n < 2 ^ 64 → a < 2 ^ 64 → IsSmall b → Each (lacks 10) (net_line n (net.Gate op a b))
gate-unended n a b op l h g = line-clean 10 decimal-unended refl n a b op l h g refl (op-clean op).0
