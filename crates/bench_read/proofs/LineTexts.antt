-- The text of lines, one after the other.
use Rattle.std.proofs.Common.{◌≡◌, ℕ, zero, suc, ◌+◌, ◌<◌, List, [], ◌∷◌, ◌++◌, length, map, take, drop, get_or, Some, None, refl, sym, ap, ◌∙◌, arith, decimal, codes, append_assoc}
use Rattle.std.proofs.lemmas.Grind.{flat_map-append}
use Rattle.surf_text.proofs.LawLemmas.{parts-more, parts-within}
use Rattle.circuit_text.specs.declared.kinds.GateOp.{GateOp}
use Rattle.circuit_text.specs.declared.kinds.Net.{Net}
use Rattle.circuit_text.specs.declared.kinds.Net.TheVariants as net
use Rattle.bench_read.specs.Chains.{op_word, net_line, net_lines, output_line, ended_lines, text_by}

-- the lines before one, and this line
pub lines-more : (lines : List (List ℕ)) (i : ℕ) (line : List ℕ) → i < length lines → line ≡ get_or lines i [] → ended_lines (take i lines) ++ (line ++ 10 ∷ []) ≡ ended_lines (take (i + 1) lines)
lines-more lines i line h e =
    ap (λ t. ended_lines (take i lines) ++ (t ++ 10 ∷ [])) e ∙ sym (parts-more (λ t. t ++ 10 ∷ []) lines i [] h)

-- and the lines behind it
pub lines-within : (lines : List (List ℕ)) (i : ℕ) (line : List ℕ) → i < length lines → line ≡ get_or lines i []
    → (ended_lines (take i lines) ++ (line ++ 10 ∷ [])) ++ ended_lines (drop (i + 1) lines) ≡ ended_lines lines
lines-within lines i line h e =
    ap (λ t. (ended_lines (take i lines) ++ (t ++ 10 ∷ [])) ++ ended_lines (drop (i + 1) lines)) e ∙ parts-within (λ t. t ++ 10 ∷ []) lines i [] h

-- The lines of nets

pub net-lines-count : (nets : List Net) (n : ℕ) → length (net_lines n nets) ≡ length nets
net-lines-count [] n = refl
net-lines-count (x ∷ nets) n = omega (arith, net-lines-count nets (n + 1))

pub net-line-at : (nets : List Net) (n i m : ℕ) (d : Net) → n + i ≡ m → i < length nets → get_or (net_lines n nets) i [] ≡ net_line m (get_or nets i d)
net-line-at [] n i m d e h = absurd (omega (arith, h))
net-line-at (x ∷ nets) n zero m d e h = let same : n ≡ m = omega (arith, e) in ap (λ k. net_line k x) same
net-line-at (x ∷ nets) n (suc i) m d e h = net-line-at nets (n + 1) i m d (omega (arith, e)) (omega (arith, h))

-- the text of a circuit is that of its nets and then that of its outputs
pub whole-text : (nets : List Net) (outputs : List ℕ) → ended_lines (net_lines 0 nets) ++ ended_lines (map output_line outputs) ≡ text_by nets outputs
unfolding text_by
whole-text nets outputs = sym (flat_map-append (λ line. line ++ 10 ∷ []) (net_lines 0 nets) (map output_line outputs))

-- The line of a gate by its parts

one-parts : (d e w x : List ℕ) → d ++ (e ++ (w ++ (32 ∷ 110 ∷ (x ++ 10 ∷ [])))) ≡ (d ++ (e ++ (w ++ (32 ∷ 110 ∷ (x ++ []))))) ++ 10 ∷ []
one-parts d e w x = simp append_assoc

two-parts : (d e w x y : List ℕ) → d ++ (e ++ (w ++ (32 ∷ 110 ∷ (x ++ (32 ∷ 110 ∷ (y ++ 10 ∷ [])))))) ≡ (d ++ (e ++ (w ++ (32 ∷ 110 ∷ (x ++ (32 ∷ 110 ∷ y)))))) ++ 10 ∷ []
two-parts d e w x y = simp append_assoc

pub one-line : (n a : ℕ) (op : GateOp) (name word first : List ℕ) → name ≡ decimal n → word ≡ op_word op → first ≡ decimal a
    → codes "n" ++ (name ++ (codes " = " ++ (word ++ (codes " n" ++ (first ++ 10 ∷ []))))) ≡ net_line n (net.Gate op a None) ++ 10 ∷ []
one-line n a op name word first e f g =
    ap (λ t. 110 ∷ (t ++ (codes " = " ++ (word ++ (32 ∷ 110 ∷ (first ++ 10 ∷ [])))))) e
    ∙ ap (λ t. 110 ∷ (decimal n ++ (codes " = " ++ (t ++ (32 ∷ 110 ∷ (first ++ 10 ∷ [])))))) f
    ∙ ap (λ t. 110 ∷ (decimal n ++ (codes " = " ++ (op_word op ++ (32 ∷ 110 ∷ (t ++ 10 ∷ [])))))) g
    ∙ ap (λ t. 110 ∷ t) (one-parts (decimal n) (codes " = ") (op_word op) (decimal a))

pub two-line : (n a b : ℕ) (op : GateOp) (name word first second : List ℕ) → name ≡ decimal n → word ≡ op_word op → first ≡ decimal a → second ≡ decimal b
    → codes "n" ++ (name ++ (codes " = " ++ (word ++ (codes " n" ++ (first ++ (codes " n" ++ (second ++ 10 ∷ []))))))) ≡ net_line n (net.Gate op a (Some b)) ++ 10 ∷ []
two-line n a b op name word first second e f g h =
    ap (λ t. 110 ∷ (t ++ (codes " = " ++ (word ++ (32 ∷ 110 ∷ (first ++ (32 ∷ 110 ∷ (second ++ 10 ∷ [])))))))) e
    ∙ ap (λ t. 110 ∷ (decimal n ++ (codes " = " ++ (t ++ (32 ∷ 110 ∷ (first ++ (32 ∷ 110 ∷ (second ++ 10 ∷ [])))))))) f
    ∙ ap (λ t. 110 ∷ (decimal n ++ (codes " = " ++ (op_word op ++ (32 ∷ 110 ∷ (t ++ (32 ∷ 110 ∷ (second ++ 10 ∷ [])))))))) g
    ∙ ap (λ t. 110 ∷ (decimal n ++ (codes " = " ++ (op_word op ++ (32 ∷ 110 ∷ (decimal a ++ (32 ∷ 110 ∷ (t ++ 10 ∷ [])))))))) h
    ∙ ap (λ t. 110 ∷ t) (two-parts (decimal n) (codes " = ") (op_word op) (decimal a) (decimal b))
