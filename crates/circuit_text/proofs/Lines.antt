-- Lines taken one after the other.
use Rattle.std.proofs.Common.{◌≡◌, ℕ, suc, ◌+◌, ◌≤◌, Bool, true, false, cond, List, [], ◌∷◌, length, map, Result, Ok, Err, sym, ap, ◌∙◌, arith, ◌==◌}
use Rattle.std.specs.List.{onto_first}
use Rattle.surf_text.specs.Lines.{lines_of}
use Rattle.circuit_text.specs.declared.fault.CircuitKind.{CircuitKind}
use Rattle.circuit_text.specs.declared.fault.CircuitKind.TheVariants.{NoOutput}
use Rattle.circuit_text.specs.declared.fault.CircuitFault.{CircuitFault}
use Rattle.circuit_text.specs.Names.{Name}
use Rattle.circuit_text.specs.Lines.{sort_of}
use Rattle.circuit_text.specs.Circuits.{NetList, fault_at}
use Rattle.circuit_text.specs.Steps.{ReaderState, Fails, Stops, error_at, on_line, run, next, ended, circuit_by}
use Rattle.circuit_text.specs.declared.reader.Refusal.{Refusal}
use Rattle.circuit_text.specs.declared.reader.Refusal.TheVariants as refusals

onto_count : (c n : ℕ) (ls : List (List ℕ)) → length ls ≤ n → length (onto_first c ls) ≤ suc n
onto_count c n [] h = omega arith
onto_count c n (l ∷ ls) h = omega (arith, h)

pub lines_few : (text : List ℕ) → length (lines_of text) ≤ length text
lines_few [] = omega arith
lines_few (c ∷ cs) = elim (c == 10) as (λ t. length (cond t ([] ∷ lines_of cs) (onto_first c (lines_of cs))) ≤ suc (length cs)) [
  | true ↦ omega (arith, lines_few cs)
  | false ↦ onto_count c (length cs) (lines_of cs) (lines_few cs)
]

module _ (known : Name → Bool) where
  turn : (lines rest : List (List ℕ)) (line : List ℕ) (n : ℕ) (k : ReaderState) → lines ≡ line ∷ rest
      → run known (map sort_of lines) n k ≡ on_line n (next known k (sort_of line)) (run known (map sort_of rest) (n + 1))
  unfolding run
  turn lines rest line n k h = ap (λ ls. run known (map sort_of ls) n k) h

  pub line_more : (lines rest : List (List ℕ)) (line : List ℕ) (n : ℕ) (k after : ReaderState) (total : Result NetList CircuitFault) → lines ≡ line ∷ rest → next known k (sort_of line) ≡ Ok after
      → run known (map sort_of lines) n k ≡ total → run known (map sort_of rest) (n + 1) after ≡ total
  line_more lines rest line n k after total h e so_far =
      sym (turn lines rest line n k h ∙ ap (λ r. on_line n r (run known (map sort_of rest) (n + 1))) e) ∙ so_far

  line_fails : (lines rest : List (List ℕ)) (line : List ℕ) (n : ℕ) (k : ReaderState) (kind : CircuitKind) (total : Result NetList CircuitFault) → lines ≡ line ∷ rest → next known k (sort_of line) ≡ Err kind
      → run known (map sort_of lines) n k ≡ total → total ≡ Err (fault_at n kind)
  line_fails lines rest line n k kind total h e so_far =
      sym so_far ∙ turn lines rest line n k h ∙ ap (λ r. on_line n r (run known (map sort_of rest) (n + 1))) e

  pub line_stops : (e : Refusal) (lines rest : List (List ℕ)) (line : List ℕ) (n : ℕ) (k : ReaderState) (total : Result NetList CircuitFault) → lines ≡ line ∷ rest → Fails e (next known k (sort_of line))
      → run known (map sort_of lines) n k ≡ total → Stops (error_at n e) total
  line_stops refusals.Memory lines rest line n k total h f so_far = tt
  line_stops (refusals.Kind kind) lines rest line n k total h f so_far = line_fails lines rest line n k kind total h f so_far

  pub lines_done : (lines : List (List ℕ)) (n : ℕ) (k : ReaderState) (total : Result NetList CircuitFault) → lines ≡ [] → run known (map sort_of lines) n k ≡ total → total ≡ ended n k
  unfolding run
  lines_done lines n k total h so_far = sym so_far ∙ ap (λ ls. run known (map sort_of ls) n k) h

pub ended_none : (n : ℕ) (k : ReaderState) → (length k.output_names == 0) ≡ true → ended n k ≡ Err (fault_at n NoOutput)
ended_none n k h = ap (λ b. cond b (Err (fault_at n NoOutput)) (Ok (circuit_by k))) h

pub ended_some : (n : ℕ) (k : ReaderState) → (length k.output_names == 0) ≡ false → ended n k ≡ Ok (circuit_by k)
ended_some n k h = ap (λ b. cond b (Err (fault_at n NoOutput)) (Ok (circuit_by k))) h
