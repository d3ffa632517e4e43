-- What a reader keeps is what the lines before say, so reading line by line gives the outcome of the definition.
use Rattle.std.proofs.Common.{◌≡◌, suc, ◌+◌, Bool, List, [], ◌∷◌, length, Option, Some, None, refl, sym, ap, ◌∙◌, arith}
use Rattle.std.proofs.lemmas.List.{append-nil}
use Rattle.circuit_text.specs.declared.fault.CircuitKind.{CircuitKind}
use Rattle.circuit_text.specs.Names.{Name}
use Rattle.circuit_text.specs.Lines.{LineSort, Blank, Inputs, Outputs, OneGate, TwoGate, Formless}
use Rattle.circuit_text.specs.Circuits.{defined, nets_of, put_out, line_fault, outcome, unless}
use Rattle.circuit_text.specs.Steps.{ReaderState, after, by_fault, on_line, run}
use Rattle.circuit_text.proofs.Taken.{same_state}

abbrev pub state_after : List LineSort → ReaderState
state_after before = record { names = defined before; nets = nets_of before; output_names = put_out before }

after_law : (before : List LineSort) (line : LineSort) → after (state_after before) line ≡ state_after (line ∷ before)
after_law before Blank = same_state _ _ _ _ _ _ (sym (append-nil (defined before))) (sym (append-nil (nets_of before))) (sym (append-nil (put_out before)))
after_law before (Inputs names) = same_state _ _ _ _ _ _ refl refl (sym (append-nil (put_out before)))
after_law before (Outputs names) = same_state _ _ _ _ _ _ (sym (append-nil (defined before))) (sym (append-nil (nets_of before))) refl
after_law before (OneGate name op a) = same_state _ _ _ _ _ _ refl refl (sym (append-nil (put_out before)))
after_law before (TwoGate name op a b) = same_state _ _ _ _ _ _ refl refl (sym (append-nil (put_out before)))
after_law before Formless = same_state _ _ _ _ _ _ (sym (append-nil (defined before))) (sym (append-nil (nets_of before))) (sym (append-nil (put_out before)))

by_verdict : (known : Name → Bool) (lines before : List LineSort) (line : LineSort) (v : Option CircuitKind)
    → run known lines (length before + 1 + 1) (after (state_after before) line) ≡ outcome known lines (line ∷ before)
    → on_line (length before + 1) (by_fault v (after (state_after before) line)) (run known lines (length before + 1 + 1)) ≡ unless (length before + 1) v (outcome known lines (line ∷ before))
by_verdict known lines before line (Some kind) h = refl
by_verdict known lines before line None h = h

pub joined : (known : Name → Bool) (lines before : List LineSort) → run known lines (length before + 1) (state_after before) ≡ outcome known lines before
unfolding run
joined known [] before = refl
joined known (line ∷ lines) before =
    let number : length before + 1 + 1 ≡ suc (length before) + 1 = omega arith in
    by_verdict known lines before line (line_fault known (defined before) line)
    (ap (run known lines (length before + 1 + 1)) (after_law before line) ∙ ap (λ n. run known lines n (state_after (line ∷ before))) number ∙ joined known lines (line ∷ before))
