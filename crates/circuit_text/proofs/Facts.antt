-- What a line that is taken adds: its names, and outputs that are known.
use Rattle.std.proofs.Common.{◌≡◌, ◌+◌, length, length-append, arith, Bool, true, false, ◌&&◌, List, [], ◌∷◌, ◌++◌, Option, Some, None, Ok, refl, sym, ap, ◌∙◌, if◌then◌else◌}
use Rattle.std.proofs.lemmas.Bool.{and_parts}
use Rattle.std.proofs.lemmas.List.{append-nil}
use Rattle.circuit_text.specs.declared.fault.CircuitKind.{CircuitKind}
use Rattle.circuit_text.specs.Names.{Name}
use Rattle.circuit_text.specs.Lines.{LineSort, Blank, Inputs, Outputs, OneGate, TwoGate, Formless}
use Rattle.circuit_text.specs.Circuits.{defines, puts_out, line_fault, outputs_fault}
use Rattle.std.specs.List.{list_all}
use Rattle.circuit_text.specs.declared.fault.CircuitKind.TheVariants.{UnknownNet}
use Rattle.circuit_text.specs.Steps.{ReaderState, by_fault, after, next}

after_names : (k : ReaderState) (line : LineSort) → (after k line).names ≡ k.names ++ defines line
after_names k Blank = sym (append-nil k.names)
after_names k (Inputs names) = refl
after_names k (Outputs names) = sym (append-nil k.names)
after_names k (OneGate name op a) = refl
after_names k (TwoGate name op a b) = refl
after_names k Formless = sym (append-nil k.names)

taken_by : (v : Option CircuitKind) (k k' : ReaderState) → by_fault v k ≡ Ok k' → (v ≡ None) × (k ≡ k')
taken_by (Some kind) k k' h = absurd cc
taken_by None k k' h = (refl, cc)

-- a line that is taken adds the names that it defines
pub next_names : (known : Name → Bool) (k k' : ReaderState) (line : LineSort) → next known k line ≡ Ok k' → k'.names ≡ k.names ++ defines line
next_names known k k' line h = ap (λ x. x.names) (sym (taken_by (line_fault known k.names line) (after k line) k' h).1) ∙ after_names k line

-- outputs without a fault are known
outputs_known : (known : Name → Bool) (names : List Name) → outputs_fault known names ≡ None → list_all known names ≡ true
outputs_known known [] h = refl
outputs_known known (x ∷ names) h = by (known x) h (outputs_known known names)
  where
    by : (b : Bool) → (if b then outputs_fault known names else Some UnknownNet) ≡ None → (outputs_fault known names ≡ None → list_all known names ≡ true) → (b && list_all known names) ≡ true
    by true h f = f h
    by false h f = absurd cc

all_append : (known : Name → Bool) (xs ys : List Name) → list_all known xs ≡ true → list_all known ys ≡ true → list_all known (xs ++ ys) ≡ true
all_append known [] ys h g = g
all_append known (x ∷ xs) ys h g =
    let p = and_parts (known x) (list_all known xs) h in
    ap (λ b. b && list_all known (xs ++ ys)) p.0 ∙ all_append known xs ys p.1 g

after_outputs : (known : Name → Bool) (k : ReaderState) (line : LineSort) → line_fault known k.names line ≡ None → list_all known k.output_names ≡ true → list_all known (after k line).output_names ≡ true
after_outputs known k Blank h all = all
after_outputs known k (Inputs names) h all = all
after_outputs known k (Outputs names) h all = all_append known k.output_names names all (outputs_known known names h)
after_outputs known k (OneGate name op a) h all = all
after_outputs known k (TwoGate name op a b) h all = all
after_outputs known k Formless h all = all

-- a line that is taken puts out known names
pub next_outputs : (known : Name → Bool) (k k' : ReaderState) (line : LineSort) → next known k line ≡ Ok k' → list_all known k.output_names ≡ true → list_all known k'.output_names ≡ true
next_outputs known k k' line h all =
    let p = taken_by (line_fault known k.names line) (after k line) k' h in
    ap (λ x. list_all known x.output_names) (sym p.1) ∙ after_outputs known k line p.0 all

after_count : (k : ReaderState) (line : LineSort) → length (after k line).output_names ≡ length k.output_names + length (puts_out line)
after_count k Blank = omega arith
after_count k (Inputs names) = omega arith
after_count k (Outputs names) = length-append k.output_names names
after_count k (OneGate name op a) = omega arith
after_count k (TwoGate name op a b) = omega arith
after_count k Formless = omega arith

-- a line that is taken puts out as many names as it says
pub next_count : (known : Name → Bool) (k k' : ReaderState) (line : LineSort) → next known k line ≡ Ok k' → length k'.output_names ≡ length k.output_names + length (puts_out line)
next_count known k k' line h = ap (λ x. length x.output_names) (sym (taken_by (line_fault known k.names line) (after k line) k' h).1) ∙ after_count k line
