-- Names taken one after the other are taken as their line says.
use Rattle.std.proofs.Common.{◌≡◌, ◌+◌, Bool, true, false, List, [], ◌∷◌, ◌++◌, length, Some, Ok, Err, refl, sym, ap, ◌∙◌, append_assoc, nat_le, if◌then◌else◌}
use Rattle.std.proofs.lemmas.List.{append-nil}
use Rattle.circuit_text.specs.declared.kinds.Net.{Net}
use Rattle.circuit_text.specs.declared.kinds.Net.TheVariants as net
use Rattle.circuit_text.specs.declared.fault.CircuitKind.TheVariants.{UnknownNet, NetTwice, TooManyNets}
use Rattle.species.specs.Texts.{is_in}
use Rattle.circuit_text.specs.Names.{Name}
use Rattle.circuit_text.specs.Values.{input_count}
use Rattle.circuit_text.specs.Lines.{Inputs, Outputs}
use Rattle.circuit_text.specs.Circuits.{inputs_from, inputs_fault, outputs_fault}
use Rattle.circuit_text.specs.Steps.{ReaderState, by_fault, onward, with_net, input, output, taken, after}
use Rattle.circuit_text.proofs.Grows.{count_input}

abbrev state_by : List Name → List Net → List Name → ReaderState
state_by names nets put = record { names = names; nets = nets; output_names = put }

pub same_state : (names names' : List Name) (nets nets' : List Net) (put put' : List Name) → names ≡ names' → nets ≡ nets' → put ≡ put' → state_by names nets put ≡ state_by names' nets' put'
same_state names names' nets nets' put put' e f g = λ i. record { names = e i; nets = f i; output_names = g i }

abbrev with_output : ReaderState → Name → ReaderState
with_output k name = record { names = k.names; nets = k.nets; output_names = k.output_names ++ name ∷ [] }

inputs_after : (k : ReaderState) (x : Name) (names : List Name) → after (with_net k x (net.Input (input_count k.nets))) (Inputs names) ≡ after k (Inputs (x ∷ names))
inputs_after k x names =
    let n = input_count k.nets in
    same_state _ _ _ _ k.output_names k.output_names (append_assoc k.names (x ∷ []) names)
    (ap (λ m. (k.nets ++ net.Input n ∷ []) ++ inputs_from m names) (count_input k.nets n) ∙ append_assoc k.nets (net.Input n ∷ []) (inputs_from (n + 1) names)) refl

pub inputs_law : (names : List Name) (k : ReaderState) → taken input names k ≡ by_fault (inputs_fault k.names names) (after k (Inputs names))
unfolding taken
inputs_law [] k = ap Ok (same_state _ _ _ _ k.output_names k.output_names (sym (append-nil k.names)) (sym (append-nil k.nets)) refl)
inputs_law (x ∷ names) k =
    by (is_in k.names x) (nat_le 65536 (length k.names)) (inputs_law names more)
  where
    more : ReaderState
    more = with_net k x (net.Input (input_count k.nets))

    by : (b c : Bool) → taken input names more ≡ by_fault (inputs_fault more.names names) (after more (Inputs names))
        → onward (if b then Err NetTwice else (if c then Err TooManyNets else Ok more)) (taken input names)
        ≡ by_fault (if b then Some NetTwice else (if c then Some TooManyNets else inputs_fault (k.names ++ x ∷ []) names)) (after k (Inputs (x ∷ names)))
    by true c h = refl
    by false true h = refl
    by false false h = h ∙ ap (by_fault (inputs_fault (k.names ++ x ∷ []) names)) (inputs_after k x names)

pub outputs_law : (known : Name → Bool) (names : List Name) (k : ReaderState) → taken (output known) names k ≡ by_fault (outputs_fault known names) (after k (Outputs names))
unfolding taken
outputs_law known [] k = ap Ok (same_state _ _ _ _ k.output_names (k.output_names ++ []) refl refl (sym (append-nil k.output_names)))
outputs_law known (x ∷ names) k =
    by (known x) (outputs_law known names (with_output k x))
  where
    by : (b : Bool) → taken (output known) names (with_output k x) ≡ by_fault (outputs_fault known names) (after (with_output k x) (Outputs names))
        → onward (if b then Ok (with_output k x) else Err UnknownNet) (taken (output known) names)
        ≡ by_fault (if b then outputs_fault known names else Some UnknownNet) (after k (Outputs (x ∷ names)))
    by false h = refl
    by true h = h ∙ ap (by_fault (outputs_fault known names)) (same_state _ _ _ _ _ _ refl refl (append_assoc k.output_names (x ∷ []) names))
