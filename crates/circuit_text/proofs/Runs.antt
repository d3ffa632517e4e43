-- Names taken one after the other.
use Rattle.std.proofs.Common.{◌≡◌, true, List, [], ◌∷◌, Result, Ok, sym, ap, ◌∙◌, subst}
use Rattle.std.proofs.lemmas.Bool.{and_parts}
use Rattle.std.specs.List.{list_all}
use Rattle.circuit_text.specs.declared.fault.CircuitKind.{CircuitKind}
use Rattle.circuit_text.specs.declared.reader.Refusal.{Refusal}
use Rattle.circuit_text.specs.declared.reader.Refusal.TheVariants as refusals
use Rattle.circuit_text.specs.Names.{Name, is_name}
use Rattle.circuit_text.specs.Steps.{ReaderState, onward, taken, Fails}

module _ (step : ReaderState → Name → Result ReaderState CircuitKind) where
  turn : (words rest : List Name) (name : Name) (k : ReaderState) → words ≡ name ∷ rest → taken step words k ≡ onward (step k name) (taken step rest)
  unfolding taken
  turn words rest name k h = ap (λ ws. taken step ws k) h

  pub more : (words rest : List Name) (name : Name) (k after : ReaderState) (total : Result ReaderState CircuitKind) → words ≡ name ∷ rest → step k name ≡ Ok after
      → taken step words k ≡ total → taken step rest after ≡ total
  more words rest name k after total h e so_far =
      sym (turn words rest name k h ∙ ap (λ r. onward r (taken step rest)) e) ∙ so_far

  fails_on : (e : Refusal) (r : Result ReaderState CircuitKind) (f : ReaderState → Result ReaderState CircuitKind) → Fails e r → Fails e (onward r f)
  fails_on refusals.Memory r f h = tt
  fails_on (refusals.Kind kind) r f h = ap (λ x. onward x f) h

  pub fails : (e : Refusal) (words rest : List Name) (name : Name) (k : ReaderState) (total : Result ReaderState CircuitKind) → words ≡ name ∷ rest → Fails e (step k name)
      → taken step words k ≡ total → Fails e total
  fails e words rest name k total h f so_far =
      subst (Fails e) (sym (turn words rest name k h) ∙ so_far) (fails_on e (step k name) (taken step rest) f)

  pub done : (words : List Name) (k : ReaderState) (total : Result ReaderState CircuitKind) → words ≡ [] → taken step words k ≡ total → total ≡ Ok k
  unfolding taken
  done words k total h so_far = sym so_far ∙ ap (λ ws. taken step ws k) h

-- the first of names, and the rest
pub first_name : (words rest : List Name) (name : Name) → words ≡ name ∷ rest → list_all is_name words ≡ true → (is_name name ≡ true) × (list_all is_name rest ≡ true)
first_name words rest name h all = and_parts (is_name name) (list_all is_name rest) (sym (ap (list_all is_name) h) ∙ all)
