-- Reading with the names that a text defines, each once, gives the circuit of the text or its first fault.
use Rattle.std.proofs.Common.{◌≡◌, ℕ, true, List, [], map, Err, sym, ap, subst, ◌∙◌}
use Rattle.std.specs.Prelude.{fold}
use Rattle.std.specs.List.{flat_map, list_all}
use Rattle.surf_text.specs.Lines.{lines_of}
use Rattle.species.specs.Texts.{is_in, with_text}
use Rattle.circuit_text.specs.Names.{Name}
use Rattle.circuit_text.specs.Lines.{sort_of}
use Rattle.circuit_text.specs.Circuits.{defines, circuit_in}
use Rattle.circuit_text.specs.Steps.{run, start, Stops}
use Rattle.circuit_text.specs.declared.fault.CircuitError.{CircuitError}
use Rattle.circuit_text.specs.declared.fault.CircuitError.TheVariants.{Fault}
use Rattle.circuit_text.specs.declared.fault.CircuitFault.{CircuitFault}
use Rattle.circuit_text.proofs.Known.{known_same}
use Rattle.circuit_text.proofs.Joined.{joined}

pub whole : (text : List ℕ)
    → run (is_in (fold with_text [] (flat_map defines (map sort_of (lines_of text))))) (map sort_of (lines_of text)) 1 start ≡ circuit_in text
whole text =
    ap (λ known. run known (map sort_of (lines_of text)) 1 start) (known_same (flat_map defines (map sort_of (lines_of text))))
    ∙ joined (is_in (flat_map defines (map sort_of (lines_of text)))) (map sort_of (lines_of text)) []

-- the same, by names that were collected
pub by_names : (text : List ℕ) (all : List Name) → all ≡ fold with_text [] (flat_map defines (map sort_of (lines_of text)))
    → run (is_in all) (map sort_of (lines_of text)) 1 start ≡ circuit_in text
by_names text all e = ap (λ names. run (is_in names) (map sort_of (lines_of text)) 1 start) e ∙ whole text

-- names of which all are known, by names that were collected, are all defined
pub all_defined : (text : List ℕ) (all names put : List Name) → all ≡ fold with_text [] (flat_map defines (map sort_of (lines_of text)))
    → names ≡ flat_map defines (map sort_of (lines_of text)) → list_all (is_in all) put ≡ true → list_all (is_in names) put ≡ true
all_defined text all names put e f h =
    ap (λ known. list_all known put) (ap is_in f ∙ sym (known_same (flat_map defines (map sort_of (lines_of text)))) ∙ sym (ap is_in e)) ∙ h

-- a fault that a reader of the lines stops at is the first one
pub first_fault : (text : List ℕ) (all : List Name) (error : CircuitError) (f : CircuitFault) → all ≡ fold with_text [] (flat_map defines (map sort_of (lines_of text)))
    → error ≡ Fault f → Stops error (run (is_in all) (map sort_of (lines_of text)) 1 start) → circuit_in text ≡ Err f
first_fault text all error f e same h =
    sym (by_names text all e) ∙ subst (λ x. Stops x (run (is_in all) (map sort_of (lines_of text)) 1 start)) same h
