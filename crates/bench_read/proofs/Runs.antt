-- The lines of the first and the second pass, one after the other.
use Rattle.std.proofs.Common.{◌≡◌, ℕ, ◌+◌, Bool, true, false, cond, List, [], ◌∷◌, ◌++◌, length, map, Option, None, Some, Ok, Err, refl, sym, ap, ◌∙◌, append_assoc, append-nil, if◌then◌else◌}
use Rattle.std.specs.List.{flat_map, list_all}
use Rattle.std.proofs.lemmas.List.{map-append}
use Rattle.bench_read.specs.declared.fault.BenchKind.{BenchKind}
use Rattle.bench_read.specs.declared.fault.BenchKind.TheVariants.{UnknownNet}
use Rattle.bench_read.specs.declared.fault.BenchFault.{BenchFault}
use Rattle.bench_read.specs.declared.fault.BenchError.{BenchError}
use Rattle.bench_read.specs.declared.fault.BenchError.TheVariants as error
use Rattle.bench_read.specs.declared.first.Refusal.{Refusal}
use Rattle.bench_read.specs.declared.first.Refusal.TheVariants as refusal
use Rattle.bench_read.specs.Lines.{Name, LineSort, sort_of}
use Rattle.bench_read.specs.Passes.{defines, puts_out, uses, net_count, own_fault, fault_at, or_later, first_pass, second_pass}
use Rattle.bench_read.specs.Order.{lines_from}
use Rattle.bench_read.specs.Readings.{Refuses, error_at}

-- a line that was refused has the fault
pub refused : (e : Refusal) (number : ℕ) (own : Option BenchKind) (later total : Option BenchFault) (r : BenchError) (f : BenchFault)
    → Refuses e own → or_later number own later ≡ total → r ≡ error_at number e → r ≡ error.Fault f → total ≡ Some f
refused refusal.Memory number own later total r f h so_far e g = absurd cc
refused (refusal.Kind kind) number own later total r f h so_far e g =
    let same : fault_at number kind ≡ f = cc in
    sym so_far ∙ ap (λ o. or_later number o later) h ∙ ap Some same

-- The first pass

first_turn : (number nets : ℕ) (names : List Name) (lines rest : List (List ℕ)) (line : List ℕ) → lines ≡ line ∷ rest
    → first_pass number names nets (map sort_of lines)
    ≡ or_later number (own_fault names nets (sort_of line)) (first_pass (number + 1) (names ++ defines (sort_of line)) (nets + net_count (sort_of line)) (map sort_of rest))
unfolding first_pass
first_turn number nets names lines rest line h = ap (λ ls. first_pass number names nets (map sort_of ls)) h

pub first_more : (number nets : ℕ) (names : List Name) (lines rest : List (List ℕ)) (line : List ℕ) (total : Option BenchFault) → lines ≡ line ∷ rest
    → own_fault names nets (sort_of line) ≡ None → first_pass number names nets (map sort_of lines) ≡ total
    → first_pass (number + 1) (names ++ defines (sort_of line)) (nets + net_count (sort_of line)) (map sort_of rest) ≡ total
first_more number nets names lines rest line total h e so_far =
    sym (first_turn number nets names lines rest line h ∙ ap (λ o. or_later number o (first_pass (number + 1) (names ++ defines (sort_of line)) (nets + net_count (sort_of line)) (map sort_of rest))) e) ∙ so_far

pub first_stops : (e : Refusal) (number nets : ℕ) (names : List Name) (lines rest : List (List ℕ)) (line : List ℕ) (total : Option BenchFault) (r : BenchError) (f : BenchFault) → lines ≡ line ∷ rest
    → Refuses e (own_fault names nets (sort_of line)) → first_pass number names nets (map sort_of lines) ≡ total → r ≡ error_at number e → r ≡ error.Fault f → total ≡ Some f
first_stops e number nets names lines rest line total r f h g so_far =
    refused e number (own_fault names nets (sort_of line)) (first_pass (number + 1) (names ++ defines (sort_of line)) (nets + net_count (sort_of line)) (map sort_of rest)) total r f g (sym (first_turn number nets names lines rest line h) ∙ so_far)

pub first_done : (number nets : ℕ) (names : List Name) (lines : List (List ℕ)) (total : Option BenchFault) → lines ≡ [] → first_pass number names nets (map sort_of lines) ≡ total → total ≡ None
unfolding first_pass
first_done number nets names lines total h so_far = sym so_far ∙ ap (λ ls. first_pass number names nets (map sort_of ls)) h

-- what the lines give one after the other, in a list
pub gives_more : {X : Type 0} (f : LineSort → List X) (so_far : List X) (lines rest : List (List ℕ)) (line : List ℕ) (total : List X) → lines ≡ line ∷ rest
    → so_far ++ flat_map f (map sort_of lines) ≡ total → (so_far ++ f (sort_of line)) ++ flat_map f (map sort_of rest) ≡ total
gives_more f so_far lines rest line total h e =
    append_assoc so_far (f (sort_of line)) (flat_map f (map sort_of rest)) ∙ ap (λ ls. so_far ++ flat_map f (map sort_of ls)) (sym h) ∙ e

pub gives_all : {X : Type 0} (f : LineSort → List X) (so_far : List X) (lines : List (List ℕ)) (total : List X) → lines ≡ [] → so_far ++ flat_map f (map sort_of lines) ≡ total → so_far ≡ total
gives_all f so_far lines total h e = sym (append-nil so_far) ∙ ap (λ ls. so_far ++ flat_map f (map sort_of ls)) (sym h) ∙ e

-- The second pass

module _ (known : Name → Bool) where
  abbrev pub use_fault : LineSort → Option BenchKind
  use_fault line = if list_all known (uses line) then None else Some UnknownNet

  by_use : (number : ℕ) (b : Bool) (later : Option BenchFault) → (if b then later else Some (fault_at number UnknownNet)) ≡ or_later number (if b then None else Some UnknownNet) later
  by_use number true later = refl
  by_use number false later = refl

  second_turn : (number : ℕ) (lines rest : List (List ℕ)) (line : List ℕ) → lines ≡ line ∷ rest
      → second_pass known number (map sort_of lines) ≡ or_later number (use_fault (sort_of line)) (second_pass known (number + 1) (map sort_of rest))
  unfolding second_pass
  second_turn number lines rest line h =
      ap (λ ls. second_pass known number (map sort_of ls)) h ∙ by_use number (list_all known (uses (sort_of line))) (second_pass known (number + 1) (map sort_of rest))

  pub second_more : (number : ℕ) (lines rest : List (List ℕ)) (line : List ℕ) (total : Option BenchFault) → lines ≡ line ∷ rest
      → list_all known (uses (sort_of line)) ≡ true → second_pass known number (map sort_of lines) ≡ total → second_pass known (number + 1) (map sort_of rest) ≡ total
  second_more number lines rest line total h e so_far =
      sym (second_turn number lines rest line h ∙ ap (λ b. or_later number (if b then None else Some UnknownNet) (second_pass known (number + 1) (map sort_of rest))) e) ∙ so_far

  pub second_stops : (e : Refusal) (number : ℕ) (lines rest : List (List ℕ)) (line : List ℕ) (total : Option BenchFault) (r : BenchError) (f : BenchFault) → lines ≡ line ∷ rest
      → Refuses e (use_fault (sort_of line)) → second_pass known number (map sort_of lines) ≡ total → r ≡ error_at number e → r ≡ error.Fault f → total ≡ Some f
  second_stops e number lines rest line total r f h g so_far =
      refused e number (use_fault (sort_of line)) (second_pass known (number + 1) (map sort_of rest)) total r f g (sym (second_turn number lines rest line h) ∙ so_far)

  pub second_done : (number : ℕ) (lines : List (List ℕ)) (total : Option BenchFault) → lines ≡ [] → second_pass known number (map sort_of lines) ≡ total → total ≡ None
  unfolding second_pass
  second_done number lines total h so_far = sym so_far ∙ ap (λ ls. second_pass known number (map sort_of ls)) h

-- the lines of the items
pub numbers_more : (number : ℕ) (so_far : List ℕ) (lines rest : List (List ℕ)) (line : List ℕ) (total : List ℕ) → lines ≡ line ∷ rest
    → so_far ++ lines_from number (map sort_of lines) ≡ total → (so_far ++ map (λ name. number) (defines (sort_of line))) ++ lines_from (number + 1) (map sort_of rest) ≡ total
unfolding lines_from
numbers_more number so_far lines rest line total h e =
    append_assoc so_far (map (λ name. number) (defines (sort_of line))) (lines_from (number + 1) (map sort_of rest)) ∙ ap (λ ls. so_far ++ lines_from number (map sort_of ls)) (sym h) ∙ e

pub numbers_all : (number : ℕ) (so_far : List ℕ) (lines : List (List ℕ)) (total : List ℕ) → lines ≡ [] → so_far ++ lines_from number (map sort_of lines) ≡ total → so_far ≡ total
unfolding lines_from
numbers_all number so_far lines total h e = sym (append-nil so_far) ∙ ap (λ ls. so_far ++ lines_from number (map sort_of ls)) (sym h) ∙ e

-- the outputs
pub puts_more : (f : Name → ℕ) (so_far : List ℕ) (lines rest : List (List ℕ)) (line : List ℕ) (total : List ℕ) → lines ≡ line ∷ rest
    → so_far ++ map f (flat_map puts_out (map sort_of lines)) ≡ total → (so_far ++ map f (puts_out (sort_of line))) ++ map f (flat_map puts_out (map sort_of rest)) ≡ total
puts_more f so_far lines rest line total h e =
    append_assoc so_far (map f (puts_out (sort_of line))) (map f (flat_map puts_out (map sort_of rest)))
    ∙ ap (λ xs. so_far ++ xs) (sym (map-append f (puts_out (sort_of line)) (flat_map puts_out (map sort_of rest))))
    ∙ ap (λ ls. so_far ++ map f (flat_map puts_out (map sort_of ls))) (sym h) ∙ e
