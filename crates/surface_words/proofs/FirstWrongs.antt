-- The first wrong word, from left to right, is the first behind which no accepted list goes on.
use Rattle.std.proofs.Common.{◌≡◌, ◌<◌, ◌≤◌, ℕ, zero, suc, ◌+◌, Bool, true, false, List, [], ◌∷◌, ◌++◌, length, take, drop, Option, Some, None, codes, cond, inl, inr, ◌⊎◌, refl, sym, ap, ◌∙◌, subst, arith}
use Rattle.std.proofs.lemmas.Bool.{cases_lt, cases_order}
use Rattle.std.proofs.lemmas.List.{take_all, take-append-drop}
use Rattle.std.specs.Option.{option_map_or}
use Rattle.surface_words.specs.declared.commands.Program.{Program}
use Rattle.surface_words.specs.declared.commands.Program.TheVariants.{Surface, Watch}
use Rattle.surface_words.specs.declared.commands.Command.{Command}
use Rattle.surface_words.specs.declared.options.OptionName.{OptionName}
use Rattle.surface_words.specs.declared.options.OptionName.TheVariants.{Workers, Seed, Until, Samples, Limit, Inputs, Number, Seeds, First, Quota, Slots, Report, Viewers, Frames}
use Rattle.surface_words.specs.Commands.{command_of, is_allowed}
use Rattle.surface_words.specs.Accepted.{is_accepted_after, is_accepted}
use Rattle.surface_words.specs.FirstWrong.{CanGoOn, IsDeadEnd, IsFirstWrong, next_option, wrong_from, first_wrong}
use Rattle.surface_words.proofs.Fits.{fits, accepted_after}

-- words behind the command and the options before, which may go on to a list that fits there
abbrev CanFit : Command → List OptionName → List (List ℕ) → Type 0
CanFit command before words = (more : List (List ℕ)) × (fits command before (words ++ more) ≡ true)

abbrev CannotFit : Command → List OptionName → List (List ℕ) → Type 0
CannotFit command before words = (more : List (List ℕ)) → fits command before (words ++ more) ≡ false

record IsShortOf (command : Command) (before : List OptionName) (words : List (List ℕ)) (i : ℕ) : Type 0 where
  open_ended : CanFit command before words
  unfit : fits command before words ≡ false
  at_end : i ≡ length words

record IsWrongIn (command : Command) (before : List OptionName) (words : List (List ℕ)) (i : ℕ) : Type 0 where
  here : CannotFit command before (take (suc i) words) ⊎ IsShortOf command before words i
  least : (j : ℕ) → j < i → CanFit command before (take (suc j) words)

-- a value that is allowed for an option
example : OptionName → List ℕ
example Report = codes "yes"
example option = codes "1"

example_allowed : (option : OptionName) → is_allowed option (example option) ≡ true
unfolding example
example_allowed Workers = refl
example_allowed Seed = refl
example_allowed Until = refl
example_allowed Samples = refl
example_allowed Limit = refl
example_allowed Inputs = refl
example_allowed Number = refl
example_allowed Seeds = refl
example_allowed First = refl
example_allowed Quota = refl
example_allowed Slots = refl
example_allowed Report = refl
example_allowed Viewers = refl
example_allowed Frames = refl

none_fits : (command : Command) (before : List OptionName) (name : List ℕ) (words : List (List ℕ)) → next_option command before name ≡ None → fits command before (name ∷ words) ≡ false
none_fits command before name [] e = refl
none_fits command before name (value ∷ words) e = rw e refl

pair_fits : (command : Command) (before : List OptionName) (name value : List ℕ) (option : OptionName) → next_option command before name ≡ Some option → is_allowed option value ≡ true
    → (words : List (List ℕ)) → fits command before (name ∷ value ∷ words) ≡ fits command (option ∷ before) words
pair_fits command before name value option e allowed words = rw (e, allowed) refl

-- an option can always be given a value
open_name : (command : Command) (before : List OptionName) (name : List ℕ) (option : OptionName) → next_option command before name ≡ Some option → CanFit command before (name ∷ [])
open_name command before name option e = (example option ∷ [], pair_fits command before name (example option) option e (example_allowed option) [])

-- where the option is wrong
wrong_name : (command : Command) (before : List OptionName) (name : List ℕ) (words : List (List ℕ)) → next_option command before name ≡ None → IsWrongIn command before (name ∷ words) 0
wrong_name command before name words e = record {
  here = inl (λ more. none_fits command before name more e);
  least = λ j h. absurd (omega arith);
}

-- where the value is missing
wrong_end : (command : Command) (before : List OptionName) (name : List ℕ) (option : OptionName) → next_option command before name ≡ Some option → IsWrongIn command before (name ∷ []) 1
wrong_end command before name option e = record { here = inr (record { open_ended = open_name command before name option e; unfit = refl; at_end = refl }); least = least }
  where
    least : (j : ℕ) → j < 1 → CanFit command before (take (suc j) (name ∷ []))
    least zero h = open_name command before name option e
    least (suc j) h = absurd (omega arith)

-- where the value is not allowed
wrong_value : (command : Command) (before : List OptionName) (name value : List ℕ) (words : List (List ℕ)) (option : OptionName) → next_option command before name ≡ Some option → is_allowed option value ≡ false
    → IsWrongIn command before (name ∷ value ∷ words) 1
wrong_value command before name value words option e refused = record { here = inl (λ more. rw (e, refused) refl); least = least }
  where
    least : (j : ℕ) → j < 1 → CanFit command before (take (suc j) (name ∷ value ∷ words))
    least zero h = open_name command before name option e
    least (suc j) h = absurd (omega arith)

-- where a word behind the pair is wrong
wrong_behind : (command : Command) (before : List OptionName) (name value : List ℕ) (words : List (List ℕ)) (option : OptionName) → next_option command before name ≡ Some option → is_allowed option value ≡ true
    → (i : ℕ) → IsWrongIn command (option ∷ before) words i → IsWrongIn command before (name ∷ value ∷ words) (suc (suc i))
wrong_behind command before name value words option e allowed i w = record { here = here w.here; least = least }
  where
    behind : (rest : List (List ℕ)) → fits command before (name ∷ value ∷ rest) ≡ fits command (option ∷ before) rest
    behind = pair_fits command before name value option e allowed

    onward : (rest : List (List ℕ)) → CanFit command (option ∷ before) rest → CanFit command before (name ∷ value ∷ rest)
    onward rest h = (h.0, behind (rest ++ h.0) ∙ h.1)

    here : CannotFit command (option ∷ before) (take (suc i) words) ⊎ IsShortOf command (option ∷ before) words i
        → CannotFit command before (take (suc (suc (suc i))) (name ∷ value ∷ words)) ⊎ IsShortOf command before (name ∷ value ∷ words) (suc (suc i))
    here (inl h) = inl (λ more. behind (take (suc i) words ++ more) ∙ h more)
    here (inr s) = inr (record { open_ended = onward words s.open_ended; unfit = behind words ∙ s.unfit; at_end = (let h = s.at_end in omega arith) })

    least : (j : ℕ) → j < suc (suc i) → CanFit command before (take (suc j) (name ∷ value ∷ words))
    least zero h = open_name command before name option e
    least (suc zero) h = ([], behind [])
    least (suc (suc j)) h = onward (take (suc j) words) (w.least j (omega arith))

-- a wrong word so many words on
record IsWrongAt (command : Command) (before : List OptionName) (at : ℕ) (words : List (List ℕ)) (index : ℕ) : Type 0 where
  steps : ℕ
  index_is : index ≡ at + steps
  wrong : IsWrongIn command before words steps

wrong_at : (command : Command) (words : List (List ℕ)) (before : List OptionName) (at index : ℕ) → wrong_from command before at words ≡ Some index → IsWrongAt command before at words index
wrong_at command [] before at index h = absurd (cc)
wrong_at command (name ∷ []) before at index h = by (next_option command before name) refl h
  where
    by : (o : Option OptionName) → next_option command before name ≡ o → option_map_or (λ option. Some (at + 1)) o (Some at) ≡ Some index → IsWrongAt command before at (name ∷ []) index
    by None e h = record { steps = 0; index_is = (let same : at ≡ index = cc in omega arith); wrong = wrong_name command before name [] e }
    by (Some option) e h = record { steps = 1; index_is = (let same : at + 1 ≡ index = cc in omega arith); wrong = wrong_end command before name option e }
wrong_at command (name ∷ value ∷ words) before at index h =
    by (next_option command before name) refl (λ option. wrong_at command words (option ∷ before) (at + 2) index) h
  where
    tested : (option : OptionName) → next_option command before name ≡ Some option
        → (wrong_from command (option ∷ before) (at + 2) words ≡ Some index → IsWrongAt command (option ∷ before) (at + 2) words index)
        → (b : Bool) → is_allowed option value ≡ b → cond b (wrong_from command (option ∷ before) (at + 2) words) (Some (at + 1)) ≡ Some index
        → IsWrongAt command before at (name ∷ value ∷ words) index
    tested option e behind false q h = record { steps = 1; index_is = (let same : at + 1 ≡ index = cc in omega arith); wrong = wrong_value command before name value words option e q }
    tested option e behind true q h =
        let w = behind h in
        record { steps = suc (suc w.steps); index_is = (let same = w.index_is in omega arith); wrong = wrong_behind command before name value words option e q w.steps w.wrong }

    by : (o : Option OptionName) → next_option command before name ≡ o
        → ((option : OptionName) → wrong_from command (option ∷ before) (at + 2) words ≡ Some index → IsWrongAt command (option ∷ before) (at + 2) words index)
        → option_map_or (λ option. cond (is_allowed option value) (wrong_from command (option ∷ before) (at + 2) words) (Some (at + 1))) o (Some at) ≡ Some index
        → IsWrongAt command before at (name ∷ value ∷ words) index
    by None e behind h = record { steps = 0; index_is = (let same : at ≡ index = cc in omega arith); wrong = wrong_name command before name (value ∷ words) e }
    by (Some option) e behind h = tested option e (behind option) (is_allowed option value) refl h

no_words : (program : Program) → IsFirstWrong program [] 0
no_words Surface = inr (record { open_ended = λ j. (codes "check" ∷ [], refl); unaccepted = refl; at_end = refl })
no_words Watch = inr (record { open_ended = λ j. (codes "watch" ∷ [], refl); unaccepted = refl; at_end = refl })

-- where the command is wrong
wrong_command : (program : Program) (word : List ℕ) (words : List (List ℕ)) → command_of program word ≡ None → IsFirstWrong program (word ∷ words) 0
wrong_command program word words e = inl (record { dead = λ more. rw e refl; least = λ j h. absurd (omega arith) })

-- where a word behind the command is wrong
wrong_after : (program : Program) (word : List ℕ) (words : List (List ℕ)) (command : Command) → command_of program word ≡ Some command
    → (i : ℕ) → IsWrongIn command [] words i → IsFirstWrong program (word ∷ words) (suc i)
wrong_after program word words command e i w = by w.here
  where
    behind : (rest : List (List ℕ)) → is_accepted program (word ∷ rest) ≡ fits command [] rest
    behind rest = ap (λ o. option_map_or (λ command. is_accepted_after command rest) o false) e ∙ accepted_after command rest

    onward : (rest : List (List ℕ)) → CanFit command [] rest → CanGoOn program (word ∷ rest)
    onward rest h = (h.0, behind (rest ++ h.0) ∙ h.1)

    least : (j : ℕ) → j < suc i → CanGoOn program (take (suc j) (word ∷ words))
    least zero h = ([], behind [])
    least (suc j) h = onward (take (suc j) words) (w.least j (omega arith))

    open_ended : IsShortOf command [] words i → (j : ℕ) → (j < suc i) ⊎ (suc i ≤ j) → CanGoOn program (take (suc j) (word ∷ words))
    open_ended s j (inl h) = least j h
    open_ended s j (inr h) =
        let all : take j words ≡ words = take_all j words (let e = s.at_end in omega arith) in
        subst (λ rest. CanGoOn program (word ∷ rest)) (sym all) (onward words s.open_ended)

    by : CannotFit command [] (take (suc i) words) ⊎ IsShortOf command [] words i → IsFirstWrong program (word ∷ words) (suc i)
    by (inl h) = inl (record { dead = λ more. behind (take (suc i) words ++ more) ∙ h more; least = least })
    by (inr s) = inr (record {
      open_ended = λ j. open_ended s j (cases_lt j (suc i));
      unaccepted = behind words ∙ s.unfit;
      at_end = (let e = s.at_end in omega arith);
    })

pub first_is : (program : Program) (words : List (List ℕ)) (index : ℕ) → first_wrong program words ≡ Some index → IsFirstWrong program words index
first_is program [] index h = let same : 0 ≡ index = cc in subst (IsFirstWrong program []) same (no_words program)
first_is program (word ∷ words) index h = by (command_of program word) refl h
  where
    by : (o : Option Command) → command_of program word ≡ o → option_map_or (λ command. wrong_from command [] 1 words) o (Some 0) ≡ Some index → IsFirstWrong program (word ∷ words) index
    by None e h = let same : 0 ≡ index = cc in subst (IsFirstWrong program (word ∷ words)) same (wrong_command program word words e)
    by (Some command) e h =
        let w = wrong_at command words [] 1 index h in
        let same : suc w.steps ≡ index = (let k = w.index_is in omega arith) in
        subst (IsFirstWrong program (word ∷ words)) same (wrong_after program word words command e w.steps w.wrong)

clash : (program : Program) (words : List (List ℕ)) → IsDeadEnd program words → CanGoOn program words → ⊥
clash program words dead open_ended = let refused = dead open_ended.0 in let accepted = open_ended.1 in cc

-- there is one first wrong index at most
pub one_index : (program : Program) (words : List (List ℕ)) (i j : ℕ) → IsFirstWrong program words i → IsFirstWrong program words j → i ≡ j
one_index program words i j (inl a) (inl b) =
    elim (cases_order i j) [
      | inl same ↦ same
      | inr (inl below) ↦ absurd (clash program (take (suc i) words) a.dead (b.least i below))
      | inr (inr above) ↦ absurd (clash program (take (suc j) words) b.dead (a.least j above))
    ]
one_index program words i j (inl a) (inr s) = absurd (clash program (take (suc i) words) a.dead (s.open_ended i))
one_index program words i j (inr s) (inl b) = absurd (clash program (take (suc j) words) b.dead (s.open_ended j))
one_index program words i j (inr s) (inr t) = s.at_end ∙ sym t.at_end

-- and none where the words are accepted
pub none_of_accepted : (program : Program) (words : List (List ℕ)) (i : ℕ) → is_accepted program words ≡ true → IsFirstWrong program words i → ⊥
none_of_accepted program words i accepted (inl a) =
    let refused : is_accepted program words ≡ false = ap (is_accepted program) (sym (take-append-drop (suc i) words)) ∙ a.dead (drop (suc i) words) in cc
none_of_accepted program words i accepted (inr s) = let refused = s.unaccepted in cc
