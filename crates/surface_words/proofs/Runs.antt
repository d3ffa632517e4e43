-- The steps of the reader, and that they come to what the definitions say.
use Rattle.std.proofs.Common.{◌≡◌, ℕ, ◌+◌, Bool, true, false, not, ◌&&◌, ◌||◌, List, [], ◌∷◌, Option, Some, None, is_some, Result, Ok, Err, cond, refl, sym, ap, ◌∙◌, subst, arith}
use Rattle.std.specs.Option.{option_map, option_and_then, option_map_or, option_or}
use Rattle.surface_words.specs.declared.commands.Command.{Command}
use Rattle.surface_words.specs.declared.given.Given.{Given}
use Rattle.surface_words.specs.declared.options.OptionName.{OptionName}
use Rattle.surface_words.specs.declared.options.OptionName.TheVariants.{Inputs}
use Rattle.surface_words.specs.Commands.{option_of, has_option, is_allowed, is_among, same_option}
use Rattle.surface_words.specs.Accepted.{Pair, pairs_of, with_pair}
use Rattle.surface_words.specs.FirstWrong.{next_option, wrong_from}
use Rattle.surface_words.specs.Given.{nothing, has, free_option, with_value, given_by}
use Rattle.surface_words.proofs.Steps.{merged, IsStep, step_is, allowed_is}

-- the values at the end, from given values on, or the index of the first wrong word
abbrev pub run : Command → Given → ℕ → List (List ℕ) → Result Given ℕ
run command given at [] = Ok given
run command given at (name ∷ []) = option_map_or (λ option. Err (at + 1)) (free_option command given name) (Err at)
run command given at (name ∷ value ∷ words) =
    option_map_or (λ option. option_map_or (λ more. run command more (at + 2) words) (with_value given option value (at + 1)) (Err (at + 1))) (free_option command given name) (Err at)

-- the values are those of the options before
abbrev pub Agrees : List OptionName → Given → Type 0
Agrees before given = (option : OptionName) → is_among option before ≡ has given option

-- what the reader came to is what the definitions say of the words
abbrev pub Comes : Command → List OptionName → Given → ℕ → List (List ℕ) → Result Given ℕ → Type 0
Comes command before given at words (Ok last) = (wrong_from command before at words ≡ None) × (option_map (merged given (at + 1)) (pairs_of words) ≡ Some last)
Comes command before given at words (Err index) = wrong_from command before at words ≡ Some index

-- the option that is next by the values, with what is known of it
record IsNext (command : Command) (before : List OptionName) (given : Given) (name : List ℕ) (option : OptionName) : Type 0 where
  named : option_of name ≡ Some option
  next : next_option command before name ≡ Some option
  new : has given option ≡ false

data NextIs (command : Command) (before : List OptionName) (given : Given) (name : List ℕ) : Type 0 where
  NoneNext : free_option command given name ≡ None → next_option command before name ≡ None → NextIs command before given name
  SomeNext : (option : OptionName) → free_option command given name ≡ Some option → IsNext command before given name option → NextIs command before given name

and_not : (b h : Bool) → (b && not h) ≡ true → h ≡ false
and_not true true q = absurd (cc)
and_not true false q = refl
and_not false h q = absurd (cc)

-- an option that a word names, by the values and by the options before
abbrev free : Command → Given → OptionName → Option OptionName
free command given option = cond (has_option command option && not (has given option)) (Some option) None

abbrev next : Command → List OptionName → OptionName → Option OptionName
next command before option = cond (has_option command option && not (is_among option before)) (Some option) None

next_is : (command : Command) (before : List OptionName) (given : Given) (name : List ℕ) → Agrees before given → NextIs command before given name
next_is command before given name agrees = by (option_of name) refl
  where
    same : (option : OptionName) → next command before option ≡ free command given option
    same option = ap (λ h. cond (has_option command option && not h) (Some option) None) (agrees option)

    chosen : (option : OptionName) → option_of name ≡ Some option → (b : Bool) → (has_option command option && not (has given option)) ≡ b → NextIs command before given name
    chosen option e true q =
        let f : free command given option ≡ Some option = ap (λ t. cond t (Some option) None) q in
        SomeNext option (ap (option_and_then (free command given)) e ∙ f) (record {
          named = e;
          next = ap (option_and_then (next command before)) e ∙ (same option ∙ f);
          new = and_not (has_option command option) (has given option) q;
        })
    chosen option e false q =
        let f : free command given option ≡ None = ap (λ t. cond t (Some option) None) q in
        NoneNext (ap (option_and_then (free command given)) e ∙ f) (ap (option_and_then (next command before)) e ∙ (same option ∙ f))

    by : (o : Option OptionName) → option_of name ≡ o → NextIs command before given name
    by None e = NoneNext (ap (option_and_then (free command given)) e) (ap (option_and_then (next command before)) e)
    by (Some option) e = chosen option e (has_option command option && not (has given option)) refl

or_none : {T : Type 0} (o : Option T) → option_or o None ≡ o
or_none None = refl
or_none (Some x) = refl

merged_none : (given : Given) (at : ℕ) → merged given at [] ≡ given
merged_none given at =
    rw (or_none given.workers, or_none given.seed, or_none given.until, or_none given.samples, or_none given.limit, or_none given.inputs, or_none given.number, or_none given.seeds, or_none given.first, or_none given.quota, or_none given.slots, or_none given.report, or_none given.viewers, or_none given.frames) refl

-- pairs after one more give the same as the pair with them
merged_pairs : (given more : Given) (option : OptionName) (value : List ℕ) (at : ℕ) → IsStep given option value (at + 1) more → has given option ≡ false → (pairs : Option (List Pair)) → option_map (merged given (at + 1)) (with_pair option value pairs) ≡ option_map (merged more (at + 2 + 1)) pairs
merged_pairs given more option value at s new None = refl
merged_pairs given more option value at s new (Some pairs) =
    let e : at + 2 + 1 ≡ at + 1 + 2 = omega arith in ap (λ g. Some g) (sym (ap (λ i. merged more i pairs) e ∙ s.same_rest new pairs))

-- from the words behind a pair to those with the pair
onward : (command : Command) (name value : List ℕ) (words : List (List ℕ)) (before : List OptionName) (given more : Given) (at : ℕ) (option : OptionName)
    → IsNext command before given name option → is_allowed option value ≡ true → IsStep given option value (at + 1) more
    → (r : Result Given ℕ) → Comes command (option ∷ before) more (at + 2) words r → Comes command before given at (name ∷ value ∷ words) r
onward command name value words before given more at option k allowed s = by
  where
    wrong : wrong_from command before at (name ∷ value ∷ words) ≡ wrong_from command (option ∷ before) (at + 2) words
    wrong = let next = k.next in rw (next, allowed) refl

    pairs : pairs_of (name ∷ value ∷ words) ≡ with_pair option value (pairs_of words)
    pairs = let named = k.named in rw named refl

    by : (r : Result Given ℕ) → Comes command (option ∷ before) more (at + 2) words r → Comes command before given at (name ∷ value ∷ words) r
    by (Ok last) h = (
      wrong ∙ h.0,
      ap (option_map (merged given (at + 1))) pairs ∙ (merged_pairs given more option value at s k.new (pairs_of words) ∙ h.1),
    )
    by (Err index) h = wrong ∙ h

agree : (before : List OptionName) (given more : Given) (option : OptionName) (value : List ℕ) (index : ℕ) → Agrees before given → IsStep given option value index more → Agrees (option ∷ before) more
agree before given more option value index agrees s other = ap (λ h. same_option other option || h) (agrees other) ∙ sym (s.has_more other)

-- with a value for the next option, from the words behind the pair to those with the pair
by_value : (command : Command) (name value : List ℕ) (words : List (List ℕ)) (before : List OptionName) (given : Given) (at : ℕ) (option : OptionName)
    → IsNext command before given name option → Agrees before given
    → ((more : Given) → Agrees (option ∷ before) more → Comes command (option ∷ before) more (at + 2) words (run command more (at + 2) words))
    → (o : Option Given) → with_value given option value (at + 1) ≡ o
    → Comes command before given at (name ∷ value ∷ words) (option_map_or (λ more. run command more (at + 2) words) o (Err (at + 1)))
by_value command name value words before given at option k agrees behind None e =
    let next = k.next in
    let refused : is_allowed option value ≡ false = sym (allowed_is given option value (at + 1)) ∙ ap is_some e in
    rw (next, refused) refl
by_value command name value words before given at option k agrees behind (Some more) e =
    let allowed : is_allowed option value ≡ true = sym (allowed_is given option value (at + 1)) ∙ ap is_some e in
    let s = step_is given option value (at + 1) more e in
    onward command name value words before given more at option k allowed s (run command more (at + 2) words)
    (behind more (agree before given more option value (at + 1) agrees s))

comes : (command : Command) (words : List (List ℕ)) (before : List OptionName) (given : Given) (at : ℕ) → Agrees before given → Comes command before given at words (run command given at words)
comes command [] before given at agrees = (refl, ap (λ g. Some g) (merged_none given (at + 1)))
comes command (name ∷ []) before given at agrees =
    elim (next_is command before given name agrees) [
      | NoneNext f n ↦ rw f (rw n refl)
      | SomeNext option f k ↦ rw f (let next = k.next in rw next refl)
    ]
comes command (name ∷ value ∷ words) before given at agrees =
    elim (next_is command before given name agrees) [
      | NoneNext f n ↦ rw f (rw n refl)
      | SomeNext option f k ↦
          rw f (by_value command name value words before given at option k agrees (λ more a. comes command words (option ∷ before) more (at + 2) a) (with_value given option value (at + 1)) refl)
    ]

none_agrees : Agrees [] nothing
none_agrees Inputs = refl
none_agrees option = refl

-- the same from the first word behind the command on
pub comes_first : (command : Command) (words : List (List ℕ)) (r : Result Given ℕ) → r ≡ run command nothing 1 words → Comes command [] nothing 1 words r
comes_first command words r e = subst (Comes command [] nothing 1 words) (sym e) (comes command words [] nothing 1 none_agrees)

-- where no option is next
pub run_no_option : (command : Command) (given : Given) (at : ℕ) (name : List ℕ) (words : List (List ℕ)) → free_option command given name ≡ None → run command given at (name ∷ words) ≡ Err at
run_no_option command given at name [] f = rw f refl
run_no_option command given at name (value ∷ words) f = rw f refl

-- where its value is missing
pub run_no_value : (command : Command) (given : Given) (at : ℕ) (name : List ℕ) (option : OptionName) → free_option command given name ≡ Some option → run command given at (name ∷ []) ≡ Err (at + 1)
run_no_value command given at name option f = rw f refl

-- where its value is not allowed
pub run_refused : (command : Command) (given : Given) (at : ℕ) (name value : List ℕ) (words : List (List ℕ)) (option : OptionName) → free_option command given name ≡ Some option → with_value given option value (at + 1) ≡ None → run command given at (name ∷ value ∷ words) ≡ Err (at + 1)
run_refused command given at name value words option f w = rw (f, w) refl

-- where its value is kept
pub run_onward : (command : Command) (given more : Given) (at : ℕ) (name value : List ℕ) (words : List (List ℕ)) (option : OptionName) → free_option command given name ≡ Some option → with_value given option value (at + 1) ≡ Some more → run command given at (name ∷ value ∷ words) ≡ run command more (at + 2) words
run_onward command given more at name value words option f w = rw (f, w) refl

-- the values at the end are those that the pairs give
pub values_first : (command : Command) (words : List (List ℕ)) (last : Given) → Ok last ≡ run command nothing 1 words → option_map (given_by 2) (pairs_of words) ≡ Some last
values_first command words last e = (comes_first command words (Ok last) e).1
