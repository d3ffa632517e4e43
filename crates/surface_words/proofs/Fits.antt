-- Accepted lists, word by word from left to right.
use Rattle.std.proofs.Common.{◌≡◌, ℕ, ◌+◌, Bool, true, false, not, ◌&&◌, ◌||◌, List, [], ◌∷◌, Option, Some, None, cond, refl, sym, ap, ◌∙◌}
use Rattle.std.proofs.Math.Bool.{and-true}
use Rattle.std.specs.List.{list_all}
use Rattle.std.specs.Option.{option_and_then, option_map_or, is_none}
use Rattle.surface_words.specs.declared.commands.Program.{Program}
use Rattle.surface_words.specs.declared.commands.Command.{Command}
use Rattle.surface_words.specs.declared.options.OptionName.{OptionName}
use Rattle.surface_words.specs.Commands.{command_of, option_of, has_option, is_allowed, is_among, same_option}
use Rattle.surface_words.specs.Accepted.{Pair, pairs_of, with_pair, is_lawful, is_given, are_single, are_accepted, is_accepted_after, is_accepted}
use Rattle.surface_words.specs.FirstWrong.{next_option, wrong_from, first_wrong}

-- whether the words may stand behind the command and the options before
abbrev pub fits : Command → List OptionName → List (List ℕ) → Bool
fits command before [] = true
fits command before (name ∷ []) = false
fits command before (name ∷ value ∷ words) = option_map_or (λ option. is_allowed option value && fits command (option ∷ before) words) (next_option command before name) false

-- none of the pairs has an option that was there before
abbrev are_new : List OptionName → List Pair → Bool
are_new before pairs = list_all (λ pair. not (is_among pair.option before)) pairs

abbrev are_accepted_behind : Command → List OptionName → List Pair → Bool
are_accepted_behind command before pairs = are_accepted command pairs && are_new before pairs

new_behind : (option : OptionName) (before : List OptionName) (pairs : List Pair) → are_new (option ∷ before) pairs ≡ (not (is_given option pairs) && are_new before pairs)
new_behind option before [] = refl
new_behind option before (pair ∷ pairs) =
    ap (λ t. not (same_option pair.option option || is_among pair.option before) && t) (new_behind option before pairs)
    ∙ by (same_option pair.option option) (is_among pair.option before) (is_given option pairs) (are_new before pairs)
  where
    by : (s a g n : Bool) → (not (s || a) && (not g && n)) ≡ (not (s || g) && (not a && n))
    by true a g n = refl
    by false true true n = refl
    by false true false n = refl
    by false false g n = refl

-- a pair is accepted where its option is next and its value allowed
one_pair : (has allowed lawful single given among new : Bool)
    → (((has && allowed) && lawful) && (not given && single) && (not among && new)) ≡ cond (has && not among) (allowed && (lawful && single && (not given && new))) false
one_pair false allowed lawful single given among new = refl
one_pair true false lawful single given true new = refl
one_pair true false lawful single given false new = refl
one_pair true true false single given true new = refl
one_pair true true false single given false new = refl
one_pair true true true single true true new = refl
one_pair true true true true false true new = refl
one_pair true true true false false true new = refl
one_pair true true true true true false new = refl
one_pair true true true false true false new = refl
one_pair true true true single false false new = refl

refused_all : (b a : Bool) → false ≡ cond b (a && false) false
refused_all true true = refl
refused_all true false = refl
refused_all false a = refl

-- where the pairs may stand behind the options before, the words may, and the other way round
fits_behind : (command : Command) (words : List (List ℕ)) (before : List OptionName) → option_map_or (are_accepted_behind command before) (pairs_of words) false ≡ fits command before words
fits_behind command [] before = refl
fits_behind command (name ∷ []) before = refl
fits_behind command (name ∷ value ∷ words) before = by_option (option_of name) (λ option. fits_behind command words (option ∷ before))
  where
    chosen : (option : OptionName) → (b f : Bool)
        → option_map_or (λ option. is_allowed option value && f) (cond b (Some option) None) false ≡ cond b (is_allowed option value && f) false
    chosen option true f = refl
    chosen option false f = refl

    by_pairs : (option : OptionName) (pairs : Option (List Pair)) → option_map_or (are_accepted_behind command before) (with_pair option value pairs) false
        ≡ cond (has_option command option && not (is_among option before)) (is_allowed option value && option_map_or (are_accepted_behind command (option ∷ before)) pairs false) false
    by_pairs option None = refused_all (has_option command option && not (is_among option before)) (is_allowed option value)
    by_pairs option (Some pairs) =
        one_pair (has_option command option) (is_allowed option value) (list_all (is_lawful command) pairs) (are_single pairs) (is_given option pairs) (is_among option before) (are_new before pairs)
        ∙ ap (λ t. cond (has_option command option && not (is_among option before)) (is_allowed option value && (are_accepted command pairs && t)) false) (sym (new_behind option before pairs))

    by_option : (o : Option OptionName)
        → ((option : OptionName) → option_map_or (are_accepted_behind command (option ∷ before)) (pairs_of words) false ≡ fits command (option ∷ before) words)
        → option_map_or (are_accepted_behind command before) (option_map_or (λ option. with_pair option value (pairs_of words)) o None) false
        ≡ option_map_or (λ option. is_allowed option value && fits command (option ∷ before) words) (option_and_then (λ option. cond (has_option command option && not (is_among option before)) (Some option) None) o) false
    by_option None behind = refl
    by_option (Some option) behind =
        by_pairs option (pairs_of words)
        ∙ ap (λ t. cond (has_option command option && not (is_among option before)) (is_allowed option value && t) false) (behind option)
        ∙ last option (has_option command option && not (is_among option before))
      where
        last : (option : OptionName) (b : Bool) → cond b (is_allowed option value && fits command (option ∷ before) words) false
            ≡ option_map_or (λ option. is_allowed option value && fits command (option ∷ before) words) (cond b (Some option) None) false
        last option true = refl
        last option false = refl

new_first : (pairs : List Pair) → are_new [] pairs ≡ true
new_first [] = refl
new_first (pair ∷ pairs) = new_first pairs

pub accepted_after : (command : Command) (words : List (List ℕ)) → is_accepted_after command words ≡ fits command [] words
accepted_after command words = by (pairs_of words) ∙ fits_behind command words []
  where
    by : (o : Option (List Pair)) → option_map_or (are_accepted command) o false ≡ option_map_or (are_accepted_behind command []) o false
    by None = refl
    by (Some pairs) = sym (ap (λ t. are_accepted command pairs && t) (new_first pairs) ∙ and-true (are_accepted command pairs))

-- no word is wrong exactly where the words may stand there
pub fits_unless_wrong : (command : Command) (words : List (List ℕ)) (before : List OptionName) (at : ℕ) → is_none (wrong_from command before at words) ≡ fits command before words
fits_unless_wrong command [] before at = refl
fits_unless_wrong command (name ∷ []) before at = by (next_option command before name)
  where
    by : (o : Option OptionName) → is_none (option_map_or (λ option. Some (at + 1)) o (Some at)) ≡ false
    by None = refl
    by (Some option) = refl
fits_unless_wrong command (name ∷ value ∷ words) before at = by (next_option command before name) (λ option. fits_unless_wrong command words (option ∷ before) (at + 2))
  where
    tested : (option : OptionName) (b : Bool) → is_none (wrong_from command (option ∷ before) (at + 2) words) ≡ fits command (option ∷ before) words
        → is_none (cond b (wrong_from command (option ∷ before) (at + 2) words) (Some (at + 1))) ≡ (b && fits command (option ∷ before) words)
    tested option true e = e
    tested option false e = refl

    by : (o : Option OptionName) → ((option : OptionName) → is_none (wrong_from command (option ∷ before) (at + 2) words) ≡ fits command (option ∷ before) words)
        → is_none (option_map_or (λ option. cond (is_allowed option value) (wrong_from command (option ∷ before) (at + 2) words) (Some (at + 1))) o (Some at))
        ≡ option_map_or (λ option. is_allowed option value && fits command (option ∷ before) words) o false
    by None behind = refl
    by (Some option) behind = tested option (is_allowed option value) (behind option)

-- the words are accepted exactly where none is wrong
pub accepted_unless_wrong : (program : Program) (words : List (List ℕ)) → is_accepted program words ≡ is_none (first_wrong program words)
accepted_unless_wrong program [] = refl
accepted_unless_wrong program (word ∷ words) = by (command_of program word)
  where
    by : (o : Option Command) → option_map_or (λ command. is_accepted_after command words) o false ≡ is_none (option_map_or (λ command. wrong_from command [] 1 words) o (Some 0))
    by None = refl
    by (Some command) = accepted_after command words ∙ sym (fits_unless_wrong command words [] 1)
