-- The lists of words that are accepted.
use Rattle.std.specs.Prelude.{ℕ, Bool, true, false, not, ◌&&◌, List, [], ◌∷◌, Option, Some, None}
use Rattle.std.specs.List.{list_any, list_all}
use Rattle.std.specs.Option.{option_map, option_map_or}
use Rattle.surface_words.specs.declared.commands.Program.{Program}
use Rattle.surface_words.specs.declared.commands.Command.{Command}
use Rattle.surface_words.specs.declared.options.OptionName.{OptionName}
use Rattle.surface_words.specs.Commands.{command_of, option_of, has_option, is_allowed, same_option}

-- an option and its value
pub record Pair : Type 0 where
  pub option : OptionName
  pub value : List ℕ

-- a pair before others
abbrev pub with_pair : OptionName → List ℕ → Option (List Pair) → Option (List Pair)
with_pair option value pairs = option_map (λ others. (record { option = option; value = value }) ∷ others) pairs

-- the words as pairs of an option and its value; None where they aren't such pairs
abbrev pub pairs_of : List (List ℕ) → Option (List Pair)
pairs_of [] = Some []
pairs_of (name ∷ []) = None
pairs_of (name ∷ value ∷ words) = option_map_or (λ option. with_pair option value (pairs_of words)) (option_of name) None

-- an option of the command, with a value allowed for it
abbrev pub is_lawful : Command → Pair → Bool
is_lawful command pair = has_option command pair.option && is_allowed pair.option pair.value

abbrev pub is_given : OptionName → List Pair → Bool
is_given option pairs = list_any (λ pair. same_option pair.option option) pairs

-- each option at most once
abbrev pub are_single : List Pair → Bool
are_single [] = true
are_single (pair ∷ pairs) = not (is_given pair.option pairs) && are_single pairs

-- pairs that may stand behind the command
abbrev pub are_accepted : Command → List Pair → Bool
are_accepted command pairs = list_all (is_lawful command) pairs && are_single pairs

abbrev pub is_accepted_after : Command → List (List ℕ) → Bool
is_accepted_after command words = option_map_or (are_accepted command) (pairs_of words) false

-- a command of the program, and then pairs that may stand behind it
abbrev pub is_accepted : Program → List (List ℕ) → Bool
is_accepted program [] = false
is_accepted program (word ∷ words) = option_map_or (λ command. is_accepted_after command words) (command_of program word) false
