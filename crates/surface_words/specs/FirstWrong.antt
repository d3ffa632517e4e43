-- The first wrong word.
use Rattle.std.specs.Prelude.{◌≡◌, ◌<◌, ℕ, suc, ◌+◌, true, false, not, ◌&&◌, ◌⊎◌, List, [], ◌∷◌, ◌++◌, length, take, Option, Some, None, if◌then◌else◌}
use Rattle.std.specs.Option.{option_and_then, option_map_or}
use Rattle.surface_words.specs.declared.commands.Program.{Program}
use Rattle.surface_words.specs.declared.commands.Command.{Command}
use Rattle.surface_words.specs.declared.options.OptionName.{OptionName}
use Rattle.surface_words.specs.Commands.{command_of, option_of, has_option, is_allowed, is_among}
use Rattle.surface_words.specs.Accepted.{is_accepted}

-- some accepted list begins with these words
abbrev pub CanGoOn : Program → List (List ℕ) → Type 0
CanGoOn program words = (more : List (List ℕ)) × (is_accepted program (words ++ more) ≡ true)

-- no accepted list begins with these words
abbrev pub IsDeadEnd : Program → List (List ℕ) → Type 0
IsDeadEnd program words = (more : List (List ℕ)) → is_accepted program (words ++ more) ≡ false

-- the least number i such that no accepted list begins with the first i + 1 words
pub record IsLeastDeadEnd (program : Program) (words : List (List ℕ)) (i : ℕ) : Type 0 where
  pub dead : IsDeadEnd program (take (suc i) words)
  pub least : (j : ℕ) → j < i → CanGoOn program (take (suc j) words)

-- there is no such number, and yet the words aren't accepted: a word is missing, of which i is the index
pub record IsCutShort (program : Program) (words : List (List ℕ)) (i : ℕ) : Type 0 where
  pub open_ended : (j : ℕ) → CanGoOn program (take (suc j) words)
  pub unaccepted : is_accepted program words ≡ false
  pub at_end : i ≡ length words

-- i is the first wrong index
abbrev pub IsFirstWrong : Program → List (List ℕ) → ℕ → Type 0
IsFirstWrong program words i = IsLeastDeadEnd program words i ⊎ IsCutShort program words i

-- the option that a word names, if the command has it and it isn't among those before
abbrev pub next_option : Command → List OptionName → List ℕ → Option OptionName
next_option command before name =
    option_and_then (λ option. if has_option command option && not (is_among option before) then Some option else None) (option_of name)

-- the first wrong word of those that stand from the index `at` on, behind the command and the options before
abbrev pub wrong_from : Command → List OptionName → ℕ → List (List ℕ) → Option ℕ
wrong_from command before at [] = None
wrong_from command before at (name ∷ []) = option_map_or (λ option. Some (at + 1)) (next_option command before name) (Some at)
wrong_from command before at (name ∷ value ∷ words) =
    option_map_or (λ option. if is_allowed option value then wrong_from command (option ∷ before) (at + 2) words else Some (at + 1)) (next_option command before name) (Some at)

-- the index of the first wrong word, from left to right: where a word is missing, the number of words
abbrev pub first_wrong : Program → List (List ℕ) → Option ℕ
first_wrong program [] = Some 0
first_wrong program (word ∷ words) = option_map_or (λ command. wrong_from command [] 1 words) (command_of program word) (Some 0)
