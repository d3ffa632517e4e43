-- What accepted words say is what the values that were kept say.
use Rattle.std.proofs.Common.{◌≡◌, ℕ, List, ◌∷◌, Option, Some, None, cond, refl, ap, ◌∙◌}
use Rattle.std.specs.Option.{option_map, option_and_then, is_none}
use Rattle.surface_words.specs.declared.commands.Program.{Program}
use Rattle.surface_words.specs.declared.commands.Command.{Command}
use Rattle.surface_words.specs.declared.commands.Command.TheVariants.{Check, Print, Run, Compile, Value, Gen, Stress, Ensemble, Bench, Compact, Watch}
use Rattle.surface_words.specs.declared.given.Given.{Given}
use Rattle.surface_words.specs.Commands.{command_of}
use Rattle.surface_words.specs.Accepted.{Pair, pairs_of}
use Rattle.surface_words.specs.FirstWrong.{first_wrong}
use Rattle.surface_words.specs.Reading.{words_of, spelled_words, reading}
use Rattle.surface_words.specs.Given.{given_by, words_by}
use Rattle.surface_words.proofs.Fits.{accepted_unless_wrong}

same_words : (command : Command) (pairs : List Pair) → words_of command pairs ≡ words_by command (given_by 2 pairs)
same_words Check pairs = refl
same_words Print pairs = refl
same_words Run pairs = refl
same_words Compile pairs = refl
same_words Value pairs = refl
same_words Gen pairs = refl
same_words Stress pairs = refl
same_words Ensemble pairs = refl
same_words Bench pairs = refl
same_words Compact pairs = refl
same_words Watch pairs = refl

by_given : (command : Command) (given : Given) (pairs : Option (List Pair)) → option_map (given_by 2) pairs ≡ Some given → option_map (words_of command) pairs ≡ Some (words_by command given)
by_given command given None h = absurd (cc)
by_given command given (Some pairs) h =
    let same : given_by 2 pairs ≡ given = cc in
    ap (λ w. Some w) (same_words command pairs ∙ ap (words_by command) same)

pub reading_is : (program : Program) (word : List ℕ) (words : List (List ℕ)) (command : Command) (given : Given) → command_of program word ≡ Some command → first_wrong program (word ∷ words) ≡ None
    → option_map (given_by 2) (pairs_of words) ≡ Some given → reading program (word ∷ words) ≡ Some (words_by command given)
reading_is program word words command given e right values =
    ap (λ b. cond b (spelled_words program (word ∷ words)) None) (accepted_unless_wrong program (word ∷ words) ∙ ap is_none right)
    ∙ ap (option_and_then (λ command. option_map (words_of command) (pairs_of words))) e
    ∙ by_given command given (pairs_of words) values
