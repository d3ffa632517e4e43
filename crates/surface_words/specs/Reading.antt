-- What accepted words say.
use Rattle.std.specs.Prelude.{ℕ, Bool, true, false, ◌+◌, ◌^◌, ◌<◌, ◌≤◌, List, [], ◌∷◌, Option, Some, None, unwrap_or, IfSome, if◌then◌else◌}
use Rattle.std.specs.Option.{option_map, option_and_then}
use Rattle.surface_words.specs.declared.commands.Program.{Program}
use Rattle.surface_words.specs.declared.commands.Command.{Command}
use Rattle.surface_words.specs.declared.commands.Command.TheVariants.{Check, Print, Run, Compile, Value, Gen, Stress, Ensemble, Bench, Compact, Watch}
use Rattle.surface_words.specs.declared.options.OptionName.{OptionName}
use Rattle.surface_words.specs.declared.options.OptionName.TheVariants.{Workers, Seed, Until, Samples, Limit, Inputs, Number, Seeds, First, Quota, Slots, Report, Viewers, Frames}
use Rattle.surface_words.specs.declared.words.Words.{Words}
use Rattle.surface_words.specs.declared.words.Words.TheVariants as variant
use Rattle.surface_words.specs.Commands.{command_of, same_option, number_of, choice_of}
use Rattle.surface_words.specs.Accepted.{Pair, pairs_of, is_accepted}

-- the value that the pairs give an option
abbrev pub value_given : OptionName → List Pair → Option (List ℕ)
value_given option [] = None
value_given option (pair ∷ pairs) = if same_option pair.option option then Some pair.value else value_given option pairs

-- the number that the pairs give an option
abbrev pub number_given : OptionName → List Pair → Option ℕ
number_given option pairs = option_and_then (number_of option) (value_given option pairs)

-- the choice that the pairs give an option
abbrev pub choice_given : OptionName → List Pair → Option Bool
choice_given option pairs = option_and_then choice_of (value_given option pairs)

-- the index of the word that is an option's value, where the first pair's value has the index `at`
abbrev pub index_given : OptionName → ℕ → List Pair → Option ℕ
index_given option at [] = None
index_given option at (pair ∷ pairs) = if same_option pair.option option then Some at else index_given option (at + 2) pairs

-- what a command with these pairs says, with what is meant where an option isn't given
abbrev pub words_of : Command → List Pair → Words
words_of Check pairs = variant.Check
words_of Print pairs = variant.Print
words_of Run pairs = variant.Run
    (unwrap_or (number_given Workers pairs) 1)
    (number_given Seed pairs)
    (number_given Until pairs)
    (unwrap_or (number_given Samples pairs) 1)
    (unwrap_or (number_given Limit pairs) 1000000)
    (unwrap_or (number_given Quota pairs) 256)
    (unwrap_or (number_given Slots pairs) 256)
    (unwrap_or (choice_given Report pairs) false)
words_of Compile pairs = variant.Compile (index_given Inputs 2 pairs)
words_of Value pairs = variant.Value (index_given Inputs 2 pairs)
words_of Gen pairs = variant.Gen (unwrap_or (number_given Number pairs) 0)
words_of Stress pairs = variant.Stress (unwrap_or (number_given Workers pairs) 1) (unwrap_or (number_given Number pairs) 0)
words_of Ensemble pairs = variant.Ensemble
    (unwrap_or (number_given Workers pairs) 1)
    (unwrap_or (number_given Seeds pairs) 10)
    (unwrap_or (number_given First pairs) 0)
    (number_given Until pairs)
    (unwrap_or (number_given Limit pairs) 1000000)
words_of Bench pairs = variant.Bench
words_of Compact pairs = variant.Compact (index_given Inputs 2 pairs)
words_of Watch pairs = variant.Watch
    (unwrap_or (number_given Workers pairs) 1)
    (number_given Seed pairs)
    (number_given Until pairs)
    (unwrap_or (number_given Samples pairs) 1)
    (unwrap_or (number_given Limit pairs) 1000000)
    (unwrap_or (number_given Quota pairs) 256)
    (unwrap_or (number_given Slots pairs) 256)
    (unwrap_or (number_given Viewers pairs) 1)
    (unwrap_or (number_given Frames pairs) 10)

-- what a list of words spells, whether it is accepted or not
abbrev pub spelled_words : Program → List (List ℕ) → Option Words
spelled_words program [] = None
spelled_words program (word ∷ words) = option_and_then (λ command. option_map (words_of command) (pairs_of words)) (command_of program word)

-- what a list of words says; None exactly where it isn't accepted
abbrev pub reading : Program → List (List ℕ) → Option Words
reading program words = if is_accepted program words then spelled_words program words else None

-- whether the command reads its input
abbrev pub reads : Words → Bool
reads variant.Check = true
reads variant.Print = true
reads (variant.Run workers seed until samples limit quota slots report) = true
reads (variant.Compile inputs) = true
reads (variant.Value inputs) = true
reads (variant.Gen number) = false
reads (variant.Stress workers number) = false
reads (variant.Ensemble workers seeds first until limit) = true
reads variant.Bench = true
reads (variant.Compact inputs) = true
reads (variant.Watch workers seed until samples limit quota slots viewers frames) = true

-- the bounds of a run
pub record IsRunInRange (workers : ℕ) (until : Option ℕ) (samples limit quota slots : ℕ) : Type 0 where
  pub workers_at_least : 1 ≤ workers
  pub workers_at_most : workers ≤ 64
  pub until_at_most : IfSome until (λ ticks. ticks ≤ 10 ^ 15)
  pub samples_at_most : samples ≤ 10000
  pub limit_at_most : limit ≤ 10000000
  pub quota_at_least : 1 ≤ quota
  pub quota_at_most : quota ≤ 65536
  pub slots_at_least : 1 ≤ slots
  pub slots_at_most : slots ≤ 65536

-- the bounds of a run that is generated
pub record IsStressInRange (workers number : ℕ) : Type 0 where
  pub workers_at_least : 1 ≤ workers
  pub workers_at_most : workers ≤ 64
  pub number_at_most : number ≤ 1000000000

-- the bounds of an ensemble
pub record IsEnsembleInRange (workers seeds : ℕ) (until : Option ℕ) (limit : ℕ) : Type 0 where
  pub workers_at_least : 1 ≤ workers
  pub workers_at_most : workers ≤ 64
  pub seeds_at_least : 1 ≤ seeds
  pub seeds_at_most : seeds ≤ 1000
  pub until_at_most : IfSome until (λ ticks. ticks ≤ 10 ^ 15)
  pub limit_at_most : limit ≤ 10000000

-- the bounds of a run with viewers
pub record IsWatchInRange (workers : ℕ) (until : Option ℕ) (samples limit quota slots viewers frames : ℕ) : Type 0 where
  pub run : IsRunInRange workers until samples limit quota slots
  pub viewers_at_least : 1 ≤ viewers
  pub viewers_at_most : viewers ≤ 16
  pub frames_at_least : 1 ≤ frames
  pub frames_at_most : frames ≤ 1000

-- the bounds of what a list of so many words says
abbrev pub IsInRange : ℕ → Words → Type 0
IsInRange count variant.Check = Unit {0}
IsInRange count variant.Print = Unit {0}
IsInRange count (variant.Run workers seed until samples limit quota slots report) = IsRunInRange workers until samples limit quota slots
IsInRange count (variant.Compile inputs) = IfSome inputs (λ index. index < count)
IsInRange count (variant.Value inputs) = IfSome inputs (λ index. index < count)
IsInRange count (variant.Gen number) = number ≤ 1000000000
IsInRange count (variant.Stress workers number) = IsStressInRange workers number
IsInRange count (variant.Ensemble workers seeds first until limit) = IsEnsembleInRange workers seeds until limit
IsInRange count variant.Bench = Unit {0}
IsInRange count (variant.Compact inputs) = IfSome inputs (λ index. index < count)
IsInRange count (variant.Watch workers seed until samples limit quota slots viewers frames) = IsWatchInRange workers until samples limit quota slots viewers frames
