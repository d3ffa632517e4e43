-- The values of the options as they are kept while the words are read.
use Rattle.std.specs.Prelude.{ℕ, Bool, false, not, ◌&&◌, List, Option, Some, None, is_some, unwrap_or, if◌then◌else◌}
use Rattle.std.specs.List.{list_all}
use Rattle.std.specs.Option.{option_map, option_and_then}
use Rattle.surface_words.specs.declared.commands.Command.{Command}
use Rattle.surface_words.specs.declared.commands.Command.TheVariants.{Check, Print, Run, Compile, Value, Gen, Stress, Ensemble, Bench, Compact, Watch}
use Rattle.surface_words.specs.declared.given.Given.{Given}
use Rattle.surface_words.specs.declared.options.OptionName.{OptionName}
use Rattle.surface_words.specs.declared.options.OptionName.TheVariants.{Workers, Seed, Until, Samples, Limit, Inputs, Number, Seeds, First, Quota, Slots, Report, Viewers, Frames}
use Rattle.surface_words.specs.declared.words.Words.{Words}
use Rattle.surface_words.specs.declared.words.Words.TheVariants as variant
use Rattle.surface_words.specs.Commands.{option_of, has_option, number_of, choice_of, is_bit}
use Rattle.surface_words.specs.Accepted.{Pair}
use Rattle.surface_words.specs.Reading.{number_given, choice_given, index_given}

abbrev pub nothing : Given
nothing = record { workers = None; seed = None; until = None; samples = None; limit = None; inputs = None; number = None; seeds = None; first = None; quota = None; slots = None; report = None; viewers = None; frames = None }

abbrev pub has : Given → OptionName → Bool
has given Workers = is_some given.workers
has given Seed = is_some given.seed
has given Until = is_some given.until
has given Samples = is_some given.samples
has given Limit = is_some given.limit
has given Inputs = is_some given.inputs
has given Number = is_some given.number
has given Seeds = is_some given.seeds
has given First = is_some given.first
has given Quota = is_some given.quota
has given Slots = is_some given.slots
has given Report = is_some given.report
has given Viewers = is_some given.viewers
has given Frames = is_some given.frames

-- the option that a word names, if the command has it and it has no value yet
abbrev pub free_option : Command → Given → List ℕ → Option OptionName
free_option command given name =
    option_and_then (λ option. if has_option command option && not (has given option) then Some option else None) (option_of name)

-- with the value of one more option, whose word has this index; None where the value isn't allowed
abbrev pub with_value : Given → OptionName → List ℕ → ℕ → Option Given
with_value given Workers value index = option_map (λ n. record given { workers = Some n }) (number_of Workers value)
with_value given Seed value index = option_map (λ n. record given { seed = Some n }) (number_of Seed value)
with_value given Until value index = option_map (λ n. record given { until = Some n }) (number_of Until value)
with_value given Samples value index = option_map (λ n. record given { samples = Some n }) (number_of Samples value)
with_value given Limit value index = option_map (λ n. record given { limit = Some n }) (number_of Limit value)
with_value given Inputs value index = if list_all is_bit value then Some (record given { inputs = Some index }) else None
with_value given Number value index = option_map (λ n. record given { number = Some n }) (number_of Number value)
with_value given Seeds value index = option_map (λ n. record given { seeds = Some n }) (number_of Seeds value)
with_value given First value index = option_map (λ n. record given { first = Some n }) (number_of First value)
with_value given Quota value index = option_map (λ n. record given { quota = Some n }) (number_of Quota value)
with_value given Slots value index = option_map (λ n. record given { slots = Some n }) (number_of Slots value)
with_value given Report value index = option_map (λ b. record given { report = Some b }) (choice_of value)
with_value given Viewers value index = option_map (λ n. record given { viewers = Some n }) (number_of Viewers value)
with_value given Frames value index = option_map (λ n. record given { frames = Some n }) (number_of Frames value)

-- what the command says with these values
abbrev pub words_by : Command → Given → Words
words_by Check given = variant.Check
words_by Print given = variant.Print
words_by Run given = variant.Run (unwrap_or given.workers 1) given.seed given.until (unwrap_or given.samples 1) (unwrap_or given.limit 1000000) (unwrap_or given.quota 256) (unwrap_or given.slots 256) (unwrap_or given.report false)
words_by Compile given = variant.Compile given.inputs
words_by Value given = variant.Value given.inputs
words_by Gen given = variant.Gen (unwrap_or given.number 0)
words_by Stress given = variant.Stress (unwrap_or given.workers 1) (unwrap_or given.number 0)
words_by Ensemble given = variant.Ensemble (unwrap_or given.workers 1) (unwrap_or given.seeds 10) (unwrap_or given.first 0) given.until (unwrap_or given.limit 1000000)
words_by Bench given = variant.Bench
words_by Compact given = variant.Compact given.inputs
words_by Watch given = variant.Watch (unwrap_or given.workers 1) given.seed given.until (unwrap_or given.samples 1) (unwrap_or given.limit 1000000) (unwrap_or given.quota 256) (unwrap_or given.slots 256) (unwrap_or given.viewers 1) (unwrap_or given.frames 10)

-- the values that pairs give, where the first pair's value has the index `at`
abbrev pub given_by : ℕ → List Pair → Given
given_by at pairs = record {
  workers = number_given Workers pairs;
  seed = number_given Seed pairs;
  until = number_given Until pairs;
  samples = number_given Samples pairs;
  limit = number_given Limit pairs;
  inputs = index_given Inputs at pairs;
  number = number_given Number pairs;
  seeds = number_given Seeds pairs;
  first = number_given First pairs;
  quota = number_given Quota pairs;
  slots = number_given Slots pairs;
  report = choice_given Report pairs;
  viewers = number_given Viewers pairs;
  frames = number_given Frames pairs;
}
