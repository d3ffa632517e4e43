-- The commands of the programs, their options, and the values of these.
use Rattle.std.specs.Prelude.{ℕ, Bool, true, false, ◌&&◌, ◌||◌, ◌==◌, nat_le, List, [], ◌∷◌, find, Option, Some, None, is_some, if◌then◌else◌, codes}
use Rattle.std.specs.List.{list_any, list_all}
use Rattle.std.specs.Option.{option_and_then}
use Rattle.std.specs.Str.{bytes_eq}
use Rattle.surf_text.specs.Numbers.{u64_of}
use Rattle.rates.specs.Durations.{duration_of}
use Rattle.surface_words.specs.declared.commands.Program.{Program}
use Rattle.surface_words.specs.declared.commands.Program.TheVariants as program
use Rattle.surface_words.specs.declared.commands.Command.{Command}
use Rattle.surface_words.specs.declared.commands.Command.TheVariants.{Check, Print, Run, Compile, Value, Gen, Stress, Ensemble, Bench, Compact, Watch}
use Rattle.surface_words.specs.declared.options.OptionName.{OptionName}
use Rattle.surface_words.specs.declared.options.OptionName.TheVariants.{Workers, Seed, Until, Samples, Limit, Inputs, Number, Seeds, First, Quota, Slots, Report, Viewers, Frames}

abbrev pub commands_of : Program → List Command
commands_of program.Surface = Check ∷ Print ∷ Run ∷ Compile ∷ Value ∷ Gen ∷ Stress ∷ Ensemble ∷ Bench ∷ Compact ∷ []
commands_of program.Watch = Watch ∷ []

abbrev pub command_text : Command → List ℕ
command_text Check = codes "check"
command_text Print = codes "print"
command_text Run = codes "run"
command_text Compile = codes "compile"
command_text Value = codes "value"
command_text Gen = codes "gen"
command_text Stress = codes "stress"
command_text Ensemble = codes "ensemble"
command_text Bench = codes "bench"
command_text Compact = codes "compact"
command_text Watch = codes "watch"

-- the command of a program that a word names
abbrev pub command_of : Program → List ℕ → Option Command
command_of program word = find (λ command. bytes_eq word (command_text command)) (commands_of program)

abbrev pub option_text : OptionName → List ℕ
option_text Workers = codes "--workers"
option_text Seed = codes "--seed"
option_text Until = codes "--until"
option_text Samples = codes "--samples"
option_text Limit = codes "--limit"
option_text Inputs = codes "--inputs"
option_text Number = codes "--number"
option_text Seeds = codes "--seeds"
option_text First = codes "--first"
option_text Quota = codes "--quota"
option_text Slots = codes "--slots"
option_text Report = codes "--report"
option_text Viewers = codes "--viewers"
option_text Frames = codes "--frames"

abbrev pub all_options : List OptionName
all_options = Workers ∷ Seed ∷ Until ∷ Samples ∷ Limit ∷ Inputs ∷ Number ∷ Seeds ∷ First ∷ Quota ∷ Slots ∷ Report ∷ Viewers ∷ Frames ∷ []

-- the option that a word names
abbrev pub option_of : List ℕ → Option OptionName
option_of word = find (λ option. bytes_eq word (option_text option)) all_options

abbrev pub same_option : OptionName → OptionName → Bool
same_option a b = bytes_eq (option_text a) (option_text b)

abbrev pub is_among : OptionName → List OptionName → Bool
is_among option options = list_any (same_option option) options

abbrev pub options_of : Command → List OptionName
options_of Check = []
options_of Print = []
options_of Run = Workers ∷ Seed ∷ Until ∷ Samples ∷ Limit ∷ Quota ∷ Slots ∷ Report ∷ []
options_of Compile = Inputs ∷ []
options_of Value = Inputs ∷ []
options_of Gen = Number ∷ []
options_of Stress = Workers ∷ Number ∷ []
options_of Ensemble = Workers ∷ Until ∷ Limit ∷ Seeds ∷ First ∷ []
options_of Bench = []
options_of Compact = Inputs ∷ []
options_of Watch = Workers ∷ Seed ∷ Until ∷ Samples ∷ Limit ∷ Quota ∷ Slots ∷ Viewers ∷ Frames ∷ []

abbrev pub has_option : Command → OptionName → Bool
has_option command option = is_among option (options_of command)

-- a whole number from `least` to `most`
abbrev pub whole_in : ℕ → ℕ → List ℕ → Option ℕ
whole_in least most text = option_and_then (λ n. if nat_le least n && nat_le n most then Some n else None) (u64_of text)

-- the number that a value spells for its option
abbrev pub number_of : OptionName → List ℕ → Option ℕ
number_of Workers value = whole_in 1 64 value
number_of Seed value = u64_of value
number_of Until value = duration_of value
number_of Samples value = whole_in 0 10000 value
number_of Limit value = whole_in 0 10000000 value
number_of Inputs value = None
number_of Number value = whole_in 0 1000000000 value
number_of Seeds value = whole_in 1 1000 value
number_of First value = u64_of value
number_of Quota value = whole_in 1 65536 value
number_of Slots value = whole_in 1 65536 value
number_of Report value = None
number_of Viewers value = whole_in 1 16 value
number_of Frames value = whole_in 1 1000 value

-- 0 or 1
abbrev pub is_bit : ℕ → Bool
is_bit c = c == 48 || c == 49

-- yes or no
abbrev pub choice_of : List ℕ → Option Bool
choice_of value = if bytes_eq value (codes "yes") then Some true else if bytes_eq value (codes "no") then Some false else None

abbrev pub is_allowed : OptionName → List ℕ → Bool
is_allowed Inputs value = list_all is_bit value
is_allowed Report value = is_some (choice_of value)
is_allowed option value = is_some (number_of option value)
