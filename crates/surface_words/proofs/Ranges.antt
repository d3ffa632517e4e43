-- The bounds of what accepted words say.
use Rattle.std.proofs.Common.{◌≡◌, ◌<◌, ◌≤◌, ℕ, ◌+◌, ◌*◌, ◌^◌, Bool, true, false, ◌&&◌, nat_le, List, [], ◌∷◌, length, Option, Some, None, IfSome, unwrap_or, cond, refl, subst, lit≤, arith}
use Rattle.std.proofs.lemmas.Bool.Decides.{nat_tests}
use Rattle.std.specs.Option.{option_map, option_and_then, option_map_or}
use Rattle.surf_text.specs.Numbers.{u64_of}
use Rattle.surf_text.specs.Decimals.{decimal_of}
use Rattle.surf_text.specs.declared.numbers.Dec.{Dec}
use Rattle.rates.specs.Durations.{ticks_of, duration_of}
use Rattle.surface_words.specs.declared.commands.Program.{Program}
use Rattle.surface_words.specs.declared.commands.Command.{Command}
use Rattle.surface_words.specs.declared.commands.Command.TheVariants.{Check, Print, Run, Compile, Value, Gen, Stress, Ensemble, Bench, Compact, Watch}
use Rattle.surface_words.specs.declared.options.OptionName.{OptionName}
use Rattle.surface_words.specs.declared.options.OptionName.TheVariants.{Workers, Until, Samples, Limit, Inputs, Number, Seeds, Quota, Slots, Viewers, Frames}
use Rattle.surface_words.specs.declared.words.Words.{Words}
use Rattle.surface_words.specs.Commands.{command_of, option_of, same_option, whole_in, number_of}
use Rattle.surface_words.specs.Accepted.{Pair, pairs_of, with_pair, is_accepted}
use Rattle.surface_words.specs.Reading.{value_given, number_given, index_given, words_of, spelled_words, reading, IsInRange, IsRunInRange}

abbrev IsWithin : ℕ → ℕ → ℕ → Type 0
IsWithin least most n = (least ≤ n) × (n ≤ most)

tested_within : (least most n : ℕ) → (nat_le least n && nat_le n most) ≡ true → IsWithin least most n
tested_within least most n h = (grind (arith, nat_tests), grind (arith, nat_tests))

whole_within : (least most : ℕ) (text : List ℕ) → IfSome (whole_in least most text) (IsWithin least most)
whole_within least most text = by (u64_of text)
  where
    tested : (n : ℕ) (b : Bool) → (nat_le least n && nat_le n most) ≡ b → IfSome (cond b (Some n) None) (IsWithin least most)
    tested n true e = tested_within least most n e
    tested n false e = tt

    by : (o : Option ℕ) → IfSome (option_and_then (λ n. cond (nat_le least n && nat_le n most) (Some n) None) o) (IsWithin least most)
    by None = tt
    by (Some n) = tested n (nat_le least n && nat_le n most) refl

tested_ticks : (n : ℕ) → nat_le n (10 ^ 15) ≡ true → n ≤ 10 ^ 15
tested_ticks n h = grind (arith, nat_tests)

duration_within : (text : List ℕ) → IfSome (duration_of text) (λ ticks. ticks ≤ 10 ^ 15)
duration_within text = by (decimal_of text)
  where
    tested : (n : ℕ) (b : Bool) → nat_le n (10 ^ 15) ≡ b → IfSome (cond b (Some n) None) (λ ticks. ticks ≤ 10 ^ 15)
    tested n true e = tested_ticks n e
    tested n false e = tt

    by : (o : Option Dec) → IfSome (option_and_then (λ d. cond (nat_le (ticks_of d) (10 ^ 15)) (Some (ticks_of d)) None) o) (λ ticks. ticks ≤ 10 ^ 15)
    by None = tt
    by (Some d) = tested (ticks_of d) (nat_le (ticks_of d) (10 ^ 15)) refl

-- what holds of each number that a value spells holds of the number that pairs give
given_within : (option : OptionName) (P : ℕ → Type 0) → ((value : List ℕ) → IfSome (number_of option value) P) → (pairs : List Pair) → IfSome (number_given option pairs) P
given_within option P each pairs = by (value_given option pairs)
  where
    by : (o : Option (List ℕ)) → IfSome (option_and_then (number_of option) o) P
    by None = tt
    by (Some value) = each value

with_default : (P : ℕ → Type 0) (o : Option ℕ) (n : ℕ) → IfSome o P → P n → P (unwrap_or o n)
with_default P None n h d = d
with_default P (Some x) n h d = h

index_below : (option : OptionName) (pairs : List Pair) (at : ℕ) → IfSome (index_given option at pairs) (λ index. index + 2 ≤ at + 2 * length pairs)
index_below option [] at = tt
index_below option (pair ∷ pairs) at = by (same_option pair.option option) (index_given option (at + 2) pairs) (index_below option pairs (at + 2))
  where
    by : (b : Bool) (o : Option ℕ) → IfSome o (λ index. index + 2 ≤ at + 2 + 2 * length pairs) → IfSome (cond b (Some at) o) (λ index. index + 2 ≤ at + 2 * length (pair ∷ pairs))
    by true o h = omega arith
    by false None h = tt
    by false (Some index) h = omega (arith, h)

-- two words a pair
pairs_length : (words : List (List ℕ)) (pairs : List Pair) → pairs_of words ≡ Some pairs → length words ≡ 2 * length pairs
pairs_length [] pairs h = let same : [] ≡ pairs = cc in subst (λ ps. 0 ≡ 2 * length ps) same (omega arith)
pairs_length (name ∷ []) pairs h = absurd (cc)
pairs_length (name ∷ value ∷ words) pairs h = by_option (option_of name) (pairs_of words) refl (pairs_length words) h
  where
    by_pairs : (option : OptionName) (o : Option (List Pair)) → pairs_of words ≡ o → ((others : List Pair) → pairs_of words ≡ Some others → length words ≡ 2 * length others)
        → with_pair option value o ≡ Some pairs → length (name ∷ value ∷ words) ≡ 2 * length pairs
    by_pairs option None e behind h = absurd (cc)
    by_pairs option (Some others) e behind h =
        let same : (record { option = option; value = value }) ∷ others ≡ pairs = cc in
        let rest : length words ≡ 2 * length others = behind others e in
        subst (λ ps. length (name ∷ value ∷ words) ≡ 2 * length ps) same (omega (arith, rest))

    by_option : (o : Option OptionName) (p : Option (List Pair)) → pairs_of words ≡ p → ((others : List Pair) → pairs_of words ≡ Some others → length words ≡ 2 * length others)
        → option_map_or (λ option. with_pair option value (pairs_of words)) o None ≡ Some pairs → length (name ∷ value ∷ words) ≡ 2 * length pairs
    by_option None p e behind h = absurd (cc)
    by_option (Some option) p e behind h = by_pairs option (pairs_of words) refl behind h

inputs_within : (o : Option ℕ) (pairs : List Pair) (count : ℕ) → count ≡ 1 + 2 * length pairs → IfSome o (λ index. index + 2 ≤ 2 + 2 * length pairs) → IfSome o (λ index. index < count)
inputs_within None pairs count e h = tt
inputs_within (Some index) pairs count e h = omega (arith, e, h)

number_within : (pairs : List Pair) → unwrap_or (number_given Number pairs) 0 ≤ 1000000000
number_within pairs =
    let within = with_default (IsWithin 0 1000000000) (number_given Number pairs) 0 (given_within Number (IsWithin 0 1000000000) (whole_within 0 1000000000) pairs) (lit≤ tt, lit≤ tt) in
    within.1

workers_within : (pairs : List Pair) → IsWithin 1 64 (unwrap_or (number_given Workers pairs) 1)
workers_within pairs = with_default (IsWithin 1 64) (number_given Workers pairs) 1 (given_within Workers (IsWithin 1 64) (whole_within 1 64) pairs) (lit≤ tt, lit≤ tt)

limit_within : (pairs : List Pair) → IsWithin 0 10000000 (unwrap_or (number_given Limit pairs) 1000000)
limit_within pairs = with_default (IsWithin 0 10000000) (number_given Limit pairs) 1000000 (given_within Limit (IsWithin 0 10000000) (whole_within 0 10000000) pairs) (lit≤ tt, lit≤ tt)

run_within : (pairs : List Pair) → IsRunInRange (unwrap_or (number_given Workers pairs) 1) (number_given Until pairs) (unwrap_or (number_given Samples pairs) 1) (unwrap_or (number_given Limit pairs) 1000000) (unwrap_or (number_given Quota pairs) 256) (unwrap_or (number_given Slots pairs) 256)
run_within pairs =
    let workers = workers_within pairs in
    let samples = with_default (IsWithin 0 10000) (number_given Samples pairs) 1 (given_within Samples (IsWithin 0 10000) (whole_within 0 10000) pairs) (lit≤ tt, lit≤ tt) in
    let limit = limit_within pairs in
    let quota = with_default (IsWithin 1 65536) (number_given Quota pairs) 256 (given_within Quota (IsWithin 1 65536) (whole_within 1 65536) pairs) (lit≤ tt, lit≤ tt) in
    let slots = with_default (IsWithin 1 65536) (number_given Slots pairs) 256 (given_within Slots (IsWithin 1 65536) (whole_within 1 65536) pairs) (lit≤ tt, lit≤ tt) in
    record {
      workers_at_least = workers.0;
      workers_at_most = workers.1;
      until_at_most = given_within Until (λ ticks. ticks ≤ 10 ^ 15) duration_within pairs;
      samples_at_most = samples.1;
      limit_at_most = limit.1;
      quota_at_least = quota.0;
      quota_at_most = quota.1;
      slots_at_least = slots.0;
      slots_at_most = slots.1;
    }

words_within : (command : Command) (pairs : List Pair) (count : ℕ) → count ≡ 1 + 2 * length pairs → IsInRange count (words_of command pairs)
words_within Check pairs count e = tt
words_within Print pairs count e = tt
words_within Run pairs count e = run_within pairs
words_within Compile pairs count e = inputs_within (index_given Inputs 2 pairs) pairs count e (index_below Inputs pairs 2)
words_within Value pairs count e = inputs_within (index_given Inputs 2 pairs) pairs count e (index_below Inputs pairs 2)
words_within Gen pairs count e = number_within pairs
words_within Stress pairs count e =
    let workers = workers_within pairs in
    record { workers_at_least = workers.0; workers_at_most = workers.1; number_at_most = number_within pairs }
words_within Ensemble pairs count e =
    let workers = workers_within pairs in
    let seeds = with_default (IsWithin 1 1000) (number_given Seeds pairs) 10 (given_within Seeds (IsWithin 1 1000) (whole_within 1 1000) pairs) (lit≤ tt, lit≤ tt) in
    let limit = limit_within pairs in
    record {
      workers_at_least = workers.0;
      workers_at_most = workers.1;
      seeds_at_least = seeds.0;
      seeds_at_most = seeds.1;
      until_at_most = given_within Until (λ ticks. ticks ≤ 10 ^ 15) duration_within pairs;
      limit_at_most = limit.1;
    }
words_within Bench pairs count e = tt
words_within Compact pairs count e = inputs_within (index_given Inputs 2 pairs) pairs count e (index_below Inputs pairs 2)
words_within Watch pairs count e =
    let viewers = with_default (IsWithin 1 16) (number_given Viewers pairs) 1 (given_within Viewers (IsWithin 1 16) (whole_within 1 16) pairs) (lit≤ tt, lit≤ tt) in
    let frames = with_default (IsWithin 1 1000) (number_given Frames pairs) 10 (given_within Frames (IsWithin 1 1000) (whole_within 1 1000) pairs) (lit≤ tt, lit≤ tt) in
    record {
      run = run_within pairs;
      viewers_at_least = viewers.0;
      viewers_at_most = viewers.1;
      frames_at_least = frames.0;
      frames_at_most = frames.1;
    }

pub reading_within : (program : Program) (words : List (List ℕ)) (w : Words) → reading program words ≡ Some w → IsInRange (length words) w
reading_within program words w h = by (is_accepted program words) h
  where
    by_pairs : (word : List ℕ) (words : List (List ℕ)) (command : Command) (o : Option (List Pair)) → pairs_of words ≡ o → option_map (words_of command) o ≡ Some w → IsInRange (length (word ∷ words)) w
    by_pairs word words command None e h = absurd (cc)
    by_pairs word words command (Some pairs) e h =
        let same : words_of command pairs ≡ w = cc in
        let count : length words ≡ 2 * length pairs = pairs_length words pairs e in
        subst (IsInRange (length (word ∷ words))) same (words_within command pairs (length (word ∷ words)) (omega (arith, count)))

    by_command : (word : List ℕ) (words : List (List ℕ)) (o : Option Command) → option_and_then (λ command. option_map (words_of command) (pairs_of words)) o ≡ Some w → IsInRange (length (word ∷ words)) w
    by_command word words None h = absurd (cc)
    by_command word words (Some command) h = by_pairs word words command (pairs_of words) refl h

    by_words : (words : List (List ℕ)) → spelled_words program words ≡ Some w → IsInRange (length words) w
    by_words [] h = absurd (cc)
    by_words (word ∷ words) h = by_command word words (command_of program word) h

    by : (b : Bool) → cond b (spelled_words program words) None ≡ Some w → IsInRange (length words) w
    by true h = by_words words h
    by false h = absurd (cc)
