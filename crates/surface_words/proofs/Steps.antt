-- What the value of one more option does to the values that are kept.
use Rattle.std.proofs.Common.{◌≡◌, ℕ, ◌+◌, Bool, true, false, ◌||◌, List, ◌∷◌, Option, Some, None, is_some, cond, refl, subst}
use Rattle.std.specs.List.{list_all}
use Rattle.std.specs.Option.{option_map, option_or}
use Rattle.surface_words.specs.declared.given.Given.{Given}
use Rattle.surface_words.specs.declared.options.OptionName.{OptionName}
use Rattle.surface_words.specs.declared.options.OptionName.TheVariants.{Workers, Seed, Until, Samples, Limit, Inputs, Number, Seeds, First, Quota, Slots, Report, Viewers, Frames}
use Rattle.surface_words.specs.Commands.{same_option, number_of, choice_of, is_bit, is_allowed}
use Rattle.surface_words.specs.Accepted.{Pair}
use Rattle.surface_words.specs.Reading.{number_given, choice_given, index_given}
use Rattle.surface_words.specs.Given.{has, with_value}

-- the values with those that pairs give, where the first pair's value has the index `at`
abbrev pub merged : Given → ℕ → List Pair → Given
merged given at pairs = record {
  workers = option_or given.workers (number_given Workers pairs);
  seed = option_or given.seed (number_given Seed pairs);
  until = option_or given.until (number_given Until pairs);
  samples = option_or given.samples (number_given Samples pairs);
  limit = option_or given.limit (number_given Limit pairs);
  inputs = option_or given.inputs (index_given Inputs at pairs);
  number = option_or given.number (number_given Number pairs);
  seeds = option_or given.seeds (number_given Seeds pairs);
  first = option_or given.first (number_given First pairs);
  quota = option_or given.quota (number_given Quota pairs);
  slots = option_or given.slots (number_given Slots pairs);
  report = option_or given.report (choice_given Report pairs);
  viewers = option_or given.viewers (number_given Viewers pairs);
  frames = option_or given.frames (number_given Frames pairs);
}

abbrev HasMore : Given → OptionName → Given → OptionName → Type 0
HasMore old option new other = has new other ≡ (same_option other option || has old other)

-- the new values are the old ones with that of one more option
pub record IsStep (old : Given) (option : OptionName) (value : List ℕ) (index : ℕ) (new : Given) : Type 0 where
  pub has_more : (other : OptionName) → HasMore old option new other
  pub same_rest : has old option ≡ false → (pairs : List Pair) → merged new (index + 2) pairs ≡ merged old index ((record { option = option; value = value }) ∷ pairs)

none_where : {T : Type 0} (o : Option T) → is_some o ≡ false → o ≡ None
none_where None h = refl
none_where (Some x) h = absurd (cc)

-- what holds of the values with any number, or choice, holds of those that were made of one
by_number : {T : Type 0} (f : T → Given) (number : Option T) (new : Given) (P : Given → Type 0) → ((n : T) → number ≡ Some n → P (f n)) → option_map f number ≡ Some new → P new
by_number f None new P g h = absurd (cc)
by_number f (Some n) new P g h = let e : f n ≡ new = cc in subst P e (g n refl)

step_workers : (old : Given) (value : List ℕ) (index n : ℕ) → number_of Workers value ≡ Some n → IsStep old Workers value index (record old { workers = Some n })
step_workers old value index n e = record {
  has_more = λ other. elim other as (HasMore old Workers (record old { workers = Some n })) [ Workers ↦ refl | _ ↦ refl ];
  same_rest = λ h pairs. let none = none_where old.workers h in rw (none, e) refl;
}

step_seed : (old : Given) (value : List ℕ) (index n : ℕ) → number_of Seed value ≡ Some n → IsStep old Seed value index (record old { seed = Some n })
step_seed old value index n e = record {
  has_more = λ other. elim other as (HasMore old Seed (record old { seed = Some n })) [ Seed ↦ refl | _ ↦ refl ];
  same_rest = λ h pairs. let none = none_where old.seed h in rw (none, e) refl;
}

step_until : (old : Given) (value : List ℕ) (index n : ℕ) → number_of Until value ≡ Some n → IsStep old Until value index (record old { until = Some n })
step_until old value index n e = record {
  has_more = λ other. elim other as (HasMore old Until (record old { until = Some n })) [ Until ↦ refl | _ ↦ refl ];
  same_rest = λ h pairs. let none = none_where old.until h in rw (none, e) refl;
}

step_samples : (old : Given) (value : List ℕ) (index n : ℕ) → number_of Samples value ≡ Some n → IsStep old Samples value index (record old { samples = Some n })
step_samples old value index n e = record {
  has_more = λ other. elim other as (HasMore old Samples (record old { samples = Some n })) [ Samples ↦ refl | _ ↦ refl ];
  same_rest = λ h pairs. let none = none_where old.samples h in rw (none, e) refl;
}

step_limit : (old : Given) (value : List ℕ) (index n : ℕ) → number_of Limit value ≡ Some n → IsStep old Limit value index (record old { limit = Some n })
step_limit old value index n e = record {
  has_more = λ other. elim other as (HasMore old Limit (record old { limit = Some n })) [ Limit ↦ refl | _ ↦ refl ];
  same_rest = λ h pairs. let none = none_where old.limit h in rw (none, e) refl;
}

step_inputs : (old : Given) (value : List ℕ) (index : ℕ) → IsStep old Inputs value index (record old { inputs = Some index })
step_inputs old value index = record {
  has_more = λ other. elim other as (HasMore old Inputs (record old { inputs = Some index })) [ Inputs ↦ refl | _ ↦ refl ];
  same_rest = λ h pairs. let none = none_where old.inputs h in rw none refl;
}

step_number : (old : Given) (value : List ℕ) (index n : ℕ) → number_of Number value ≡ Some n → IsStep old Number value index (record old { number = Some n })
step_number old value index n e = record {
  has_more = λ other. elim other as (HasMore old Number (record old { number = Some n })) [ Number ↦ refl | _ ↦ refl ];
  same_rest = λ h pairs. let none = none_where old.number h in rw (none, e) refl;
}

step_seeds : (old : Given) (value : List ℕ) (index n : ℕ) → number_of Seeds value ≡ Some n → IsStep old Seeds value index (record old { seeds = Some n })
step_seeds old value index n e = record {
  has_more = λ other. elim other as (HasMore old Seeds (record old { seeds = Some n })) [ Seeds ↦ refl | _ ↦ refl ];
  same_rest = λ h pairs. let none = none_where old.seeds h in rw (none, e) refl;
}

step_first : (old : Given) (value : List ℕ) (index n : ℕ) → number_of First value ≡ Some n → IsStep old First value index (record old { first = Some n })
step_first old value index n e = record {
  has_more = λ other. elim other as (HasMore old First (record old { first = Some n })) [ First ↦ refl | _ ↦ refl ];
  same_rest = λ h pairs. let none = none_where old.first h in rw (none, e) refl;
}

step_quota : (old : Given) (value : List ℕ) (index n : ℕ) → number_of Quota value ≡ Some n → IsStep old Quota value index (record old { quota = Some n })
step_quota old value index n e = record {
  has_more = λ other. elim other as (HasMore old Quota (record old { quota = Some n })) [ Quota ↦ refl | _ ↦ refl ];
  same_rest = λ h pairs. let none = none_where old.quota h in rw (none, e) refl;
}

step_slots : (old : Given) (value : List ℕ) (index n : ℕ) → number_of Slots value ≡ Some n → IsStep old Slots value index (record old { slots = Some n })
step_slots old value index n e = record {
  has_more = λ other. elim other as (HasMore old Slots (record old { slots = Some n })) [ Slots ↦ refl | _ ↦ refl ];
  same_rest = λ h pairs. let none = none_where old.slots h in rw (none, e) refl;
}

step_viewers : (old : Given) (value : List ℕ) (index n : ℕ) → number_of Viewers value ≡ Some n → IsStep old Viewers value index (record old { viewers = Some n })
step_viewers old value index n e = record {
  has_more = λ other. elim other as (HasMore old Viewers (record old { viewers = Some n })) [ Viewers ↦ refl | _ ↦ refl ];
  same_rest = λ h pairs. let none = none_where old.viewers h in rw (none, e) refl;
}

step_frames : (old : Given) (value : List ℕ) (index n : ℕ) → number_of Frames value ≡ Some n → IsStep old Frames value index (record old { frames = Some n })
step_frames old value index n e = record {
  has_more = λ other. elim other as (HasMore old Frames (record old { frames = Some n })) [ Frames ↦ refl | _ ↦ refl ];
  same_rest = λ h pairs. let none = none_where old.frames h in rw (none, e) refl;
}

step_report : (old : Given) (value : List ℕ) (index : ℕ) (b : Bool) → choice_of value ≡ Some b → IsStep old Report value index (record old { report = Some b })
step_report old value index b e = record {
  has_more = λ other. elim other as (HasMore old Report (record old { report = Some b })) [ Report ↦ refl | _ ↦ refl ];
  same_rest = λ h pairs. let none = none_where old.report h in rw (none, e) refl;
}

by_test : (b : Bool) (made new : Given) → cond b (Some made) None ≡ Some new → made ≡ new
by_test true made new h = cc
by_test false made new h = absurd (cc)

pub step_is : (old : Given) (option : OptionName) (value : List ℕ) (index : ℕ) (new : Given) → with_value old option value index ≡ Some new → IsStep old option value index new
step_is old Workers value index new h = by_number (λ n. record old { workers = Some n }) (number_of Workers value) new (IsStep old Workers value index) (step_workers old value index) h
step_is old Seed value index new h = by_number (λ n. record old { seed = Some n }) (number_of Seed value) new (IsStep old Seed value index) (step_seed old value index) h
step_is old Until value index new h = by_number (λ n. record old { until = Some n }) (number_of Until value) new (IsStep old Until value index) (step_until old value index) h
step_is old Samples value index new h = by_number (λ n. record old { samples = Some n }) (number_of Samples value) new (IsStep old Samples value index) (step_samples old value index) h
step_is old Limit value index new h = by_number (λ n. record old { limit = Some n }) (number_of Limit value) new (IsStep old Limit value index) (step_limit old value index) h
step_is old Inputs value index new h = subst (IsStep old Inputs value index) (by_test (list_all is_bit value) (record old { inputs = Some index }) new h) (step_inputs old value index)
step_is old Number value index new h = by_number (λ n. record old { number = Some n }) (number_of Number value) new (IsStep old Number value index) (step_number old value index) h
step_is old Seeds value index new h = by_number (λ n. record old { seeds = Some n }) (number_of Seeds value) new (IsStep old Seeds value index) (step_seeds old value index) h
step_is old First value index new h = by_number (λ n. record old { first = Some n }) (number_of First value) new (IsStep old First value index) (step_first old value index) h
step_is old Quota value index new h = by_number (λ n. record old { quota = Some n }) (number_of Quota value) new (IsStep old Quota value index) (step_quota old value index) h
step_is old Slots value index new h = by_number (λ n. record old { slots = Some n }) (number_of Slots value) new (IsStep old Slots value index) (step_slots old value index) h
step_is old Report value index new h = by_number (λ b. record old { report = Some b }) (choice_of value) new (IsStep old Report value index) (step_report old value index) h
step_is old Viewers value index new h = by_number (λ n. record old { viewers = Some n }) (number_of Viewers value) new (IsStep old Viewers value index) (step_viewers old value index) h
step_is old Frames value index new h = by_number (λ n. record old { frames = Some n }) (number_of Frames value) new (IsStep old Frames value index) (step_frames old value index) h

is_some_map : {T : Type 0} (f : T → Given) (number : Option T) → is_some (option_map f number) ≡ is_some number
is_some_map f None = refl
is_some_map f (Some n) = refl

is_some_test : (b : Bool) (made : Given) → is_some (cond b (Some made) None) ≡ b
is_some_test true made = refl
is_some_test false made = refl

-- a value is kept exactly where it is allowed
pub allowed_is : (old : Given) (option : OptionName) (value : List ℕ) (index : ℕ) → is_some (with_value old option value index) ≡ is_allowed option value
allowed_is old Workers value index = is_some_map (λ n. record old { workers = Some n }) (number_of Workers value)
allowed_is old Seed value index = is_some_map (λ n. record old { seed = Some n }) (number_of Seed value)
allowed_is old Until value index = is_some_map (λ n. record old { until = Some n }) (number_of Until value)
allowed_is old Samples value index = is_some_map (λ n. record old { samples = Some n }) (number_of Samples value)
allowed_is old Limit value index = is_some_map (λ n. record old { limit = Some n }) (number_of Limit value)
allowed_is old Inputs value index = is_some_test (list_all is_bit value) (record old { inputs = Some index })
allowed_is old Number value index = is_some_map (λ n. record old { number = Some n }) (number_of Number value)
allowed_is old Seeds value index = is_some_map (λ n. record old { seeds = Some n }) (number_of Seeds value)
allowed_is old First value index = is_some_map (λ n. record old { first = Some n }) (number_of First value)
allowed_is old Quota value index = is_some_map (λ n. record old { quota = Some n }) (number_of Quota value)
allowed_is old Slots value index = is_some_map (λ n. record old { slots = Some n }) (number_of Slots value)
allowed_is old Report value index = is_some_map (λ b. record old { report = Some b }) (choice_of value)
allowed_is old Viewers value index = is_some_map (λ n. record old { viewers = Some n }) (number_of Viewers value)
allowed_is old Frames value index = is_some_map (λ n. record old { frames = Some n }) (number_of Frames value)
