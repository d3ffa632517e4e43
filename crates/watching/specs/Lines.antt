-- The lines of viewers, and the numbers of events that they say.
use Rattle.std.specs.Prelude.{◌≡◌, ℕ, ◌-◌, ◌≤◌, List, [], ◌∷◌, ◌++◌, length, All, decimal, codes, slice_index, slice_index_or}
use Rattle.surf_outside.specs.Parts.{parts}
use Rattle.frames.specs.declared.sample.Sample.{Sample}

-- a species with its count: <name>:<count>, with a space before it
unfoldable pub count_text : List (List ℕ) → List ℕ → ℕ → List ℕ
count_text names counts species = 32 ∷ slice_index_or names species [] ++ 58 ∷ decimal (slice_index counts species)

-- viewer <viewer> sample <number> events <events> tick <tick>
unfoldable pub head_text : ℕ → ℕ → Sample → List ℕ
head_text viewer number s = codes "viewer " ++ decimal viewer ++ codes " sample " ++ decimal number ++ codes " events " ++ decimal s.events ++ codes " tick " ++ decimal s.time

-- the line of a sample: its head, and every species with its count
unfoldable pub sample_line : List (List ℕ) → ℕ → ℕ → Sample → List ℕ
sample_line names viewer number s = head_text viewer number s ++ parts (count_text names s.counts) (length names) ++ 10 ∷ []

abbrev pub no_sample : Sample
no_sample = record { events = 0; time = 0; counts = [] }

-- the lines of one viewer's samples
unfoldable pub samples_text : List (List ℕ) → ℕ → List Sample → List ℕ
samples_text names viewer samples = parts (λ number. sample_line names viewer number (slice_index_or samples number no_sample)) (length samples)

-- the lines of the samples of all viewers
unfoldable pub views_text : List (List ℕ) → List (List Sample) → List ℕ
views_text names views = parts (λ viewer. samples_text names viewer (slice_index_or views viewer [])) (length views)

-- the numbers never fall, from n on
abbrev pub NeverFall : ℕ → List ℕ → Type 0
NeverFall n [] = Unit {0}
NeverFall n (e ∷ es) = (n ≤ e) × NeverFall e es

-- How many events of a run the lines of one viewer say: never fewer than the line before, and on the last line all.
pub record IsView (frames all : ℕ) (events : List ℕ) : Type 0 where
  pub number : length events ≡ frames
  pub most : All (λ e. e ≤ all) events
  pub rise : NeverFall 0 events
  pub last : slice_index events (frames - 1) ≡ all
