-- How the outcomes are found: what an engine has fired, and what workers have found so far.
use Rattle.std.specs.Prelude.{◌≡◌, ℕ, ◌<◌, List, length, take, drop, Option, IfSome, slice_index_or}
use Rattle.lattice.specs.Surface.{end_time}
use Rattle.one_engine.specs.State.{State, fired_all, history_from}
use Rattle.manifest_read.specs.declared.manifest.Manifest.{Manifest}
use Rattle.ensemble.specs.declared.outcome.EnsembleSettings.{EnsembleSettings}
use Rattle.ensemble.specs.declared.outcome.Outcome.{Outcome}
use Rattle.ensemble.specs.declared.table.Numbered.{Numbered}
use Rattle.ensemble.specs.Outcomes.{nth_outcome}

-- the first events of the history from a state on were fired, n of them or all: so many, and the last at this tick
pub record HasFired (until n : ℕ) (old new : State) (count tick : ℕ) : Type 0 where
  pub state : new ≡ fired_all old (take n (history_from until old))
  pub rest : history_from until new ≡ drop n (history_from until old)
  pub events : count ≡ length (take n (history_from until old))
  pub last : tick ≡ end_time (take n (history_from until old))

-- the outcome is that of the seed of its number
pub record IsNumbered (m : Manifest) (s : EnsembleSettings) (n : Numbered) : Type 0 where
  pub below : n.number < s.seeds
  pub outcome : n.outcome ≡ nth_outcome m s n.number

-- a place for each seed; where an outcome stands at a place, it is that of the seed of this number
pub record IsTable (m : Manifest) (s : EnsembleSettings) (table : List (Option Outcome)) : Type 0 where
  pub long : length table ≡ s.seeds
  pub right : (i : ℕ) (d : Option Outcome) → i < length table → IfSome (slice_index_or table i d) (λ o. o ≡ nth_outcome m s i)
