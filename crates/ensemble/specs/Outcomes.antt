-- What a manifest comes to with each of a row of seeds.
use Rattle.std.specs.Prelude.{◌≡◌, ℕ, ◌+◌, ◌%◌, ◌^◌, ◌≤◌, List, length, take, map, All, Bool, true, false, nat_le, if◌then◌else◌}
use Rattle.std.specs.List.{range_with_len}
use Rattle.surf_kinds.specs.declared.event.Event.{Event}
use Rattle.lattice.specs.Surface.{first_surface, after_all, end_time}
use Rattle.plan.specs.Network.{Network}
use Rattle.plan.specs.History.{history}
use Rattle.one_engine.specs.State.{State}
use Rattle.trace_text.specs.Lines.{counts_of}
use Rattle.manifest_read.specs.declared.manifest.Manifest.{Manifest}
use Rattle.ensemble.specs.declared.outcome.EnsembleSettings.{EnsembleSettings}
use Rattle.ensemble.specs.declared.outcome.Outcome.{Outcome}

-- the rules of a manifest on its lattice, with this seed for the draws
abbrev pub network_of : Manifest → ℕ → Network
network_of m seed = record { lattice = m.lattice; rules = m.rules; seed = seed }

-- these rules, on the first surface of the manifest
abbrev pub start_of : Manifest → ℕ → State
start_of m seed = record {
  network = network_of m seed;
  surface = record { lattice = m.lattice; species_count = length m.names; sites = first_surface m.cells };
}

-- the history of the manifest with this seed, up to a tick
abbrev pub history_with : Manifest → ℕ → ℕ → List Event
history_with m seed until = history (network_of m seed) until (first_surface m.cells)

-- the outcome of these events: their number, the time of the last, and the counts of the surface after them
abbrev pub outcome_of : Manifest → ℕ → Bool → List Event → Outcome
outcome_of m seed ended es = record {
  seed = seed;
  events = length es;
  last = end_time es;
  ended = ended;
  counts = counts_of (after_all m.lattice m.rules (first_surface m.cells) es) (length m.names);
}

-- the outcome of all events, where there are no more than the limit; otherwise that of the first of them
abbrev pub outcome_within : ℕ → Manifest → ℕ → List Event → Outcome
outcome_within limit m seed es =
    if nat_le (length es) limit then outcome_of m seed true es else outcome_of m seed false (take limit es)

-- the seed of this number: from the first on one by one, and 0 follows 2 ^ 64 - 1
abbrev pub nth_seed : EnsembleSettings → ℕ → ℕ
nth_seed s i = (s.first + i) % 2 ^ 64

abbrev pub nth_outcome : Manifest → EnsembleSettings → ℕ → Outcome
nth_outcome m s i = outcome_within s.limit m (nth_seed s i) (history_with m (nth_seed s i) s.until)

-- the outcomes of all seeds, in their order
abbrev pub outcomes : Manifest → EnsembleSettings → List Outcome
outcomes m s = map (nth_outcome m s) (range_with_len 0 s.seeds)

-- what may be asked for
pub record AreAllowed (s : EnsembleSettings) : Type 0 where
  pub some : 1 ≤ s.seeds
  pub seeds : s.seeds ≤ 1000
  pub until : s.until ≤ 10 ^ 15
  pub limit : s.limit ≤ 10000000
  pub worker : 1 ≤ s.workers
  pub workers : s.workers ≤ 64

-- the numbers of an outcome are those of so many species, and small
pub record IsWithin (species_count : ℕ) (o : Outcome) : Type 0 where
  pub events : o.events ≤ 10000000
  pub species : length o.counts ≡ species_count
  pub counts : All (λ n. n ≤ 1048576) o.counts
