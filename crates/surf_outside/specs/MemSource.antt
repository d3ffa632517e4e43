-- A source over memory: what it keeps, and what a call makes of it.
use Rattle.std.specs.Prelude.{ℕ, List, drop}
use Rattle.surf_outside.specs.Causes.{risen}

-- a source over memory
pub record SourceState : Type 0 where
  -- the bytes that are left
  pub unread : List ℕ
  -- how many bytes a call moves at most
  pub most : ℕ
  -- the numbers of the calls that fail; the first call has number 1
  pub fails : List ℕ
  -- how many calls there were
  pub calls : ℕ
  -- how many of them failed
  pub faults : ℕ

-- a call took the first n bytes
abbrev pub taken : SourceState → ℕ → SourceState
taken s n = record s { unread = drop n s.unread; calls = risen s.calls }

-- a call failed
abbrev pub read_failed : SourceState → SourceState
read_failed s = record s { calls = risen s.calls; faults = risen s.faults }
