-- A sink over memory: what it keeps, and what a call makes of it.
use Rattle.std.specs.Prelude.{ℕ, List, ◌++◌, ◌-◌, length}
use Rattle.surf_outside.specs.Causes.{risen}

-- a sink over memory
pub record SinkState : Type 0 where
  -- the bytes that it holds
  pub written : List ℕ
  -- how many more it has room for
  pub room : ℕ
  -- how many bytes a call moves at most
  pub most : ℕ
  -- the numbers of the calls that fail; the first call has number 1
  pub fails : List ℕ
  -- how many calls there were
  pub calls : ℕ
  -- how many of them failed
  pub faults : ℕ

-- a call added bytes
abbrev pub added : SinkState → List ℕ → SinkState
added s bytes = record s { written = s.written ++ bytes; room = s.room - length bytes; calls = risen s.calls }

-- a call failed
abbrev pub write_failed : SinkState → SinkState
write_failed s = record s { calls = risen s.calls; faults = risen s.faults }
