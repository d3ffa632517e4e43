-- A writer of std as a sink.
use Rattle.std.specs.Prelude.{ℕ}
use Rattle.surf_outside.specs.declared.std_sink.StdSink.{StdSink}

-- the writer
abbrev pub writer_of : {T : Type 0} → StdSink T → T
writer_of s = s.inner

-- how many faults it had
abbrev pub writer_faults : {T : Type 0} → StdSink T → ℕ
writer_faults s = s.faults
