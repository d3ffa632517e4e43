-- A reader of std as a source.
use Rattle.std.specs.Prelude.{ℕ}
use Rattle.surf_outside.specs.declared.std_source.StdSource.{StdSource}

-- the reader
abbrev pub reader_of : {T : Type 0} → StdSource T → T
reader_of s = s.inner

-- how many errors it answered
abbrev pub reader_faults : {T : Type 0} → StdSource T → ℕ
reader_faults s = s.faults
