-- The exit status of a program.
use Rattle.std.specs.Prelude.{ℕ}
use Rattle.surf_kinds.specs.declared.status.Status.{Status}
use Rattle.surf_kinds.specs.declared.status.Status.TheVariants.{Done, Words, Faulty, Limit, ReadFault, WriteFault, Memory}

abbrev pub code_of : Status → ℕ
code_of Done = 0
code_of Words = 1
code_of Faulty = 2
code_of Limit = 3
code_of ReadFault = 4
code_of WriteFault = 5
code_of Memory = 6
