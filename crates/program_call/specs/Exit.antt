-- How the program ends where it has no words.
use Rattle.std.specs.Prelude.{ℕ}
use Rattle.std.specs.declared.io.ErrorKind.{ErrorKind}
use Rattle.std.specs.declared.io.ErrorKind.TheVariants.{OutOfMemory}
use Rattle.program_call.specs.declared.words.NoWords.{NoWords}
use Rattle.program_call.specs.declared.words.NoWords.TheVariants.{Memory, NotText}

-- why the system gave no words, by the kind of its error
abbrev pub no_words : ErrorKind → NoWords
no_words OutOfMemory = Memory
no_words kind = NotText

-- without memory as everywhere, and else by a status that no answer has
abbrev pub no_words_code : NoWords → ℕ
no_words_code Memory = 6
no_words_code NotText = 7
