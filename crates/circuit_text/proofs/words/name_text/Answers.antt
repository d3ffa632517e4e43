use Rattle.std.proofs.Common.{sym}
use Rattle.circuit_text.proofs.NameTexts.{name-IsUtf8}
use Rattle.circuit_text.proofs.words.name_text.Goals as goal

pub returns-in-Err : goal.returns-in-Err
returns-in-Err c = absurd (c.in-Err.ensures.cases.0 (name-IsUtf8 c.args.word.now (sym c.if-not-is_name.ensures)))
