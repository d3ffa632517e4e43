use Rattle.surf_text.proofs.LawLemmas.{blank_ascii, front-blank, front-other}
use Rattle.surf_text.proofs.laws.blanks.Goals as goal

pub returns : goal.returns
returns c = record { ascii = blank_ascii; blank = front-blank; other = front-other }
