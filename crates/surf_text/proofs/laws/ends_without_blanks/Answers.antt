use Rattle.surf_text.proofs.LawLemmas.{begins-append, ends-append, inked-ends, front-same, trimmed-same, trimmed-behind}
use Rattle.surf_text.proofs.laws.ends_without_blanks.Goals as goal

pub returns : goal.returns
returns c = record { begins = begins-append; ends = ends-append; inked = inked-ends; front = front-same; trimmed = trimmed-same; behind = trimmed-behind }
