use Rattle.surf_text.proofs.LawLemmas.{decimal-digits, decimal-value, number-read}
use Rattle.surf_text.proofs.laws.written_numbers.Goals as goal

pub returns : goal.returns
returns c = record { digits = decimal-digits; value = decimal-value; number = number-read }
