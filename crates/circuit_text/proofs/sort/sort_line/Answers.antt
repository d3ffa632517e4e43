use Rattle.std.proofs.Common.{sym, subst}
use Rattle.surf_text.specs.Cuts.{words_of}
use Rattle.circuit_text.specs.Formed.{IsFormed}
use Rattle.circuit_text.proofs.FormedLines.{gate_line}
use Rattle.circuit_text.proofs.sort.sort_line.Goals as goal

pub returns-in-Some-clause-formed : goal.returns-in-Some-clause-formed
returns-in-Some-clause-formed c = subst IsFormed (sym c.gate.ensures) (gate_line c.trim.result.now (words_of c.in-Some.rest.now))
