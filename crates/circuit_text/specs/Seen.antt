-- What the reader's values say.
use Rattle.circuit_text.specs.declared.sort.Sort.{Sort}
use Rattle.circuit_text.specs.declared.sort.Sort.TheVariants as code
use Rattle.surf_text.specs.Cuts.{words_of}
use Rattle.circuit_text.specs.Lines.{LineSort, Blank, Inputs, Outputs, OneGate, TwoGate, Formless}

abbrev pub seen : Sort → LineSort
seen code.Blank = Blank
seen (code.Inputs names) = Inputs (words_of names.now)
seen (code.Outputs names) = Outputs (words_of names.now)
seen (code.One name op a) = OneGate name.now op a.now
seen (code.Two name op a b) = TwoGate name.now op a.now b.now
seen code.Formless = Formless
