use Rattle.std.proofs.Common.{rules, ◌≡◌, length, Err, ap}
use Rattle.circuit_text.specs.Values.{input_count}
use Rattle.surface_top.proofs.Compiling.{sites_refused}
use Rattle.surface_top.proofs.answers.compile.Goals as goal

pub returns-in-Err-WrongInputs : goal.returns-in-Err-WrongInputs
returns-in-Err-WrongInputs g c = absurd (c.in-Err-WrongInputs.ensures.wrong c.in-Err-WrongInputs.expected c.in-Err-WrongInputs.given (ap (λ e. Err e) c.in-Err-WrongInputs.field-0-is))

pub returns-in-Err-TooManySites : goal.returns-in-Err-TooManySites
returns-in-Err-TooManySites g c =
    let why = c.in-Err-TooManySites.ensures.many c.in-Err-TooManySites.sites (ap (λ e. Err e) c.in-Err-TooManySites.field-0-is) in
    let same : length c.args.word.now ≡ input_count c.args.circuit.now.nets = search rules in
    let h = sites_refused c.args.layout c.args.word.now c.args.circuit.now c.in-Err-TooManySites.sites (g.O.Sink.written c.args.out.now) (g.O.Sink.faults c.args.out.now) (g.O.Sink.faults c.args.out.now) same why.0 why.1 in
    rw c.in-Err-TooManySites.field-0-is h
