use Rattle.std.proofs.Common.{rules, ◌≡◌}
use Rattle.surf_text.specs.Decimals.{decimal_of}
use Rattle.surf_text.proofs.Spelling.{read_as}
use Rattle.surf_text.proofs.numbers.read_decimal.Goals as goal

pub returns-in_err-read_exponent-in-Some-clause-grammar : goal.returns-in_err-read_exponent-in-Some-clause-grammar
returns-in_err-read_exponent-in-Some-clause-grammar c =
    let value : c.from_residual.result ≡ decimal_of c.args.text.now = search rules in read_as c.args.text.now c.from_residual.result value

pub returns-in_ok-read_exponent-in-Some-clause-grammar : goal.returns-in_ok-read_exponent-in-Some-clause-grammar
returns-in_ok-read_exponent-in-Some-clause-grammar c =
    let value : c.read_parts.result ≡ decimal_of c.args.text.now = search rules in read_as c.args.text.now c.read_parts.result value

pub returns-in-None-clause-grammar : goal.returns-in-None-clause-grammar
returns-in-None-clause-grammar c =
    let value : c.read_parts-in-None.result ≡ decimal_of c.args.text.now = search rules in
    read_as c.args.text.now c.read_parts-in-None.result value
