use Rattle.std.proofs.Common.{◌≡◌}
use Rattle.trace_text.specs.Lines.{limit_text}
use Rattle.trace_text.proofs.Texts.{limit-is}
use Rattle.trace_text.proofs.lines.write_limit.Goals as goal

pub returns-clause-ok : goal.returns-clause-ok
returns-clause-ok g c =
    let e : c.bytes.result.now ≡ limit_text c.args.limit = limit-is c.args.limit _ cc in
    rw (← e) c.put.ensures.ok

pub returns-clause-err : goal.returns-clause-err
returns-clause-err g c =
    let e : c.bytes.result.now ≡ limit_text c.args.limit = limit-is c.args.limit _ cc in
    rw (← e) c.put.ensures.err
