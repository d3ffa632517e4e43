use Rattle.std.proofs.Common.{◌≡◌, ap, arith}
use Rattle.trace_text.specs.Lines.{event_text}
use Rattle.trace_text.proofs.Below.{site-below}
use Rattle.trace_text.proofs.lines.write_event.Goals as goal

pub event_line-line-requires-clause-site : goal.event_line-line-requires-clause-site
event_line-line-requires-clause-site g c = omega (arith, site-below c.args.lattice.now c.args.event.place.0 c.requires, c.cols.ensures.sites)

pub returns-clause-ok : goal.returns-clause-ok
returns-clause-ok g c =
    let e : c.bytes.result.now ≡ event_text c.args.lattice.now.cols c.args.event = cc (ap (λ n. event_text n c.args.event) c.cols.ensures.cols) in
    rw (← e) c.put.ensures.ok

pub returns-clause-err : goal.returns-clause-err
returns-clause-err g c =
    let e : c.bytes.result.now ≡ event_text c.args.lattice.now.cols c.args.event = cc (ap (λ n. event_text n c.args.event) c.cols.ensures.cols) in
    rw (← e) c.put.ensures.err
