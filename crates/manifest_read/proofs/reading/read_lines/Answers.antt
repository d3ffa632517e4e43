use Rattle.std.proofs.Common.{rules, arith, sym, subst}
use Rattle.surf_text.specs.Lines.{lines_of}
use Rattle.manifest_read.specs.Views.{reader_state, Gives}
use Rattle.manifest_read.proofs.Outcomes.{goes-on, fails, ends, ends-rest, reads-lines}
use Rattle.manifest_read.proofs.reading.read_lines.Goals as goal

pub take-requires-clause-lines : goal.take-requires-clause-lines
take-requires-clause-lines c = omega (arith, c.requires, reads-lines c.args.text.now (lines_of c.loop-rest.rest.now) (reader_state c.loop-rest.state) c.loop-rest.invariant.reads)

pub returns-in-Err : goal.returns-in-Err
returns-in-Err c =
    fails c.in-Err.error c.args.text.now (lines_of c.loop-rest.rest.now) (lines_of c.first_text_line.result.1.now) c.first_text_line.result.0.now (reader_state c.loop-rest.state)
    c.first_text_line.ensures.line c.in-Err.ensures.outcome c.loop-rest.invariant.reads

pub loop-rest-preserved : goal.loop-rest-preserved
loop-rest-preserved c = record {
  text = search rules;
  reads = goes-on c.args.text.now (lines_of c.loop-rest.rest.now) (lines_of c.first_text_line.result.1.now) c.first_text_line.result.0.now (reader_state c.loop-rest.state) (reader_state c.take.new.self)
      c.first_text_line.ensures.line c.in-Ok.ensures.outcome c.loop-rest.invariant.reads;
}

pub end-requires-clause-lines : goal.end-requires-clause-lines
end-requires-clause-lines c = omega (arith, c.requires, reads-lines c.args.text.now (lines_of c.loop-rest.rest.now) (reader_state c.loop-rest.state) c.loop-rest.invariant.reads)

pub returns : goal.returns
returns c =
    subst (Gives c.end.result)
    (ends c.args.text.now (lines_of c.loop-rest.rest.now) (reader_state c.loop-rest.state) (ends-rest c.loop-rest.rest.now (sym c.loop-rest-test.ensures)) c.loop-rest.invariant.reads)
    c.end.ensures
