use Rattle.std.proofs.Common.{◌≡◌, ◌+◌, [], ◌++◌, map, refl, ap, ◌∙◌}
use Rattle.std.specs.List.{flat_map}
use Rattle.surf_text.specs.Lines.{lines_of}
use Rattle.bench_read.specs.Lines.{sort_of}
use Rattle.bench_read.specs.Passes.{defines, net_count, first_pass}
use Rattle.bench_read.specs.Readings.{error_at}
use Rattle.bench_read.specs.declared.fault.BenchError.TheVariants.{Fault}
use Rattle.bench_read.proofs.Runs.{first_more, first_stops, first_done, gives_more}
use Rattle.bench_read.proofs.first.defined_names.Goals as goal

pub returns-in-Err-clause-fault : goal.returns-in-Err-clause-fault
returns-in-Err-clause-fault c f e =
    let same : c.at.result ≡ Fault f = cc in
    let total = first_pass 1 [] 0 (map sort_of (lines_of c.args.text.now)) in
    first_stops c.in-Err.refusal c.loop-line.cursor.number c.loop-line.definitions.nets c.loop-line.definitions.names c.loop-line.cursor.lines c.next_line.new.self.lines c.in-Some.line.bytes.now total c.at.result f
    c.in-Some.ensures.line c.in-Err.ensures.kind c.loop-line.invariant.rest (c.at.ensures ∙ ap (λ n. error_at n c.in-Err.refusal) c.in-Some.ensures.number) same

pub returns-clause-ok : goal.returns-clause-ok
returns-clause-ok c =
    let total = first_pass 1 [] 0 (map sort_of (lines_of c.args.text.now)) in
    first_done c.loop-line.cursor.number c.loop-line.definitions.nets c.loop-line.definitions.names c.loop-line.cursor.lines total (c.in_default.ensures.none.0 refl) c.loop-line.invariant.rest

pub loop-line-preserved : goal.loop-line-preserved
loop-line-preserved c =
    let old = c.loop-line.definitions in
    let new = c.take.new.self in
    let number = c.loop-line.cursor.number in
    let rest = map sort_of c.next_line.new.self.lines in
    let line = sort_of c.in-Some.line.bytes.now in
    record {
      rest = ap (λ n. first_pass n new.names new.nets rest) c.in-Some.ensures.counted
          ∙ ap (λ ns. first_pass (number + 1) ns new.nets rest) c.in-Ok.ensures.names
          ∙ ap (λ k. first_pass (number + 1) (old.names ++ defines line) k rest) c.in-Ok.ensures.nets
          ∙ first_more number old.nets old.names c.loop-line.cursor.lines c.next_line.new.self.lines c.in-Some.line.bytes.now (first_pass 1 [] 0 (map sort_of (lines_of c.args.text.now))) c.in-Some.ensures.line c.in-Ok.ensures.ok c.loop-line.invariant.rest;
      names = ap (λ ns. ns ++ flat_map defines rest) c.in-Ok.ensures.names
          ∙ gives_more defines old.names c.loop-line.cursor.lines c.next_line.new.self.lines c.in-Some.line.bytes.now (flat_map defines (map sort_of (lines_of c.args.text.now))) c.in-Some.ensures.line c.loop-line.invariant.names;
      few = c.in-Ok.ensures.few;
      named = c.in-Ok.ensures.named;
    }
