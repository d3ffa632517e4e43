use Rattle.std.proofs.Common.{◌≡◌, ◌+◌, ◌++◌, length, map, refl, sym, ap, ◌∙◌, arith}
use Rattle.std.specs.List.{flat_map}
use Rattle.std.proofs.lemmas.List.{map-append}
use Rattle.surf_text.specs.Lines.{lines_of}
use Rattle.species.specs.Texts.{is_in, index_of}
use Rattle.bench_read.specs.Lines.{sort_of}
use Rattle.bench_read.specs.Passes.{defines, puts_out, second_pass}
use Rattle.bench_read.specs.Order.{items_in, lines_from}
use Rattle.bench_read.specs.Readings.{item_of, error_at}
use Rattle.bench_read.specs.declared.fault.BenchError.TheVariants.{Fault}
use Rattle.bench_read.proofs.Runs.{second_more, second_stops, second_done, gives_more, numbers_more, numbers_all, puts_more}
use Rattle.bench_read.proofs.second.resolve.Goals as goal

pub returns-in-Err-clause-fault : goal.returns-in-Err-clause-fault
returns-in-Err-clause-fault c f e =
    let same : c.at.result ≡ Fault f = cc in
    let total = second_pass (is_in c.args.names.now) 1 (map sort_of (lines_of c.args.text.now)) in
    second_stops (is_in c.args.names.now) c.in-Err.refusal c.loop-line.cursor.number c.loop-line.cursor.lines c.next_line.new.self.lines c.in-Some.line.bytes.now total c.at.result f
    c.in-Some.ensures.line c.in-Err.ensures.kind c.loop-line.invariant.rest (c.at.ensures ∙ ap (λ n. error_at n c.in-Err.refusal) c.in-Some.ensures.number) same

pub returns-clause-ok : goal.returns-clause-ok
returns-clause-ok c =
    let total = second_pass (is_in c.args.names.now) 1 (map sort_of (lines_of c.args.text.now)) in
    second_done (is_in c.args.names.now) c.loop-line.cursor.number c.loop-line.cursor.lines total (c.in_default.ensures.none.0 refl) c.loop-line.invariant.rest

pub returns-clause-lines : goal.returns-clause-lines
returns-clause-lines c =
    numbers_all c.loop-line.cursor.number c.loop-line.resolved.lines.items c.loop-line.cursor.lines (lines_from 1 (map sort_of (lines_of c.args.text.now))) (c.in_default.ensures.none.0 refl) c.loop-line.invariant.lines

pub loop-line-preserved : goal.loop-line-preserved
loop-line-preserved c =
    let names = c.args.names.now in
    let lines = c.loop-line.cursor.lines in
    let left = c.next_line.new.self.lines in
    let line = c.in-Some.line.bytes.now in
    let all = map sort_of (lines_of c.args.text.now) in
    let number = c.loop-line.cursor.number in
    let old = c.loop-line.resolved in
    record {
      rest = ap (λ n. second_pass (is_in names) n (map sort_of left)) c.in-Some.ensures.counted
          ∙ second_more (is_in names) number lines left line (second_pass (is_in names) 1 all) c.in-Some.ensures.line c.in-Ok.ensures.known c.loop-line.invariant.rest;
      items = ap (λ xs. xs ++ flat_map (items_in names) (map sort_of left)) c.in-Ok.ensures.items
          ∙ gives_more (items_in names) (map item_of old.items.items) lines left line (flat_map (items_in names) all) c.in-Some.ensures.line c.loop-line.invariant.items;
      lines = ap (λ n. c.take.new.self.lines.items ++ lines_from n (map sort_of left)) c.in-Some.ensures.counted
          ∙ ap (λ xs. xs ++ lines_from (number + 1) (map sort_of left)) c.in-Ok.ensures.lines
          ∙ ap (λ n. (old.lines.items ++ map (λ name. n) (defines (sort_of line))) ++ lines_from (number + 1) (map sort_of left)) c.in-Some.ensures.number
          ∙ numbers_more number old.lines.items lines left line (lines_from 1 all) c.in-Some.ensures.line c.loop-line.invariant.lines;
      outputs = ap (λ xs. xs ++ map (index_of names) (flat_map puts_out (map sort_of left))) c.in-Ok.ensures.outputs
          ∙ puts_more (index_of names) old.outputs.items lines left line (map (index_of names) (flat_map puts_out all)) c.in-Some.ensures.line c.loop-line.invariant.outputs;
      number = c.in-Some.ensures.counted ∙ ap (λ n. n + 1) (sym c.in-Some.ensures.number);
      counted = omega (arith, c.in-Some.ensures.number, c.loop-line.invariant.number, c.loop-line.invariant.counted, ap length c.in-Some.ensures.line);
    }
