use Rattle.std.proofs.Common.{◌≡◌, ◌+◌, ◌++◌, append_assoc, ◌==◌, subst, length, map, refl, ap, sym, ◌∙◌, arith}
use Rattle.std.proofs.lemmas.List.{length-map, append-nil}
use Rattle.std.proofs.lemmas.List.Sums.{sum_by-cons}
use Rattle.std.specs.List.{flat_map, list_all, sum_by}
use Rattle.circuit_text.specs.Circuits.{defines}
use Rattle.circuit_text.proofs.Facts.{next_names, next_outputs, next_count}
use Rattle.circuit_text.proofs.Sizes.{lines_bytes, outputs_few}
use Rattle.species.specs.Texts.{is_in}
use Rattle.circuit_text.specs.Lines.{sort_of}
use Rattle.surf_text.specs.Lines.{lines_of}
use Rattle.circuit_text.specs.Steps.{state_of, run, start, error_at, Stops}
use Rattle.circuit_text.proofs.Lines.{lines_few, line_more, line_stops, lines_done, ended_none, ended_some}
use Rattle.circuit_text.proofs.reading.read_lines.Goals as goal

pub returns-in-Err-clause-outcome : goal.returns-in-Err-clause-outcome
returns-in-Err-clause-outcome c =
    let number : c.in-Some.line.number ≡ c.loop-line.count + 1 = c.in-Some.ensures.number ∙ c.loop-line.invariant.number in
    let total = run (is_in c.args.all.now) (map sort_of (lines_of c.args.text.now)) 1 start in
    subst (λ e. Stops e total) (ap (λ n. error_at n c.in-Err.refusal) (sym number) ∙ sym c.error_at.ensures)
    (line_stops (is_in c.args.all.now) c.in-Err.refusal c.loop-line.cursor.lines c.next_line.new.self.lines c.in-Some.line.bytes.now (c.loop-line.count + 1) (state_of c.loop-line.state) total c.in-Some.ensures.line c.in-Err.ensures.outcome c.loop-line.invariant.rest)

pub loop-line-init : goal.loop-line-init
loop-line-init c =
    let first = c.new-state.ensures in
    let lines : c.new-cursor.result.lines ≡ lines_of c.args.text.now = ap (λ x. x.lines) c.new-cursor.ensures in
    record {
      rest = ap (λ ls. run (is_in c.args.all.now) (map sort_of ls) 1 (state_of c.new-state.result)) lines ∙ ap (run (is_in c.args.all.now) (map sort_of (lines_of c.args.text.now)) 1) first;
      same = ap (λ k. length k.names) first ∙ sym (ap (λ k. length k.nets) first);
      names = ap (λ k. k.names ++ flat_map defines (map sort_of c.new-cursor.result.lines)) first ∙ ap (λ ls. flat_map defines (map sort_of ls)) lines;
      outputs_known_so_far = ap (λ k. list_all (is_in c.args.all.now) k.output_names) first;
      few = omega (
        arith,
        length-map c.new-state.result.outputs.items (λ x. x.now),
        ap (λ k. length k.output_names) first,
        ap (sum_by length) lines,
        lines_bytes c.args.text.now,
      );
      number = ap (λ x. x.number) c.new-cursor.ensures;
      counted = omega (arith, ap length lines);
    }

pub loop-line-preserved : goal.loop-line-preserved
loop-line-preserved c =
    let number : c.in-Some.line.number ≡ c.loop-line.count + 1 = c.in-Some.ensures.number ∙ c.loop-line.invariant.number in
    record {
      rest = ap (λ n. run (is_in c.args.all.now) (map sort_of c.next_line.new.self.lines) (n + 1) (state_of c.take.new.self)) number
          ∙ line_more (is_in c.args.all.now) c.loop-line.cursor.lines c.next_line.new.self.lines c.in-Some.line.bytes.now (c.loop-line.count + 1) (state_of c.loop-line.state) (state_of c.take.new.self) _ c.in-Some.ensures.line c.in-Ok.ensures.outcome c.loop-line.invariant.rest;
      same = c.in-Ok.ensures.same;
      names = ap (λ ns. ns ++ flat_map defines (map sort_of c.next_line.new.self.lines)) (next_names (is_in c.args.all.now) (state_of c.loop-line.state) (state_of c.take.new.self) (sort_of c.in-Some.line.bytes.now) c.in-Ok.ensures.outcome)
          ∙ append_assoc c.loop-line.state.names (defines (sort_of c.in-Some.line.bytes.now)) (flat_map defines (map sort_of c.next_line.new.self.lines))
          ∙ sym (ap (λ ls. c.loop-line.state.names ++ flat_map defines (map sort_of ls)) c.in-Some.ensures.line) ∙ c.loop-line.invariant.names;
      outputs_known_so_far = next_outputs (is_in c.args.all.now) (state_of c.loop-line.state) (state_of c.take.new.self) (sort_of c.in-Some.line.bytes.now) c.in-Ok.ensures.outcome c.loop-line.invariant.outputs_known_so_far;
      few =
          let before = length-map c.loop-line.state.outputs.items (λ x. x.now) in
          let after = length-map c.take.new.self.outputs.items (λ x. x.now) in
          omega (
            arith,
            before,
            after,
            next_count (is_in c.args.all.now) (state_of c.loop-line.state) (state_of c.take.new.self) (sort_of c.in-Some.line.bytes.now) c.in-Ok.ensures.outcome,
            outputs_few c.in-Some.line.bytes.now,
            ap (sum_by length) c.in-Some.ensures.line,
            sum_by-cons length c.in-Some.line.bytes.now c.next_line.new.self.lines,
            c.loop-line.invariant.few,
          );
      number = c.in-Some.ensures.counted ∙ ap (λ n. n + 1) (sym c.in-Some.ensures.number);
      counted = omega (arith, number, c.loop-line.invariant.counted, ap length c.in-Some.ensures.line);
    }

pub overflow_add-result : goal.overflow_add-result
overflow_add-result c = omega (arith, lines_few c.args.text.now, c.loop-line.invariant.counted, c.requires.size)

pub returns-then-is_empty-clause-outcome : goal.returns-then-is_empty-clause-outcome
returns-then-is_empty-clause-outcome c =
    lines_done (is_in c.args.all.now) c.loop-line.cursor.lines (c.loop-line.count + 1) (state_of c.loop-line.state) _ (c.in_default.ensures.none.0 refl) c.loop-line.invariant.rest
    ∙ ended_none (c.loop-line.count + 1) (state_of c.loop-line.state) (ap (λ n. n == 0) (length-map c.loop-line.state.outputs.items (λ x. x.now)) ∙ ap (λ xs. length xs == 0) (sym c.as_slice.ensures.value) ∙ sym c.if-is_empty.ensures)

pub returns-clause-outcome : goal.returns-clause-outcome
returns-clause-outcome c =
    lines_done (is_in c.args.all.now) c.loop-line.cursor.lines (c.loop-line.count + 1) (state_of c.loop-line.state) _ (c.in_default.ensures.none.0 refl) c.loop-line.invariant.rest
    ∙ ended_some (c.loop-line.count + 1) (state_of c.loop-line.state) (ap (λ n. n == 0) (length-map c.loop-line.state.outputs.items (λ x. x.now)) ∙ ap (λ xs. length xs == 0) (sym c.as_slice.ensures.value) ∙ sym c.if-is_empty.ensures)

pub returns-clause-names : goal.returns-clause-names
returns-clause-names c =
    sym (append-nil c.loop-line.state.names) ∙ ap (λ ls. c.loop-line.state.names ++ flat_map defines (map sort_of ls)) (sym (c.in_default.ensures.none.0 refl)) ∙ c.loop-line.invariant.names
