use Rattle.std.proofs.Common.{◌≡◌, [], ◌∷◌, ap, sym, ◌∙◌}
use Rattle.std.specs.Option.{option_map}
use Rattle.bench_read.specs.Lines.{operands_of}
use Rattle.bench_read.specs.Readings.{unread_operands}
use Rattle.bench_read.proofs.Pieces.{operands-cut, operands-last, some-none}
use Rattle.bench_read.proofs.operands.Operands.next_operand.Goals as goal

pub returns-in-Some-clause-operand : goal.returns-in-Some-clause-operand
returns-in-Some-clause-operand c =
    sym c.self.view_is ∙ ap (λ o. unread_operands (option_map (λ t. t.now) o)) c.in_ok-text.was
    ∙ operands-cut c.in_ok-text.text.now c.in-Some.first.now c.in-Some.rest.now c.in-Some.ensures
    ∙ ap (λ t. t ∷ operands_of c.in-Some.rest.now) (sym c.trim.ensures)

pub returns-in-Some-clause-none : goal.returns-in-Some-clause-none
returns-in-Some-clause-none c = (λ e. absurd cc, λ e. absurd (some-none _ _ _ (returns-in-Some-clause-operand c) e))

pub returns-in-None-clause-operand : goal.returns-in-None-clause-operand
returns-in-None-clause-operand c =
    sym c.self.view_is ∙ ap (λ o. unread_operands (option_map (λ t. t.now) o)) c.in_ok-text.was
    ∙ operands-last c.in_ok-text.text.now c.in-None.ensures ∙ ap (λ t. t ∷ []) (sym c.trim-in-None.ensures)

pub returns-in-None-clause-none : goal.returns-in-None-clause-none
returns-in-None-clause-none c = (λ e. absurd cc, λ e. absurd (some-none _ _ _ (returns-in-None-clause-operand c) e))
