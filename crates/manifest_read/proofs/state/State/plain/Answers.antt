use Rattle.std.proofs.Common.{sym, subst}
use Rattle.manifest_read.specs.Sorts.{Plain}
use Rattle.manifest_read.specs.Steps.{by_sort}
use Rattle.manifest_read.specs.Views.{content_so_far, reader_state, Takes}
use Rattle.manifest_read.proofs.Taken.{plain-ok, plain-err}
use Rattle.manifest_read.proofs.state.State.plain.Goals as goal

pub returns-in-Ok : goal.returns-in-Ok
returns-in-Ok c = record { outcome = plain-ok (reader_state c.args.self.now) c.args.bare.now c.args.whole.now (content_so_far c.enter.new.self) c.in-Ok.ensures.entered }

pub returns-in-Err-Kind : goal.returns-in-Err-Kind
returns-in-Err-Kind c = record {
  outcome = subst (λ r. Takes r (reader_state (record c.args.self.now { content = c.enter.new.self })) (by_sort c.args.self.now.lines (reader_state c.args.self.now) (Plain c.args.bare.now c.args.whole.now))) (sym c.refuse.ensures)
      (plain-err (reader_state c.args.self.now) c.args.bare.now c.args.whole.now c.in-Err-Kind.kind (rw c.in-Err-Kind.field-0-is at c.in-Err-Kind.ensures.entered));
}
