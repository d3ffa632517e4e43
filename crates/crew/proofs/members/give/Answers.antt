use Rattle.std.proofs.Common.{◌≡◌, ◌+◌, length, sym, ap, ◌∙◌, arith}
use Rattle.std.proofs.lemmas.List.{length-map}
use Rattle.timeline.specs.declared.entry.Entry.{Entry}
use Rattle.crew.proofs.members.give.Goals as goal

pub returns : goal.returns
returns c = record {
  none = c.deliver.ensures.none;
  one = c.deliver.ensures.one;
  sender_totals = c.deliver.ensures.sender_totals;
  no_totals = c.deliver.ensures.no_totals;
  totals = λ e.
      let t = c.deliver.ensures.totals e in
      (t.0, t.1, omega (arith, t.2, length-map c.deliver.new.to.board.timeline.entries (λ (x : Entry). x.before.event), length-map c.args.to.now.board.timeline.entries (λ (x : Entry). x.before.event)));
}
