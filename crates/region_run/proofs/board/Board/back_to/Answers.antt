use Rattle.std.proofs.Common.{◌≡◌, ◌+◌, length, refl, ap, arith}
use Rattle.std.specs.Prelude.{List, not}
use Rattle.std.proofs.lemmas.List.Filters.{length-filter_both}
use Rattle.surf_kinds.specs.declared.event.Key.{Key}
use Rattle.surf_kinds.specs.Keys.{is_before}
use Rattle.timeline.specs.declared.entry.Entry.{Entry}
use Rattle.timeline.specs.TimelineView.{entry_key, below, from}
use Rattle.warp_core.proofs.LawLemmas.{led}
use Rattle.region_run.proofs.Boarding.{board_order, board_inside, board_cut}
use Rattle.region_run.proofs.board.Board.back_to.Goals as goal

-- no entry is lost
lengths : (key : Key) (entries : List Entry) → length (from key entries) + length (below key entries) ≡ length entries
lengths key entries = omega (arith, length-filter_both (λ e. is_before (entry_key e) key) (λ e. not (is_before (entry_key e) key)) (λ e. refl) entries)

pub back_to-undone-requires : goal.back_to-undone-requires
back_to-undone-requires c =
    let w = c.requires.board in
    (w.3, led w.0 w.3 c.args.self.now.surface c.args.self.now.timeline.entries w.5.ground.run)

pub put_back-requires-clause-covers : goal.put_back-requires-clause-covers
put_back-requires-clause-covers c = c.requires.board.5.covers

pub put_back-requires-clause-order : goal.put_back-requires-clause-order
put_back-requires-clause-order c = let w = c.requires.board in board_order w.0 w.1 w.2 w.3 w.4 c.args.self.now w.5 c.requires.undoable

pub put_back-requires-clause-inside : goal.put_back-requires-clause-inside
put_back-requires-clause-inside c = let w = c.requires.board in board_inside w.0 w.1 w.2 w.3 w.4 c.args.self.now w.5 c.requires.undoable

pub returns-clause-answer : goal.returns-clause-answer
returns-clause-answer c = omega (arith, c.back_to-undone.ensures.answer, ap length c.back_to-undone.ensures.entries, lengths c.args.key c.args.self.now.timeline.entries)

pub returns-clause-board : goal.returns-clause-board
returns-clause-board c n cells past base floor board high =
    board_cut n cells past base floor c.args.key c.args.self.now (record c.args.self.now { surface = c.back_to-undone.new.surface; timeline = c.back_to-undone.new.self; queue = c.put_back.new.queue; changes = c.put_back.new.changes }) board c.requires.undoable high
    c.back_to-undone.ensures.entries c.back_to-undone.ensures.stood refl refl c.put_back.ensures.back c.put_back.ensures.early
