use Rattle.std.proofs.Common.{◌≡◌, ℕ, ◌+◌, ◌<◌, ◌≤◌, true, length, sym, ap, ◌∙◌, subst, arith, inl, inr}
use Rattle.std.proofs.lemmas.Bool.{cases_Bool}
use Rattle.border.specs.Stacked.{StacksView}
use Rattle.plan.specs.Network.{Network}
use Rattle.regions.specs.Bands.{Bands}
use Rattle.warp_core.specs.Parts.{PartStep}
use Rattle.region_run.specs.declared.region.Region.{Region}
use Rattle.region_run.specs.Regions.{Base, IsRegion}
use Rattle.region_run.specs.Runs.{MakesStep, SameRings, HasSpare, UsesOne}
use Rattle.region_run.proofs.Absorbs.{take_low, take_passed, take_made}
use Rattle.region_run.proofs.Spares.{side_gained, side_self, less, replay_spare}
use Rattle.region_run.proofs.region.Region.take.Goals as goal

pub accepted-requires : goal.accepted-requires
accepted-requires c = sym c.requires.region.2.lattice

pub cut_back-undone-requires-clause-region : goal.cut_back-undone-requires-clause-region
cut_back-undone-requires-clause-region c =
    let w = c.requires.region in
    (w.0, w.1, w.2, take_low c.args.plan.now c.args.cut.now w.0 w.1 c.args.self.now c.args.sender c.args.op c.in-Some.op w.2 (sym c.in-Some.ensures))

-- with another region entries may be undone
undoable : (n : Network) (b : Bands) (until : ℕ) (x : Base) (r : Region) (sender : ℕ) → IsRegion n b until x r → sender < b.count → (sender ≡ r.id → ⊥) → r.board.undoable ≡ true
undoable n b until x r sender g inside other =
    elim (cases_Bool r.board.undoable) [
      | inl p ↦ p
      | inr p ↦ absurd (other (omega (arith, g.alone p, g.inside, inside)))
    ]

pub cut_back-undone-requires-clause-undoable : goal.cut_back-undone-requires-clause-undoable
cut_back-undone-requires-clause-undoable c =
    let w = c.requires.region in
    undoable c.args.plan.now c.args.cut.now w.0 w.1 c.args.self.now c.args.sender w.2 c.requires.sender c.requires.other

pub replay-requires-clause-two : goal.replay-requires-clause-two
replay-requires-clause-two c = ap (λ (s : StacksView). length s.stacks) c.cut_back-undone.ensures.stacks ∙ c.requires.region.2.two

pub replay-requires-clause-spare : goal.replay-requires-clause-spare
replay-requires-clause-spare c = omega (arith, c.requires.spare.stacks, ap (λ (s : StacksView). s.spare) c.cut_back-undone.ensures.stacks)

pub returns-in_default-clause-step : goal.returns-in_default-clause-step
returns-in_default-clause-step c until x g = take_passed c.args.plan.now c.args.cut.now until x c.args.self.now c.args.sender c.args.op g (sym c.in_default.ensures)

pub returns-in_default-clause-rings : goal.returns-in_default-clause-rings
returns-in_default-clause-rings c = (side_self c.args.self.now.first, side_self c.args.self.now.second)

pub returns-in_default-clause-spare : goal.returns-in_default-clause-spare
returns-in_default-clause-spare c m h = less (m + 1) m c.args.self.now (omega arith) h

pub returns-clause-step : goal.returns-clause-step
returns-clause-step c until x g =
    let mid = c.cut_back-undone.new.self in
    let low = take_low c.args.plan.now c.args.cut.now until x c.args.self.now c.args.sender c.args.op c.in-Some.op g (sym c.in-Some.ensures) in
    subst (λ (y : Region). MakesStep c.args.plan.now c.args.cut.now until x c.args.self.now (PartStep.Takes c.args.sender c.args.op) y) (sym c.replay.ensures.same)
    (take_made c.args.plan.now c.args.cut.now until x c.args.self.now mid c.replay.new.self.stacks c.args.sender c.args.op c.in-Some.op g (sym c.in-Some.ensures) (c.cut_back-undone.ensures.back until x g low) c.replay.ensures.stacks)

pub returns-clause-cut : goal.returns-clause-cut
returns-clause-cut c = ap (λ (y : Region). c.cut_back-undone.result + length y.board.timeline.entries) c.replay.ensures.same ∙ c.cut_back-undone.ensures.cut

pub returns-clause-rings : goal.returns-clause-rings
returns-clause-rings c =
    let w = c.requires.region in
    let low = take_low c.args.plan.now c.args.cut.now w.0 w.1 c.args.self.now c.args.sender c.args.op c.in-Some.op w.2 (sym c.in-Some.ensures) in
    let m = c.cut_back-undone.ensures.back w.0 w.1 w.2 low in
    subst (SameRings c.args.self.now) (sym c.replay.ensures.same) (side_gained _ _ _ m.first, side_gained _ _ _ m.second)

pub returns-clause-totals : goal.returns-clause-totals
returns-clause-totals c =
    let w = c.requires.region in
    let low = take_low c.args.plan.now c.args.cut.now w.0 w.1 c.args.self.now c.args.sender c.args.op c.in-Some.op w.2 (sym c.in-Some.ensures) in
    let m = c.cut_back-undone.ensures.back w.0 w.1 w.2 low in
    ap (λ (y : Region). y.totals) c.replay.ensures.same ∙ ap (λ (y : Region). y.totals) m.same

-- one of the spare is used, for the entry that is undone and for the stack
used : (old mid new : Region) → new ≡ record mid { stacks = new.stacks } → mid.stacks ≡ old.stacks → mid.stacks.spare ≤ new.stacks.spare + 1 → ((m : ℕ) → HasSpare (m + 1) old → HasSpare m mid) → UsesOne old new
used old mid new same stacks spare f m h =
    let s = f m h in
    subst (HasSpare m) (sym same) (record { timeline = s.timeline; changes = s.changes; stacks = omega (arith, h.stacks, spare, ap (λ (y : StacksView). y.spare) stacks); first = s.first; second = s.second })

pub returns-clause-spare : goal.returns-clause-spare
returns-clause-spare c =
    used c.args.self.now c.cut_back-undone.new.self c.replay.new.self c.replay.ensures.same c.cut_back-undone.ensures.stacks
    (replay_spare c.cut_back-undone.new.self.first c.cut_back-undone.new.self.second c.args.sender c.in-Some.op c.cut_back-undone.new.self.stacks c.replay.new.self.stacks c.replay.ensures.stacks) c.cut_back-undone.ensures.spare
