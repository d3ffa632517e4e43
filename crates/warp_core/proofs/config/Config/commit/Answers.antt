use Rattle.std.proofs.Common.{◌≡◌, ◌++◌, ℕ, ◌<◌, true, false, refl, sym, ap, ◌∙◌, subst, List, length, slice_index_or}
use Rattle.std.specs.Prelude.{map, IsPermutation}
use Rattle.std.specs.Global.{Global}
use Rattle.std.specs.Vec.{vec_items}
use Rattle.std.proofs.Common.{Vec}
use Rattle.surf_kinds.specs.declared.event.Event.{Event}
use Rattle.ordered_commit.specs.Merge.{AreMergeable}
use Rattle.plan.specs.Network.{Network}
use Rattle.warp_core.specs.Simulation.{Setting, world_in}
use Rattle.warp_core.specs.Steps.{MayCommit, StepOf, own_events_below}
use Rattle.warp_core.specs.Grounds.{ArePlaces}
use Rattle.warp_core.specs.Commits.{may_commit, AreOwnLists}
use Rattle.warp_core.specs.Configs.{core_with, core_of, IsConfigOf, AreHomes}
use Rattle.warp_core.specs.declared.region.Region.{Region}
use Rattle.warp_core.specs.declared.step.Step.TheVariants.{Commit}
use Rattle.warp_core.proofs.Machine.Stepping.{made_consistent}
use Rattle.warp_core.proofs.Machine.Committing.{test_may, test_not, mergeable, merged_is}
use Rattle.warp_core.proofs.Machine.Committed.{places_of, commit_made, committed_homes}
use Rattle.warp_core.proofs.config.Config.commit.Goals as goal
use Rattle.warp_core.proofs.config.Config.commit.Goals.{After-drop-lists-2}

pub returns-then-not-may_commit-clause-made : goal.returns-then-not-may_commit-clause-made
returns-then-not-may_commit-clause-made c n s g =
    let now = c.args.self.now in
    let no : may_commit now.horizon now.regions.items c.args.key ≡ false = sym (c.may_commit.ensures ∙ ap (λ rs. may_commit now.horizon rs c.args.key) c.as_slice.ensures.value) ∙ c.if-not-may_commit.true in
    (refl, λ any step. test_not n s now g c.args.key no step.0)

pub own_lists-requires-clause-places : goal.own_lists-requires-clause-places
own_lists-requires-clause-places c =
    let w = c.requires.config in
    subst (λ rs. (i : ℕ) (d : Region) → i < length rs → ArePlaces c.args.self.now.cut.lattice (slice_index_or rs i d).timeline.entries) (sym c.as_slice-2.ensures.value) (places_of w.0 w.1 c.args.self.now w.2)

pub merge-requires : goal.merge-requires
merge-requires c =
    let w = c.requires.config in
    let now = c.args.self.now in
    let yes : may_commit now.horizon now.regions.items c.args.key ≡ true = sym (c.may_commit.ensures ∙ ap (λ rs. may_commit now.horizon rs c.args.key) c.as_slice.ensures.value) ∙ c.if-not-may_commit.false in
    let lists : AreOwnLists now.cut c.args.key now.regions.items now.cut.count c.in_ok-lists.lists.items = subst (λ rs. AreOwnLists now.cut c.args.key rs now.cut.count c.in_ok-lists.lists.items) c.as_slice-2.ensures.value c.in_ok-lists.ensures in
    subst (λ (vs : List (Vec Event Global)). AreMergeable (map vec_items vs)) (sym c.as_slice-3.ensures.value) (mergeable w.0 w.1 now w.2 c.args.key (test_may w.0 w.1 now w.2 c.args.key yes) c.in_ok-lists.lists.items lists)

may_here : (c : After-drop-lists-2) (n : Network) (s : Setting) → IsConfigOf n s c.args.self.now → MayCommit (world_in n s) (core_of c.args.self.now) c.args.key
may_here c n s g =
    let now = c.args.self.now in
    let yes : may_commit now.horizon now.regions.items c.args.key ≡ true = sym (c.may_commit.ensures ∙ ap (λ rs. may_commit now.horizon rs c.args.key) c.as_slice.ensures.value) ∙ c.if-not-may_commit.false in
    test_may n s now g c.args.key yes

-- the merged events are those that the core commits
events_here : (c : After-drop-lists-2) (n : Network) (s : Setting) (g : IsConfigOf n s c.args.self.now) → c.in_ok-events.events.items ≡ own_events_below (world_in n s) (core_of c.args.self.now) c.args.key s.bands.count
events_here c n s g =
    let now = c.args.self.now in
    let lists : AreOwnLists now.cut c.args.key now.regions.items now.cut.count c.in_ok-lists.lists.items = subst (λ rs. AreOwnLists now.cut c.args.key rs now.cut.count c.in_ok-lists.lists.items) c.as_slice-2.ensures.value c.in_ok-lists.ensures in
    let all = subst (λ (vs : List (Vec Event Global)). IsPermutation (Rattle.ordered_commit.specs.Merge.all_events (map vec_items vs)) c.in_ok-events.events.items) c.as_slice-3.ensures.value c.in_ok-events.ensures.all in
    merged_is n s now g c.args.key (may_here c n s g) c.in_ok-lists.lists.items lists c.in_ok-events.events.items all c.in_ok-events.ensures.order

-- and they are what the committed list gains
grown : (c : After-drop-lists-2) → c.extend_from_slice.new.self.items ≡ c.args.self.now.committed.items ++ c.in_ok-events.events.items
grown c = c.in_ok-extend_from_slice.ensures.items ∙ ap (λ l. c.args.self.now.committed.items ++ l) c.as_slice-4.ensures.value

pub returns-clause-made : goal.returns-clause-made
returns-clause-made c n s g =
    let now = c.args.self.now in
    let may = may_here c n s g in
    subst (λ l. StepOf (world_in n s) (core_of now) (Commit c.args.key) (core_with c.args.key l c.forget_all.new.regions.items)) (sym (grown c))
    (commit_made n s now g c.args.key may c.forget_all.new.regions.items c.forget_all.ensures c.in_ok-events.events.items (events_here c n s g))

pub returns-clause-kept : goal.returns-clause-kept
returns-clause-kept c n s g =
    let now = c.args.self.now in
    let may = may_here c n s g in
    let rs = c.forget_all.new.regions.items in
    record {
      setting = g.setting;
      bands = g.bands;
      until = g.until;
      count = c.forget_all.ensures.long ∙ g.count;
      consistent = made_consistent n s now (Commit c.args.key) (core_with c.args.key c.extend_from_slice.new.self.items rs) g (returns-clause-made c n s g);
      homes = subst (λ l. AreHomes n s c.args.key l rs) (sym (grown c)) (committed_homes n s now g c.args.key may rs c.forget_all.ensures c.in_ok-events.events.items (events_here c n s g));
    }
