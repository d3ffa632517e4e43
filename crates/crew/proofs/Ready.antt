-- A crew after the calls that settling makes.
use Rattle.std.proofs.Common.{◌≡◌, ◌≢◌, ℕ, ◌==◌, ◌<◌, inl, inr, Bool, true, false, List, [], length, refl, sym, ap, ◌∙◌, subst, arith, Option, Some, None, slice_index_or, if◌then◌else◌}
use Rattle.std.specs.Prelude.{slice_get, map, Result, OnOk, vec_len, vec_capacity, ◌*◌}
use Rattle.std.proofs.Common.{Ok, Err, ◌+◌, ◌≤◌}
use Rattle.std.proofs.lemmas.Bool.{cases_Bool}
use Rattle.std.proofs.lemmas.Option.{slice_get-get_or}
use Rattle.surf_kinds.specs.declared.status.NoMemory.{NoMemory}
use Rattle.surf_kinds.specs.Keys.{below}
use Rattle.plan.specs.Network.{Network}
use Rattle.regions.specs.Bands.{Bands}
use Rattle.warp_core.specs.World.{IsWorld}
use Rattle.warp_core.specs.Parts.{PartStep, step_takes}
use Rattle.warp_core.specs.Cores.{Core, IsConsistent}
use Rattle.warp_core.specs.Steps.{StepOf}
use Rattle.warp_core.specs.declared.step.Step.{Step}
use Rattle.warp_core.specs.Settling.{StepsOne}
use Rattle.warp_core.proofs.LawLemmas.{step_keeps}
use Rattle.region_run.specs.declared.region.Region.{Region}
use Rattle.region_run.specs.declared.totals.Turn.{Turn}
use Rattle.region_run.specs.declared.totals.Totals.{Totals}
use Rattle.region_run.specs.declared.side.Ends.{Ends}
use Rattle.region_run.specs.Sides.{SideView, is_other, HasRoom, ends_of as ends_at}
use Rattle.region_run.specs.Regions.{Base, ends_with, IsRegion}
use Rattle.region_run.specs.Channels.{AreTied}
use Rattle.region_run.specs.Counts.{with_work}
use Rattle.region_run.specs.Runs.{MakesStep, StepsOn, SameSide, SameRings, HasSpare}
use Rattle.crew.specs.Crews.{CrewView, IsCrew, IsReady, AreUntoldEmpty, world_in, core_in, rest_of, turns_of, base_at, ends_of, ends_if}
use Rattle.crew.specs.Calls.{ChangesOne, ChangesTwo, MakesRoom, MayStepOne, HasStepped, MayDeliver, Delivers}
use Rattle.crew.specs.Rounds.{IsOne, IsTwo, Stepped}
use Rattle.crew.proofs.Lists.{one_changed, two_changed, one_turns, two_turns}
use Rattle.crew.proofs.Present.{laws}
use Rattle.crew.specs.Balances.{AreBalanced}
use Rattle.crew.proofs.Balances.{one_balanced, two_balanced, same_balance, gave, given as given_balance, stepped as stepped_balance}
use Rattle.crew.proofs.Untold.{take_stays, one_stays}
use Rattle.crew.proofs.Steps as steps
use Rattle.crew.proofs.Deliveries as deliveries

pub rest_is : (v : CrewView) (rs' : List Region) → map turns_of rs' ≡ map turns_of v.regions → rest_of (record v { regions = rs' }) ≡ rest_of v
rest_is v rs' same = λ e. (record v { regions = [] }, same e)

pub rest_world : (a b : CrewView) → rest_of a ≡ rest_of b → world_in a ≡ world_in b
rest_world a b e = ap (λ (p : CrewView × List (ℕ × Turn)). world_in p.0) e

pub ready_with : (v : CrewView) (ready : IsReady v) (rs' : List Region) → IsCrew (record v { regions = rs' }) ready.past ready.base → IsConsistent (world_in v) (core_in (record v { regions = rs' }))
    → AreUntoldEmpty (world_in v) (core_in (record v { regions = rs' })) → AreBalanced rs' (length (below v.horizon (world_in v).history)) → IsReady (record v { regions = rs' })
ready_with v ready rs' crew good untold balanced =
    record { past = ready.past; base = ready.base; crew = crew; consistent = good; untold = untold; at_least = ready.at_least; at_most = ready.at_most; few = ready.few; fewer = ready.fewer; handed_out = ready.handed_out; balanced = balanced }

-- the same rings
side_other : (s t : Option SideView) → SameSide s t → (l : ℕ) → is_other t l ≡ is_other s l
side_other None None h l = refl
side_other None (Some t) h l = absurd h
side_other (Some s) None h l = absurd h
side_other (Some s) (Some t) h l = ap (λ n. n == l) h.0

side_ends : (s t : Option SideView) → SameSide s t → ends_at t ≡ ends_at s
side_ends None None h = refl
side_ends None (Some t) h = absurd h
side_ends (Some s) None h = absurd h
side_ends (Some s) (Some t) h = h.1

same_ends : (r t : Region) → SameRings r t → (l : ℕ) → ends_with t l ≡ ends_with r l
same_ends r t rings l =
    λ e. if side_other r.first t.first rings.0 l e then side_ends r.first t.first rings.0 e else (if side_other r.second t.second rings.1 l e then side_ends r.second t.second rings.1 e else None)

step_of : (n : Network) (b : Bands) (until : ℕ) (x : Base) (r t : Region) (answer : Bool) → StepsOn n b until x r answer t → (step : PartStep) × MakesStep n b until x r step t × ((l : ℕ) → step_takes step l ≡ [])
step_of n b until x r t true s = (s.0, s.1, elim s.2 [ inl e ↦ λ l. ap (λ q. step_takes q l) e.1 | inr e ↦ λ l. ap (λ q. step_takes q l) e.1 ])
step_of n b until x r t false s = (PartStep.Ends, s.0, λ l. refl)

step_turns : (r t : Region) (answer : Bool) → t.totals ≡ (if answer then with_work r.totals 1 0 else r.totals) → turns_of t ≡ turns_of r
step_turns r t true e = ap (λ (x : Totals). (x.turns, x.last_turn)) e
step_turns r t false e = ap (λ (x : Totals). (x.turns, x.last_turn)) e

-- room for two is room for one
less_room : (s : Option SideView) → HasRoom 2 s → HasRoom 1 s
less_room None h = tt
less_room (Some s) h = omega (arith, h)

less_spare : (r : Region) → HasSpare 2 r → HasSpare 1 r
less_spare r h =
    record { timeline = omega (arith, h.timeline); changes = λ u. omega (arith, h.changes u); stacks = omega (arith, h.stacks); first = less_room r.first h.first; second = less_room r.second h.second }

pub room_ok : (rs : List Region) (i : ℕ) (result : Result (Unit {0}) NoMemory) (rs' : List Region) → ChangesOne (MakesRoom 1 result) rs i rs' → OnOk result ((d : Region) → HasSpare 1 (slice_index_or rs' i d))
room_ok rs i (Ok x) rs' c = λ d. less_spare (slice_index_or rs' i d) (c.it d).ok
room_ok rs i (Err e) rs' c = tt

module _ (v : CrewView) (ready : IsReady v) where
  world : IsWorld (world_in v)
  world = laws v ready.past ready.base ready.crew

  within : (i : ℕ) → i < v.bands.count → i < length v.regions
  within i h = omega (arith, h, ready.crew.count)

  -- room was made in one of the regions
  module _ (i quota : ℕ) (result : Result (Unit {0}) NoMemory) (rs' : List Region) (c : ChangesOne (MakesRoom quota result) v.regions i rs') (inside : i < v.bands.count) where
    roomed : (r : Region) × (t : Region) × IsOne v.regions rs' i r t × MakesRoom quota result r t
    roomed = one_changed (MakesRoom quota result) v.regions i rs' c (within i inside)

    pub room_core : core_in (record v { regions = rs' }) ≡ core_in v
    room_core = steps.same_core v ready.past ready.base ready.crew rs' i roomed.0 roomed.1 roomed.2 roomed.3.made.same

    pub room_ready : IsReady (record v { regions = rs' })
    room_ready =
        ready_with v ready rs' (steps.same_crew v ready.past ready.base ready.crew rs' i roomed.0 roomed.1 roomed.2 roomed.3.made.same)
        (subst (λ (k : Core). IsConsistent (world_in v) k) (sym room_core) ready.consistent)
        (subst (λ (k : Core). AreUntoldEmpty (world_in v) k) (sym room_core) ready.untold)
        (one_balanced v.regions rs' i roomed.0 roomed.1 _ roomed.2 (λ m. same_balance m roomed.0 roomed.1 roomed.3.made.totals roomed.3.made.same.part) ready.balanced)

    pub room_rest : rest_of (record v { regions = rs' }) ≡ rest_of v
    room_rest = rest_is v rs' (one_turns v.regions rs' i roomed.0 roomed.1 roomed.2 (ap (λ (x : Totals). (x.turns, x.last_turn)) roomed.3.made.totals))

  -- a message may be delivered
  pub may_give : (from to : ℕ) → from < v.bands.count → to < v.bands.count → from ≢ to → ((d : Region) → HasSpare 1 (slice_index_or v.regions to d)) → (d : Region) → MayDeliver v.network v.bands (slice_index_or v.regions from d) (slice_index_or v.regions to d)
  may_give from to hf ht apart spare d =
      let f = slice_index_or v.regions from d in
      let t = slice_index_or v.regions to d in
      let at_f : slice_get v.regions from ≡ Some f = slice_get-get_or v.regions from d (within from hf) in
      let at_t : slice_get v.regions to ≡ Some t = slice_get-get_or v.regions to d (within to ht) in
      let f_id : f.id ≡ from = (ready.crew.region from f at_f).1 in
      let t_id : t.id ≡ to = (ready.crew.region to t at_t).1 in
      record {
        until = v.until;
        base = base_at v ready.past ready.base to;
        region = (ready.crew.region to t at_t).0;
        apart = λ e. apart (sym f_id ∙ (e ∙ t_id));
        sender = omega (arith, f_id, hf);
        ties = subst (λ m. AreTied (ends_with f m) (ends_with t f.id)) (sym t_id)
            (subst (λ m. AreTied (ends_with f to) (ends_with t m)) (sym f_id)
            (subst (λ o. AreTied (ends_with f to) (ends_if o from)) at_t
            (subst (λ o. AreTied (ends_if o to) (ends_of v.regions to from)) at_f (ready.crew.ties from to apart))));
        spare = spare d;
      }

  module _ (from to : ℕ) (done : Bool) (rs' : List Region) (c : ChangesTwo (Delivers v.network v.bands done) v.regions from to rs') (hf : from < v.bands.count) (ht : to < v.bands.count) (apart : from ≢ to) where
    given : (f : Region) × (t : Region) × (f' : Region) × (t' : Region) × IsTwo v.regions rs' from to f t f' t' × Delivers v.network v.bands done f t f' t'
    given = two_changed (Delivers v.network v.bands done) v.regions from to rs' c apart (within from hf) (within to ht)

    region : IsRegion v.network v.bands v.until (base_at v ready.past ready.base to) given.1
    region = (ready.crew.region to given.1 given.4.old_to).0

    pub give_done : done ≡ true → StepOf (world_in v) (core_in v) (Step.Take from to) (core_in (record v { regions = rs' }))
    give_done e =
        deliveries.delivered v ready.past ready.base ready.crew rs' from to given.0 given.1 given.2 given.3 given.4 (given.5.one e v.until (base_at v ready.past ready.base to) region) hf ht

    pub give_none : done ≡ false → (core_in (record v { regions = rs' }) ≡ core_in v) × ((core_in v).channel from to ≡ [])
    give_none e = (
      deliveries.none_core v ready.past ready.base ready.crew rs' from to given.0 given.1 given.2 given.3 given.4 (given.5.none e),
      deliveries.none_before v ready.past ready.base ready.crew rs' from to given.0 given.1 given.2 given.3 given.4 (given.5.none e),
    )

    balance : AreBalanced rs' (length (below v.horizon (world_in v).history))
    balance =
        two_balanced v.regions rs' from to given.0 given.1 given.2 given.3 _ given.4
        (λ m. gave m v.network v.bands v.until (base_at v ready.past ready.base to) done given.0 given.1 given.2 given.3 region given.5)
        (λ m. given_balance m v.network v.bands v.until (base_at v ready.past ready.base to) done given.0 given.1 given.2 given.3 region given.5) ready.balanced

    pub give_ready : IsReady (record v { regions = rs' })
    give_ready =
        elim (cases_Bool done) [
          | inl e ↦
              ready_with v ready rs'
              (deliveries.delivered_crew v ready.past ready.base ready.crew rs' from to given.0 given.1 given.2 given.3 given.4 (given.5.one e v.until (base_at v ready.past ready.base to) region))
              (step_keeps (world_in v) world (core_in v) (core_in (record v { regions = rs' })) (Step.Take from to) ready.consistent (give_done e))
              (take_stays (world_in v) (core_in v) (core_in (record v { regions = rs' })) from to (give_done e) ready.untold)
              balance
          | inr e ↦
              ready_with v ready rs' (deliveries.none_crew v ready.past ready.base ready.crew rs' from to given.0 given.1 given.2 given.3 given.4 (given.5.none e))
              (subst (λ (k : Core). IsConsistent (world_in v) k) (sym (give_none e).0) ready.consistent)
              (subst (λ (k : Core). AreUntoldEmpty (world_in v) k) (sym (give_none e).0) ready.untold)
              balance
        ]

    pub give_rest : rest_of (record v { regions = rs' }) ≡ rest_of v
    give_rest =
        rest_is v rs'
        (two_turns v.regions rs' from to given.0 given.1 given.2 given.3 given.4 (ap (λ (x : Totals). (x.turns, x.last_turn)) given.5.sender_totals)
        (elim (cases_Bool done) [ inl e ↦ ap (λ (x : Totals). (x.turns, x.last_turn)) (given.5.totals e).1 | inr e ↦ ap (λ (x : Totals). (x.turns, x.last_turn)) (given.5.no_totals e) ]))

  -- a region may make a step
  pub may_step : (i : ℕ) → i < v.bands.count → ((d : Region) → HasSpare 1 (slice_index_or v.regions i d)) → (d : Region) → MayStepOne v.network v.bands v.until (slice_index_or v.regions i d)
  may_step i h spare d =
      record {
        base = base_at v ready.past ready.base i;
        region = (ready.crew.region i (slice_index_or v.regions i d) (slice_get-get_or v.regions i d (within i h))).0;
        spare = spare d;
      }

  module _ (i : ℕ) (rs' : List Region) (c : ChangesOne (HasStepped v.network v.bands v.until) v.regions i rs') (inside : i < v.bands.count) where
    went : (r : Region) × (t : Region) × IsOne v.regions rs' i r t × HasStepped v.network v.bands v.until r t
    went = one_changed (HasStepped v.network v.bands v.until) v.regions i rs' c (within i inside)

    one : (step : PartStep) × MakesStep v.network v.bands v.until (base_at v ready.past ready.base i) went.0 step went.1 × ((l : ℕ) → step_takes step l ≡ [])
    one = step_of v.network v.bands v.until (base_at v ready.past ready.base i) went.0 went.1 went.3.answer (went.3.steps (base_at v ready.past ready.base i) (ready.crew.region i went.0 went.2.old_at).0)

    stepped : Stepped v.network v.bands v.until (base_at v ready.past ready.base i) went.0 one.0 went.1
    stepped = record { made = one.1; ends = same_ends went.0 went.1 went.3.rings }

    pub step_one : StepsOne (world_in v) (core_in v) i (core_in (record v { regions = rs' }))
    step_one = steps.one_step v ready.past ready.base ready.crew rs' i went.0 went.1 went.2 inside one.0 stepped one.2

    pub step_ready : IsReady (record v { regions = rs' })
    step_ready =
        ready_with v ready rs' (steps.step_crew v ready.past ready.base ready.crew rs' i went.0 went.1 went.2 one.0 stepped)
        (elim step_one [
          | inl s ↦ step_keeps (world_in v) world (core_in v) (core_in (record v { regions = rs' })) (Step.Fire i) ready.consistent s
          | inr s ↦ step_keeps (world_in v) world (core_in v) (core_in (record v { regions = rs' })) (Step.Pass i) ready.consistent s
        ])
        (one_stays (world_in v) (core_in v) (core_in (record v { regions = rs' })) i step_one ready.untold)
        (one_balanced v.regions rs' i went.0 went.1 _ went.2
        (λ m. stepped_balance m v.network v.bands v.until (base_at v ready.past ready.base i) went.0 went.1 (ready.crew.region i went.0 went.2.old_at).0 went.3) ready.balanced)

    pub step_rest : rest_of (record v { regions = rs' }) ≡ rest_of v
    step_rest = rest_is v rs' (one_turns v.regions rs' i went.0 went.1 went.2 (step_turns went.0 went.1 went.3.answer went.3.totals))
