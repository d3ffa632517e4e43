-- A crew that commits at the least clock.
use Rattle.std.proofs.Common.{◌≡◌, ◌≢◌, ℕ, ◌<◌, ◌≤◌, inl, inr, ◌⊎◌, List, [], ◌∷◌, ◌+◌, length, drop, refl, sym, ap, ◌∙◌, subst, arith, Option, Some, None, cond, ◌==◌, slice_index_or}
use Rattle.std.specs.Prelude.{slice_get, map, IsPermutation}
use Rattle.std.proofs.lemmas.List.Sorted.{length_permutation}
use Rattle.std.proofs.lemmas.Option.{slice_get-get_or, slice_get_within, get_or_from_slice_get}
use Rattle.surf_kinds.specs.declared.event.Event.{Event}
use Rattle.surf_kinds.specs.declared.event.Key.{Key}
use Rattle.surf_kinds.specs.Keys.{keep, below, from, RiseStrictly, ◌is_upto◌, ◌is_below◌}
use Rattle.surface_state.specs.SurfaceView.{SurfaceView}
use Rattle.ordered_commit.specs.Merge.{AreMergeable, all_events}
use Rattle.warp_core.specs.World.{IsWorld, end_key}
use Rattle.warp_core.specs.Cores.{Core, IsConsistent}
use Rattle.warp_core.specs.Steps.{MayCommit, own_events_below}
use Rattle.warp_core.specs.Settling.{IsSettled, IsLeastClock, AreEmpty}
use Rattle.warp_core.proofs.LawLemmas.{may_commit, round_gives, round_moves}
use Rattle.region_run.specs.declared.region.Region.{Region}
use Rattle.region_run.specs.declared.totals.Totals.{Totals}
use Rattle.region_run.specs.Sides.{raised}
use Rattle.region_run.specs.Regions.{Base, part_of, line_to, ends_with, is_own_key, IsRegion}
use Rattle.crew.specs.Crews.{CrewView, IsCrew, IsReady, world_in, core_in, rest_of, turns_of, base_at}
use Rattle.crew.specs.Calls.{ChangesEach, IsOwnBelow, AreOwnBelow, IsGathered, MayForget, Forgets, IsUptoClock, IsClockOf}
use Rattle.crew.specs.Rounds.{AllCommitted, AreOwnLists, IsLeastOf}
use Rattle.crew.specs.Balances.{AreBalanced}
use Rattle.crew.proofs.Balances.{forgot, forgot_balanced, handed_length}
use Rattle.crew.proofs.Present.{member, laws}
use Rattle.crew.proofs.Lists.{each_changed, each_turns}
use Rattle.crew.proofs.Commits as commits

-- one round more, and so many events
few_more : (rounds committed n rounds' committed' : ℕ) → rounds ≤ committed → rounds' ≡ raised rounds 1 → committed' ≡ raised committed n → rounds' ≤ committed' + 1
few_more rounds committed n rounds' committed' h a b = omega (arith, h, a, b)

fewer_more : (rounds committed : ℕ) (events : List Event) (rounds' committed' : ℕ) → rounds ≤ committed → rounds' ≡ raised rounds 1 → committed' ≡ raised committed (length events) → (events ≡ [] → ⊥) → rounds' ≤ committed'
fewer_more rounds committed [] rounds' committed' h a b some = absurd (some refl)
fewer_more rounds committed (e ∷ events) rounds' committed' h a b some = omega (arith, h, a, b)

-- the rounds and what was handed out are no part of the configuration
recounted : (v : CrewView) (rounds committed : ℕ) (past : ℕ → List Event) (base : ℕ → SurfaceView) → IsCrew v past base → IsCrew (record v { rounds = rounds; committed = committed }) past base
recounted v rounds committed past base c = record { count = c.count; cut = c.cut; lattice = c.lattice; short = c.short; region = c.region; agree = c.agree; ties = c.ties }

pub any_regions : (v : CrewView) → IsReady v → 0 < length v.regions
any_regions v ready = omega (arith, (laws v ready.past ready.base ready.crew).owned 0, ready.crew.count)

module _ (v : CrewView) (ready : IsReady v) (k : Key) (least : (i : ℕ) (d : Region) → i < length v.regions → IsUptoClock k (slice_index_or v.regions i d)) (some : (d : Region) → (i : ℕ) × (i < length v.regions) × IsClockOf k (slice_index_or v.regions i d)) (settled : (c : Core) × IsSettled (world_in v) c (core_in v)) where
  world : IsWorld (world_in v)
  world = laws v ready.past ready.base ready.crew

  is_least : IsLeastOf v.regions k
  is_least =
      record {
        least = λ i r at. subst (λ (x : Region). k is_upto x.clock) (get_or_from_slice_get v.regions i r r at) (least i r (slice_get_within v.regions i r at)).is;
        some =
            let m = member v.regions 0 (any_regions v ready) in
            let s = some m.0 in
            (s.0, slice_index_or v.regions s.0 m.0, slice_get-get_or v.regions s.0 m.0 s.1, s.2.is);
      }

  clock : IsLeastClock (world_in v) (core_in v) k
  clock = commits.least_clock v ready.past ready.base ready.crew k is_least

  may : MayCommit (world_in v) (core_in v) k
  may = may_commit (world_in v) settled.0 (core_in v) k settled.1 clock

  pub may_forget : (i : ℕ) (d : Region) → i < length v.regions → MayForget k (slice_index_or v.regions i d)
  may_forget i d h =
      record {
        network = v.network;
        bands = v.bands;
        until = v.until;
        base = base_at v ready.past ready.base i;
        region = (ready.crew.region i (slice_index_or v.regions i d) (slice_get-get_or v.regions i d h)).0;
        late = may.from_horizon;
        early = (least i d h).is;
      }

  own_lists : (lists : List (List Event)) → AreOwnBelow k v.regions (length v.regions) lists → AreOwnLists v k lists
  own_lists lists own =
      record {
        len = own.len ∙ ready.crew.count;
        each = λ i r at.
            let h = slice_get_within v.regions i r at in
            let is = get_or_from_slice_get v.regions i r r at in
            (subst (λ x. IsOwnBelow k x (slice_index_or lists i [])) is (own.each i r h)).is v.network v.bands v.until (base_at v ready.past ready.base i) (ready.crew.region i r at).0;
      }

  pub can_merge : (lists : List (List Event)) → AreOwnBelow k v.regions (length v.regions) lists → AreMergeable lists
  can_merge lists own = commits.can_merge v ready.past ready.base ready.crew ready.consistent k may lists (own_lists lists own)

  pub handed_then : (events : List Event) → IsGathered k v.regions events → events ≡ from v.horizon (below k (world_in v).history)
  handed_then events g = commits.handed v ready.past ready.base ready.crew ready.consistent k may g.lists (own_lists g.lists g.own) events g.all g.order

  pub some_then : (events : List Event) → IsGathered k v.regions events → events ≡ [] → k ≡ end_key (world_in v)
  some_then events g none =
      elim (round_gives (world_in v) world settled.0 (core_in v) k settled.1 clock) [
        | inl e ↦ e
        | inr n ↦ absurd (n (sym (commits.merged v ready.past ready.base ready.crew ready.consistent k may g.lists (own_lists g.lists g.own) events g.all g.order) ∙ none))
      ]

  pub later_then : v.horizon is_below end_key (world_in v) → v.horizon is_below k
  later_then early = round_moves (world_in v) settled.0 (core_in v) k settled.1 clock early

  module _ (rs' : List Region) (c : ChangesEach (Forgets k) v.regions rs') where
    forgets : (i : ℕ) (r t : Region) → slice_get v.regions i ≡ Some r → slice_get rs' i ≡ Some t → Forgets k r t
    forgets = each_changed (Forgets k) v.regions rs' c

    gone : AllCommitted v ready.past ready.base k rs'
    gone =
        record {
          len = c.len;
          each = λ i r t a b.
              (forgets i r t a b).committed v.network v.bands v.until (base_at v ready.past ready.base i) (ready.crew.region i r a).0 may.from_horizon
              (subst (λ (x : Region). k is_upto x.clock) (get_or_from_slice_get v.regions i r r a) (least i r (slice_get_within v.regions i r a)).is);
          id = λ i r t a b. ap (λ (x : Region). x.id) (forgets i r t a b).same;
          line = λ i r t a b l. ap (λ x. line_to x l) (forgets i r t a b).same;
          ends = λ i r t a b l. ap (λ x. ends_with x l) (forgets i r t a b).same;
        }

    -- so many events are below the new horizon
    handed_more : (events : List Event) → IsGathered k v.regions events → length (below v.horizon (world_in v).history) + length events ≡ length (below k (world_in v).history)
    handed_more events g =
        ap (λ (l : List Event). length (below v.horizon (world_in v).history) + length l) (handed_then events g) ∙ handed_length v.horizon k (world_in v).history may.from_horizon

    balance : (events : List Event) (g : IsGathered k v.regions events) → AreBalanced rs' (length (below v.horizon (world_in v).history) + length events)
    balance events g =
        subst (λ n. AreBalanced rs' (length (below v.horizon (world_in v).history) + n)) (sym (length_permutation (all_events g.lists) events g.all))
        (forgot_balanced k v.regions rs' g.lists _ g.own c
        (λ i n r t at mine f bal.
        forgot n v.network v.bands v.until (base_at v ready.past ready.base i) k r t (slice_index_or g.lists i []) (ready.crew.region i r at).0 may.from_horizon
        (subst (λ (x : Region). k is_upto x.clock) (get_or_from_slice_get v.regions i r r at) (least i r (slice_get_within v.regions i r at)).is) mine f bal) ready.balanced)

    pub commit_ready : (rounds committed : ℕ) (events : List Event) → IsGathered k v.regions events → rounds ≡ raised v.rounds 1 → committed ≡ raised v.committed (length events) → v.horizon ≢ end_key (world_in v)
        → IsReady (record v { horizon = k; rounds = rounds; committed = committed; regions = rs' })
    commit_ready rounds committed events g more counted unfinished =
        record {
          past = commits.past_then v ready.past ready.base ready.crew ready.consistent k may rs' gone;
          base = commits.base_then v ready.past ready.base ready.crew ready.consistent k may rs' gone;
          crew = recounted (record v { horizon = k; regions = rs' }) rounds committed (commits.past_then v ready.past ready.base ready.crew ready.consistent k may rs' gone)
              (commits.base_then v ready.past ready.base ready.crew ready.consistent k may rs' gone) (commits.crew_then v ready.past ready.base ready.crew ready.consistent k may rs' gone);
          consistent = commits.consistent_then v ready.past ready.base ready.crew ready.consistent k may rs' gone;
          untold = λ j i a b n. commits.same_channel v ready.past ready.base ready.crew ready.consistent k may rs' gone j i ∙ ready.untold j i a b n;
          at_least = ready.at_least;
          at_most = ready.at_most;
          few = few_more v.rounds v.committed (length events) rounds committed (ready.fewer unfinished) more counted;
          fewer = λ n. fewer_more v.rounds v.committed events rounds committed (ready.fewer unfinished) more counted (λ none. n (some_then events g none));
          handed_out = counted ∙ omega (arith, ready.handed_out, handed_more events g);
          balanced = subst (AreBalanced rs') (handed_more events g ∙ refl) (balance events g);
        }

    pub commit_empty : AreEmpty (world_in v) (core_in (record v { horizon = k; regions = rs' }))
    commit_empty j i a b = commits.same_channel v ready.past ready.base ready.crew ready.consistent k may rs' gone j i ∙ settled.1.empty j i a b

    pub commit_turns : map turns_of rs' ≡ map turns_of v.regions
    commit_turns =
        each_turns v.regions rs' c.len
        (λ i r t a b. let f = forgets i r t a b in ap (λ (x : Totals). (x.turns, x.last_turn)) f.totals.1)

    pub commit_rest : (rounds committed rounds' committed' : ℕ) → rounds ≡ rounds' → committed ≡ committed'
        → rest_of (record v { horizon = k; rounds = rounds; committed = committed; regions = rs' }) ≡ rest_of (record v { horizon = k; rounds = rounds'; committed = committed' })
    commit_rest rounds committed rounds' committed' a b = λ e. (record v { horizon = k; rounds = a e; committed = b e; regions = [] }, commit_turns e)
