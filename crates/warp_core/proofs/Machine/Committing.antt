-- What the regions give together is what the core commits.
use Rattle.std.proofs.Common.{◌≡◌, ℕ, zero, suc, ◌<◌, Bool, inl, inr, true, false, List, [], ◌∷◌, length, refl, sym, ap, ◌∙◌, subst, arith, Some, slice_index_or, Vec, map}
use Rattle.std.specs.Global.{Global}
use Rattle.std.specs.Prelude.{slice_get, IsTrue, IsPermutation, All, not, nat_lt}
use Rattle.std.specs.List.{Contains, flat_map, list_all}
use Rattle.std.specs.Vec.{vec_items}
use Rattle.std.proofs.lemmas.Bool.{both_ways, cases_Bool, eqb-true, eq-eqb, or_left, or_right, and_parts, and_from, not-true, not_from_false, ltb-true, ltb-false}
use Rattle.std.proofs.lemmas.Option.{none-some}
use Rattle.std.proofs.lemmas.List.{get_or_past, get_or_default, length-map}
use Rattle.std.proofs.lemmas.List.Sorted.{Contains-permutation, IsPermutation-sym}
use Rattle.surf_kinds.specs.declared.event.Event.{Event}
use Rattle.surf_kinds.specs.declared.event.Key.{Key}
use Rattle.surf_kinds.specs.Keys.{is_before, is_earlier, key_of, at, keep, below, AllKeys, IsRising, RiseStrictly}
use Rattle.surf_kinds.proofs.Order.{key_cases, upto_both}
use Rattle.surf_kinds.proofs.Tables.{same_tables, IsRising_keep, none_or_some, at_keep_yes, AllKeys_kept, at_key}
use Rattle.surf_kinds.proofs.Rising.{strictly, rises}
use Rattle.ordered_commit.specs.Merge.{all_events, AreMergeable, HaveOtherKeys}
use Rattle.border.specs.declared.op.Op.{Op}
use Rattle.border.specs.Messages.{op_key, AllOpsFrom}
use Rattle.plan.specs.Network.{Network}
use Rattle.regions.specs.Bands.{Bands, owner_of}
use Rattle.timeline.specs.TimelineView.{events_of}
use Rattle.warp_core.specs.World.{IsWorld, is_own}
use Rattle.warp_core.specs.Simulation.{Setting, world_in}
use Rattle.warp_core.specs.Steps.{MayCommit, own_events_below}
use Rattle.warp_core.specs.Regions.{items_at}
use Rattle.warp_core.specs.Commits.{are_from, all_are_from, is_past, may_commit, AreOwnLists}
use Rattle.warp_core.specs.Configs.{core_of, IsConfigOf}
use Rattle.warp_core.specs.declared.config.Config.{Config}
use Rattle.warp_core.specs.declared.region.Region.{Region}
use Rattle.warp_core.proofs.Theory.Cuts.{at_below, at_below_none}
use Rattle.warp_core.proofs.Theory.Commits.{gathered_rising, gathered_late, gathered_has}
use Rattle.warp_core.proofs.Theory.Merging as merging
use Rattle.warp_core.proofs.Machine.Cores.{part_is, outbox_is, get_is}
use Rattle.warp_core.proofs.Machine.Stepping.{some_region, setting_here, sized_at}

-- the test of a commit

ops_from : (k : Key) (ops : List Op) → are_from k ops ≡ true → AllOpsFrom k ops
ops_from k [] h = tt
ops_from k (op ∷ ops) h = let p = and_parts (not (is_before (op_key op) k)) (are_from k ops) h in (not-true (is_before (op_key op) k) p.0, ops_from k ops p.1)

from_ops : (k : Key) (ops : List Op) → AllOpsFrom k ops → are_from k ops ≡ true
from_ops k [] h = refl
from_ops k (op ∷ ops) h = and_from (not (is_before (op_key op) k)) (are_from k ops) (not_from_false (is_before (op_key op) k) h.0) (from_ops k ops h.1)

boxes_from : (k : Key) (vs : List (Vec Op Global)) → all_are_from k vs ≡ true → (l : ℕ) → AllOpsFrom k (items_at vs l)
boxes_from k [] h l = tt
boxes_from k (v ∷ vs) h zero = ops_from k v.items (and_parts (are_from k v.items) (all_are_from k vs) h).0
boxes_from k (v ∷ vs) h (suc l) = boxes_from k vs (and_parts (are_from k v.items) (all_are_from k vs) h).1 l

from_boxes : (k : Key) (vs : List (Vec Op Global)) → ((l : ℕ) → l < length vs → AllOpsFrom k (items_at vs l)) → all_are_from k vs ≡ true
from_boxes k [] h = refl
from_boxes k (v ∷ vs) h = and_from (are_from k v.items) (all_are_from k vs) (from_ops k v.items (h 0 (omega arith))) (from_boxes k vs (λ l q. h (suc l) (omega (arith, q))))

all_at : (p : Region → Bool) (rs : List Region) → list_all p rs ≡ true → (i : ℕ) (r : Region) → slice_get rs i ≡ Some r → p r ≡ true
all_at p [] h i r q = absurd (none-some r q)
all_at p (x ∷ rs) h zero r q = ap p (sym (Rattle.std.proofs.lemmas.Option.same_Some x r q)) ∙ (and_parts (p x) (list_all p rs) h).0
all_at p (x ∷ rs) h (suc i) r q = all_at p rs (and_parts (p x) (list_all p rs) h).1 i r q

at_all : (p : Region → Bool) (rs : List Region) → ((i : ℕ) → i < length rs → (r : Region) → slice_get rs i ≡ Some r → p r ≡ true) → list_all p rs ≡ true
at_all p [] h = refl
at_all p (x ∷ rs) h = and_from (p x) (list_all p rs) (h 0 (omega arith) x refl) (at_all p rs (λ i q r g. h (suc i) (omega (arith, q)) r g))

module _ (n : Network) (s : Setting) (c : Config) (g : IsConfigOf n s c) (k : Key) where
  inside_is : (i : ℕ) → i < s.bands.count → i < length c.regions.items
  inside_is i h = omega (arith, h, g.count)

  pub test_may : may_commit c.horizon c.regions.items k ≡ true → MayCommit (world_in n s) (core_of c) k
  test_may h =
      let both = and_parts (not (is_before k c.horizon)) (list_all (is_past k) c.regions.items) h in
      record {
        from_horizon = not-true (is_before k c.horizon) both.0;
        clocks = λ i q.
            let r = some_region c.regions.items i (inside_is i q) in
            let p = and_parts (not (is_before r.0.clock k)) (all_are_from k r.0.outboxes.items) (all_at (is_past k) c.regions.items both.1 i r.0 (get_is c.regions.items i r.0 (inside_is i q) r.1)) in
            subst (λ part. is_before part.clock k ≡ false) (sym (part_is c.regions.items i r.0 (inside_is i q) r.1)) (not-true (is_before r.0.clock k) p.0);
        messages = λ j i a b.
            let r = some_region c.regions.items j (inside_is j a) in
            let p = and_parts (not (is_before r.0.clock k)) (all_are_from k r.0.outboxes.items) (all_at (is_past k) c.regions.items both.1 j r.0 (get_is c.regions.items j r.0 (inside_is j a) r.1)) in
            subst (AllOpsFrom k) (sym (outbox_is c.regions.items j r.0 i (inside_is j a) r.1)) (boxes_from k r.0.outboxes.items p.1 i);
      }

  may_test : MayCommit (world_in n s) (core_of c) k → may_commit c.horizon c.regions.items k ≡ true
  may_test m =
      and_from (not (is_before k c.horizon)) (list_all (is_past k) c.regions.items) (not_from_false (is_before k c.horizon) m.from_horizon)
      (at_all (is_past k) c.regions.items (λ i q r is.
      let inside : i < s.bands.count = omega (arith, q, g.count) in
      let first = some_region c.regions.items i q in
      let same : first.0 ≡ r = Rattle.std.proofs.lemmas.Option.same_Some first.0 r (sym (get_is c.regions.items i first.0 q first.1) ∙ is) in
      subst (λ x. is_past k x ≡ true) same
      (and_from (not (is_before first.0.clock k)) (all_are_from k first.0.outboxes.items)
      (not_from_false (is_before first.0.clock k) (subst (λ part. is_before part.clock k ≡ false) (part_is c.regions.items i first.0 q first.1) (m.clocks i inside)))
      (from_boxes k first.0.outboxes.items (λ l h. subst (AllOpsFrom k) (outbox_is c.regions.items i first.0 l q first.1) (m.messages i l inside (omega (arith, h, (sized_at n s c i first.0 g q first.1).outboxes))))))))

  pub test_not : may_commit c.horizon c.regions.items k ≡ false → MayCommit (world_in n s) (core_of c) k → ⊥
  test_not h m = both_ways (may_commit c.horizon c.regions.items k) h (may_test m)

  -- the lists of the regions
  module _ (may : MayCommit (world_in n s) (core_of c) k) (vs : List (Vec Event Global)) (each : AreOwnLists c.cut k c.regions.items c.cut.count vs) where
    abbrev lists : List (List Event)
    lists = map vec_items vs

    laws : IsWorld (world_in n s)
    laws = setting_here n s c g

    count_is : length (map vec_items vs) ≡ s.bands.count
    count_is = length-map vs vec_items ∙ (each.long ∙ ap (λ (b : Bands). b.count) g.bands)

    list_is : (i : ℕ) → i < s.bands.count → slice_index_or (map vec_items vs) i [] ≡ keep (is_own (world_in n s) i) (below k ((core_of c).part i).timeline)
    list_is i h =
        let q = inside_is i h in
        let r = some_region c.regions.items i q in
        each.each i r.0 (omega (arith, h, ap (λ (b : Bands). b.count) g.bands))
        ∙ (ap (λ (b : Bands). keep (λ j. Rattle.std.specs.Prelude.◌==◌ (owner_of b j.place.0) i) (below k (events_of (slice_index_or c.regions.items i r.0).timeline.entries))) g.bands
        ∙ (ap (λ (x : Region). keep (is_own (world_in n s) i) (below k (events_of x.timeline.entries))) (sym r.1)
        ∙ ap (λ part. keep (is_own (world_in n s) i) (below k part.timeline)) (sym (part_is c.regions.items i r.0 q r.1))))

    pub mergeable : AreMergeable (map vec_items vs)
    mergeable = merging.mergeable (world_in n s) laws (core_of c) g.consistent k may (map vec_items vs) count_is list_is

    pub merged_is : (merged : List Event) → IsPermutation (all_events (map vec_items vs)) merged → RiseStrictly merged → merged ≡ own_events_below (world_in n s) (core_of c) k s.bands.count
    merged_is = merging.merged_is (world_in n s) laws (core_of c) g.consistent k may (map vec_items vs) count_is list_is
