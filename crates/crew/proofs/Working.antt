-- A crew after the turns of its regions, side by side, and a look at each ring.
use Rattle.std.proofs.Common.{◌≡◌, ◌≢◌, ◌⊎◌, ℕ, zero, suc, ◌+◌, ◌==◌, ◌<◌, ◌≤◌, inl, inr, Bool, true, false, List, [], ◌++◌, length, refl, sym, ap, ◌∙◌, subst, arith, Option, Some, None, slice_index_or, if◌then◌else◌}
use Rattle.std.specs.Prelude.{slice_get, map, nat_lt, ◌*◌}
use Rattle.std.proofs.lemmas.Bool.{cases_Bool, ltb-true, ltb-false}
use Rattle.std.proofs.lemmas.Bool.Decides.{eqb_tells}
use Rattle.std.proofs.lemmas.Option.{slice_get-get_or, slice_get_past, slice_get_within, same_Some}
use Rattle.plan.specs.Network.{Network}
use Rattle.regions.specs.Bands.{Bands}
use Rattle.border.specs.declared.op.Op.{Op}
use Rattle.warp_core.specs.Cores.{Core, IsConsistent}
use Rattle.warp_core.specs.Parts.{Part, PartStep, part_run, run_puts, run_takes, IsRun}
use Rattle.region_run.specs.declared.region.Region.{Region}
use Rattle.region_run.specs.declared.totals.Turn.{Turn}
use Rattle.region_run.specs.declared.totals.Totals.{Totals}
use Rattle.region_run.specs.declared.side.Ends.{Ends}
use Rattle.region_run.specs.Sides.{SideView, is_other, received_by, raised, ends_of as ends_at, Exchanged, RingExchanged}
use Rattle.region_run.specs.Regions.{Base, world_at, part_of, line_to, ends_with, IsRegion}
use Rattle.region_run.specs.Channels.{AreTied}
use Rattle.region_run.specs.Counts.{with_turn}
use Rattle.region_run.specs.Runs.{MakesRun, HasSpare}
use Rattle.region_run.specs.Turns.{IsTurn}
use Rattle.region_run.specs.Deliveries.{ArePaired, HasLooked, IsSame}
use Rattle.crew.specs.Crews.{CrewView, IsCrew, IsReady, AreUntoldEmpty, world_in, core_in, core_from, rest_of, turns_of, base_at, ends_of, ends_if, parts_of, lines_of, got_of, part_if, line_if}
use Rattle.crew.specs.Calls.{ChangesTwo, ChangesEach, HasRoomMade, MayTurn, HasTurned, MayLook, LooksAt, IsSeen, AreLookedAt}
use Rattle.crew.specs.Rounds.{IsTwo, Worked, AllWorked, IsWhole, HaveWorked}
use Rattle.crew.proofs.Fronts.{tied_back}
use Rattle.crew.proofs.Lists.{two_changed, each_changed, both_there, all_at, each_turns}
use Rattle.crew.proofs.Balances.{each_balanced, same_balance, turned as turned_balance}
use Rattle.crew.proofs.Ready.{rest_is, ready_with}
use Rattle.crew.proofs.Work.{turn_worked, same_number}
use Rattle.crew.proofs.Joins.{crew_joined, consistent_joined, untold_joined}

-- Rings keep their names

abbrev NamesStay : Option Ends → Option Ends → Type 0
NamesStay None None = Unit {0}
NamesStay (Some e) (Some f) = (f.out.ring ≡ e.out.ring) × (f.inn.ring ≡ e.inn.ring)
NamesStay None (Some f) = ⊥
NamesStay (Some e) None = ⊥

ring_names : (e f : Option Ends) (ops : List Op) (asks : ℕ) → RingExchanged e ops asks f → NamesStay e f
ring_names None None ops asks h = tt
ring_names None (Some f) ops asks h = absurd h
ring_names (Some e) None ops asks h = absurd h
ring_names (Some e) (Some f) ops asks h = (h.out_ring, h.in_ring)

side_names : (s t : Option SideView) (ops : List Op) (asks : ℕ) → Exchanged s ops asks t → NamesStay (ends_at s) (ends_at t)
side_names None None ops asks h = tt
side_names None (Some t) ops asks h = absurd h
side_names (Some s) None ops asks h = absurd h
side_names (Some s) (Some t) ops asks h = ring_names s.ends t.ends ops asks h.ring

turn_names : (n : Network) (b : Bands) (until : ℕ) (x : Base) (quota : ℕ) (r t : Region) (turn : Turn) → IsTurn n b until x quota r t turn → (l : ℕ) → NamesStay (ends_with r l) (ends_with t l)
turn_names n b until x quota r t turn h l =
    subst (λ p. NamesStay (ends_with r l) (if p then ends_at t.first else (if is_other t.second l then ends_at t.second else None))) (sym (same_number r.first t.first h.ops1 h.asks1 h.first l))
    (subst (λ q. NamesStay (ends_with r l) (if is_other r.first l then ends_at t.first else (if q then ends_at t.second else None))) (sym (same_number r.second t.second h.ops2 h.asks2 h.second l))
    (by (is_other r.first l) (is_other r.second l)))
  where
    by : (p q : Bool) → NamesStay (if p then ends_at r.first else (if q then ends_at r.second else None)) (if p then ends_at t.first else (if q then ends_at t.second else None))
    by true q = side_names r.first t.first h.ops1 h.asks1 h.first
    by false true = side_names r.second t.second h.ops2 h.asks2 h.second
    by false false = tt

tied_paired : (e f e' f' : Option Ends) → AreTied e f → NamesStay e e' → NamesStay f f' → ArePaired e' f'
tied_paired None None None None t a b = tt
tied_paired None None (Some e') f' t a b = absurd a
tied_paired None None None (Some f') t a b = absurd b
tied_paired None (Some f) e' f' t a b = absurd t
tied_paired (Some e) None e' f' t a b = absurd t
tied_paired (Some e) (Some f) None f' t a b = absurd a
tied_paired (Some e) (Some f) (Some e') None t a b = absurd b
tied_paired (Some e) (Some f) (Some e') (Some f') t a b = (a.0 ∙ (t.0.ring ∙ sym b.1), b.0 ∙ (t.1.ring ∙ sym a.1))

tied_pair : (e f : Option Ends) → AreTied e f → ArePaired e f
tied_pair None None t = tt
tied_pair None (Some f) t = absurd t
tied_pair (Some e) None t = absurd t
tied_pair (Some e) (Some f) t = (t.0.ring, t.1.ring)

-- One look

pub seen_refl : (r : Region) → IsSeen r r
seen_refl r = record { id = refl; part = refl; line = λ l. refl; got = λ l. refl; region = λ n b until x g. g; totals = refl }

pub seen_then : (r s t : Region) → IsSeen r s → IsSeen s t → IsSeen r t
seen_then r s t a b =
    record {
      id = b.id ∙ a.id;
      part = b.part ∙ a.part;
      line = λ l. b.line l ∙ a.line l;
      got = λ l. b.got l ∙ a.got l;
      region = λ n c until x g. b.region n c until x (a.region n c until x g);
      totals = b.totals ∙ a.totals;
    }

pub each_refl : (rs : List Region) → ChangesEach IsSeen rs rs
each_refl rs = record { len = refl; each = λ i d h. seen_refl (slice_index_or rs i d) }

pub each_then : (rs mid rs' : List Region) → ChangesEach IsSeen rs mid → ChangesEach IsSeen mid rs' → ChangesEach IsSeen rs rs'
each_then rs mid rs' a b =
    record {
      len = b.len ∙ a.len;
      each = λ i d h. seen_then (slice_index_or rs i d) (slice_index_or mid i d) (slice_index_or rs' i d) (a.each i d h) (b.each i d (omega (arith, h, a.len)));
    }

looked_seen : (other : ℕ) (r t : Region) → HasLooked other r t → t.totals ≡ r.totals → IsSeen r t
looked_seen other r t h e = record { id = h.id; part = h.part; line = h.line; got = h.got; region = h.region; totals = e }

module _ (rs : List Region) (i j : ℕ) (h : AreLookedAt i j rs) (before : j < i) (inside : i < length rs) where
  pub may_look : (d : Region) → MayLook (slice_index_or rs j d) (slice_index_or rs i d)
  may_look d =
      let one = slice_index_or rs j d in
      let other = slice_index_or rs i d in
      let at_one : slice_get rs j ≡ Some one = slice_get-get_or rs j d (omega (arith, before, inside)) in
      let at_other : slice_get rs i ≡ Some other = slice_get-get_or rs i d inside in
      let one_id : one.id ≡ j = h.id j one at_one in
      let other_id : other.id ≡ i = h.id i other at_other in
      record {
        apart = λ e. omega (arith, before, one_id, other_id, e);
        rings = subst (λ m. ArePaired (ends_with one m) (ends_with other one.id)) (sym other_id)
            (subst (λ m. ArePaired (ends_with one i) (ends_with other m)) (sym one_id)
            (subst (λ o. ArePaired (ends_with one i) (ends_if o j)) at_other
            (subst (λ o. ArePaired (ends_if o i) (ends_of rs i j)) at_one (h.rings j i (λ e. omega (arith, before, e))))));
      }

  module _ (rs' : List Region) (c : ChangesTwo LooksAt rs j i rs') where
    apart : j ≢ i
    apart e = omega (arith, before, e)

    two : (f : Region) × (t : Region) × (f' : Region) × (t' : Region) × IsTwo rs rs' j i f t f' t' × LooksAt f t f' t'
    two = two_changed LooksAt rs j i rs' c apart (omega (arith, before, inside)) inside

    f_id : two.0.id ≡ j
    f_id = h.id j two.0 two.4.old_from

    t_id : two.1.id ≡ i
    t_id = h.id i two.1 two.4.old_to

    other_ends : (a b : ℕ) → ((a ≡ j) → (b ≡ i) → ⊥) → ((a ≡ i) → (b ≡ j) → ⊥) → ends_of rs' a b ≡ ends_of rs a b
    other_ends a b m n =
        elim (eqb_tells a j) [
          | inl p ↦ subst (λ x. ends_of rs' x b ≡ ends_of rs x b) (sym p.1) (ap (λ o. ends_if o b) two.4.new_from ∙ (two.5.first.ends b (λ e. m p.1 (e ∙ t_id)) ∙ sym (ap (λ o. ends_if o b) two.4.old_from)))
          | inr p ↦ elim (eqb_tells a i) [
            | inl q ↦ subst (λ x. ends_of rs' x b ≡ ends_of rs x b) (sym q.1) (ap (λ o. ends_if o b) two.4.new_to ∙ (two.5.second.ends b (λ e. n q.1 (e ∙ f_id)) ∙ sym (ap (λ o. ends_if o b) two.4.old_to)))
            | inr q ↦ ap (λ o. ends_if o b) (two.4.others a p.1 q.1)
          ]
        ]

    tied : AreTied (ends_of rs' j i) (ends_of rs' i j)
    tied =
        subst (λ o. AreTied (ends_if o i) (ends_of rs' i j)) (sym two.4.new_from)
        (subst (λ o. AreTied (ends_with two.2 i) (ends_if o j)) (sym two.4.new_to)
        (subst (λ m. AreTied (ends_with two.2 m) (ends_with two.3 j)) (two.5.second.id ∙ t_id) (subst (λ m. AreTied (ends_with two.2 two.3.id) (ends_with two.3 m)) (two.5.first.id ∙ f_id) two.5.ties)))

    pub look_next : AreLookedAt i (suc j) rs'
    look_next =
        record {
          id = λ k r at.
              elim (eqb_tells k j) [
                | inl p ↦ let is : two.2 ≡ r = same_Some two.2 r (sym two.4.new_from ∙ (ap (slice_get rs') (sym p.1) ∙ at)) in sym (ap (λ (x : Region). x.id) is) ∙ (two.5.first.id ∙ (f_id ∙ sym p.1))
                | inr p ↦ elim (eqb_tells k i) [
                  | inl q ↦ let is : two.3 ≡ r = same_Some two.3 r (sym two.4.new_to ∙ (ap (slice_get rs') (sym q.1) ∙ at)) in sym (ap (λ (x : Region). x.id) is) ∙ (two.5.second.id ∙ (t_id ∙ sym q.1))
                  | inr q ↦ h.id k r (sym (two.4.others k p.1 q.1) ∙ at)
                ]
              ];
          rings = λ a b n.
              elim (eqb_tells a j) [
                | inl p ↦ elim (eqb_tells b i) [
                  | inl q ↦ subst (λ x. ArePaired (ends_of rs' x b) (ends_of rs' b x)) (sym p.1) (subst (λ y. ArePaired (ends_of rs' j y) (ends_of rs' y j)) (sym q.1) (tied_pair (ends_of rs' j i) (ends_of rs' i j) tied))
                  | inr q ↦ plain_rings a b n (λ _ e. q.1 e) (λ e _. apart (sym p.1 ∙ e))
                ]
                | inr p ↦ elim (eqb_tells a i) [
                  | inr q ↦ plain_rings a b n (λ e _. p.1 e) (λ e _. q.1 e)
                  | inl q ↦ elim (eqb_tells b j) [
                    | inl r ↦ subst (λ x. ArePaired (ends_of rs' x b) (ends_of rs' b x)) (sym q.1)
                        (subst (λ y. ArePaired (ends_of rs' i y) (ends_of rs' y i)) (sym r.1) (tied_pair (ends_of rs' i j) (ends_of rs' j i) (tied_back (ends_of rs' j i) (ends_of rs' i j) tied)))
                    | inr r ↦ plain_rings a b n (λ e _. p.1 e) (λ _ e. r.1 e)
                  ]
                ]
              ];
          ties = λ a b lt done.
              elim (eqb_tells a j) [
                | inl p ↦ elim (eqb_tells b i) [
                  | inl q ↦ subst (λ x. AreTied (ends_of rs' x b) (ends_of rs' b x)) (sym p.1) (subst (λ y. AreTied (ends_of rs' j y) (ends_of rs' y j)) (sym q.1) tied)
                  | inr q ↦ plain_ties a b lt (elim done [ inl d ↦ inl d | inr d ↦ absurd (q.1 d.0) ]) (λ _ e. q.1 e) (λ e _. apart (sym p.1 ∙ e))
                ]
                | inr p ↦ plain_ties a b lt (elim done [ inl d ↦ inl d | inr d ↦ inr (d.0, omega (arith, d.1, p.1)) ]) (λ e _. p.1 e) (λ e g. omega (arith, lt, before, e, g))
              ];
        }
      where
        plain_rings : (a b : ℕ) → a ≢ b → ((a ≡ j) → (b ≡ i) → ⊥) → ((a ≡ i) → (b ≡ j) → ⊥) → ArePaired (ends_of rs' a b) (ends_of rs' b a)
        plain_rings a b n m l = subst (λ x. ArePaired x (ends_of rs' b a)) (sym (other_ends a b m l)) (subst (λ x. ArePaired (ends_of rs a b) x) (sym (other_ends b a (λ e d. l d e) (λ e d. m d e))) (h.rings a b n))

        plain_ties : (a b : ℕ) → a < b → (b < i) ⊎ ((b ≡ i) × (a < j)) → ((a ≡ j) → (b ≡ i) → ⊥) → ((a ≡ i) → (b ≡ j) → ⊥) → AreTied (ends_of rs' a b) (ends_of rs' b a)
        plain_ties a b lt done m l = subst (λ x. AreTied x (ends_of rs' b a)) (sym (other_ends a b m l)) (subst (λ x. AreTied (ends_of rs a b) x) (sym (other_ends b a (λ e d. l d e) (λ e d. m d e))) (h.ties a b lt done))

    pub look_seen : ChangesEach IsSeen rs rs'
    look_seen =
        record {
          len = c.len;
          each = λ k d inside_k.
              elim (eqb_tells k j) [
                | inl p ↦ let l = c.they d in subst (λ x. IsSeen (slice_index_or rs x d) (slice_index_or rs' x d)) (sym p.1) (looked_seen (slice_index_or rs i d).id (slice_index_or rs j d) (slice_index_or rs' j d) l.first l.first_totals)
                | inr p ↦ elim (eqb_tells k i) [
                  | inl q ↦ let l = c.they d in subst (λ x. IsSeen (slice_index_or rs x d) (slice_index_or rs' x d)) (sym q.1) (looked_seen (slice_index_or rs j d).id (slice_index_or rs i d) (slice_index_or rs' i d) l.second l.second_totals)
                  | inr q ↦ subst (λ x. IsSeen (slice_index_or rs k d) x) (sym (c.others k d p.1 q.1)) (seen_refl (slice_index_or rs k d))
                ]
              ];
        }

-- the rings of the regions below i, and those of i with all before it
pub row_next : (rs : List Region) (i : ℕ) → AreLookedAt i i rs → AreLookedAt (suc i) 0 rs
row_next rs i h =
    record {
      id = h.id;
      rings = h.rings;
      ties = λ a b lt done. h.ties a b lt (elim (eqb_tells b i) [
        | inl p ↦ inr (p.1, omega (arith, lt, p.1))
        | inr p ↦ inl (elim done [ inl d ↦ omega (arith, d, p.1) | inr d ↦ absurd (omega (arith, d.1)) ])
      ]);
    }

-- The turns

module _ (v : CrewView) (ready : IsReady v) where
  pub may_turn : ((i : ℕ) (d : Region) → i < length v.regions → HasSpare (2 * v.quota) (slice_index_or v.regions i d)) → (i : ℕ) (d : Region) → i < length v.regions → MayTurn v.network v.bands v.until v.quota (slice_index_or v.regions i d)
  may_turn spare i d h =
      record {
        base = base_at v ready.past ready.base i;
        region = (ready.crew.region i (slice_index_or v.regions i d) (slice_get-get_or v.regions i d h)).0;
        spare = spare i d h;
      }

  module _ (rs1 : List Region) (turned : ChangesEach (HasTurned v.network v.bands v.until v.quota) v.regions rs1) where
    turn_at : (i : ℕ) (r t : Region) → slice_get v.regions i ≡ Some r → slice_get rs1 i ≡ Some t → HasTurned v.network v.bands v.until v.quota r t
    turn_at = each_changed (HasTurned v.network v.bands v.until v.quota) v.regions rs1 turned

    is_turn : (i : ℕ) (r t : Region) (a : slice_get v.regions i ≡ Some r) (b : slice_get rs1 i ≡ Some t) → IsTurn v.network v.bands v.until (base_at v ready.past ready.base i) v.quota r t (turn_at i r t a b).answer
    is_turn i r t a b = (turn_at i r t a b).turn (base_at v ready.past ready.base i) (ready.crew.region i r a).0

    names : (i l : ℕ) → NamesStay (ends_of v.regions i l) (ends_of rs1 i l)
    names i l =
        elim (both_there v.regions rs1 turned.len i) [
          | inl m ↦
              let q = is_turn i m.0 m.1 m.2 m.3 in
              subst (λ o. NamesStay (ends_if o l) (ends_of rs1 i l)) (sym m.2) (subst (λ o. NamesStay (ends_with m.0 l) (ends_if o l)) (sym m.3)
              (turn_names v.network v.bands v.until (base_at v ready.past ready.base i) v.quota m.0 m.1 (turn_at i m.0 m.1 m.2 m.3).answer q l))
          | inr m ↦ subst (λ o. NamesStay (ends_if o l) (ends_of rs1 i l)) (sym m.0) (subst (λ o. NamesStay None (ends_if o l)) (sym m.1) tt)
        ]

    pub may_look_at : AreLookedAt 0 0 rs1
    may_look_at =
        record {
          id = λ k t at. elim (both_there v.regions rs1 turned.len k) [
            | inl m ↦ let is : m.1 ≡ t = same_Some m.1 t (sym m.3 ∙ at) in sym (ap (λ (x : Region). x.id) is) ∙ ((is_turn k m.0 m.1 m.2 m.3).run.id ∙ (ready.crew.region k m.0 m.2).1)
            | inr m ↦ absurd (Rattle.std.proofs.lemmas.Option.none-some t (sym m.1 ∙ at))
          ];
          rings = λ a b n. tied_paired (ends_of v.regions a b) (ends_of v.regions b a) (ends_of rs1 a b) (ends_of rs1 b a) (ready.crew.ties a b n) (names a b) (names b a);
          ties = λ a b lt done. absurd (elim done [ inl d ↦ omega (arith, d) | inr d ↦ omega (arith, d.1) ]);
        }

    module _ (rs2 : List Region) (looked : AreLookedAt (length rs1) 0 rs2) (seen : ChangesEach IsSeen rs1 rs2) where
      mid : (i : ℕ) (r t : Region) → slice_get v.regions i ≡ Some r → slice_get rs2 i ≡ Some t → (m : Region) × (slice_get rs1 i ≡ Some m) × IsSeen m t
      mid i r t a b =
          elim (both_there v.regions rs1 turned.len i) [
            | inl m ↦ (m.1, m.3, each_changed IsSeen rs1 rs2 seen i m.1 t m.3 b)
            | inr m ↦ absurd (Rattle.std.proofs.lemmas.Option.none-some r (sym m.0 ∙ a))
          ]

      worked : (i : ℕ) (r t : Region) → slice_get v.regions i ≡ Some r → slice_get rs2 i ≡ Some t → Worked v.network v.bands v.until (base_at v ready.past ready.base i) r t
      worked i r t a b =
          let m = mid i r t a b in
          let x = base_at v ready.past ready.base i in
          let w = turn_worked v.network v.bands v.until x v.quota r m.0 (turn_at i r m.0 a m.1).answer (is_turn i r m.0 a m.1) in
          record {
            steps = w.steps;
            run = record {
              id = m.2.id ∙ w.run.id;
              may = w.run.may;
              part = m.2.part ∙ w.run.part;
              puts = λ l. m.2.line l ∙ w.run.puts l;
              facts = subst (λ (p : Part). IsRun (world_in v) x.surface.sites x.floor r.id (part_of r) p (run_takes w.steps) (run_puts (world_in v) x.floor r.id (part_of r) w.steps)) (sym m.2.part) w.run.facts;
              region = m.2.region v.network v.bands v.until x w.run.region;
            };
            received = λ l. m.2.got l ∙ w.received l;
          }

      no_ends : (e : Option Ends) → ArePaired e None → AreTied e None
      no_ends None p = tt
      no_ends (Some e) p = absurd p

      low_ties : (a b : ℕ) → a < b → AreTied (ends_of rs2 a b) (ends_of rs2 b a)
      low_ties a b lt =
          elim (cases_Bool (nat_lt b (length rs1))) [
            | inl p ↦ looked.ties a b lt (inl (ltb-true b (length rs1) p))
            | inr p ↦
                let none : slice_get rs2 b ≡ None = slice_get_past rs2 b (omega (arith, ltb-false b (length rs1) p, seen.len)) in
                subst (λ o. AreTied (ends_of rs2 a b) (ends_if o a)) (sym none) (no_ends (ends_of rs2 a b) (subst (λ o. ArePaired (ends_of rs2 a b) (ends_if o a)) none (looked.rings a b (λ e. omega (arith, lt, e)))))
          ]

      all_worked : AllWorked v ready.past ready.base rs2
      all_worked =
          record {
            len = seen.len ∙ turned.len;
            each = worked;
            ties = λ a b n.
                elim (cases_Bool (nat_lt a b)) [
                  | inl p ↦ low_ties a b (ltb-true a b p)
                  | inr p ↦ tied_back (ends_of rs2 b a) (ends_of rs2 a b) (low_ties b a (omega (arith, ltb-false a b p, n)))
                ];
          }

      pub work_ready : IsReady (record v { regions = rs2 })
      work_ready = ready_with v ready rs2 (crew_joined v ready.past ready.base rs2 ready.crew all_worked) (consistent_joined v ready.past ready.base rs2 ready.crew all_worked ready.consistent)
          (untold_joined v ready.past ready.base rs2 ready.crew all_worked ready.untold)
          (each_balanced v.regions rs2 _ (seen.len ∙ turned.len)
          (λ i n r t a b bal.
          let m = mid i r t a b in
          let q = turn_at i r m.0 a m.1 in
          same_balance n m.0 t m.2.totals m.2.part (turned_balance n r m.0 q.answer q.totals (is_turn i r m.0 a m.1).length bal)) ready.balanced)

      whole_of : (x : Base) (r t : Region) (turn : Turn) → IsTurn v.network v.bands v.until x v.quota r t turn → IsWhole v.quota turn
      whole_of x r t turn h =
          record {
            added = elim (cases_Bool turn.empty) [
              | inl e ↦ elim (eqb_tells turn.added v.quota) [ inl p ↦ inl p.1 | inr p ↦ inr (e, omega (arith, h.added, p.1)) ]
              | inr e ↦ inl (h.whole e)
            ];
            uncut = h.uncut;
          }

      pub have_worked : HaveWorked v.quota v.regions rs2
      have_worked =
          record {
            len = seen.len ∙ turned.len;
            turns = λ i r t a b. let m = mid i r t a b in ap (λ (x : Totals). x.turns) (m.2.totals ∙ (turn_at i r m.0 a m.1).totals);
            whole = λ i t b. elim (both_there v.regions rs2 (seen.len ∙ turned.len) i) [
              | inl q ↦
                  let m = mid i q.0 t q.2 b in
                  subst (IsWhole v.quota) (sym (ap (λ (x : Totals). x.last_turn) (m.2.totals ∙ (turn_at i q.0 m.0 q.2 m.1).totals)))
                  (whole_of (base_at v ready.past ready.base i) q.0 m.0 (turn_at i q.0 m.0 q.2 m.1).answer (is_turn i q.0 m.0 q.2 m.1))
              | inr q ↦ absurd (Rattle.std.proofs.lemmas.Option.none-some t (sym q.1 ∙ b))
            ];
          }

  -- Room was made in all regions

  module _ (rs' : List Region) (made : ChangesEach HasRoomMade v.regions rs') where
    made_at : (i : ℕ) (r t : Region) → slice_get v.regions i ≡ Some r → slice_get rs' i ≡ Some t → HasRoomMade r t
    made_at = each_changed HasRoomMade v.regions rs' made

    same_part : (k : ℕ) → parts_of rs' k ≡ parts_of v.regions k
    same_part k =
        elim (both_there v.regions rs' made.len k) [
          | inl m ↦ ap part_if m.3 ∙ ((made_at k m.0 m.1 m.2 m.3).same.part ∙ sym (ap part_if m.2))
          | inr m ↦ ap part_if m.1 ∙ sym (ap part_if m.0)
        ]

    same_line : (k l : ℕ) → lines_of rs' k l ≡ lines_of v.regions k l
    same_line k l =
        elim (both_there v.regions rs' made.len k) [
          | inl m ↦ ap (λ o. line_if o l) m.3 ∙ ((made_at k m.0 m.1 m.2 m.3).same.line l ∙ sym (ap (λ o. line_if o l) m.2))
          | inr m ↦ ap (λ o. line_if o l) m.1 ∙ sym (ap (λ o. line_if o l) m.0)
        ]

    same_ends : (k l : ℕ) → ends_of rs' k l ≡ ends_of v.regions k l
    same_ends k l =
        elim (both_there v.regions rs' made.len k) [
          | inl m ↦ ap (λ o. ends_if o l) m.3 ∙ ((made_at k m.0 m.1 m.2 m.3).same.ends l ∙ sym (ap (λ o. ends_if o l) m.2))
          | inr m ↦ ap (λ o. ends_if o l) m.1 ∙ sym (ap (λ o. ends_if o l) m.0)
        ]

    pub prepared_core : core_in (record v { regions = rs' }) ≡ core_in v
    prepared_core = λ e. core_from (world_in v) v.horizon (λ k. same_part k e) (λ k l. same_line k l e) (λ k l. received_by (same_ends k l e))

    pub prepared_ready : IsReady (record v { regions = rs' })
    prepared_ready =
        ready_with v ready rs' (record {
          count = made.len ∙ ready.crew.count;
          cut = ready.crew.cut;
          lattice = ready.crew.lattice;
          short = ready.crew.short;
          region = λ i t at.
              elim (both_there v.regions rs' made.len i) [
                | inl m ↦
                    let is : m.1 ≡ t = same_Some m.1 t (sym m.3 ∙ at) in
                    let g = ready.crew.region i m.0 m.2 in
                    let s = (made_at i m.0 m.1 m.2 m.3).same in
                    subst (λ y. IsRegion v.network v.bands v.until (base_at v ready.past ready.base i) y × (y.id ≡ i)) is (s.region v.network v.bands v.until (base_at v ready.past ready.base i) g.0, s.id ∙ g.1)
                | inr m ↦ absurd (Rattle.std.proofs.lemmas.Option.none-some t (sym m.1 ∙ at))
              ];
          agree = ready.crew.agree;
          ties = λ a b n. subst (λ x. AreTied x (ends_of rs' b a)) (sym (same_ends a b)) (subst (λ x. AreTied (ends_of v.regions a b) x) (sym (same_ends b a)) (ready.crew.ties a b n));
        })
        (subst (λ (k : Core). IsConsistent (world_in v) k) (sym prepared_core) ready.consistent)
        (subst (λ (k : Core). AreUntoldEmpty (world_in v) k) (sym prepared_core) ready.untold)
        (each_balanced v.regions rs' _ made.len (λ i n r t a b bal. let m = made_at i r t a b in same_balance n r t m.totals m.same.part bal) ready.balanced)

    pub prepared_rest : rest_of (record v { regions = rs' }) ≡ rest_of v
    prepared_rest = rest_is v rs' (each_turns v.regions rs' made.len (λ i r t a b. ap (λ (x : Totals). (x.turns, x.last_turn)) (made_at i r t a b).totals))
