-- Messages between two regions, and rings that are looked at.
use Rattle.std.proofs.Common.{◌≡◌, ◌≢◌, ℕ, ◌<◌, ◌==◌, Bool, true, false, List, [], ◌∷◌, ◌++◌, length, drop, refl, sym, ap, ◌∙◌, subst, arith, append_assoc, Option, Some, None, cond, inl, inr}
use Rattle.std.specs.Prelude.{IfSome, MatchBool}
use Rattle.std.proofs.Math.Seq.{drop-append_seam}
use Rattle.std.proofs.lemmas.Bool.{both_ways, cases_Bool, eq-eqb, eqb-true}
use Rattle.std.proofs.lemmas.Option.{none-some}
use Rattle.plan.specs.Network.{Network}
use Rattle.regions.specs.Bands.{Bands}
use Rattle.border.specs.declared.op.Op.{Op}
use Rattle.border.specs.Ends.{OutView, InView, after_take}
use Rattle.warp_core.specs.Parts.{Part, PartStep, MayStep, IsRun, part_after, step_puts, run_takes, run_puts}
use Rattle.region_run.specs.declared.region.Region.{Region}
use Rattle.region_run.specs.declared.side.Ends.{Ends}
use Rattle.region_run.specs.Sides.{SideView, is_other, number_of, ends_of, line_of, received_by, one}
use Rattle.region_run.specs.Regions.{Base, world_at, part_of, line_in, ends_in, line_to, ends_with, IsRegion}
use Rattle.region_run.specs.Runs.{HasSpare, SameSide, SameRings, MakesStep}
use Rattle.region_run.specs.Channels.{AreTied, IsOneRing, channel}
use Rattle.region_run.specs.Deliveries.{IsBut, IsSender, IsDelivery, IsNoDelivery, HasLooked}
use Rattle.region_run.specs.Between.{ring_rest, RingGives, KnowRing, side_for, channel_between, IsStill, TakesFirst, KnowRings, IsLookedAt, Meets, HasChanged}
use Rattle.region_run.proofs.Renumbered.{renumbered, stacks_still}
use Rattle.region_run.proofs.Applies.{same_part}

-- one ring

-- what is left of a ring whose sent messages are known
rest_is : (o : OutView) (i : InView) (ws : List Op) → i.received ++ ws ≡ o.sent → ring_rest o i ≡ ws
rest_is o i ws h = ap (drop (length i.received)) (sym h) ∙ drop-append_seam i.received ws

ring_with : (o : OutView) (i : InView) (ws : List Op) → o.ring ≡ i.ring → i.received ++ ws ≡ o.sent → IsOneRing o i
ring_with o i ws r h = record { ring = r; received = ap (λ l. i.received ++ l) (rest_is o i ws h) ∙ h }

module _ (e f : Ends) (out1 : OutView) (inn1 : InView) (ring : e.out.ring ≡ f.inn.ring) (so : out1 ≡ record e.out { free = out1.free }) (si : inn1 ≡ record f.inn { ahead = inn1.ahead }) (all : inn1.received ++ inn1.ahead ≡ out1.sent) where
  received : inn1.received ≡ f.inn.received
  received = ap (λ (i : InView). i.received) si

  sent : out1.sent ≡ e.out.sent
  sent = ap (λ (o : OutView). o.sent) so

  out_ring : out1.ring ≡ e.out.ring
  out_ring = ap (λ (o : OutView). o.ring) so

  in_ring : inn1.ring ≡ f.inn.ring
  in_ring = ap (λ (i : InView). i.ring) si

  all_before : f.inn.received ++ inn1.ahead ≡ e.out.sent
  all_before = ap (λ l. l ++ inn1.ahead) (sym received) ∙ (all ∙ sent)

  taken : (op : Op) (rest : List Op) (inn2 : InView) → inn1.ahead ≡ op ∷ rest → inn2 ≡ after_take inn1 op → RingGives e f (Some op) (record e { out = out1 }) (record f { inn = inn2 })
  taken op rest inn2 q a =
      let now : inn2.received ≡ inn1.received ++ op ∷ [] = ap (λ (i : InView). i.received) a in
      let all2 : inn2.received ++ rest ≡ out1.sent = ap (λ l. l ++ rest) now ∙ (append_assoc inn1.received (op ∷ []) rest ∙ (ap (λ l. inn1.received ++ l) (sym q) ∙ all)) in
      record {
        inn = refl;
        out = refl;
        sent = sent;
        ring = out_ring;
        tied = ring_with out1 inn2 rest (out_ring ∙ (ring ∙ sym (ap (λ (i : InView). i.ring) a ∙ in_ring))) all2;
        first = rest_is e.out f.inn inn1.ahead all_before ∙ (q ∙ ap (λ l. op ∷ l) (sym (rest_is out1 inn2 rest all2)));
        none = λ h. absurd (none-some op (sym h));
      }

  -- one waits
  pub gives : (o : Option Op) (inn2 : InView) → 0 < length inn1.ahead → ((op : Op) (rest : List Op) → inn1.ahead ≡ op ∷ rest → o ≡ Some op) → IfSome o (λ op. inn2 ≡ after_take inn1 op)
      → RingGives e f o (record e { out = out1 }) (record f { inn = inn2 })
  gives o inn2 more first some = by (inn1.ahead) refl
    where
      by : (l : List Op) → inn1.ahead ≡ l → RingGives e f o (record e { out = out1 }) (record f { inn = inn2 })
      by [] q = absurd (omega (arith, more, ap (λ (l : List Op). length l) q))
      by (op ∷ rest) q =
          let is = first op rest q in
          subst (λ x. RingGives e f x (record e { out = out1 }) (record f { inn = inn2 })) (sym is) (taken op rest inn2 q (subst (λ x. IfSome x (λ p. inn2 ≡ after_take inn1 p)) is some))

-- the rings between two regions

known_ring : (o : OutView) (i : InView) → KnowRing o i → IsOneRing o i
known_ring o i k = ring_with o i i.ahead k.ring k.waiting

pub known_tied : (e f : Option Ends) → KnowRings e f → AreTied e f
known_tied None None k = tt
known_tied (Some e) (Some f) k = (known_ring e.out f.inn k.0, known_ring f.out e.inn k.1)
known_tied None (Some f) k = absurd k
known_tied (Some e) None k = absurd k

still_self : (s : Option SideView) → IsStill s s
still_self s = record { number = refl; room = λ m h. h }

-- what a region has of one neighbour

abbrev is_number : Option ℕ → ℕ → Bool
is_number None l = false
is_number (Some n) l = n == l

other_number : (s : Option SideView) (l : ℕ) → is_other s l ≡ is_number (number_of s) l
other_number None l = refl
other_number (Some s) l = refl

still_other : (s t : Option SideView) → IsStill s t → (l : ℕ) → is_other t l ≡ is_other s l
still_other s t h l = other_number t l ∙ (ap (λ o. is_number o l) h.number ∙ sym (other_number s l))

-- a neighbour has one number
one_number : (s : Option SideView) (l k : ℕ) → is_other s l ≡ true → k ≢ l → is_other s k ≡ false
one_number None l k h n = refl
one_number (Some s) l k h n =
    elim (cases_Bool (s.other == k)) [
      | inl q ↦ absurd (n (sym (eqb-true s.other k q) ∙ eqb-true s.other l h))
      | inr q ↦ q
    ]

line_for : (first second : Option SideView) (l : ℕ) → line_in first second l ≡ line_of (side_for first second l)
line_for first second l = go (is_other first l) (is_other second l)
  where
    go : (b c : Bool) → cond b (line_of first) (cond c (line_of second) []) ≡ line_of (cond b first (cond c second None))
    go true c = refl
    go false true = refl
    go false false = refl

ends_for : (first second : Option SideView) (l : ℕ) → ends_in first second l ≡ ends_of (side_for first second l)
ends_for first second l = go (is_other first l) (is_other second l)
  where
    go : (b c : Bool) → cond b (ends_of first) (cond c (ends_of second) None) ≡ ends_of (cond b first (cond c second None))
    go true c = refl
    go false true = refl
    go false false = refl

pub record Changed (R : Option SideView → Option SideView → Type 0) (l : ℕ) (old new : Region) : Type 0 where
  pub same : new ≡ record old { first = new.first; second = new.second }
  pub first : IsStill old.first new.first
  pub second : IsStill old.second new.second
  pub here : R (side_for old.first old.second l) (side_for new.first new.second l)
  pub there : (k : ℕ) → k ≢ l → side_for new.first new.second k ≡ side_for old.first old.second k

module _ (R : Option SideView → Option SideView → Type 0) (l : ℕ) (old new : Region) (still : (s t : Option SideView) → R s t → IsStill s t) where
  first_changed : is_other old.first l ≡ true → new ≡ record old { first = new.first } → R old.first new.first → Changed R l old new
  first_changed p is r =
      let second : new.second ≡ old.second = ap (λ (y : Region). y.second) is in
      let f : IsStill old.first new.first = still old.first new.first r in
      record {
        same = is ∙ ap (λ (s : Option SideView). record old { first = new.first; second = s }) (sym second);
        first = f;
        second = subst (IsStill old.second) (sym second) (still_self old.second);
        here = subst (λ u. R (cond u old.first (cond (is_other old.second l) old.second None)) (side_for new.first new.second l)) (sym p)
            (subst (λ u. R old.first (cond u new.first (cond (is_other new.second l) new.second None))) (sym (still_other old.first new.first f l ∙ p)) r);
        there = λ k n.
            let none : is_other old.first k ≡ false = one_number old.first l k p n in
            ap (λ u. cond u new.first (cond (is_other new.second k) new.second None)) (still_other old.first new.first f k ∙ none)
            ∙ (ap (λ (s : Option SideView). cond (is_other s k) s None) second
            ∙ ap (λ u. cond u old.first (cond (is_other old.second k) old.second None)) (sym none));
      }

  second_changed : is_other old.first l ≡ false → is_other old.second l ≡ true → new ≡ record old { second = new.second } → R old.second new.second → Changed R l old new
  second_changed p q is r =
      let first : new.first ≡ old.first = ap (λ (y : Region). y.first) is in
      let s : IsStill old.second new.second = still old.second new.second r in
      record {
        same = is ∙ ap (λ (o : Option SideView). record old { first = o; second = new.second }) (sym first);
        first = subst (IsStill old.first) (sym first) (still_self old.first);
        second = s;
        here = subst (λ o. R (side_for old.first old.second l) (side_for o new.second l)) (sym first)
            (subst (λ u. R (cond u old.first (cond (is_other old.second l) old.second None)) (cond u old.first (cond (is_other new.second l) new.second None))) (sym p)
            (subst (λ u. R (cond u old.second None) (cond (is_other new.second l) new.second None)) (sym q)
            (subst (λ u. R old.second (cond u new.second None)) (sym (still_other old.second new.second s l ∙ q)) r)));
        there = λ k n.
            let none : is_other old.second k ≡ false = one_number old.second l k q n in
            ap (λ o. side_for o new.second k) first
            ∙ (ap (λ u. cond (is_other old.first k) old.first (cond u new.second None)) (still_other old.second new.second s k ∙ none)
            ∙ ap (λ u. cond (is_other old.first k) old.first (cond u old.second None)) (sym none));
      }

  none_changed : is_other old.first l ≡ false → is_other old.second l ≡ false → new ≡ old → R None None → Changed R l old new
  none_changed p q is r =
      subst (Changed R l old) (sym is)
      (record {
        same = refl;
        first = still_self old.first;
        second = still_self old.second;
        here = subst (λ o. R o o) (sym (ap (λ u. cond u old.first (cond (is_other old.second l) old.second None)) p ∙ ap (λ u. cond u old.second None) q)) r;
        there = λ k n. refl;
      })

  pub changed : HasChanged R l old new → Changed R l old new
  changed h =
      elim (cases_Bool (is_other old.first l)) [
        | inl p ↦
            let m = subst (λ u. MatchBool u ((new ≡ record old { first = new.first }) × R old.first new.first) (MatchBool (is_other old.second l) ((new ≡ record old { second = new.second }) × R old.second new.second) ((new ≡ old) × R None None))) p h in
            first_changed p m.0 m.1
        | inr p ↦
            let rest = subst (λ u. MatchBool u ((new ≡ record old { first = new.first }) × R old.first new.first) (MatchBool (is_other old.second l) ((new ≡ record old { second = new.second }) × R old.second new.second) ((new ≡ old) × R None None))) p h in
            elim (cases_Bool (is_other old.second l)) [
              | inl q ↦
                  let m = subst (λ u. MatchBool u ((new ≡ record old { second = new.second }) × R old.second new.second) ((new ≡ old) × R None None)) q rest in
                  second_changed p q m.0 m.1
              | inr q ↦
                  let m = subst (λ u. MatchBool u ((new ≡ record old { second = new.second }) × R old.second new.second) ((new ≡ old) × R None None)) q rest in
                  none_changed p q m.0 m.1
            ]
      ]

-- there are two of which it holds
pub some_changed : (R : Option SideView → Option SideView → Type 0) (l : ℕ) (old new : Region) → HasChanged R l old new → (s : Option SideView) × (t : Option SideView) × R s t
some_changed R l old new h = go (is_other old.first l) (is_other old.second l) h
  where
    go : (b c : Bool) → MatchBool b ((new ≡ record old { first = new.first }) × R old.first new.first) (MatchBool c ((new ≡ record old { second = new.second }) × R old.second new.second) ((new ≡ old) × R None None)) → (s : Option SideView) × (t : Option SideView) × R s t
    go true c h = (old.first, new.first, h.1)
    go false true h = (old.second, new.second, h.1)
    go false false h = (None, None, h.1)

-- a region of which two neighbours are still the same
module _ (old new : Region) (same : new ≡ record old { first = new.first; second = new.second }) (first : IsStill old.first new.first) (second : IsStill old.second new.second) where
  pub part_still : part_of new ≡ part_of old
  part_still = ap part_of same ∙ same_part (part_of (record old { first = new.first; second = new.second })) (part_of old) refl refl (stacks_still old.first old.second new.first new.second old.stacks (still_other old.first new.first first) (still_other old.second new.second second))

  pub region_still : (n : Network) (b : Bands) (until : ℕ) (x : Base) → IsRegion n b until x old → IsRegion n b until x new
  region_still n b until x g = subst (IsRegion n b until x) (sym same) (renumbered n b until x old new.first new.second (still_other old.first new.first first) (still_other old.second new.second second) g)

  pub spare_still : (m : ℕ) → HasSpare m old → HasSpare m new
  spare_still m h = subst (HasSpare m) (sym same) (record { timeline = h.timeline; changes = h.changes; stacks = h.stacks; first = first.room m h.first; second = second.room m h.second })

  pub id_still : new.id ≡ old.id
  id_still = ap (λ (y : Region). y.id) same

  pub totals_still : new.totals ≡ old.totals
  totals_still = ap (λ (y : Region). y.totals) same

module _ (R : Option SideView → Option SideView → Type 0) (l : ℕ) (old new : Region) (c : Changed R l old new) where
  line_there : (k : ℕ) → k ≢ l → line_to new k ≡ line_to old k
  line_there k n = line_for new.first new.second k ∙ (ap line_of (c.there k n) ∙ sym (line_for old.first old.second k))

  ends_there : (k : ℕ) → k ≢ l → ends_with new k ≡ ends_with old k
  ends_there k n = ends_for new.first new.second k ∙ (ap ends_of (c.there k n) ∙ sym (ends_for old.first old.second k))

  but_one : IsBut l old new
  but_one = record { id = id_still old new c.same c.first c.second; line = line_there; ends = ends_there }

  line_here : line_of (side_for new.first new.second l) ≡ line_of (side_for old.first old.second l) → (k : ℕ) → line_to new k ≡ line_to old k
  line_here is k =
      elim (cases_Bool (k == l)) [
        | inl q ↦ subst (λ m. line_to new m ≡ line_to old m) (sym (eqb-true k l q)) (line_for new.first new.second l ∙ (is ∙ sym (line_for old.first old.second l)))
        | inr q ↦ line_there k (λ e. both_ways (k == l) q (eq-eqb k l e))
      ]

  got_here : received_by (ends_of (side_for new.first new.second l)) ≡ received_by (ends_of (side_for old.first old.second l)) → (k : ℕ) → received_by (ends_with new k) ≡ received_by (ends_with old k)
  got_here is k =
      elim (cases_Bool (k == l)) [
        | inl q ↦ subst (λ m. received_by (ends_with new m) ≡ received_by (ends_with old m)) (sym (eqb-true k l q)) (ap received_by (ends_for new.first new.second l) ∙ (is ∙ sym (ap received_by (ends_for old.first old.second l))))
        | inr q ↦ ap received_by (ends_there k (λ e. both_ways (k == l) q (eq-eqb k l e)))
      ]

  looked : IsLookedAt (side_for old.first old.second l) (side_for new.first new.second l) → HasLooked l old new
  looked k = record { id = id_still old new c.same c.first c.second; part = part_still old new c.same c.first c.second; line = line_here k.line; got = got_here k.got; ends = ends_there; region = region_still old new c.same c.first c.second }

-- the first message of the channel was taken

module _ (from to from' to' : Region) (o : Option Op) (h : HasChanged (λ s s'. HasChanged (λ t t'. TakesFirst s t o s' t') from.id to to') to.id from from') where
  sent_by_one : Changed (λ s s'. HasChanged (λ t t'. TakesFirst s t o s' t') from.id to to') to.id from from'
  sent_by_one = changed (λ s s'. HasChanged (λ t t'. TakesFirst s t o s' t') from.id to to') to.id from from' (λ s s' k. (some_changed (λ t t'. TakesFirst s t o s' t') from.id to to' k).2.sender) h

  got_by_other : Changed (λ t t'. TakesFirst (side_for from.first from.second to.id) t o (side_for from'.first from'.second to.id) t') from.id to to'
  got_by_other = changed (λ t t'. TakesFirst (side_for from.first from.second to.id) t o (side_for from'.first from'.second to.id) t') from.id to to' (λ t t' k. k.receiver) sent_by_one.here

  took : TakesFirst (side_for from.first from.second to.id) (side_for to.first to.second from.id) o (side_for from'.first from'.second to.id) (side_for to'.first to'.second from.id)
  took = got_by_other.here

  pub sender_id : from'.id ≡ from.id
  sender_id = id_still from from' sent_by_one.same sent_by_one.first sent_by_one.second

  pub receiver_id : to'.id ≡ to.id
  receiver_id = id_still to to' got_by_other.same got_by_other.first got_by_other.second

  pub sender_spare : (m : ℕ) → HasSpare m from → HasSpare m from'
  sender_spare = spare_still from from' sent_by_one.same sent_by_one.first sent_by_one.second

  pub receiver_spare : (m : ℕ) → HasSpare m to → HasSpare m to'
  receiver_spare = spare_still to to' got_by_other.same got_by_other.first got_by_other.second

  pub receiver_totals : to'.totals ≡ to.totals
  receiver_totals = totals_still to to' got_by_other.same got_by_other.first got_by_other.second

  pub receiver_board : to'.board ≡ to.board
  receiver_board = ap (λ (y : Region). y.board) got_by_other.same

  pub receiver_part : part_of to' ≡ part_of to
  receiver_part = part_still to to' got_by_other.same got_by_other.first got_by_other.second

  pub receiver_region : (n : Network) (b : Bands) (until : ℕ) (x : Base) → IsRegion n b until x to → IsRegion n b until x to'
  receiver_region = region_still to to' got_by_other.same got_by_other.first got_by_other.second

  pub receiver_line : (k : ℕ) → line_to to' k ≡ line_to to k
  receiver_line = line_here (λ t t'. TakesFirst (side_for from.first from.second to.id) t o (side_for from'.first from'.second to.id) t') from.id to to' got_by_other took.line

  pub receiver_but : IsBut from.id to to'
  receiver_but = but_one (λ t t'. TakesFirst (side_for from.first from.second to.id) t o (side_for from'.first from'.second to.id) t') from.id to to' got_by_other

  pub is_sender : IsSender to.id from from'
  is_sender = record {
    but = but_one (λ s s'. HasChanged (λ t t'. TakesFirst s t o s' t') from.id to to') to.id from from' sent_by_one;
    part = part_still from from' sent_by_one.same sent_by_one.first sent_by_one.second;
    got = ap received_by (ends_for from'.first from'.second to.id) ∙ (took.got ∙ sym (ap received_by (ends_for from.first from.second to.id)));
    region = region_still from from' sent_by_one.same sent_by_one.first sent_by_one.second;
  }

  channel_before : channel from to ≡ channel_between (side_for from.first from.second to.id) (side_for to.first to.second from.id)
  channel_before = ap (λ e. drop (length (received_by e)) (line_to from to.id)) (ends_for to.first to.second from.id) ∙ ap (drop (length (received_by (ends_of (side_for to.first to.second from.id))))) (line_for from.first from.second to.id)

  channel_after : channel from' to' ≡ channel_between (side_for from'.first from'.second to.id) (side_for to'.first to'.second from.id)
  channel_after =
      ap (λ k. drop (length (received_by (ends_with to' k))) (line_to from' to'.id)) sender_id
      ∙ (ap (λ k. drop (length (received_by (ends_with to' from.id))) (line_to from' k)) receiver_id
      ∙ (ap (λ e. drop (length (received_by e)) (line_to from' to.id)) (ends_for to'.first to'.second from.id)
      ∙ ap (drop (length (received_by (ends_of (side_for to'.first to'.second from.id))))) (line_for from'.first from'.second to.id)))

  pub channel_first : channel from to ≡ one o ++ channel from' to'
  channel_first = channel_before ∙ (took.first ∙ ap (λ l. one o ++ l) (sym channel_after))

  pub still_tied : AreTied (ends_with from' to.id) (ends_with to' from.id)
  still_tied = subst (λ e. AreTied e (ends_with to' from.id)) (sym (ends_for from'.first from'.second to.id)) (subst (AreTied (ends_of (side_for from'.first from'.second to.id))) (sym (ends_for to'.first to'.second from.id)) took.ties)

  pub channel_empty : o ≡ None → channel from' to' ≡ []
  channel_empty n = channel_after ∙ took.none n

-- there was none
pub not_delivered : (from to from' to' : Region) → HasChanged (λ s s'. HasChanged (λ t t'. TakesFirst s t None s' t') from.id to to') to.id from from' → IsNoDelivery from to from' to'
not_delivered from to from' to' h =
    record {
      sender = is_sender from to from' to' None h;
      receiver = receiver_but from to from' to' None h;
      line = receiver_line from to from' to' None h from.id;
      part = receiver_part from to from' to' None h;
      region = receiver_region from to from' to' None h;
      none = channel_first from to from' to' None h ∙ channel_empty from to from' to' None h refl;
      empty = channel_empty from to from' to' None h refl;
      ties = still_tied from to from' to' None h;
    }

-- the same rings

side_same : (o t : Option SideView) → SameSide o t → (l : ℕ) → (is_other t l ≡ is_other o l) × (ends_of t ≡ ends_of o)
side_same None None s l = (refl, refl)
side_same None (Some t) s l = absurd s
side_same (Some o) None s l = absurd s
side_same (Some o) (Some t) s l = (ap (λ m. m == l) s.0, s.1)

pub rings_same : (r t : Region) → SameRings r t → (l : ℕ) → ends_with t l ≡ ends_with r l
rings_same r t s l =
    let f = side_same r.first t.first s.0 l in
    let g = side_same r.second t.second s.1 l in
    ap (λ u. cond u (ends_of t.first) (cond (is_other t.second l) (ends_of t.second) None)) f.0
    ∙ (ap (λ u. cond (is_other r.first l) (ends_of t.first) (cond u (ends_of t.second) None)) g.0
    ∙ (ap (λ e. cond (is_other r.first l) e (cond (is_other r.second l) (ends_of t.second) None)) f.1
    ∙ ap (λ e. cond (is_other r.first l) (ends_of r.first) (cond (is_other r.second l) e None)) g.1))

at_part : (P : ℕ → Part → Type 0) (i j : ℕ) (p q : Part) → j ≡ i → q ≡ p → P j q → P i p
at_part P i j p q same parts h = subst (λ k. P k p) same (subst (P j) parts h)

-- a step from a region is one from another with the same part and the same lines
step_from : (n : Network) (b : Bands) (until : ℕ) (x : Base) (r mid new : Region) (step : PartStep) → mid.id ≡ r.id → part_of mid ≡ part_of r → ((l : ℕ) → line_to mid l ≡ line_to r l) → MakesStep n b until x mid step new → MakesStep n b until x r step new
step_from n b until x r mid new step id part line s =
    let w = world_at n b until x in
    record {
      id = s.id ∙ id;
      may = at_part (λ i p. MayStep w x.surface.sites i p step) r.id mid.id (part_of r) (part_of mid) id part s.may;
      part = at_part (λ i p. part_of new ≡ part_after w x.floor i p step) r.id mid.id (part_of r) (part_of mid) id part s.part;
      puts = λ l. subst (λ m. line_to new l ≡ m ++ step_puts w x.floor r.id (part_of r) step l) (line l) (at_part (λ i p. line_to new l ≡ line_to mid l ++ step_puts w x.floor i p step l) r.id mid.id (part_of r) (part_of mid) id part (s.puts l));
      facts = at_part (λ i p. IsRun w x.surface.sites x.floor i p (part_of new) (run_takes (step ∷ [])) (run_puts w x.floor i p (step ∷ []))) r.id mid.id (part_of r) (part_of mid) id part s.facts;
      region = s.region;
    }

-- the other region took it
pub delivered : (n : Network) (b : Bands) (until : ℕ) (x : Base) (from to from' mid to' : Region) (op : Op) → HasChanged (λ s s'. HasChanged (λ t t'. TakesFirst s t (Some op) s' t') from.id to mid) to.id from from'
    → SameRings mid to' → MakesStep n b until x mid (PartStep.Takes from'.id op) to' → IsDelivery n b until x from to from' to'
delivered n b until x from to from' mid to' op h rings step =
    let from_same = sender_id from to from' mid (Some op) h in
    let to_same = receiver_id from to from' mid (Some op) h in
    let ends_are : (l : ℕ) → ends_with to' l ≡ ends_with mid l = rings_same mid to' rings in
    let after : channel from' to' ≡ channel from' mid =
    ap (λ e. drop (length (received_by e)) (line_to from' to'.id)) (ends_are from'.id) ∙ ap (λ k. drop (length (received_by (ends_with mid from'.id))) (line_to from' k)) step.id in
    record {
      sender = is_sender from to from' mid (Some op) h;
      op = op;
      first = channel_first from to from' mid (Some op) h ∙ ap (λ l. op ∷ l) (sym after);
      made = step_from n b until x to mid to' (PartStep.Takes from.id op) to_same (receiver_part from to from' mid (Some op) h) (receiver_line from to from' mid (Some op) h)
          (subst (λ k. MakesStep n b until x mid (PartStep.Takes k op) to') from_same step);
      ends = λ l n. ends_are l ∙ (receiver_but from to from' mid (Some op) h).ends l n;
      ties = subst (AreTied (ends_with from' to.id)) (sym (ends_are from.id)) (still_tied from to from' mid (Some op) h);
    }

-- the rings were looked at

module _ (r t r' t' : Region) (h : HasChanged (λ s s'. HasChanged (λ u u'. Meets s u s' u') r.id t t') t.id r r') where
  one_met : Changed (λ s s'. HasChanged (λ u u'. Meets s u s' u') r.id t t') t.id r r'
  one_met = changed (λ s s'. HasChanged (λ u u'. Meets s u s' u') r.id t t') t.id r r' (λ s s' k. (some_changed (λ u u'. Meets s u s' u') r.id t t' k).2.this_one.still) h

  other_met : Changed (λ u u'. Meets (side_for r.first r.second t.id) u (side_for r'.first r'.second t.id) u') r.id t t'
  other_met = changed (λ u u'. Meets (side_for r.first r.second t.id) u (side_for r'.first r'.second t.id) u') r.id t t' (λ u u' k. k.other.still) one_met.here

  pub one_looked : HasLooked t.id r r'
  one_looked = looked (λ s s'. HasChanged (λ u u'. Meets s u s' u') r.id t t') t.id r r' one_met other_met.here.this_one

  pub other_looked : HasLooked r.id t t'
  other_looked = looked (λ u u'. Meets (side_for r.first r.second t.id) u (side_for r'.first r'.second t.id) u') r.id t t' other_met other_met.here.other

  pub both_know : KnowRings (ends_with r' t'.id) (ends_with t' r'.id)
  both_know =
      subst (λ k. KnowRings (ends_with r' k) (ends_with t' r'.id)) (sym other_looked.id)
      (subst (λ k. KnowRings (ends_with r' t.id) (ends_with t' k)) (sym one_looked.id)
      (subst (λ e. KnowRings e (ends_with t' r.id)) (sym (ends_for r'.first r'.second t.id))
      (subst (KnowRings (ends_of (side_for r'.first r'.second t.id))) (sym (ends_for t'.first t'.second r.id)) other_met.here.know)))

  pub one_spare : (m : ℕ) → HasSpare m r → HasSpare m r'
  one_spare = spare_still r r' one_met.same one_met.first one_met.second

  pub other_spare : (m : ℕ) → HasSpare m t → HasSpare m t'
  other_spare = spare_still t t' other_met.same other_met.first other_met.second
