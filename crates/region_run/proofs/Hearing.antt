-- Rings that are asked one time after the other, and a region that takes what they hand out.
use Rattle.std.proofs.Common.{◌≡◌, ℕ, zero, suc, ◌+◌, ◌==◌, ◌<◌, Bool, true, false, inl, inr, List, [], ◌∷◌, ◌++◌, length, refl, sym, ap, ◌∙◌, subst, arith, Option, Some, None, cond, append-nil, append_assoc}
use Rattle.std.proofs.lemmas.Bool.{both_ways, eq-eqb}
use Rattle.std.proofs.lemmas.Bool.Decides.{eqb_tells}
use Rattle.plan.specs.Network.{Network}
use Rattle.regions.specs.Bands.{Bands}
use Rattle.border.specs.declared.op.Op.{Op}
use Rattle.border.specs.Ends.{OutView, InView, counted}
use Rattle.warp_core.specs.Parts.{PartStep, run_takes}
use Rattle.region_run.specs.declared.region.Region.{Region}
use Rattle.region_run.specs.declared.side.Ends.{Ends}
use Rattle.region_run.specs.declared.totals.Totals.{Totals}
use Rattle.region_run.specs.Sides.{SideView, is_other, line_of, sent_by, one, asked_after, RingHeard, RingExchanged, Exchanged, Asked, HasRoom}
use Rattle.region_run.specs.Channels.{RingFlushed, Flushed}
use Rattle.region_run.specs.Regions.{Base, line_in, IsRegion}
use Rattle.region_run.specs.Runs.{MakesStep, MakesRun, SameSide, SameRings, HasSpare}
use Rattle.region_run.specs.Turns.{handed_out, Hears, IfNumber}
use Rattle.region_run.specs.Hearing.{Asks}
use Rattle.region_run.proofs.Renumbered.{same_parts, renumbered, asked_other}
use Rattle.region_run.proofs.Running.{makes_run, run_none, run_one, run_then, takes_append}
use Rattle.region_run.proofs.Remade.{counted as region_counted}
use Rattle.region_run.proofs.Spares.{side_self}

-- one ring

asked_more : (n a k : ℕ) → asked_after (asked_after n a) k ≡ asked_after n (a + k)
asked_more n a zero = let e : a ≡ a + zero = omega arith in ap (λ m. asked_after n m) e
asked_more n a (suc k) =
    let e : suc (a + k) ≡ a + suc k = omega arith in
    ap counted (asked_more n a k) ∙ ap (λ m. asked_after n m) e

none_both : (xs ys : List Op) → xs ≡ [] → ys ≡ [] → xs ++ ys ≡ []
none_both xs ys a b = ap (λ l. l ++ ys) a ∙ b

ring_then : (o m t : Option Ends) (xs ys : List Op) (a k : ℕ) → RingExchanged o xs a m → RingExchanged m ys k t → RingExchanged o (xs ++ ys) (a + k) t
ring_then None None None xs ys a k h g = none_both xs ys h g
ring_then None None (Some t) xs ys a k h g = absurd g
ring_then None (Some m) t xs ys a k h g = absurd h
ring_then (Some e) None t xs ys a k h g = absurd h
ring_then (Some e) (Some m) None xs ys a k h g = absurd g
ring_then (Some e) (Some m) (Some t) xs ys a k h g =
    record {
      out_ring = g.out_ring ∙ h.out_ring;
      in_ring = g.in_ring ∙ h.in_ring;
      out_slots = g.out_slots ∙ h.out_slots;
      in_slots = g.in_slots ∙ h.in_slots;
      received = g.received ∙ (ap (λ l. l ++ ys) h.received ∙ append_assoc e.inn.received xs ys);
      asked = g.asked ∙ (ap (λ n. asked_after n k) h.asked ∙ asked_more e.inn.asked a k);
      free = omega (arith, h.free, g.free);
    }

ring_self : (o : Option Ends) → RingExchanged o [] 0 o
ring_self None = refl
ring_self (Some e) = record { out_ring = refl; in_ring = refl; out_slots = refl; in_slots = refl; received = sym (append-nil e.inn.received); asked = refl; free = omega arith }

ring_heard : (o t : Option Ends) (xs : List Op) (a : ℕ) → RingHeard o xs a t → RingExchanged o xs a t
ring_heard None None xs a h = h
ring_heard None (Some f) xs a h = absurd h
ring_heard (Some e) None xs a h = absurd h
ring_heard (Some e) (Some f) xs a h =
    record {
      out_ring = ap (λ (o : OutView). o.ring) h.out;
      in_ring = h.ring;
      out_slots = ap (λ (o : OutView). o.slots) h.out;
      in_slots = h.slots;
      received = h.received;
      asked = h.asked;
      free = omega (arith, ap (λ (o : OutView). length o.sent + o.free) h.out);
    }

ring_sent : (o t : Option Ends) (box box' : List Op) → RingFlushed o box box' t → RingExchanged o [] 0 t
ring_sent None None box box' f = refl
ring_sent None (Some t) box box' f = absurd f
ring_sent (Some e) None box box' f = absurd f
ring_sent (Some e) (Some t) box box' f =
    record {
      out_ring = f.0.ring;
      in_ring = ap (λ (i : InView). i.ring) f.0.inn;
      out_slots = f.0.slots;
      in_slots = ap (λ (i : InView). i.slots) f.0.inn;
      received = ap (λ (i : InView). i.received) f.0.inn ∙ sym (append-nil e.inn.received);
      asked = ap (λ (i : InView). i.asked) f.0.inn;
      free = f.0.free;
    }

-- a neighbour

pub heard_then : (o m t : Option SideView) (xs ys : List Op) (a k : ℕ) → Exchanged o xs a m → Exchanged m ys k t → Exchanged o (xs ++ ys) (a + k) t
heard_then None None None xs ys a k h g = none_both xs ys h g
heard_then None None (Some t) xs ys a k h g = absurd g
heard_then None (Some m) t xs ys a k h g = absurd h
heard_then (Some s) None t xs ys a k h g = absurd h
heard_then (Some s) (Some m) None xs ys a k h g = absurd g
heard_then (Some s) (Some m) (Some t) xs ys a k h g = record { other = g.other ∙ h.other; ring = ring_then s.ends m.ends t.ends xs ys a k h.ring g.ring }

pub heard_same : (o t : Option SideView) → SameSide o t → Exchanged o [] 0 t
heard_same None None s = refl
heard_same None (Some t) s = absurd s
heard_same (Some o) None s = absurd s
heard_same (Some o) (Some t) s = record { other = s.0; ring = subst (λ (e : Option Ends). RingExchanged o.ends [] 0 e) (sym s.1) (ring_self o.ends) }

pub heard_other : (o t : Option SideView) (xs : List Op) (a : ℕ) → Exchanged o xs a t → (l : ℕ) → is_other t l ≡ is_other o l
heard_other None None xs a h l = refl
heard_other None (Some t) xs a h l = absurd h
heard_other (Some s) None xs a h l = absurd h
heard_other (Some s) (Some t) xs a h l = ap (λ n. n == l) h.other

asked_heard : (o t : Option SideView) (op : Option Op) → Asked o op t → Exchanged o (one op) 1 t
asked_heard None None op a = ap one a
asked_heard None (Some t) op a = absurd a
asked_heard (Some s) None op a = absurd a
asked_heard (Some s) (Some t) op a = record { other = ap (λ (v : SideView). v.other) a.rest; ring = ring_heard s.ends t.ends (one op) 1 a.ring }

pub flushed_heard : (o t : Option SideView) → Flushed o t → Exchanged o [] 0 t
flushed_heard None None f = refl
flushed_heard None (Some t) f = absurd f
flushed_heard (Some s) None f = absurd f
flushed_heard (Some s) (Some t) f = record { other = f.other; ring = ring_sent s.ends t.ends s.outbox t.outbox f.ring }

ring_line : (o t : Option Ends) (xs : List Op) (a : ℕ) → RingHeard o xs a t → sent_by t ≡ sent_by o
ring_line None None xs a h = refl
ring_line None (Some t) xs a h = absurd h
ring_line (Some e) None xs a h = absurd h
ring_line (Some e) (Some f) xs a h = ap (λ (y : OutView). y.sent) h.out

-- asking leaves the line
asked_line : (o t : Option SideView) (op : Option Op) → Asked o op t → line_of t ≡ line_of o
asked_line None None op a = refl
asked_line None (Some t) op a = absurd a
asked_line (Some s) None op a = absurd a
asked_line (Some s) (Some t) op a = ap (λ y. y ++ t.outbox) (ring_line s.ends t.ends (one op) 1 a.ring) ∙ ap (λ (v : SideView). sent_by s.ends ++ v.outbox) a.rest

asked_room : (o t : Option SideView) (op : Option Op) (m : ℕ) → Asked o op t → HasRoom m o → HasRoom m t
asked_room None None op m a h = tt
asked_room None (Some t) op m a h = absurd a
asked_room (Some s) None op m a h = absurd a
asked_room (Some s) (Some t) op m a h = omega (arith, h, ap (λ (v : SideView). v.room) a.rest)

-- runs to a region of which the rings or the counts are others

pub run_to : (n : Network) (b : Bands) (until : ℕ) (x : Base) (r last : Region) (steps : List PartStep) (first second : Option SideView) (totals : Totals) → ((l : ℕ) → is_other first l ≡ is_other last.first l) → ((l : ℕ) → is_other second l ≡ is_other last.second l)
    → line_of first ≡ line_of last.first → line_of second ≡ line_of last.second → IsRegion n b until x r → MakesRun n b until x r steps last → MakesRun n b until x r steps (record last { first = first; second = second; totals = totals })
run_to n b until x r last steps first second totals same1 same2 line1 line2 g s =
    makes_run n b until x r (record last { first = first; second = second; totals = totals }) steps g s.id s.may (same_parts n b until x last first second same1 same2 ∙ s.part) (λ l. lines l ∙ s.puts l)
    (region_counted n b until x (record last { first = first; second = second }) (renumbered n b until x last first second same1 same2 s.region) totals)
  where
    lines : (l : ℕ) → line_in first second l ≡ line_in last.first last.second l
    lines l =
        ap (λ t. cond t (line_of first) (cond (is_other second l) (line_of second) [])) (same1 l)
        ∙ (ap (λ t. cond (is_other last.first l) (line_of first) (cond t (line_of second) [])) (same2 l)
        ∙ (ap (λ y. cond (is_other last.first l) y (cond (is_other last.second l) (line_of second) [])) line1
        ∙ ap (λ y. cond (is_other last.first l) (line_of last.first) (cond (is_other last.second l) y [])) line2))

-- what was handed out

abbrev pick : Bool → Bool → List Op → List Op → List Op
pick s t xs ys = cond s xs (cond t ys [])

picked : (s t : Bool) (xs1 xs2 ys1 ys2 : List Op) → pick s t xs1 xs2 ++ pick s t ys1 ys2 ≡ pick s t (xs1 ++ ys1) (xs2 ++ ys2)
picked true t xs1 xs2 ys1 ys2 = refl
picked false true xs1 xs2 ys1 ys2 = refl
picked false false xs1 xs2 ys1 ys2 = refl

pub handed_none : (first second : Option SideView) (l : ℕ) → [] ≡ handed_out first second [] [] l
handed_none first second l = neither (is_other first l) (is_other second l)
  where
    neither : (s t : Bool) → [] ≡ pick s t [] []
    neither true t = refl
    neither false true = refl
    neither false false = refl

pub handed_then : (o1 o2 m1 m2 : Option SideView) (xs1 xs2 ys1 ys2 : List Op) (l : ℕ) → is_other m1 l ≡ is_other o1 l → is_other m2 l ≡ is_other o2 l
    → handed_out o1 o2 xs1 xs2 l ++ handed_out m1 m2 ys1 ys2 l ≡ handed_out o1 o2 (xs1 ++ ys1) (xs2 ++ ys2) l
handed_then o1 o2 m1 m2 xs1 xs2 ys1 ys2 l p q =
    ap (λ t. pick (is_other o1 l) (is_other o2 l) xs1 xs2 ++ pick t (is_other m2 l) ys1 ys2) p
    ∙ (ap (λ t. pick (is_other o1 l) (is_other o2 l) xs1 xs2 ++ pick (is_other o1 l) t ys1 ys2) q
    ∙ picked (is_other o1 l) (is_other o2 l) xs1 xs2 ys1 ys2)

pub hears_then : (n : Network) (b : Bands) (until : ℕ) (x : Base) (r mid new : Region) (a1 a2 k1 k2 : ℕ) (xs ys : List PartStep) → IsRegion n b until x r → Hears n b until x r a1 a2 xs mid → Hears n b until x mid k1 k2 ys new → Hears n b until x r (a1 + k1) (a2 + k2) (xs ++ ys) new
hears_then n b until x r mid new a1 a2 k1 k2 xs ys g s t =
    record {
      run = run_then n b until x r mid new xs ys g s.run t.run;
      ops1 = s.ops1 ++ t.ops1;
      ops2 = s.ops2 ++ t.ops2;
      first = heard_then r.first mid.first new.first s.ops1 t.ops1 a1 k1 s.first t.first;
      second = heard_then r.second mid.second new.second s.ops2 t.ops2 a2 k2 s.second t.second;
      takes = λ l.
          takes_append xs ys l
          ∙ (ap (λ o. o ++ run_takes ys l) (s.takes l)
          ∙ (ap (λ o. handed_out r.first r.second s.ops1 s.ops2 l ++ o) (t.takes l)
          ∙ handed_then r.first r.second mid.first mid.second s.ops1 s.ops2 t.ops1 t.ops2 l (heard_other r.first mid.first s.ops1 a1 s.first l) (heard_other r.second mid.second s.ops2 a2 s.second l)));
    }

pub hears_none : (n : Network) (b : Bands) (until : ℕ) (x : Base) (r : Region) → IsRegion n b until x r → Hears n b until x r 0 0 [] r
hears_none n b until x r g =
    record {
      run = run_none n b until x r g;
      ops1 = [];
      ops2 = [];
      first = heard_same r.first r.first (side_self r.first);
      second = heard_same r.second r.second (side_self r.second);
      takes = handed_none r.first r.second;
    }

-- a neighbour of whom a message came

sender_is : (o t : Option SideView) (op : Op) (sender : ℕ) → Asked o (Some op) t → IfNumber o sender → is_other o sender ≡ true
sender_is None None op sender a i = cc
sender_is None (Some t) op sender a i = absurd a
sender_is (Some s) t op sender a i = eq-eqb s.other sender i

from_sender : (o t : Option SideView) (op : Op) (sender l : ℕ) → Asked o (Some op) t → IfNumber o sender → (l == sender) ≡ is_other o l
from_sender None None op sender l a i = cc
from_sender None (Some t) op sender l a i = absurd a
from_sender (Some s) t op sender l a i =
    elim (eqb_tells l sender) [
      | inl e ↦ e.0 ∙ sym (eq-eqb s.other l (i ∙ sym e.1))
      | inr e ↦ elim (eqb_tells s.other l) [ inl z ↦ absurd (e.1 (sym z.1 ∙ i)) | inr z ↦ e.0 ∙ sym z.0 ]
    ]

module _ (n : Network) (b : Bands) (until : ℕ) (x : Base) (r : Region) (first : Option SideView) (op : Option Op) (g : IsRegion n b until x r) (a : Asked r.first op first) where
  run_first : MakesRun n b until x r [] (record r { first = first })
  run_first = run_to n b until x r r [] first r.second r.totals (asked_other r.first first op a) (λ l. refl) (asked_line r.first first op a) refl g (run_none n b until x r g)

  pub first_region : IsRegion n b until x (record r { first = first })
  first_region = run_first.region

  -- its ring was asked in vain
  pub first_vain : op ≡ None → Asks n b until x r 1 0 false (record r { first = first })
  first_vain none =
      record {
        steps = [];
        hears = record {
          run = run_first;
          ops1 = [];
          ops2 = [];
          first = subst (λ (o : Option Op). Exchanged r.first (one o) 1 first) none (asked_heard r.first first op a);
          second = heard_same r.second r.second (side_self r.second);
          takes = handed_none r.first r.second;
        };
        adds = refl;
        takes = refl;
      }

-- the first neighbour's message was taken
pub first_took : (n : Network) (b : Bands) (until : ℕ) (x : Base) (r new : Region) (first : Option SideView) (op : Op) (sender : ℕ) → IsRegion n b until x r → Asked r.first (Some op) first → IfNumber r.first sender
    → MakesStep n b until x (record r { first = first }) (PartStep.Takes sender op) new → SameRings (record r { first = first }) new → Asks n b until x r 1 0 true new
first_took n b until x r new first op sender g a i s rings =
    record {
      steps = PartStep.Takes sender op ∷ [];
      hears = record {
        run = run_then n b until x r (record r { first = first }) new [] (PartStep.Takes sender op ∷ []) g (run_first n b until x r first (Some op) g a)
            (run_one n b until x (record r { first = first }) new (PartStep.Takes sender op) (first_region n b until x r first (Some op) g a) s);
        ops1 = op ∷ [];
        ops2 = [];
        first = heard_then r.first first new.first (op ∷ []) [] 1 0 (asked_heard r.first first (Some op) a) (heard_same first new.first rings.0);
        second = heard_same r.second new.second rings.1;
        takes = λ l. ap (λ t. cond t (op ∷ []) [] ++ []) (from_sender r.first first op sender l a i) ∙ alone (is_other r.first l) (is_other r.second l);
      };
      adds = refl;
      takes = refl;
    }
  where
    alone : (s t : Bool) → cond s (op ∷ []) [] ++ [] ≡ pick s t (op ∷ []) []
    alone true t = refl
    alone false true = refl
    alone false false = refl

pub first_sender : (n : Network) (b : Bands) (until : ℕ) (x : Base) (r : Region) (first : Option SideView) (op : Op) (sender : ℕ) → IsRegion n b until x r → Asked r.first (Some op) first → IfNumber r.first sender → sender < b.count
first_sender n b until x r first op sender g a i = g.sited.below sender (inl (sender_is r.first first op sender a i))

pub first_away : (n : Network) (b : Bands) (until : ℕ) (x : Base) (r : Region) (first : Option SideView) (op : Op) (sender : ℕ) → IsRegion n b until x r → Asked r.first (Some op) first → IfNumber r.first sender → sender ≡ r.id → ⊥
first_away n b until x r first op sender g a i e = both_ways (is_other r.first r.id) g.sited.not_first (subst (λ l. is_other r.first l ≡ true) e (sender_is r.first first op sender a i))

pub first_spare : (r : Region) (first : Option SideView) (op : Option Op) (m : ℕ) → Asked r.first op first → HasSpare m r → HasSpare m (record r { first = first })
first_spare r first op m a h = record { timeline = h.timeline; changes = h.changes; stacks = h.stacks; first = asked_room r.first first op m a h.first; second = h.second }

-- the same of the second one

module _ (n : Network) (b : Bands) (until : ℕ) (x : Base) (r : Region) (second : Option SideView) (op : Option Op) (g : IsRegion n b until x r) (a : Asked r.second op second) where
  run_second : MakesRun n b until x r [] (record r { second = second })
  run_second = run_to n b until x r r [] r.first second r.totals (λ l. refl) (asked_other r.second second op a) refl (asked_line r.second second op a) g (run_none n b until x r g)

  pub second_region : IsRegion n b until x (record r { second = second })
  second_region = run_second.region

  pub second_vain : op ≡ None → Asks n b until x r 0 1 false (record r { second = second })
  second_vain none =
      record {
        steps = [];
        hears = record {
          run = run_second;
          ops1 = [];
          ops2 = [];
          first = heard_same r.first r.first (side_self r.first);
          second = subst (λ (o : Option Op). Exchanged r.second (one o) 1 second) none (asked_heard r.second second op a);
          takes = handed_none r.first r.second;
        };
        adds = refl;
        takes = refl;
      }

pub second_took : (n : Network) (b : Bands) (until : ℕ) (x : Base) (r new : Region) (second : Option SideView) (op : Op) (sender : ℕ) → IsRegion n b until x r → Asked r.second (Some op) second → IfNumber r.second sender
    → MakesStep n b until x (record r { second = second }) (PartStep.Takes sender op) new → SameRings (record r { second = second }) new → Asks n b until x r 0 1 true new
second_took n b until x r new second op sender g a i s rings =
    record {
      steps = PartStep.Takes sender op ∷ [];
      hears = record {
        run = run_then n b until x r (record r { second = second }) new [] (PartStep.Takes sender op ∷ []) g (run_second n b until x r second (Some op) g a)
            (run_one n b until x (record r { second = second }) new (PartStep.Takes sender op) (second_region n b until x r second (Some op) g a) s);
        ops1 = [];
        ops2 = op ∷ [];
        first = heard_same r.first new.first rings.0;
        second = heard_then r.second second new.second (op ∷ []) [] 1 0 (asked_heard r.second second (Some op) a) (heard_same second new.second rings.1);
        takes = λ l. ap (λ t. cond t (op ∷ []) [] ++ []) (from_sender r.second second op sender l a i) ∙ alone (is_other r.first l) (is_other r.second l) (g.sited.apart l);
      };
      adds = refl;
      takes = refl;
    }
  where
    alone : (s t : Bool) → (s ≡ true → t ≡ false) → cond t (op ∷ []) [] ++ [] ≡ pick s t [] (op ∷ [])
    alone true true h = absurd (both_ways true (h refl) refl)
    alone true false h = refl
    alone false true h = refl
    alone false false h = refl

pub second_sender : (n : Network) (b : Bands) (until : ℕ) (x : Base) (r : Region) (second : Option SideView) (op : Op) (sender : ℕ) → IsRegion n b until x r → Asked r.second (Some op) second → IfNumber r.second sender → sender < b.count
second_sender n b until x r second op sender g a i = g.sited.below sender (inr (sender_is r.second second op sender a i))

pub second_away : (n : Network) (b : Bands) (until : ℕ) (x : Base) (r : Region) (second : Option SideView) (op : Op) (sender : ℕ) → IsRegion n b until x r → Asked r.second (Some op) second → IfNumber r.second sender → sender ≡ r.id → ⊥
second_away n b until x r second op sender g a i e = both_ways (is_other r.second r.id) g.sited.not_second (subst (λ l. is_other r.second l ≡ true) e (sender_is r.second second op sender a i))

pub second_spare : (r : Region) (second : Option SideView) (op : Option Op) (m : ℕ) → Asked r.second op second → HasSpare m r → HasSpare m (record r { second = second })
second_spare r second op m a h = record { timeline = h.timeline; changes = h.changes; stacks = h.stacks; first = h.first; second = asked_room r.second second op m a h.second }
