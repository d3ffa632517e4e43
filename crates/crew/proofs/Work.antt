-- A turn, as work of a region.
use Rattle.std.proofs.Common.{◌≡◌, ℕ, refl, ◌==◌, inl, inr, Bool, true, false, List, [], ◌++◌, sym, ap, ◌∙◌, subst, Option, Some, None, cond, append-nil}
use Rattle.std.proofs.lemmas.Bool.{cases_Bool}
use Rattle.plan.specs.Network.{Network}
use Rattle.regions.specs.Bands.{Bands}
use Rattle.border.specs.declared.op.Op.{Op}
use Rattle.warp_core.specs.Parts.{run_takes}
use Rattle.region_run.specs.declared.region.Region.{Region}
use Rattle.region_run.specs.declared.side.Ends.{Ends}
use Rattle.region_run.specs.declared.totals.Turn.{Turn}
use Rattle.region_run.specs.Sides.{SideView, is_other, ends_of, received_by, Exchanged, RingExchanged}
use Rattle.region_run.specs.Regions.{Base, ends_with}
use Rattle.region_run.specs.Turns.{IsTurn, handed_out}
use Rattle.crew.specs.Rounds.{Worked}

pub same_number : (s t : Option SideView) (ops : List Op) (asks : ℕ) → Exchanged s ops asks t → (l : ℕ) → is_other t l ≡ is_other s l
same_number None None ops asks h l = refl
same_number None (Some t) ops asks h l = absurd h
same_number (Some s) None ops asks h l = absurd h
same_number (Some s) (Some t) ops asks h l = ap (λ n. n == l) h.other

ring_received : (e f : Option Ends) (ops : List Op) (asks : ℕ) → RingExchanged e ops asks f → received_by f ≡ received_by e ++ ops
ring_received None None ops asks h = sym h
ring_received None (Some f) ops asks h = absurd h
ring_received (Some e) None ops asks h = absurd h
ring_received (Some e) (Some f) ops asks h = h.received

side_received : (s t : Option SideView) (ops : List Op) (asks : ℕ) → Exchanged s ops asks t → received_by (ends_of t) ≡ received_by (ends_of s) ++ ops
side_received None None ops asks h = sym h
side_received None (Some t) ops asks h = absurd h
side_received (Some s) None ops asks h = absurd h
side_received (Some s) (Some t) ops asks h = ring_received s.ends t.ends ops asks h.ring

-- what a neighbour's ring handed out was received
received : (s t u v : Option SideView) (ops1 ops2 : List Op) (asks1 asks2 : ℕ) → Exchanged s ops1 asks1 t → Exchanged u ops2 asks2 v → (l : ℕ)
    → received_by (cond (is_other t l) (ends_of t) (cond (is_other v l) (ends_of v) None)) ≡ received_by (cond (is_other s l) (ends_of s) (cond (is_other u l) (ends_of u) None)) ++ cond (is_other s l) ops1 (cond (is_other u l) ops2 [])
received s t u v ops1 ops2 asks1 asks2 a b l =
    subst (λ x. Says x (is_other v l) (is_other s l) (is_other u l)) (sym (same_number s t ops1 asks1 a l)) (subst (λ y. Says (is_other s l) y (is_other s l) (is_other u l)) (sym (same_number u v ops2 asks2 b l)) (by (is_other s l) (is_other u l)))
  where
    Says : Bool → Bool → Bool → Bool → Type 0
    Says x y p q = received_by (cond x (ends_of t) (cond y (ends_of v) None)) ≡ received_by (cond p (ends_of s) (cond q (ends_of u) None)) ++ cond p ops1 (cond q ops2 [])

    by : (p q : Bool) → Says p q p q
    by true q = side_received s t ops1 asks1 a
    by false true = side_received u v ops2 asks2 b
    by false false = refl

pub turn_worked : (n : Network) (b : Bands) (until : ℕ) (x : Base) (quota : ℕ) (r t : Region) (turn : Turn) → IsTurn n b until x quota r t turn → Worked n b until x r t
turn_worked n b until x quota r t turn h =
    record {
      steps = h.steps;
      run = h.run;
      received = λ l. received r.first t.first r.second t.second h.ops1 h.ops2 h.asks1 h.asks2 h.first h.second l ∙ ap (λ q. received_by (ends_with r l) ++ q) (sym (h.takes l));
    }
