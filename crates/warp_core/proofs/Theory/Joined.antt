-- Regions that each made a run, with the channels between them, are consistent again.
use Rattle.std.proofs.Common.{◌≡◌, ℕ, ◌<◌, Bool, true, false, List, [], ◌∷◌, ◌++◌, sym, ap, ◌∙◌, subst, cond}
use Rattle.surf_kinds.specs.declared.event.Key.{Key}
use Rattle.surf_kinds.specs.declared.event.Event.{Event}
use Rattle.border.specs.declared.op.Op.{Op}
use Rattle.border.specs.declared.op.Op.TheVariants.{Put, Back}
use Rattle.surf_kinds.specs.Keys.{is_before, key_of, ◌is_upto◌, keep, below, from, IsRising}
use Rattle.border.specs.Messages.{replay, replay_one, op_key, IsPutOf, IsSent, AllOpsFrom}
use Rattle.warp_core.specs.Messages.{ArePutsOf, accepted_ops, AreSent, partition_of}
use Rattle.warp_core.specs.World.{World, after_all, is_told_by}
use Rattle.warp_core.specs.Parts.{IsSound}
use Rattle.warp_core.specs.Cores.{Core, IsConsistent, base_of}
use Rattle.warp_core.proofs.Theory.Accepted.{are_sent_accepted}
use Rattle.border.proofs.LawLemmas.{replay_append, from_replay}
use Rattle.warp_core.proofs.Theory.Cuts.{IsRising_replay_one}

pub sent_append : (w : World) (j i : ℕ) (floor : Key) (xs ys : List Op) → AreSent w j i floor xs → AreSent w j i floor ys → AreSent w j i floor (xs ++ ys)
sent_append w j i floor [] ys a b = b
sent_append w j i floor (x ∷ xs) ys a b = (a.0, sent_append w j i floor xs ys a.1 b)

pub sent_parts : (w : World) (j i : ℕ) (floor : Key) (xs ys : List Op) → AreSent w j i floor (xs ++ ys) → AreSent w j i floor xs × AreSent w j i floor ys
sent_parts w j i floor [] ys a = (tt, a)
sent_parts w j i floor (x ∷ xs) ys a = let rest = sent_parts w j i floor xs ys a.1 in ((a.0, rest.0), rest.1)

pub sent_key : (w : World) (j i : ℕ) (floor : Key) (op : Op) → IsSent (partition_of w) j i floor w.until op → floor is_upto op_key op
sent_key w j i floor (Put e) a = a.0
sent_key w j i floor (Back k) a = a

pub sent_from : (w : World) (j i : ℕ) (floor : Key) (ops : List Op) → AreSent w j i floor ops → AllOpsFrom floor ops
sent_from w j i floor [] a = tt
sent_from w j i floor (op ∷ ops) a = (sent_key w j i floor op a.0, sent_from w j i floor ops a.1)

puts_keep : (w : World) (j i : ℕ) (test : Key → Bool) (es : List Event) → ArePutsOf w j i es → ArePutsOf w j i (keep test es)
puts_keep w j i test [] a = tt
puts_keep w j i test (e ∷ es) a =
    elim (test (key_of e)) as (λ b. ArePutsOf w j i (cond b (e ∷ keep test es) (keep test es))) [ true ↦ (a.0, puts_keep w j i test es a.1) | false ↦ puts_keep w j i test es a.1 ]

puts_push : (w : World) (j i : ℕ) (es : List Event) (e : Event) → ArePutsOf w j i es → IsPutOf (partition_of w) j i e → ArePutsOf w j i (es ++ e ∷ [])
puts_push w j i [] e a p = (p, tt)
puts_push w j i (x ∷ es) e a p = (a.0, puts_push w j i es e a.1 p)

puts_replay_one : (w : World) (j i : ℕ) (floor : Key) (stack : List Event) (op : Op) → ArePutsOf w j i stack → IsSent (partition_of w) j i floor w.until op → ArePutsOf w j i (replay_one stack op)
puts_replay_one w j i floor stack (Put e) a s = puts_push w j i (below (key_of e) stack) e (puts_keep w j i (λ k. is_before k (key_of e)) stack a) s.2
puts_replay_one w j i floor stack (Back k) a s = puts_keep w j i (λ h. is_before h k) stack a

pub puts_replay : (w : World) (j i : ℕ) (floor : Key) (stack : List Event) (ops : List Op) → ArePutsOf w j i stack → AreSent w j i floor ops → ArePutsOf w j i (replay stack ops)
puts_replay w j i floor stack [] a s = a
puts_replay w j i floor stack (op ∷ ops) a s = puts_replay w j i floor (replay_one stack op) ops (puts_replay_one w j i floor stack op a s.0) s.1

pub IsRising_replay : (stack : List Event) (ops : List Op) → IsRising stack → IsRising (replay stack ops)
IsRising_replay stack [] r = r
IsRising_replay stack (op ∷ ops) r = IsRising_replay (replay_one stack op) ops (IsRising_replay_one stack op r)

-- What the regions did: i took `takes i j` of what j had sent, and put `puts i l` for l.
pub record Ran (w : World) (old new : Core) (takes puts : ℕ → ℕ → List Op) : Type 0 where
  pub horizon : new.horizon ≡ old.horizon
  pub committed : new.committed ≡ old.committed
  pub sound : (i : ℕ) → i < w.regions → IsSound w (base_of w old) old.horizon i (new.part i)
  pub stacks : (j i : ℕ) → j < w.regions → i < w.regions → (new.part i).stack j ≡ replay ((old.part i).stack j) (accepted_ops w j i old.horizon (takes i j))
  pub told : (j i : ℕ) → j < w.regions → i < w.regions → replay (keep (is_told_by w j i) (old.part j).timeline) (puts j i) ≡ keep (is_told_by w j i) (new.part j).timeline
  pub sent : (j i : ℕ) → j < w.regions → i < w.regions → AreSent w j i old.horizon (puts j i)
  pub channels : (j i : ℕ) → j < w.regions → i < w.regions → old.channel j i ++ puts j i ≡ takes i j ++ new.channel j i

pub joined : (w : World) (old new : Core) (takes puts : ℕ → ℕ → List Op) → IsConsistent w old → Ran w old new takes puts → IsConsistent w new
joined w old new takes puts c r =
    record {
      committed = r.committed ∙ (c.committed ∙ ap (λ k. below k w.history) (sym r.horizon));
      sound = λ i inside. subst (λ (k : Key). IsSound w (base_of w new) k i (new.part i)) (sym r.horizon) (subst (λ l. IsSound w (after_all w w.start l) old.horizon i (new.part i)) (sym r.committed) (r.sound i inside));
      rising = λ j i a b. subst IsRising (sym (stacks j i a b)) (IsRising_replay ((old.part i).stack j) (takes i j) (c.rising j i a b));
      stacked = λ j i a b. subst (ArePutsOf w j i) (sym (stacks j i a b)) (puts_replay w j i old.horizon ((old.part i).stack j) (takes i j) (c.stacked j i a b) (flow j i a b).0);
      sent = λ j i a b. subst (λ (k : Key). AreSent w j i k (new.channel j i)) (sym r.horizon) (flow j i a b).1;
      pairs = λ j i a b. ap (λ (k : Key). from k (replay ((new.part i).stack j) (new.channel j i))) r.horizon ∙ pair j i a b;
    }
  where
    flow : (j i : ℕ) → j < w.regions → i < w.regions → AreSent w j i old.horizon (takes i j) × AreSent w j i old.horizon (new.channel j i)
    flow j i a b = sent_parts w j i old.horizon (takes i j) (new.channel j i) (subst (AreSent w j i old.horizon) (r.channels j i a b) (sent_append w j i old.horizon (old.channel j i) (puts j i) (c.sent j i a b) (r.sent j i a b)))

    stacks : (j i : ℕ) → j < w.regions → i < w.regions → (new.part i).stack j ≡ replay ((old.part i).stack j) (takes i j)
    stacks j i a b = r.stacks j i a b ∙ ap (replay ((old.part i).stack j)) (are_sent_accepted w j i old.horizon (takes i j) (flow j i a b).0)

    pair : (j i : ℕ) → j < w.regions → i < w.regions → from old.horizon (replay ((new.part i).stack j) (new.channel j i)) ≡ keep (is_told_by w j i) (new.part j).timeline
    pair j i a b =
        let stack = (old.part i).stack j in
        ap (λ s. from old.horizon (replay s (new.channel j i))) (stacks j i a b)
        ∙ (ap (from old.horizon)
        (sym (replay_append stack (takes i j) (new.channel j i))
        ∙ (ap (replay stack) (sym (r.channels j i a b))
        ∙ replay_append stack (old.channel j i) (puts j i)))
        ∙ (from_replay old.horizon (replay stack (old.channel j i)) (puts j i) (sent_from w j i old.horizon (puts j i) (r.sent j i a b))
        ∙ (ap (λ s. replay s (puts j i)) (c.pairs j i a b)
        ∙ r.told j i a b)))
