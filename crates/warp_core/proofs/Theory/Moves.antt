-- Fire, Pass and Take keep a configuration consistent.
use Rattle.std.proofs.Common.{◌≡◌, ℕ, ◌<◌, Bool, true, false, ◌==◌, ◌&&◌, List, [], ◌∷◌, ◌++◌, inl, inr, refl, sym, ap, ◌∙◌, subst, cond, if◌then◌else◌, append-nil, append_assoc}
use Rattle.std.proofs.lemmas.Bool.Decides.{eqb_tells}
use Rattle.surf_kinds.specs.declared.event.Event.{Event}
use Rattle.border.specs.declared.op.Op.{Op}
use Rattle.surf_kinds.specs.Keys.{is_before, key_of, origin, keep, below}
use Rattle.border.specs.Messages.{replay}
use Rattle.warp_core.specs.Messages.{accepted_ops, AreSent}
use Rattle.warp_core.specs.World.{World, IsWorld, is_own, is_told_by, end_key}
use Rattle.warp_core.specs.Parts.{Part, IsSound, IsNextEntry, HasNoEntry, with_entry, at_end, after_take, fire_puts, take_puts}
use Rattle.warp_core.specs.Cores.{Core, IsConsistent, base_of, first_core}
use Rattle.warp_core.specs.Steps.{with_part, with_channel}
use Rattle.surf_kinds.proofs.Order.{is_upto_origin, not_below_origin, le_refl}
use Rattle.surf_kinds.proofs.Tables.{keep_none, all_keys}
use Rattle.warp_core.proofs.Theory.Accepted.{take_stack}
use Rattle.warp_core.proofs.Theory.Parts.{applied_sound, ended_sound, take_sound, fired_told, passed_told, take_told, fired_sent, take_sent}
use Rattle.warp_core.proofs.Theory.Joined.{joined}

-- one region makes a run, and the others none
pub one_runs : (w : World) (c : Core) (chan : ℕ → ℕ → List Op) (i : ℕ) (p : Part) (puts taken : ℕ → List Op) → IsConsistent w c → i < w.regions
    → IsSound w (base_of w c) c.horizon i p
    → ((j : ℕ) → j < w.regions → p.stack j ≡ replay ((c.part i).stack j) (accepted_ops w j i c.horizon (taken j)))
    → ((l : ℕ) → l < w.regions → replay (keep (is_told_by w i l) (c.part i).timeline) (puts l) ≡ keep (is_told_by w i l) p.timeline)
    → ((l : ℕ) → l < w.regions → AreSent w i l c.horizon (puts l))
    → ((a b : ℕ) → a < w.regions → b < w.regions → c.channel a b ≡ (if b == i then taken a else []) ++ chan a b)
    → IsConsistent w (with_part (record c { channel = chan }) i p puts)
one_runs w c chan i p puts taken k inside sound stacks told sent chans =
    joined w c new (λ b a. if b == i then taken a else []) (λ a b. if a == i then puts b else []) k
    (record {
      horizon = refl;
      committed = refl;
      sound = λ n h. elim (eqb_tells n i) [
        | inl q ↦ subst (λ t. IsSound w (base_of w c) c.horizon n (cond t p (c.part n))) (sym q.0) (subst (λ m. IsSound w (base_of w c) c.horizon m p) (sym q.1) sound)
        | inr q ↦ subst (λ t. IsSound w (base_of w c) c.horizon n (cond t p (c.part n))) (sym q.0) (k.sound n h)
      ];
      stacks = λ j n a b. elim (eqb_tells n i) [
        | inl q ↦ subst (λ t. (cond t p (c.part n)).stack j ≡ replay ((c.part n).stack j) (accepted_ops w j n c.horizon (cond t (taken j) []))) (sym q.0) (subst (λ m. p.stack j ≡ replay ((c.part m).stack j) (accepted_ops w j m c.horizon (taken j))) (sym q.1) (stacks j a))
        | inr q ↦ subst (λ t. (cond t p (c.part n)).stack j ≡ replay ((c.part n).stack j) (accepted_ops w j n c.horizon (cond t (taken j) []))) (sym q.0) refl
      ];
      told = λ n l a b. elim (eqb_tells n i) [
        | inl q ↦ subst (λ t. replay (keep (is_told_by w n l) (c.part n).timeline) (cond t (puts l) []) ≡ keep (is_told_by w n l) (cond t p (c.part n)).timeline) (sym q.0)
            (subst (λ m. replay (keep (is_told_by w m l) (c.part m).timeline) (puts l) ≡ keep (is_told_by w m l) p.timeline) (sym q.1) (told l b))
        | inr q ↦ subst (λ t. replay (keep (is_told_by w n l) (c.part n).timeline) (cond t (puts l) []) ≡ keep (is_told_by w n l) (cond t p (c.part n)).timeline) (sym q.0) refl
      ];
      sent = λ n l a b. elim (eqb_tells n i) [
        | inl q ↦ subst (λ t. AreSent w n l c.horizon (cond t (puts l) [])) (sym q.0) (subst (λ m. AreSent w m l c.horizon (puts l)) (sym q.1) (sent l b))
        | inr q ↦ subst (λ t. AreSent w n l c.horizon (cond t (puts l) [])) (sym q.0) tt
      ];
      channels = λ a b x y.
          ap (λ l. l ++ (if a == i then puts b else [])) (chans a b x y)
          ∙ (append_assoc (if b == i then taken a else []) (chan a b) (if a == i then puts b else [])
          ∙ ap (λ l. (if b == i then taken a else []) ++ l) (last (a == i) (chan a b) (puts b)));
    })
  where
    new : Core
    new = with_part (record c { channel = chan }) i p puts

    last : (t : Bool) (xs ys : List Op) → xs ++ (if t then ys else []) ≡ (if t then xs ++ ys else xs)
    last true xs ys = refl
    last false xs ys = append-nil xs

none_taken : (w : World) (c : Core) (i a b : ℕ) → c.channel a b ≡ (if b == i then [] else []) ++ c.channel a b
none_taken w c i a b = pick (b == i)
  where
    pick : (t : Bool) → c.channel a b ≡ (if t then [] else []) ++ c.channel a b
    pick true = refl
    pick false = refl

pub fire_keeps : (w : World) → IsWorld w → (c : Core) (i : ℕ) (e : Event) → IsConsistent w c → i < w.regions → IsNextEntry w (base_of w c) i (c.part i) e → is_own w i (key_of e) ≡ true → IsConsistent w (with_part c i (with_entry (c.part i) e) (fire_puts w.told e))
fire_keeps w laws c i e k inside n m =
    let s = k.sound i inside in
    one_runs w c c.channel i (with_entry (c.part i) e) (fire_puts w.told e) (λ _. []) k inside
    (applied_sound w (base_of w c) c.horizon i (c.part i) e s n)
    (λ j h. refl)
    (λ l h. fired_told w (base_of w c) c.horizon i l (c.part i) e s n m)
    (λ l h. fired_sent w laws (base_of w c) c.horizon i l (c.part i) e s n m)
    (λ a b x y. none_taken w c i a b)

pub pass_keeps : (w : World) (c : Core) (i : ℕ) (e : Event) → IsConsistent w c → i < w.regions → IsNextEntry w (base_of w c) i (c.part i) e → is_own w i (key_of e) ≡ false → IsConsistent w (with_part c i (with_entry (c.part i) e) (λ _. []))
pass_keeps w c i e k inside n m =
    one_runs w c c.channel i (with_entry (c.part i) e) (λ _. []) (λ _. []) k inside
    (applied_sound w (base_of w c) c.horizon i (c.part i) e (k.sound i inside) n)
    (λ j h. refl)
    (λ l h. passed_told w i l (c.part i) e m)
    (λ l h. tt)
    (λ a b x y. none_taken w c i a b)

pub end_keeps : (w : World) (c : Core) (i : ℕ) → IsConsistent w c → i < w.regions → HasNoEntry w (base_of w c) i (c.part i) → IsConsistent w (with_part c i (at_end w (c.part i)) (λ _. []))
end_keeps w c i k inside n =
    one_runs w c c.channel i (at_end w (c.part i)) (λ _. []) (λ _. []) k inside
    (ended_sound w (base_of w c) c.horizon i (c.part i) (k.sound i inside) n)
    (λ j h. refl) (λ l h. refl) (λ l h. tt)
    (λ a b x y. none_taken w c i a b)

pub take_keeps : (w : World) (c : Core) (j i : ℕ) (op : Op) (rest : List Op) → IsConsistent w c → j < w.regions → i < w.regions → c.channel j i ≡ op ∷ rest → IsConsistent w (with_part (with_channel c j i rest) i (after_take w c.horizon i (c.part i) j op) (take_puts w c.horizon i (c.part i) j op))
take_keeps w c j i op rest k from_j inside first =
    let s = k.sound i inside in
    one_runs w c (with_channel c j i rest).channel i (after_take w c.horizon i (c.part i) j op) (take_puts w c.horizon i (c.part i) j op) (λ a. if a == j then op ∷ [] else []) k inside
    (take_sound w (base_of w c) c.horizon i j (c.part i) op s)
    (λ a h. take_stack w c.horizon i (c.part i) j op a)
    (λ l h. take_told w (base_of w c) c.horizon i j l (c.part i) op h s)
    (λ l h. take_sent w (base_of w c) c.horizon i j l (c.part i) op s)
    (λ a b x y. split a b)
  where
    Says : ℕ → ℕ → Bool → Bool → Type 0
    Says a b t u = c.channel a b ≡ (if u then (if t then op ∷ [] else []) else []) ++ (if t && u then rest else c.channel a b)

    split : (a b : ℕ) → Says a b (a == j) (b == i)
    split a b =
        elim (eqb_tells a j) [
          | inl p ↦ elim (eqb_tells b i) [
            | inl q ↦ subst (λ t. Says a b t (b == i)) (sym p.0) (subst (Says a b true) (sym q.0) (ap (λ n. c.channel n b) p.1 ∙ (ap (c.channel j) q.1 ∙ first)))
            | inr q ↦ subst (λ t. Says a b t (b == i)) (sym p.0) (subst (Says a b true) (sym q.0) refl)
          ]
          | inr p ↦ subst (λ t. Says a b t (b == i)) (sym p.0) (none (b == i))
        ]
      where
        none : (u : Bool) → Says a b false u
        none true = refl
        none false = refl

no_keys_yet : (w : World) → Prim.Path (List Event) [] (below origin w.history)
no_keys_yet w = sym (keep_none (λ j. is_before j origin) w.history (all_keys (λ j. is_before j origin ≡ false) is_upto_origin w.history))

pub first_consistent : (w : World) → IsConsistent w first_core
first_consistent w =
    record {
      committed = no_keys_yet w;
      sound = λ i h. record {
        low = le_refl origin;
        high = is_upto_origin (end_key w);
        local = record { rising = tt; span = tt; each = λ k over under. absurd (not_below_origin k under) };
      };
      rising = λ j i a b. tt;
      stacked = λ j i a b. tt;
      sent = λ j i a b. tt;
      pairs = λ j i a b. refl;
    }
