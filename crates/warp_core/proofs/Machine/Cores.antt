-- Configurations of which one or two regions are replaced.
use Rattle.std.proofs.Common.{◌≡◌, ◌≢◌, ℕ, zero, suc, ◌<◌, false, ◌==◌, ◌&&◌, if◌then◌else◌, List, [], ◌∷◌, ◌++◌, length, refl, sym, ap, ◌∙◌, subst, arith, set, slice_set, slice_index_or, Some, inl, inr, cond}
use Rattle.std.specs.Prelude.{slice_get}
use Rattle.std.specs.Option.{option_map_or}
use Rattle.std.proofs.lemmas.Option.{same_Some}
use Rattle.std.proofs.lemmas.Bool.Decides.{eqb_tells}
use Rattle.std.proofs.lemmas.List.{get_or-set_same, get_or-set_other, length-set}
use Rattle.surf_kinds.specs.declared.event.Event.{Event}
use Rattle.surf_kinds.specs.declared.event.Key.{Key}
use Rattle.surf_kinds.specs.Keys.{origin}
use Rattle.border.specs.declared.op.Op.{Op}
use Rattle.plan.specs.Network.{Network}
use Rattle.warp_core.specs.Simulation.{Setting}
use Rattle.warp_core.specs.Parts.{Part}
use Rattle.warp_core.specs.Cores.{Core}
use Rattle.warp_core.specs.Steps.{with_part, with_channel}
use Rattle.warp_core.specs.Regions.{part_of, outbox_of, IsAlike}
use Rattle.warp_core.specs.Configs.{parts_at, outboxes_at, core_with, IsHome, AreHomes}
use Rattle.warp_core.specs.declared.region.Region.{Region}
use Rattle.timeline.specs.TimelineView.{events_of}

get_same : (xs : List Region) (i : ℕ) (r : Region) → i < length xs → slice_get (set xs i r) i ≡ Some r
get_same [] i r h = absurd (omega (arith, h))
get_same (x ∷ xs) zero r h = refl
get_same (x ∷ xs) (suc i) r h = get_same xs i r (omega (arith, h))

get_other : (xs : List Region) (i j : ℕ) (r : Region) → j ≢ i → slice_get (set xs i r) j ≡ slice_get xs j
get_other [] i j r h = refl
get_other (x ∷ xs) zero zero r h = absurd (h refl)
get_other (x ∷ xs) zero (suc j) r h = refl
get_other (x ∷ xs) (suc i) zero r h = refl
get_other (x ∷ xs) (suc i) (suc j) r h = get_other xs i j r (λ e. h (ap (λ n. suc n) e))

pub get_is : (xs : List Region) (i : ℕ) (r : Region) → i < length xs → r ≡ slice_index_or xs i r → slice_get xs i ≡ Some r
get_is [] i r h e = absurd (omega (arith, h))
get_is (x ∷ xs) zero r h e = ap (λ (y : Region). Some y) (sym e)
get_is (x ∷ xs) (suc i) r h e = get_is xs i r (omega (arith, h)) e

pub same_core : (a b : Core) → a.horizon ≡ b.horizon → a.committed ≡ b.committed → ((k : ℕ) → a.part k ≡ b.part k) → ((j l : ℕ) → a.channel j l ≡ b.channel j l) → a ≡ b
same_core a b h c p q = λ i. record { horizon = h i; committed = c i; part = λ k. p k i; channel = λ j l. q j l i }

pub part_is : (rs : List Region) (i : ℕ) (r : Region) → i < length rs → r ≡ slice_index_or rs i r → parts_at rs i ≡ part_of r
part_is rs i r h is = ap (λ o. option_map_or part_of o (record { timeline = []; clock = origin; stack = λ _. [] })) (get_is rs i r h is)

pub outbox_is : (rs : List Region) (j : ℕ) (r : Region) (l : ℕ) → j < length rs → r ≡ slice_index_or rs j r → outboxes_at rs j l ≡ outbox_of r l
outbox_is rs j r l h is = ap (λ o. option_map_or (λ (x : Region). outbox_of x l) o []) (get_is rs j r h is)

-- one region is replaced
pub core_moved : (horizon : Key) (committed : List Event) (rs : List Region) (i : ℕ) (r new : Region) (p : Part) (puts : ℕ → List Op) → i < length rs → r ≡ slice_index_or rs i r → part_of new ≡ p → ((l : ℕ) → outbox_of new l ≡ outbox_of r l ++ puts l)
    → core_with horizon committed (slice_set rs i new) ≡ with_part (core_with horizon committed rs) i p puts
core_moved horizon committed rs i r new p puts h is part outs =
    same_core _ _ refl refl
    (λ k. elim (eqb_tells k i) [
      | inl q ↦
          ap (parts_at (set rs i new)) q.1
          ∙ (ap (λ o. option_map_or part_of o (record { timeline = []; clock = origin; stack = λ _. [] })) (get_same rs i new h)
          ∙ (part ∙ ap (λ b. cond b p (parts_at rs k)) (sym q.0)))
      | inr q ↦
          ap (λ o. option_map_or part_of o (record { timeline = []; clock = origin; stack = λ _. [] })) (get_other rs i k new q.1)
          ∙ ap (λ b. cond b p (parts_at rs k)) (sym q.0)
    ])
    (λ j l. elim (eqb_tells j i) [
      | inl q ↦
          ap (λ n. outboxes_at (set rs i new) n l) q.1
          ∙ (ap (λ o. option_map_or (λ (r : Region). outbox_of r l) o []) (get_same rs i new h)
          ∙ (outs l
          ∙ (ap (λ o. option_map_or (λ (r : Region). outbox_of r l) o [] ++ puts l) (sym (get_is rs i r h is))
          ∙ (ap (λ n. outboxes_at rs n l ++ puts l) (sym q.1)
          ∙ ap (λ b. cond b (outboxes_at rs j l ++ puts l) (outboxes_at rs j l)) (sym q.0)))))
      | inr q ↦
          ap (λ o. option_map_or (λ (r : Region). outbox_of r l) o []) (get_other rs i j new q.1)
          ∙ ap (λ b. cond b (outboxes_at rs j l ++ puts l) (outboxes_at rs j l)) (sym q.0)
    ])

alike_part : (old new : Region) → IsAlike old new → part_of new ≡ part_of old
alike_part old new a = λ i. record { timeline = ap events_of a.entries i; clock = a.clock i; stack = λ s. slice_index_or (a.stacks i) s [] }

-- a region is replaced by one that has more room alone
pub core_same : (horizon : Key) (committed : List Event) (rs : List Region) (i : ℕ) (r new : Region) → i < length rs → r ≡ slice_index_or rs i r → IsAlike r new
    → core_with horizon committed (slice_set rs i new) ≡ core_with horizon committed rs
core_same horizon committed rs i r new h is a =
    same_core _ _ refl refl
    (λ k. elim (eqb_tells k i) [
      | inl q ↦
          ap (parts_at (set rs i new)) q.1
          ∙ (ap (λ o. option_map_or part_of o (record { timeline = []; clock = origin; stack = λ _. [] })) (get_same rs i new h)
          ∙ (alike_part r new a ∙ (sym (part_is rs i r h is) ∙ ap (parts_at rs) (sym q.1))))
      | inr q ↦ ap (λ o. option_map_or part_of o (record { timeline = []; clock = origin; stack = λ _. [] })) (get_other rs i k new q.1)
    ])
    (λ j l. elim (eqb_tells j i) [
      | inl q ↦
          ap (λ n. outboxes_at (set rs i new) n l) q.1
          ∙ (ap (λ o. option_map_or (λ (r : Region). outbox_of r l) o []) (get_same rs i new h)
          ∙ (a.outboxes l
          ∙ (ap (λ o. option_map_or (λ (r : Region). outbox_of r l) o []) (sym (get_is rs i r h is))
          ∙ ap (λ n. outboxes_at rs n l) (sym q.1))))
      | inr q ↦ ap (λ o. option_map_or (λ (r : Region). outbox_of r l) o []) (get_other rs i j new q.1)
    ])

-- one region takes the first message of another's outbox
module _ (horizon : Key) (committed : List Event) (rs : List Region) (j i : ℕ) (rj ri taken less : Region) (p : Part) (puts : ℕ → List Op) (rest : List Op) (apart : j ≢ i) (in_j : j < length rs) (in_i : i < length rs) (is_j : rj ≡ slice_index_or rs j rj) (is_i : ri ≡ slice_index_or rs i ri)
    (part_i : part_of taken ≡ p) (outs_i : (l : ℕ) → outbox_of taken l ≡ outbox_of ri l ++ puts l) (part_j : part_of less ≡ part_of rj) (outs_j : (l : ℕ) → outbox_of less l ≡ (if l == i then rest else outbox_of rj l)) where
  at_j : slice_get (set (set rs i taken) j less) j ≡ Some less
  at_j = get_same (set rs i taken) j less (subst (λ n. j < n) (sym (length-set rs i taken)) in_j)

  at_i : slice_get (set (set rs i taken) j less) i ≡ Some taken
  at_i = get_other (set rs i taken) j i less (λ e. apart (sym e)) ∙ get_same rs i taken in_i

  at_else : (k : ℕ) → k ≢ j → k ≢ i → slice_get (set (set rs i taken) j less) k ≡ slice_get rs k
  at_else k a b = get_other (set rs i taken) j k less a ∙ get_other rs i k taken b

  part_at_k : (k : ℕ) → parts_at (set (set rs i taken) j less) k ≡ (if k == i then p else parts_at rs k)
  part_at_k k =
      elim (eqb_tells k i) [
        | inl q ↦ ap (parts_at (set (set rs i taken) j less)) q.1 ∙ (ap (λ o. option_map_or part_of o (record { timeline = []; clock = origin; stack = λ _. [] })) at_i ∙ (part_i ∙ ap (λ b. cond b p (parts_at rs k)) (sym q.0)))
        | inr q ↦
            elim (eqb_tells k j) [
              | inl s ↦
                  ap (parts_at (set (set rs i taken) j less)) s.1
                  ∙ (ap (λ o. option_map_or part_of o (record { timeline = []; clock = origin; stack = λ _. [] })) at_j ∙ (part_j ∙ (sym (part_is rs j rj in_j is_j) ∙ ap (parts_at rs) (sym s.1))))
              | inr s ↦ ap (λ o. option_map_or part_of o (record { timeline = []; clock = origin; stack = λ _. [] })) (at_else k s.1 q.1)
            ] ∙ ap (λ b. cond b p (parts_at rs k)) (sym q.0)
      ]

  out_at_k : (a b : ℕ) → outboxes_at (set (set rs i taken) j less) a b ≡ (if a == i then (if a == j && b == i then rest else outboxes_at rs a b) ++ puts b else (if a == j && b == i then rest else outboxes_at rs a b))
  out_at_k a b =
      elim (eqb_tells a i) [
        | inl q ↦
            let other : (a == j) ≡ false = elim (eqb_tells a j) [ inl s ↦ absurd (apart (sym s.1 ∙ q.1)) | inr s ↦ s.0 ] in
            ap (λ n. outboxes_at (set (set rs i taken) j less) n b) q.1
            ∙ (ap (λ o. option_map_or (λ (r : Region). outbox_of r b) o []) at_i
            ∙ (outs_i b
            ∙ (ap (λ x. x ++ puts b) (sym (outbox_is rs i ri b in_i is_i) ∙ ap (λ n. outboxes_at rs n b) (sym q.1) ∙ ap (λ t. if t && b == i then rest else outboxes_at rs a b) (sym other))
            ∙ ap (λ t. cond t ((if a == j && b == i then rest else outboxes_at rs a b) ++ puts b) (if a == j && b == i then rest else outboxes_at rs a b)) (sym q.0))))
        | inr q ↦
            elim (eqb_tells a j) [
              | inl s ↦
                  ap (λ n. outboxes_at (set (set rs i taken) j less) n b) s.1
                  ∙ (ap (λ o. option_map_or (λ (r : Region). outbox_of r b) o []) at_j
                  ∙ (outs_j b
                  ∙ (ap (λ x. if b == i then rest else x) (sym (outbox_is rs j rj b in_j is_j) ∙ ap (λ n. outboxes_at rs n b) (sym s.1))
                  ∙ ap (λ t. if t && b == i then rest else outboxes_at rs a b) (sym s.0))))
              | inr s ↦
                  ap (λ o. option_map_or (λ (r : Region). outbox_of r b) o []) (at_else a s.1 q.1)
                  ∙ ap (λ t. if t && b == i then rest else outboxes_at rs a b) (sym s.0)
            ] ∙ ap (λ t. cond t ((if a == j && b == i then rest else outboxes_at rs a b) ++ puts b) (if a == j && b == i then rest else outboxes_at rs a b)) (sym q.0)
      ]

  pub core_taken : core_with horizon committed (set (set rs i taken) j less) ≡ with_part (with_channel (core_with horizon committed rs) j i rest) i p puts
  core_taken = same_core _ _ refl refl part_at_k out_at_k

pub reads_same : (rs : List Region) (i : ℕ) (r s : Region) → i < length rs → r ≡ slice_index_or rs i r → s ≡ slice_index_or rs i s → r ≡ s
reads_same rs i r s h a b = same_Some r s (sym (get_is rs i r h a) ∙ get_is rs i s h b)

pub read_after : (rs : List Region) (i j : ℕ) (r new : Region) → j ≢ i → r ≡ slice_index_or (slice_set rs i new) j r → r ≡ slice_index_or rs j r
read_after rs i j r new apart is = is ∙ get_or-set_other rs i j new r apart

-- homes

pub homes_set : (n : Network) (s : Setting) (horizon : Key) (committed : List Event) (rs : List Region) (i : ℕ) (new : Region) → length rs ≡ s.bands.count → AreHomes n s horizon committed rs → IsHome n s horizon committed i new → i < length rs → AreHomes n s horizon committed (slice_set rs i new)
homes_set n s horizon committed rs i new count homes here inside k d b =
    elim (eqb_tells k i) [
      | inl q ↦ subst (λ m. IsHome n s horizon committed m (slice_index_or (slice_set rs i new) m d)) (sym q.1) (subst (IsHome n s horizon committed i) (sym (get_or-set_same rs i new d inside)) here)
      | inr q ↦ subst (IsHome n s horizon committed k) (sym (get_or-set_other rs i k new d q.1)) (homes k d b)
    ]

pub home_alike : (n : Network) (s : Setting) (horizon : Key) (committed : List Event) (i : ℕ) (old new : Region) → IsAlike old new → IsHome n s horizon committed i old → IsHome n s horizon committed i new
home_alike n s horizon committed i old new a h =
    record {
      past = h.past;
      base = h.base;
      ground = subst (λ es. Rattle.warp_core.specs.Grounds.IsGround n s.cells h.past h.base es new.surface) (sym a.entries) (subst (Rattle.warp_core.specs.Grounds.IsGround n s.cells h.past h.base old.timeline.entries) (sym a.surface) h.ground);
      early = h.early;
      agree = h.agree;
      sized = record { stacks = ap length a.stacks ∙ h.sized.stacks; outboxes = a.long ∙ h.sized.outboxes };
    }
