-- Configurations in which one region made a step, or one channel lost its first message.
use Rattle.std.proofs.Common.{◌≡◌, ◌≢◌, ℕ, ◌==◌, ◌&&◌, inl, inr, Bool, true, false, List, [], ◌∷◌, ◌++◌, length, drop, refl, sym, ap, ◌∙◌, subst, cond, append-nil, if◌then◌else◌}
use Rattle.std.proofs.lemmas.Bool.Decides.{eqb_tells}
use Rattle.surf_kinds.specs.declared.event.Key.{Key}
use Rattle.border.specs.declared.op.Op.{Op}
use Rattle.warp_core.specs.World.{World}
use Rattle.warp_core.specs.Parts.{Part}
use Rattle.warp_core.specs.Cores.{Core}
use Rattle.warp_core.specs.Steps.{with_part, with_channel}
use Rattle.crew.specs.Crews.{core_from}
use Rattle.crew.proofs.Fronts.{IsFront, drop_more, front_more}

-- what each region received is the front of what was put for it
abbrev pub AreFronts : (ℕ → ℕ → List Op) → (ℕ → ℕ → List Op) → Type 0
AreFronts lines got = (j i : ℕ) → j ≢ i → IsFront (got i j) (lines j i)

-- Only one region has another part, and put something.
pub record OnlyMoved (i : ℕ) (p : Part) (puts : ℕ → List Op) (parts parts' : ℕ → Part) (lines lines' : ℕ → ℕ → List Op) (got got' : ℕ → ℕ → List Op) : Type 0 where
  pub part : parts' i ≡ p
  pub other_parts : (k : ℕ) → k ≢ i → parts' k ≡ parts k
  pub grew : (l : ℕ) → lines' i l ≡ lines i l ++ puts l
  pub other_lines : (k l : ℕ) → k ≢ i → lines' k l ≡ lines k l
  pub same_got : (k l : ℕ) → got' k l ≡ got k l
  pub itself : puts i ≡ []

module _ (w : World) (h : Key) (i : ℕ) (p : Part) (puts : ℕ → List Op) (parts parts' : ℕ → Part) (lines lines' : ℕ → ℕ → List Op) (got got' : ℕ → ℕ → List Op) (k : OnlyMoved i p puts parts parts' lines lines' got got') (fronts : AreFronts lines got) where
  part_now : (a : ℕ) → parts' a ≡ (if a == i then p else parts a)
  part_now a =
      elim (eqb_tells a i) [
        | inl q ↦ ap parts' q.1 ∙ (k.part ∙ sym (ap (λ t. cond t p (parts a)) q.0))
        | inr q ↦ k.other_parts a q.1 ∙ sym (ap (λ t. cond t p (parts a)) q.0)
      ]

  way_from : (b : ℕ) → i ≢ b → drop (length (got' b i)) (lines' i b) ≡ drop (length (got b i)) (lines i b) ++ puts b
  way_from b n = ap (λ g. drop (length g) (lines' i b)) (k.same_got b i) ∙ (ap (drop (length (got b i))) (k.grew b) ∙ drop_more (got b i) (lines i b) (puts b) (fronts i b n))

  way_other : (a b : ℕ) → a ≢ i → drop (length (got' b a)) (lines' a b) ≡ drop (length (got b a)) (lines a b)
  way_other a b n = ap (λ g. drop (length g) (lines' a b)) (k.same_got b a) ∙ ap (drop (length (got b a))) (k.other_lines a b n)

  chan_from : (b : ℕ) → (core_from w h parts' lines' got').channel i b ≡ (core_from w h parts lines got).channel i b ++ puts b
  chan_from b =
      elim (eqb_tells i b) [
        | inl e ↦ ap (λ t. cond t [] (drop (length (got' b i)) (lines' i b))) e.0 ∙ sym (ap (λ t. cond t [] (drop (length (got b i)) (lines i b)) ++ puts b) e.0 ∙ subst (λ c. puts c ≡ []) e.1 k.itself)
        | inr e ↦ ap (λ t. cond t [] (drop (length (got' b i)) (lines' i b))) e.0 ∙ (way_from b e.1 ∙ sym (ap (λ t. cond t [] (drop (length (got b i)) (lines i b)) ++ puts b) e.0))
      ]

  chan : (a b : ℕ) → (core_from w h parts' lines' got').channel a b ≡ (if a == i then (core_from w h parts lines got).channel a b ++ puts b else (core_from w h parts lines got).channel a b)
  chan a b =
      elim (eqb_tells a i) [
        | inl q ↦
            subst (λ x. (core_from w h parts' lines' got').channel x b ≡ (core_from w h parts lines got).channel x b ++ puts b) (sym q.1) (chan_from b)
            ∙ sym (ap (λ t. cond t ((core_from w h parts lines got).channel a b ++ puts b) ((core_from w h parts lines got).channel a b)) q.0)
        | inr q ↦ ap (λ l. cond (a == b) [] l) (way_other a b q.1) ∙ sym (ap (λ t. cond t ((core_from w h parts lines got).channel a b ++ puts b) ((core_from w h parts lines got).channel a b)) q.0)
      ]

  pub moved_is : core_from w h parts' lines' got' ≡ with_part (core_from w h parts lines got) i p puts
  moved_is = λ t. record { horizon = h; committed = (core_from w h parts lines got).committed; part = λ a. part_now a t; channel = λ a b. chan a b t }

  pub fronts_moved : AreFronts lines' got'
  fronts_moved a b n =
      elim (eqb_tells a i) [
        | inl q ↦ subst (λ x. IsFront (got' b x) (lines' x b)) (sym q.1) (subst (λ g. IsFront g (lines' i b)) (sym (k.same_got b i)) (subst (IsFront (got b i)) (sym (k.grew b)) (front_more (got b i) (lines i b) (puts b) (fronts i b (λ e. n (q.1 ∙ e))))))
        | inr q ↦ subst (λ g. IsFront g (lines' a b)) (sym (k.same_got b a)) (subst (IsFront (got b a)) (sym (k.other_lines a b q.1)) (fronts a b n))
      ]

-- Only the channel from j to i changed: of what was in it, this is left.
pub record OnlyTook (j i : ℕ) (rest : List Op) (lines lines' : ℕ → ℕ → List Op) (got got' : ℕ → ℕ → List Op) : Type 0 where
  pub apart : j ≢ i
  pub remains : drop (length (got' i j)) (lines' j i) ≡ rest
  pub front : IsFront (got' i j) (lines' j i)
  pub other_lines : (a b : ℕ) → ((a ≡ j) → (b ≡ i) → ⊥) → lines' a b ≡ lines a b
  pub other_got : (b a : ℕ) → ((a ≡ j) → (b ≡ i) → ⊥) → got' b a ≡ got b a

module _ (w : World) (h : Key) (parts : ℕ → Part) (j i : ℕ) (rest : List Op) (lines lines' : ℕ → ℕ → List Op) (got got' : ℕ → ℕ → List Op) (k : OnlyTook j i rest lines lines' got got') where
  other_way : (a b : ℕ) → ((a ≡ j) → (b ≡ i) → ⊥) → drop (length (got' b a)) (lines' a b) ≡ drop (length (got b a)) (lines a b)
  other_way a b n = ap (λ g. drop (length g) (lines' a b)) (k.other_got b a n) ∙ ap (drop (length (got b a))) (k.other_lines a b n)

  here : (core_from w h parts lines' got').channel j i ≡ rest
  here = elim (eqb_tells j i) [ inl e ↦ absurd (k.apart e.1) | inr e ↦ ap (λ t. cond t [] (drop (length (got' i j)) (lines' j i))) e.0 ∙ k.remains ]

  chan_took : (a b : ℕ) → (core_from w h parts lines' got').channel a b ≡ (if a == j && b == i then rest else (core_from w h parts lines got).channel a b)
  chan_took a b =
      elim (eqb_tells a j) [
        | inr p ↦ ap (λ l. cond (a == b) [] l) (other_way a b (λ e _. p.1 e)) ∙ sym (ap (λ t. cond (t && (b == i)) rest ((core_from w h parts lines got).channel a b)) p.0)
        | inl p ↦ elim (eqb_tells b i) [
          | inr q ↦
              ap (λ l. cond (a == b) [] l) (other_way a b (λ _ e. q.1 e))
              ∙ sym (ap (λ t. cond (t && (b == i)) rest ((core_from w h parts lines got).channel a b)) p.0 ∙ ap (λ t. cond t rest ((core_from w h parts lines got).channel a b)) q.0)
          | inl q ↦
              ap (λ x. (core_from w h parts lines' got').channel x b) p.1
              ∙ (ap (λ y. (core_from w h parts lines' got').channel j y) q.1
              ∙ (here
              ∙ sym (ap (λ t. cond (t && (b == i)) rest ((core_from w h parts lines got).channel a b)) p.0 ∙ ap (λ t. cond t rest ((core_from w h parts lines got).channel a b)) q.0)))
        ]
      ]

  pub took_is : core_from w h parts lines' got' ≡ with_channel (core_from w h parts lines got) j i rest
  took_is = λ t. record { horizon = h; committed = (core_from w h parts lines got).committed; part = parts; channel = λ a b. chan_took a b t }

  pub fronts_took : AreFronts lines got → AreFronts lines' got'
  fronts_took fronts a b n =
      elim (eqb_tells a j) [
        | inr p ↦ plain (λ e _. p.1 e)
        | inl p ↦ elim (eqb_tells b i) [
          | inr q ↦ plain (λ _ e. q.1 e)
          | inl q ↦ subst (λ x. IsFront (got' b x) (lines' x b)) (sym p.1) (subst (λ y. IsFront (got' y j) (lines' j y)) (sym q.1) k.front)
        ]
      ]
    where
      plain : ((a ≡ j) → (b ≡ i) → ⊥) → IsFront (got' b a) (lines' a b)
      plain m = subst (λ g. IsFront g (lines' a b)) (sym (k.other_got b a m)) (subst (IsFront (got b a)) (sym (k.other_lines a b m)) (fronts a b n))
