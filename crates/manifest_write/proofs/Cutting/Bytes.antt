-- Texts that are cut at a byte: what the parts are.
use Rattle.std.proofs.Common.{◌≡◌, ℕ, ◌==◌, Bool, true, false, cond, List, [], ◌∷◌, ◌++◌, Option, None, Some, refl, sym, ap, ◌∙◌, eqb-true}
use Rattle.std.specs.List.{list_all}
use Rattle.std.proofs.lemmas.Bool.{and_parts, and_from, not_from_false}
use Rattle.std.proofs.lemmas.List.Folds.{list_all-append}
use Rattle.surf_text.specs.Cuts.{cut_at, with_front}
use Rattle.surf_text.specs.Passing.{Each, lacks}

pub each-parts : (test : ℕ → Bool) (xs ys : List ℕ) → Each test (xs ++ ys) → Each test xs × Each test ys
each-parts test xs ys h = and_parts (list_all test xs) (list_all test ys) (sym (list_all-append test xs ys) ∙ h)

-- where a cut was made
pub record IsCut (byte : ℕ) (text front back : List ℕ) : Type 0 where
  pub text_is : text ≡ front ++ byte ∷ back
  pub front_lacks : Each (lacks byte) front

same_pair : (p q : List ℕ × List ℕ) → Some p ≡ Some q → p ≡ q
same_pair p q h = cc

pub cut-parts : (byte : ℕ) (text front back : List ℕ) → cut_at byte text ≡ Some (front, back) → IsCut byte text front back
cut-parts byte [] front back h = absurd cc
cut-parts byte (c ∷ cs) front back h = by (c == byte) refl h (cut-parts byte cs)
  where
    onto : (c == byte) ≡ false → (o : Option (List ℕ × List ℕ)) → with_front c o ≡ Some (front, back) → ((f b : List ℕ) → o ≡ Some (f, b) → IsCut byte cs f b) → IsCut byte (c ∷ cs) front back
    onto t None e ih = absurd cc
    onto t (Some p) e ih =
        let first : c ∷ p.0 ≡ front = ap (λ (t : List ℕ × List ℕ). t.0) (same_pair (c ∷ p.0, p.1) (front, back) e) in
        let second : p.1 ≡ back = ap (λ (t : List ℕ × List ℕ). t.1) (same_pair (c ∷ p.0, p.1) (front, back) e) in
        let i = ih p.0 p.1 refl in
        record {
          text_is = rw (← first, ← second) (ap (λ t. c ∷ t) i.text_is);
          front_lacks = rw (← first) (and_from (lacks byte c) (list_all (lacks byte) p.0) (not_from_false (c == byte) t) i.front_lacks);
        }

    by : (b : Bool) → (c == byte) ≡ b → cond b (Some ([], cs)) (with_front c (cut_at byte cs)) ≡ Some (front, back) → ((f g : List ℕ) → cut_at byte cs ≡ Some (f, g) → IsCut byte cs f g) → IsCut byte (c ∷ cs) front back
    by true t e ih =
        let first : [] ≡ front = ap (λ (t : List ℕ × List ℕ). t.0) (same_pair ([], cs) (front, back) e) in
        let second : cs ≡ back = ap (λ (t : List ℕ × List ℕ). t.1) (same_pair ([], cs) (front, back) e) in
        record { text_is = rw (← first, ← second) (ap (λ x. x ∷ cs) (eqb-true c byte t)); front_lacks = rw (← first) refl }
    by false t e ih = onto t (cut_at byte cs) e ih
