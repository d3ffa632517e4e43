-- Texts that trimming leaves as they are.
use Rattle.std.proofs.Common.{◌≡◌, ℕ, Bool, true, false, cond, ◌⊎◌, List, [], ◌∷◌, ◌++◌, refl, ap, ◌∙◌, inl, inr}
use Rattle.std.specs.List.{list_all}
use Rattle.std.proofs.lemmas.Bool.{not_from_false, and_parts}
use Rattle.surf_text.specs.Lines.{is_blank, trim_front, trim_back, onto_trimmed, trimmed}
use Rattle.surf_text.specs.Passing.{Each, inked, begins, ends}
use Rattle.surf_text.proofs.LawLemmas.{begins-append, ends-append, inked-ends, trimmed-same, trimmed-behind}

-- neither end is a blank
pub record IsTight (text : List ℕ) : Type 0 where
  pub front : begins text ≡ true
  pub back : ends text ≡ true

pub tight-append : (xs ys : List ℕ) → begins xs ≡ true → ends ys ≡ true → IsTight (xs ++ ys)
tight-append xs ys h g = record { front = begins-append xs ys h; back = ends-append xs ys g }

-- a text without blanks
pub inked-tight : (c : ℕ) (cs : List ℕ) → Each inked (c ∷ cs) → IsTight (c ∷ cs)
inked-tight c cs h = record { front = (and_parts (inked c) (list_all inked cs) h).0; back = inked-ends c cs h }

pub tight-trimmed : (text : List ℕ) → IsTight text → trimmed text ≡ text
tight-trimmed text h = trimmed-same text h.front h.back

-- the blank behind such a text goes
pub trim-behind : (text : List ℕ) → IsTight text → trimmed (text ++ 32 ∷ []) ≡ text
trim-behind text h = trimmed-behind text h.front h.back

-- a trimmed text is empty or tight
abbrev EmptyOr : (List ℕ → Type 0) → List ℕ → Type 0
EmptyOr P text = (text ≡ []) ⊎ P text

trimmed-ends : (c : ℕ) (t : List ℕ) → EmptyOr (λ x. ends x ≡ true) t → EmptyOr (λ x. ends x ≡ true) (onto_trimmed c t)
trimmed-ends c [] h = by (is_blank c) refl
  where
    by : (b : Bool) → is_blank c ≡ b → EmptyOr (λ x. ends x ≡ true) (cond b [] (c ∷ []))
    by true e = inl refl
    by false e = inr (not_from_false (is_blank c) e)
trimmed-ends c (d ∷ ds) (inl e) = absurd cc
trimmed-ends c (d ∷ ds) (inr e) = inr e

back-ends : (text : List ℕ) → EmptyOr (λ x. ends x ≡ true) (trim_back text)
back-ends [] = inl refl
back-ends (c ∷ cs) = trimmed-ends c (trim_back cs) (back-ends cs)

trimmed-begins : (c : ℕ) (t : List ℕ) → is_blank c ≡ false → begins (onto_trimmed c t) ≡ true
trimmed-begins c [] h = ap begins (ap (λ b. cond b [] (c ∷ [])) h) ∙ not_from_false (is_blank c) h
trimmed-begins c (d ∷ ds) h = not_from_false (is_blank c) h

pub trimmed-tight : (text : List ℕ) → (trimmed text ≡ []) ⊎ IsTight (trimmed text)
trimmed-tight [] = inl refl
trimmed-tight (c ∷ cs) = by (is_blank c) refl (trimmed-tight cs)
  where
    tight : is_blank c ≡ false → EmptyOr (λ x. ends x ≡ true) (trim_back (c ∷ cs)) → (trim_back (c ∷ cs) ≡ []) ⊎ IsTight (trim_back (c ∷ cs))
    tight e (inl h) = inl h
    tight e (inr h) = inr (record { front = trimmed-begins c (trim_back cs) e; back = h })

    by : (b : Bool) → is_blank c ≡ b → (trimmed cs ≡ []) ⊎ IsTight (trimmed cs) → (trim_back (cond b (trim_front cs) (c ∷ cs)) ≡ []) ⊎ IsTight (trim_back (cond b (trim_front cs) (c ∷ cs)))
    by true e ih = ih
    by false e ih = tight e (back-ends (c ∷ cs))
