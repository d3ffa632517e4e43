-- Texts that trimming leaves as they are.
use Rattle.std.proofs.Common.{◌≡◌, ℕ, true, cond, List, [], ◌∷◌, ◌++◌, ap, ◌∙◌}
use Rattle.std.specs.List.{list_all}
use Rattle.std.proofs.lemmas.Bool.{and_parts, not-true}
use Rattle.surf_text.specs.Lines.{is_blank, trim_front, trim_back, onto_trimmed, trimmed}
use Rattle.surf_text.specs.Passing.{Each, inked, begins, ends}
use Rattle.surf_text.proofs.Trims.{front-other}

pub begins-append : (xs ys : List ℕ) → begins xs ≡ true → begins (xs ++ ys) ≡ true
begins-append [] ys h = absurd cc
begins-append (c ∷ cs) ys h = h

pub ends-append : (xs ys : List ℕ) → ends ys ≡ true → ends (xs ++ ys) ≡ true
ends-append [] ys h = h
ends-append (c ∷ []) [] h = absurd cc
ends-append (c ∷ []) (y ∷ ys) h = h
ends-append (c ∷ d ∷ ds) ys h = ends-append (d ∷ ds) ys h

pub inked-ends : (c : ℕ) (cs : List ℕ) → Each inked (c ∷ cs) → ends (c ∷ cs) ≡ true
inked-ends c [] h = (and_parts (inked c) true h).0
inked-ends c (d ∷ ds) h = inked-ends d ds (and_parts (inked c) (list_all inked (d ∷ ds)) h).1

pub front-same : (text : List ℕ) → begins text ≡ true → trim_front text ≡ text
front-same [] h = absurd cc
front-same (c ∷ cs) h = front-other c cs (not-true (is_blank c) h)

back-same : (text : List ℕ) → ends text ≡ true → trim_back text ≡ text
back-same [] h = absurd cc
back-same (c ∷ []) h = ap (λ b. cond b [] (c ∷ [])) (not-true (is_blank c) h)
back-same (c ∷ d ∷ ds) h = ap (onto_trimmed c) (back-same (d ∷ ds) h)

pub trimmed-same : (text : List ℕ) → begins text ≡ true → ends text ≡ true → trimmed text ≡ text
trimmed-same text h g = ap trim_back (front-same text h) ∙ back-same text g

-- the blank behind such a text goes
pub trimmed-behind : (text : List ℕ) → begins text ≡ true → ends text ≡ true → trimmed (text ++ 32 ∷ []) ≡ text
trimmed-behind text h g = ap trim_back (front-same (text ++ 32 ∷ []) (begins-append text (32 ∷ []) h)) ∙ gone text g
  where
    gone : (t : List ℕ) → ends t ≡ true → trim_back (t ++ 32 ∷ []) ≡ t
    gone [] h = absurd cc
    gone (c ∷ []) h = ap (λ b. cond b [] (c ∷ [])) (not-true (is_blank c) h)
    gone (c ∷ d ∷ ds) h = ap (onto_trimmed c) (gone (d ∷ ds) h)
