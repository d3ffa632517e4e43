-- Texts whose bytes all pass a test: cut at a byte, and split into words.
use Rattle.std.proofs.Common.{◌≡◌, ℕ, ◌==◌, Bool, true, false, cond, not, List, [], ◌∷◌, ◌++◌, length, filter, None, Some, refl, ap, ◌∙◌, eq-eqb, arith, ne_eqb}
use Rattle.std.specs.List.{list_all, slice_split, onto_first}
use Rattle.std.proofs.lemmas.Bool.{and_parts, and_from, not-true}
use Rattle.std.proofs.lemmas.List.Folds.{list_all-append}
use Rattle.surf_text.specs.Lines.{is_blank, lines_of}
use Rattle.surf_text.specs.Cuts.{cut_at, with_front, is_word, words_of}
use Rattle.surf_text.specs.Passing.{Each, lacks, inked}

module _ (test : ℕ → Bool) where
  pub each-append : (xs ys : List ℕ) → Each test xs → Each test ys → Each test (xs ++ ys)
  each-append xs ys h g = list_all-append test xs ys ∙ and_from (list_all test xs) (list_all test ys) h g

  pub each-weaker : (other : ℕ → Bool) → ((c : ℕ) → test c ≡ true → other c ≡ true) → (xs : List ℕ) → Each test xs → Each other xs
  each-weaker other f [] h = refl
  each-weaker other f (c ∷ cs) h =
      let p = and_parts (test c) (list_all test cs) h in
      and_from (other c) (list_all other cs) (f c p.0) (each-weaker other f cs p.1)

pub cut-front : (byte : ℕ) (front back : List ℕ) → Each (lacks byte) front → cut_at byte (front ++ byte ∷ back) ≡ Some (front, back)
cut-front byte [] back h = ap (λ b. cond b (Some ([], back)) (with_front byte (cut_at byte back))) (eq-eqb byte byte refl)
cut-front byte (c ∷ cs) back h =
    let p = and_parts (lacks byte c) (list_all (lacks byte) cs) h in
    ap (λ b. cond b (Some ([], cs ++ byte ∷ back)) (with_front c (cut_at byte (cs ++ byte ∷ back)))) (not-true (c == byte) p.0)
    ∙ ap (with_front c) (cut-front byte cs back p.1)

pub cut-missing : (byte : ℕ) (text : List ℕ) → Each (lacks byte) text → cut_at byte text ≡ None
cut-missing byte [] h = refl
cut-missing byte (c ∷ cs) h =
    let p = and_parts (lacks byte c) (list_all (lacks byte) cs) h in
    ap (λ b. cond b (Some ([], cs)) (with_front c (cut_at byte cs))) (not-true (c == byte) p.0) ∙ ap (with_front c) (cut-missing byte cs p.1)

pub line-first : (line rest : List ℕ) → Each (lacks 10) line → lines_of (line ++ 10 ∷ rest) ≡ line ∷ lines_of rest
line-first [] rest h = refl
line-first (c ∷ cs) rest h =
    let p = and_parts (lacks 10 c) (list_all (lacks 10) cs) h in
    ap (λ b. cond b ([] ∷ lines_of (cs ++ 10 ∷ rest)) (onto_first c (lines_of (cs ++ 10 ∷ rest)))) (not-true (c == 10) p.0) ∙ ap (onto_first c) (line-first cs rest p.1)

-- Pieces and words

pub split-first : (test : ℕ → Bool) (xs ys : List ℕ) (c : ℕ) → Each (λ x. not (test x)) xs → test c ≡ true → slice_split test (xs ++ c ∷ ys) ≡ xs ∷ slice_split test ys
split-first test [] ys c h e = ap (λ b. cond b ([] ∷ slice_split test ys) (onto_first c (slice_split test ys))) e
split-first test (x ∷ xs) ys c h e =
    let p = and_parts (not (test x)) (list_all (λ y. not (test y)) xs) h in
    ap (λ b. cond b ([] ∷ slice_split test (xs ++ c ∷ ys)) (onto_first x (slice_split test (xs ++ c ∷ ys)))) (not-true (test x) p.0)
    ∙ ap (onto_first x) (split-first test xs ys c p.1 e)

pub split-one : (test : ℕ → Bool) (xs : List ℕ) → Each (λ x. not (test x)) xs → slice_split test xs ≡ xs ∷ []
split-one test [] h = refl
split-one test (x ∷ xs) h =
    let p = and_parts (not (test x)) (list_all (λ y. not (test y)) xs) h in
    ap (λ b. cond b ([] ∷ slice_split test xs) (onto_first x (slice_split test xs))) (not-true (test x) p.0) ∙ ap (onto_first x) (split-one test xs p.1)

some-word : (c : ℕ) (cs : List ℕ) (rest : List (List ℕ)) → filter is_word ((c ∷ cs) ∷ rest) ≡ (c ∷ cs) ∷ filter is_word rest
some-word c cs rest =
    let some : (length (c ∷ cs) == 0) ≡ false = ne_eqb (length (c ∷ cs)) 0 (λ e. omega (arith, e)) in
    ap (λ b. cond (not b) ((c ∷ cs) ∷ filter is_word rest) (filter is_word rest)) some

-- the first word
pub word-first : (c : ℕ) (cs ys : List ℕ) → Each inked (c ∷ cs) → words_of ((c ∷ cs) ++ 32 ∷ ys) ≡ (c ∷ cs) ∷ words_of ys
word-first c cs ys h = ap (filter is_word) (split-first is_blank (c ∷ cs) ys 32 h refl) ∙ some-word c cs (slice_split is_blank ys)

pub word-last : (c : ℕ) (cs : List ℕ) → Each inked (c ∷ cs) → words_of (c ∷ cs) ≡ (c ∷ cs) ∷ []
word-last c cs h = ap (filter is_word) (split-one is_blank (c ∷ cs) h) ∙ some-word c cs []
