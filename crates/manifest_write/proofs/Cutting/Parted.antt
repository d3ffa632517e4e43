-- What holds of a text and of its parts, where it is cut at bytes of ASCII.
use Rattle.std.proofs.Common.{◌≡◌, ℕ, ◌+◌, ◌<◌, Bool, true, false, cond, ◌&&◌, List, [], ◌∷◌, ◌++◌, length, drop, get_or, filter, Option, None, Some, refl, sym, ap, subst, append_assoc, append-nil, arith}
use Rattle.std.specs.Prelude.{nat_eq, codes}
use Rattle.std.specs.List.{list_all, slice_split, onto_first, starts_with, AllByRecursion}
use Rattle.std.specs.Str.{IsUtf8}
use Rattle.std.proofs.Math.Seq.{take-append_seam, drop-append-add, get_or-append_seam}
use Rattle.std.proofs.lemmas.Bool.{and_parts}
use Rattle.std.proofs.lemmas.Bool.Decides.{nat_tests}
use Rattle.std.proofs.lemmas.List.{length-append}
use Rattle.std.proofs.lemmas.Str.{IsUtf8-take, IsUtf8-drop, IsCharBoundary-before_ascii, IsCharBoundary-after_ascii}
use Rattle.surf_text.specs.Lines.{is_blank, is_feed, trim_front, trim_back, onto_trimmed, trimmed, lines_of}
use Rattle.surf_text.specs.Cuts.{cut_at, with_front, is_word, words_of}
use Rattle.surf_text.specs.Passing.{Each}
use Rattle.surf_text.proofs.LawLemmas.{blank_ascii}
use Rattle.manifest_read.specs.Names.{cut_arrow}
use Rattle.manifest_write.proofs.Cutting.Bytes.{each-parts, cut-parts}

-- it holds of what stands before a byte of ASCII, and of what stands after it
abbrev pub Parted : (List ℕ → Type 0) → Type 0
Parted P = (xs ys : List ℕ) (c : ℕ) → c < 128 → P (xs ++ c ∷ ys) → P xs × P ys

pub utf8-parted : Parted IsUtf8
utf8-parted xs ys c l u =
    let text = xs ++ c ∷ ys in
    let at : get_or text (length xs) 0 ≡ c = get_or-append_seam xs c ys 0 in
    let low : get_or text (length xs) 0 < 128 = omega (arith, at) in
    let within : length xs < length text = omega (arith, length-append xs (c ∷ ys)) in (
      subst IsUtf8 (take-append_seam xs (c ∷ ys)) (IsUtf8-take text (length xs) u (IsCharBoundary-before_ascii text (length xs) within low)),
      subst IsUtf8 (drop-append-add xs (c ∷ ys) 1) (IsUtf8-drop text (length xs + 1) u (IsCharBoundary-after_ascii text (length xs) u within low)),
    )

pub each-parted : (test : ℕ → Bool) → Parted (Each test)
each-parted test xs ys c l h =
    let p = each-parts test xs (c ∷ ys) h in
    (p.0, (and_parts (test c) (list_all test ys) p.1).1)

pub both-parted : (P Q : List ℕ → Type 0) → Parted P → Parted Q → Parted (λ t. P t × Q t)
both-parted P Q p q xs ys c l h =
    let a = p xs ys c l h.0 in
    let b = q xs ys c l h.1 in
    ((a.0, b.0), (a.1, b.1))

-- a text before the first of these
abbrev onto : List ℕ → List (List ℕ) → List (List ℕ)
onto before [] = before ∷ []
onto before (t ∷ ts) = (before ++ t) ∷ ts

module _ (P : List ℕ → Type 0) (parted : Parted P) where
  front-parted : (text : List ℕ) → P text → P (trim_front text)
  front-parted [] h = h
  front-parted (c ∷ cs) h = by (is_blank c) refl (λ g. front-parted cs g)
    where
      by : (b : Bool) → is_blank c ≡ b → (P cs → P (trim_front cs)) → P (cond b (trim_front cs) (c ∷ cs))
      by true e ih = ih (parted [] cs c (blank_ascii c e) h).1
      by false e ih = h

  trimmed-parted : (before : List ℕ) (c : ℕ) (t : List ℕ) → P ((before ++ c ∷ []) ++ t) → P (before ++ onto_trimmed c t)
  trimmed-parted before c [] h = by (is_blank c) refl
    where
      alone : P (before ++ c ∷ [])
      alone = subst P (append-nil (before ++ c ∷ [])) h

      by : (b : Bool) → is_blank c ≡ b → P (before ++ cond b [] (c ∷ []))
      by true e = subst P (sym (append-nil before)) (parted before [] c (blank_ascii c e) alone).0
      by false e = alone
  trimmed-parted before c (d ∷ ds) h = subst P (append_assoc before (c ∷ []) (d ∷ ds)) h

  back-parted : (text before : List ℕ) → P (before ++ text) → P (before ++ trim_back text)
  back-parted [] before h = h
  back-parted (c ∷ cs) before h = trimmed-parted before c (trim_back cs) (back-parted cs (before ++ c ∷ []) (subst P (sym (append_assoc before (c ∷ []) cs)) h))

  pub trim-parted : (text : List ℕ) → P text → P (trimmed text)
  trim-parted text h = back-parted (trim_front text) [] (front-parted text h)

  pub cut-parted : (byte : ℕ) (text front back : List ℕ) → byte < 128 → cut_at byte text ≡ Some (front, back) → P text → P front × P back
  cut-parted byte text front back l e h = parted front back byte l (subst P (cut-parts byte text front back e).text_is h)

  onto-first : (before : List ℕ) (c : ℕ) (ts : List (List ℕ)) → AllByRecursion P (onto (before ++ c ∷ []) ts) → AllByRecursion P (onto before (onto_first c ts))
  onto-first before c [] h = h
  onto-first before c (t ∷ ts) h = (subst P (append_assoc before (c ∷ []) t) h.0, h.1)

  onto-none : (ts : List (List ℕ)) → AllByRecursion P (onto [] ts) → AllByRecursion P ts
  onto-none [] h = tt
  onto-none (t ∷ ts) h = h

  module _ (test : ℕ → Bool) (ascii : (c : ℕ) → test c ≡ true → c < 128) where
    split-onto : (text before : List ℕ) → P (before ++ text) → AllByRecursion P (onto before (slice_split test text))
    split-onto [] before h = (h, tt)
    split-onto (c ∷ cs) before h = by (test c) refl (split-onto cs)
      where
        by : (b : Bool) → test c ≡ b → ((before : List ℕ) → P (before ++ cs) → AllByRecursion P (onto before (slice_split test cs)))
            → AllByRecursion P (onto before (cond b ([] ∷ slice_split test cs) (onto_first c (slice_split test cs))))
        by true e ih =
            let p = parted before cs c (ascii c e) h in
            (subst P (sym (append-nil before)) p.0, onto-none (slice_split test cs) (ih [] p.1))
        by false e ih = onto-first before c (slice_split test cs) (ih (before ++ c ∷ []) (subst P (sym (append_assoc before (c ∷ []) cs)) h))

    pub split-parted : (text : List ℕ) → P text → AllByRecursion P (slice_split test text)
    split-parted text h = onto-none (slice_split test text) (split-onto text [] h)

  lines-onto : (text before : List ℕ) → P (before ++ text) → AllByRecursion P (onto before (lines_of text))
  lines-onto [] before h = (subst P (append-nil before) h, tt)
  lines-onto (c ∷ cs) before h = by (is_feed c) refl (lines-onto cs)
    where
      feed_ascii : is_feed c ≡ true → c < 128
      feed_ascii e = grind (arith, nat_tests)

      by : (b : Bool) → is_feed c ≡ b → ((before : List ℕ) → P (before ++ cs) → AllByRecursion P (onto before (lines_of cs)))
          → AllByRecursion P (onto before (cond b ([] ∷ lines_of cs) (onto_first c (lines_of cs))))
      by true e ih =
          let p = parted before cs c (feed_ascii e) h in
          (subst P (sym (append-nil before)) p.0, onto-none (lines_of cs) (ih [] p.1))
      by false e ih = onto-first before c (lines_of cs) (ih (before ++ c ∷ []) (subst P (sym (append_assoc before (c ∷ []) cs)) h))

  pub lines-parted : (text : List ℕ) → P text → AllByRecursion P (lines_of text)
  lines-parted text h = onto-none (lines_of text) (lines-onto text [] h)

  filter-parted : (test : List ℕ → Bool) (ts : List (List ℕ)) → AllByRecursion P ts → AllByRecursion P (filter test ts)
  filter-parted test [] h = tt
  filter-parted test (t ∷ ts) h =
      elim (test t) as (λ b. AllByRecursion P (cond b (t ∷ filter test ts) (filter test ts))) [ true ↦ (h.0, filter-parted test ts h.1) | false ↦ filter-parted test ts h.1 ]

  pub words-parted : (text : List ℕ) → P text → AllByRecursion P (words_of text)
  words-parted text h = filter-parted is_word (slice_split is_blank text) (split-parted is_blank blank_ascii text h)

-- where a text has an arrow
same_pair : (p q : List ℕ × List ℕ) → Some p ≡ Some q → p ≡ q
same_pair p q h = cc

two-bytes : (c d : ℕ) → (nat_eq 45 c && (nat_eq 62 d && true)) ≡ true → (c ≡ 45) × (d ≡ 62)
two-bytes c d h = grind (arith, nat_tests)

not_alone : (b : Bool) → (b && false) ≡ true → ⊥
not_alone true h = cc
not_alone false h = cc

arrow-first : (text : List ℕ) → starts_with nat_eq text (codes "->") ≡ true → text ≡ 45 ∷ 62 ∷ drop 2 text
arrow-first [] h = absurd cc
arrow-first (c ∷ []) h = absurd (not_alone (nat_eq 45 c) h)
arrow-first (c ∷ d ∷ ds) h = let p = two-bytes c d h in rw (p.0, p.1) refl

pub arrow-parts : (text front back : List ℕ) → cut_arrow text ≡ Some (front, back) → text ≡ front ++ 45 ∷ 62 ∷ back
arrow-parts [] front back h = absurd cc
arrow-parts (c ∷ cs) front back h = by (starts_with nat_eq (c ∷ cs) (codes "->")) refl h (arrow-parts cs)
  where
    after : (o : Option (List ℕ × List ℕ)) → with_front c o ≡ Some (front, back) → ((f b : List ℕ) → o ≡ Some (f, b) → cs ≡ f ++ 45 ∷ 62 ∷ b) → c ∷ cs ≡ front ++ 45 ∷ 62 ∷ back
    after None e ih = absurd cc
    after (Some p) e ih =
        let first : c ∷ p.0 ≡ front = ap (λ (t : List ℕ × List ℕ). t.0) (same_pair (c ∷ p.0, p.1) (front, back) e) in
        let second : p.1 ≡ back = ap (λ (t : List ℕ × List ℕ). t.1) (same_pair (c ∷ p.0, p.1) (front, back) e) in
        rw (← first, ← second) (ap (λ t. c ∷ t) (ih p.0 p.1 refl))

    by : (b : Bool) → starts_with nat_eq (c ∷ cs) (codes "->") ≡ b → cond b (Some ([], drop 1 cs)) (with_front c (cut_arrow cs)) ≡ Some (front, back)
        → ((f g : List ℕ) → cut_arrow cs ≡ Some (f, g) → cs ≡ f ++ 45 ∷ 62 ∷ g) → c ∷ cs ≡ front ++ 45 ∷ 62 ∷ back
    by true t e ih =
        let first : [] ≡ front = ap (λ (x : List ℕ × List ℕ). x.0) (same_pair ([], drop 1 cs) (front, back) e) in
        let second : drop 1 cs ≡ back = ap (λ (x : List ℕ × List ℕ). x.1) (same_pair ([], drop 1 cs) (front, back) e) in
        rw (← first, ← second) (arrow-first (c ∷ cs) t)
    by false t e ih = after (cut_arrow cs) e ih

pub arrow-parted : (P : List ℕ → Type 0) → Parted P → (text front back : List ℕ) → cut_arrow text ≡ Some (front, back) → P text → P front × P back
arrow-parted P parted text front back e h =
    let p = parted front (62 ∷ back) 45 (omega arith) (subst P (arrow-parts text front back e) h) in
    (p.0, (parted [] back 62 (omega arith) p.1).1)
