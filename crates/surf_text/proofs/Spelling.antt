-- The decimal that is read is the one of the grammar.
use Rattle.std.proofs.Common.{◌≡◌, ℕ, ◌≤◌, ◌==◌, Bool, true, false, cond, not, ◌&&◌, ◌||◌, List, [], ◌∷◌, ◌++◌, length, Option, None, Some, refl, sym, ap, ◌∙◌, ◌⊎◌, ◌↔◌, arith, inl, inr, nat_le, subst}
use Rattle.std.specs.Prelude.{ℤ, pos, neg_ℤ, ◌-ℤ◌, ◌^◌, nat_lt}
use Rattle.std.specs.Option.{option_map, option_and_then}
use Rattle.std.specs.Str.Parse.{digits_value}
use Rattle.std.proofs.lemmas.Bool.Decides.{nat_tests}
use Rattle.std.specs.List.{list_all}
use Rattle.std.proofs.lemmas.Bool.{and_parts, and_from, not-true, eqb-true, leb-true, le-leb, lt-ltb}
use Rattle.std.proofs.lemmas.List.{append-nil}
use Rattle.std.proofs.lemmas.List.Folds.{list_all-append}
use Rattle.surf_text.specs.Cuts.{cut_at, cut_where, with_front}
use Rattle.surf_text.specs.Numbers.{is_digit, all_digits, is_number}
use Rattle.surf_text.specs.Decimals.{size_of, exponent_of, digits_of, pointed_decimal, scaled_of, is_mark, marked_decimal, decimal_of}
use Rattle.surf_text.specs.Grammar.{AreDigits, IsFront, Sign, Missing, Plus, Minus, sign_text, signed, IsExponent, IsBack, IsDecimal}
use Rattle.surf_text.specs.declared.numbers.Dec.{Dec}

-- a text that is cut at a byte that passes
record IsCut (test : ℕ → Bool) (text front back : List ℕ) : Type 0 where
  byte : ℕ
  passes : test byte ≡ true
  text_is : text ≡ front ++ byte ∷ back

-- no byte passes
abbrev avoids : (ℕ → Bool) → List ℕ → Bool
avoids test text = list_all (λ c. not (test c)) text

same_pair : (p q : List ℕ × List ℕ) → Some p ≡ Some q → p ≡ q
same_pair p q h = cc

module _ (test : ℕ → Bool) where
  cut-sound : (text front back : List ℕ) → cut_where test text ≡ Some (front, back) → IsCut test text front back
  cut-sound [] front back h = absurd cc
  cut-sound (c ∷ cs) front back h = by (test c) refl h (cut-sound cs)
    where
      onto : (o : Option (List ℕ × List ℕ)) → with_front c o ≡ Some (front, back) → ((f b : List ℕ) → o ≡ Some (f, b) → IsCut test cs f b) → IsCut test (c ∷ cs) front back
      onto None e ih = absurd cc
      onto (Some p) e ih =
          let first : c ∷ p.0 ≡ front = ap (λ (t : List ℕ × List ℕ). t.0) (same_pair (c ∷ p.0, p.1) (front, back) e) in
          let second : p.1 ≡ back = ap (λ (t : List ℕ × List ℕ). t.1) (same_pair (c ∷ p.0, p.1) (front, back) e) in
          let rest = ih p.0 p.1 refl in
          record { byte = rest.byte; passes = rest.passes; text_is = rw (← first, ← second) (ap (λ t. c ∷ t) rest.text_is) }

      by : (b : Bool) → test c ≡ b → cond b (Some ([], cs)) (with_front c (cut_where test cs)) ≡ Some (front, back) → ((f g : List ℕ) → cut_where test cs ≡ Some (f, g) → IsCut test cs f g) → IsCut test (c ∷ cs) front back
      by true t e ih =
          let first : [] ≡ front = ap (λ (t : List ℕ × List ℕ). t.0) (same_pair ([], cs) (front, back) e) in
          let second : cs ≡ back = ap (λ (t : List ℕ × List ℕ). t.1) (same_pair ([], cs) (front, back) e) in
          record { byte = c; passes = t; text_is = rw (← first, ← second) refl }
      by false t e ih = onto (cut_where test cs) e ih

  cut-front : (front : List ℕ) (byte : ℕ) (back : List ℕ) → test byte ≡ true → avoids test front ≡ true → cut_where test (front ++ byte ∷ back) ≡ Some (front, back)
  cut-front [] byte back t h = ap (λ b. cond b (Some ([], back)) (with_front byte (cut_where test back))) t
  cut-front (c ∷ cs) byte back t h =
      let p = and_parts (not (test c)) (avoids test cs) h in
      ap (λ b. cond b (Some ([], cs ++ byte ∷ back)) (with_front c (cut_where test (cs ++ byte ∷ back)))) (not-true (test c) p.0)
      ∙ ap (with_front c) (cut-front cs byte back t p.1)

  cut-missing : (text : List ℕ) → avoids test text ≡ true → cut_where test text ≡ None
  cut-missing [] h = refl
  cut-missing (c ∷ cs) h =
      let p = and_parts (not (test c)) (avoids test cs) h in
      ap (λ b. cond b (Some ([], cs)) (with_front c (cut_where test cs))) (not-true (test c) p.0) ∙ ap (with_front c) (cut-missing cs p.1)

  avoids-append : (xs ys : List ℕ) → avoids test xs ≡ true → avoids test ys ≡ true → avoids test (xs ++ ys) ≡ true
  avoids-append xs ys h g = list_all-append (λ c. not (test c)) xs ys ∙ and_from (avoids test xs) (avoids test ys) h g

  avoids-digits : ((c : ℕ) → is_digit c ≡ true → not (test c) ≡ true) → (xs : List ℕ) → all_digits xs ≡ true → avoids test xs ≡ true
  avoids-digits other [] g = refl
  avoids-digits other (c ∷ cs) g =
      let p = and_parts (is_digit c) (all_digits cs) g in and_from (not (test c)) (avoids test cs) (other c p.0) (avoids-digits other cs p.1)

digit-point : (c : ℕ) → is_digit c ≡ true → not (c == 46) ≡ true
digit-point c g = grind (arith, nat_tests)

digit-mark : (c : ℕ) → is_digit c ≡ true → not (is_mark c) ≡ true
digit-mark c g = grind (arith, nat_tests)

digit-sign : (c sign : ℕ) → is_digit sign ≡ false → is_digit c ≡ true → (c == sign) ≡ false
digit-sign c sign h g = grind (arith, nat_tests)

-- digits by the test, and the test by digits
number-parts : (most : ℕ) (text : List ℕ) → is_number most text ≡ true → AreDigits text 1 most
number-parts most text h =
    let a = and_parts (nat_le 1 (length text) && nat_le (length text) most) (all_digits text) h in
    let b = and_parts (nat_le 1 (length text)) (nat_le (length text) most) a.0 in
    record { digits = a.1; at_least = leb-true 1 (length text) b.0; at_most = leb-true (length text) most b.1 }

number-test : (least most : ℕ) (text : List ℕ) → AreDigits text 1 least → least ≤ most → is_number most text ≡ true
number-test least most text h l =
    and_from (nat_le 1 (length text) && nat_le (length text) most) (all_digits text)
    (and_from (nat_le 1 (length text)) (nat_le (length text) most) (le-leb 1 (length text) h.at_least) (le-leb (length text) most (omega (arith, h.at_most, l)))) h.digits

-- the size of an exponent
record IsSize (text : List ℕ) (n : ℕ) : Type 0 where
  digits : AreDigits text 1 2
  at_most : digits_value 10 text ≤ 9
  value : digits_value 10 text ≡ n

size-sound : (text : List ℕ) (n : ℕ) → size_of text ≡ Some n → IsSize text n
size-sound text n h = by (is_number 20 text && nat_lt (digits_value 10 text) (2 ^ 64)) refl h
  where
    small : (is_number 20 text && nat_lt (digits_value 10 text) (2 ^ 64)) ≡ true → (t : Bool) → (nat_le (digits_value 10 text) 9 && nat_le (length text) 2) ≡ t → cond t (Some (digits_value 10 text)) None ≡ Some n → IsSize text n
    small d true e g =
        let p = and_parts (nat_le (digits_value 10 text) 9) (nat_le (length text) 2) e in
        let q = number-parts 20 text (and_parts (is_number 20 text) (nat_lt (digits_value 10 text) (2 ^ 64)) d).0 in
        record {
          digits = record { digits = q.digits; at_least = q.at_least; at_most = leb-true (length text) 2 p.1 };
          at_most = leb-true (digits_value 10 text) 9 p.0;
          value = cc;
        }
    small d false e g = absurd cc

    by : (b : Bool) → (is_number 20 text && nat_lt (digits_value 10 text) (2 ^ 64)) ≡ b
        → option_and_then (λ (m : ℕ). cond (nat_le m 9 && nat_le (length text) 2) (Some m) None) (cond b (Some (digits_value 10 text)) None) ≡ Some n → IsSize text n
    by true d g = small d (nat_le (digits_value 10 text) 9 && nat_le (length text) 2) refl g
    by false d g = absurd cc

size-complete : (text : List ℕ) → AreDigits text 1 2 → digits_value 10 text ≤ 9 → size_of text ≡ Some (digits_value 10 text)
size-complete text h l =
    let within : nat_lt (digits_value 10 text) (2 ^ 64) ≡ true = lt-ltb (digits_value 10 text) (2 ^ 64) (omega arith) in
    let read : (is_number 20 text && nat_lt (digits_value 10 text) (2 ^ 64)) ≡ true
    = and_from (is_number 20 text) (nat_lt (digits_value 10 text) (2 ^ 64)) (number-test 2 20 text h (omega arith)) within in
    let small : (nat_le (digits_value 10 text) 9 && nat_le (length text) 2) ≡ true
    = and_from (nat_le (digits_value 10 text) 9) (nat_le (length text) 2) (le-leb (digits_value 10 text) 9 l) (le-leb (length text) 2 h.at_most) in
    ap (λ b. option_and_then (λ (m : ℕ). cond (nat_le m 9 && nat_le (length text) 2) (Some m) None) (cond b (Some (digits_value 10 text)) None)) read
    ∙ ap (λ b. cond b (Some (digits_value 10 text)) None) small

-- an exponent behind its mark
sized : (f : ℕ → ℤ) (text : List ℕ) (z : ℤ) → option_map f (size_of text) ≡ Some z → (n : ℕ) × IsSize text n × (f n ≡ z)
sized f text z h = by (size_of text) refl h
  where
    by : (o : Option ℕ) → size_of text ≡ o → option_map f o ≡ Some z → (n : ℕ) × IsSize text n × (f n ≡ z)
    by None e g = absurd cc
    by (Some n) e g = (n, size-sound text n e, (cc))

marked : (mark : ℕ) (sign : Sign) (size : List ℕ) (n : ℕ) (z : ℤ) → (mark ≡ 101) ⊎ (mark ≡ 69) → IsSize size n → signed sign n ≡ z → IsExponent (mark ∷ (sign_text sign ++ size)) z
marked mark sign size n z m s e = record {
  mark = mark;
  sign = sign;
  size = size;
  mark_is = m;
  text_is = refl;
  digits = s.digits;
  at_most = s.at_most;
  value = sym (ap (signed sign) s.value ∙ e);
}

exponent-sound : (mark : ℕ) (text : List ℕ) (z : ℤ) → (mark ≡ 101) ⊎ (mark ≡ 69) → exponent_of text ≡ Some z → IsExponent (mark ∷ text) z
exponent-sound mark [] z m h = absurd cc
exponent-sound mark (c ∷ cs) z m h = by (c == 43) (c == 45) refl refl h
  where
    by : (a b : Bool) → (c == 43) ≡ a → (c == 45) ≡ b
        → cond a (option_map pos (size_of cs)) (cond b (option_map (λ n. neg_ℤ (pos n)) (size_of cs)) (option_map pos (size_of (c ∷ cs)))) ≡ Some z
        → IsExponent (mark ∷ c ∷ cs) z
    by true b e f g =
        let s = sized pos cs z g in
        subst (λ x. IsExponent (mark ∷ x ∷ cs) z) (sym (eqb-true c 43 e)) (marked mark Plus cs s.0 z m s.1 s.2)
    by false true e f g =
        let s = sized (λ n. neg_ℤ (pos n)) cs z g in
        subst (λ x. IsExponent (mark ∷ x ∷ cs) z) (sym (eqb-true c 45 f)) (marked mark Minus cs s.0 z m s.1 s.2)
    by false false e f g =
        let s = sized pos (c ∷ cs) z g in
        marked mark Missing (c ∷ cs) s.0 z m s.1 s.2

exponent-complete : (sign : Sign) (size : List ℕ) → AreDigits size 1 2 → digits_value 10 size ≤ 9
    → exponent_of (sign_text sign ++ size) ≡ Some (signed sign (digits_value 10 size))
exponent-complete Plus size h l = ap (option_map pos) (size-complete size h l)
exponent-complete Minus size h l = ap (option_map (λ n. neg_ℤ (pos n))) (size-complete size h l)
exponent-complete Missing [] h l = absurd (omega (arith, h.at_least))
exponent-complete Missing (c ∷ cs) h l =
    let p = and_parts (is_digit c) (all_digits cs) h.digits in
    ap (λ a. cond a (option_map pos (size_of cs)) (cond (c == 45) (option_map (λ n. neg_ℤ (pos n)) (size_of cs)) (option_map pos (size_of (c ∷ cs))))) (digit-sign c 43 refl p.0)
    ∙ ap (λ b. cond b (option_map (λ n. neg_ℤ (pos n)) (size_of cs)) (option_map pos (size_of (c ∷ cs)))) (digit-sign c 45 refl p.0)
    ∙ ap (option_map pos) (size-complete (c ∷ cs) h l)

-- what stands before an exponent
record IsScaled (text : List ℕ) (exponent : ℤ) (d : Dec) : Type 0 where
  whole : List ℕ
  fraction : List ℕ
  front_is : IsFront text whole fraction
  digits : d.digits ≡ digits_value 10 (whole ++ fraction)
  power : d.exp ≡ exponent -ℤ pos (length fraction)

digits-sound : (text whole fraction : List ℕ) (exponent : ℤ) (d : Dec) → (text ≡ whole ++ 46 ∷ fraction) ⊎ ((text ≡ whole) × (fraction ≡ []))
    → digits_of whole fraction exponent ≡ Some d → IsScaled text exponent d
digits-sound text whole fraction exponent d t h = by (is_number 18 (whole ++ fraction)) refl h
  where
    by : (b : Bool) → is_number 18 (whole ++ fraction) ≡ b
        → cond b (Some (record { digits = digits_value 10 (whole ++ fraction); exp = exponent -ℤ pos (length fraction) })) None ≡ Some d → IsScaled text exponent d
    by true e g = record {
      whole = whole;
      fraction = fraction;
      front_is = record { text_is = t; digits = number-parts 18 (whole ++ fraction) e };
      digits = ap (λ (x : Dec). x.digits) (let same : d ≡ record { digits = digits_value 10 (whole ++ fraction); exp = exponent -ℤ pos (length fraction) } = cc in same);
      power = ap (λ (x : Dec). x.exp) (let same : d ≡ record { digits = digits_value 10 (whole ++ fraction); exp = exponent -ℤ pos (length fraction) } = cc in same);
    }
    by false e g = absurd cc

scaled-sound : (text : List ℕ) (exponent : ℤ) (d : Dec) → scaled_of text (Some exponent) ≡ Some d → IsScaled text exponent d
scaled-sound text exponent d h = by (cut_at 46 text) refl h
  where
    at_point : (front back : List ℕ) → IsCut (λ c. c == 46) text front back → text ≡ front ++ 46 ∷ back
    at_point front back cut = cut.text_is ∙ ap (λ c. front ++ c ∷ back) (eqb-true cut.byte 46 cut.passes)

    by : (o : Option (List ℕ × List ℕ)) → cut_at 46 text ≡ o → pointed_decimal text exponent o ≡ Some d → IsScaled text exponent d
    by None e g = digits-sound text text [] exponent d (inr (refl, refl)) g
    by (Some p) e g = digits-sound text p.0 p.1 exponent d (inl (at_point p.0 p.1 (cut-sound (λ c. c == 46) text p.0 p.1 e))) g

abbrev worth : List ℕ → List ℕ → ℤ → Dec
worth whole fraction exponent = record { digits = digits_value 10 (whole ++ fraction); exp = exponent -ℤ pos (length fraction) }

made : (n : ℕ) (z : ℤ) (d : Dec) → d.digits ≡ n → d.exp ≡ z → record { digits = n; exp = z } ≡ d
made n z d h g = rw (← h, ← g) refl

digits-complete : (whole fraction : List ℕ) (exponent : ℤ) → AreDigits (whole ++ fraction) 1 18 → digits_of whole fraction exponent ≡ Some (worth whole fraction exponent)
digits-complete whole fraction exponent h =
    ap (λ b. cond b (Some (worth whole fraction exponent)) None) (number-test 18 18 (whole ++ fraction) h (omega arith))

digits-front : (whole fraction : List ℕ) → all_digits (whole ++ fraction) ≡ true → (all_digits whole ≡ true) × (all_digits fraction ≡ true)
digits-front whole fraction h = and_parts (all_digits whole) (all_digits fraction) (sym (list_all-append is_digit whole fraction) ∙ h)

scaled-complete : (text whole fraction : List ℕ) (exponent : ℤ) → IsFront text whole fraction → scaled_of text (Some exponent) ≡ Some (worth whole fraction exponent)
scaled-complete text whole fraction exponent h = by h.text_is
  where
    parts : (all_digits whole ≡ true) × (all_digits fraction ≡ true)
    parts = digits-front whole fraction h.digits.digits

    by : (text ≡ whole ++ 46 ∷ fraction) ⊎ ((text ≡ whole) × (fraction ≡ [])) → scaled_of text (Some exponent) ≡ Some (worth whole fraction exponent)
    by (inl e) =
        ap (pointed_decimal text exponent) (ap (cut_at 46) e ∙ cut-front (λ c. c == 46) whole 46 fraction refl (avoids-digits (λ c. c == 46) digit-point whole parts.0))
        ∙ digits-complete whole fraction exponent h.digits
    by (inr e) =
        ap (pointed_decimal text exponent) (ap (cut_at 46) e.0 ∙ cut-missing (λ c. c == 46) whole (avoids-digits (λ c. c == 46) digit-point whole parts.0))
        ∙ ap (λ x. digits_of x [] exponent) e.0 ∙ ap (λ f. digits_of whole f exponent) (sym e.1)
        ∙ digits-complete whole fraction exponent h.digits

front-unmarked : (text whole fraction : List ℕ) → IsFront text whole fraction → avoids is_mark text ≡ true
front-unmarked text whole fraction h = by h.text_is
  where
    parts : (all_digits whole ≡ true) × (all_digits fraction ≡ true)
    parts = digits-front whole fraction h.digits.digits

    by : (text ≡ whole ++ 46 ∷ fraction) ⊎ ((text ≡ whole) × (fraction ≡ [])) → avoids is_mark text ≡ true
    by (inl e) =
        ap (avoids is_mark) e
        ∙ avoids-append is_mark whole (46 ∷ fraction) (avoids-digits is_mark digit-mark whole parts.0) (avoids-digits is_mark digit-mark fraction parts.1)
    by (inr e) = ap (avoids is_mark) e.0 ∙ avoids-digits is_mark digit-mark whole parts.0

-- decimals
with_exponent : (mark : ℕ) (text front back : List ℕ) (d : Dec) → (mark ≡ 101) ⊎ (mark ≡ 69) → text ≡ front ++ mark ∷ back
    → scaled_of front (exponent_of back) ≡ Some d → IsDecimal text d
with_exponent mark text front back d m t h = by (exponent_of back) refl h
  where
    by : (o : Option ℤ) → exponent_of back ≡ o → scaled_of front o ≡ Some d → IsDecimal text d
    by None e g = absurd cc
    by (Some z) e g =
        let s = scaled-sound front z d g in
        record {
          front = front;
          whole = s.whole;
          fraction = s.fraction;
          back = mark ∷ back;
          exponent = z;
          text_is = t;
          front_is = s.front_is;
          back_is = inr (exponent-sound mark back z m e);
          digits = s.digits;
          power = s.power;
        }

without_exponent : (text : List ℕ) (d : Dec) → scaled_of text (Some (pos 0)) ≡ Some d → IsDecimal text d
without_exponent text d h =
    let s = scaled-sound text (pos 0) d h in
    record {
      front = text;
      whole = s.whole;
      fraction = s.fraction;
      back = [];
      exponent = pos 0;
      text_is = sym (append-nil text);
      front_is = s.front_is;
      back_is = inl (refl, refl);
      digits = s.digits;
      power = s.power;
    }

mark_is : (c : ℕ) → is_mark c ≡ true → (c ≡ 101) ⊎ (c ≡ 69)
mark_is c h = by (c == 101) refl
  where
    by : (b : Bool) → (c == 101) ≡ b → (c ≡ 101) ⊎ (c ≡ 69)
    by true e = inl (eqb-true c 101 e)
    by false e = inr (eqb-true c 69 (sym (ap (λ b. b || c == 69) e) ∙ h))

mark_passes : (c : ℕ) → (c ≡ 101) ⊎ (c ≡ 69) → is_mark c ≡ true
mark_passes c (inl e) = ap is_mark e
mark_passes c (inr e) = ap is_mark e

pub decimal-sound : (text : List ℕ) (d : Dec) → decimal_of text ≡ Some d → IsDecimal text d
decimal-sound text d h = by (cut_where is_mark text) refl h
  where
    by : (o : Option (List ℕ × List ℕ)) → cut_where is_mark text ≡ o → marked_decimal text o ≡ Some d → IsDecimal text d
    by None e g = without_exponent text d g
    by (Some p) e g =
        let cut = cut-sound is_mark text p.0 p.1 e in with_exponent cut.byte text p.0 p.1 d (mark_is cut.byte cut.passes) cut.text_is g

pub decimal-complete : (text : List ℕ) (d : Dec) → IsDecimal text d → decimal_of text ≡ Some d
decimal-complete text d h = by h.back_is ∙ ap (λ x. Some x) value
  where
    unmarked : avoids is_mark h.front ≡ true
    unmarked = front-unmarked h.front h.whole h.fraction h.front_is

    value : worth h.whole h.fraction h.exponent ≡ d
    value = made (digits_value 10 (h.whole ++ h.fraction)) (h.exponent -ℤ pos (length h.fraction)) d h.digits h.power

    by : IsBack h.back h.exponent → decimal_of text ≡ Some (worth h.whole h.fraction h.exponent)
    by (inl e) =
        ap decimal_of (h.text_is ∙ ap (λ b. h.front ++ b) e.0 ∙ append-nil h.front)
        ∙ ap (marked_decimal h.front) (cut-missing is_mark h.front unmarked)
        ∙ ap (λ z. scaled_of h.front (Some z)) (sym e.1) ∙ scaled-complete h.front h.whole h.fraction h.exponent h.front_is
    by (inr e) =
        let back : List ℕ = sign_text e.sign ++ e.size in
        ap decimal_of (h.text_is ∙ ap (λ b. h.front ++ b) e.text_is)
        ∙ ap (marked_decimal (h.front ++ e.mark ∷ back)) (cut-front is_mark h.front e.mark back (mark_passes e.mark e.mark_is) unmarked)
        ∙ ap (scaled_of h.front) (exponent-complete e.sign e.size e.digits e.at_most ∙ ap (λ z. Some z) (sym e.value))
        ∙ scaled-complete h.front h.whole h.fraction h.exponent h.front_is

pub read_as : (text : List ℕ) (o : Option Dec) → o ≡ decimal_of text → (d : Dec) → (o ≡ Some d) ↔ IsDecimal text d
read_as text o e d = (λ h. decimal-sound text d (sym e ∙ h), λ h. e ∙ decimal-complete text d h)
