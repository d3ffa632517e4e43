-- Numbers, rates and durations are read as they were written.
use Rattle.std.proofs.Common.{◌≡◌, ℕ, zero, suc, ◌+◌, ◌*◌, ◌/◌, ◌%◌, ◌^◌, ◌<◌, ◌≤◌, ◌==◌, Bool, true, false, cond, List, [], ◌∷◌, ◌++◌, length, replicate, None, Some, refl, sym, ap, ◌∙◌, inl, inr, arith, decimal, codes, subst, le-leb, append-nil, div-one, eqb-true, ne_eqb, mul_assoc, mul_comm, pow-suc, mul-div_cancel}
use Rattle.std.specs.Prelude.{pos, negsuc, ◌-ℤ◌, nat_le}
use Rattle.std.specs.Option.{option_map, option_and_then}
use Rattle.std.specs.Str.Parse.{digits_value, digits_value_after}
use Rattle.std.specs.List.{list_all}
use Rattle.std.specs.Char.{digit_value}
use Rattle.std.proofs.lemmas.Str.{digit_value_digit}
use Rattle.std.proofs.Math.IntN.{+ℤ_idl}
use Rattle.std.proofs.lemmas.Nat.{pow-add}
use Rattle.std.proofs.lemmas.Bool.{and_parts, and_from}
use Rattle.std.proofs.lemmas.Bool.Decides.{nat_tests}
use Rattle.std.proofs.lemmas.List.{length-append, length-replicate}
use Rattle.std.proofs.lemmas.List.Folds.{list_all-append}
use Rattle.std.proofs.lemmas.Fmt.{decimal_nonempty, length-decimal-le}
use Rattle.surf_text.specs.Numbers.{is_digit, all_digits, u64_of}
pub use Rattle.surf_text.proofs.LawLemmas.{decimal-digits, decimal-value, number-read}
use Rattle.surf_text.specs.Lines.{trimmed}
use Rattle.surf_text.specs.Cuts.{cut_at}
use Rattle.surf_text.specs.Decimals.{decimal_of}
use Rattle.surf_text.specs.declared.numbers.Dec.{Dec}
use Rattle.surf_text.specs.Passing.{Each, lacks, inked}
use Rattle.surf_text.proofs.LawLemmas.{after-append, decimal-complete, each-append, each-weaker, cut-front, cut-missing, ends-append}
use Rattle.surf_kinds.specs.Rates.{Fraction, IsReduced}
use Rattle.rates.specs.Rates.{scaled, whole_of, over, by_slash, fraction_of, gcd_of, bounded, reduced, rate_of}
use Rattle.rates.specs.Durations.{ticks_of, duration_of}
use Rattle.rates.proofs.LawLemmas.{gcd_of-is, power_positive}
use Rattle.manifest_write.specs.Canon.{before_digits, without_zeros, last_digit, six_digits, duration_text, rate_text}
use Rattle.manifest_write.proofs.Cutting.Tight.{IsTight, inked-tight, tight-append, tight-trimmed}

-- digits, each by itself
pub each-digit : (text : List ℕ) → all_digits text ≡ true → Each is_digit text
each-digit [] h = refl
each-digit (c ∷ cs) h =
    let p = and_parts (is_digit c) (all_digits cs) h in
    and_from (is_digit c) (list_all is_digit cs) p.0 (each-digit cs p.1)

digit-lacks : (byte : ℕ) → is_digit byte ≡ false → (c : ℕ) → is_digit c ≡ true → lacks byte c ≡ true
digit-lacks byte h c g = grind (arith, nat_tests)

pub digits-lack : (byte : ℕ) (text : List ℕ) → is_digit byte ≡ false → all_digits text ≡ true → Each (lacks byte) text
digits-lack byte text h g = each-weaker is_digit (lacks byte) (digit-lacks byte h) text (each-digit text g)

digit-inked : (c : ℕ) → is_digit c ≡ true → inked c ≡ true
digit-inked c h = grind (arith, nat_tests)

-- digits have no blanks at their ends
pub digits-tight : (text : List ℕ) → 0 < length text → all_digits text ≡ true → IsTight text
digits-tight [] l h = absurd (omega arith)
digits-tight (c ∷ cs) l h = inked-tight c cs (each-weaker is_digit inked digit-inked (c ∷ cs) (each-digit (c ∷ cs) h))

pub decimal-tight : (n : ℕ) → n < 2 ^ 64 → IsTight (decimal n)
decimal-tight n h = digits-tight (decimal n) (decimal_nonempty n h) (decimal-digits n h)

-- Rates

-- 1 to 18 digits are a whole number
pub whole-read : (n : ℕ) → n ≤ 1000000000 → whole_of (decimal n) ≡ Some n
whole-read n h =
    let wide : n < 2 ^ 64 = omega arith in
    let few : length (decimal n) ≤ 10 = length-decimal-le 10 n (omega arith) (omega arith) wide in
    ap (λ b. cond b (u64_of (decimal n)) None) (le-leb (length (decimal n)) 18 (omega (arith, few))) ∙ number-read n wide

-- and a decimal
pub decimal-read : (n : ℕ) → n ≤ 1000000000 → decimal_of (decimal n) ≡ Some (record { digits = n; exp = pos 0 })
decimal-read n h =
    let wide : n < 2 ^ 64 = omega arith in
    let text = decimal n in
    let few : length text ≤ 10 = length-decimal-le 10 n (omega arith) (omega arith) wide in
    decimal-complete text (record { digits = n; exp = pos 0 }) (record {
      front = text;
      whole = text;
      fraction = [];
      back = [];
      exponent = pos 0;
      text_is = sym (append-nil text);
      front_is = record {
        text_is = inr (refl, refl);
        digits = record {
          digits = ap all_digits (append-nil text) ∙ decimal-digits n wide;
          at_least = omega (arith, ap length (append-nil text), decimal_nonempty n wide);
          at_most = omega (arith, ap length (append-nil text), few);
        };
      };
      back_is = inl (refl, refl);
      digits = sym (ap (digits_value 10) (append-nil text) ∙ decimal-value n wide);
      power = refl;
    })

-- in lowest terms already
reduced-same : (r : Fraction) → IsReduced r → reduced r ≡ Some r
reduced-same r h =
    let gcd : gcd_of r.p r.q ≡ 1 = (gcd_of-is r.p r.q 1 h.lowest h.q_at_least).0 in
    ap (λ g. bounded (r.p / g) (r.q / g)) gcd ∙ ap (λ p. bounded p (r.q / 1)) (div-one r.p) ∙ ap (bounded r.p) (div-one r.q)
    ∙ ap (λ b. cond b (Some r) None) (and_from (nat_le r.p 1000000000) (nat_le r.q 1000000000) (le-leb r.p 1000000000 h.p_at_most) (le-leb r.q 1000000000 h.q_at_most))

pub rate-tight : (r : Fraction) → IsReduced r → IsTight (rate_text r)
rate-tight r h = by (r.q == 1)
  where
    p-small : r.p < 2 ^ 64
    p-small = omega (arith, h.p_at_most)

    q-small : r.q < 2 ^ 64
    q-small = omega (arith, h.q_at_most)

    by : (b : Bool) → IsTight (decimal r.p ++ cond b [] (codes "/" ++ decimal r.q))
    by true = subst IsTight (sym (append-nil (decimal r.p))) (decimal-tight r.p p-small)
    by false = tight-append (decimal r.p) (codes "/" ++ decimal r.q) (decimal-tight r.p p-small).front (ends-append (codes "/") (decimal r.q) (decimal-tight r.q q-small).back)

whole-rate : (r : Fraction) → IsReduced r → r.q ≡ 1 → option_and_then reduced (by_slash (decimal r.p) (cut_at 47 (decimal r.p))) ≡ Some r
whole-rate r h one =
    let small : r.p < 2 ^ 64 = omega (arith, h.p_at_most) in
    let unit : r.p * 10 ^ 0 ≡ r.p = omega arith in
    ap (λ o. option_and_then reduced (by_slash (decimal r.p) o)) (cut-missing 47 (decimal r.p) (digits-lack 47 (decimal r.p) refl (decimal-digits r.p small)))
    ∙ ap (λ o. option_and_then reduced (option_map (λ d. scaled d.digits d.exp) o)) (decimal-read r.p h.p_at_most)
    ∙ ap (λ p. reduced (record { p = p; q = 1 })) unit
    ∙ ap (λ q. reduced (record { p = r.p; q = q })) (sym one)
    ∙ reduced-same r h

quotient-rate : (r : Fraction) → IsReduced r → option_and_then reduced (by_slash (decimal r.p ++ 47 ∷ decimal r.q) (cut_at 47 (decimal r.p ++ 47 ∷ decimal r.q))) ≡ Some r
quotient-rate r h =
    let p-small : r.p < 2 ^ 64 = omega (arith, h.p_at_most) in
    let q-small : r.q < 2 ^ 64 = omega (arith, h.q_at_most) in
    let text = decimal r.p ++ 47 ∷ decimal r.q in
    ap (λ o. option_and_then reduced (by_slash text o)) (cut-front 47 (decimal r.p) (decimal r.q) (digits-lack 47 (decimal r.p) refl (decimal-digits r.p p-small)))
    ∙ ap (λ t. option_and_then reduced (over (whole_of t) (whole_of (trimmed (decimal r.q))))) (tight-trimmed (decimal r.p) (decimal-tight r.p p-small))
    ∙ ap (λ t. option_and_then reduced (over (whole_of (decimal r.p)) (whole_of t))) (tight-trimmed (decimal r.q) (decimal-tight r.q q-small))
    ∙ ap (λ o. option_and_then reduced (over o (whole_of (decimal r.q)))) (whole-read r.p h.p_at_most)
    ∙ ap (λ o. option_and_then reduced (over (Some r.p) o)) (whole-read r.q h.q_at_most)
    ∙ ap (λ b. option_and_then reduced (cond b None (Some (record { p = r.p; q = r.q })))) (ne_eqb r.q 0 (λ e. omega (arith, h.q_at_least, e)))
    ∙ reduced-same r h

pub rate-read : (r : Fraction) → IsReduced r → rate_of (rate_text r) ≡ Some r
rate-read r h = ap (λ t. option_and_then reduced (fraction_of t)) (tight-trimmed (rate_text r) (rate-tight r h)) ∙ by (r.q == 1) refl
  where
    by : (b : Bool) → (r.q == 1) ≡ b → option_and_then reduced (fraction_of (decimal r.p ++ cond b [] (codes "/" ++ decimal r.q))) ≡ Some r
    by true e = ap (λ t. option_and_then reduced (fraction_of t)) (append-nil (decimal r.p)) ∙ whole-rate r h (eqb-true r.q 1 e)
    by false e = quotient-rate r h

pub rate-lacks : (byte : ℕ) (r : Fraction) → IsReduced r → is_digit byte ≡ false → lacks byte 47 ≡ true → Each (lacks byte) (rate_text r)
rate-lacks byte r h d s = by (r.q == 1)
  where
    p-lacks : Each (lacks byte) (decimal r.p)
    p-lacks = digits-lack byte (decimal r.p) d (decimal-digits r.p (omega (arith, h.p_at_most)))

    q-lacks : Each (lacks byte) (decimal r.q)
    q-lacks = digits-lack byte (decimal r.q) d (decimal-digits r.q (omega (arith, h.q_at_most)))

    by : (b : Bool) → Each (lacks byte) (decimal r.p ++ cond b [] (codes "/" ++ decimal r.q))
    by true = each-append (lacks byte) (decimal r.p) [] p-lacks refl
    by false = each-append (lacks byte) (decimal r.p) (codes "/" ++ decimal r.q) p-lacks (and_from (lacks byte 47) (list_all (lacks byte) (decimal r.q)) s q-lacks)

-- Durations

-- the zeros that were left out
pub zeros-back : (xs : List ℕ) → (n : ℕ) × (without_zeros xs ++ replicate n 48 ≡ xs)
zeros-back [] = (0, refl)
zeros-back (c ∷ cs) = by c (without_zeros cs) cs (zeros-back cs)
  where
    by : (c : ℕ) (front cs : List ℕ) → (n : ℕ) × (front ++ replicate n 48 ≡ cs) → (n : ℕ) × (before_digits c front ++ replicate n 48 ≡ c ∷ cs)
    by c [] cs d = zero (c == 48) refl
      where
        zero : (b : Bool) → (c == 48) ≡ b → (n : ℕ) × (cond b [] (c ∷ []) ++ replicate n 48 ≡ c ∷ cs)
        zero true e = (suc d.0, ap (λ t. 48 ∷ t) d.1 ∙ ap (λ x. x ∷ cs) (sym (eqb-true c 48 e)))
        zero false e = (d.0, ap (λ t. c ∷ t) d.1)
    by c (k ∷ ks) cs d = (d.0, ap (λ t. c ∷ t) d.1)

zeros-value : (n k : ℕ) → digits_value_after 10 n (replicate k 48) ≡ n * 10 ^ k
zeros-value n zero = omega arith
zeros-value n (suc k) =
    let e : n * 10 + 0 ≡ n * 10 = omega arith in
    let f : n * 10 * 10 ^ k ≡ n * 10 ^ suc k = mul_assoc n 10 (10 ^ k) ∙ ap (λ x. n * x) (mul_comm 10 (10 ^ k) ∙ sym (pow-suc 10 k)) in
    ap (λ m. digits_value_after 10 m (replicate k 48)) e ∙ zeros-value (n * 10) k ∙ f

-- the value of the last digit
digit-value : (n : ℕ) → digit_value (last_digit n) ≡ n % 10
digit-value n =
    let low : 48 ≤ last_digit n = omega arith in
    let high : last_digit n ≤ 57 = omega arith in
    omega (arith, digit_value_digit (last_digit n) (low, high))

six-value : (w n : ℕ) → n < 1000000 → digits_value_after 10 w (six_digits n) ≡ w * 1000000 + n
six-value w n h =
    omega (arith, digit-value (n / 100000), digit-value (n / 10000), digit-value (n / 1000), digit-value (n / 100), digit-value (n / 10), digit-value n)

ticks-scaled : (digits k : ℕ) → ticks_of (record { digits = digits; exp = pos 0 -ℤ pos k }) ≡ digits * 1000000 / 10 ^ k
ticks-scaled digits zero = let e : digits * 10 ^ 0 * 1000000 ≡ digits * 1000000 = omega arith in ap (λ n. n / 1) e
ticks-scaled digits (suc k) = ap (λ z. (scaled digits z).p * 1000000 / (scaled digits z).q) (+ℤ_idl (negsuc k))

duration-by : (text : List ℕ) (d : Dec) (ticks : ℕ) → decimal_of text ≡ Some d → ticks_of d ≡ ticks → ticks ≤ 10 ^ 15 → duration_of text ≡ Some ticks
duration-by text d ticks e f h =
    ap (option_and_then (λ (x : Dec). cond (nat_le (ticks_of x) (10 ^ 15)) (Some (ticks_of x)) None)) e
    ∙ ap (λ n. cond (nat_le n (10 ^ 15)) (Some n) None) f
    ∙ ap (λ b. cond b (Some ticks) None) (le-leb ticks (10 ^ 15) h)

whole-duration : (w : ℕ) → w ≤ 1000000000 → duration_of (decimal w) ≡ Some (w * 1000000)
whole-duration w h =
    duration-by (decimal w) (record { digits = w; exp = pos 0 }) (w * 1000000) (decimal-read w h) (ticks-scaled w 0 ∙ (let e : w * 1000000 / 10 ^ 0 ≡ w * 1000000 = omega arith in e)) (omega arith)

six-digits : (n : ℕ) → all_digits (six_digits n) ≡ true
six-digits n = six (n / 100000) (n / 10000) (n / 1000) (n / 100) (n / 10) n
  where
    digit : (m : ℕ) → is_digit (last_digit m) ≡ true
    digit m = grind (arith, nat_tests)

    six : (a b c d e f : ℕ) → all_digits (last_digit a ∷ last_digit b ∷ last_digit c ∷ last_digit d ∷ last_digit e ∷ last_digit f ∷ []) ≡ true
    six a b c d e f = rw (digit a, digit b, digit c, digit d, digit e, digit f) refl

-- the digits of a part of a unit
pub record IsPart (n : ℕ) (text : List ℕ) : Type 0 where
  pub digits : all_digits text ≡ true
  pub few : length text ≤ 6
  pub value : (w : ℕ) → digits_value_after 10 w text * 1000000 / 10 ^ length text ≡ w * 1000000 + n

pub part-digits : (n : ℕ) → n < 1000000 → IsPart n (without_zeros (six_digits n))
part-digits n h =
    let front = without_zeros (six_digits n) in
    let back = zeros-back (six_digits n) in
    let gone = back.0 in
    let all : front ++ replicate gone 48 ≡ six_digits n = back.1 in
    let count : length front + gone ≡ 6 = omega (arith, ap length all, length-append front (replicate gone 48), length-replicate {A = ℕ} gone 48) in
    record {
      digits = (and_parts (all_digits front) (all_digits (replicate gone 48)) (sym (list_all-append is_digit front (replicate gone 48)) ∙ ap all_digits all ∙ six-digits n)).0;
      few = omega (arith, count);
      value = λ w.
          (let value : digits_value_after 10 w front * 10 ^ gone ≡ w * 1000000 + n
          = sym (zeros-value (digits_value_after 10 w front) gone) ∙ sym (after-append front w (replicate gone 48)) ∙ ap (digits_value_after 10 w) all ∙ six-value w n h in
          split (digits_value_after 10 w front) (length front) gone (w * 1000000 + n) count value);
    }
  where
    split : (d k j t : ℕ) → k + j ≡ 6 → d * 10 ^ j ≡ t → d * 1000000 / 10 ^ k ≡ t
    split d k j t c v =
        let power : 10 ^ k * 10 ^ j ≡ 1000000 = sym (pow-add 10 k j) ∙ ap (λ x. 10 ^ x) c in
        ap (λ x. d * x / 10 ^ k) (sym power ∙ mul_comm (10 ^ k) (10 ^ j)) ∙ ap (λ x. x / 10 ^ k) (sym (mul_assoc d (10 ^ j) (10 ^ k)) ∙ ap (λ x. x * 10 ^ k) v)
        ∙ mul-div_cancel t (power_positive k)

part-duration : (w n : ℕ) (part : List ℕ) → w ≤ 1000000000 → n < 1000000 → w * 1000000 + n ≤ 10 ^ 15 → IsPart n part → duration_of (decimal w ++ 46 ∷ part) ≡ Some (w * 1000000 + n)
part-duration w n part h l most p =
    let wide : w < 2 ^ 64 = omega arith in
    let whole = decimal w in
    let text = whole ++ 46 ∷ part in
    let few : length whole ≤ 10 = length-decimal-le 10 w (omega arith) (omega arith) wide in
    let value : digits_value 10 (whole ++ part) ≡ digits_value_after 10 w part = after-append whole 0 part ∙ ap (λ x. digits_value_after 10 x part) (decimal-value w wide) in
    duration-by text (record { digits = digits_value_after 10 w part; exp = pos 0 -ℤ pos (length part) }) (w * 1000000 + n)
    (decimal-complete text _ (record {
      front = text;
      whole = whole;
      fraction = part;
      back = [];
      exponent = pos 0;
      text_is = sym (append-nil text);
      front_is = record {
        text_is = inl refl;
        digits = record {
          digits = list_all-append is_digit whole part ∙ and_from (all_digits whole) (all_digits part) (decimal-digits w wide) p.digits;
          at_least = omega (arith, length-append whole part, decimal_nonempty w wide);
          at_most = omega (arith, length-append whole part, few, p.few);
        };
      };
      back_is = inl (refl, refl);
      digits = sym value;
      power = refl;
    }))
    (ticks-scaled (digits_value_after 10 w part) (length part) ∙ p.value w) most

pub duration-read : (ticks : ℕ) → ticks ≤ 10 ^ 15 → duration_of (duration_text ticks) ≡ Some ticks
duration-read ticks h = by (ticks % 1000000 == 0) refl
  where
    units : ticks / 1000000 ≤ 1000000000
    units = omega arith

    by : (b : Bool) → (ticks % 1000000 == 0) ≡ b → duration_of (decimal (ticks / 1000000) ++ cond b [] (codes "." ++ without_zeros (six_digits (ticks % 1000000)))) ≡ Some ticks
    by true e =
        let whole : ticks / 1000000 * 1000000 ≡ ticks = omega (arith, eqb-true (ticks % 1000000) 0 e) in
        ap duration_of (append-nil (decimal (ticks / 1000000))) ∙ whole-duration (ticks / 1000000) units ∙ ap (λ n. Some n) whole
    by false e =
        let whole : ticks / 1000000 * 1000000 + ticks % 1000000 ≡ ticks = omega arith in
        let part : ticks % 1000000 < 1000000 = omega arith in
        part-duration (ticks / 1000000) (ticks % 1000000) (without_zeros (six_digits (ticks % 1000000))) units part (omega (arith, whole)) (part-digits (ticks % 1000000) part) ∙ ap (λ n. Some n) whole

pub duration-lacks : (byte ticks : ℕ) → ticks ≤ 10 ^ 15 → is_digit byte ≡ false → lacks byte 46 ≡ true → Each (lacks byte) (duration_text ticks)
duration-lacks byte ticks h d s = by (ticks % 1000000 == 0)
  where
    whole : Each (lacks byte) (decimal (ticks / 1000000))
    whole = digits-lack byte (decimal (ticks / 1000000)) d (decimal-digits (ticks / 1000000) (omega arith))

    part : Each (lacks byte) (without_zeros (six_digits (ticks % 1000000)))
    part = digits-lack byte (without_zeros (six_digits (ticks % 1000000))) d (part-digits (ticks % 1000000) (omega arith)).digits

    by : (b : Bool) → Each (lacks byte) (decimal (ticks / 1000000) ++ cond b [] (codes "." ++ without_zeros (six_digits (ticks % 1000000))))
    by true = each-append (lacks byte) (decimal (ticks / 1000000)) [] whole refl
    by false = each-append (lacks byte) (decimal (ticks / 1000000)) (codes "." ++ without_zeros (six_digits (ticks % 1000000))) whole (and_from (lacks byte 46) (list_all (lacks byte) (without_zeros (six_digits (ticks % 1000000)))) s part)

pub duration-tight : (ticks : ℕ) → ticks ≤ 10 ^ 15 → IsTight (duration_text ticks)
duration-tight ticks h = by (ticks % 1000000 == 0) refl
  where
    whole : IsTight (decimal (ticks / 1000000))
    whole = decimal-tight (ticks / 1000000) (omega arith)

    inks : (n : ℕ) → n < 1000000 → Each inked (46 ∷ without_zeros (six_digits n))
    inks n l = each-weaker is_digit inked digit-inked (without_zeros (six_digits n)) (each-digit (without_zeros (six_digits n)) (part-digits n l).digits)

    by : (b : Bool) → (ticks % 1000000 == 0) ≡ b → IsTight (decimal (ticks / 1000000) ++ cond b [] (codes "." ++ without_zeros (six_digits (ticks % 1000000))))
    by true e = subst IsTight (sym (append-nil (decimal (ticks / 1000000)))) whole
    by false e =
        let part = inked-tight 46 (without_zeros (six_digits (ticks % 1000000))) (inks (ticks % 1000000) (omega arith)) in
        tight-append (decimal (ticks / 1000000)) (codes "." ++ without_zeros (six_digits (ticks % 1000000))) whole.front part.back
