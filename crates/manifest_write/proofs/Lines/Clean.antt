-- The canonical lines are UTF-8 and have no line feeds.
use Rattle.std.proofs.Common.{◌≡◌, ℕ, zero, suc, ◌<◌, ◌≤◌, ◌^◌, ◌/◌, ◌%◌, ◌==◌, ◌&&◌, Bool, true, false, cond, List, [], ◌∷◌, ◌++◌, map, get_or, codes, decimal, refl, arith, ltb-true}
use Rattle.std.specs.Prelude.{nat_lt}
use Rattle.std.specs.List.{list_all, flat_map, AllByRecursion}
use Rattle.std.specs.Str.{IsUtf8}
use Rattle.std.proofs.lemmas.Bool.{and_parts}
use Rattle.std.proofs.lemmas.Bool.Decides.{nat_tests}
use Rattle.std.proofs.lemmas.Str.{IsUtf8-append, IsUtf8-from_ascii}
use Rattle.surf_kinds.specs.Rates.{Fraction, IsReduced}
use Rattle.surf_text.specs.Numbers.{is_digit, all_digits}
use Rattle.surf_text.specs.Passing.{Each, lacks}
use Rattle.surf_text.proofs.LawLemmas.{each-append, each-weaker}
use Rattle.surface_rows.specs.Rows.{spaced}
use Rattle.manifest_read.specs.declared.text.Setting.{Setting}
use Rattle.manifest_read.specs.Rules.{NamedRule, NamedOne, NamedTwo}
use Rattle.manifest_write.specs.Canon.{without_zeros, six_digits, duration_text, rate_text, value_text, setting_line}
use Rattle.manifest_write.proofs.Spellings.Numbers.{decimal-digits, each-digit, part-digits}
use Rattle.manifest_write.proofs.Contents.Fits.{IsClean, FitsName, FitsRule, FitsSetting}
use Rattle.manifest_write.proofs.Lines.RuleLines.{named_line}

pub clean-append : (xs ys : List ℕ) → IsClean xs → IsClean ys → IsClean (xs ++ ys)
clean-append xs ys h g = (IsUtf8-append xs ys h.0 g.0, each-append (lacks 10) xs ys h.1 g.1)

abbrev pub is_ascii : ℕ → Bool
is_ascii c = nat_lt c 128

ascii-at : (text : List ℕ) → Each is_ascii text → (i : ℕ) → get_or text i 0 < 128
ascii-at [] h i = omega arith
ascii-at (c ∷ cs) h zero = ltb-true c 128 (and_parts (is_ascii c) (list_all is_ascii cs) h).0
ascii-at (c ∷ cs) h (suc i) = ascii-at cs (and_parts (is_ascii c) (list_all is_ascii cs) h).1 i

pub ascii-utf8 : (text : List ℕ) → Each is_ascii text → IsUtf8 text
ascii-utf8 text h = IsUtf8-from_ascii text (ascii-at text h)

-- a byte of ASCII other than a line feed
abbrev pub is_low : ℕ → Bool
is_low c = is_ascii c && lacks 10 c

pub clean-low : (text : List ℕ) → Each is_low text → IsClean text
clean-low text h = (
  ascii-utf8 text (each-weaker is_low is_ascii (λ c g. (and_parts (is_ascii c) (lacks 10 c) g).0) text h),
  each-weaker is_low (lacks 10) (λ c g. (and_parts (is_ascii c) (lacks 10 c) g).1) text h,
)

digit-low : (c : ℕ) → is_digit c ≡ true → is_low c ≡ true
digit-low c h = grind (arith, nat_tests)

pub clean-digits : (text : List ℕ) → all_digits text ≡ true → IsClean text
clean-digits text h = clean-low text (each-weaker is_digit is_low digit-low text (each-digit text h))

pub clean-decimal : (n : ℕ) → n < 2 ^ 64 → IsClean (decimal n)
clean-decimal n h = clean-digits (decimal n) (decimal-digits n h)

clean-rate : (r : Fraction) → IsReduced r → IsClean (rate_text r)
clean-rate r h = clean-append (decimal r.p) (cond (r.q == 1) [] (codes "/" ++ decimal r.q)) (clean-decimal r.p (omega (arith, h.p_at_most))) (by (r.q == 1))
  where
    by : (b : Bool) → IsClean (cond b [] (codes "/" ++ decimal r.q))
    by true = clean-low [] refl
    by false = clean-append (codes "/") (decimal r.q) (clean-low (codes "/") refl) (clean-decimal r.q (omega (arith, h.q_at_most)))

pub clean-duration : (ticks : ℕ) → ticks ≤ 10 ^ 15 → IsClean (duration_text ticks)
clean-duration ticks h =
    clean-append (decimal (ticks / 1000000)) (cond (ticks % 1000000 == 0) [] (codes "." ++ without_zeros (six_digits (ticks % 1000000)))) (clean-decimal (ticks / 1000000) (omega arith)) (by (ticks % 1000000 == 0))
  where
    by : (b : Bool) → IsClean (cond b [] (codes "." ++ without_zeros (six_digits (ticks % 1000000))))
    by true = clean-low [] refl
    by false =
        clean-append (codes ".") (without_zeros (six_digits (ticks % 1000000))) (clean-low (codes ".") refl)
        (clean-digits (without_zeros (six_digits (ticks % 1000000))) (part-digits (ticks % 1000000) (omega arith)).digits)

clean-value : (v : List ℕ) → IsClean v → IsClean (value_text v)
clean-value [] h = h
clean-value (c ∷ cs) h = clean-append (32 ∷ []) (c ∷ cs) (clean-low (32 ∷ []) refl) h

pub clean-setting : (s : Setting) → FitsSetting s → IsClean (setting_line s)
clean-setting s h = clean-append (s.name ++ codes " =") (value_text s.value) (clean-append s.name (codes " =") h.name_clean (clean-low (codes " =") refl)) (clean-value s.value h.value_clean)

more-clean : (front word name : List ℕ) → IsClean front → Each is_low word → FitsName name → IsClean (front ++ word ++ name)
more-clean front word name h g n = clean-append (front ++ word) name (clean-append front word h (clean-low word g)) n.clean

front-clean : (rate : Fraction) (a : List ℕ) → IsReduced rate → FitsName a → IsClean (codes "(" ++ rate_text rate ++ codes ") " ++ a)
front-clean rate a h n = more-clean (codes "(" ++ rate_text rate) (codes ") ") a (clean-append (codes "(") (rate_text rate) (clean-low (codes "(") refl) (clean-rate rate h)) refl n

pub clean-rule : (r : NamedRule) → FitsRule r → IsClean (named_line r)
clean-rule (NamedOne rate a c) h = more-clean (codes "(" ++ rate_text rate ++ codes ") " ++ a) (codes " -> ") c (front-clean rate a h.rate h.names.0) refl h.names.1.0
clean-rule (NamedTwo rate a b c d) h =
    let front = codes "(" ++ rate_text rate ++ codes ") " ++ a in
    let one = front-clean rate a h.rate h.names.0 in
    let two = more-clean front (codes " + ") b one refl h.names.1.0 in
    let three = more-clean (front ++ codes " + " ++ b) (codes " -> ") c two refl h.names.1.1.0 in
    more-clean (front ++ codes " + " ++ b ++ codes " -> " ++ c) (codes " + ") d three refl h.names.1.1.1.0

clean-behind : (names : List (List ℕ)) → AllByRecursion FitsName names → IsClean (flat_map (λ n. 32 ∷ n) names)
clean-behind [] h = clean-low [] refl
clean-behind (n ∷ ns) h = clean-append (32 ∷ n) (flat_map (λ n. 32 ∷ n) ns) (clean-append (32 ∷ []) n (clean-low (32 ∷ []) refl) h.0.clean) (clean-behind ns h.1)

pub clean-row : (names : List (List ℕ)) → AllByRecursion FitsName names → IsClean (spaced names)
clean-row [] h = clean-low [] refl
clean-row (n ∷ ns) h = clean-append n (flat_map (λ n. 32 ∷ n) ns) h.0.clean (clean-behind ns h.1)

pub clean-map : {X : Type 0} (P : X → Type 0) (line : X → List ℕ) → ((x : X) → P x → IsClean (line x)) → (xs : List X) → AllByRecursion P xs → AllByRecursion IsClean (map line xs)
clean-map P line f [] h = tt
clean-map P line f (x ∷ xs) h = (f x h.0, clean-map P line f xs h.1)
