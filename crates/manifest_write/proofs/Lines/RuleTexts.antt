-- What a rule that was read keeps to.
use Rattle.std.proofs.Common.{◌≡◌, ℕ, zero, suc, ◌*◌, ◌/◌, ◌%◌, ◌<◌, ◌≤◌, ◌==◌, ◌&&◌, Bool, true, false, cond, List, [], ◌∷◌, map, Option, None, Some, Ok, Err, refl, sym, ap, ◌∙◌, subst, arith, leb-true, mod-lt}
use Rattle.std.specs.Prelude.{ℤ, pos, negsuc, nat_le}
use Rattle.std.specs.Int.{IsGcd}
use Rattle.std.specs.List.{list_all, slice_split, AllByRecursion}
use Rattle.std.specs.Option.{option_map, option_and_then}
use Rattle.std.proofs.Math.Nat.{div-mul_cancel}
use Rattle.std.proofs.lemmas.Bool.{and_parts}
use Rattle.std.proofs.lemmas.Bool.Decides.{nat_tests}
use Rattle.std.proofs.lemmas.Nat.Gcd.{IsGcd-from_zero, IsGcd-from_mod}
use Rattle.surf_kinds.specs.Rates.{Fraction, IsReduced}
use Rattle.surf_text.specs.Lines.{trimmed}
use Rattle.surf_text.specs.Cuts.{cut_at}
use Rattle.surf_text.specs.Decimals.{decimal_of}
use Rattle.surf_text.specs.declared.numbers.Dec.{Dec}
use Rattle.rates.specs.Rates.{scaled, whole_of, over, by_slash, fraction_of, bounded, reduced, rate_of}
use Rattle.rates.proofs.LawLemmas.{gcd_of-is, power_positive, divided}
use Rattle.surf_kinds.proofs.Fractions.{one_over_reduced}
use Rattle.manifest_read.specs.declared.fault.ManifestKind.TheVariants.{BadRule}
use Rattle.manifest_read.specs.Names.{is_name, cut_arrow}
use Rattle.manifest_read.specs.Rules.{NamedRule, NamedOne, NamedTwo, side_of, by_arity, by_sides, by_arrow, by_rate, by_bracket, rule_of}
use Rattle.manifest_write.proofs.Cutting.Parted.{trim-parted, cut-parted, split-parted, arrow-parted}
use Rattle.manifest_write.proofs.Contents.Fits.{IsClean, FitsName, FitsRule}
use Rattle.manifest_write.proofs.Lines.PlainLines.{clean-parted}

-- Rates

gcd-some : (n a b : ℕ) → b ≤ n → (g : ℕ) × IsGcd a b g
gcd-some zero a b h = (a, IsGcd-from_zero a b (omega arith))
gcd-some (suc n) a zero h = (a, IsGcd-from_zero a 0 refl)
gcd-some (suc n) a (suc b) h =
    let rest : a % suc b < suc b = mod-lt a {m = suc b} (omega arith) in
    let g = gcd-some n (suc b) (a % suc b) (omega (arith, rest)) in
    (g.0, IsGcd-from_mod a (suc b) g.0 g.1)

some-quotient : (k g n : ℕ) → k * g ≡ n → 0 < n → 1 ≤ k
some-quotient zero g n e h = absurd (omega arith)
some-quotient (suc k) g n e h = omega arith

reduced-is : (f r : Fraction) → 0 < f.q → reduced f ≡ Some r → IsReduced r
reduced-is f r h e =
    let g = gcd-some f.q f.p f.q (omega arith) in
    let is = gcd_of-is f.p f.q g.0 g.1 h in
    by (f.p / g.0) (f.q / g.0) (divided f.p f.q g.0 g.1 is.1) (some-quotient (f.q / g.0) g.0 f.q (div-mul_cancel g.0 g.1.1) h)
    (nat_le (f.p / g.0) 1000000000 && nat_le (f.q / g.0) 1000000000) refl (sym (ap (λ k. bounded (f.p / k) (f.q / k)) is.0) ∙ e)
  where
    by : (p q : ℕ) → IsGcd p q 1 → 1 ≤ q → (b : Bool) → (nat_le p 1000000000 && nat_le q 1000000000) ≡ b → cond b (Some (record { p = p; q = q })) None ≡ Some r → IsReduced r
    by p q d l true t g =
        let both = and_parts (nat_le p 1000000000) (nat_le q 1000000000) t in
        let same : record { p = p; q = q } ≡ r = cc in
        subst IsReduced same (record { p_at_most = leb-true p 1000000000 both.0; q_at_least = l; q_at_most = leb-true q 1000000000 both.1; lowest = d })
    by p q d l false t g = absurd cc

scaled-positive : (digits : ℕ) (exp : ℤ) → 0 < (scaled digits exp).q
scaled-positive digits (pos k) = omega arith
scaled-positive digits (negsuc k) = power_positive (suc k)

over-positive : (n d : Option ℕ) (f : Fraction) → over n d ≡ Some f → 0 < f.q
over-positive None d f h = absurd cc
over-positive (Some n) None f h = absurd cc
over-positive (Some n) (Some d) f h = by (d == 0) refl h
  where
    by : (b : Bool) → (d == 0) ≡ b → cond b None (Some (record { p = n; q = d })) ≡ Some f → 0 < f.q
    by true e g = absurd cc
    by false e g =
        let same : record { p = n; q = d } ≡ f = cc in
        let positive : 0 < d = grind (arith, nat_tests) in
        subst (λ (x : Fraction). 0 < x.q) same positive

fraction-positive : (text : List ℕ) (f : Fraction) → fraction_of text ≡ Some f → 0 < f.q
fraction-positive text f h = by (cut_at 47 text) h
  where
    decimal : (o : Option Dec) → option_map (λ d. scaled d.digits d.exp) o ≡ Some f → 0 < f.q
    decimal None e = absurd cc
    decimal (Some d) e = let same : scaled d.digits d.exp ≡ f = cc in subst (λ (x : Fraction). 0 < x.q) same (scaled-positive d.digits d.exp)

    by : (o : Option (List ℕ × List ℕ)) → by_slash text o ≡ Some f → 0 < f.q
    by None e = decimal (decimal_of text) e
    by (Some p) e = over-positive (whole_of (trimmed p.0)) (whole_of (trimmed p.1)) f e

pub rate-reduced : (text : List ℕ) (r : Fraction) → rate_of text ≡ Some r → IsReduced r
rate-reduced text r h = by (fraction_of (trimmed text)) refl h
  where
    by : (o : Option Fraction) → fraction_of (trimmed text) ≡ o → option_and_then reduced o ≡ Some r → IsReduced r
    by None e g = absurd cc
    by (Some f) e g = reduced-is f r (fraction-positive (trimmed text) f e) g

-- Names

all-trimmed : (ts : List (List ℕ)) → AllByRecursion IsClean ts → list_all is_name (map trimmed ts) ≡ true → AllByRecursion FitsName (map trimmed ts)
all-trimmed [] h g = tt
all-trimmed (t ∷ ts) h g =
    let p = and_parts (is_name (trimmed t)) (list_all is_name (map trimmed ts)) g in
    (record { named = p.0; clean = trim-parted IsClean clean-parted t h.0 }, all-trimmed ts h.1 p.1)

plus-ascii : (c : ℕ) → (c == 43) ≡ true → c < 128
plus-ascii c h = grind (arith, nat_tests)

side-fits : (text : List ℕ) → IsClean text → list_all is_name (side_of text) ≡ true → AllByRecursion FitsName (side_of text)
side-fits text h g = all-trimmed (slice_split (λ c. c == 43) text) (split-parted IsClean clean-parted (λ c. c == 43) plus-ascii text h) g

-- Rules

one-fits : (rate : Fraction) (a c : List ℕ) (r : NamedRule) → NamedOne rate a c ≡ r → IsReduced rate → FitsName a → FitsName c → FitsRule r
one-fits rate a c r e h x y = subst FitsRule e (record { rate = h; names = (x, (y, tt)) })

arity-fits : (rate : Fraction) (left right : List (List ℕ)) (r : NamedRule) → IsReduced rate → AllByRecursion FitsName left → AllByRecursion FitsName right → by_arity rate left right ≡ Ok r → FitsRule r
arity-fits rate [] right r h x y e = absurd cc
arity-fits rate (a ∷ []) [] r h x y e = absurd cc
arity-fits rate (a ∷ []) (c ∷ []) r h x y e = (let same : NamedOne rate a c ≡ r = cc in one-fits rate a c r same h x.0 y.0)
arity-fits rate (a ∷ []) (c ∷ d ∷ ds) r h x y e = absurd cc
arity-fits rate (a ∷ b ∷ []) [] r h x y e = absurd cc
arity-fits rate (a ∷ b ∷ []) (c ∷ []) r h x y e = absurd cc
arity-fits rate (a ∷ b ∷ []) (c ∷ d ∷ []) r h x y e =
    let same : NamedTwo rate a b c d ≡ r = cc in
    subst FitsRule same (record { rate = h; names = (x.0, (x.1.0, (y.0, (y.1.0, tt)))) })
arity-fits rate (a ∷ b ∷ []) (c ∷ d ∷ f ∷ fs) r h x y e = absurd cc
arity-fits rate (a ∷ b ∷ f ∷ fs) right r h x y e = absurd cc

sides-fit : (rate : Fraction) (left right : List ℕ) (r : NamedRule) → IsReduced rate → IsClean left → IsClean right → by_sides rate (side_of left) (side_of right) ≡ Ok r → FitsRule r
sides-fit rate left right r h x y e = by (list_all is_name (side_of left) && list_all is_name (side_of right)) refl e
  where
    by : (b : Bool) → (list_all is_name (side_of left) && list_all is_name (side_of right)) ≡ b → cond b (by_arity rate (side_of left) (side_of right)) (Err BadRule) ≡ Ok r → FitsRule r
    by true t g =
        let both = and_parts (list_all is_name (side_of left)) (list_all is_name (side_of right)) t in
        arity-fits rate (side_of left) (side_of right) r h (side-fits left x both.0) (side-fits right y both.1) g
    by false t g = absurd cc

arrow-fits : (rate : Fraction) (text : List ℕ) (r : NamedRule) → IsReduced rate → IsClean text → by_arrow rate (cut_arrow text) ≡ Ok r → FitsRule r
arrow-fits rate text r h c e = by (cut_arrow text) refl e
  where
    by : (o : Option (List ℕ × List ℕ)) → cut_arrow text ≡ o → by_arrow rate o ≡ Ok r → FitsRule r
    by None t g = absurd cc
    by (Some p) t g = let parts = arrow-parted IsClean clean-parted text p.0 p.1 t c in sides-fit rate p.0 p.1 r h parts.0 parts.1 g

bracket-fits : (text : List ℕ) (r : NamedRule) → IsClean text → by_bracket (cut_at 41 text) ≡ Ok r → FitsRule r
bracket-fits text r c e = by (cut_at 41 text) refl e
  where
    rated : (back front : List ℕ) → IsClean back → (o : Option Fraction) → rate_of front ≡ o → by_rate o back ≡ Ok r → FitsRule r
    rated back front h None t g = absurd cc
    rated back front h (Some rate) t g = arrow-fits rate back r (rate-reduced front rate t) h g

    by : (o : Option (List ℕ × List ℕ)) → cut_at 41 text ≡ o → by_bracket o ≡ Ok r → FitsRule r
    by None t g = absurd cc
    by (Some p) t g =
        let parts = cut-parted IsClean clean-parted 41 text p.0 p.1 (omega arith) t c in
        rated p.1 p.0 parts.1 (rate_of p.0) refl g

pub rule-fits : (text : List ℕ) (r : NamedRule) → IsClean text → rule_of text ≡ Ok r → FitsRule r
rule-fits [] r h e = absurd cc
rule-fits (c ∷ cs) r h e = by (c == 40) refl e
  where
    low : (c == 40) ≡ true → c < 128
    low t = grind (arith, nat_tests)

    by : (b : Bool) → (c == 40) ≡ b → cond b (by_bracket (cut_at 41 cs)) (by_arrow (record { p = 1; q = 1 }) (cut_arrow (c ∷ cs))) ≡ Ok r → FitsRule r
    by true t g = bracket-fits cs r (clean-parted [] cs c (low t) h).1 g
    by false t g = arrow-fits (record { p = 1; q = 1 }) (c ∷ cs) r (one_over_reduced 1 (omega arith) (omega arith)) h g
