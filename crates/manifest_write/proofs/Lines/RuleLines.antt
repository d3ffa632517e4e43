-- Rules are read as they were written.
use Rattle.std.proofs.Common.{◌≡◌, ℕ, ◌==◌, Bool, true, false, cond, ◌&&◌, List, [], ◌∷◌, ◌++◌, map, drop, Option, None, Some, Ok, refl, sym, ap, ◌∙◌, append_assoc, append-nil, Err, codes}
use Rattle.std.specs.Prelude.{nat_eq}
use Rattle.std.specs.List.{starts_with}
use Rattle.std.specs.Option.{option_map}
use Rattle.surf_kinds.specs.Rates.{Fraction, IsReduced}
use Rattle.surf_text.specs.Lines.{trimmed}
use Rattle.surf_text.specs.Cuts.{with_front}
use Rattle.surf_text.specs.Passing.{Each, lacks}
use Rattle.surf_text.proofs.LawLemmas.{each-append, cut-front, ends-append, split-first, split-one}
use Rattle.manifest_read.specs.declared.fault.ManifestKind.TheVariants.{BadRule}
use Rattle.manifest_read.specs.Names.{is_name, cut_arrow}
use Rattle.manifest_read.specs.Rules.{NamedRule, NamedOne, NamedTwo, side_of, by_arity, by_sides, by_arrow, by_rate, by_bracket, rule_of}
use Rattle.manifest_read.specs.Sorts.{Plain, sort_of}
use Rattle.manifest_write.specs.Canon.{rate_text}
use Rattle.manifest_write.proofs.Cutting.Tight.{trim-behind, tight-trimmed}
use Rattle.manifest_write.proofs.Spellings.Numbers.{rate-read, rate-lacks}
use Rattle.manifest_write.proofs.Contents.Fits.{is_plain, IsBare, FitsName, FitsRule}
use Rattle.manifest_write.proofs.Spellings.NameTexts.{name-text}
use Rattle.manifest_write.proofs.Lines.LineSorts.{bare-sort}

-- the line of a rule, by its names
abbrev pub named_line : NamedRule → List ℕ
named_line (NamedOne rate a c) = codes "(" ++ rate_text rate ++ codes ") " ++ a ++ codes " -> " ++ c
named_line (NamedTwo rate a b c d) = codes "(" ++ rate_text rate ++ codes ") " ++ a ++ codes " + " ++ b ++ codes " -> " ++ c ++ codes " + " ++ d

abbrev one_back : List ℕ → List ℕ → List ℕ
one_back a c = 32 ∷ (a ++ 32 ∷ 45 ∷ 62 ∷ 32 ∷ c)

abbrev two_back : List ℕ → List ℕ → List ℕ → List ℕ → List ℕ
two_back a b c d = 32 ∷ (a ++ 32 ∷ 43 ∷ 32 ∷ (b ++ 32 ∷ 45 ∷ 62 ∷ 32 ∷ (c ++ 32 ∷ 43 ∷ 32 ∷ d)))

one-grouped : (p r q a o c : List ℕ) → p ++ r ++ q ++ a ++ o ++ c ≡ p ++ (r ++ (q ++ (a ++ (o ++ c))))
one-grouped p r q a o c = simp append_assoc

one-line : (rate : Fraction) (a c : List ℕ) → named_line (NamedOne rate a c) ≡ 40 ∷ (rate_text rate ++ 41 ∷ one_back a c)
one-line rate a c = one-grouped (codes "(") (rate_text rate) (codes ") ") a (codes " -> ") c

two-grouped : (p r q a o b s c d : List ℕ) → p ++ r ++ q ++ a ++ o ++ b ++ s ++ c ++ o ++ d ≡ p ++ (r ++ (q ++ (a ++ (o ++ (b ++ (s ++ (c ++ (o ++ d))))))))
two-grouped p r q a o b s c d = simp append_assoc

two-line : (rate : Fraction) (a b c d : List ℕ) → named_line (NamedTwo rate a b c d) ≡ 40 ∷ (rate_text rate ++ 41 ∷ two_back a b c d)
two-line rate a b c d = two-grouped (codes "(") (rate_text rate) (codes ") ") a (codes " + ") b (codes " -> ") c d

-- Arrows

-- with more at the front of the first part
abbrev after : List ℕ → Option (List ℕ × List ℕ) → Option (List ℕ × List ℕ)
after front o = option_map (λ p. (front ++ p.0, p.1)) o

after-front : (c : ℕ) (front : List ℕ) (o : Option (List ℕ × List ℕ)) → with_front c (after front o) ≡ after (c ∷ front) o
after-front c front None = refl
after-front c front (Some p) = refl

front-after : (c : ℕ) (o : Option (List ℕ × List ℕ)) → with_front c o ≡ after (c ∷ []) o
front-after c None = refl
front-after c (Some p) = refl

with_front-none : (c : ℕ) (o : Option (List ℕ × List ℕ)) → with_front c o ≡ None → o ≡ None
with_front-none c None h = refl
with_front-none c (Some p) h = absurd cc

-- what has no arrow at its front, and none behind it
record IsPast (c : ℕ) (cs : List ℕ) : Type 0 where
  here : starts_with nat_eq (c ∷ cs) (codes "->") ≡ false
  later : cut_arrow cs ≡ None

past : (c : ℕ) (cs : List ℕ) → cut_arrow (c ∷ cs) ≡ None → IsPast c cs
past c cs h = by (starts_with nat_eq (c ∷ cs) (codes "->")) refl h
  where
    by : (b : Bool) → starts_with nat_eq (c ∷ cs) (codes "->") ≡ b → cond b (Some ([], drop 1 cs)) (with_front c (cut_arrow cs)) ≡ None → IsPast c cs
    by true e g = absurd cc
    by false e g = record { here = e; later = with_front-none c (cut_arrow cs) g }

no_arrow_at : (b : Bool) → (b && false) ≡ false
no_arrow_at true = refl
no_arrow_at false = refl

-- a name and a space are no part of an arrow
arrow-past : (name rest : List ℕ) → cut_arrow name ≡ None → cut_arrow (name ++ 32 ∷ rest) ≡ after (name ++ 32 ∷ []) (cut_arrow rest)
arrow-past [] rest h = front-after 32 (cut_arrow rest)
arrow-past (c ∷ []) rest h =
    ap (λ b. cond b (Some ([], rest)) (with_front c (with_front 32 (cut_arrow rest)))) (no_arrow_at (nat_eq 45 c))
    ∙ ap (with_front c) (front-after 32 (cut_arrow rest)) ∙ after-front c (32 ∷ []) (cut_arrow rest)
arrow-past (c ∷ d ∷ ds) rest h =
    let p = past c (d ∷ ds) h in
    ap (λ b. cond b (Some ([], ds ++ 32 ∷ rest)) (with_front c (cut_arrow (d ∷ ds ++ 32 ∷ rest)))) p.here
    ∙ ap (with_front c) (arrow-past (d ∷ ds) rest p.later) ∙ after-front c (d ∷ ds ++ 32 ∷ []) (cut_arrow rest)

one-arrow : (a c : List ℕ) → cut_arrow a ≡ None → cut_arrow (one_back a c) ≡ Some (32 ∷ (a ++ 32 ∷ []), 32 ∷ c)
one-arrow a c h =
    ap (with_front 32) (arrow-past a (45 ∷ 62 ∷ 32 ∷ c) h)
    ∙ ap (λ (t : List ℕ). let o : Option (List ℕ × List ℕ) = Some (32 ∷ t, 32 ∷ c) in o) (append-nil (a ++ 32 ∷ []))

two-arrow : (a b c d : List ℕ) → cut_arrow a ≡ None → cut_arrow b ≡ None
    → cut_arrow (two_back a b c d) ≡ Some (32 ∷ (a ++ 32 ∷ 43 ∷ 32 ∷ (b ++ 32 ∷ [])), 32 ∷ (c ++ 32 ∷ 43 ∷ 32 ∷ d))
two-arrow a b c d h g =
    let right = 32 ∷ (c ++ 32 ∷ 43 ∷ 32 ∷ d) in
    ap (with_front 32) (arrow-past a (43 ∷ 32 ∷ (b ++ 32 ∷ 45 ∷ 62 ∷ right)) h)
    ∙ ap (λ o. with_front 32 (after (a ++ 32 ∷ []) (with_front 43 (with_front 32 o)))) (arrow-past b (45 ∷ 62 ∷ right) g)
    ∙ ap (λ (t : List ℕ). let o : Option (List ℕ × List ℕ) = Some (32 ∷ ((a ++ 32 ∷ []) ++ 43 ∷ 32 ∷ t), right) in o) (append-nil (b ++ 32 ∷ []))
    ∙ ap (λ (t : List ℕ). let o : Option (List ℕ × List ℕ) = Some (32 ∷ t, right) in o) (append_assoc a (32 ∷ []) (43 ∷ 32 ∷ (b ++ 32 ∷ [])))

-- Sides

spaced-lacks : (a : List ℕ) → FitsName a → Each (lacks 43) (32 ∷ (a ++ 32 ∷ []))
spaced-lacks a h = each-append (lacks 43) a (32 ∷ []) (name-text a h.named).no_plus refl

spaced-trimmed : (a : List ℕ) → FitsName a → trimmed (32 ∷ (a ++ 32 ∷ [])) ≡ a
spaced-trimmed a h = trim-behind a (name-text a h.named).bare.tight

name-trimmed : (c : List ℕ) → FitsName c → trimmed (32 ∷ c) ≡ c
name-trimmed c h = tight-trimmed c (name-text c h.named).bare.tight

abbrev plus : ℕ → Bool
plus c = c == 43

left-one : (a : List ℕ) → FitsName a → side_of (32 ∷ (a ++ 32 ∷ [])) ≡ a ∷ []
left-one a h = ap (map trimmed) (split-one plus (32 ∷ (a ++ 32 ∷ [])) (spaced-lacks a h)) ∙ ap (λ t. t ∷ []) (spaced-trimmed a h)

right-one : (c : List ℕ) → FitsName c → side_of (32 ∷ c) ≡ c ∷ []
right-one c h = ap (map trimmed) (split-one plus (32 ∷ c) (name-text c h.named).no_plus) ∙ ap (λ t. t ∷ []) (name-trimmed c h)

first-of-two : (a rest : List ℕ) → FitsName a → side_of (32 ∷ (a ++ 32 ∷ 43 ∷ rest)) ≡ a ∷ side_of rest
first-of-two a rest h =
    ap (λ t. side_of (32 ∷ t)) (sym (append_assoc a (32 ∷ []) (43 ∷ rest)))
    ∙ ap (map trimmed) (split-first plus (32 ∷ (a ++ 32 ∷ [])) rest 43 (spaced-lacks a h) refl)
    ∙ ap (λ t. t ∷ side_of rest) (spaced-trimmed a h)

sides-one : (rate : Fraction) (a c : List ℕ) → FitsName a → FitsName c → by_sides rate (a ∷ []) (c ∷ []) ≡ Ok (NamedOne rate a c)
sides-one rate a c h g =
    ap (λ b. cond ((b && true) && (is_name c && true)) (by_arity rate (a ∷ []) (c ∷ [])) (Err BadRule)) h.named
    ∙ ap (λ b. cond (b && true) (by_arity rate (a ∷ []) (c ∷ [])) (Err BadRule)) g.named

sides-two : (rate : Fraction) (a b c d : List ℕ) → FitsName a → FitsName b → FitsName c → FitsName d → by_sides rate (a ∷ b ∷ []) (c ∷ d ∷ []) ≡ Ok (NamedTwo rate a b c d)
sides-two rate a b c d h i j k =
    let rule = by_arity rate (a ∷ b ∷ []) (c ∷ d ∷ []) in
    ap (λ t. cond ((t && (is_name b && true)) && (is_name c && (is_name d && true))) rule (Err BadRule)) h.named
    ∙ ap (λ t. cond ((t && true) && (is_name c && (is_name d && true))) rule (Err BadRule)) i.named
    ∙ ap (λ t. cond (t && (is_name d && true)) rule (Err BadRule)) j.named
    ∙ ap (λ t. cond (t && true) rule (Err BadRule)) k.named

rated : (rate : Fraction) (back : List ℕ) → IsReduced rate → rule_of (40 ∷ (rate_text rate ++ 41 ∷ back)) ≡ by_arrow rate (cut_arrow back)
rated rate back h =
    ap by_bracket (cut-front 41 (rate_text rate) back (rate-lacks 41 rate h refl refl)) ∙ ap (λ o. by_rate o back) (rate-read rate h)

pub rule-read : (r : NamedRule) → FitsRule r → rule_of (named_line r) ≡ Ok r
rule-read (NamedOne rate a c) h =
    ap rule_of (one-line rate a c) ∙ rated rate (one_back a c) h.rate ∙ ap (by_arrow rate) (one-arrow a c (name-text a h.names.0.named).no_arrow)
    ∙ ap (λ s. by_sides rate s (side_of (32 ∷ c))) (left-one a h.names.0) ∙ ap (by_sides rate (a ∷ [])) (right-one c h.names.1.0)
    ∙ sides-one rate a c h.names.0 h.names.1.0
rule-read (NamedTwo rate a b c d) h =
    let fa = h.names.0 in
    let fb = h.names.1.0 in
    let fc = h.names.1.1.0 in
    let fd = h.names.1.1.1.0 in
    let left : side_of (32 ∷ (a ++ 32 ∷ 43 ∷ 32 ∷ (b ++ 32 ∷ []))) ≡ a ∷ b ∷ [] = first-of-two a (32 ∷ (b ++ 32 ∷ [])) fa ∙ ap (λ t. a ∷ t) (left-one b fb) in
    let right : side_of (32 ∷ (c ++ 32 ∷ 43 ∷ 32 ∷ d)) ≡ c ∷ d ∷ [] = first-of-two c (32 ∷ d) fc ∙ ap (λ t. c ∷ t) (right-one d fd) in
    ap rule_of (two-line rate a b c d) ∙ rated rate (two_back a b c d) h.rate ∙ ap (by_arrow rate) (two-arrow a b c d (name-text a fa.named).no_arrow (name-text b fb.named).no_arrow)
    ∙ ap (λ s. by_sides rate s (side_of (32 ∷ (c ++ 32 ∷ 43 ∷ 32 ∷ d)))) left ∙ ap (by_sides rate (a ∷ b ∷ [])) right
    ∙ sides-two rate a b c d fa fb fc fd

-- the line of a rule is no section line, and has no comment
name-lacks : (a : List ℕ) → FitsName a → Each (lacks 35) a
name-lacks a h = (name-text a h.named).bare.no_comment

front-lacks : (rate : Fraction) → IsReduced rate → Each (lacks 35) (codes "(" ++ rate_text rate ++ codes ") ")
front-lacks rate h = each-append (lacks 35) (codes "(" ++ rate_text rate) (codes ") ") (rate-lacks 35 rate h refl refl) refl

more-lacks : (front word name : List ℕ) → Each (lacks 35) front → Each (lacks 35) word → FitsName name → Each (lacks 35) (front ++ word ++ name)
more-lacks front word name h g n = each-append (lacks 35) (front ++ word) name (each-append (lacks 35) front word h g) (name-lacks name n)

pub rule-bare : (r : NamedRule) → FitsRule r → IsBare (named_line r)
rule-bare (NamedOne rate a c) h = record {
  tight = record { front = refl; back = ends-append (codes "(" ++ rate_text rate ++ codes ") " ++ a ++ codes " -> ") c (name-text c h.names.1.0.named).bare.tight.back };
  no_comment = more-lacks (codes "(" ++ rate_text rate ++ codes ") " ++ a) (codes " -> ") c (each-append (lacks 35) (codes "(" ++ rate_text rate ++ codes ") ") a (front-lacks rate h.rate) (name-lacks a h.names.0)) refl h.names.1.0;
}
rule-bare (NamedTwo rate a b c d) h =
    let front = codes "(" ++ rate_text rate ++ codes ") " ++ a in
    let one = each-append (lacks 35) (codes "(" ++ rate_text rate ++ codes ") ") a (front-lacks rate h.rate) (name-lacks a h.names.0) in
    let two = more-lacks front (codes " + ") b one refl h.names.1.0 in
    let three = more-lacks (front ++ codes " + " ++ b) (codes " -> ") c two refl h.names.1.1.0 in
    record {
      tight = record { front = refl; back = ends-append (front ++ codes " + " ++ b ++ codes " -> " ++ c ++ codes " + ") d (name-text d h.names.1.1.1.0.named).bare.tight.back };
      no_comment = more-lacks (front ++ codes " + " ++ b ++ codes " -> " ++ c) (codes " + ") d three refl h.names.1.1.1.0;
    }

rule-plain : (r : NamedRule) → is_plain (named_line r) ≡ true
rule-plain (NamedOne rate a c) = refl
rule-plain (NamedTwo rate a b c d) = refl

pub rule-sort : (r : NamedRule) → FitsRule r → sort_of (named_line r) ≡ Plain (named_line r) (named_line r)
rule-sort r h = bare-sort (named_line r) (rule-bare r h) (rule-plain r)
