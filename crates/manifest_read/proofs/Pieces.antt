-- The pieces of a side of a rule.
use Rattle.std.proofs.Common.{◌≡◌, ◌≢◌, ℕ, ◌==◌, Bool, true, false, cond, ◌&&◌, List, [], ◌∷◌, map, Option, None, Some, Result, Err, refl, sym, ap, ◌∙◌, arith}
use Rattle.std.specs.List.{list_all}
use Rattle.std.proofs.lemmas.Bool.Decides.{nat_tests}
use Rattle.surf_kinds.specs.Rates.{Fraction}
use Rattle.surf_text.specs.Lines.{trimmed}
use Rattle.surf_text.specs.Cuts.{cut_at}
use Rattle.surf_text.proofs.LawLemmas.{split-cut, pieces_by}
use Rattle.manifest_read.specs.declared.fault.ManifestKind.{ManifestKind}
use Rattle.manifest_read.specs.declared.fault.ManifestKind.TheVariants.{BadRule}
use Rattle.manifest_read.specs.Names.{is_name, cut_arrow}
use Rattle.manifest_read.specs.Rules.{NamedRule, side_of, by_arity, by_sides, by_arrow, by_bracket, rule_of}
use Rattle.manifest_read.specs.Seen.{NamedSide, SideOne, SideTwo, SideMany, counted, sided, by_counts}

-- a side that is cut at its first plus
pub side-cut : (text front back : List ℕ) → Some (front, back) ≡ cut_at 43 text → side_of text ≡ trimmed front ∷ side_of back
side-cut text front back e = ap (map trimmed) (split-cut (λ c. c == 43) text ∙ ap (pieces_by (λ c. c == 43) text) (sym e))

pub side-one : (text : List ℕ) → None ≡ cut_at 43 text → side_of text ≡ trimmed text ∷ []
side-one text e = ap (map trimmed) (split-cut (λ c. c == 43) text ∙ ap (pieces_by (λ c. c == 43) text) (sym e))

pub names-bad : (text front back : List ℕ) → Some (front, back) ≡ cut_at 43 text → is_name (trimmed front) ≡ false → false ≡ list_all is_name (side_of text)
names-bad text front back e h = sym (ap (list_all is_name) (side-cut text front back e) ∙ ap (λ b. b && list_all is_name (side_of back)) h)

pub names-next : (text front back : List ℕ) → Some (front, back) ≡ cut_at 43 text → is_name (trimmed front) ≡ true → list_all is_name (side_of text) ≡ list_all is_name (side_of back)
names-next text front back e h = ap (list_all is_name) (side-cut text front back e) ∙ ap (λ b. b && list_all is_name (side_of back)) h

and_true : (b : Bool) → b ≡ (b && true)
and_true true = refl
and_true false = refl

pub names-last : (text : List ℕ) → None ≡ cut_at 43 text → is_name (trimmed text) ≡ list_all is_name (side_of text)
names-last text e = and_true (is_name (trimmed text)) ∙ sym (ap (list_all is_name) (side-one text e))

-- by their number
many_by : (a b : List ℕ) (text : List ℕ) (o : Option (List ℕ × List ℕ)) → SideMany ≡ counted (a ∷ b ∷ map trimmed (pieces_by (λ c. c == 43) text o))
many_by a b text None = refl
many_by a b text (Some p) = refl

pub counted-many : (text first rest second after : List ℕ) → Some (first, rest) ≡ cut_at 43 text → Some (second, after) ≡ cut_at 43 rest → SideMany ≡ counted (side_of text)
counted-many text first rest second after e f =
    many_by (trimmed first) (trimmed second) after (cut_at 43 after)
    ∙ ap (λ (l : List (List ℕ)). counted (trimmed first ∷ trimmed second ∷ map trimmed l)) (sym (split-cut (λ c. c == 43) after))
    ∙ ap (λ (l : List (List ℕ)). counted (trimmed first ∷ l)) (sym (side-cut rest second after f))
    ∙ ap counted (sym (side-cut text first rest e))

pub counted-two : (text first rest : List ℕ) → Some (first, rest) ≡ cut_at 43 text → None ≡ cut_at 43 rest → SideTwo (trimmed first) (trimmed rest) ≡ counted (side_of text)
counted-two text first rest e f =
    ap (λ (l : List (List ℕ)). counted (trimmed first ∷ l)) (sym (side-one rest f)) ∙ ap counted (sym (side-cut text first rest e))

pub counted-one : (text : List ℕ) → None ≡ cut_at 43 text → SideOne (trimmed text) ≡ counted (side_of text)
counted-one text e = ap counted (sym (side-one text e))

pub arity-is : (rate : Fraction) (left right : List (List ℕ)) → by_arity rate left right ≡ by_counts rate (counted left) (counted right)
arity-is rate [] right = refl
arity-is rate (a ∷ []) [] = refl
arity-is rate (a ∷ []) (c ∷ []) = refl
arity-is rate (a ∷ []) (c ∷ d ∷ []) = refl
arity-is rate (a ∷ []) (c ∷ d ∷ e ∷ es) = refl
arity-is rate (a ∷ b ∷ []) [] = refl
arity-is rate (a ∷ b ∷ []) (c ∷ []) = refl
arity-is rate (a ∷ b ∷ []) (c ∷ d ∷ []) = refl
arity-is rate (a ∷ b ∷ []) (c ∷ d ∷ e ∷ es) = refl
arity-is rate (a ∷ b ∷ x ∷ xs) right = refl

-- a rule by its sides
abbrev pub by_sided : Fraction → Option NamedSide → Option NamedSide → Result NamedRule ManifestKind
by_sided rate None right = Err BadRule
by_sided rate (Some a) None = Err BadRule
by_sided rate (Some a) (Some b) = by_counts rate a b

pub sides-are : (rate : Fraction) (left right : List (List ℕ)) → by_sides rate left right ≡ by_sided rate (sided left) (sided right)
sides-are rate left right = by (list_all is_name left) (list_all is_name right)
  where
    by : (a b : Bool) → cond (a && b) (by_arity rate left right) (Err BadRule) ≡ by_sided rate (cond a (Some (counted left)) None) (cond b (Some (counted right)) None)
    by true true = arity-is rate left right
    by true false = refl
    by false b = refl

-- a rule by its first character
pub no-bracket : (text : List ℕ) → ((rest : List ℕ) → text ≢ 40 ∷ rest) → by_arrow (record { p = 1; q = 1 }) (cut_arrow text) ≡ rule_of text
no-bracket [] h = refl
no-bracket (c ∷ cs) h = by (c == 40) refl
  where
    by : (b : Bool) → (c == 40) ≡ b → by_arrow (record { p = 1; q = 1 }) (cut_arrow (c ∷ cs)) ≡ cond b (by_bracket (cut_at 41 cs)) (by_arrow (record { p = 1; q = 1 }) (cut_arrow (c ∷ cs)))
    by true e = let same : c ≡ 40 = grind (arith, nat_tests) in absurd (h cs (ap (λ x. x ∷ cs) same))
    by false e = refl

pub sides-arrow : (rate : Fraction) (text left right : List ℕ) (a b : Option NamedSide)
    → Some (left, right) ≡ cut_arrow text → a ≡ sided (side_of left) → b ≡ sided (side_of right) → by_sided rate a b ≡ by_arrow rate (cut_arrow text)
sides-arrow rate text left right a b e f g =
    ap (λ x. by_sided rate x b) f ∙ ap (by_sided rate (sided (side_of left))) g ∙ sym (sides-are rate (side_of left) (side_of right)) ∙ ap (by_arrow rate) e
