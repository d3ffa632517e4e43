-- Names that are found by their numbers.
use Rattle.std.proofs.Common.{◌≡◌, ℕ, List, [], ◌∷◌, ◌++◌, map, refl, ap, ◌∙◌}
use Rattle.std.specs.List.{flat_map, AllByRecursion}
use Rattle.species.specs.Names.{place_of}
use Rattle.surface_rows.specs.Rows.{name_of}
use Rattle.manifest_read.specs.Rules.{NamedRule, NamedOne, NamedTwo, names_of_rule}
use Rattle.manifest_read.specs.Manifest.{numbered}
use Rattle.manifest_write.specs.Canon.{rule_line}
use Rattle.manifest_read.specs.Names.{AreListed}
use Rattle.manifest_read.proofs.LawLemmas.{listed-left, listed-right, name_at_place}
use Rattle.manifest_write.proofs.Lines.RuleLines.{named_line}

pub names-found : (names cells : List (List ℕ)) → AreListed names cells → map (name_of names) (map (place_of names) cells) ≡ cells
names-found names [] h = refl
names-found names (c ∷ cs) h = ap (λ t. t ∷ map (name_of names) (map (place_of names) cs)) (name_at_place names c h.0) ∙ ap (λ t. c ∷ t) (names-found names cs h.1)

pub rule-found : (names : List (List ℕ)) (r : NamedRule) → AreListed names (names_of_rule r) → rule_line names (numbered names r) ≡ named_line r
rule-found names (NamedOne rate a c) h =
    let line : List ℕ → List ℕ → List ℕ = λ x y. named_line (NamedOne rate x y) in
    ap (λ x. line x (name_of names (place_of names c))) (name_at_place names a h.0) ∙ ap (line a) (name_at_place names c h.1.0)
rule-found names (NamedTwo rate a b c d) h =
    let line : List ℕ → List ℕ → List ℕ → List ℕ → List ℕ = λ w x y z. named_line (NamedTwo rate w x y z) in
    let name : List ℕ → List ℕ = λ x. name_of names (place_of names x) in
    ap (λ x. line x (name b) (name c) (name d)) (name_at_place names a h.0) ∙ ap (λ x. line a x (name c) (name d)) (name_at_place names b h.1.0)
    ∙ ap (λ x. line a b x (name d)) (name_at_place names c h.1.1.0) ∙ ap (line a b c) (name_at_place names d h.1.1.1.0)

pub all-both : {X : Type 0} (P : X → Type 0) (xs ys : List X) → AllByRecursion P xs → AllByRecursion P ys → AllByRecursion P (xs ++ ys)
all-both P [] ys h g = g
all-both P (x ∷ xs) ys h g = (h.0, all-both P xs ys h.1 g)

pub rules-found : (names : List (List ℕ)) (rs : List NamedRule) → AreListed names (flat_map names_of_rule rs) → map (rule_line names) (map (numbered names) rs) ≡ map named_line rs
rules-found names [] h = refl
rules-found names (r ∷ rs) h =
    ap (λ t. t ∷ map (rule_line names) (map (numbered names) rs)) (rule-found names r (listed-left names (names_of_rule r) (flat_map names_of_rule rs) h))
    ∙ ap (λ t. named_line r ∷ t) (rules-found names rs (listed-right names (names_of_rule r) (flat_map names_of_rule rs) h))
