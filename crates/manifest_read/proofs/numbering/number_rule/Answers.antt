use Rattle.std.proofs.Common.{◌≡◌, ℕ, List, refl, sym, ◌∙◌}
use Rattle.surf_kinds.specs.Rates.{Fraction}
use Rattle.surf_kinds.specs.declared.rule.Rule.TheVariants.{Two}
use Rattle.surf_kinds.specs.declared.site.SpeciesId.{SpeciesId}
use Rattle.species.specs.Names.{with_name, place_of}
use Rattle.manifest_read.proofs.Cells.{place-more, listed-more, listed-itself}
use Rattle.manifest_read.proofs.numbering.number_rule.Goals as goal

same : (r r' : Fraction) (a a' b b' c c' d d' : SpeciesId) → r ≡ r' → a ≡ a' → b ≡ b' → c ≡ c' → d ≡ d' → Two r a b c d ≡ Two r' a' b' c' d'
same r r' a a' b b' c c' d d' e f g h i = cc

later : (known names after : List (List ℕ)) (a b c d : List ℕ) → names ≡ with_name (with_name known a) b → after ≡ with_name (with_name names c) d
    → (place_of names a ≡ place_of after a) × (place_of names b ≡ place_of after b)
later known names after a b c d e f =
    let first = listed-more (with_name known a) b a (listed-itself known a) in
    let second = listed-itself (with_name known a) b in
    rw (f, e) (
      sym (place-more (with_name (with_name (with_name known a) b) c) d a (listed-more _ c a first) ∙ place-more _ c a first),
      sym (place-more (with_name (with_name (with_name known a) b) c) d b (listed-more _ c b second) ∙ place-more _ c b second),
    )

pub returns-in-Ok-both-2-clause-rule : goal.returns-in-Ok-both-2-clause-rule
returns-in-Ok-both-2-clause-rule c =
    let p = later _ c.both-in-Two.new.names c.both-in-Two-2.new.names c.in-Two.a.now c.in-Two.b.now c.in-Two.c.now c.in-Two.d.now c.in-Ok-both.ensures.names c.in-Ok-both-2.ensures.names in
    rw c.in-Two.is (same _ _ _ _ _ _ _ _ _ _ refl (c.in-Ok-both.ensures.first ∙ p.0) (c.in-Ok-both.ensures.second ∙ p.1) c.in-Ok-both-2.ensures.first c.in-Ok-both-2.ensures.second)
