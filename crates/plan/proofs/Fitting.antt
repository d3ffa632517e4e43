-- What follows where a channel fits a place.
use Rattle.std.proofs.Common.{◌≡◌, ℕ, ◌<◌, List, length, Option, Some, None, Bool, true, false, refl, ap, ◌∙◌}
use Rattle.std.specs.Prelude.{slice_get, IfSome, IsSome, is_some, not, if◌then◌else◌}
use Rattle.std.specs.Option.{option_map}
use Rattle.std.proofs.lemmas.Bool.{and_parts, false≢true}
use Rattle.std.proofs.lemmas.Option.{same_Some, slice_get_within}
use Rattle.surf_kinds.specs.declared.rule.Rule.{Rule}
use Rattle.surf_kinds.specs.declared.rule.Rule.TheVariants.{One, Two}
use Rattle.surf_kinds.specs.declared.site.Sites.{Sites}
use Rattle.surf_kinds.specs.declared.site.SpeciesId.{SpeciesId}
use Rattle.surf_kinds.specs.Channels.{rule_of_channel, way_of_channel}
use Rattle.lattice.specs.Places.{sites_of, IsPlace}
use Rattle.lattice.specs.Channels.{products}
use Rattle.lattice.specs.Surface.{IsChannelOf}
use Rattle.plan.specs.Network.{Network}
use Rattle.plan.specs.Products.{products_of, has_two, has_as_many, fits_place}

-- the number is a place, and the channel is one of a rule
fits_parts : (way : ℕ) (p : Option Sites) (o : Option Rule) → has_as_many way p o ≡ true → IsSome p × IsSome o
fits_parts way None o h = absurd (false≢true h)
fits_parts way (Some p) None h = absurd (false≢true h)
fits_parts way (Some p) (Some rule) h = (refl, refl)

some_within : (rules : List Rule) (i : ℕ) (o : Option Rule) → slice_get rules i ≡ o → IsSome o → i < length rules
some_within rules i None is h = absurd (false≢true h)
some_within rules i (Some rule) is h = slice_get_within rules i rule is

pub fits_is_place : (n : Network) (place channel : ℕ) → fits_place n place channel ≡ true → IsPlace n.lattice place
fits_is_place n place channel h = (fits_parts (way_of_channel channel) (sites_of n.lattice place) (slice_get n.rules (rule_of_channel channel)) h).0

pub fits_is_channel : (n : Network) (place channel : ℕ) → fits_place n place channel ≡ true → IsChannelOf n.rules channel
fits_is_channel n place channel h =
    some_within n.rules (rule_of_channel channel) (slice_get n.rules (rule_of_channel channel)) refl
    (fits_parts (way_of_channel channel) (sites_of n.lattice place) (slice_get n.rules (rule_of_channel channel)) h).1

-- a rule of one site has one product, a rule of two sites two
product_two : (way : ℕ) (rule : Rule) → is_some (products way rule).1 ≡ has_two rule
product_two way (One rate a c) = refl
product_two way (Two rate a b c d) = refl

as_many : (two here : Bool) → (if here then two else not two) ≡ true → two ≡ here
as_many true true h = refl
as_many true false h = absurd (false≢true h)
as_many false true h = absurd (false≢true h)
as_many false false h = refl

-- its products are as many as the place's sites
pub fits_products : (n : Network) (place channel : ℕ) (to : SpeciesId × Option SpeciesId) → fits_place n place channel ≡ true → Some to ≡ products_of n.rules channel → IfSome (sites_of n.lattice place) (λ p. is_some to.1 ≡ is_some p.second)
fits_products n place channel to h is = go (sites_of n.lattice place) (slice_get n.rules (rule_of_channel channel)) h is
  where
    go : (p : Option Sites) (o : Option Rule) → has_as_many (way_of_channel channel) p o ≡ true → Some to ≡ option_map (products (way_of_channel channel)) o → IfSome p (λ p. is_some to.1 ≡ is_some p.second)
    go None o h is = tt
    go (Some p) None h is = absurd (false≢true h)
    go (Some p) (Some rule) h is =
        let two : has_two rule ≡ is_some p.second = as_many (has_two rule) (is_some p.second) (and_parts _ _ h).0 in
        let same : to ≡ products (way_of_channel channel) rule = same_Some to _ is in
        ap (λ (t : SpeciesId × Option SpeciesId). is_some t.1) same ∙ (product_two (way_of_channel channel) rule ∙ two)
