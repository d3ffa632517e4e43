-- The products of a channel are species of the surface.
use Rattle.std.proofs.Common.{◌≡◌, ℕ, ◌<◌, List, length, Option, Some, None, Bool, true, false, ◌==◌, if◌then◌else◌, sym, ◌∙◌, subst, get_or, refl}
use Rattle.std.specs.Prelude.{slice_get, All}
use Rattle.std.specs.Option.{option_map}
use Rattle.std.proofs.lemmas.Option.{none-some, same_Some, slice_get_within, slice_get-get_or}
use Rattle.surf_kinds.specs.Channels.{rule_of_channel, way_of_channel}
use Rattle.surf_kinds.specs.declared.rule.Rule.{Rule}
use Rattle.surf_kinds.specs.declared.rule.Rule.TheVariants.{One, Two}
use Rattle.surf_kinds.specs.declared.site.SpeciesId.{SpeciesId}
use Rattle.lattice.specs.Channels.{products}
use Rattle.plan.specs.Products.{products_of}
use Rattle.surface_state.specs.Changes.{AreBelow}
use Rattle.plan.specs.Products.{LeavesWithin}

leaves : (species_count way : ℕ) (rule : Rule) → LeavesWithin species_count rule → AreBelow species_count (products way rule).0 (products way rule).1
leaves species_count way (One rate a c) h = (h, tt)
leaves species_count way (Two rate a b c d) h = pick (way == 0)
  where
    both : Bool → SpeciesId × Option SpeciesId
    both t = (if t then c else d, Some (if t then d else c))

    pick : (t : Bool) → AreBelow species_count (both t).0 (both t).1
    pick true = h
    pick false = (h.1, h.0)

pub products_below : (species_count : ℕ) (rules : List Rule) (channel : ℕ) (to : SpeciesId × Option SpeciesId) → All (LeavesWithin species_count) rules → Some to ≡ products_of rules channel → AreBelow species_count to.0 to.1
products_below species_count rules channel to all is = go (slice_get rules (rule_of_channel channel)) refl is
  where
    go : (o : Option Rule) → slice_get rules (rule_of_channel channel) ≡ o → Some to ≡ option_map (products (way_of_channel channel)) o → AreBelow species_count to.0 to.1
    go None at h = absurd (none-some to (sym h))
    go (Some rule) at h =
        let inside : rule_of_channel channel < length rules = slice_get_within rules (rule_of_channel channel) rule at in
        let same : get_or rules (rule_of_channel channel) rule ≡ rule = same_Some _ _ (sym (slice_get-get_or rules (rule_of_channel channel) rule inside) ∙ at) in
        let within : LeavesWithin species_count rule = subst (LeavesWithin species_count) same (all (rule_of_channel channel) rule inside) in
        subst (λ (t : SpeciesId × Option SpeciesId). AreBelow species_count t.0 t.1) (sym (same_Some _ _ h)) (leaves species_count (way_of_channel channel) rule within)
