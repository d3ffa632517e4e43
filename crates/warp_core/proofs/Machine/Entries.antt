-- The next entry of a region, as the code finds it.
use Rattle.std.proofs.Common.{◌≡◌, ℕ, ◌<◌, length, sym, ap, ◌∙◌, Option, Some, None, slice_index_or}
use Rattle.std.specs.Prelude.{IfSome, IfNone}
use Rattle.surf_kinds.specs.declared.event.Event.{Event}
use Rattle.border.specs.Stacked.{stack_of}
use Rattle.plan.specs.Network.{Network}
use Rattle.regions.specs.Bands.{Bands}
use Rattle.warp_core.specs.Simulation.{Setting, world_in}
use Rattle.warp_core.specs.Parts.{IsNextEntry, HasNoEntry}
use Rattle.warp_core.specs.Cores.{base_of}
use Rattle.warp_core.specs.Choices.{first_entry}
use Rattle.warp_core.specs.Configs.{core_of, IsConfigOf}
use Rattle.warp_core.specs.declared.config.Config.{Config}
use Rattle.warp_core.specs.declared.region.Region.{Region}
use Rattle.warp_core.proofs.Machine.Homes.{next_here, none_here}

module _ (n : Network) (c : Config) (i : ℕ) (r : Region) (s : Setting) (g : IsConfigOf n s c) (inside : i < length c.regions.items) (is : r ≡ slice_index_or c.regions.items i r) where
  -- with the cut and the duration of the setting
  settled : (o : Option Event) → o ≡ first_entry n c.cut i r.surface.sites (stack_of r.stacks) r.clock c.until c.cut.count → first_entry n s.bands i r.surface.sites (stack_of r.stacks) r.clock s.until s.bands.count ≡ o
  settled o h =
      sym (h ∙ (ap (λ (b : Bands). first_entry n b i r.surface.sites (stack_of r.stacks) r.clock c.until b.count) g.bands
      ∙ ap (λ u. first_entry n s.bands i r.surface.sites (stack_of r.stacks) r.clock u s.bands.count) g.until))

  pub some_entry : (o : Option Event) → o ≡ first_entry n c.cut i r.surface.sites (stack_of r.stacks) r.clock c.until c.cut.count → IfSome o (IsNextEntry (world_in n s) (base_of (world_in n s) (core_of c)) i ((core_of c).part i))
  some_entry None h = tt
  some_entry (Some e) h = next_here n s c.horizon c.committed.items c.regions.items g.setting g.count g.consistent g.homes i r inside is e (settled (Some e) h)

  pub none_entry : (o : Option Event) → o ≡ first_entry n c.cut i r.surface.sites (stack_of r.stacks) r.clock c.until c.cut.count → IfNone o (HasNoEntry (world_in n s) (base_of (world_in n s) (core_of c)) i ((core_of c).part i))
  none_entry None h = none_here n s c.horizon c.committed.items c.regions.items g.setting g.count g.consistent g.homes i r inside is (settled None h)
  none_entry (Some e) h = tt
