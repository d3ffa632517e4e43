-- What a finished crew did.
use Rattle.std.proofs.Common.{◌≡◌, ℕ, ◌+◌, ◌-◌, ◌<◌, ◌≤◌, inl, inr, List, [], ◌∷◌, length, sym, ap, ◌∙◌, subst, arith, Some, if◌then◌else◌}
use Rattle.std.specs.Prelude.{slice_get}
use Rattle.std.proofs.lemmas.Bool.Decides.{eqb_tells}
use Rattle.std.proofs.lemmas.Option.{slice_get_within}
use Rattle.surf_kinds.specs.declared.event.Event.{Event}
use Rattle.surf_kinds.specs.Keys.{below, ◌is_upto◌}
use Rattle.warp_core.specs.World.{end_key}
use Rattle.warp_core.specs.Cores.{base_of}
use Rattle.warp_core.specs.Parts.{Part, IsSound}
use Rattle.warp_core.proofs.LawLemmas.{below_all}
use Rattle.region_run.specs.declared.region.Region.{Region}
use Rattle.region_run.specs.Regions.{part_of}
use Rattle.region_run.specs.Sides.{raised}
use Rattle.crew.specs.Crews.{CrewView, IsReady, world_in, core_in, part_if}
use Rattle.crew.specs.Balances.{total_of}
use Rattle.crew.specs.Reports.{added_in_all, cut_in_all, forgotten_in_all, fired_in_all}
use Rattle.crew.proofs.Balances.{all_accounted, nothing_between}
use Rattle.crew.proofs.Present.{laws}

module _ (v : CrewView) (ready : IsReady v) (finished : v.horizon ≡ end_key (world_in v)) where
  whole : below v.horizon (world_in v).history ≡ (world_in v).history
  whole = ap (λ k. below k (world_in v).history) finished ∙ below_all (end_key (world_in v)) (world_in v).history (laws v ready.past ready.base ready.crew).within

  pub all_handed_out : v.committed ≡ raised 0 (length (world_in v).history)
  all_handed_out = ready.handed_out ∙ ap (λ (l : List Event). raised 0 (length l)) whole

  -- all entries are below the end, and were forgotten
  no_entries : (i : ℕ) (r : Region) → slice_get v.regions i ≡ Some r → (part_of r).timeline ≡ []
  no_entries i r at =
      let s : IsSound (world_in v) (base_of (world_in v) (core_in v)) v.horizon i (part_of r) =
      subst (λ (p : Part). IsSound (world_in v) (base_of (world_in v) (core_in v)) v.horizon i p) (ap part_if at) (ready.consistent.sound i (omega (arith, slice_get_within v.regions i r at, ready.crew.count))) in
      nothing_between v.horizon (part_of r).clock (part_of r).timeline (subst (λ k. (part_of r).clock is_upto k) (sym finished) s.high) s.local.span

  pub fired_is : fired_in_all v.regions < 18446744073709551615 → fired_in_all v.regions ≡ v.committed + cut_in_all v.regions
  fired_is low =
      elim (eqb_tells (added_in_all v.regions) 18446744073709551615) [
        | inl p ↦
            let is : fired_in_all v.regions ≡ 18446744073709551615 = ap (λ t. if t then 18446744073709551615 else added_in_all v.regions - forgotten_in_all v.regions) p.0 in
            absurd (omega (arith, is, low))
        | inr p ↦
            let is : fired_in_all v.regions ≡ added_in_all v.regions - forgotten_in_all v.regions = ap (λ t. if t then 18446744073709551615 else added_in_all v.regions - forgotten_in_all v.regions) p.0 in
            let less : added_in_all v.regions < 18446744073709551615 = omega (arith, at_most v.regions, p.1) in
            let sum : added_in_all v.regions ≡ cut_in_all v.regions + forgotten_in_all v.regions + total_of ready.balanced.own_of (length v.regions) =
            all_accounted v.regions ready.balanced.own_of (λ i r at. (ready.balanced.each i r at, no_entries i r at)) less in
            numbers (added_in_all v.regions) (cut_in_all v.regions) (forgotten_in_all v.regions) (total_of ready.balanced.own_of (length v.regions)) v.committed (fired_in_all v.regions) is less sum
            (ready.handed_out ∙ ap (raised 0) (sym ready.balanced.all))
      ]
    where
      at_most : (rs : List Region) → added_in_all rs ≤ 18446744073709551615
      at_most [] = omega arith
      at_most (r ∷ rs) = omega arith

      numbers : (added cut forgotten own committed fired : ℕ) → fired ≡ added - forgotten → added < 18446744073709551615 → added ≡ cut + forgotten + own → committed ≡ raised 0 own → fired ≡ committed + cut
      numbers added cut forgotten own committed fired is less sum all = omega (arith, is, less, sum, all)
