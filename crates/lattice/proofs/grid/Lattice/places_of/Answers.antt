use Rattle.std.proofs.Common.{Some, refl, ap, ◌∙◌, inl, inr, arith}
use Rattle.std.specs.Option.{option_and}
use Rattle.surf_kinds.specs.declared.place.Step.TheVariants.{Alone, East, South, SouthWest}
use Rattle.surf_kinds.specs.Steps.{number_of_place}
use Rattle.lattice.specs.Rising.{IsListed}
use Rattle.lattice.proofs.Chain.{none_yet, grown, absent}
use Rattle.lattice.proofs.Around.{first_1, first_2, first_3, first_4, first_5, first_6, differ, are_places}
use Rattle.lattice.proofs.grid.Lattice.places_of.Goals as goal

pub add-requires-2-clause-absent : goal.add-requires-2-clause-absent
add-requires-2-clause-absent c =
    absent (IsListed c.add.new.self.list c.add.new.self.count) (first_1 c.north.result) c.north_east.result SouthWest
    (grown _ _ _ c.north.result South (none_yet c.new-places.result.list c.new-places.result.count c.new-places.ensures) c.add.ensures.listed)
    (tt, tt)

pub add-requires-3-clause-absent : goal.add-requires-3-clause-absent
add-requires-3-clause-absent c =
    absent (IsListed c.add-2.new.self.list c.add-2.new.self.count) (first_2 c.north.result c.north_east.result) c.west.result East
    (grown _ _ _ c.north_east.result SouthWest (grown _ _ _ c.north.result South (none_yet c.new-places.result.list c.new-places.result.count c.new-places.ensures) c.add.ensures.listed) c.add-2.ensures.listed)
    ((tt, tt), tt)

pub add-requires-4-clause-absent : goal.add-requires-4-clause-absent
add-requires-4-clause-absent c =
    absent (IsListed c.add-3.new.self.list c.add-3.new.self.count) (first_3 c.north.result c.north_east.result c.west.result) (Some c.args.site) Alone
    (grown _ _ _ c.west.result East (grown _ _ _ c.north_east.result SouthWest (grown _ _ _ c.north.result South (none_yet c.new-places.result.list c.new-places.result.count c.new-places.ensures) c.add.ensures.listed) c.add-2.ensures.listed) c.add-3.ensures.listed)
    (((tt, tt), tt), tt)

pub add-requires-5-clause-absent : goal.add-requires-5-clause-absent
add-requires-5-clause-absent c =
    absent (IsListed c.add-4.new.self.list c.add-4.new.self.count) (first_4 c.args.site c.north.result c.north_east.result c.west.result) c.and.result East
    (grown _ _ _ (Some c.args.site) Alone (grown _ _ _ c.west.result East (grown _ _ _ c.north_east.result SouthWest (grown _ _ _ c.north.result South (none_yet c.new-places.result.list c.new-places.result.count c.new-places.ensures) c.add.ensures.listed) c.add-2.ensures.listed) c.add-3.ensures.listed) c.add-4.ensures.listed)
    ((((tt, tt), tt), differ c.args.self.now c.args.site East c.west.result c.and.result c.east.result c.requires c.west.ensures c.and.ensures), tt)

pub add-requires-6-clause-absent : goal.add-requires-6-clause-absent
add-requires-6-clause-absent c =
    absent (IsListed c.add-5.new.self.list c.add-5.new.self.count) (first_5 c.args.site c.north.result c.north_east.result c.west.result c.and.result) c.and-2.result South
    (grown _ _ _ c.and.result East (grown _ _ _ (Some c.args.site) Alone (grown _ _ _ c.west.result East (grown _ _ _ c.north_east.result SouthWest (grown _ _ _ c.north.result South (none_yet c.new-places.result.list c.new-places.result.count c.new-places.ensures) c.add.ensures.listed) c.add-2.ensures.listed) c.add-3.ensures.listed) c.add-4.ensures.listed) c.add-5.ensures.listed)
    (((((tt, differ c.args.self.now c.args.site South c.north.result c.and-2.result c.south.result c.requires c.north.ensures c.and-2.ensures), tt), tt), tt), tt)

pub add-requires-7-clause-absent : goal.add-requires-7-clause-absent
add-requires-7-clause-absent c =
    absent (IsListed c.add-6.new.self.list c.add-6.new.self.count) (first_6 c.args.site c.north.result c.north_east.result c.west.result c.and.result c.and-2.result) c.and-3.result SouthWest
    (grown _ _ _ c.and-2.result South (grown _ _ _ c.and.result East (grown _ _ _ (Some c.args.site) Alone (grown _ _ _ c.west.result East (grown _ _ _ c.north_east.result SouthWest (grown _ _ _ c.north.result South (none_yet c.new-places.result.list c.new-places.result.count c.new-places.ensures) c.add.ensures.listed) c.add-2.ensures.listed) c.add-3.ensures.listed) c.add-4.ensures.listed) c.add-5.ensures.listed) c.add-6.ensures.listed)
    ((((((tt, tt), differ c.args.self.now c.args.site SouthWest c.north_east.result c.and-3.result c.south_west.result c.requires c.north_east.ensures c.and-3.ensures), tt), tt), tt), tt)

pub returns-clause-places : goal.returns-clause-places
returns-clause-places c =
    are_places c.args.self.now c.args.site c.north.result c.north_east.result c.west.result c.and.result c.and-2.result c.and-3.result c.add-7.new.self.list c.add-7.new.self.count
    (record {
      within = c.requires;
      north_is = c.north.ensures;
      north_east_is = c.north_east.ensures;
      west_is = c.west.ensures;
      east_is = c.and.ensures ∙ ap (λ o. option_and o (Some c.args.site)) c.east.ensures;
      south_is = c.and-2.ensures ∙ ap (λ o. option_and o (Some c.args.site)) c.south.ensures;
      south_west_is = c.and-3.ensures ∙ ap (λ o. option_and o (Some c.args.site)) c.south_west.ensures;
    })
    (omega arith) c.add-7.ensures.rising
    (grown _ _ _ c.and-3.result SouthWest (grown _ _ _ c.and-2.result South (grown _ _ _ c.and.result East (grown _ _ _ (Some c.args.site) Alone (grown _ _ _ c.west.result East (grown _ _ _ c.north_east.result SouthWest (grown _ _ _ c.north.result South (none_yet c.new-places.result.list c.new-places.result.count c.new-places.ensures) c.add.ensures.listed) c.add-2.ensures.listed) c.add-3.ensures.listed) c.add-4.ensures.listed) c.add-5.ensures.listed) c.add-6.ensures.listed) c.add-7.ensures.listed)

-- the site's own place is there
pub returns-clause-at_least : goal.returns-clause-at_least
returns-clause-at_least c =
    let own = (c.add-4.ensures.listed (number_of_place c.args.site.0 Alone)).1 (inr refl) in
    let last = (c.add-7.ensures.listed (number_of_place c.args.site.0 Alone)).1 (inl ((c.add-6.ensures.listed (number_of_place c.args.site.0 Alone)).1 (inl ((c.add-5.ensures.listed (number_of_place c.args.site.0 Alone)).1 (inl own))))) in
    omega (arith, last.1)
