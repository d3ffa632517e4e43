use Rattle.std.proofs.Common.{◌≡◌, ◌∙◌, Some, inl, inr, refl, sym}
use Rattle.lattice.specs.Places.{sites_of}
use Rattle.lattice.proofs.tests.a_pair_is_found_from_both_its_sites.Goals as goal

pub sites_with-requires : goal.sites_with-requires
sites_with-requires g c =
    let is : sites_of c.in_ok-lattice.lattice 18 ≡ Some c.in_ok-sites.sites = sym c.sites_of.ensures ∙ c.in_ok-sites.ensures.ok_part in
    record { sites = c.in_ok-sites.sites; is = is; among = inl refl }

pub sites_with-requires-2 : goal.sites_with-requires-2
sites_with-requires-2 g c =
    let is : sites_of c.in_ok-lattice.lattice 18 ≡ Some c.in_ok-sites.sites = sym c.sites_of.ensures ∙ c.in_ok-sites.ensures.ok_part in
    record { sites = c.in_ok-sites.sites; is = is; among = inr c.in_ok-second.ensures.ok_part }
