-- All the places of a site, as they are found one after the other.
use Rattle.std.proofs.Common.{◌≡◌, ℕ, ◌+◌, ◌*◌, ◌<◌, ◌≤◌, List, [], ◌∷◌, length, take, map, Option, Some, None, inl, inr, ◌↔◌, refl, sym, ap, ◌∙◌, arith}
use Rattle.std.specs.Prelude.{Contains, slice_index}
use Rattle.std.specs.Option.{option_and}
use Rattle.std.proofs.lemmas.Option.{none-some, same_Some}
use Rattle.std.proofs.lemmas.List.{get_or-map, get_or-take, get_or_default, length-map, length-take-le}
use Rattle.surf_kinds.specs.declared.site.SiteId.{SiteId}
use Rattle.surf_kinds.specs.declared.place.Place.{Place}
use Rattle.surf_kinds.specs.declared.place.Step.{Step}
use Rattle.surf_kinds.specs.declared.place.Step.TheVariants.{Alone, East, South, SouthWest}
use Rattle.surf_kinds.specs.Steps.{number_of_place}
use Rattle.lattice.specs.Shape.{Shape}
use Rattle.lattice.specs.Places.{neighbour, behind, number_of, ArePlacesOf}
use Rattle.lattice.specs.Rising.{number_at, Rise, IsListed, IsPairOf}
use Rattle.lattice.proofs.Slots.{Way, way_of, has_way}
use Rattle.lattice.proofs.Moves.{behind_differs}
use Rattle.lattice.proofs.Chain.{Pair, IsOneOf, Differ, Has, pair_at, is_pair}

pub and_is : (o : Option SiteId) (s m : SiteId) → option_and o (Some s) ≡ Some m → (m ≡ s) × ((n : SiteId) × (o ≡ Some n))
and_is None s m e = absurd (none-some m e)
and_is (Some n) s m e = (sym (same_Some s m e), (n, refl))

pub and_some : (o : Option SiteId) (s n : SiteId) → o ≡ Some n → option_and o (Some s) ≡ Some s
and_some o s n e = ap (λ p. option_and p (Some s)) e

-- the site of a pair is not the site behind it
pub differ : (l : Shape) (s : SiteId) (d : Step) (back own : Option SiteId) (o : Option SiteId) → s.0 < l.rows * l.cols → back ≡ behind l s.0 d → own ≡ option_and o (Some s) → Differ back own
differ l s d back own o h b p n m e i is =
    let same = and_is o s m (sym p ∙ i) in
    behind_differs l s.0 d n h (sym b ∙ e) (is ∙ ap (λ (x : SiteId). x.0) same.0)

-- what is found round a site
pub record Around (l : Shape) (s : SiteId) (north north_east west east south south_west : Option SiteId) : Type 0 where
  pub within : s.0 < l.rows * l.cols
  pub north_is : north ≡ behind l s.0 South
  pub north_east_is : north_east ≡ behind l s.0 SouthWest
  pub west_is : west ≡ behind l s.0 East
  pub east_is : east ≡ option_and (neighbour l s.0 East) (Some s)
  pub south_is : south ≡ option_and (neighbour l s.0 South) (Some s)
  pub south_west_is : south_west ≡ option_and (neighbour l s.0 SouthWest) (Some s)

abbrev pub first_1 : Option SiteId → List Pair
first_1 n = record { site = n; step = South } ∷ []

abbrev pub first_2 : Option SiteId → Option SiteId → List Pair
first_2 n ne = record { site = ne; step = SouthWest } ∷ first_1 n

abbrev pub first_3 : Option SiteId → Option SiteId → Option SiteId → List Pair
first_3 n ne w = record { site = w; step = East } ∷ first_2 n ne

abbrev pub first_4 : SiteId → Option SiteId → Option SiteId → Option SiteId → List Pair
first_4 s n ne w = record { site = Some s; step = Alone } ∷ first_3 n ne w

abbrev pub first_5 : SiteId → Option SiteId → Option SiteId → Option SiteId → Option SiteId → List Pair
first_5 s n ne w e = record { site = e; step = East } ∷ first_4 s n ne w

abbrev pub first_6 : SiteId → Option SiteId → Option SiteId → Option SiteId → Option SiteId → Option SiteId → List Pair
first_6 s n ne w e so = record { site = so; step = South } ∷ first_5 s n ne w e

-- all pairs, the last one first
abbrev pub found : SiteId → Option SiteId → Option SiteId → Option SiteId → Option SiteId → Option SiteId → Option SiteId → List Pair
found s n ne w e so sw = record { site = sw; step = SouthWest } ∷ first_6 s n ne w e so

own_way : (l : Shape) (s : SiteId) (d : Step) (own : Option SiteId) (q : ℕ) → own ≡ option_and (neighbour l s.0 d) (Some s) → IsPairOf own d q → Way l s.0 q
own_way l s d own q is p =
    let x = pair_at own d q p in
    let same = and_is (neighbour l s.0 d) s x.0 (sym is ∙ x.1) in
    inr (inl (d, same.1.0, x.2 ∙ ap (λ (n : SiteId). number_of_place n.0 d) same.0, same.1.1))

back_way : (l : Shape) (s : SiteId) (d : Step) (back : Option SiteId) (q : ℕ) → back ≡ behind l s.0 d → IsPairOf back d q → Way l s.0 q
back_way l s d back q is p =
    let x = pair_at back d q p in
    inr (inr (d, x.0, x.2, sym is ∙ x.1))

pub way_from : (l : Shape) (s : SiteId) (n ne w e so sw : Option SiteId) → Around l s n ne w e so sw → (q : ℕ) → IsOneOf (found s n ne w e so sw) q → Way l s.0 q
way_from l s n ne w e so sw a q (inr p) = own_way l s SouthWest sw q a.south_west_is p
way_from l s n ne w e so sw a q (inl (inr p)) = own_way l s South so q a.south_is p
way_from l s n ne w e so sw a q (inl (inl (inr p))) = own_way l s East e q a.east_is p
way_from l s n ne w e so sw a q (inl (inl (inl (inr p)))) = inl p
way_from l s n ne w e so sw a q (inl (inl (inl (inl (inr p))))) = back_way l s East w q a.west_is p
way_from l s n ne w e so sw a q (inl (inl (inl (inl (inl (inr p)))))) = back_way l s SouthWest ne q a.north_east_is p
way_from l s n ne w e so sw a q (inl (inl (inl (inl (inl (inl (inr p))))))) = back_way l s South n q a.north_is p
way_from l s n ne w e so sw a q (inl (inl (inl (inl (inl (inl (inl p))))))) = absurd p

own_from : (l : Shape) (s : SiteId) (n ne w e so sw : Option SiteId) → Around l s n ne w e so sw → (q : ℕ) (d : Step) (m : SiteId) → q ≡ number_of_place s.0 d → neighbour l s.0 d ≡ Some m → IsOneOf (found s n ne w e so sw) q
own_from l s n ne w e so sw a q Alone m is at = absurd (none-some m at)
own_from l s n ne w e so sw a q East m is at = inl (inl (inr (is_pair e East q s (a.east_is ∙ and_some (neighbour l s.0 East) s m at) is)))
own_from l s n ne w e so sw a q South m is at = inl (inr (is_pair so South q s (a.south_is ∙ and_some (neighbour l s.0 South) s m at) is))
own_from l s n ne w e so sw a q SouthWest m is at = inr (is_pair sw SouthWest q s (a.south_west_is ∙ and_some (neighbour l s.0 SouthWest) s m at) is)

back_from : (l : Shape) (s : SiteId) (n ne w e so sw : Option SiteId) → Around l s n ne w e so sw → (q : ℕ) (d : Step) (m : SiteId) → q ≡ number_of_place m.0 d → behind l s.0 d ≡ Some m → IsOneOf (found s n ne w e so sw) q
back_from l s n ne w e so sw a q Alone m is at = absurd (none-some m at)
back_from l s n ne w e so sw a q East m is at = inl (inl (inl (inl (inr (is_pair w East q m (a.west_is ∙ at) is)))))
back_from l s n ne w e so sw a q South m is at = inl (inl (inl (inl (inl (inl (inr (is_pair n South q m (a.north_is ∙ at) is)))))))
back_from l s n ne w e so sw a q SouthWest m is at = inl (inl (inl (inl (inl (inr (is_pair ne SouthWest q m (a.north_east_is ∙ at) is))))))

pub from_way : (l : Shape) (s : SiteId) (n ne w e so sw : Option SiteId) → Around l s n ne w e so sw → (q : ℕ) → Way l s.0 q → IsOneOf (found s n ne w e so sw) q
from_way l s n ne w e so sw a q (inl alone) = inl (inl (inl (inr alone)))
from_way l s n ne w e so sw a q (inr (inl p)) = own_from l s n ne w e so sw a q p.0 p.1 p.2 p.3
from_way l s n ne w e so sw a q (inr (inr p)) = back_from l s n ne w e so sw a q p.0 p.1 p.2 p.3

number_within : (list : List Place) (n k : ℕ) → k < n → n ≤ length list → slice_index (map number_of (take n list)) k ≡ number_at list k
number_within list n k h le =
    get_or-map number_of (take n list) k (record { 0 = 0 }) 0 (omega (arith, length-take-le n list le))
    ∙ ap number_of (get_or-take n list k (record { 0 = 0 }) h)

contained : (list : List Place) (n q : ℕ) → n ≤ length list → IsListed list n q ↔ Contains (take n list) (record { 0 = q })
contained list n q le = (
  λ i. (
    i.0,
    omega (arith, i.1, length-take-le n list le),
    get_or-take n list i.0 (record { 0 = q }) i.1 ∙ get_or_default list i.0 (record { 0 = q }) (record { 0 = 0 }) (omega (arith, i.1, le)) ∙ ap (λ k. record { 0 = k }) i.2,
  ),
  λ h.
      let below : h.0 < n = omega (arith, h.1, length-take-le n list le) in (
        h.0,
        below,
        ap number_of (get_or_default list h.0 (record { 0 = 0 }) (record { 0 = q }) (omega (arith, below, le)) ∙ sym (get_or-take n list h.0 (record { 0 = q }) below) ∙ h.2),
      ),
)

-- a list that rises and has the pairs round a site has all places of the site
pub are_places : (l : Shape) (s : SiteId) (n ne w e so sw : Option SiteId) (list : List Place) (count : ℕ) → Around l s n ne w e so sw → count ≤ length list → Rise list count → Has (IsListed list count) (found s n ne w e so sw) → ArePlacesOf l s.0 (take count list)
are_places l s n ne w e so sw list count a le up has = record {
  rising = λ k h.
      let below : k + 1 < count = omega (arith, h, length-map (take count list) number_of, length-take-le count list le) in
      rw (number_within list count k (omega arith) le, number_within list count (k + 1) below le) (up k below);
  exactly = λ q. (
    λ h. (contained list count q le).0 ((has.are q).1 (from_way l s n ne w e so sw a q (way_of l s.0 q h))),
    λ h. has_way l s.0 q a.within (way_from l s n ne w e so sw a q ((has.are q).0 ((contained list count q le).1 h))),
  );
}
