-- The sites of a place.
use Rattle.std.proofs.Common.{◌≡◌, ℕ, ◌*◌, ◌<◌, Option, Some, None, Bool, true, false, refl, sym, ap, ◌∙◌, arith, if◌then◌else◌}
use Rattle.std.specs.Prelude.{nat_lt}
use Rattle.std.proofs.lemmas.Option.{none-some, same_Some}
use Rattle.std.proofs.lemmas.Bool.Decides.{nat_tests}
use Rattle.surf_kinds.specs.declared.site.SiteId.{SiteId}
use Rattle.surf_kinds.specs.declared.site.Sites.{Sites}
use Rattle.surf_kinds.specs.declared.place.Step.{Step}
use Rattle.surf_kinds.specs.declared.place.Step.TheVariants.{Alone, East, South, SouthWest}
use Rattle.surf_kinds.specs.Steps.{site_of_place, step_of_place}
use Rattle.lattice.specs.Shape.{Shape}
use Rattle.lattice.specs.Places.{forward, back, is_hex, neighbour, behind, paired, sites_at, sites_of}
use Rattle.lattice.proofs.Steps.{undo, stay, forward_back, back_forward}

-- what a choice gives
given : (b : Bool) (x x' : Option SiteId) (n m : SiteId) (P : Type 0) → (x ≡ Some n → P × (x' ≡ Some m)) → (if b then x else None) ≡ Some n → P × ((if b then x' else None) ≡ Some m)
given true x x' n m P f e = f e
given false x x' n m P f e = absurd (none-some n e)

-- a step leads to a site, and comes from behind that site
pub neighbour_back : (l : Shape) (s : ℕ) (d : Step) (n : SiteId) → s < l.rows * l.cols → neighbour l s d ≡ Some n → (n.0 < l.rows * l.cols) × (behind l n.0 d ≡ Some (record { 0 = s }))
neighbour_back l s Alone n h e = absurd (none-some n e)
neighbour_back l s East n h e =
    undo l.rows l.cols (λ i. Some i) (λ i. Some i) (forward l.wrap l.cols) (back l.wrap l.cols) (stay l.rows) (forward_back l.wrap l.cols) s n h e
neighbour_back l s South n h e =
    undo l.rows l.cols (forward l.wrap l.rows) (back l.wrap l.rows) (λ i. Some i) (λ i. Some i) (forward_back l.wrap l.rows) (stay l.cols) s n h e
neighbour_back l s SouthWest n h e =
    given (is_hex l.kind) _ _ n (record { 0 = s }) (n.0 < l.rows * l.cols)
    (undo l.rows l.cols (forward l.wrap l.rows) (back l.wrap l.rows) (back l.wrap l.cols) (forward l.wrap l.cols) (forward_back l.wrap l.rows) (back_forward l.wrap l.cols) s n h)
    e

pub behind_forth : (l : Shape) (s : ℕ) (d : Step) (n : SiteId) → s < l.rows * l.cols → behind l s d ≡ Some n → (n.0 < l.rows * l.cols) × (neighbour l n.0 d ≡ Some (record { 0 = s }))
behind_forth l s Alone n h e = absurd (none-some n e)
behind_forth l s East n h e =
    undo l.rows l.cols (λ i. Some i) (λ i. Some i) (back l.wrap l.cols) (forward l.wrap l.cols) (stay l.rows) (back_forward l.wrap l.cols) s n h e
behind_forth l s South n h e =
    undo l.rows l.cols (back l.wrap l.rows) (forward l.wrap l.rows) (λ i. Some i) (λ i. Some i) (back_forward l.wrap l.rows) (stay l.cols) s n h e
behind_forth l s SouthWest n h e =
    given (is_hex l.kind) _ _ n (record { 0 = s }) (n.0 < l.rows * l.cols)
    (undo l.rows l.cols (back l.wrap l.rows) (forward l.wrap l.rows) (forward l.wrap l.cols) (back l.wrap l.cols) (back_forward l.wrap l.rows) (forward_back l.wrap l.cols) s n h)
    e

-- a site to which the step of a place leads
pub record Joined (l : Shape) (place : ℕ) (n : SiteId) : Type 0 where
  pub step : Step
  pub step_is : step_of_place place ≡ Some step
  pub leads : neighbour l (site_of_place place) step ≡ Some n

-- a place is a site, or a site with the neighbour to which its step leads
pub record Described (l : Shape) (place : ℕ) (p : Sites) : Type 0 where
  pub below : site_of_place place < l.rows * l.cols
  pub first : p.first.0 ≡ site_of_place place
  pub alone : p.second ≡ None → step_of_place place ≡ Some Alone
  pub joined : (n : SiteId) → p.second ≡ Some n → Joined l place n

within : (b : Bool) (o : Option Sites) (p : Sites) → (if b then o else None) ≡ Some p → (b ≡ true) × (o ≡ Some p)
within true o p e = (refl, e)
within false o p e = absurd (none-some p e)

of_pair : (l : Shape) (place : ℕ) (p : Sites) (d : Step) (o : Option SiteId) → step_of_place place ≡ Some d → o ≡ neighbour l (site_of_place place) d → site_of_place place < l.rows * l.cols → paired (site_of_place place) o ≡ Some p → Described l place p
of_pair l place p d None step is h e = absurd (none-some p e)
of_pair l place p d (Some m) step is h e =
    let same = same_Some _ p e in
    record {
      below = h;
      first = sym (ap (λ (x : Sites). x.first.0) same);
      alone = λ none. absurd (none-some m (sym none ∙ sym (ap (λ (x : Sites). x.second) same)));
      joined = λ n some. record { step = d; step_is = step; leads = sym is ∙ ap (λ (x : Sites). x.second) same ∙ some };
    }

of_sites : (l : Shape) (place : ℕ) (p : Sites) (o : Option Step) → step_of_place place ≡ o → site_of_place place < l.rows * l.cols → sites_at l (site_of_place place) o ≡ Some p → Described l place p
of_sites l place p None step h e = absurd (none-some p e)
of_sites l place p (Some Alone) step h e =
    let same = same_Some _ p e in
    record {
      below = h;
      first = sym (ap (λ (x : Sites). x.first.0) same);
      alone = λ none. step;
      joined = λ n some. absurd (none-some n (ap (λ (x : Sites). x.second) same ∙ some));
    }
of_sites l place p (Some East) step h e = of_pair l place p East _ step refl h e
of_sites l place p (Some South) step h e = of_pair l place p South _ step refl h e
of_sites l place p (Some SouthWest) step h e = of_pair l place p SouthWest _ step refl h e

pub described : (l : Shape) (place : ℕ) (p : Sites) → sites_of l place ≡ Some p → Described l place p
unfolding sites_of
described l place p e =
    let in_it = within (nat_lt (site_of_place place) (l.rows * l.cols)) (sites_at l (site_of_place place) (step_of_place place)) p e in
    of_sites l place p (step_of_place place) refl (let t = in_it.0 in grind (arith, nat_tests)) in_it.1

-- both sites are sites of the lattice
pub first_below : (l : Shape) (place : ℕ) (p : Sites) → sites_of l place ≡ Some p → p.first.0 < l.rows * l.cols
first_below l place p e = let d = described l place p e in omega (arith, d.below, d.first)

pub second_below : (l : Shape) (place : ℕ) (p : Sites) (n : SiteId) → sites_of l place ≡ Some p → p.second ≡ Some n → n.0 < l.rows * l.cols
second_below l place p n e is =
    let d = described l place p e in
    let to = d.joined n is in
    (neighbour_back l (site_of_place place) to.step n d.below to.leads).0
