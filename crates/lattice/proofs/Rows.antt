-- The rows of a place's sites.
use Rattle.std.proofs.Common.{◌≡◌, ℕ, ◌+◌, ◌*◌, ◌/◌, ◌%◌, ◌<◌, Some, true, false, ◌⊎◌, inl, inr, refl, sym, ap, ◌∙◌}
use Rattle.std.specs.Option.{option_map_or}
use Rattle.std.proofs.lemmas.Nat.{div-mul-add}
use Rattle.std.proofs.lemmas.Bool.{both_ways}
use Rattle.std.proofs.lemmas.Option.{none-some, same_Some}
use Rattle.surf_kinds.specs.declared.site.SiteId.{SiteId}
use Rattle.surf_kinds.specs.declared.site.Sites.{Sites}
use Rattle.surf_kinds.specs.declared.place.Step.{Step}
use Rattle.surf_kinds.specs.declared.place.Step.TheVariants.{Alone, East, South, SouthWest}
use Rattle.surf_kinds.specs.Steps.{site_of_place, step_of_place, number_of_place}
use Rattle.surf_kinds.proofs.Steps.{site_of_number}
use Rattle.lattice.specs.Shape.{Shape}
use Rattle.lattice.specs.Places.{forward, back, is_hex, site_at, neighbour, behind, sites_of, HasSite}
use Rattle.lattice.specs.Rows.{row_of_place, leads_down, goes_down, IsInRows, Lower, Upper}
use Rattle.lattice.proofs.Steps.{stay, stands_at, forward_back, back_forward}
use Rattle.lattice.proofs.Sites.{behind_forth, described, second_below}
use Rattle.lattice.proofs.Slots.{pair_is}
use Rattle.lattice.proofs.Moves.{arrives, when_some}
use Rattle.lattice.proofs.Apart.{none_or_some}

-- the row of the neighbour to which a step leads
abbrev Leads : Shape → ℕ → Step → ℕ → Type 0
Leads l s d row = ((leads_down d ≡ false) × (row ≡ s / l.cols)) ⊎ ((leads_down d ≡ true) × (forward l.wrap l.rows (s / l.cols) ≡ Some row))

leads : (l : Shape) (s : ℕ) (d : Step) (n : SiteId) → s < l.rows * l.cols → neighbour l s d ≡ Some n → Leads l s d (n.0 / l.cols)
leads l s Alone n h e = absurd (none-some n e)
leads l s East n h e =
    let to = arrives l.rows l.cols (λ i. Some i) (λ i. Some i) (forward l.wrap l.cols) (back l.wrap l.cols) (stay l.rows) (forward_back l.wrap l.cols) s n h e in
    inl (refl, sym (same_Some _ _ to.0))
leads l s South n h e =
    let to = arrives l.rows l.cols (forward l.wrap l.rows) (back l.wrap l.rows) (λ i. Some i) (λ i. Some i) (forward_back l.wrap l.rows) (stay l.cols) s n h e in
    inr (refl, to.0)
leads l s SouthWest n h e =
    let to = arrives l.rows l.cols (forward l.wrap l.rows) (back l.wrap l.rows) (back l.wrap l.cols) (forward l.wrap l.cols) (forward_back l.wrap l.rows) (back_forward l.wrap l.cols) s n h (when_some (is_hex l.kind) _ n e) in
    inr (refl, to.0)

down_by : (place : ℕ) (d : Step) → step_of_place place ≡ Some d → goes_down place ≡ leads_down d
down_by place d h = ap (λ o. option_map_or leads_down o false) h

pub row_below : (l : Shape) (place : ℕ) (p : Sites) → sites_of l place ≡ Some p → row_of_place l place < l.rows
row_below l place p is = (stands_at l.rows l.cols (site_of_place place) (described l place p is).below).row

pub row_of_site : (l : Shape) (place s : ℕ) → HasSite l place s → IsInRows l place s
row_of_site l place s h =
    let d = described l place h.sites h.is in
    elim h.among [
      | inl first ↦ inl (ap (λ k. k / l.cols) (sym first ∙ d.first))
      | inr second ↦
          let to = d.joined (record { 0 = s }) second in
          elim (leads l (site_of_place place) to.step (record { 0 = s }) d.below to.leads) [
            | inl same ↦ inl same.1
            | inr next ↦ inr (down_by place to.step to.step_is ∙ next.0, next.1)
          ]
    ]

-- a place has its first site
pub has_first : (l : Shape) (place : ℕ) (p : Sites) → sites_of l place ≡ Some p → HasSite l place (site_of_place place)
has_first l place p is = record { sites = p; is = is; among = inl (described l place p is).first }

pub has_lower : (l : Shape) (place : ℕ) (p : Sites) → sites_of l place ≡ Some p → goes_down place ≡ true → Lower l place
has_lower l place p is down =
    let d = described l place p is in
    elim (none_or_some p.second) [
      | inl none ↦ absurd (both_ways (goes_down place) (down_by place Alone (d.alone none)) down)
      | inr n ↦
          let to = d.joined n.0 n.1 in
          record {
            site = n.0.0;
            has = record { sites = p; is = is; among = inr n.1 };
            within = second_below l place p n.0 is n.1;
            row = elim (leads l (site_of_place place) to.step n.0 d.below to.leads) [
              | inl same ↦ absurd (both_ways (goes_down place) (down_by place to.step to.step_is ∙ same.0) down)
              | inr next ↦ next.1
            ];
          }
    ]

-- the place whose step to the south leads to a site
pub has_upper : (l : Shape) (s row : ℕ) → s < l.rows * l.cols → back l.wrap l.rows (s / l.cols) ≡ Some row → Upper l s row
has_upper l s row h e =
    let at = stands_at l.rows l.cols s h in
    let from : SiteId = record { 0 = row * l.cols + s % l.cols } in
    let behind_is : behind l s South ≡ Some from = ap (λ o. site_at l.cols o (Some (s % l.cols))) e in
    let forth = behind_forth l s South from h behind_is in
    let is = pair_is l from.0 South (record { 0 = s }) (number_of_place from.0 South) forth.0 refl forth.1 in
    record {
      place = number_of_place from.0 South;
      has = record { sites = record { first = from; second = Some (record { 0 = s }) }; is = is; among = inr refl };
      row_is = ap (λ k. k / l.cols) (site_of_number from.0 South) ∙ div-mul-add row l.cols (s % l.cols) at.col;
    }

-- the row before the next row is the row itself
pub row_back : (l : Shape) (row next : ℕ) → row < l.rows → forward l.wrap l.rows row ≡ Some next → back l.wrap l.rows next ≡ Some row
row_back l row next h e = (forward_back l.wrap l.rows).undone row next h e
