-- How a step changes the row and the column.
use Rattle.std.proofs.Common.{◌≡◌, ◌≢◌, ℕ, ◌+◌, ◌*◌, ◌/◌, ◌%◌, ◌<◌, ◌≤◌, Option, Some, None, Bool, true, false, ◌⊎◌, inl, inr, refl, sym, ap, ◌∙◌, arith, if◌then◌else◌}
use Rattle.std.proofs.lemmas.Nat.{div-mul-add, mod-mul-add}
use Rattle.std.proofs.lemmas.Option.{none-some, same_Some}
use Rattle.std.proofs.lemmas.Bool.Decides.{nat_tests}
use Rattle.surf_kinds.specs.declared.site.SiteId.{SiteId}
use Rattle.surf_kinds.specs.declared.place.Step.{Step}
use Rattle.surf_kinds.specs.declared.place.Step.TheVariants.{Alone, East, South, SouthWest}
use Rattle.surf_kinds.specs.Steps.{step_number}
use Rattle.lattice.specs.Shape.{Shape}
use Rattle.lattice.specs.Places.{forward, back, site_at, is_hex, neighbour, behind}
use Rattle.lattice.proofs.Steps.{Inverse, stands_at, stay, forward_back, back_forward, leads}
use Rattle.lattice.proofs.Sites.{behind_forth}

-- j comes after i in a dimension of this size
abbrev pub Next : ℕ → ℕ → ℕ → Type 0
Next size i j = ((j ≡ i + 1) × (j < size)) ⊎ ((3 ≤ size) × (i + 1 ≡ size) × (j ≡ 0))

pub forward_next : (wrap : Bool) (size i j : ℕ) → i < size → forward wrap size i ≡ Some j → Next size i j
forward_next wrap size i j h e = grind (arith, nat_tests)

pub back_next : (wrap : Bool) (size i j : ℕ) → i < size → back wrap size i ≡ Some j → Next size j i
back_next wrap size i j h e = grind (arith, nat_tests)

-- a step of this number, by rows and columns
abbrev pub Moves : ℕ → ℕ → ℕ → ℕ → ℕ → ℕ → ℕ → Type 0
Moves rows cols d r c r' c' =
    ((d ≡ 1) × (r' ≡ r) × Next cols c c')
    ⊎ (((d ≡ 2) × Next rows r r' × (c' ≡ c))
    ⊎ ((d ≡ 3) × Next rows r r' × Next cols c' c))

pub arrives : (rows cols : ℕ) (f f' g g' : ℕ → Option ℕ) → Inverse rows f f' → Inverse cols g g' → (s : ℕ) (n : SiteId) → s < rows * cols → site_at cols (f (s / cols)) (g (s % cols)) ≡ Some n → (f (s / cols) ≡ Some (n.0 / cols)) × (g (s % cols) ≡ Some (n.0 % cols))
arrives m cols f f' g g' p q s n h e =
    let at = stands_at m cols s h in
    let to = leads cols (f (s / cols)) (g (s % cols)) n e in
    let col : to.c < cols = q.below (s % cols) to.c at.col to.col_is in (
      to.row_is ∙ ap (λ k. Some k) (sym (ap (λ k. k / cols) to.is ∙ div-mul-add to.r cols to.c col)),
      to.col_is ∙ ap (λ k. Some k) (sym (ap (λ k. k % cols) to.is ∙ mod-mul-add to.r cols to.c col)),
    )

pub when_some : (b : Bool) (o : Option SiteId) (n : SiteId) → (if b then o else None) ≡ Some n → o ≡ Some n
when_some true o n e = e
when_some false o n e = absurd (none-some n e)

pub moves : (l : Shape) (s : ℕ) (d : Step) (n : SiteId) → s < l.rows * l.cols → neighbour l s d ≡ Some n → Moves l.rows l.cols (step_number d) (s / l.cols) (s % l.cols) (n.0 / l.cols) (n.0 % l.cols)
moves l s Alone n h e = absurd (none-some n e)
moves l s East n h e =
    let to = arrives l.rows l.cols (λ i. Some i) (λ i. Some i) (forward l.wrap l.cols) (back l.wrap l.cols) (stay l.rows) (forward_back l.wrap l.cols) s n h e in
    inl (refl, sym (same_Some _ _ to.0), forward_next l.wrap l.cols _ _ (stands_at l.rows l.cols s h).col to.1)
moves l s South n h e =
    let to = arrives l.rows l.cols (forward l.wrap l.rows) (back l.wrap l.rows) (λ i. Some i) (λ i. Some i) (forward_back l.wrap l.rows) (stay l.cols) s n h e in
    inr (inl (refl, forward_next l.wrap l.rows _ _ (stands_at l.rows l.cols s h).row to.0, sym (same_Some _ _ to.1)))
moves l s SouthWest n h e =
    let at = stands_at l.rows l.cols s h in
    let to = arrives l.rows l.cols (forward l.wrap l.rows) (back l.wrap l.rows) (back l.wrap l.cols) (forward l.wrap l.cols) (forward_back l.wrap l.rows) (back_forward l.wrap l.cols) s n h (when_some (is_hex l.kind) _ n e) in
    inr (inr (refl, forward_next l.wrap l.rows _ _ at.row to.0, back_next l.wrap l.cols _ _ at.col to.1))

pub moved : (m k d r c r' c' : ℕ) → Moves m k d r c r' c' → r' ≡ r → c' ≡ c → ⊥
moved m k d r c r' c' h p q = grind arith

-- two steps do not lead back
pub no_return : (m k d e r c r' c' : ℕ) → Moves m k d r c r' c' → Moves m k e r' c' r c → ⊥
no_return m k d e r c r' c' h i = grind arith

-- two steps from one site to another are the same
pub same_step : (m k d e r c r' c' : ℕ) → Moves m k d r c r' c' → Moves m k e r c r' c' → d ≡ e
same_step m k d e r c r' c' h i = grind arith

pub neighbour_differs : (l : Shape) (s : ℕ) (d : Step) (n : SiteId) → s < l.rows * l.cols → neighbour l s d ≡ Some n → n.0 ≢ s
neighbour_differs l s d n h e is = moved l.rows l.cols (step_number d) _ _ _ _ (moves l s d n h e) (ap (λ k. k / l.cols) is) (ap (λ k. k % l.cols) is)

pub behind_differs : (l : Shape) (s : ℕ) (d : Step) (n : SiteId) → s < l.rows * l.cols → behind l s d ≡ Some n → n.0 ≢ s
behind_differs l s d n h e is = let forth = behind_forth l s d n h e in neighbour_differs l n.0 d (record { 0 = s }) forth.0 forth.1 (sym is)
