-- Steps from a site to its neighbours, by rows and columns.
use Rattle.std.proofs.Common.{◌≡◌, ℕ, ◌+◌, ◌-◌, ◌*◌, ◌/◌, ◌%◌, ◌<◌, ◌≤◌, Option, Some, None, Bool, true, false, refl, sym, ap, ◌∙◌, subst, arith, if◌then◌else◌}
use Rattle.std.specs.Prelude.{nat_lt}
use Rattle.std.proofs.Math.Nat.{div-eq_of_lt, mod-eq_of_lt}
use Rattle.std.proofs.lemmas.Grind.{common_steps}
use Rattle.std.proofs.lemmas.Nat.{rows, div-add-mod', div-mul-add, mod-mul-add}
use Rattle.std.proofs.lemmas.Option.{none-some, same_Some}
use Rattle.std.proofs.lemmas.Bool.Decides.{nat_tests}
use Rattle.surf_kinds.specs.declared.site.SiteId.{SiteId}
use Rattle.surf_kinds.specs.declared.place.Step.TheVariants.{East, South}
use Rattle.lattice.specs.Shape.{Shape}
use Rattle.lattice.specs.Places.{wraps, forward, back, site_at, neighbour, behind}

-- a site below rows * cols stands in a row and a column
pub record Stands (rows cols s : ℕ) : Type 0 where
  pub row : s / cols < rows
  pub col : s % cols < cols
  pub is : s / cols * cols + s % cols ≡ s

pub stands_at : (rows cols s : ℕ) → s < rows * cols → Stands rows cols s
stands_at n m s h = record {
  row = grind (arith, common_steps, rows);
  col = grind (arith, common_steps, rows);
  is = div-add-mod' s m;
}

-- a step in one dimension stays within it, and the other step leads back
pub record Inverse (size : ℕ) (step back : ℕ → Option ℕ) : Type 0 where
  pub below : (i j : ℕ) → i < size → step i ≡ Some j → j < size
  pub undone : (i j : ℕ) → i < size → step i ≡ Some j → back j ≡ Some i

pub forward_back : (wrap : Bool) (size : ℕ) → Inverse size (forward wrap size) (back wrap size)
forward_back wrap size = record {
  below = λ i j h e. grind (arith, nat_tests);
  undone = λ i j h e. grind (arith, nat_tests);
}

pub back_forward : (wrap : Bool) (size : ℕ) → Inverse size (back wrap size) (forward wrap size)
back_forward wrap size = record {
  below = λ i j h e. grind (arith, nat_tests);
  undone = λ i j h e. grind (arith, nat_tests);
}

pub stay : (size : ℕ) → Inverse size (λ i. Some i) (λ i. Some i)
stay size = record {
  below = λ i j h e. subst (λ k. k < size) (same_Some i j e) h;
  undone = λ i j h e. sym e;
}

-- the coordinates of a site that a step leads to
pub record Leads (cols : ℕ) (row col : Option ℕ) (n : SiteId) : Type 0 where
  pub r : ℕ
  pub c : ℕ
  pub row_is : row ≡ Some r
  pub col_is : col ≡ Some c
  pub is : n.0 ≡ r * cols + c

pub leads : (cols : ℕ) (row col : Option ℕ) (n : SiteId) → site_at cols row col ≡ Some n → Leads cols row col n
leads cols None col n e = absurd (none-some n e)
leads cols (Some r) None n e = absurd (none-some n e)
leads cols (Some r) (Some c) n e = record { r = r; c = c; row_is = refl; col_is = refl; is = sym (ap (λ (x : SiteId). x.0) (same_Some _ n e)) }

placed : (rows cols r c : ℕ) → r < rows → c < cols → r * cols + c < rows * cols
placed m cols r c h k = grind (arith, common_steps, rows)

-- a step that is undone in both dimensions is undone
pub undo : (rows cols : ℕ) (f f' g g' : ℕ → Option ℕ) → Inverse rows f f' → Inverse cols g g' → (s : ℕ) (n : SiteId) → s < rows * cols → site_at cols (f (s / cols)) (g (s % cols)) ≡ Some n → (n.0 < rows * cols) × (site_at cols (f' (n.0 / cols)) (g' (n.0 % cols)) ≡ Some (record { 0 = s }))
undo m cols f f' g g' p q s n h e =
    let at = stands_at m cols s h in
    let to = leads cols (f (s / cols)) (g (s % cols)) n e in
    let row : to.r < m = p.below (s / cols) to.r at.row to.row_is in
    let col : to.c < cols = q.below (s % cols) to.c at.col to.col_is in
    let r : n.0 / cols ≡ to.r = ap (λ k. k / cols) to.is ∙ div-mul-add to.r cols to.c col in
    let c : n.0 % cols ≡ to.c = ap (λ k. k % cols) to.is ∙ mod-mul-add to.r cols to.c col in (
      rw to.is (placed m cols to.r to.c row col),
      ap (λ k. site_at cols (f' k) (g' (n.0 % cols))) r
          ∙ ap (λ k. site_at cols (f' to.r) (g' k)) c
          ∙ ap (λ o. site_at cols o (g' to.c)) (p.undone (s / cols) to.r at.row to.row_is)
          ∙ ap (λ o. site_at cols (Some (s / cols)) o) (q.undone (s % cols) to.c at.col to.col_is)
          ∙ ap (λ k. Some (record { 0 = k })) at.is,
    )

mul-lt-cancel : (k m n : ℕ) → m * k < n * k → m < n
mul-lt-cancel k m n h = grind (arith, common_steps)

-- without a division, whether there is a row to the south
pub last_row : (rows cols s : ℕ) → s < rows * cols → rows * cols ≤ s + cols → (s / cols + 1 ≡ rows) × (s + cols - rows * cols ≡ s % cols)
last_row m cols s h le =
    let at = stands_at m cols s h in
    let row : m < s / cols + 2 = mul-lt-cancel cols m (s / cols + 2) (omega (arith, at.col, at.is)) in
    let is : s / cols + 1 ≡ m = omega (arith, at.row) in
    (is, omega (arith, at.col, at.is, ap (λ k. k * cols) is))

pub south_past : (l : Shape) (s : ℕ) → s < l.rows * l.cols → l.rows * l.cols ≤ s + l.cols → neighbour l s South ≡ (if wraps l.wrap l.rows then Some (record { 0 = s + l.cols - l.rows * l.cols }) else None)
south_past l s h le =
    let last = last_row l.rows l.cols s h le in
    let past : nat_lt (s / l.cols + 1) l.rows ≡ false = grind (arith, nat_tests) in
    ap (λ b. site_at l.cols (if b then Some (s / l.cols + 1) else (if wraps l.wrap l.rows then Some 0 else None)) (Some (s % l.cols))) past
    ∙ elim (wraps l.wrap l.rows) as (λ b. site_at l.cols (if b then Some 0 else None) (Some (s % l.cols)) ≡ (if b then Some (record { 0 = s + l.cols - l.rows * l.cols }) else None)) [
      | true ↦ ap (λ k. Some (record { 0 = k })) (omega (arith, last.1))
      | false ↦ refl
    ]

-- the site to the south of the site to the west
pub south_of_west : (l : Shape) (s : ℕ) (n : SiteId) → s < l.rows * l.cols → behind l s East ≡ Some n → (n.0 < l.rows * l.cols) × (neighbour l n.0 South ≡ site_at l.cols (forward l.wrap l.rows (s / l.cols)) (back l.wrap l.cols (s % l.cols)))
south_of_west l s n h e =
    let at = stands_at l.rows l.cols s h in
    let to = leads l.cols (Some (s / l.cols)) (back l.wrap l.cols (s % l.cols)) n e in
    let col : to.c < l.cols = (back_forward l.wrap l.cols).below (s % l.cols) to.c at.col to.col_is in
    let row : s / l.cols ≡ to.r = same_Some _ _ to.row_is in (
      rw to.is (placed l.rows l.cols to.r to.c (omega (arith, at.row, row)) col),
      ap (λ k. site_at l.cols (forward l.wrap l.rows k) (Some (n.0 % l.cols))) (ap (λ k. k / l.cols) to.is ∙ div-mul-add to.r l.cols to.c col ∙ sym row)
          ∙ ap (λ k. site_at l.cols (forward l.wrap l.rows (s / l.cols)) (Some k)) (ap (λ k. k % l.cols) to.is ∙ mod-mul-add to.r l.cols to.c col)
          ∙ ap (λ o. site_at l.cols (forward l.wrap l.rows (s / l.cols)) o) (sym to.col_is),
    )

last_is : (rows cols s : ℕ) → s < cols → 0 < rows → (rows - 1) * cols + s % cols ≡ s + rows * cols - cols
last_is m cols s h p =
    let one : m ≡ m - 1 + 1 = omega arith in
    let all : m * cols ≡ (m - 1 + 1) * cols = ap (λ k. k * cols) one in
    let col : s % cols ≡ s = mod-eq_of_lt h in
    omega (arith, all, col)

pub north_past : (l : Shape) (s : ℕ) → s < l.rows * l.cols → s < l.cols → behind l s South ≡ (if wraps l.wrap l.rows then Some (record { 0 = s + l.rows * l.cols - l.cols }) else None)
north_past l s h first =
    let at = stands_at l.rows l.cols s h in
    let row : s / l.cols ≡ 0 = div-eq_of_lt first in
    let none : nat_lt 0 (s / l.cols) ≡ false = grind (arith, nat_tests) in
    let rest : (l.rows - 1) * l.cols + s % l.cols ≡ s + l.rows * l.cols - l.cols = last_is l.rows l.cols s first (omega (arith, at.row)) in
    ap (λ b. site_at l.cols (if b then Some (s / l.cols - 1) else (if wraps l.wrap l.rows then Some (l.rows - 1) else None)) (Some (s % l.cols))) none
    ∙ elim (wraps l.wrap l.rows) as (λ b. site_at l.cols (if b then Some (l.rows - 1) else None) (Some (s % l.cols)) ≡ (if b then Some (record { 0 = s + l.rows * l.cols - l.cols }) else None)) [
      | true ↦ ap (λ k. Some (record { 0 = k })) rest
      | false ↦ refl
    ]

-- the site to the east of the site to the north
pub east_of_north : (l : Shape) (s : ℕ) (n : SiteId) → s < l.rows * l.cols → behind l s South ≡ Some n → (n.0 < l.rows * l.cols) × (s % l.cols ≡ n.0 % l.cols) × (neighbour l n.0 East ≡ site_at l.cols (back l.wrap l.rows (s / l.cols)) (forward l.wrap l.cols (s % l.cols)))
east_of_north l s n h e =
    let at = stands_at l.rows l.cols s h in
    let to = leads l.cols (back l.wrap l.rows (s / l.cols)) (Some (s % l.cols)) n e in
    let row : to.r < l.rows = (back_forward l.wrap l.rows).below (s / l.cols) to.r at.row to.row_is in
    let col : s % l.cols ≡ to.c = same_Some _ _ to.col_is in
    let col_below : to.c < l.cols = omega (arith, at.col, col) in
    let same : s % l.cols ≡ n.0 % l.cols = col ∙ sym (ap (λ k. k % l.cols) to.is ∙ mod-mul-add to.r l.cols to.c col_below) in (
      rw to.is (placed l.rows l.cols to.r to.c row col_below),
      same,
      ap (λ k. site_at l.cols (Some k) (forward l.wrap l.cols (n.0 % l.cols))) (ap (λ k. k / l.cols) to.is ∙ div-mul-add to.r l.cols to.c col_below)
          ∙ ap (λ o. site_at l.cols o (forward l.wrap l.cols (n.0 % l.cols))) (sym to.row_is)
          ∙ ap (λ k. site_at l.cols (back l.wrap l.rows (s / l.cols)) (forward l.wrap l.cols k)) (sym same),
    )
