-- Free tracks, by which of them are there.
use Rattle.std.specs.Prelude.{◌≡◌, ℕ, ◌≤◌, List, Bool, true, false, ◌==◌}
use Rattle.std.specs.List.{list_any}

-- whether one of these has this key
abbrev pub has : {X : Type 0} → List X → (X → ℕ) → ℕ → Bool
has xs key k = list_any (λ x. key x == k) xs

-- the least one goes, and all others stay
abbrev pub Takes : (ℕ → Bool) → (ℕ → Bool) → ℕ → Type 0
Takes before after x = (before x ≡ true) × ((k : ℕ) → before k ≡ true → x ≤ k) × (after x ≡ false) × ((k : ℕ) → (k ≡ x → ⊥) → after k ≡ before k)

-- one comes, and all others stay
abbrev pub Gives : (ℕ → Bool) → (ℕ → Bool) → ℕ → Type 0
Gives before after x = (after x ≡ true) × ((k : ℕ) → (k ≡ x → ⊥) → after k ≡ before k)
