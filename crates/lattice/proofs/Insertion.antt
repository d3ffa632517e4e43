-- Insertion into a rising list: the higher numbers move up by one.
use Rattle.std.proofs.Common.{◌≡◌, ◌≢◌, ℕ, ◌+◌, ◌-◌, ◌<◌, ◌≤◌, List, length, ◌⊎◌, inl, inr, ◌↔◌, sym, ap, ◌∙◌, arith, set, get_or-set_other, get_or-set_same}
use Rattle.std.proofs.lemmas.Bool.{cases_order}
use Rattle.surf_kinds.specs.declared.place.Place.{Place}
use Rattle.lattice.specs.Rising.{number_at}

-- g's numbers from index at on, all above p, stand one further in f, up to index n
pub record Shifted (g f : ℕ → ℕ) (n at p : ℕ) : Type 0 where
  pub at_most : at ≤ n
  pub below : (k : ℕ) → k < at → f k ≡ g k
  pub above : (k : ℕ) → at ≤ k → k < n → (f (k + 1) ≡ g k) × (p < g k)

pub number_other : (list : List Place) (i k : ℕ) (p : Place) → k ≢ i → number_at (set list i p) k ≡ number_at list k
number_other list i k p h = ap (λ (x : Place). x.0) (get_or-set_other list i k _ _ h)

pub number_same : (list : List Place) (i : ℕ) (p : Place) → i < length list → number_at (set list i p) i ≡ p.0
number_same list i p h = ap (λ (x : Place). x.0) (get_or-set_same list i _ _ h)

pub listed : (g : ℕ → ℕ) (list : List Place) (n at : ℕ) (p : Place) → Shifted g (number_at list) n at p.0 → at < length list → (q : ℕ) → ((k : ℕ) × (k < n + 1) × (number_at (set list at p) k ≡ q)) ↔ (((k : ℕ) × (k < n) × (g k ≡ q)) ⊎ (q ≡ p.0))
listed g list n at p s within q =
    let r = number_at (set list at p) in
    let f = number_at list in
    let here : r at ≡ p.0 = number_same list at p within in (
      λ h. elim (cases_order h.0 at) [
        | inr (inl below) ↦ inl (h.0, omega (arith, s.at_most), sym (s.below h.0 below) ∙ sym (number_other list at h.0 p (omega arith)) ∙ h.2)
        | inl is ↦ inr (sym h.2 ∙ ap r is ∙ here)
        | inr (inr above) ↦
            inl (h.0 - 1, omega (arith, h.1), sym (s.above (h.0 - 1) (omega arith) (omega (arith, h.1))).0 ∙ ap f (omega arith) ∙ sym (number_other list at h.0 p (omega arith)) ∙ h.2)
      ],
      λ h. elim h [
        | inl old ↦ elim (cases_order old.0 at) [
          | inr (inl below) ↦ (old.0, omega (arith, old.1), number_other list at old.0 p (omega arith) ∙ s.below old.0 below ∙ old.2)
          | inl is ↦ (old.0 + 1, omega (arith, old.1), number_other list at (old.0 + 1) p (omega arith) ∙ (s.above old.0 (omega arith) old.1).0 ∙ old.2)
          | inr (inr above) ↦ (old.0 + 1, omega (arith, old.1), number_other list at (old.0 + 1) p (omega arith) ∙ (s.above old.0 (omega arith) old.1).0 ∙ old.2)
        ]
        | inr is ↦ (at, omega (arith, s.at_most), here ∙ sym is)
      ],
    )
