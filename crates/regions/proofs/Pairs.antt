-- Lists of two numbers.
use Rattle.std.proofs.Common.{◌≡◌, ℕ, zero, suc, ◌<◌, [], ◌∷◌, take, ◌⊎◌, ◌↔◌, inl, inr, sym, subst, arith}
use Rattle.std.specs.Prelude.{Contains, slice_index_or}

at_one : (x r k : ℕ) → k < 1 → slice_index_or (x ∷ []) k r ≡ r → x ≡ r
at_one x r zero h e = e
at_one x r (suc k) h e = absurd (omega arith)

at_two : (x y r k : ℕ) → k < 2 → slice_index_or (x ∷ y ∷ []) k r ≡ r → (x ≡ r) ⊎ (y ≡ r)
at_two x y r zero h e = inl e
at_two x y r (suc zero) h e = inr e
at_two x y r (suc (suc k)) h e = absurd (omega arith)

of_one : (x y r : ℕ) → (x ≡ r) ↔ Contains (take 1 (x ∷ y ∷ [])) r
of_one x y r = (λ e. (0, omega arith, e), λ h. at_one x r h.0 h.1 h.2)

of_two : (x y r : ℕ) → ((x ≡ r) ⊎ (y ≡ r)) ↔ Contains (take 2 (x ∷ y ∷ [])) r
of_two x y r = (λ e. elim e [ inl e ↦ (0, omega arith, e) | inr e ↦ (1, omega arith, e) ], λ h. at_two x y r h.0 h.1 h.2)

pub one_listed : (n x y r : ℕ) → n ≡ 1 → (x ≡ r) ↔ Contains (take n (x ∷ y ∷ [])) r
one_listed n x y r e = subst (λ k. (x ≡ r) ↔ Contains (take k (x ∷ y ∷ [])) r) (sym e) (of_one x y r)

pub two_listed : (n x y r : ℕ) → n ≡ 2 → ((x ≡ r) ⊎ (y ≡ r)) ↔ Contains (take n (x ∷ y ∷ [])) r
two_listed n x y r e = subst (λ k. ((x ≡ r) ⊎ (y ≡ r)) ↔ Contains (take k (x ∷ y ∷ [])) r) (sym e) (of_two x y r)
