-- Digits without the zeros at their end.
use Rattle.std.proofs.Common.{◌≡◌, ℕ, List, [], ◌∷◌, ◌++◌, refl, ap, ◌∙◌, eq-eqb, ne_eqb, ◌≢◌}
use Rattle.std.specs.Prelude.{if◌then◌else◌}
use Rattle.manifest_write.specs.Canon.{before_digits, without_zeros}

-- a zero at the end goes
pub zero-goes : (cs : List ℕ) (c : ℕ) → c ≡ 48 → without_zeros (cs ++ c ∷ []) ≡ without_zeros cs
zero-goes [] c h = ap (λ b. if b then [] else c ∷ []) (eq-eqb c 48 h)
zero-goes (d ∷ ds) c h = ap (before_digits d) (zero-goes ds c h)

front-stays : (d c : ℕ) (ds : List ℕ) → before_digits d (ds ++ c ∷ []) ≡ d ∷ (ds ++ c ∷ [])
front-stays d c [] = refl
front-stays d c (e ∷ es) = refl

-- with another digit at the end all stay
pub other-stays : (cs : List ℕ) (c : ℕ) → c ≢ 48 → without_zeros (cs ++ c ∷ []) ≡ cs ++ c ∷ []
other-stays [] c h = ap (λ b. if b then [] else c ∷ []) (ne_eqb c 48 h)
other-stays (d ∷ ds) c h = ap (before_digits d) (other-stays ds c h) ∙ front-stays d c ds
