-- The draws of a block, one after the other.
use Rattle.std.proofs.Common.{◌≡◌, ◌∙◌, ap, arith, ℕ, zero, suc, ◌+◌, ◌*◌, ◌%◌, ◌^◌, ◌<◌, [], ◌∷◌, slice_index}
use Rattle.std.proofs.Math.Nat.{mod-eq_of_lt}
use Rattle.rand_chacha.specs.ChaCha.{ChaCha}
use Rattle.draws.specs.Draw.{draw_at}

-- a generator so many draws on
abbrev pub on : ChaCha → ℕ → ChaCha
on g k = record g { word_pos = g.word_pos + 2 * k }

-- one draw more
pub one_more : (g : ChaCha) (k : ℕ) (old new : ChaCha) → old ≡ on g k → new ≡ record old { word_pos = (old.word_pos + 2) % 2 ^ 68 } → g.word_pos + 2 * k + 2 < 2 ^ 68 → new ≡ on g (k + 1)
one_more g k old new is next below =
    let place : (g.word_pos + 2 * k + 2) % 2 ^ 68 ≡ g.word_pos + 2 * (k + 1) = mod-eq_of_lt below ∙ omega arith in
    next ∙ (ap (λ (h : ChaCha). record h { word_pos = (h.word_pos + 2) % 2 ^ 68 }) is ∙ ap (λ p. record g { word_pos = p }) place)

-- the draw of a generator so many draws on
pub draw_on : (g : ChaCha) (k : ℕ) (old : ChaCha) (draw : ℕ) → old ≡ on g k → draw ≡ draw_at old old.word_pos → draw ≡ draw_at g (g.word_pos + 2 * k)
draw_on g k old draw is at = at ∙ ap (λ (h : ChaCha). draw_at h h.word_pos) is

-- what holds of each of eight
pub each : (P : ℕ → ℕ → Type 0) (a b c d e f g h : ℕ) → P 0 a → P 1 b → P 2 c → P 3 d → P 4 e → P 5 f → P 6 g → P 7 h
    → (i : ℕ) → i < 8 → P i (slice_index (a ∷ b ∷ c ∷ d ∷ e ∷ f ∷ g ∷ h ∷ []) i)
each P a b c d e f g h p0 p1 p2 p3 p4 p5 p6 p7 zero below = p0
each P a b c d e f g h p0 p1 p2 p3 p4 p5 p6 p7 (suc zero) below = p1
each P a b c d e f g h p0 p1 p2 p3 p4 p5 p6 p7 (suc (suc zero)) below = p2
each P a b c d e f g h p0 p1 p2 p3 p4 p5 p6 p7 (suc (suc (suc zero))) below = p3
each P a b c d e f g h p0 p1 p2 p3 p4 p5 p6 p7 (suc (suc (suc (suc zero)))) below = p4
each P a b c d e f g h p0 p1 p2 p3 p4 p5 p6 p7 (suc (suc (suc (suc (suc zero))))) below = p5
each P a b c d e f g h p0 p1 p2 p3 p4 p5 p6 p7 (suc (suc (suc (suc (suc (suc zero)))))) below = p6
each P a b c d e f g h p0 p1 p2 p3 p4 p5 p6 p7 (suc (suc (suc (suc (suc (suc (suc zero))))))) below = p7
each P a b c d e f g h p0 p1 p2 p3 p4 p5 p6 p7 (suc (suc (suc (suc (suc (suc (suc (suc i)))))))) below = absurd (omega (arith, below))
