-- The last sample, after what was told before and after it.
use Rattle.std.proofs.Common.{◌≡◌, ℕ, zero, suc, ◌+◌, ◌≤◌, Bool, true, false, nat_lt, List, [], ◌∷◌, ◌++◌, map, length, get_or, refl, sym, ap, ◌∙◌, arith, length-append}
use Rattle.std.proofs.lemmas.List.{length-map}
use Rattle.std.proofs.lemmas.Bool.Decides.{nat_tests}
use mathlib.Core.List.{IsPrefix}
use Rattle.frames.specs.declared.sample.Change.{Change}
use Rattle.frames.specs.declared.sample.Sample.{Sample}
use Rattle.frames.specs.States.{after}
use Rattle.frames.proofs.LawLemmas.{after-events, prefix_whole}
use Rattle.viewer.specs.Samples.{clipped}

clipped_by : (start : List ℕ) (P L : List Change) (t f : Sample) → t ≡ after start P → f ≡ after start L → IsPrefix P L
    → (b : Bool) → nat_lt t.events f.events ≡ b → clipped t f ≡ after start P
clipped_by start P L t f e h p true is = rw is e
clipped_by start P L t f e h p false is =
    let n : t.events ≡ length P = ap (λ (g : Sample). g.events) e ∙ after-events start P in
    let m : f.events ≡ length L = ap (λ (g : Sample). g.events) h ∙ after-events start L in
    let le : f.events ≤ t.events = grind (arith, nat_tests) in
    let same : P ≡ L = prefix_whole P L p (omega arith) in
    rw is (h ∙ ap (λ l. after start l) (sym same))

pub last_clipped : (start : List ℕ) (P L : List Change) (t f : Sample) → t ≡ after start P → f ≡ after start L → IsPrefix P L → clipped t f ≡ after start P
last_clipped start P L t f e h p = clipped_by start P L t f e h p (nat_lt t.events f.events) refl

pub map_last : {A B : Type 0} (g : A → B) (xs : List A) (y : A) (n : ℕ) (d : B) → length xs ≡ n → get_or (map g (xs ++ y ∷ [])) n d ≡ g y
map_last g [] y zero d e = refl
map_last g [] y (suc n) d e = absurd (omega arith)
map_last g (x ∷ xs) y zero d e = absurd (omega arith)
map_last g (x ∷ xs) y (suc n) d e = map_last g xs y n d (omega arith)

pub map_number : {A B : Type 0} (g : A → B) (h : A → A) (xs : List A) (y : A) (n : ℕ) → length xs ≡ n → length (map g (map h xs ++ y ∷ [])) ≡ n + 1
map_number g h xs y n e = simp (length-map, length-append) (omega arith)
