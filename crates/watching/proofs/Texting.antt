-- Texts that grow part by part.
use Rattle.std.proofs.Common.{◌≡◌, ℕ, ◌+◌, List, ◌++◌, sym, ap, ◌∙◌, append_assoc, append-nil, if◌then◌else◌}
use Rattle.std.specs.Prelude.{Result, Ok, Err, OnOk, is_ok}
use Rattle.surf_outside.specs.Parts.{parts}
use Rattle.surf_outside.proofs.LawLemmas.{parts-more}

-- what went well has grown
pub ok_grown : {T E : Type 0} (r : Result T E) (old new text more : List ℕ) → new ≡ (if is_ok r then old ++ text else old) → text ≡ more → OnOk r (new ≡ old ++ more)
ok_grown (Ok x) old new text more is same = is ∙ ap (λ t. old ++ t) same
ok_grown (Err e) old new text more is same = tt

-- a text without parts yet
pub no_parts : (part : ℕ → List ℕ) (text : List ℕ) → text ≡ text ++ parts part 0
no_parts part text = sym (append-nil text)

-- with one part more
pub part_more : (part : ℕ → List ℕ) (n : ℕ) (front old new more : List ℕ) → new ≡ old ++ more → more ≡ part n → old ≡ front ++ parts part n → new ≡ front ++ parts part (n + 1)
part_more part n front old new more is same was =
    is ∙ ((λ i. was i ++ same i) ∙ (append_assoc front (parts part n) (part n) ∙ ap (λ t. front ++ t) (sym (parts-more part n))))
