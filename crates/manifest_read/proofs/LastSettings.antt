-- The last value of a setting, as one more setting comes.
use Rattle.std.proofs.Common.{◌≡◌, ℕ, ◌+◌, ◌<◌, List, [], ◌∷◌, ◌++◌, length, take, get_or, Option, Some, None, refl, sym, ap, ◌∙◌}
use Rattle.std.specs.Prelude.{unwrap_or}
use Rattle.std.specs.List.{filter_map, cons_option}
use Rattle.std.proofs.lemmas.List.{append-nil, take_more}
use Rattle.std.proofs.lemmas.List.Elements.{filter_map-append}
use Rattle.manifest_read.specs.Settings.{last_or}

last_is : {A : Type 0} (d : A) (ys : List A) (x : A) → last_or d (ys ++ x ∷ []) ≡ x
last_is d [] x = refl
last_is d (y ∷ ys) x = last_is y ys x

last_push : {A : Type 0} (d : A) (ys : List A) (o : Option A) → last_or d (ys ++ cons_option o []) ≡ unwrap_or o (last_or d ys)
last_push d ys None = ap (last_or d) (append-nil ys)
last_push d ys (Some x) = last_is d ys x

pub last-more : {X A : Type 0} (f : X → Option A) (d : A) (xs : List X) (i : ℕ) (e : X) (before : A) (o : Option A) → i < length xs → o ≡ f (get_or xs i e)
    → before ≡ last_or d (filter_map f (take i xs)) → unwrap_or o before ≡ last_or d (filter_map f (take (i + 1) xs))
last-more f d xs i e before o h g k =
    ap (unwrap_or o) k ∙ ap (λ x. unwrap_or x (last_or d (filter_map f (take i xs)))) g
    ∙ sym (ap (λ l. last_or d (filter_map f l)) (take_more xs i e h) ∙ ap (last_or d) (filter_map-append f (take i xs) (get_or xs i e ∷ [])) ∙ last_push d (filter_map f (take i xs)) (f (get_or xs i e)))
