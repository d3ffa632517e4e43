-- The names of a text, each once: which of them are known.
use Rattle.std.proofs.Common.{◌≡◌, Bool, true, false, ◌||◌, List, [], ◌∷◌, ◌++◌, refl, ap, ◌∙◌, if◌then◌else◌}
use Rattle.std.specs.Prelude.{fold}
use Rattle.std.specs.Str.{bytes_eq}
use Rattle.std.proofs.lemmas.Slice.Eq.{bytes_eq-Decides}
use Rattle.species.specs.Texts.{is_in, with_text}
use Rattle.circuit_text.specs.Names.{Name}

pub fold_append : (seen xs ys : List Name) → fold with_text seen (xs ++ ys) ≡ fold with_text (fold with_text seen xs) ys
fold_append seen [] ys = refl
fold_append seen (x ∷ xs) ys = fold_append (with_text seen x) xs ys

in_append : (xs ys : List Name) (x : Name) → is_in (xs ++ ys) x ≡ (is_in xs x || is_in ys x)
in_append [] ys x = refl
in_append (y ∷ xs) ys x = ap (λ b. bytes_eq x y || b) (in_append xs ys x) ∙ or_or (bytes_eq x y) (is_in xs x) (is_in ys x)
  where
    or_or : (a b c : Bool) → (a || (b || c)) ≡ ((a || b) || c)
    or_or true b c = refl
    or_or false b c = refl

-- a name that is kept already changes nothing
in_with : (seen : List Name) (y x : Name) (rest : Bool) → (is_in (with_text seen y) x || rest) ≡ (is_in seen x || (bytes_eq x y || rest))
in_with seen y x rest = by (is_in seen y) refl
  where
    shift : (a b c : Bool) → ((a || (b || false)) || c) ≡ (a || (b || c))
    shift true b c = refl
    shift false true c = refl
    shift false false c = refl

    or_absorbed : (a b c : Bool) → (b ≡ true → a ≡ true) → (a || c) ≡ (a || (b || c))
    or_absorbed true b c h = refl
    or_absorbed false true c h = absurd (let e = h refl in cc)
    or_absorbed false false c h = refl

    by : (b : Bool) → is_in seen y ≡ b → (is_in (if b then seen else seen ++ y ∷ []) x || rest) ≡ (is_in seen x || (bytes_eq x y || rest))
    by true h = or_absorbed (is_in seen x) (bytes_eq x y) rest (λ e. ap (is_in seen) ((bytes_eq-Decides x y).0 e) ∙ h)
    by false h = ap (λ b. b || rest) (in_append seen (y ∷ []) x) ∙ shift (is_in seen x) (bytes_eq x y) rest

pub in_fold : (seen xs : List Name) (x : Name) → is_in (fold with_text seen xs) x ≡ (is_in seen x || is_in xs x)
in_fold seen [] x = or_false (is_in seen x)
  where
    or_false : (b : Bool) → b ≡ (b || false)
    or_false true = refl
    or_false false = refl
in_fold seen (y ∷ xs) x = in_fold (with_text seen y) xs x ∙ in_with seen y x (is_in xs x)

-- the names, each once, know what the names know
pub known_same : (xs : List Name) → is_in (fold with_text [] xs) ≡ is_in xs
known_same xs = λ i x. in_fold [] xs x i
