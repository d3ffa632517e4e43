-- Names for which there is room.
use Rattle.std.proofs.Common.{◌≡◌, ℕ, ◌≤◌, ◌==◌, ◌&&◌, Bool, true, false, cond, not, List, [], ◌∷◌, ◌++◌, length, fold, None, Some, refl, ap, ◌∙◌, subst, arith, length-append, ne_eqb}
use Rattle.std.specs.List.{list_any, AllByRecursion}
use Rattle.std.specs.Str.{bytes_eq}
use Rattle.std.proofs.lemmas.List.Sums.{fold-append}
use Rattle.species.specs.Names.{with_name, is_full}
use Rattle.manifest_read.specs.declared.fault.ManifestKind.TheVariants.{BadName, TooManySpecies}
use Rattle.manifest_read.specs.Manifest.{names_fault, words_fault}
use Rattle.manifest_write.proofs.Contents.Fits.{FitsName}

-- at most 4,096 names are known in the end
abbrev pub HasRoom : List (List ℕ) → List (List ℕ) → Type 0
HasRoom known names = length (fold with_name known names) ≤ 4096

with_name-longer : (known : List (List ℕ)) (name : List ℕ) → length known ≤ length (with_name known name)
with_name-longer known name = by (list_any (bytes_eq name) known)
  where
    by : (b : Bool) → length known ≤ length (cond b known (known ++ name ∷ []))
    by true = omega arith
    by false = omega (arith, length-append known (name ∷ []))

pub fold-longer : (names known : List (List ℕ)) → length known ≤ length (fold with_name known names)
fold-longer [] known = omega arith
fold-longer (n ∷ ns) known = omega (arith, with_name-longer known n, fold-longer ns (with_name known n))

-- room for some names, where there is room for these and others
pub room-first : (known names others : List (List ℕ)) → HasRoom known (names ++ others) → HasRoom known names
room-first known names others h =
    omega (arith, h, ap length (fold-append with_name known names others), fold-longer others (fold with_name known names))

pub room-rest : (known names others : List (List ℕ)) → HasRoom known (names ++ others) → HasRoom (fold with_name known names) others
room-rest known names others h = subst (λ (l : List (List ℕ)). length l ≤ 4096) (fold-append with_name known names others) h

pub not-full : (known : List (List ℕ)) (name : List ℕ) → length (with_name known name) ≤ 4096 → is_full known name ≡ false
not-full known name h = by (list_any (bytes_eq name) known) refl
  where
    by : (b : Bool) → list_any (bytes_eq name) known ≡ b → (not b && length known == 4096) ≡ false
    by true e = refl
    by false e =
        let more : length (known ++ name ∷ []) ≤ 4096 = subst (λ (c : Bool). length (cond c known (known ++ name ∷ [])) ≤ 4096) e h in
        ne_eqb (length known) 4096 (λ same. omega (arith, more, same, length-append known (name ∷ [])))

fits-next : (known : List (List ℕ)) (n : List ℕ) (ns : List (List ℕ)) → HasRoom known (n ∷ ns) → is_full known n ≡ false
fits-next known n ns h = not-full known n (omega (arith, h, fold-longer ns (with_name known n)))

pub names-fit : (names known : List (List ℕ)) → HasRoom known names → names_fault names known ≡ None
names-fit [] known h = refl
names-fit (n ∷ ns) known h =
    ap (λ b. cond b (Some TooManySpecies) (names_fault ns (with_name known n))) (fits-next known n ns h) ∙ names-fit ns (with_name known n) h

pub words-fit : (words known : List (List ℕ)) → AllByRecursion FitsName words → HasRoom known words → words_fault words known ≡ None
words-fit [] known f h = refl
words-fit (w ∷ ws) known f h =
    ap (λ b. cond (not b) (Some BadName) (cond (is_full known w) (Some TooManySpecies) (words_fault ws (with_name known w)))) f.0.named
    ∙ ap (λ b. cond b (Some TooManySpecies) (words_fault ws (with_name known w))) (fits-next known w ws h) ∙ words-fit ws (with_name known w) f.1 h
