-- The names by first appearance: which rules and sites keep their numbers as more names come, and how many names there are.
use Rattle.std.proofs.Common.{◌≡◌, ℕ, ◌+◌, ◌≤◌, Bool, true, false, cond, not, ◌&&◌, ◌||◌, ◌==◌, List, [], ◌∷◌, ◌++◌, length, map, fold, Some, None, refl, sym, ap, subst, ◌∙◌, arith, append_assoc}
use Rattle.std.specs.List.{list_any, flat_map, IsDistinct}
use Rattle.std.specs.Cmp.{IsEquivalence}
use Rattle.std.specs.Str.{bytes_eq}
use Rattle.std.proofs.lemmas.Bool.Decides.{nat_tests}
use Rattle.std.proofs.lemmas.List.{length-append}
use Rattle.std.proofs.lemmas.List.Folds.{list_any-append}
use Rattle.std.proofs.lemmas.List.Sums.{fold-append}
use Rattle.std.proofs.lemmas.Map.Keys.{IsDistinct-push}
use Rattle.std.proofs.lemmas.Map.Made.{length-le_from_is_member}
use Rattle.std.proofs.lemmas.Slice.Eq.{bytes_eq-Decides}
use Rattle.species.specs.Names.{with_name, is_full}
use Rattle.manifest_read.specs.declared.fault.ManifestKind.TheVariants.{TooManySpecies}
use Rattle.manifest_read.specs.Rules.{NamedRule, NamedOne, NamedTwo, names_of_rule}
use Rattle.manifest_read.specs.Manifest.{first_seen, numbered, names_fault}
use Rattle.manifest_read.specs.Names.{IsListed, AreListed}
use Rattle.manifest_read.proofs.Cells.{place-fold, listed-words}

pub listed-left : (known xs ys : List (List ℕ)) → AreListed known (xs ++ ys) → AreListed known xs
listed-left known [] ys h = tt
listed-left known (x ∷ xs) ys h = (h.0, listed-left known xs ys h.1)

pub listed-right : (known xs ys : List (List ℕ)) → AreListed known (xs ++ ys) → AreListed known ys
listed-right known [] ys h = h
listed-right known (x ∷ xs) ys h = listed-right known xs ys h.1

pub listed-both : (known xs ys : List (List ℕ)) → AreListed known xs → AreListed known ys → AreListed known (xs ++ ys)
listed-both known [] ys h g = g
listed-both known (x ∷ xs) ys h g = (h.0, listed-both known xs ys h.1 g)

pub numbered-fold : (names known : List (List ℕ)) (r : NamedRule) → AreListed known (names_of_rule r) → numbered (fold with_name known names) r ≡ numbered known r
numbered-fold names known (NamedOne rate a c) h = rw (place-fold names known a h.0, place-fold names known c h.1.0) refl
numbered-fold names known (NamedTwo rate a b c d) h =
    rw (place-fold names known a h.0, place-fold names known b h.1.0, place-fold names known c h.1.1.0, place-fold names known d h.1.1.1.0) refl

pub rules-fold : (names known : List (List ℕ)) (rules : List NamedRule) → AreListed known (flat_map names_of_rule rules)
    → map (numbered (fold with_name known names)) rules ≡ map (numbered known) rules
rules-fold names known [] h = refl
rules-fold names known (r ∷ rs) h =
    rw (numbered-fold names known r (listed-left known (names_of_rule r) (flat_map names_of_rule rs) h), rules-fold names known rs (listed-right known (names_of_rule r) (flat_map names_of_rule rs) h)) refl

pub listed-seen : (words : List (List ℕ)) → AreListed (first_seen words) words
listed-seen words = listed-words words []

pub seen-append : (xs ys : List (List ℕ)) → first_seen (xs ++ ys) ≡ fold with_name (first_seen xs) ys
seen-append xs ys = fold-append with_name [] xs ys

-- No more names than are known

same : (x y : List ℕ) → bytes_eq x y ≡ true → x ≡ y
same x y h = (bytes_eq-Decides x y).0 h

same-itself : (x : List ℕ) → bytes_eq x x ≡ true
same-itself x = (bytes_eq-Decides x x).1 refl

either_way : (x y : List ℕ) → bytes_eq x y ≡ bytes_eq y x
either_way x y = by (bytes_eq x y) (bytes_eq y x) refl refl
  where
    by : (b d : Bool) → bytes_eq x y ≡ b → bytes_eq y x ≡ d → b ≡ d
    by true true e f = refl
    by false false e f = refl
    by true false e f = let s : bytes_eq y x ≡ true = subst (λ z. bytes_eq z x ≡ true) (same x y e) (same-itself x) in cc
    by false true e f = let s : bytes_eq x y ≡ true = subst (λ z. bytes_eq z y ≡ true) (same y x f) (same-itself y) in cc

laws : IsEquivalence bytes_eq
laws = record { refl = same-itself; symm = either_way; congr = λ x y z h. ap (λ w. bytes_eq w z) (same x y h) }

distinct-name : (known : List (List ℕ)) (name : List ℕ) → IsDistinct bytes_eq known → IsDistinct bytes_eq (with_name known name)
distinct-name known name h = by (list_any (bytes_eq name) known) refl
  where
    by : (b : Bool) → list_any (bytes_eq name) known ≡ b → IsDistinct bytes_eq (cond b known (known ++ name ∷ []))
    by true e = h
    by false e = IsDistinct-push laws known name h e

distinct-fold : (names known : List (List ℕ)) → IsDistinct bytes_eq known → IsDistinct bytes_eq (fold with_name known names)
distinct-fold [] known h = h
distinct-fold (name ∷ names) known h = distinct-fold names (with_name known name) (distinct-name known name h)

no_names : IsDistinct bytes_eq []
unfolding IsDistinct
no_names = tt

one_more : (start : List (List ℕ)) (word q : List ℕ) → IsListed (with_name start word) q → (list_any (bytes_eq q) start || bytes_eq q word) ≡ true
one_more start word q h = by (list_any (bytes_eq word) start) h
  where
    last : (a b : Bool) → (a || (b || false)) ≡ true → (a || b) ≡ true
    last true b e = refl
    last false true e = refl
    last false false e = absurd cc

    first : (a b : Bool) → a ≡ true → (a || b) ≡ true
    first true b e = refl
    first false b e = absurd cc

    by : (b : Bool) → IsListed (cond b start (start ++ word ∷ [])) q → (list_any (bytes_eq q) start || bytes_eq q word) ≡ true
    by true e = first (list_any (bytes_eq q) start) (bytes_eq q word) e
    by false e = last (list_any (bytes_eq q) start) (bytes_eq q word) (sym (list_any-append (bytes_eq q) start (word ∷ [])) ∙ e)

listed-all : (words start known : List (List ℕ)) → ((q : List ℕ) → IsListed start q → IsListed known q) → AreListed known words
    → (q : List ℕ) → IsListed (fold with_name start words) q → IsListed known q
listed-all [] start known h g q e = h q e
listed-all (w ∷ ws) start known h g q e = listed-all ws (with_name start w) known (λ x k. by x (list_any (bytes_eq x) start) (bytes_eq x w) refl refl (one_more start w x k)) g.1 q e
  where
    by : (x : List ℕ) (a b : Bool) → list_any (bytes_eq x) start ≡ a → bytes_eq x w ≡ b → (a || b) ≡ true → IsListed known x
    by x true b i j k = h x i
    by x false true i j k = subst (IsListed known) (sym (same x w j)) g.0
    by x false false i j k = absurd cc

-- the names of words that are known
pub few-seen : (words known : List (List ℕ)) → AreListed known words → length (first_seen words) ≤ length known
few-seen words known h = length-le_from_is_member laws (first_seen words) known (distinct-fold words [] no_names) (λ q e. listed-all words [] known (λ x k. absurd cc) h q e)

pub never-full : (words known : List (List ℕ)) (name : List ℕ) → AreListed known (words ++ name ∷ []) → length known ≤ 4096 → is_full (first_seen words) name ≡ false
never-full words known name h l = by (list_any (bytes_eq name) (first_seen words)) refl
  where
    by : (b : Bool) → list_any (bytes_eq name) (first_seen words) ≡ b → (not b && length (first_seen words) == 4096) ≡ false
    by true e = refl
    by false e =
        let grown : first_seen (words ++ name ∷ []) ≡ first_seen words ++ name ∷ []
        = seen-append words (name ∷ []) ∙ ap (λ b. cond b (first_seen words) (first_seen words ++ name ∷ [])) e in
        let count : length (first_seen words) + 1 ≤ 4096
        = omega (arith, ap length grown, length-append (first_seen words) (name ∷ []), few-seen (words ++ name ∷ []) known h, l) in
        grind (arith, nat_tests)

pub never-many : (names words known : List (List ℕ)) → AreListed known (words ++ names) → length known ≤ 4096 → names_fault names (first_seen words) ≡ None
never-many [] words known h l = refl
never-many (name ∷ names) words known h l =
    let here : AreListed known ((words ++ name ∷ []) ++ names) = subst (AreListed known) (sym (append_assoc words (name ∷ []) names)) h in
    let first : is_full (first_seen words) name ≡ false = never-full words known name (listed-left known (words ++ name ∷ []) names here) l in
    let rest : names_fault names (first_seen (words ++ name ∷ [])) ≡ None = never-many names (words ++ name ∷ []) known here l in
    ap (λ b. cond b (Some TooManySpecies) (names_fault names (with_name (first_seen words) name))) first
    ∙ ap (names_fault names) (sym (seen-append words (name ∷ []))) ∙ rest
