-- What more names leave as it was: the names of numbers, and the numbers of names.
use Rattle.std.proofs.Common.{◌≡◌, ℕ, zero, suc, ◌+◌, ◌<◌, ◌≤◌, Bool, true, false, cond, not, ◌||◌, List, [], ◌∷◌, ◌++◌, length, map, fold, get_or, refl, sym, ap, ◌∙◌, arith, nat_lt}
use Rattle.std.specs.List.{list_any, position_or_len, AllByRecursion}
use Rattle.std.specs.Str.{bytes_eq}
use Rattle.std.proofs.lemmas.Bool.Decides.{nat_tests}
use Rattle.std.proofs.lemmas.List.{get_or_append_left, map_push, length-append}
use Rattle.std.proofs.lemmas.List.Elements.{recursion_from_All, All-from_recursion}
use Rattle.std.proofs.lemmas.Slice.Eq.{bytes_eq-Decides}
use Rattle.surf_kinds.specs.declared.rule.Rule.{Rule}
use Rattle.surf_kinds.specs.declared.rule.Rule.TheVariants.{One, Two}
use Rattle.surf_kinds.specs.declared.site.SpeciesId.{SpeciesId}
use Rattle.species.specs.Names.{with_name, place_of}
use Rattle.species.proofs.LawLemmas.{is_in-index}
use Rattle.manifest_read.specs.Rules.{NamedRule, NamedOne, NamedTwo, names_of_rule}
use Rattle.manifest_read.specs.Manifest.{numbered}
use Rattle.manifest_read.specs.Sound.{IsKnown, IsKnownRule}
use Rattle.manifest_read.specs.CollectedView.{CollectedView, name_at, rule_with_names, with_named_rule, with_cell, Grows, AreNumbered}
use Rattle.manifest_read.specs.Names.{IsListed, AreListed}
use Rattle.manifest_read.proofs.Cells.{listed-itself, listed-words}

-- The names of numbers

name-more : (names : List (List ℕ)) (word : List ℕ) (id : SpeciesId) → IsKnown (length names) id → name_at (with_name names word) id ≡ name_at names id
name-more names word id h = by (list_any (bytes_eq word) names)
  where
    by : (b : Bool) → name_at (cond b names (names ++ word ∷ [])) id ≡ name_at names id
    by true = refl
    by false = get_or_append_left names (word ∷ []) [] id.0 h

longer : (names : List (List ℕ)) (word : List ℕ) → length names ≤ length (with_name names word)
longer names word = by (list_any (bytes_eq word) names)
  where
    by : (b : Bool) → length names ≤ length (cond b names (names ++ word ∷ []))
    by true = omega arith
    by false = omega (arith, length-append names (word ∷ []))

name-fold : (words names : List (List ℕ)) (id : SpeciesId) → IsKnown (length names) id → name_at (fold with_name names words) id ≡ name_at names id
name-fold [] names id h = refl
name-fold (w ∷ ws) names id h = name-fold ws (with_name names w) id (omega (arith, h, longer names w)) ∙ name-more names w id h

rule-fold : (words names : List (List ℕ)) (r : Rule) → IsKnownRule (length names) r → rule_with_names (fold with_name names words) r ≡ rule_with_names names r
rule-fold words names (One rate a c) h = rw (name-fold words names a h.0, name-fold words names c h.1) refl
rule-fold words names (Two rate a b c d) h = rw (name-fold words names a h.0, name-fold words names b h.1, name-fold words names c h.2, name-fold words names d h.3) refl

names_by : (words names : List (List ℕ)) (ids : List SpeciesId) → AllByRecursion (IsKnown (length names)) ids → map (name_at (fold with_name names words)) ids ≡ map (name_at names) ids
names_by words names [] h = refl
names_by words names (id ∷ ids) h = rw (name-fold words names id h.0, names_by words names ids h.1) refl

rules_by : (words names : List (List ℕ)) (rs : List Rule) → AllByRecursion (IsKnownRule (length names)) rs → map (rule_with_names (fold with_name names words)) rs ≡ map (rule_with_names names) rs
rules_by words names [] h = refl
rules_by words names (r ∷ rs) h = rw (rule-fold words names r h.0, rules_by words names rs h.1) refl

-- The numbers of names

module _ {X : Type 0} (p : X → Bool) where
  first_is : (xs : List X) (d : X) → list_any p xs ≡ true → p (get_or xs (position_or_len p xs) d) ≡ true
  first_is [] d h = absurd cc
  first_is (x ∷ xs) d h = by (p x) refl h (λ e. first_is xs d e)
    where
      by : (b : Bool) → p x ≡ b → (b || list_any p xs) ≡ true → (list_any p xs ≡ true → p (get_or xs (position_or_len p xs) d) ≡ true)
          → p (get_or (x ∷ xs) (cond (not b) (1 + position_or_len p xs) 0) d) ≡ true
      by true e h more = e
      by false e h more = let one : 1 + position_or_len p xs ≡ suc (position_or_len p xs) = omega arith in rw one (more h)

-- the name at a name's place
pub name_at_place : (names : List (List ℕ)) (word : List ℕ) → IsListed names word → name_at names (place_of names word) ≡ word
name_at_place names word h = sym ((bytes_eq-Decides word (name_at names (place_of names word))).0 (first_is (bytes_eq word) names [] h))

-- a listed name has a number
pub known-place : (names : List (List ℕ)) (name : List ℕ) → IsListed names name → IsKnown (length names) (place_of names name)
known-place names name h =
    let e : nat_lt (position_or_len (bytes_eq name) names) (length names) ≡ true = sym (is_in-index names name) ∙ h in
    grind (arith, nat_tests)

pub known-rule : (names : List (List ℕ)) (r : NamedRule) → AreListed names (names_of_rule r) → IsKnownRule (length names) (numbered names r)
known-rule names (NamedOne rate a c) h = (known-place names a h.0, known-place names c h.1.0)
known-rule names (NamedTwo rate a b c d) h = (known-place names a h.0, known-place names b h.1.0, known-place names c h.1.1.0, known-place names d h.1.1.1.0)

-- a rule that was numbered has its names
pub named_rule-numbered : (names : List (List ℕ)) (r : NamedRule) → AreListed names (names_of_rule r) → rule_with_names names (numbered names r) ≡ r
named_rule-numbered names (NamedOne rate a c) h = rw (name_at_place names a h.0, name_at_place names c h.1.0) refl
named_rule-numbered names (NamedTwo rate a b c d) h = rw (name_at_place names a h.0, name_at_place names b h.1.0, name_at_place names c h.1.1.0, name_at_place names d h.1.1.1.0) refl

-- One more rule, and one more site

abbrev pub collected : List (List ℕ) → List Rule → List SpeciesId → CollectedView
collected names rules cells = record { names = names; rules = map (rule_with_names names) rules; cells = map (name_at names) cells }

pub collected-rule : (names after : List (List ℕ)) (rules rules' : List Rule) (cells : List SpeciesId) (r : NamedRule) (new : Rule)
    → after ≡ fold with_name names (names_of_rule r) → rules' ≡ rules ++ new ∷ [] → new ≡ numbered after r → AreNumbered names rules cells
    → collected after rules' cells ≡ with_named_rule (collected names rules cells) r
collected-rule names after rules rules' cells r new e f g h =
    let grown : List (List ℕ) = fold with_name names (names_of_rule r) in
    let all : AreListed grown (names_of_rule r) = listed-words (names_of_rule r) names in
    let one : rule_with_names grown new ≡ r = ap (rule_with_names grown) (g ∙ ap (λ n. numbered n r) e) ∙ named_rule-numbered grown r all in
    let content : map (rule_with_names grown) rules' ≡ map (rule_with_names names) rules ++ r ∷ []
    = ap (map (rule_with_names grown)) f ∙ map_push (rule_with_names grown) rules new
    ∙ ap (λ x. x ++ rule_with_names grown new ∷ []) (rules_by (names_of_rule r) names rules (recursion_from_All (IsKnownRule (length names)) rules h.in_rules))
    ∙ ap (λ x. map (rule_with_names names) rules ++ x ∷ []) one in
    let sites : map (name_at grown) cells ≡ map (name_at names) cells = names_by (names_of_rule r) names cells (recursion_from_All (IsKnown (length names)) cells h.in_cells) in
    ap (λ n. collected n rules' cells) e
    ∙ ap (λ (x : List NamedRule). let s : CollectedView = record { names = grown; rules = x; cells = map (name_at grown) cells } in s) content
    ∙ ap (λ (x : List (List ℕ)). let s : CollectedView = record { names = grown; rules = map (rule_with_names names) rules ++ r ∷ []; cells = x } in s) sites

pub collected-cell : (names after : List (List ℕ)) (rules : List Rule) (cells cells' : List SpeciesId) (word : List ℕ) (id : SpeciesId)
    → after ≡ with_name names word → cells' ≡ cells ++ id ∷ [] → id ≡ place_of after word → AreNumbered names rules cells
    → collected after rules cells' ≡ with_cell (collected names rules cells) word
collected-cell names after rules cells cells' word id e f g h =
    let grown : List (List ℕ) = with_name names word in
    let one : name_at grown id ≡ word = ap (name_at grown) (g ∙ ap (λ n. place_of n word) e) ∙ name_at_place grown word (listed-itself names word) in
    let content : map (rule_with_names grown) rules ≡ map (rule_with_names names) rules = rules_by (word ∷ []) names rules (recursion_from_All (IsKnownRule (length names)) rules h.in_rules) in
    let sites : map (name_at grown) cells' ≡ map (name_at names) cells ++ word ∷ []
    = ap (map (name_at grown)) f ∙ map_push (name_at grown) cells id
    ∙ ap (λ x. x ++ name_at grown id ∷ []) (names_by (word ∷ []) names cells (recursion_from_All (IsKnown (length names)) cells h.in_cells))
    ∙ ap (λ x. map (name_at names) cells ++ x ∷ []) one in
    ap (λ n. collected n rules cells') e
    ∙ ap (λ (x : List NamedRule). let s : CollectedView = record { names = grown; rules = x; cells = map (name_at grown) cells' } in s) content
    ∙ ap (λ (x : List (List ℕ)). let s : CollectedView = record { names = grown; rules = map (rule_with_names names) rules; cells = x } in s) sites

-- Numbers of more names

more_ids : (n m : ℕ) (ids : List SpeciesId) → n ≤ m → AllByRecursion (IsKnown n) ids → AllByRecursion (IsKnown m) ids
more_ids n m [] l h = tt
more_ids n m (id ∷ ids) l h = (omega (arith, h.0, l), more_ids n m ids l h.1)

more_rule : (n m : ℕ) (r : Rule) → n ≤ m → IsKnownRule n r → IsKnownRule m r
more_rule n m (One rate a c) l h = (omega (arith, h.0, l), omega (arith, h.1, l))
more_rule n m (Two rate a b c d) l h = (omega (arith, h.0, l), omega (arith, h.1, l), omega (arith, h.2, l), omega (arith, h.3, l))

more_rules : (n m : ℕ) (rs : List Rule) → n ≤ m → AllByRecursion (IsKnownRule n) rs → AllByRecursion (IsKnownRule m) rs
more_rules n m [] l h = tt
more_rules n m (r ∷ rs) l h = (more_rule n m r l h.0, more_rules n m rs l h.1)

push_rule : (n : ℕ) (rs : List Rule) (r : Rule) → AllByRecursion (IsKnownRule n) rs → IsKnownRule n r → AllByRecursion (IsKnownRule n) (rs ++ r ∷ [])
push_rule n [] r h g = (g, tt)
push_rule n (x ∷ xs) r h g = (h.0, push_rule n xs r h.1 g)

pub numbered-push : (names after : List (List ℕ)) (rules rules' : List Rule) (cells : List SpeciesId) (r : NamedRule) (new : Rule)
    → after ≡ fold with_name names (names_of_rule r) → rules' ≡ rules ++ new ∷ [] → new ≡ numbered after r → Grows names after → AreNumbered names rules cells
    → AreNumbered after rules' cells
numbered-push names after rules rules' cells r new e f g w h =
    let all : AreListed after (names_of_rule r) = rw e (listed-words (names_of_rule r) names) in
    let one : IsKnownRule (length after) new = rw g (known-rule after r all) in
    let old : AllByRecursion (IsKnownRule (length after)) rules = more_rules (length names) (length after) rules w.longer (recursion_from_All (IsKnownRule (length names)) rules h.in_rules) in
    record {
      few = w.few h.few;
      in_rules = rw f (All-from_recursion (IsKnownRule (length after)) (rules ++ new ∷ []) (push_rule (length after) rules new old one));
      in_cells = All-from_recursion (IsKnown (length after)) cells (more_ids (length names) (length after) cells w.longer (recursion_from_All (IsKnown (length names)) cells h.in_cells));
    }

-- The names of numbered rules and sites are listed

pub at_place : (names : List (List ℕ)) (i : ℕ) → i < length names → IsListed names (get_or names i [])
at_place [] i h = absurd (omega arith)
at_place (n ∷ ns) zero h = ap (λ b. b || list_any (bytes_eq n) ns) ((bytes_eq-Decides n n).1 refl)
at_place (n ∷ ns) (suc i) h = either (bytes_eq (get_or ns i []) n) (at_place ns i (omega arith))
  where
    either : (b : Bool) → IsListed ns (get_or ns i []) → (b || list_any (bytes_eq (get_or ns i [])) ns) ≡ true
    either true e = refl
    either false e = e

pub listed-rule : (names : List (List ℕ)) (r : Rule) → IsKnownRule (length names) r → AreListed names (names_of_rule (rule_with_names names r))
listed-rule names (One rate a c) h = (at_place names a.0 h.0, (at_place names c.0 h.1, tt))
listed-rule names (Two rate a b c d) h = (at_place names a.0 h.0, (at_place names b.0 h.1, (at_place names c.0 h.2, (at_place names d.0 h.3, tt))))
