-- Rules and sites that get their numbers in the end, one after the other.
use Rattle.std.proofs.Common.{◌≡◌, ℕ, zero, suc, ◌+◌, ◌<◌, ◌≤◌, List, [], ◌∷◌, ◌++◌, length, map, fold, take, get_or, None, false, refl, sym, ap, subst, ◌∙◌, append_assoc}
use Rattle.std.specs.List.{flat_map, AllByRecursion}
use Rattle.std.proofs.lemmas.List.{append-nil, map_push, take_more}
use Rattle.std.proofs.lemmas.List.Elements.{recursion_from_All}
use Rattle.std.proofs.lemmas.Grind.{flat_map-append}
use Rattle.surf_kinds.specs.declared.rule.Rule.{Rule}
use Rattle.surf_kinds.specs.declared.site.SpeciesId.{SpeciesId}
use Rattle.species.specs.Names.{with_name, place_of, is_full}
use Rattle.manifest_read.specs.Rules.{NamedRule, names_of_rule}
use Rattle.manifest_read.specs.Manifest.{first_seen, numbered, names_fault}
use Rattle.manifest_read.specs.Sound.{IsKnown, IsKnownRule}
use Rattle.manifest_read.specs.CollectedView.{CollectedView, name_at, rule_with_names, AreNumbered}
use Rattle.manifest_read.specs.Names.{AreListed}
use Rattle.manifest_read.proofs.Cells.{places-fold}
use Rattle.manifest_read.proofs.Numbers.{listed-right, listed-both, listed-seen, rules-fold, seen-append, never-full, never-many}
use Rattle.manifest_read.proofs.Stays.{collected, at_place, listed-rule}

pub map-take-push : {X Y : Type 0} (f : X → Y) (xs : List X) (i : ℕ) (d : X) (y : Y) → i < length xs → f (get_or xs i d) ≡ y → map f (take i xs) ++ y ∷ [] ≡ map f (take (i + 1) xs)
map-take-push f xs i d y h e =
    ap (λ z. map f (take i xs) ++ z ∷ []) (sym e) ∙ sym (map_push f (take i xs) (get_or xs i d)) ∙ sym (ap (map f) (take_more xs i d h))

-- The rules and the sites that are gone over

pub record RulesOf (s : CollectedView) (items : List Rule) : Type 0 where
  pub same : map (rule_with_names s.names) items ≡ s.rules
  pub listed : (i : ℕ) → AreListed s.names (flat_map names_of_rule (map (rule_with_names s.names) (take i items)))
  pub few : length s.names ≤ 4096

pub record CellsOf (s : CollectedView) (items : List SpeciesId) : Type 0 where
  pub same : map (name_at s.names) items ≡ s.cells
  pub listed : (i : ℕ) → AreListed s.names (flat_map names_of_rule s.rules ++ map (name_at s.names) (take i items))
  pub few : length s.names ≤ 4096

rules_listed : (names : List (List ℕ)) (items : List Rule) → AllByRecursion (IsKnownRule (length names)) items → (i : ℕ) → AreListed names (flat_map names_of_rule (map (rule_with_names names) (take i items)))
rules_listed names [] h zero = tt
rules_listed names [] h (suc i) = tt
rules_listed names (r ∷ rs) h zero = tt
rules_listed names (r ∷ rs) h (suc i) =
    listed-both names (names_of_rule (rule_with_names names r)) (flat_map names_of_rule (map (rule_with_names names) (take i rs))) (listed-rule names r h.0) (rules_listed names rs h.1 i)

all_listed : (names : List (List ℕ)) (items : List Rule) → AllByRecursion (IsKnownRule (length names)) items → AreListed names (flat_map names_of_rule (map (rule_with_names names) items))
all_listed names [] h = tt
all_listed names (r ∷ rs) h = listed-both names (names_of_rule (rule_with_names names r)) (flat_map names_of_rule (map (rule_with_names names) rs)) (listed-rule names r h.0) (all_listed names rs h.1)

cells_listed : (names : List (List ℕ)) (items : List SpeciesId) → AllByRecursion (IsKnown (length names)) items → (i : ℕ) → AreListed names (map (name_at names) (take i items))
cells_listed names [] h zero = tt
cells_listed names [] h (suc i) = tt
cells_listed names (c ∷ cs) h zero = tt
cells_listed names (c ∷ cs) h (suc i) = (at_place names c.0 h.0, cells_listed names cs h.1 i)

pub rules-of : (names : List (List ℕ)) (rules : List Rule) (cells : List SpeciesId) (s : CollectedView) (items : List Rule)
    → collected names rules cells ≡ s → items ≡ rules → AreNumbered names rules cells → RulesOf s items
rules-of names rules cells s items e f h =
    subst (λ (t : CollectedView). RulesOf t items) e (subst (λ (l : List Rule). RulesOf (collected names rules cells) l) (sym f) (record {
      same = refl;
      listed = rules_listed names rules (recursion_from_All (IsKnownRule (length names)) rules h.in_rules);
      few = h.few;
    }))

pub cells-of : (names : List (List ℕ)) (rules : List Rule) (cells : List SpeciesId) (s : CollectedView) (items : List SpeciesId)
    → collected names rules cells ≡ s → items ≡ cells → AreNumbered names rules cells → CellsOf s items
cells-of names rules cells s items e f h =
    let r : AreListed names (flat_map names_of_rule (map (rule_with_names names) rules)) = all_listed names rules (recursion_from_All (IsKnownRule (length names)) rules h.in_rules) in
    subst (λ (t : CollectedView). CellsOf t items) e (subst (λ (l : List SpeciesId). CellsOf (collected names rules cells) l) (sym f) (record {
      same = refl;
      listed = λ i. listed-both names (flat_map names_of_rule (map (rule_with_names names) rules)) (map (name_at names) (take i cells)) r
          (cells_listed names cells (recursion_from_All (IsKnown (length names)) cells h.in_cells) i);
      few = h.few;
    }))

-- The first rules are numbered

pub record Ruled (done : List NamedRule) (names : List (List ℕ)) (rules : List Rule) : Type 0 where
  pub names_is : names ≡ first_seen (flat_map names_of_rule done)
  pub rules_is : rules ≡ map (numbered names) done

flat_push : (done : List NamedRule) (r : NamedRule) → flat_map names_of_rule (done ++ r ∷ []) ≡ flat_map names_of_rule done ++ names_of_rule r
flat_push done r = flat_map-append names_of_rule done (r ∷ []) ∙ ap (λ l. flat_map names_of_rule done ++ l) (append-nil (names_of_rule r))

pub ruled-more : (done : List NamedRule) (names after : List (List ℕ)) (rules rules' : List Rule) (r : NamedRule) (new : Rule)
    → after ≡ fold with_name names (names_of_rule r) → rules' ≡ rules ++ new ∷ [] → new ≡ numbered after r → Ruled done names rules → Ruled (done ++ r ∷ []) after rules'
ruled-more done names after rules rules' r new e f g h =
    let all : AreListed names (flat_map names_of_rule done) = rw h.names_is (listed-seen (flat_map names_of_rule done)) in
    record {
      names_is = e ∙ ap (λ n. fold with_name n (names_of_rule r)) h.names_is ∙ sym (seen-append (flat_map names_of_rule done) (names_of_rule r))
          ∙ ap first_seen (sym (flat_push done r));
      rules_is = f ∙ ap (λ (x : Rule). rules ++ x ∷ []) g
          ∙ ap (λ (l : List Rule). l ++ numbered after r ∷ []) (h.rules_is ∙ sym (ap (λ n. map (numbered n) done) e ∙ rules-fold (names_of_rule r) names done all))
          ∙ sym (map_push (numbered after) done r);
    }

pub rules-fit : (s : CollectedView) (items : List Rule) (i : ℕ) (r : NamedRule) (names : List (List ℕ)) (rules : List Rule) → RulesOf s items
    → map (rule_with_names s.names) (take i items) ++ r ∷ [] ≡ map (rule_with_names s.names) (take (i + 1) items)
    → Ruled (map (rule_with_names s.names) (take i items)) names rules → names_fault (names_of_rule r) names ≡ None
rules-fit s items i r names rules o e h =
    let done : List NamedRule = map (rule_with_names s.names) (take i items) in
    let all : AreListed s.names (flat_map names_of_rule done ++ names_of_rule r)
    = subst (AreListed s.names) (ap (flat_map names_of_rule) (sym e) ∙ flat_push done r) (o.listed (i + 1)) in
    rw h.names_is (never-many (names_of_rule r) (flat_map names_of_rule done) s.names all o.few)

-- The first sites are numbered

pub record Placed (first done : List (List ℕ)) (names : List (List ℕ)) (cells : List SpeciesId) : Type 0 where
  pub names_is : names ≡ first_seen (first ++ done)
  pub cells_is : cells ≡ map (place_of names) done

pub placed-start : (first names : List (List ℕ)) (cells : List SpeciesId) → names ≡ first_seen first → cells ≡ [] → Placed first [] names cells
placed-start first names cells e f = record { names_is = e ∙ ap first_seen (sym (append-nil first)); cells_is = f }

pub placed-more : (first done : List (List ℕ)) (names after : List (List ℕ)) (cells cells' : List SpeciesId) (word : List ℕ) (id : SpeciesId)
    → after ≡ with_name names word → cells' ≡ cells ++ id ∷ [] → id ≡ place_of after word → Placed first done names cells → Placed first (done ++ word ∷ []) after cells'
placed-more first done names after cells cells' word id e f g h =
    let all : AreListed names done = rw h.names_is (listed-right (first_seen (first ++ done)) first done (listed-seen (first ++ done))) in
    record {
      names_is = e ∙ ap (λ n. with_name n word) h.names_is ∙ sym (seen-append (first ++ done) (word ∷ [])) ∙ ap first_seen (append_assoc first done (word ∷ []));
      cells_is = f ∙ ap (λ (x : SpeciesId). cells ++ x ∷ []) g
          ∙ ap (λ (l : List SpeciesId). l ++ place_of after word ∷ []) (h.cells_is ∙ sym (ap (λ n. map (place_of n) done) e ∙ places-fold (word ∷ []) names done all))
          ∙ sym (map_push (place_of after) done word);
    }

pub cells-fit : (s : CollectedView) (items : List SpeciesId) (i : ℕ) (word : List ℕ) (names : List (List ℕ)) (cells : List SpeciesId) → CellsOf s items
    → map (name_at s.names) (take i items) ++ word ∷ [] ≡ map (name_at s.names) (take (i + 1) items)
    → Placed (flat_map names_of_rule s.rules) (map (name_at s.names) (take i items)) names cells → is_full names word ≡ false
cells-fit s items i word names cells o e h =
    let done : List (List ℕ) = map (name_at s.names) (take i items) in
    let first : List (List ℕ) = flat_map names_of_rule s.rules in
    let all : AreListed s.names ((first ++ done) ++ word ∷ [])
    = subst (AreListed s.names) (ap (λ l. first ++ l) (sym e) ∙ sym (append_assoc first done (word ∷ []))) (o.listed (i + 1)) in
    rw h.names_is (never-full (first ++ done) s.names word all o.few)
