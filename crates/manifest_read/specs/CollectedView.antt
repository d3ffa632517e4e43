-- The rules and rows that were read, by names, and by the numbers of these.
use Rattle.std.specs.Prelude.{ℕ, ◌≤◌, List, [], ◌∷◌, ◌++◌, fold, length, slice_index_or}
use Rattle.std.specs.List.{All}
use Rattle.species.specs.Names.{with_name}
use Rattle.surf_kinds.specs.declared.rule.Rule.{Rule}
use Rattle.surf_kinds.specs.declared.rule.Rule.TheVariants.{One, Two}
use Rattle.surf_kinds.specs.declared.site.SpeciesId.{SpeciesId}
use Rattle.manifest_read.specs.Sound.{IsKnown, IsKnownRule}
use Rattle.manifest_read.specs.Rules.{NamedRule, NamedOne, NamedTwo, names_of_rule}

-- the names so far, in the order of the text, the rules, and the names in the rows
pub record CollectedView : Type 0 where
  pub names : List (List ℕ)
  pub rules : List NamedRule
  pub cells : List (List ℕ)

abbrev pub name_at : List (List ℕ) → SpeciesId → List ℕ
name_at names id = slice_index_or names id.0 []

abbrev pub rule_with_names : List (List ℕ) → Rule → NamedRule
rule_with_names names (One rate a c) = NamedOne rate (name_at names a) (name_at names c)
rule_with_names names (Two rate a b c d) = NamedTwo rate (name_at names a) (name_at names b) (name_at names c) (name_at names d)

abbrev pub with_named_rule : CollectedView → NamedRule → CollectedView
with_named_rule s r = record { names = fold with_name s.names (names_of_rule r); rules = s.rules ++ r ∷ []; cells = s.cells }

abbrev pub with_cell : CollectedView → List ℕ → CollectedView
with_cell s word = record { names = with_name s.names word; rules = s.rules; cells = s.cells ++ word ∷ [] }

-- no name goes, and there are at most 4,096
pub record Grows (old new : List (List ℕ)) : Type 0 where
  pub longer : length old ≤ length new
  pub few : length old ≤ 4096 → length new ≤ 4096

-- the numbers are those of names
pub record AreNumbered (names : List (List ℕ)) (rules : List Rule) (cells : List SpeciesId) : Type 0 where
  pub few : length names ≤ 4096
  pub in_rules : All (IsKnownRule (length names)) rules
  pub in_cells : All (IsKnown (length names)) cells
