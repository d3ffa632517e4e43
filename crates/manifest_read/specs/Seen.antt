-- The views of what the reader cuts out of a line.
use Rattle.std.specs.Prelude.{ℕ, List, [], ◌∷◌, Option, Some, None, Result, Ok, Err, if◌then◌else◌}
use Rattle.std.specs.List.{list_all}
use Rattle.std.specs.Borrow.{Bor}
use Rattle.surf_kinds.specs.Rates.{Fraction}
use Rattle.manifest_read.specs.declared.fault.ManifestKind.{ManifestKind}
use Rattle.manifest_read.specs.declared.fault.ManifestKind.TheVariants.{BadArity}
use Rattle.manifest_read.specs.declared.text.Setting.{Setting}
use Rattle.manifest_read.specs.declared.rules.RuleText.{RuleText}
use Rattle.manifest_read.specs.declared.rules.RuleText.TheVariants as rules
use Rattle.manifest_read.specs.declared.rules.Side.{Side}
use Rattle.manifest_read.specs.declared.rules.Side.TheVariants as sides
use Rattle.manifest_read.specs.declared.sort.Sort.{Sort}
use Rattle.manifest_read.specs.declared.sort.Sort.TheVariants as sorts
use Rattle.manifest_read.specs.Names.{is_name}
use Rattle.manifest_read.specs.Rules.{NamedRule, NamedOne, NamedTwo}
use Rattle.manifest_read.specs.Sorts.{LineSort, Starts, Ends, Unknown, Plain}

-- Rules

abbrev pub named_rule_of : RuleText → NamedRule
named_rule_of (rules.One rate a c) = NamedOne rate a.now c.now
named_rule_of (rules.Two rate a b c d) = NamedTwo rate a.now b.now c.now d.now

abbrev pub named_result_of : Result RuleText ManifestKind → Result NamedRule ManifestKind
named_result_of (Ok rule) = Ok (named_rule_of rule)
named_result_of (Err kind) = Err kind

-- the pieces of a side, as many as a rule may have
pub data NamedSide : Type 0 where
  SideOne : (a : List ℕ) → NamedSide
  SideTwo : (a b : List ℕ) → NamedSide
  SideMany : NamedSide

abbrev pub side_by : Side → NamedSide
side_by (sides.One a) = SideOne a.now
side_by (sides.Two a b) = SideTwo a.now b.now
side_by sides.Many = SideMany

abbrev pub counted : List (List ℕ) → NamedSide
counted (a ∷ []) = SideOne a
counted (a ∷ b ∷ []) = SideTwo a b
counted pieces = SideMany

abbrev pub sided : List (List ℕ) → Option NamedSide
sided pieces = if list_all is_name pieces then Some (counted pieces) else None

abbrev pub by_counts : Fraction → NamedSide → NamedSide → Result NamedRule ManifestKind
by_counts rate (SideOne a) (SideOne c) = Ok (NamedOne rate a c)
by_counts rate (SideTwo a b) (SideTwo c d) = Ok (NamedTwo rate a b c d)
by_counts rate left right = Err BadArity

-- Settings

abbrev pub setting_by : Bor (List ℕ) × Bor (List ℕ) → Setting
setting_by p = record { name = p.0.now; value = p.1.now }

-- Lines

abbrev pub seen : Sort → LineSort
seen (sorts.Starts section) = Starts section
seen (sorts.Ends section) = Ends section
seen sorts.Unknown = Unknown
seen (sorts.Plain bare whole) = Plain bare.now whole.now
