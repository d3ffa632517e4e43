-- A rule as a line has it.
use Rattle.std.specs.Prelude.{ℕ, ◌&&◌, List, [], ◌∷◌, map, Option, Some, None, Result, Ok, Err, ◌==◌, if◌then◌else◌}
use Rattle.std.specs.List.{list_all, slice_split}
use Rattle.surf_kinds.specs.Rates.{Fraction}
use Rattle.surf_text.specs.Lines.{trimmed}
use Rattle.surf_text.specs.Cuts.{cut_at}
use Rattle.rates.specs.Rates.{rate_of}
use Rattle.manifest_read.specs.declared.fault.ManifestKind.{ManifestKind}
use Rattle.manifest_read.specs.declared.fault.ManifestKind.TheVariants.{BadRate, BadRule, BadArity}
use Rattle.manifest_read.specs.Names.{is_name, cut_arrow}

-- its rate, and the names of its reactants and products
pub data NamedRule : Type 0 where
  NamedOne : (rate : Fraction) (a c : List ℕ) → NamedRule
  NamedTwo : (rate : Fraction) (a b c d : List ℕ) → NamedRule

-- the names of a rule, from left to right
abbrev pub names_of_rule : NamedRule → List (List ℕ)
names_of_rule (NamedOne rate a c) = a ∷ c ∷ []
names_of_rule (NamedTwo rate a b c d) = a ∷ b ∷ c ∷ d ∷ []

-- the pieces of a side, with a plus between them
abbrev pub side_of : List ℕ → List (List ℕ)
side_of text = map trimmed (slice_split (λ c. c == 43) text)

-- one name on each side, or two
abbrev pub by_arity : Fraction → List (List ℕ) → List (List ℕ) → Result NamedRule ManifestKind
by_arity rate (a ∷ []) (c ∷ []) = Ok (NamedOne rate a c)
by_arity rate (a ∷ b ∷ []) (c ∷ d ∷ []) = Ok (NamedTwo rate a b c d)
by_arity rate left right = Err BadArity

abbrev pub by_sides : Fraction → List (List ℕ) → List (List ℕ) → Result NamedRule ManifestKind
by_sides rate left right = if list_all is_name left && list_all is_name right then by_arity rate left right else Err BadRule

abbrev pub by_arrow : Fraction → Option (List ℕ × List ℕ) → Result NamedRule ManifestKind
by_arrow rate None = Err BadRule
by_arrow rate (Some p) = by_sides rate (side_of p.0) (side_of p.1)

abbrev pub by_rate : Option Fraction → List ℕ → Result NamedRule ManifestKind
by_rate None text = Err BadRate
by_rate (Some rate) text = by_arrow rate (cut_arrow text)

-- the rate stands before the closing bracket
abbrev pub by_bracket : Option (List ℕ × List ℕ) → Result NamedRule ManifestKind
by_bracket None = Err BadRate
by_bracket (Some p) = by_rate (rate_of p.0) p.1

-- the rate in brackets, which is 1 where there are none, and the two sides with an arrow between them
abbrev pub rule_of : List ℕ → Result NamedRule ManifestKind
rule_of [] = Err BadRule
rule_of (c ∷ cs) = if c == 40 then by_bracket (cut_at 41 cs) else by_arrow (record { p = 1; q = 1 }) (cut_arrow (c ∷ cs))
