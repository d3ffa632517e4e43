-- What the parts of every manifest keep to.
use Rattle.std.proofs.Common.{◌≡◌, ℕ, ◌==◌, ◌⊎◌, Bool, true, not, List, [], ◌∷◌}
use Rattle.std.specs.List.{AllByRecursion}
use Rattle.std.specs.Str.{IsUtf8}
use Rattle.surf_text.specs.Passing.{Each, lacks}
use Rattle.surf_kinds.specs.Rates.{Fraction, IsReduced}
use Rattle.manifest_read.specs.declared.text.Setting.{Setting}
use Rattle.manifest_read.specs.Names.{is_name}
use Rattle.manifest_read.specs.Rules.{NamedRule, NamedOne, NamedTwo, names_of_rule}
use Rattle.manifest_write.proofs.Cutting.Tight.{IsTight}

-- UTF-8 without a line feed
abbrev pub IsClean : List ℕ → Type 0
IsClean text = IsUtf8 text × Each (lacks 10) text

-- the first byte is no `!`
abbrev pub is_plain : List ℕ → Bool
is_plain [] = true
is_plain (c ∷ cs) = not (c == 33)

pub record FitsName (name : List ℕ) : Type 0 where
  pub named : is_name name ≡ true
  pub clean : IsClean name

abbrev pub rate_in : NamedRule → Fraction
rate_in (NamedOne rate a c) = rate
rate_in (NamedTwo rate a b c d) = rate

pub record FitsRule (r : NamedRule) : Type 0 where
  pub rate : IsReduced (rate_in r)
  pub names : AllByRecursion FitsName (names_of_rule r)

-- a text without a comment that is trimmed
pub record IsBare (text : List ℕ) : Type 0 where
  pub tight : IsTight text
  pub no_comment : Each (lacks 35) text

pub record FitsSetting (s : Setting) : Type 0 where
  pub name : IsBare s.name
  pub name_plain : is_plain s.name ≡ true
  pub name_uncut : Each (lacks 61) s.name
  pub name_clean : IsClean s.name
  pub value : (s.value ≡ []) ⊎ IsBare s.value
  pub value_clean : IsClean s.value

pub record FitsColour (line : List ℕ) : Type 0 where
  pub tight : IsTight line
  pub plain : is_plain line ≡ true
  pub clean : IsClean line
