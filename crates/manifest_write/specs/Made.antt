-- A manifest that a program puts together, without other settings and without colours.
use Rattle.std.specs.Prelude.{◌≡◌, ℕ, ◌^◌, ◌<◌, Bool, true, not, ◌&&◌, ◌==◌, List, [], ◌++◌, map, length, None, nat_lt}
use Rattle.std.specs.List.{All, flat_map, list_all}
use Rattle.surf_kinds.specs.Rates.{IsReduced}
use Rattle.lattice.specs.Channels.{rate_of}
use Rattle.species.specs.Texts.{index_of}
use Rattle.manifest_read.specs.declared.manifest.Manifest.{Manifest}
use Rattle.manifest_read.specs.CollectedView.{name_at, rule_with_names}
use Rattle.manifest_read.specs.Manifest.{first_seen}
use Rattle.manifest_read.specs.Names.{is_name}
use Rattle.manifest_read.specs.Rules.{names_of_rule}
use Rattle.manifest_read.specs.Sound.{IsSound}

-- a byte of ASCII other than a line feed
abbrev pub is_plain_byte : ℕ → Bool
is_plain_byte c = nat_lt c 128 && not (c == 10)

-- a name of such bytes
abbrev pub is_plain_name : List ℕ → Bool
is_plain_name name = is_name name && list_all is_plain_byte name

-- the names in the order of the text: those of all rules, and then those of all cells
abbrev pub names_in_order : Manifest → List (List ℕ)
names_in_order m = flat_map names_of_rule (map (rule_with_names m.names) m.rules) ++ map (name_at m.names) m.cells

-- its counts are within the limits, its rates are in lowest terms, and its species are numbered by the first appearance
-- of their names
pub record IsMade (m : Manifest) : Type 0 where
  pub seed : m.seed < 2 ^ 64
  pub sound : IsSound m
  pub others : m.others ≡ []
  pub colours : m.colours ≡ None
  pub rates : All (λ r. IsReduced (rate_of r)) m.rules
  pub names : list_all is_plain_name m.names ≡ true
  pub distinct : (k : ℕ) → k < length m.names → index_of m.names (name_at m.names (record { 0 = k })) ≡ k
  pub seen : first_seen (names_in_order m) ≡ m.names
