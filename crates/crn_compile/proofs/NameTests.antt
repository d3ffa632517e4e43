-- The names of the species, by tests over the table.
use Rattle.std.proofs.Common.{◌≡◌, ℕ, [], map, fold, Bool, true, refl, ◌==◌, ◌&&◌}
use Rattle.std.specs.Prelude.{nat_lt}
use Rattle.std.specs.List.{list_all, list_any, flat_map, range_with_len}
use Rattle.std.specs.Str.{bytes_eq}
use Rattle.surf_kinds.specs.declared.rule.Rule.{Rule}
use Rattle.surf_kinds.specs.declared.rule.Rule.TheVariants.{One, Two}
use Rattle.surf_kinds.specs.declared.site.SpeciesId.{SpeciesId}
use Rattle.species.specs.Names.{with_name}
use Rattle.species.specs.Texts.{index_of}
use Rattle.manifest_read.specs.CollectedView.{name_at, rule_with_names}
use Rattle.manifest_read.specs.Rules.{names_of_rule}
use Rattle.manifest_write.specs.Made.{is_plain_name}
use Rattle.crn_compile.specs.Species.{circuit_rules}
use Rattle.crn_compile.specs.Names.{all_names, rule_names}

abbrev pub id : ℕ → SpeciesId
id n = record { 0 = n }

-- each is a name
pub all_plain : list_all is_plain_name all_names ≡ true
all_plain = refl

pub rule_plain : list_all is_plain_name rule_names ≡ true
rule_plain = refl

-- the rules name all species but the inert one
abbrev pub is_in_rules : Rule → Bool
is_in_rules (One rate a c) = nat_lt a.0 55 && nat_lt c.0 55
is_in_rules (Two rate a b c d) = nat_lt a.0 55 && (nat_lt b.0 55 && (nat_lt c.0 55 && nat_lt d.0 55))

pub all_in_rules : list_all is_in_rules circuit_rules ≡ true
unfolding circuit_rules
all_in_rules = refl

-- the names of the rules come in the order of their numbers
pub rules_seen : fold with_name [] (flat_map names_of_rule (map (rule_with_names rule_names) circuit_rules)) ≡ rule_names
unfolding circuit_rules
rules_seen = refl

pub all_seen : fold with_name [] (flat_map names_of_rule (map (rule_with_names all_names) circuit_rules)) ≡ rule_names
unfolding circuit_rules
all_seen = refl

-- each species has its number by its name
pub rule_places : list_all (λ n. index_of rule_names (name_at rule_names (id n)) == n) (range_with_len 0 55) ≡ true
rule_places = refl

pub all_places : list_all (λ n. index_of all_names (name_at all_names (id n)) == n) (range_with_len 0 56) ≡ true
all_places = refl

-- a name that came stays as it is
pub rule_kept : list_all (λ n. list_any (bytes_eq (name_at rule_names (id n))) rule_names) (range_with_len 0 55) ≡ true
rule_kept = refl

pub first_kept : list_all (λ n. list_any (bytes_eq (name_at all_names (id n))) rule_names) (range_with_len 0 55) ≡ true
first_kept = refl

pub all_kept : list_all (λ n. list_any (bytes_eq (name_at all_names (id n))) all_names) (range_with_len 0 56) ≡ true
all_kept = refl

pub inert_new : with_name rule_names (name_at all_names (id 55)) ≡ all_names
inert_new = refl

pub rule_names_once : fold with_name [] rule_names ≡ rule_names
rule_names_once = refl
