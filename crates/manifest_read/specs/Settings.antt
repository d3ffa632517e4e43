-- Settings and their values.
use Rattle.std.specs.Prelude.{ℕ, Bool, true, false, not, ◌&&◌, ◌||◌, List, [], ◌∷◌, filter, Option, Some, None, is_none, if◌then◌else◌, codes}
use Rattle.std.specs.List.{filter_map, list_any}
use Rattle.std.specs.Str.{bytes_eq}
use Rattle.surf_text.specs.Lines.{trimmed}
use Rattle.surf_text.specs.Cuts.{cut_at}
use Rattle.surf_text.specs.Numbers.{u64_of}
use Rattle.rates.specs.Durations.{duration_of}
use Rattle.lattice.specs.declared.grid.Kind.{Kind}
use Rattle.lattice.specs.declared.grid.Kind.TheVariants.{Square, Hex}
use Rattle.manifest_read.specs.declared.text.Setting.{Setting}
use Rattle.manifest_read.specs.declared.fault.ManifestKind.{ManifestKind}
use Rattle.manifest_read.specs.declared.fault.ManifestKind.TheVariants.{BadSetting, SettingTwice, BadSeed, BadDuration, BadLattice, BadWrap}

abbrev pub named : List ℕ → List ℕ → Option Setting
named [] value = None
named (c ∷ cs) value = Some (record { name = c ∷ cs; value = value })

abbrev pub by_equals : Option (List ℕ × List ℕ) → Option Setting
by_equals None = None
by_equals (Some p) = named (trimmed p.0) (trimmed p.1)

-- a name, which isn't empty, and a value with `=` between them
abbrev pub setting_of : List ℕ → Option Setting
setting_of text = by_equals (cut_at 61 text)

abbrev pub is_seed : List ℕ → Bool
is_seed name = bytes_eq name (codes "rng_seed")

abbrev pub is_duration : List ℕ → Bool
is_duration name = bytes_eq name (codes "max_duration")

abbrev pub is_lattice : List ℕ → Bool
is_lattice name = bytes_eq name (codes "lattice")

abbrev pub is_wrap : List ℕ → Bool
is_wrap name = bytes_eq name (codes "wrap")

abbrev pub kind_text : Kind → List ℕ
kind_text Square = codes "square"
kind_text Hex = codes "hex"

abbrev pub bool_text : Bool → List ℕ
bool_text true = codes "true"
bool_text false = codes "false"

abbrev pub kind_of : List ℕ → Option Kind
kind_of value = if bytes_eq value (kind_text Square) then Some Square else (if bytes_eq value (kind_text Hex) then Some Hex else None)

abbrev pub wrap_of : List ℕ → Option Bool
wrap_of value =
    if bytes_eq value (bool_text true) || bytes_eq value (codes "True") then Some true
    else (if bytes_eq value (bool_text false) || bytes_eq value (codes "False") then Some false
    else None)

-- the value of a setting with a meaning

abbrev pub seed_in : Setting → Option ℕ
seed_in s = if is_seed s.name then u64_of s.value else None

abbrev pub duration_in : Setting → Option ℕ
duration_in s = if is_duration s.name then duration_of s.value else None

abbrev pub kind_in : Setting → Option Kind
kind_in s = if is_lattice s.name then kind_of s.value else None

abbrev pub wrap_in : Setting → Option Bool
wrap_in s = if is_wrap s.name then wrap_of s.value else None

-- the settings without a meaning stay as they are
abbrev pub is_other : Setting → Bool
is_other s = not (is_seed s.name || (is_duration s.name || (is_lattice s.name || is_wrap s.name)))

-- the last value, or the default
abbrev pub last_or : {A : Type 0} → A → List A → A
last_or default [] = default
last_or default (x ∷ xs) = last_or x xs

-- the values of the settings of a manifest; 100 units of a million ticks are the duration where there is none
pub record SettingValues : Type 0 where
  pub seed : ℕ
  pub until : ℕ
  pub kind : Kind
  pub wrap : Bool
  pub others : List Setting

abbrev pub setting_values : List Setting → SettingValues
setting_values settings = record {
  seed = last_or 0 (filter_map seed_in settings);
  until = last_or 100000000 (filter_map duration_in settings);
  kind = last_or Square (filter_map kind_in settings);
  wrap = last_or false (filter_map wrap_in settings);
  others = filter is_other settings;
}

-- Faults

-- the value of a setting with a meaning is one of its values
abbrev pub value_fault : Setting → Option ManifestKind
value_fault s =
    if is_seed s.name && is_none (u64_of s.value) then Some BadSeed
    else (if is_duration s.name && is_none (duration_of s.value) then Some BadDuration
    else (if is_lattice s.name && is_none (kind_of s.value) then Some BadLattice
    else (if is_wrap s.name && is_none (wrap_of s.value) then Some BadWrap
    else None)))

-- a setting, where settings of these names were there before
abbrev pub setting_fault : List (List ℕ) → Option Setting → Option ManifestKind
setting_fault names None = Some BadSetting
setting_fault names (Some s) = if list_any (bytes_eq s.name) names then Some SettingTwice else value_fault s
