-- The one spelling of a manifest.
use Rattle.std.specs.Prelude.{ℕ, ◌+◌, ◌/◌, ◌%◌, List, [], ◌∷◌, ◌++◌, map, Option, Some, None, decimal, codes, ◌==◌, if◌then◌else◌}
use Rattle.surf_kinds.specs.Rates.{Fraction}
use Rattle.surf_kinds.specs.declared.rule.Rule.{Rule}
use Rattle.surf_kinds.specs.declared.rule.Rule.TheVariants.{One, Two}
use Rattle.surface_rows.specs.Rows.{name_of, row_lines, lines_text}
use Rattle.manifest_read.specs.declared.text.Setting.{Setting}
use Rattle.manifest_read.specs.declared.manifest.Manifest.{Manifest}
use Rattle.manifest_read.specs.Settings.{kind_text, bool_text}

-- a byte before what is left of digits; a zero with nothing after it goes
abbrev pub before_digits : ℕ → List ℕ → List ℕ
before_digits c [] = if c == 48 then [] else c ∷ []
before_digits c (d ∷ ds) = c ∷ d ∷ ds

-- digits without the zeros at their end
abbrev pub without_zeros : List ℕ → List ℕ
without_zeros [] = []
without_zeros (c ∷ cs) = before_digits c (without_zeros cs)

-- the last digit of a number
abbrev pub last_digit : ℕ → ℕ
last_digit n = 48 + n % 10

abbrev pub six_digits : ℕ → List ℕ
six_digits n =
    last_digit (n / 100000) ∷ last_digit (n / 10000) ∷ last_digit (n / 1000) ∷ last_digit (n / 100) ∷ last_digit (n / 10) ∷ last_digit n ∷ []

abbrev pub fraction_text : ℕ → List ℕ
fraction_text rest = if rest == 0 then [] else codes "." ++ without_zeros (six_digits rest)

-- ticks in units of time, of a million ticks each
abbrev pub duration_text : ℕ → List ℕ
duration_text ticks = decimal (ticks / 1000000) ++ fraction_text (ticks % 1000000)

abbrev pub value_text : List ℕ → List ℕ
value_text [] = []
value_text (c ∷ cs) = 32 ∷ c ∷ cs

-- a setting; nothing stands behind the `=` of an empty value
abbrev pub setting_line : Setting → List ℕ
setting_line s = s.name ++ codes " =" ++ value_text s.value

abbrev pub rate_text : Fraction → List ℕ
rate_text r = decimal r.p ++ (if r.q == 1 then [] else codes "/" ++ decimal r.q)

-- `(p/q) A + B -> C + D`
abbrev pub rule_line : List (List ℕ) → Rule → List ℕ
rule_line names (One rate a c) = codes "(" ++ rate_text rate ++ codes ") " ++ name_of names a ++ codes " -> " ++ name_of names c
rule_line names (Two rate a b c d) =
    codes "(" ++ rate_text rate ++ codes ") " ++ name_of names a ++ codes " + " ++ name_of names b ++ codes " -> " ++ name_of names c ++ codes " + " ++ name_of names d

-- the colour section, where it was there
abbrev pub colour_lines : Option (List (List ℕ)) → List (List ℕ)
colour_lines None = []
colour_lines (Some lines) = codes "!START_COLORMAP" ∷ lines ++ codes "!END_COLORMAP" ∷ []

abbrev pub read_setting_lines : Manifest → List (List ℕ)
read_setting_lines m =
    (codes "rng_seed = " ++ decimal m.seed)
    ∷ (codes "max_duration = " ++ duration_text m.until)
    ∷ (codes "lattice = " ++ kind_text m.lattice.kind)
    ∷ (codes "wrap = " ++ bool_text m.lattice.wrap)
    ∷ []

-- the canonical lines of a manifest: settings, rules, rows and colours
abbrev pub canon : Manifest → List (List ℕ)
canon m =
    read_setting_lines m
    ++ map setting_line m.others
    ++ codes "!START_TRANSITION_RULES" ∷ map (rule_line m.names) m.rules
    ++ codes "!END_TRANSITION_RULES" ∷ codes "!START_INIT_STATE" ∷ row_lines m.names m.lattice.rows m.lattice.cols m.cells
    ++ codes "!END_INIT_STATE" ∷ colour_lines m.colours

-- the canonical text
unfoldable pub canonical_text : Manifest → List ℕ
canonical_text m = lines_text (canon m)
