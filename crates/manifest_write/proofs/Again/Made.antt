-- A manifest that a program puts together is read again from its canonical text.
use Rattle.std.proofs.Common.{◌≡◌, ℕ, zero, suc, ◌<◌, ◌≤◌, Bool, true, List, [], ◌∷◌, map, length, None, Ok, refl, sym, ap, ◌∙◌, subst, arith, get_or, append-nil}
use Rattle.std.specs.List.{All, list_all, AllByRecursion}
use Rattle.std.proofs.lemmas.Bool.{and_parts}
use Rattle.std.proofs.lemmas.List.{length-map}
use Rattle.std.proofs.lemmas.List.Elements.{All-head, All-tail}
use Rattle.surf_kinds.specs.Rates.{IsReduced}
use Rattle.surf_kinds.specs.declared.rule.Rule.{Rule}
use Rattle.surf_kinds.specs.declared.rule.Rule.TheVariants.{One, Two}
use Rattle.surf_kinds.specs.declared.site.SpeciesId.{SpeciesId}
use Rattle.lattice.specs.Channels.{rate_of}
use Rattle.species.specs.Names.{place_of}
use Rattle.species.specs.Texts.{index_of}
use Rattle.manifest_read.specs.declared.manifest.Manifest.{Manifest}
use Rattle.manifest_read.specs.CollectedView.{name_at, rule_with_names}
use Rattle.manifest_read.specs.Manifest.{Content, numbered, manifest_with, manifest_by, manifest_of}
use Rattle.manifest_read.specs.Names.{is_name}
use Rattle.manifest_read.specs.Settings.{SettingValues, setting_values}
use Rattle.manifest_read.specs.Sound.{IsKnown, IsKnownRule}
use Rattle.manifest_write.specs.Canon.{canonical_text}
use Rattle.manifest_write.specs.Made.{is_plain_byte, is_plain_name, IsMade}
use Rattle.manifest_write.proofs.Contents.Fits.{FitsName, FitsRule}
use Rattle.manifest_write.proofs.Contents.Content.{FitsValues, FitsContent, read_settings, values-again}
use Rattle.manifest_write.proofs.Lines.Clean.{clean-low}
use Rattle.manifest_write.proofs.Again.Spelled.{spelled-again}

passes-at : (p : List ℕ → Bool) (xs : List (List ℕ)) (k : ℕ) (d : List ℕ) → list_all p xs ≡ true → k < length xs → p (get_or xs k d) ≡ true
passes-at p [] k d h lt = absurd (omega (arith, lt))
passes-at p (x ∷ xs) zero d h lt = (and_parts (p x) (list_all p xs) h).0
passes-at p (x ∷ xs) (suc k) d h lt = passes-at p xs k d (and_parts (p x) (list_all p xs) h).1 (omega (arith, lt))

-- The names

module _ (names : List (List ℕ)) (plain : list_all is_plain_name names ≡ true) where
  name-fits : (s : SpeciesId) → IsKnown (length names) s → FitsName (name_at names s)
  name-fits s lt =
      let p = and_parts (is_name (name_at names s)) (list_all is_plain_byte (name_at names s)) (passes-at is_plain_name names s.0 [] plain lt) in
      record { named = p.0; clean = clean-low (name_at names s) p.1 }

  cells-fit : (cells : List SpeciesId) → All (IsKnown (length names)) cells → AllByRecursion FitsName (map (name_at names) cells)
  cells-fit [] h = tt
  cells-fit (s ∷ cells) h = (name-fits s (All-head (IsKnown (length names)) s cells h), cells-fit cells (All-tail (IsKnown (length names)) s cells h))

  rule-fits : (r : Rule) → IsKnownRule (length names) r → IsReduced (rate_of r) → FitsRule (rule_with_names names r)
  rule-fits (One rate a c) h low = record { rate = low; names = (name-fits a h.0, (name-fits c h.1, tt)) }
  rule-fits (Two rate a b c d) h low = record { rate = low; names = (name-fits a h.0, (name-fits b h.1, (name-fits c h.2, (name-fits d h.3, tt)))) }

  rules-fit : (rules : List Rule) → All (IsKnownRule (length names)) rules → All (λ r. IsReduced (rate_of r)) rules → AllByRecursion FitsRule (map (rule_with_names names) rules)
  rules-fit [] h low = tt
  rules-fit (r ∷ rules) h low =
      (rule-fits r (All-head (IsKnownRule (length names)) r rules h) (All-head (λ r. IsReduced (rate_of r)) r rules low), rules-fit rules (All-tail (IsKnownRule (length names)) r rules h) (All-tail (λ r. IsReduced (rate_of r)) r rules low))

-- The numbers of the names

module _ (names : List (List ℕ)) (distinct : (k : ℕ) → k < length names → index_of names (name_at names (record { 0 = k })) ≡ k) where
  name-place : (s : SpeciesId) → IsKnown (length names) s → place_of names (name_at names s) ≡ s
  name-place s lt = ap (λ (n : ℕ). let v : SpeciesId = record { 0 = n } in v) (distinct s.0 lt)

  cells-back : (cells : List SpeciesId) → All (IsKnown (length names)) cells → map (place_of names) (map (name_at names) cells) ≡ cells
  cells-back [] h = refl
  cells-back (s ∷ cells) h =
      ap (λ x. x ∷ map (place_of names) (map (name_at names) cells)) (name-place s (All-head (IsKnown (length names)) s cells h)) ∙ ap (λ l. s ∷ l) (cells-back cells (All-tail (IsKnown (length names)) s cells h))

  rule-back : (r : Rule) → IsKnownRule (length names) r → numbered names (rule_with_names names r) ≡ r
  rule-back (One rate a c) h = ap (λ x. One rate x (place_of names (name_at names c))) (name-place a h.0) ∙ ap (One rate a) (name-place c h.1)
  rule-back (Two rate a b c d) h =
      let at : SpeciesId → SpeciesId = λ s. place_of names (name_at names s) in
      ap (λ x. Two rate x (at b) (at c) (at d)) (name-place a h.0) ∙ ap (λ x. Two rate a x (at c) (at d)) (name-place b h.1) ∙ ap (λ x. Two rate a b x (at d)) (name-place c h.2) ∙ ap (Two rate a b c) (name-place d h.3)

  rules-back : (rules : List Rule) → All (IsKnownRule (length names)) rules → map (numbered names) (map (rule_with_names names) rules) ≡ rules
  rules-back [] h = refl
  rules-back (r ∷ rules) h =
      ap (λ x. x ∷ map (numbered names) (map (rule_with_names names) rules)) (rule-back r (All-head (IsKnownRule (length names)) r rules h)) ∙ ap (λ l. r ∷ l) (rules-back rules (All-tail (IsKnownRule (length names)) r rules h))

-- The content

abbrev values_in : Manifest → SettingValues
values_in m = record { seed = m.seed; until = m.until; kind = m.lattice.kind; wrap = m.lattice.wrap; others = [] }

abbrev content_in : Manifest → Content
content_in m = record {
  settings = read_settings (values_in m);
  rules = map (rule_with_names m.names) m.rules;
  rows = m.lattice.rows;
  cols = m.lattice.cols;
  cells = map (name_at m.names) m.cells;
  names = [];
  colours = None;
}

values-fit : (m : Manifest) → IsMade m → FitsValues (values_in m)
values-fit m h = record { seed = h.seed; until = h.sound.until; others = tt; new = tt }

values-are : (m : Manifest) → IsMade m → setting_values (read_settings (values_in m)) ≡ values_in m
values-are m h = ap setting_values (sym (append-nil (read_settings (values_in m)))) ∙ values-again (values_in m) (values-fit m h)

content-fits : (m : Manifest) → IsMade m → FitsContent (content_in m)
content-fits m h = record {
  known = subst FitsValues (sym (values-are m h)) (values-fit m h);
  rules = rules-fit m.names h.names m.rules h.sound.rules h.rates;
  rule_count = omega (arith, length-map m.rules (rule_with_names m.names), h.sound.rule_count);
  cells = cells-fit m.names h.names m.cells h.sound.cells;
  cell_count = length-map m.cells (name_at m.names) ∙ h.sound.cell_count;
  site_count = omega (arith, length-map m.cells (name_at m.names), h.sound.cell_count, h.sound.size.at_most);
  rows = h.sound.size.rows_at_least;
  cols = h.sound.size.cols_at_least;
  names = subst (λ (names : List (List ℕ)). length names ≤ 4096) (sym h.seen) h.sound.name_count;
  colours = tt;
}

abbrev with_parts : Manifest → SettingValues → List (List ℕ) → List Rule → List SpeciesId → Manifest
with_parts m k names rules cells = record {
  seed = k.seed;
  until = k.until;
  lattice = record { kind = k.kind; rows = m.lattice.rows; cols = m.lattice.cols; wrap = k.wrap };
  others = k.others;
  names = names;
  rules = rules;
  cells = cells;
  colours = None;
}

without_colours : (m : Manifest) → IsMade m → with_parts m (values_in m) m.names m.rules m.cells ≡ m
without_colours m h =
    ap (λ others. record m { others = others; colours = None }) (sym h.others) ∙ ap (λ colours. record m { colours = colours }) (sym h.colours)

content-is : (m : Manifest) → IsMade m → manifest_by (content_in m) ≡ m
content-is m h =
    let rules = map (numbered m.names) (map (rule_with_names m.names) m.rules) in
    let cells = map (place_of m.names) (map (name_at m.names) m.cells) in
    ap (λ names. manifest_with names (content_in m) (setting_values (read_settings (values_in m)))) h.seen
    ∙ ap (λ k. with_parts m k m.names rules cells) (values-are m h)
    ∙ ap (λ x. with_parts m (values_in m) m.names x cells) (rules-back m.names h.distinct m.rules h.sound.rules)
    ∙ ap (with_parts m (values_in m) m.names m.rules) (cells-back m.names h.distinct m.cells h.sound.cells)
    ∙ without_colours m h

pub made-again : (m : Manifest) → IsMade m → manifest_of (canonical_text m) ≡ Ok m
made-again m h = subst (λ (x : Manifest). manifest_of (canonical_text x) ≡ Ok x) (content-is m h) (spelled-again (content_in m) (content-fits m h))
