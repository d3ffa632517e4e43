-- The manifest of a compiled circuit is read again from its text.
use Rattle.std.proofs.Common.{◌≡◌, ℕ, ◌*◌, ◌^◌, ◌<◌, ◌≤◌, inl, inr, List, [], ◌∷◌, ◌++◌, length, map, fold, Some, Bool, true, false, refl, sym, ap, ◌∙◌, subst, arith, get_or, ◌==◌, ◌&&◌, ◌||◌, if◌then◌else◌}
use Rattle.std.specs.Prelude.{nat_le, nat_lt}
use Rattle.std.specs.List.{All, list_all, list_any, flat_map, range_with_len, AllByRecursion}
use Rattle.std.specs.Str.{bytes_eq}
use Rattle.std.proofs.lemmas.Bool.{and_parts, eqb-true, cases_lt, leb-true, ltb-true, le-leb}
use Rattle.std.proofs.lemmas.List.Elements.{All-nil, All-cons}
use Rattle.std.proofs.lemmas.List.Sums.{fold-append}
use Rattle.std.proofs.lemmas.List.FromFn.{get_or-range_with_len, length-range_with_len}
use Rattle.std.proofs.lemmas.Option.{slice_get-get_or}
use Rattle.surf_kinds.specs.Rates.{IsReduced}
use Rattle.surf_kinds.specs.declared.rule.Rule.{Rule}
use Rattle.surf_kinds.specs.declared.rule.Rule.TheVariants.{One, Two}
use Rattle.surf_kinds.specs.declared.site.SpeciesId.{SpeciesId}
use Rattle.surf_kinds.proofs.Fractions.{whole_reduced}
use Rattle.lattice.specs.Channels.{rate_of}
use Rattle.species.specs.Names.{with_name}
use Rattle.species.specs.Texts.{index_of}
use Rattle.manifest_read.specs.CollectedView.{name_at, rule_with_names}
use Rattle.manifest_read.specs.Manifest.{first_seen, IsValid}
use Rattle.manifest_read.specs.Rules.{names_of_rule}
use Rattle.manifest_read.specs.Sound.{IsKnown, IsKnownRule}
use Rattle.manifest_write.specs.Canon.{canonical_text}
use Rattle.manifest_write.specs.Made.{is_plain_name, IsMade}
use Rattle.manifest_write.proofs.LawLemmas.{made-again}
use Rattle.crn_compile.specs.Species.{circuit_rules}
use Rattle.crn_compile.specs.Names.{is_inert, all_names, rule_names, names_for}
use Rattle.crn_compile.specs.Compiled.{manifest_on}
use Rattle.crn_compile.proofs.Tables.{is_rule, passes, count}
use Rattle.crn_compile.proofs.NameTests.{id, all_plain, rule_plain, is_in_rules, all_in_rules, rules_seen, all_seen, rule_places, all_places, rule_kept, first_kept, all_kept, inert_new}

-- a test over the first numbers, at one of them
at_number : (p : ℕ → Bool) (n k : ℕ) → list_all p (range_with_len 0 n) ≡ true → k < n → p k ≡ true
at_number p n k all lt =
    let e : get_or (range_with_len 0 n) k 0 ≡ k = get_or-range_with_len 0 n k 0 lt ∙ omega arith in
    let inside : k < length (range_with_len 0 n) = omega (arith, lt, length-range_with_len 0 n) in
    passes p (range_with_len 0 n) k k all (slice_get-get_or (range_with_len 0 n) k 0 inside ∙ ap (λ x. Some x) e)

-- Species

not_inert : (s : SpeciesId) → is_inert s ≡ false → s.0 < 55
not_inert s h = elim (cases_lt s.0 55) [
  | inl lt ↦ lt
  | inr le ↦ absurd (let e : true ≡ false = sym (le-leb 55 s.0 le) ∙ h in cc)
]

below_inert : (s : SpeciesId) → s.0 < 55 → is_inert s ≡ false
below_inert s lt = by (nat_le 55 s.0) refl
  where
    by : (b : Bool) → nat_le 55 s.0 ≡ b → b ≡ false
    by true e = absurd (let l : 55 ≤ s.0 = leb-true 55 s.0 e in omega (arith, l, lt))
    by false e = refl

neither : (a b : Bool) → (a || b) ≡ false → (a ≡ false) × (b ≡ false)
neither true b h = cc
neither false b h = (refl, h)

cells_known : (S : List SpeciesId) → AllByRecursion (λ s. s.0 < 56) S → (b : Bool) → list_any is_inert S ≡ b → All (IsKnown (length (if b then all_names else rule_names))) S
cells_known [] small b e = All-nil _
cells_known (s ∷ S) small true e = All-cons (IsKnown 56) s S small.0 (any_known S small.1)
  where
    any_known : (T : List SpeciesId) → AllByRecursion (λ s. s.0 < 56) T → All (IsKnown 56) T
    any_known [] all = All-nil (IsKnown 56)
    any_known (x ∷ T) all = All-cons (IsKnown 56) x T all.0 (any_known T all.1)
cells_known (s ∷ S) small false e = let n = neither (is_inert s) (list_any is_inert S) e in All-cons (IsKnown 55) s S (not_inert s n.0) (cells_known S small.1 false n.1)

-- Rules

rule_known : (r : Rule) (n : ℕ) → 55 ≤ n → is_in_rules r ≡ true → IsKnownRule n r
rule_known (One rate a c) n le h =
    let p = and_parts (nat_lt a.0 55) (nat_lt c.0 55) h in
    (omega (arith, ltb-true a.0 55 p.0, le), omega (arith, ltb-true c.0 55 p.1, le))
rule_known (Two rate a b c d) n le h =
    let p = and_parts (nat_lt a.0 55) (nat_lt b.0 55 && (nat_lt c.0 55 && nat_lt d.0 55)) h in
    let q = and_parts (nat_lt b.0 55) (nat_lt c.0 55 && nat_lt d.0 55) p.1 in
    let r = and_parts (nat_lt c.0 55) (nat_lt d.0 55) q.1 in
    (omega (arith, ltb-true a.0 55 p.0, le), omega (arith, ltb-true b.0 55 q.0, le), omega (arith, ltb-true c.0 55 r.0, le), omega (arith, ltb-true d.0 55 r.1, le))

rules_known : (n : ℕ) → 55 ≤ n → All (IsKnownRule n) circuit_rules
rules_known n le k r lt = rule_known (get_or circuit_rules k r) n le (passes is_in_rules circuit_rules k (get_or circuit_rules k r) all_in_rules (slice_get-get_or circuit_rules k r lt))

rates_reduced : All (λ r. IsReduced (rate_of r)) circuit_rules
rates_reduced k r lt =
    let f = is_rule k (get_or circuit_rules k r) (slice_get-get_or circuit_rules k r lt) in
    subst (λ q. IsReduced (rate_of q)) (sym f.is) (whole_reduced 1 (omega arith))

-- The names, as they come

kept : (names : List (List ℕ)) (name : List ℕ) → list_any (bytes_eq name) names ≡ true → with_name names name ≡ names
kept names name h = ap (λ b. if b then names else names ++ name ∷ []) h

after_all : (S : List SpeciesId) → AllByRecursion (λ s. s.0 < 56) S → fold with_name all_names (map (name_at all_names) S) ≡ all_names
after_all [] small = refl
after_all (s ∷ S) small =
    ap (λ names. fold with_name names (map (name_at all_names) S)) (kept all_names (name_at all_names s) (at_number (λ n. list_any (bytes_eq (name_at all_names (id n))) all_names) 56 s.0 all_kept small.0)) ∙ after_all S small.1

after_rules : (S : List SpeciesId) → AllByRecursion (λ s. s.0 < 56) S → fold with_name rule_names (map (name_at all_names) S) ≡ names_for S
after_rules [] small = refl
after_rules (s ∷ S) small = elim (cases_lt s.0 55) [
  | inl lt ↦
      let e : with_name rule_names (name_at all_names s) ≡ rule_names = kept rule_names (name_at all_names s) (at_number (λ n. list_any (bytes_eq (name_at all_names (id n))) rule_names) 55 s.0 first_kept lt) in
      ap (λ names. fold with_name names (map (name_at all_names) S)) e ∙ after_rules S small.1 ∙ ap (λ t. if t || list_any is_inert S then all_names else rule_names) (sym (below_inert s lt))
  | inr le ↦
      let same : s ≡ id 55 = ap id (let m = small.0 in omega (arith, le, m)) in
      let e : with_name rule_names (name_at all_names s) ≡ all_names = ap (λ x. with_name rule_names (name_at all_names x)) same ∙ inert_new in
      let b : is_inert s ≡ true = ap is_inert same in
      ap (λ names. fold with_name names (map (name_at all_names) S)) e ∙ after_all S small.1 ∙ ap (λ t. if t || list_any is_inert S then all_names else rule_names) (sym b)
]

-- where no inert species stands
after_none : (S : List SpeciesId) → list_any is_inert S ≡ false → fold with_name rule_names (map (name_at rule_names) S) ≡ rule_names
after_none [] none = refl
after_none (s ∷ S) none =
    let n = neither (is_inert s) (list_any is_inert S) none in
    ap (λ names. fold with_name names (map (name_at rule_names) S)) (kept rule_names (name_at rule_names s) (at_number (λ n. list_any (bytes_eq (name_at rule_names (id n))) rule_names) 55 s.0 rule_kept (not_inert s n.0))) ∙ after_none S n.1

seen_with : (names rest : List (List ℕ)) (S : List SpeciesId) → fold with_name [] (flat_map names_of_rule (map (rule_with_names names) circuit_rules)) ≡ rule_names → fold with_name rule_names (map (name_at names) S) ≡ rest
    → first_seen (flat_map names_of_rule (map (rule_with_names names) circuit_rules) ++ map (name_at names) S) ≡ rest
seen_with names rest S first then_cells =
    fold-append with_name [] (flat_map names_of_rule (map (rule_with_names names) circuit_rules)) (map (name_at names) S) ∙ ap (λ x. fold with_name x (map (name_at names) S)) first ∙ then_cells

seen : (S : List SpeciesId) → AllByRecursion (λ s. s.0 < 56) S → (b : Bool) → list_any is_inert S ≡ b
    → first_seen (flat_map names_of_rule (map (rule_with_names (if b then all_names else rule_names)) circuit_rules) ++ map (name_at (if b then all_names else rule_names)) S) ≡ (if b then all_names else rule_names)
seen S small true e = seen_with all_names all_names S all_seen (after_rules S small ∙ ap (λ t. if t then all_names else rule_names) e)
seen S small false e = seen_with rule_names rule_names S rules_seen (after_none S e)

-- The manifest

names_few : (b : Bool) → length (if b then all_names else rule_names) ≤ 4096
names_few true = omega arith
names_few false = omega arith

names_enough : (b : Bool) → 55 ≤ length (if b then all_names else rule_names)
names_enough true = omega arith
names_enough false = omega arith

names_plain : (b : Bool) → list_all is_plain_name (if b then all_names else rule_names) ≡ true
names_plain true = all_plain
names_plain false = rule_plain

distinct : (b : Bool) (k : ℕ) → k < length (if b then all_names else rule_names) → index_of (if b then all_names else rule_names) (name_at (if b then all_names else rule_names) (id k)) ≡ k
distinct true k lt = eqb-true _ k (at_number (λ n. index_of all_names (name_at all_names (id n)) == n) 56 k all_places lt)
distinct false k lt = eqb-true _ k (at_number (λ n. index_of rule_names (name_at rule_names (id n)) == n) 55 k rule_places lt)

is_made : (rows cols : ℕ) (S : List SpeciesId) → AllByRecursion (λ s. s.0 < 56) S → length S ≡ rows * cols → rows * cols ≤ 2 ^ 20 → 1 ≤ rows → 1 ≤ cols → IsMade (manifest_on rows cols S)
is_made rows cols S small size few some_rows some_cols =
    let b = list_any is_inert S in
    record {
      seed = omega arith;
      sound = record {
        size = record { rows_at_least = some_rows; cols_at_least = some_cols; at_most = few };
        cell_count = size;
        cells = cells_known S small b refl;
        rules = rules_known (length (names_for S)) (names_enough b);
        rule_count = omega (arith, count);
        name_count = names_few b;
        until = omega arith;
      };
      others = refl;
      colours = refl;
      rates = rates_reduced;
      names = names_plain b;
      distinct = distinct b;
      seen = seen S small b refl;
    }

-- the text of that manifest is read as that manifest
pub valid : (rows cols : ℕ) (S : List SpeciesId) → AllByRecursion (λ s. s.0 < 56) S → length S ≡ rows * cols → rows * cols ≤ 2 ^ 20 → 1 ≤ rows → 1 ≤ cols → IsValid (manifest_on rows cols S)
valid rows cols S small size few some_rows some_cols = (canonical_text (manifest_on rows cols S), made-again (manifest_on rows cols S) (is_made rows cols S small size few some_rows some_cols))
