-- A generated manifest is read again from its text.
use Rattle.std.proofs.Common.{◌≡◌, ℕ, zero, suc, ◌+◌, ◌*◌, ◌/◌, ◌%◌, ◌^◌, ◌<◌, ◌≤◌, ◌==◌, List, [], ◌∷◌, ◌++◌, map, fold, Bool, true, false, refl, ap, ◌∙◌, arith, if◌then◌else◌, mul-le-mul_left}
use Rattle.std.specs.List.{All, list_any, range_with_len}
use Rattle.std.specs.Str.{bytes_eq}
use Rattle.std.proofs.lemmas.List.Elements.{All-nil, All-cons}
use Rattle.std.proofs.lemmas.List.FromFn.{length-map-range_with_len}
use Rattle.surf_kinds.specs.Rates.{IsReduced}
use Rattle.surf_kinds.specs.declared.site.SpeciesId.{SpeciesId}
use Rattle.surf_kinds.proofs.Fractions.{one_over_reduced}
use Rattle.lattice.specs.Channels.{rate_of}
use Rattle.species.specs.Names.{with_name}
use Rattle.species.specs.Texts.{index_of}
use Rattle.manifest_read.specs.CollectedView.{name_at}
use Rattle.manifest_read.specs.Manifest.{IsValid}
use Rattle.manifest_read.specs.Sound.{IsKnown, IsKnownRule}
use Rattle.manifest_write.specs.Canon.{canonical_text}
use Rattle.manifest_write.specs.Made.{IsMade}
use Rattle.manifest_write.proofs.LawLemmas.{made-again}
use Rattle.workload.specs.Generated.{side_of, A, O, B, C, species_names, generated_rules, species_by, species_at, manifest_on, generated_manifest}

-- Each species is one of four

by_test : (s : SpeciesId) (b : Bool) (t : SpeciesId) → s.0 < 4 → t.0 < 4 → (if b then s else t).0 < 4
by_test s true t hs ht = hs
by_test s false t hs ht = ht

few_species : (k : ℕ) → (species_by k).0 < 4
few_species k = by_test A (k == 0) _ (omega arith) (by_test B (k == 1) _ (omega arith) (by_test C (k == 2) O (omega arith) (omega arith)))

cells_known : (n side : ℕ) (sites : List ℕ) → All (IsKnown 4) (map (species_at n side) sites)
cells_known n side [] = All-nil (IsKnown 4)
cells_known n side (k ∷ sites) = All-cons (IsKnown 4) (species_at n side k) (map (species_at n side) sites) (few_species ((7 * (k / side) + 13 * (k % side) + n) % 5)) (cells_known n side sites)

rules_known : All (IsKnownRule 4) generated_rules
rules_known zero r lt = (omega arith, omega arith, omega arith, omega arith)
rules_known (suc zero) r lt = (omega arith, omega arith, omega arith, omega arith)
rules_known (suc (suc zero)) r lt = (omega arith, omega arith, omega arith, omega arith)
rules_known (suc (suc (suc zero))) r lt = (omega arith, omega arith)
rules_known (suc (suc (suc (suc k)))) r lt = absurd (omega (arith, lt))

rates_reduced : All (λ r. IsReduced (rate_of r)) generated_rules
rates_reduced zero r lt = one_over_reduced 1 (omega arith) (omega arith)
rates_reduced (suc zero) r lt = one_over_reduced 1 (omega arith) (omega arith)
rates_reduced (suc (suc zero)) r lt = one_over_reduced 2 (omega arith) (omega arith)
rates_reduced (suc (suc (suc zero))) r lt = one_over_reduced 4 (omega arith) (omega arith)
rates_reduced (suc (suc (suc (suc k)))) r lt = absurd (omega (arith, lt))

-- Their names

distinct : (k : ℕ) → k < 4 → index_of species_names (name_at species_names (record { 0 = k })) ≡ k
distinct zero lt = refl
distinct (suc zero) lt = refl
distinct (suc (suc zero)) lt = refl
distinct (suc (suc (suc zero))) lt = refl
distinct (suc (suc (suc (suc k)))) lt = absurd (omega (arith, lt))

listed : (k : ℕ) → k < 4 → list_any (bytes_eq (name_at species_names (record { 0 = k }))) species_names ≡ true
listed zero lt = refl
listed (suc zero) lt = refl
listed (suc (suc zero)) lt = refl
listed (suc (suc (suc zero))) lt = refl
listed (suc (suc (suc (suc k)))) lt = absurd (omega (arith, lt))

cells_seen : (n side : ℕ) (sites : List ℕ) → fold with_name species_names (map (name_at species_names) (map (species_at n side) sites)) ≡ species_names
cells_seen n side [] = refl
cells_seen n side (k ∷ sites) =
    let s : SpeciesId = species_at n side k in
    ap (λ b. fold with_name (if b then species_names else species_names ++ name_at species_names s ∷ []) (map (name_at species_names) (map (species_at n side) sites))) (listed s.0 (few_species ((7 * (k / side) + 13 * (k % side) + n) % 5)))
    ∙ cells_seen n side sites

area : (side : ℕ) → side ≤ 64 → side * side ≤ 2 ^ 20
area side h =
    let one : side * side ≤ side * 64 = mul-le-mul_left side h in
    omega (arith, one, h)

is_made : (n side : ℕ) → n ≤ 10 ^ 9 → 1 ≤ side → side ≤ 64 → IsMade (manifest_on n side)
is_made n side small some few = record {
  seed = omega (arith, small);
  sound = record {
    size = record { rows_at_least = some; cols_at_least = some; at_most = area side few };
    cell_count = length-map-range_with_len (species_at n side) 0 (side * side);
    cells = cells_known n side (range_with_len 0 (side * side));
    rules = rules_known;
    rule_count = omega arith;
    name_count = omega arith;
    until = omega arith;
  };
  others = refl;
  colours = refl;
  rates = rates_reduced;
  names = refl;
  distinct = distinct;
  seen = cells_seen n side (range_with_len 0 (side * side));
}

-- the text of that manifest is read as that manifest
pub valid : (n : ℕ) → n ≤ 10 ^ 9 → IsValid (generated_manifest n)
valid n small = (canonical_text (generated_manifest n), made-again (generated_manifest n) (is_made n (side_of n) small (omega arith) (omega arith)))
