-- The table of the outcomes that workers have found.
use Rattle.std.proofs.Common.{◌≡◌, ℕ, ◌+◌, ◌<◌, List, [], ◌∷◌, ◌++◌, length, map, set, get_or, Option, Some, None, sym, ap, ◌∙◌, subst, arith, inl, inr}
use Rattle.std.specs.Prelude.{All, IfSome}
use Rattle.std.specs.List.{range_with_len}
use Rattle.std.proofs.lemmas.List.{get_or-set_same, get_or-set_other, length-set}
use Rattle.std.proofs.lemmas.List.FromFn.{map-range_with_len_more}
use Rattle.std.proofs.lemmas.Bool.{cases_eq}
use Rattle.manifest_read.specs.declared.manifest.Manifest.{Manifest}
use Rattle.ensemble.specs.declared.outcome.EnsembleSettings.{EnsembleSettings}
use Rattle.ensemble.specs.declared.outcome.Outcome.{Outcome}
use Rattle.ensemble.specs.Outcomes.{nth_outcome}
use Rattle.ensemble.specs.Running.{IsTable}

module _ (m : Manifest) (s : EnsembleSettings) where
  -- the outcome is that of a place's seed, where there is one
  abbrev pub IsRight : ℕ → Option Outcome → Type 0
  IsRight i place = IfSome place (λ o. o ≡ nth_outcome m s i)

  -- a table without outcomes
  pub empty_table : (table : List (Option Outcome)) → length table ≡ s.seeds → All (λ place. place ≡ None) table → IsTable m s table
  empty_table table long none = record { long = long; right = λ i d inside. subst (IsRight i) (sym (none i d inside)) tt }

  -- another place in a table
  pub table_set : (table : List (Option Outcome)) (i : ℕ) (place : Option Outcome) → IsTable m s table → IsRight i place → IsTable m s (set table i place)
  table_set table i place t is = record {
    long = length-set table i place ∙ t.long;
    right = λ j d inside.
        let there : j < length table = omega (arith, inside, length-set table i place) in
        elim (cases_eq j i) [
          | inl same ↦
              let here : i < length table = omega (arith, there, same) in
              subst (λ (k : ℕ). IsRight k (get_or (set table i place) k d)) (sym same) (subst (IsRight i) (sym (get_or-set_same table i place d here)) is)
          | inr other ↦ subst (IsRight j) (sym (get_or-set_other table i j place d other)) (t.right j d there)
        ];
  }

  -- one outcome more, in order
  pub one_outcome_more : (os new : List Outcome) (i : ℕ) (o : Outcome) → os ≡ map (nth_outcome m s) (range_with_len 0 i) → o ≡ nth_outcome m s i → new ≡ os ++ o ∷ [] → new ≡ map (nth_outcome m s) (range_with_len 0 (i + 1))
  one_outcome_more os new i o is same more =
      more ∙ (ap (λ x. x ++ o ∷ []) is ∙ (ap (λ x. map (nth_outcome m s) (range_with_len 0 i) ++ x ∷ []) same ∙ sym (map-range_with_len_more (nth_outcome m s) 0 i i (omega arith))))

  -- what stands at a place of a table
  pub stands : (table : List (Option Outcome)) (i : ℕ) (here taken : Option Outcome) (o : Outcome) → IsTable m s table → i < length table → here ≡ get_or table i here → taken ≡ here → taken ≡ Some o → o ≡ nth_outcome m s i
  stands table i here taken o t inside at is some = subst (IsRight i) (sym at ∙ (sym is ∙ some)) (t.right i here inside)
