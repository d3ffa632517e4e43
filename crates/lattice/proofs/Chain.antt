-- A list of places that grows by one pair after the other.
use Rattle.std.proofs.Common.{◌≡◌, ◌≢◌, ℕ, List, [], ◌∷◌, Option, Some, None, Bool, true, false, ◌==◌, ◌⊎◌, inl, inr, ◌↔◌, refl, sym, ◌∙◌, subst, arith}
use Rattle.std.specs.Prelude.{⊤}
use Rattle.std.proofs.lemmas.Bool.Decides.{eqb_tells}
use Rattle.surf_kinds.specs.declared.site.SiteId.{SiteId}
use Rattle.surf_kinds.specs.declared.place.Place.{Place}
use Rattle.surf_kinds.specs.declared.place.Step.{Step}
use Rattle.surf_kinds.specs.Steps.{step_number, number_of_place}
use Rattle.surf_kinds.proofs.Steps.{same_parts}
use Rattle.lattice.specs.Rising.{IsListed, IsPairOf}

-- a site, where there is one, and a step
pub record Pair : Type 0 where
  pub site : Option SiteId
  pub step : Step

-- the number is that of one of these pairs, the last of which stands first
abbrev pub IsOneOf : List Pair → ℕ → Type 0
IsOneOf [] q = ⊥
IsOneOf (x ∷ xs) q = IsOneOf xs q ⊎ IsPairOf x.site x.step q

abbrev pub Differ : Option SiteId → Option SiteId → Type 0
Differ o p = (n m : SiteId) → o ≡ Some n → p ≡ Some m → n.0 ≢ m.0

abbrev pub When : Bool → Type 0 → Type 0
When true p = p
When false p = ⊤

-- none of the pairs has the step and the site
abbrev pub HasNot : List Pair → Option SiteId → Step → Type 0
HasNot [] o step = ⊤
HasNot (x ∷ xs) o step = HasNot xs o step × When (step_number x.step == step_number step) (Differ x.site o)

pub pair_at : (o : Option SiteId) (step : Step) (q : ℕ) → IsPairOf o step q → (n : SiteId) × (o ≡ Some n) × (q ≡ number_of_place n.0 step)
pair_at None step q h = absurd h
pair_at (Some n) step q h = (n, refl, h)

pub is_pair : (o : Option SiteId) (step : Step) (q : ℕ) (n : SiteId) → o ≡ Some n → q ≡ number_of_place n.0 step → IsPairOf o step q
is_pair o step q n e h = subst (λ p. IsPairOf p step q) (sym e) h

apart : (o p : Option SiteId) (d e : Step) (q : ℕ) → When (step_number d == step_number e) (Differ o p) → IsPairOf o d q → IsPairOf p e q → ⊥
apart o p d e q w a b =
    let x = pair_at o d q a in
    let y = pair_at p e q b in
    let parts = same_parts x.0.0 y.0.0 d e (sym x.2 ∙ y.2) in
    elim (eqb_tells (step_number d) (step_number e)) [
      | inl same ↦ subst (λ t. When t (Differ o p)) same.0 w x.0 y.0 x.1 y.1 parts.0
      | inr other ↦ other.1 parts.1
    ]

absent_from : (xs : List Pair) (o : Option SiteId) (step : Step) (q : ℕ) → HasNot xs o step → IsPairOf o step q → IsOneOf xs q → ⊥
absent_from [] o step q n p i = absurd i
absent_from (x ∷ xs) o step q n p (inl i) = absent_from xs o step q n.0 p i
absent_from (x ∷ xs) o step q n p (inr i) = apart x.site o x.step step q n.1 i p

-- a list, given by what is in it, that has these pairs
pub record Has (listed : ℕ → Type 0) (xs : List Pair) : Type 0 where
  pub are : (q : ℕ) → listed q ↔ IsOneOf xs q

pub none_yet : (list : List Place) (count : ℕ) → count ≡ 0 → Has (IsListed list count) []
none_yet list count h = record { are = λ q. (λ i. absurd (omega (arith, i.1, h)), λ i. absurd i) }

pub grown : (before after : ℕ → Type 0) (xs : List Pair) (o : Option SiteId) (step : Step) → Has before xs → ((q : ℕ) → after q ↔ (before q ⊎ IsPairOf o step q)) → Has after (record { site = o; step = step } ∷ xs)
grown before after xs o step h more = record {
  are = λ q. (
    λ a. elim ((more q).0 a) [ inl b ↦ inl ((h.are q).0 b) | inr p ↦ inr p ],
    λ i. (more q).1 (elim i [ inl b ↦ inl ((h.are q).1 b) | inr p ↦ inr p ]),
  );
}

pub absent : (listed : ℕ → Type 0) (xs : List Pair) (o : Option SiteId) (step : Step) → Has listed xs → HasNot xs o step → (q : ℕ) → IsPairOf o step q → listed q → ⊥
absent listed xs o step h n q p a = absent_from xs o step q n p ((h.are q).0 a)
