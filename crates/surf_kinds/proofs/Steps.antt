-- A place's number put together and taken apart.
use Rattle.std.proofs.Common.{◌≡◌, ℕ, ◌%◌, ◌<◌, ◌↔◌, Some, refl, ap, ◌∙◌, arith}
use Rattle.std.proofs.lemmas.Bool.Decides.{nat_tests}
use Rattle.surf_kinds.specs.declared.place.Step.{Step}
use Rattle.surf_kinds.specs.declared.place.Step.TheVariants.{Alone, East, South, SouthWest}
use Rattle.surf_kinds.specs.Steps.{site_of_place, step_number, step_by, step_of_place, number_of_place, end_of_places}

step_few : (d : Step) → step_number d < 8
step_few Alone = omega arith
step_few East = omega arith
step_few South = omega arith
step_few SouthWest = omega arith

numbered : (d : Step) → step_by (step_number d) ≡ Some d
numbered Alone = refl
numbered East = refl
numbered South = refl
numbered SouthWest = refl

number_is : (k : ℕ) (d : Step) → step_by k ≡ Some d → k ≡ step_number d
number_is k Alone h = grind (arith, nat_tests)
number_is k East h = grind (arith, nat_tests)
number_is k South h = grind (arith, nat_tests)
number_is k SouthWest h = grind (arith, nat_tests)

pub site_of_number : (site : ℕ) (d : Step) → site_of_place (number_of_place site d) ≡ site
site_of_number site d = omega (arith, step_few d)

pub step_of_number : (site : ℕ) (d : Step) → step_of_place (number_of_place site d) ≡ Some d
step_of_number site d = let rest : number_of_place site d % 8 ≡ step_number d = omega (arith, step_few d) in ap step_by rest ∙ numbered d

pub number_of_parts : (place : ℕ) (d : Step) → step_of_place place ≡ Some d → place ≡ number_of_place (site_of_place place) d
number_of_parts place d h = let rest = number_is (place % 8) d h in omega (arith, rest)

-- equal numbers have equal parts
pub same_parts : (s t : ℕ) (d e : Step) → number_of_place s d ≡ number_of_place t e → (s ≡ t) × (step_number d ≡ step_number e)
same_parts s t d e h = (omega (arith, h, step_few d, step_few e), omega (arith, h, step_few d, step_few e))

-- the sites below a number are those of the places below that number's end
pub below_end : (place sites : ℕ) → (site_of_place place < sites) ↔ (place < end_of_places sites)
below_end place sites = (λ h. omega (arith, h), λ h. omega (arith, h))
