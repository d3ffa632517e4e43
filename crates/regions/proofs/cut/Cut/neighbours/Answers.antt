use Rattle.std.proofs.Common.{◌≡◌, ◌≢◌, ◌⊎◌, inl, inr, ℕ, Option, Some, None, ap}
use Rattle.std.proofs.lemmas.Bool.{cases_eq}
use Rattle.std.proofs.lemmas.Option.{none-some, same_Some}
use Rattle.regions.proofs.Listing.{listed}
use Rattle.regions.proofs.cut.Cut.neighbours.Goals as goal

dec : (o : Option ℕ) (r : ℕ) → (o ≡ Some r) ⊎ (o ≢ Some r)
dec None r = inr (λ e. none-some r e)
dec (Some k) r = elim (cases_eq k r) [ inl e ↦ inl (ap (λ n. Some n) e) | inr n ↦ inr (λ e. n (same_Some k r e)) ]

pub returns : goal.returns
returns c =
    listed c.args.self.now c.args.region c.region_before.result c.region_after.result c.other-first.result c.other-second.result c.unless.result c.region_before.ensures c.region_after.ensures c.other-first.ensures c.other-second.ensures c.unless.ensures (dec c.other-first.result)
