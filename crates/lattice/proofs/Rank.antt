-- How many of a site's places are numbered at most p: at most 7, and one more for each that is passed.
use Rattle.std.proofs.Common.{◌≡◌, ℕ, ◌+◌, ◌<◌, ◌≤◌, Option, Some, None, ◌⊎◌, inl, inr, ap, ◌∙◌, arith, if◌then◌else◌}
use Rattle.std.specs.Prelude.{nat_le}
use Rattle.std.proofs.lemmas.Option.{none-some}
use Rattle.std.proofs.lemmas.Bool.Decides.{nat_tests}
use Rattle.surf_kinds.specs.declared.site.SiteId.{SiteId}
use Rattle.surf_kinds.specs.declared.place.Step.{Step}
use Rattle.surf_kinds.specs.declared.place.Step.TheVariants.{Alone, East, South, SouthWest}
use Rattle.surf_kinds.specs.Steps.{number_of_place}
use Rattle.lattice.specs.Shape.{Shape}
use Rattle.lattice.specs.Places.{neighbour, behind, HasSite}
use Rattle.lattice.proofs.Slots.{Way, way_of}

-- 1 where x is at most p
upto : ℕ → ℕ → ℕ
upto x p = if nat_le x p then 1 else 0

upto_most : (x p : ℕ) → upto x p ≤ 1
unfolding upto
upto_most x p = grind (arith, nat_tests)

upto_rises : (x p q : ℕ) → p < q → upto x p ≤ upto x q
unfolding upto
upto_rises x p q h = grind (arith, nat_tests)

upto_before : (x p : ℕ) → p < x → upto x p ≡ 0
unfolding upto
upto_before x p h = grind (arith, nat_tests)

upto_here : (x : ℕ) → upto x x ≡ 1
unfolding upto
upto_here x = grind (arith, nat_tests)

-- the same of the pair that a step from a site makes
pair_upto : Option SiteId → Step → ℕ → ℕ
pair_upto None d p = 0
pair_upto (Some n) d p = upto (number_of_place n.0 d) p

pair_most : (o : Option SiteId) (d : Step) (p : ℕ) → pair_upto o d p ≤ 1
unfolding pair_upto
pair_most None d p = omega arith
pair_most (Some n) d p = upto_most (number_of_place n.0 d) p

pair_rises : (o : Option SiteId) (d : Step) (p q : ℕ) → p < q → pair_upto o d p ≤ pair_upto o d q
unfolding pair_upto
pair_rises None d p q h = omega arith
pair_rises (Some n) d p q h = upto_rises (number_of_place n.0 d) p q h

pair_here : (o : Option SiteId) (n : SiteId) (d : Step) (q : ℕ) → o ≡ Some n → q ≡ number_of_place n.0 d → pair_upto o d q ≡ 1
unfolding pair_upto
pair_here o n d q e h = ap (λ p. pair_upto p d q) e ∙ ap (upto (number_of_place n.0 d)) h ∙ upto_here (number_of_place n.0 d)

pair_before : (o : Option SiteId) (n : SiteId) (d : Step) (p q : ℕ) → o ≡ Some n → q ≡ number_of_place n.0 d → p < q → pair_upto o d p ≡ 0
unfolding pair_upto
pair_before o n d p q e h less = ap (λ x. pair_upto x d p) e ∙ upto_before (number_of_place n.0 d) p (omega arith)

-- of a site's own number, its three pairs, and the three pairs that lead to it from w, n and ne
count : ℕ → Option SiteId → Option SiteId → Option SiteId → ℕ → ℕ
count s w n ne p =
    upto (number_of_place s Alone) p + upto (number_of_place s East) p + upto (number_of_place s South) p + upto (number_of_place s SouthWest) p
    + pair_upto w East p + pair_upto n South p + pair_upto ne SouthWest p

count_most : (s : ℕ) (w n ne : Option SiteId) (p : ℕ) → count s w n ne p ≤ 7
unfolding count
count_most s w n ne p =
    omega (arith, upto_most (number_of_place s Alone) p, upto_most (number_of_place s East) p, upto_most (number_of_place s South) p, upto_most (number_of_place s SouthWest) p, pair_most w East p, pair_most n South p, pair_most ne SouthWest p)

-- one of the seven is the place q: none counts less at q than at p, and that one counts more
record More (s : ℕ) (w n ne : Option SiteId) (p q : ℕ) : Type 0 where
  alone : upto (number_of_place s Alone) p ≤ upto (number_of_place s Alone) q
  own_1 : upto (number_of_place s East) p ≤ upto (number_of_place s East) q
  own_2 : upto (number_of_place s South) p ≤ upto (number_of_place s South) q
  own_3 : upto (number_of_place s SouthWest) p ≤ upto (number_of_place s SouthWest) q
  back_1 : pair_upto w East p ≤ pair_upto w East q
  back_2 : pair_upto n South p ≤ pair_upto n South q
  back_3 : pair_upto ne SouthWest p ≤ pair_upto ne SouthWest q

more : (s : ℕ) (w n ne : Option SiteId) (p q : ℕ) → p < q → More s w n ne p q
more s w n ne p q h = record {
  alone = upto_rises (number_of_place s Alone) p q h;
  own_1 = upto_rises (number_of_place s East) p q h;
  own_2 = upto_rises (number_of_place s South) p q h;
  own_3 = upto_rises (number_of_place s SouthWest) p q h;
  back_1 = pair_rises w East p q h;
  back_2 = pair_rises n South p q h;
  back_3 = pair_rises ne SouthWest p q h;
}

count_rises : (s : ℕ) (w n ne : Option SiteId) (p q : ℕ) → p < q → count s w n ne p ≤ count s w n ne q
unfolding count
count_rises s w n ne p q h = let all = more s w n ne p q h in omega arith

own_here : (s : ℕ) (d : Step) (q : ℕ) → q ≡ number_of_place s d → upto (number_of_place s d) q ≡ 1
own_here s d q is = ap (upto (number_of_place s d)) is ∙ upto_here (number_of_place s d)

own_before : (s : ℕ) (d : Step) (p q : ℕ) → q ≡ number_of_place s d → p < q → upto (number_of_place s d) p ≡ 0
own_before s d p q is h = upto_before (number_of_place s d) p (omega arith)

-- the place is one of the seven
abbrev IsSlot : ℕ → Option SiteId → Option SiteId → Option SiteId → ℕ → Type 0
IsSlot s w n ne q =
    (q ≡ number_of_place s Alone) ⊎ ((q ≡ number_of_place s East) ⊎ ((q ≡ number_of_place s South) ⊎ ((q ≡ number_of_place s SouthWest)
    ⊎ (((m : SiteId) × (w ≡ Some m) × (q ≡ number_of_place m.0 East)) ⊎ (((m : SiteId) × (n ≡ Some m) × (q ≡ number_of_place m.0 South)) ⊎ ((m : SiteId) × (ne ≡ Some m) × (q ≡ number_of_place m.0 SouthWest)))))))

count_here : (s : ℕ) (w n ne : Option SiteId) (q : ℕ) → IsSlot s w n ne q → 1 ≤ count s w n ne q
unfolding count
count_here s w n ne q (inl h) = omega (arith, ap (upto (number_of_place s Alone)) h ∙ upto_here (number_of_place s Alone))
count_here s w n ne q (inr (inl h)) = omega (arith, own_here s East q h)
count_here s w n ne q (inr (inr (inl h))) = omega (arith, own_here s South q h)
count_here s w n ne q (inr (inr (inr (inl h)))) = omega (arith, own_here s SouthWest q h)
count_here s w n ne q (inr (inr (inr (inr (inl h))))) = omega (arith, pair_here w h.0 East q h.1 h.2)
count_here s w n ne q (inr (inr (inr (inr (inr (inl h)))))) = omega (arith, pair_here n h.0 South q h.1 h.2)
count_here s w n ne q (inr (inr (inr (inr (inr (inr h)))))) = omega (arith, pair_here ne h.0 SouthWest q h.1 h.2)

count_more : (s : ℕ) (w n ne : Option SiteId) (p q : ℕ) → More s w n ne p q → p < q → IsSlot s w n ne q → count s w n ne p + 1 ≤ count s w n ne q
unfolding count
count_more s w n ne p q all less (inl h) = omega (arith, ap (upto (number_of_place s Alone)) h ∙ upto_here (number_of_place s Alone), upto_before (number_of_place s Alone) p (omega arith))
count_more s w n ne p q all less (inr (inl h)) = omega (arith, own_here s East q h, own_before s East p q h less)
count_more s w n ne p q all less (inr (inr (inl h))) = omega (arith, own_here s South q h, own_before s South p q h less)
count_more s w n ne p q all less (inr (inr (inr (inl h)))) = omega (arith, own_here s SouthWest q h, own_before s SouthWest p q h less)
count_more s w n ne p q all less (inr (inr (inr (inr (inl h))))) = omega (arith, pair_here w h.0 East q h.1 h.2, pair_before w h.0 East p q h.1 h.2 less)
count_more s w n ne p q all less (inr (inr (inr (inr (inr (inl h)))))) = omega (arith, pair_here n h.0 South q h.1 h.2, pair_before n h.0 South p q h.1 h.2 less)
count_more s w n ne p q all less (inr (inr (inr (inr (inr (inr h)))))) = omega (arith, pair_here ne h.0 SouthWest q h.1 h.2, pair_before ne h.0 SouthWest p q h.1 h.2 less)

own_slot : (l : Shape) (s q : ℕ) (d : Step) (m : SiteId) → q ≡ number_of_place s d → neighbour l s d ≡ Some m → (w n ne : Option SiteId) → IsSlot s w n ne q
own_slot l s q Alone m is at w n ne = absurd (none-some m at)
own_slot l s q East m is at w n ne = inr (inl is)
own_slot l s q South m is at w n ne = inr (inr (inl is))
own_slot l s q SouthWest m is at w n ne = inr (inr (inr (inl is)))

back_slot : (l : Shape) (s q : ℕ) (d : Step) (m : SiteId) → q ≡ number_of_place m.0 d → behind l s d ≡ Some m → IsSlot s (behind l s East) (behind l s South) (behind l s SouthWest) q
back_slot l s q Alone m is at = absurd (none-some m at)
back_slot l s q East m is at = inr (inr (inr (inr (inl (m, at, is)))))
back_slot l s q South m is at = inr (inr (inr (inr (inr (inl (m, at, is))))))
back_slot l s q SouthWest m is at = inr (inr (inr (inr (inr (inr (m, at, is))))))

slot_of : (l : Shape) (s q : ℕ) → Way l s q → IsSlot s (behind l s East) (behind l s South) (behind l s SouthWest) q
slot_of l s q (inl alone) = inl alone
slot_of l s q (inr (inl p)) = own_slot l s q p.0 p.1 p.2 p.3 (behind l s East) (behind l s South) (behind l s SouthWest)
slot_of l s q (inr (inr p)) = back_slot l s q p.0 p.1 p.2 p.3

-- how many of the site's places are numbered at most p
pub rank : Shape → ℕ → ℕ → ℕ
rank l s p = count s (behind l s East) (behind l s South) (behind l s SouthWest) p

pub rank_most : (l : Shape) (s p : ℕ) → rank l s p ≤ 7
unfolding rank
rank_most l s p = count_most s (behind l s East) (behind l s South) (behind l s SouthWest) p

pub rank_rises : (l : Shape) (s p q : ℕ) → p < q → rank l s p ≤ rank l s q
unfolding rank
rank_rises l s p q h = count_rises s (behind l s East) (behind l s South) (behind l s SouthWest) p q h

-- a place of the site is counted
pub rank_here : (l : Shape) (s q : ℕ) → HasSite l q s → 1 ≤ rank l s q
unfolding rank
rank_here l s q h = count_here s (behind l s East) (behind l s South) (behind l s SouthWest) q (slot_of l s q (way_of l s q h))

-- and is not counted before
pub rank_more : (l : Shape) (s p q : ℕ) → HasSite l q s → p < q → rank l s p + 1 ≤ rank l s q
unfolding rank
rank_more l s p q h less =
    count_more s (behind l s East) (behind l s South) (behind l s SouthWest) p q (more s (behind l s East) (behind l s South) (behind l s SouthWest) p q less) less (slot_of l s q (way_of l s q h))
