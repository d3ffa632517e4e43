-- What a rewriting leaves at each site.
use Rattle.std.proofs.Common.{◌≡◌, ◌≢◌, ℕ, zero, suc, ◌-◌, ◌<◌, ◌^◌, List, [], ◌∷◌, length, Option, Some, None, inl, inr, refl, sym, ap, ◌∙◌, subst, arith, set, get_or}
use Rattle.std.specs.Prelude.{slice_get, unwrap_or, IfSome, All}
use Rattle.std.proofs.lemmas.Option.{slice_get_within, slice_get-get_or, get_or_from_slice_get}
use Rattle.std.proofs.lemmas.Bool.Decides.{eqb_tells}
use Rattle.surf_kinds.specs.declared.site.SiteState.{SiteState}
use Rattle.surf_kinds.specs.declared.site.SpeciesId.{SpeciesId}
use Rattle.std.proofs.lemmas.List.{length-set}
use Rattle.surf_kinds.specs.declared.rule.Rule.{Rule}
use Rattle.surf_kinds.specs.declared.site.Sites.{Sites}
use Rattle.surf_kinds.specs.declared.event.Event.{Event}
use Rattle.surf_kinds.specs.Channels.{rule_of_channel, way_of_channel}
use Rattle.lattice.specs.Shape.{Shape}
use Rattle.lattice.specs.Places.{sites_of}
use Rattle.lattice.specs.Channels.{products}
use Rattle.lattice.specs.Surface.{first_product, second_product, rewritten, rewrite, rewrite_second, rewrite_all, after, HasRoom}

pub get_other : (xs : List SiteState) (i j : ℕ) (s : SiteState) → j ≢ i → slice_get (set xs i s) j ≡ slice_get xs j
get_other [] i j s h = refl
get_other (x ∷ xs) zero zero s h = absurd (h refl)
get_other (x ∷ xs) zero (suc j) s h = refl
get_other (x ∷ xs) (suc i) zero s h = refl
get_other (x ∷ xs) (suc i) (suc j) s h = get_other xs i j s (λ e. h (ap (λ n. suc n) e))

pub get_same : (xs : List SiteState) (i : ℕ) (s : SiteState) → i < length xs → slice_get (set xs i s) i ≡ Some s
get_same [] i s h = absurd (omega (arith, h))
get_same (x ∷ xs) zero s h = refl
get_same (x ∷ xs) (suc i) s h = get_same xs i s (omega (arith, h))

pub rewrite_other : (product : SpeciesId → SpeciesId) (time i : ℕ) (o : Option SiteState) (sites : List SiteState) (k : ℕ) → k ≢ i → slice_get (rewrite product time i o sites) k ≡ slice_get sites k
rewrite_other product time i None sites k h = refl
rewrite_other product time i (Some s) sites k h = get_other sites i k _ h

pub rewrite_same : (product : SpeciesId → SpeciesId) (time i : ℕ) (sites : List SiteState) (s : SiteState) → slice_get sites i ≡ Some s → slice_get (rewrite product time i (slice_get sites i) sites) i ≡ Some (rewritten (product s.species) time s)
rewrite_same product time i sites s h =
    ap (λ o. slice_get (rewrite product time i o sites) i) h ∙ get_same sites i _ (slice_get_within sites i s h)

-- a rewriting leaves the number of sites
pub rewrite_length : (product : SpeciesId → SpeciesId) (time i : ℕ) (o : Option SiteState) (sites : List SiteState) → length (rewrite product time i o sites) ≡ length sites
rewrite_length product time i None sites = refl
rewrite_length product time i (Some s) sites = length-set sites i _

pub there : (sites : List SiteState) (i : ℕ) → i < length sites → (s : SiteState) × (slice_get sites i ≡ Some s)
there sites i h = (get_or sites i (record { species = record { 0 = 0 }; version = 0; last = 0 }), slice_get-get_or sites i _ h)

-- a rewriting leaves room for another
pub room_left : (product : SpeciesId → SpeciesId) (time i j : ℕ) (sites : List SiteState) → j < length sites → IfSome (slice_get sites j) (λ s. s.version < 2 ^ 53) → IfSome (slice_get (rewrite product time i (slice_get sites i) sites) j) (λ s. s.version < 2 ^ 64 - 1)
room_left product time i j sites h room =
    let at = there sites j h in
    let below : at.0.version < 2 ^ 53 = subst (λ o. IfSome o (λ s. s.version < 2 ^ 53)) at.1 room in
    elim (eqb_tells j i) [
      | inl p ↦
          subst (λ o. IfSome o (λ s. s.version < 2 ^ 64 - 1))
          (sym (ap (slice_get (rewrite product time i (slice_get sites i) sites)) p.1 ∙ rewrite_same product time i sites at.0 (ap (slice_get sites) (sym p.1) ∙ at.1)))
          (omega (arith, below))
      | inr p ↦
          subst (λ o. IfSome o (λ s. s.version < 2 ^ 64 - 1))
          (sym (rewrite_other product time i (slice_get sites i) sites j p.1 ∙ at.1))
          (omega (arith, below))
    ]

-- an event of a rule leaves what the rule does, in the channel's way
pub after_is : (l : Shape) (rules : List Rule) (sites : List SiteState) (e : Event) (p : Sites) (rule : Rule) (new : SpeciesId × Option SpeciesId) → sites_of l e.place.0 ≡ Some p → slice_get rules (rule_of_channel e.channel) ≡ Some rule → new ≡ products (way_of_channel e.channel) rule
    → after l rules sites e ≡ rewrite_second (unwrap_or new.1) e.time p.second (rewrite (unwrap_or (Some new.0)) e.time p.first.0 (slice_get sites p.first.0) sites)
after_is l rules sites e p rule new is ruled leaves =
    ap (λ o. rewrite_all rules e o sites) is
    ∙ ap (λ o. rewrite_second (second_product o (way_of_channel e.channel)) e.time p.second (rewrite (first_product o (way_of_channel e.channel)) e.time p.first.0 (slice_get sites p.first.0) sites)) ruled
    ∙ ap (λ (t : SpeciesId × Option SpeciesId). rewrite_second (unwrap_or t.1) e.time p.second (rewrite (unwrap_or (Some t.0)) e.time p.first.0 (slice_get sites p.first.0) sites)) (sym leaves)

room_in : (o : Option SiteState) → ((x : SiteState) → o ≡ Some x → x.version < 2 ^ 53) → IfSome o (λ x. x.version < 2 ^ 53)
room_in None h = tt
room_in (Some x) h = h x refl

-- a surface with room everywhere has room at a place
pub room_at : (l : Shape) (sites : List SiteState) (place : ℕ) → All (λ s. s.version < 2 ^ 53) sites → HasRoom l sites place
room_at l sites place all s has = room_in (slice_get sites s) (λ x at. subst (λ (y : SiteState). y.version < 2 ^ 53) (get_or_from_slice_get sites s x x at) (all s x (slice_get_within sites s x at)))
