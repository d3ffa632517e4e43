-- A queue that gets the next events of a range, one place after the other.
use Rattle.std.proofs.Common.{◌≡◌, ℕ, ◌+◌, ◌-◌, ◌<◌, ◌≤◌, List, Option, None, inl, inr, refl, sym, ◌∙◌, subst, arith, set, slice_index_or}
use Rattle.std.proofs.lemmas.Bool.Decides.{eqb_tells}
use Rattle.std.proofs.lemmas.List.{get_or-set_same, get_or-set_other, length-set}
use Rattle.surf_kinds.specs.declared.site.SiteState.{SiteState}
use Rattle.surf_kinds.specs.declared.event.Event.{Event}
use Rattle.event_queue.specs.QueueView.{QueueView}
use Rattle.lattice.specs.Places.{sites_of}
use Rattle.lattice.specs.declared.place_range.PlaceRange.{PlaceRange}
use Rattle.plan.specs.Network.{Network}
use Rattle.plan.specs.Next.{next}
use Rattle.next_events.specs.Entries.{CoversRange, IsUpToDate}

-- the places before a number have their next events, and those from it on none
pub record Filled (n : Network) (sites : List SiteState) (r : PlaceRange) (q : QueueView) (number : ℕ) : Type 0 where
  pub covers : CoversRange r q
  pub low : r.first ≤ number
  pub entries : (k : ℕ) → r.first ≤ k → k < number → IsUpToDate n sites q k
  pub empty : (k : ℕ) → number ≤ r.first + k → slice_index_or q.events k None ≡ None

-- one more is set
pub filled_more : (n : Network) (sites : List SiteState) (r : PlaceRange) (q : QueueView) (number : ℕ) → number < r.end → Filled n sites r q number
    → Filled n sites r (record { first = q.first; events = set q.events (number - q.first) (next n sites number) }) (number + 1)
filled_more n sites r q number below f = record {
  covers = record { first = f.covers.first; end = omega (arith, length-set q.events (number - q.first) o, f.covers.end) };
  low = omega (arith, f.low);
  entries = λ k from to. elim (eqb_tells k number) [
    | inl e ↦ subst (λ j. slice_index_or (set q.events (number - q.first) o) (j - q.first) None ≡ next n sites j) (sym e.1) (get_or-set_same q.events (number - q.first) o None (omega (arith, below, f.low, f.covers.first, f.covers.end)))
    | inr e ↦ get_or-set_other q.events (number - q.first) (k - q.first) o None (λ s. e.1 (omega (arith, s, f.covers.first, from, f.low))) ∙ f.entries k from (omega (arith, to, e.1))
  ];
  empty = λ k beyond. get_or-set_other q.events (number - q.first) k o None (λ s. absurd (omega (arith, s, f.covers.first, beyond, f.low))) ∙ f.empty k (omega (arith, beyond));
}
  where
    o : Option Event
    o = next n sites number

next_none : (n : Network) (sites : List SiteState) (place : ℕ) → sites_of n.lattice place ≡ None → next n sites place ≡ None
next_none n sites place e = rw e refl

-- where the number is no place, it has none already
pub filled_none : (n : Network) (sites : List SiteState) (r : PlaceRange) (q : QueueView) (number : ℕ) → sites_of n.lattice number ≡ None → Filled n sites r q number
    → Filled n sites r q (number + 1)
filled_none n sites r q number none f = record {
  covers = f.covers;
  low = omega (arith, f.low);
  entries = λ k from to. elim (eqb_tells k number) [
    | inl e ↦ subst (λ j. slice_index_or q.events (j - q.first) None ≡ next n sites j) (sym e.1) (f.empty (number - q.first) (omega (arith, f.low, f.covers.first)) ∙ sym (next_none n sites number none))
    | inr e ↦ f.entries k from (omega (arith, to, e.1))
  ];
  empty = λ k beyond. f.empty k (omega (arith, beyond));
}
