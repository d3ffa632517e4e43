-- An event that is due on a surface can happen there, and what it leaves.
use Rattle.std.proofs.Common.{◌≡◌, ℕ, suc, ◌+◌, ◌<◌, ◌≤◌, ◌^◌, List, ◌∷◌, length, Option, Some, sym, ap, ◌∙◌, arith, subst, drop, get_or, drop-cons}
use Rattle.std.proofs.lemmas.List.{drop_all}
use Rattle.surf_kinds.specs.declared.event.Event.{Event}
use Rattle.surf_kinds.specs.declared.site.SiteState.{SiteState}
use Rattle.surf_kinds.specs.declared.site.SpeciesId.{SpeciesId}
use Rattle.lattice.specs.Shape.{Shape}
use Rattle.lattice.specs.Places.{IsPlace}
use Rattle.lattice.specs.Surface.{after, after_all, IsChannelOf, HasRoom}
use Rattle.plan.specs.Network.{Network}
use Rattle.plan.specs.Products.{products_of}
use Rattle.plan.specs.History.{due, AreNext}
use Rattle.plan.proofs.LawLemmas.{due_next, offer_fits, fits_products}
use Rattle.surface_state.specs.SurfaceView.{SurfaceView}
use Rattle.surface_state.specs.Changes.{applied, IsSecondOf, AreBelow}
use Rattle.surface_state.proofs.LawLemmas.{applied_after}
use Rattle.one_engine.specs.Running.{CanFire}
use Rattle.one_engine.proofs.LawLemmas.{can_fire, settled_after, leaves_products}
use Rattle.run_writer.specs.Counting.{GoesOn}
use Rattle.run_writer.specs.StressText.{last_time}

can : (n : Network) (until : ℕ) (v : SurfaceView) (e : Event) → GoesOn n v → due n until v.sites ≡ Some e → CanFire n v.sites e
can n until v e h d = can_fire n until v.sites e d h.settled

pub at_place : (n : Network) (until : ℕ) (v : SurfaceView) (e : Event) → GoesOn n v → due n until v.sites ≡ Some e → IsPlace v.lattice e.place.0
at_place n until v e h d = subst (λ (l : Shape). IsPlace l e.place.0) (sym h.lattice) (can n until v e h d).place

pub of_channel : (n : Network) (until : ℕ) (v : SurfaceView) (e : Event) → GoesOn n v → due n until v.sites ≡ Some e → IsChannelOf n.rules e.channel
of_channel n until v e h d = (can n until v e h d).channel

pub with_room : (n : Network) (until : ℕ) (v : SurfaceView) (e : Event) → GoesOn n v → due n until v.sites ≡ Some e → HasRoom v.lattice v.sites e.place.0
with_room n until v e h d = subst (λ (l : Shape). HasRoom l v.sites e.place.0) (sym h.lattice) (can n until v e h d).has_room

pub with_pair : (n : Network) (until : ℕ) (v : SurfaceView) (e : Event) (to : SpeciesId × Option SpeciesId) → GoesOn n v → due n until v.sites ≡ Some e → Some to ≡ products_of n.rules e.channel → IsSecondOf v.lattice e.place.0 to.1
with_pair n until v e to h d is =
    subst (λ (l : Shape). IsSecondOf l e.place.0 to.1) (sym h.lattice)
    (fits_products n e.place.0 e.channel to (offer_fits n v.sites e.place.0 e (due_next n until v.sites e d).0) is)

pub of_species : (n : Network) (v : SurfaceView) (channel : ℕ) (to : SpeciesId × Option SpeciesId) → GoesOn n v → Some to ≡ products_of n.rules channel → AreBelow v.species_count to.0 to.1
of_species n v channel to h is = leaves_products v.species_count n.rules channel to h.species is

-- the surface with the products of the event is the surface after it
pub applied_is : (n : Network) (v u : SurfaceView) (e : Event) (to : SpeciesId × Option SpeciesId) → GoesOn n v → Some to ≡ products_of n.rules e.channel → u ≡ applied v e to → u ≡ record v { sites = after n.lattice n.rules v.sites e }
applied_is n v u e to h is ap_is =
    ap_is ∙ ap (λ (xs : List SiteState). record v { sites = xs }) (applied_after v n.rules e to is ∙ ap (λ (k : Shape). after k n.rules v.sites e) h.lattice)

-- and goes on
pub goes_on_after : (n : Network) (until : ℕ) (v u : SurfaceView) (e : Event) → until ≤ 10 ^ 15 → GoesOn n v → due n until v.sites ≡ Some e → u ≡ record v { sites = after n.lattice n.rules v.sites e } → GoesOn n u
goes_on_after n until v u e long h d is =
    let at = due_next n until v.sites e d in
    subst (GoesOn n) (sym is) (record { lattice = h.lattice; species = h.species; settled = settled_after n v.sites e at.0 (omega (arith, at.1, long)) h.settled })

-- A list of events

pub dropped : (events : List Event) (i : ℕ) (d : Event) → i < length events → drop i events ≡ get_or events i d ∷ drop (i + 1) events
dropped events i d h = let one : i + 1 ≡ suc i = omega arith in drop-cons events i d h ∙ ap (λ k. get_or events i d ∷ drop k events) (sym one)

-- the first i of a list of events happened
pub record Applying (n : Network) (v u : SurfaceView) (tick last : ℕ) (events : List Event) (i : ℕ) : Type 0 where
  pub goes_on : GoesOn n u
  pub until : ℕ
  pub long : until ≤ 10 ^ 15
  pub next : AreNext n until u.sites (drop i events)
  pub same : record u { sites = after_all n.lattice n.rules u.sites (drop i events) } ≡ record v { sites = after_all n.lattice n.rules v.sites events }
  pub time : last_time last (drop i events) ≡ last_time tick events

pub applying_due : (n : Network) (v u : SurfaceView) (tick last : ℕ) (events : List Event) (i : ℕ) (d : Event) (t : Applying n v u tick last events i) → i < length events → due n t.until u.sites ≡ Some (get_or events i d)
applying_due n v u tick last events i d t h = (subst (AreNext n t.until u.sites) (dropped events i d h) t.next).0

pub applying_step : (n : Network) (v u w : SurfaceView) (tick last : ℕ) (events : List Event) (i : ℕ) (d : Event) (to : SpeciesId × Option SpeciesId) → Applying n v u tick last events i → i < length events
    → Some to ≡ products_of n.rules (get_or events i d).channel → w ≡ applied u (get_or events i d) to → Applying n v w tick (get_or events i d).time events (i + 1)
applying_step n v u w tick last events i d to t h is ap_is =
    let e = get_or events i d in
    let on : w ≡ record u { sites = after n.lattice n.rules u.sites e } = applied_is n u w e to t.goes_on is ap_is in
    record {
      goes_on = goes_on_after n t.until u w e t.long t.goes_on (applying_due n v u tick last events i d t h) on;
      until = t.until;
      long = t.long;
      next = subst (λ (x : SurfaceView). AreNext n t.until x.sites (drop (i + 1) events)) (sym on) (subst (AreNext n t.until u.sites) (dropped events i d h) t.next).1;
      same = ap (λ (x : SurfaceView). record x { sites = after_all n.lattice n.rules x.sites (drop (i + 1) events) }) on
          ∙ (sym (ap (λ l. record u { sites = after_all n.lattice n.rules u.sites l }) (dropped events i d h)) ∙ t.same);
      time = sym (ap (last_time last) (dropped events i d h)) ∙ t.time;
    }

-- all happened
pub applying_same : (n : Network) (v u : SurfaceView) (tick last : ℕ) (events : List Event) (i : ℕ) → Applying n v u tick last events i → length events ≤ i → u ≡ record v { sites = after_all n.lattice n.rules v.sites events }
applying_same n v u tick last events i t h = sym (ap (λ l. record u { sites = after_all n.lattice n.rules u.sites l }) (drop_all i events h)) ∙ t.same

pub applying_last : (n : Network) (v u : SurfaceView) (tick last : ℕ) (events : List Event) (i : ℕ) → Applying n v u tick last events i → length events ≤ i → last ≡ last_time tick events
applying_last n v u tick last events i t h = sym (ap (last_time last) (drop_all i events h)) ∙ t.time
