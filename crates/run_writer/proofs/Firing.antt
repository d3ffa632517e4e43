-- A writer whose surface goes on by an event.
use Rattle.std.proofs.Common.{◌≡◌, ℕ, ◌+◌, ◌<◌, ◌≤◌, List, Option, Some, sym, ap, ◌∙◌, arith, subst, get_or}
use Rattle.std.specs.Prelude.{All}
use Rattle.surf_kinds.specs.declared.event.Event.{Event}
use Rattle.surf_kinds.specs.declared.site.SiteState.{SiteState}
use Rattle.surf_kinds.specs.declared.site.SpeciesId.{SpeciesId}
use Rattle.lattice.specs.Shape.{Shape}
use Rattle.lattice.specs.Places.{IsPlace}
use Rattle.lattice.specs.Surface.{after, IsChannelOf, HasRoom}
use Rattle.plan.specs.Products.{products_of}
use Rattle.ordered_commit.specs.Count.{Count}
use Rattle.surface_state.specs.SurfaceView.{SurfaceView}
use Rattle.surface_state.specs.Changes.{applied, IsSecondOf, AreBelow}
use Rattle.plan.specs.Products.{LeavesWithin}
use Rattle.run_writer.specs.declared.writer.Writer.{Writer}
use Rattle.run_writer.specs.Counting.{GoesOn}
use Rattle.run_writer.specs.Pages.{Waiting}
use Rattle.run_writer.specs.RunText.{Scene, Reached, reached, ticks_from, ticks_before}
use Rattle.plan.specs.History.{due}
use Rattle.run_writer.specs.Writing.{reached_of, IsReady}
use Rattle.run_writer.proofs.Sampling.{within_from, all_before}
use Rattle.run_writer.proofs.Applying.{at_place, of_channel, with_room, with_pair, of_species, applied_is, goes_on_after}
use Rattle.run_writer.proofs.Progressing.{IsDue}

-- a writer is ready still with other ticks of the run and with other bytes that wait
pub ready_with : (s : Scene) (w : Writer) (ticks : List ℕ) (buffer : Waiting) → All (λ tick. tick ≤ s.until) ticks → IsReady s w → IsReady s (record w { ticks = ticks; buffer = buffer })
ready_with s w ticks buffer within h = record {
  long = h.long;
  lattice = h.lattice;
  species_count = h.species_count;
  species = h.species;
  settled = h.settled;
  tally = h.tally;
  within = h.within;
  ticks = within;
}

-- a writer that has shown its surface is ready still
pub ready_shown : (s : Scene) (w v : Writer) (time : ℕ) → v ≡ record w { ticks = ticks_from time w.ticks; buffer = v.buffer } → IsReady s w → IsReady s v
ready_shown s w v time is h =
    subst (IsReady s) (sym is) (ready_with s w (ticks_from time w.ticks) v.buffer (within_from s.until time w.ticks h.ticks) h)

pub due_shown : (s : Scene) (w v : Writer) (time : ℕ) (e : Event) → v ≡ record w { ticks = ticks_from time w.ticks; buffer = v.buffer } → IsDue s (reached_of w) e → IsDue s (reached_of v) e
due_shown s w v time e is h =
    ap (λ (x : Writer). due s.network s.until x.surface.sites) is ∙ h

-- the event can happen on the writer's surface

ready_goes_on : (s : Scene) (v : Writer) → IsReady s v → GoesOn s.network v.surface
ready_goes_on s v h = record { lattice = h.lattice; species = h.species; settled = h.settled }

pub fires_place_here : (s : Scene) (v : Writer) (e : Event) → IsReady s v → IsDue s (reached_of v) e → IsPlace v.surface.lattice e.place.0
fires_place_here s v e h d = at_place s.network s.until v.surface e (ready_goes_on s v h) d

pub fires_place : (s : Scene) (v : Writer) (e : Event) → IsReady s v → IsDue s (reached_of v) e → IsPlace s.network.lattice e.place.0
fires_place s v e h d = subst (λ (l : Shape). IsPlace l e.place.0) h.lattice (fires_place_here s v e h d)

pub fires_channel : (s : Scene) (v : Writer) (e : Event) → IsReady s v → IsDue s (reached_of v) e → IsChannelOf s.network.rules e.channel
fires_channel s v e h d = of_channel s.network s.until v.surface e (ready_goes_on s v h) d

pub fires_room : (s : Scene) (v : Writer) (e : Event) → IsReady s v → IsDue s (reached_of v) e → HasRoom v.surface.lattice v.surface.sites e.place.0
fires_room s v e h d = with_room s.network s.until v.surface e (ready_goes_on s v h) d

pub fires_pair : (s : Scene) (v : Writer) (e : Event) (to : SpeciesId × Option SpeciesId) → IsReady s v → IsDue s (reached_of v) e → Some to ≡ products_of s.network.rules e.channel → IsSecondOf v.surface.lattice e.place.0 to.1
fires_pair s v e to h d is = with_pair s.network s.until v.surface e to (ready_goes_on s v h) d is

pub fires_species : (s : Scene) (v : Writer) (e : Event) (to : SpeciesId × Option SpeciesId) → IsReady s v → Some to ≡ products_of s.network.rules e.channel → AreBelow v.surface.species_count to.0 to.1
fires_species s v e to h is = of_species s.network v.surface e.channel to (ready_goes_on s v h) is

-- a writer before an event and after it: it has shown its surface, admitted the event, and fired it
pub record Fires (s : Scene) (w v u : Writer) (e : Event) : Type 0 where
  pub ready : IsReady s w
  pub due : IsDue s (reached_of w) e
  pub shown : v ≡ record w { ticks = ticks_from e.time w.ticks; buffer = v.buffer }
  pub surface : SurfaceView
  pub tally : Count
  pub number : ℕ
  pub is : u ≡ record v { surface = surface; tally = tally; events = number; buffer = u.buffer }
  pub to : SpeciesId × Option SpeciesId
  pub products : Some to ≡ products_of s.network.rules e.channel
  pub fired : surface ≡ applied v.surface e to
  pub counted : tally ≡ record v.tally { admitted = v.tally.admitted + 1 }
  pub numbered : number ≡ v.tally.admitted + 1
  pub within : tally.admitted ≤ tally.limit

ready_v : (s : Scene) (w v u : Writer) (e : Event) → Fires s w v u e → IsReady s v
ready_v s w v u e f = ready_shown s w v e.time f.shown f.ready

sites_v : (s : Scene) (w v u : Writer) (e : Event) → Fires s w v u e → v.surface.sites ≡ w.surface.sites
sites_v s w v u e f = ap (λ (x : Writer). x.surface.sites) f.shown

surface_u : (s : Scene) (w v u : Writer) (e : Event) (f : Fires s w v u e) → f.surface ≡ record v.surface { sites = after s.network.lattice s.network.rules v.surface.sites e }
surface_u s w v u e f = applied_is s.network v.surface f.surface e f.to (ready_goes_on s v (ready_v s w v u e f)) f.products f.fired

-- its surface is the one after the event
pub fires_sites : (s : Scene) (w v u : Writer) (e : Event) → Fires s w v u e → u.surface.sites ≡ after s.network.lattice s.network.rules w.surface.sites e
fires_sites s w v u e f =
    ap (λ (x : Writer). x.surface.sites) f.is
    ∙ (ap (λ (x : SurfaceView). x.sites) (surface_u s w v u e f)
    ∙ ap (λ (xs : List SiteState). after s.network.lattice s.network.rules xs e) (sites_v s w v u e f))

number_w : (s : Scene) (w v u : Writer) (e : Event) (f : Fires s w v u e) → f.number ≡ w.events + 1
number_w s w v u e f =
    let admitted : v.tally.admitted ≡ w.events = ap (λ (x : Writer). x.tally.admitted) f.shown ∙ ap (λ (x : Count). x.admitted) f.ready.tally in
    omega (arith, f.numbered, admitted)

tally_u : (s : Scene) (w v u : Writer) (e : Event) (f : Fires s w v u e) → f.tally ≡ record { limit = s.limit; admitted = f.number }
tally_u s w v u e f =
    let before : v.tally ≡ record { limit = s.limit; admitted = w.events } = ap (λ (x : Writer). x.tally) f.shown ∙ f.ready.tally in
    f.counted ∙ (ap (λ (x : Count). record x { admitted = v.tally.admitted + 1 }) before ∙ ap (λ (n : ℕ). record { limit = s.limit; admitted = n }) (sym f.numbered))

pub fires_below : (s : Scene) (w v u : Writer) (e : Event) → Fires s w v u e → w.events < s.limit
fires_below s w v u e f =
    let n : f.number ≡ w.events + 1 = number_w s w v u e f in
    let admitted : f.tally.admitted ≡ f.number = ap (λ (x : Count). x.admitted) (tally_u s w v u e f) in
    let limit : f.tally.limit ≡ s.limit = ap (λ (x : Count). x.limit) (tally_u s w v u e f) in
    omega (arith, n, admitted, limit, f.within)

pub same_reached : (x y : List SiteState) (n m : ℕ) (k l : List ℕ) → x ≡ y → n ≡ m → k ≡ l → (let r : Reached = record { sites = x; events = n; ticks = k } in r) ≡ record { sites = y; events = m; ticks = l }
same_reached x y n m k l p q r = cc

-- it has come so far
pub fires_reached : (s : Scene) (w v u : Writer) (e : Event) → Fires s w v u e → reached_of u ≡ reached s (reached_of w) e
fires_reached s w v u e f =
    same_reached _ _ _ _ _ _ (fires_sites s w v u e f) (ap (λ (x : Writer). x.events) f.is ∙ number_w s w v u e f) (ap (λ (x : Writer). x.ticks) f.is ∙ ap (λ (x : Writer). x.ticks) f.shown)

pub fires_count : (s : Scene) (w v u : Writer) (e : Event) → Fires s w v u e → u.events ≡ w.events + 1
fires_count s w v u e f = ap (λ (x : Writer). x.events) f.is ∙ number_w s w v u e f

goes_on_u : (s : Scene) (w v u : Writer) (e : Event) (f : Fires s w v u e) → GoesOn s.network f.surface
goes_on_u s w v u e f =
    let h : IsReady s v = ready_v s w v u e f in
    goes_on_after s.network s.until v.surface f.surface e h.long (ready_goes_on s v h) (due_shown s w v e.time e f.shown f.due) (surface_u s w v u e f)

-- and is ready for the next one
pub fires_ready : (s : Scene) (w v u : Writer) (e : Event) → Fires s w v u e → IsReady s u
fires_ready s w v u e f =
    let h : IsReady s v = ready_v s w v u e f in
    let same : f.surface ≡ record v.surface { sites = after s.network.lattice s.network.rules v.surface.sites e } = surface_u s w v u e f in
    let n : f.number ≡ w.events + 1 = number_w s w v u e f in
    let below : w.events < s.limit = fires_below s w v u e f in
    let species_count : f.surface.species_count ≡ v.surface.species_count = ap (λ (x : SurfaceView). x.species_count) same in
    subst (IsReady s) (sym f.is) (record {
      long = h.long;
      lattice = ap (λ (x : SurfaceView). x.lattice) same ∙ h.lattice;
      species_count = species_count ∙ h.species_count;
      species = subst (λ (k : ℕ). All (LeavesWithin k) s.network.rules) (sym species_count) h.species;
      settled = (goes_on_u s w v u e f).settled;
      tally = tally_u s w v u e f;
      within = omega (arith, n, below);
      ticks = h.ticks;
    })

-- with all surfaces before its end shown, no tick is left
pub shows_all : (s : Scene) (w : Writer) → IsReady s w → ticks_before (s.until + 1) w.ticks ≡ w.ticks
shows_all s w h = all_before (s.until + 1) w.ticks (λ k d inside. let le : get_or w.ticks k d ≤ s.until = h.ticks k d inside in omega (arith, le))

-- where no more event is admitted, as many events were written as the limit allows
pub stop_events : (s : Scene) (w v : Writer) (time : ℕ) → IsReady s w → v ≡ record w { ticks = ticks_from time w.ticks; buffer = v.buffer } → v.tally.admitted + 1 ≡ v.tally.limit + 1 → w.events ≡ s.limit
stop_events s w v time h is full =
    let before : v.tally ≡ record { limit = s.limit; admitted = w.events } = ap (λ (x : Writer). x.tally) is ∙ h.tally in
    let admitted : v.tally.admitted ≡ w.events = ap (λ (x : Count). x.admitted) before in
    let limit : v.tally.limit ≡ s.limit = ap (λ (x : Count). x.limit) before in
    omega (arith, admitted, limit, full)

pub stop_limit : (s : Scene) (w v : Writer) (time limit : ℕ) → IsReady s w → v ≡ record w { ticks = ticks_from time w.ticks; buffer = v.buffer } → limit ≡ v.tally.limit → limit ≡ s.limit
stop_limit s w v time limit h is same =
    same ∙ (ap (λ (x : Writer). x.tally.limit) is ∙ ap (λ (x : Count). x.limit) h.tally)
