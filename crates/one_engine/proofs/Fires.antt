-- An engine before and after it fires.
use Rattle.std.proofs.Common.{◌≡◌, ℕ, ◌^◌, ◌<◌, ◌≤◌, List, Option, Some, None, false, refl, sym, ap, ◌∙◌, subst, arith, if◌then◌else◌}
use Rattle.std.specs.Prelude.{All, nat_le, slice_get}
use Rattle.std.proofs.lemmas.Bool.{le-leb}
use Rattle.std.proofs.lemmas.Bool.Decides.{nat_tests}
use Rattle.std.proofs.lemmas.Option.{none-some}
use Rattle.surf_kinds.specs.declared.site.SpeciesId.{SpeciesId}
use Rattle.surf_kinds.specs.declared.site.SiteState.{SiteState}
use Rattle.surf_kinds.specs.declared.event.Event.{Event}
use Rattle.lattice.specs.Shape.{Shape}
use Rattle.lattice.specs.Places.{IsPlace}
use Rattle.lattice.specs.Surface.{after}
use Rattle.event_queue.specs.QueueView.{QueueView, HasPlace, IsLeast, IsEmpty}
use Rattle.plan.specs.Network.{Network}
use Rattle.plan.specs.Next.{next, least}
use Rattle.plan.specs.Sharing.{ShareSite}
use Rattle.plan.specs.Products.{products_of}
use Rattle.plan.specs.History.{within, due}
use Rattle.plan.proofs.LawLemmas.{offer_place, offer_fits, fits_is_place, fits_products, least_is, least_none, due_next, after_elsewhere}
use Rattle.surface_state.specs.SurfaceView.{SurfaceView}
use Rattle.surface_state.specs.Changes.{applied, IsSecondOf}
use Rattle.surface_state.proofs.LawLemmas.{applied_after}
use Rattle.next_events.specs.Entries.{all_places, CoversRange, IsRefreshed}
use Rattle.next_events.proofs.LawLemmas.{covers_all, up_to_date_after}
use Rattle.one_engine.specs.State.{State}
use Rattle.plan.specs.Products.{LeavesWithin}
use Rattle.one_engine.specs.Running.{each_place, IsSettled, IsRunning, CanFire}
use Rattle.one_engine.proofs.Settled.{settled_after, can_fire}

-- The least event of the queue

offer_within : (n : Network) (sites : List SiteState) (q : QueueView) (place : ℕ) (f : Event) → CoversRange (all_places n.lattice) q → next n sites place ≡ Some f → HasPlace q (record { 0 = place })
offer_within n sites q place f c o =
    covers_all n.lattice q c place refl
    (subst (IsPlace n.lattice) (offer_place n sites place f o) (fits_is_place n f.place.0 f.channel (offer_fits n sites place f o)))

-- the least event of the queue is that of the surface
least_some : (n : Network) (s : SurfaceView) (q : QueueView) (e : Event) → IsRunning n s q → IsLeast q e → least n s.sites ≡ Some e
least_some n s q e r h =
    least_is n s.sites e (sym (r.up_to_date e.place.0 refl h.has_place) ∙ h.is_kept)
    (λ place f o. h.none_before _ f (r.up_to_date place refl (offer_within n s.sites q place f r.covers o) ∙ o))

none_offered : (n : Network) (s : SurfaceView) (q : QueueView) → IsRunning n s q → IsEmpty q → (place : ℕ) → next n s.sites place ≡ None
none_offered n s q r h place = go (next n s.sites place) refl
  where
    go : (o : Option Event) → next n s.sites place ≡ o → o ≡ None
    go None is = refl
    go (Some f) is = absurd (none-some f (sym (h _) ∙ (r.up_to_date place refl (offer_within n s.sites q place f r.covers is) ∙ is)))

late : (t u : ℕ) → u < t → nat_le t u ≡ false
late t u h = grind (arith, nat_tests)

-- it is due
pub fires_due : (n : Network) (s : SurfaceView) (q : QueueView) (until : ℕ) (e : Event) → IsRunning n s q → IsLeast q e → e.time ≤ until → due n until s.sites ≡ Some e
fires_due n s q until e r h le = ap (within until) (least_some n s q e r h) ∙ ap (λ t. if t then Some e else None) (le-leb e.time until le)

-- it is too late
pub late_due : (n : Network) (s : SurfaceView) (q : QueueView) (until : ℕ) (e : Event) → IsRunning n s q → IsLeast q e → until < e.time → due n until s.sites ≡ None
late_due n s q until e r h lt = ap (within until) (least_some n s q e r h) ∙ ap (λ t. if t then Some e else None) (late e.time until lt)

-- there is none
pub none_due : (n : Network) (s : SurfaceView) (q : QueueView) (until : ℕ) → IsRunning n s q → IsEmpty q → due n until s.sites ≡ None
none_due n s q until r h = ap (within until) (least_none n s.sites (none_offered n s q r h))

-- The engine after it

abbrev pub the_state : Network → SurfaceView → State
the_state n s = record { network = n; surface = s }

pub can_fire_least : (n : Network) (s : SurfaceView) (q : QueueView) (until : ℕ) (e : Event) → IsRunning n s q → IsLeast q e → e.time ≤ until → CanFire n s.sites e
can_fire_least n s q until e r h le = can_fire n until s.sites e (fires_due n s q until e r h le) r.settled

offered : (n : Network) (s : SurfaceView) (q : QueueView) (until : ℕ) (e : Event) → IsRunning n s q → IsLeast q e → e.time ≤ until → next n s.sites e.place.0 ≡ Some e
offered n s q until e r h le = (due_next n until s.sites e (fires_due n s q until e r h le)).0

pub fits_pair : (n : Network) (s : SurfaceView) (q : QueueView) (until : ℕ) (e : Event) (to : SpeciesId × Option SpeciesId) → IsRunning n s q → IsLeast q e → e.time ≤ until → Some to ≡ products_of n.rules e.channel → IsSecondOf s.lattice e.place.0 to.1
fits_pair n s q until e to r h le is =
    subst (λ l. IsSecondOf l e.place.0 to.1) (sym r.lattice)
    (fits_products n e.place.0 e.channel to (offer_fits n s.sites e.place.0 e (offered n s q until e r h le)) is)

-- the surface with its channel's products is the surface after the event
pub same_after : (n : Network) (s t : SurfaceView) (e : Event) (to : SpeciesId × Option SpeciesId) → s.lattice ≡ n.lattice → Some to ≡ products_of n.rules e.channel → t ≡ applied s e to → t ≡ record s { sites = after n.lattice n.rules s.sites e }
same_after n s t e to l is h =
    h ∙ ap (λ (xs : List SiteState). record s { sites = xs }) (applied_after s n.rules e to is ∙ ap (λ (k : Shape). after k n.rules s.sites e) l)

pub settled_still : (n : Network) (s t : SurfaceView) (q : QueueView) (until : ℕ) (e : Event) → IsRunning n s q → IsLeast q e → e.time ≤ until → until ≤ 10 ^ 15 → t ≡ record s { sites = after n.lattice n.rules s.sites e } → All IsSettled t.sites
settled_still n s t q until e r h le long same =
    subst (λ (x : SurfaceView). All IsSettled x.sites) (sym same) (settled_after n s.sites e (offered n s q until e r h le) (omega (arith, le, long)) r.settled)

-- with the entries round the event's place refreshed, the engine runs on
pub runs_on : (n : Network) (s t : SurfaceView) (q r : QueueView) (until : ℕ) (e : Event) → IsRunning n s q → IsLeast q e → e.time ≤ until → until ≤ 10 ^ 15 → t ≡ record s { sites = after n.lattice n.rules s.sites e }
    → IsRefreshed n t.sites each_place (ShareSite n.lattice e.place.0) q r → IsRunning n t r
runs_on n s t q r until e run h le long same f = record {
  lattice = ap (λ (x : SurfaceView). x.lattice) same ∙ run.lattice;
  species = subst (λ (x : SurfaceView). All (LeavesWithin x.species_count) n.rules) (sym same) run.species;
  settled = settled_still n s t q until e run h le long same;
  covers = record { first = f.first ∙ run.covers.first; end = omega (arith, f.first, f.count, run.covers.end) };
  up_to_date = up_to_date_after n each_place s.sites t.sites e.place.0 q r
      (λ k apart. ap (λ (x : SurfaceView). slice_get x.sites k) same ∙ after_elsewhere n.lattice n.rules s.sites e k apart) run.up_to_date f;
}
