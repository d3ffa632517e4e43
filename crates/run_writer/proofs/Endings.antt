-- What a run begins with, and what its end leaves.
use Rattle.std.proofs.Common.{◌≡◌, ℕ, ◌≤◌, List, [], ◌++◌, refl, sym, ap, ◌∙◌, arith, subst}
use Rattle.std.specs.Prelude.{Result, Ok, Err, All, OnOk, IsErrOf}
use Rattle.std.specs.Io.KnownBytes.{Appends}
use Rattle.std.proofs.lemmas.List.Elements.{All-map}
use Rattle.surf_kinds.specs.declared.site.SiteState.{SiteState}
use Rattle.surf_kinds.specs.declared.site.SpeciesId.{SpeciesId}
use Rattle.surf_outside.specs.Causes.{Rose}
use Rattle.surf_outside.specs.Known.{AppendsPrefix}
use Rattle.surf_outside.proofs.LawLemmas.{prefix_whole}
use Rattle.lattice.specs.Surface.{fresh, first_surface}
use Rattle.surface_state.specs.SurfaceView.{SurfaceView}
use Rattle.plan.specs.Products.{LeavesWithin}
use Rattle.warp_core.specs.Configs.{IsFresh}
use Rattle.warp_core.specs.World.{end_key}
use Rattle.crew.specs.Crews.{CrewView, world_in}
use Rattle.one_engine.specs.Running.{IsSettled}
use Rattle.one_engine.proofs.LawLemmas.{first_settled}
use Rattle.run_writer.specs.declared.pages.Stop.{Stop}
use Rattle.run_writer.specs.declared.pages.Stop.TheVariants as stops
use Rattle.run_writer.specs.declared.writer.Task.{Task}
use Rattle.run_writer.specs.declared.writer.Writer.{Writer}
use Rattle.run_writer.specs.Pages.{Page, Sent, Stopped, Sends}
use Rattle.run_writer.specs.Crewed.{IsPastLimit, IsSameCrew}
use Rattle.run_writer.specs.RunText.{Scene, Reached, start}
use Rattle.run_writer.specs.Runs.{HasRun, MayRun}
use Rattle.run_writer.specs.Stops.{RunGains, IsLimited}
use Rattle.run_writer.specs.Writing.{scene_of, reached_of, Begins, IsReady, EndsWith, Ends}
use Rattle.run_writer.proofs.Written.{wrote_all}
use Rattle.run_writer.proofs.Firing.{same_reached}

-- a first surface was never rewritten

pub first_fresh : (cells : List SpeciesId) → All IsFresh (first_surface cells)
first_fresh cells = All-map IsFresh fresh cells (λ k d h. (refl, refl))

-- a writer that has written nothing of a run that may begin is ready
pub begins_ready : (t : Task) (c : CrewView) (w : Writer) → Begins t.span c.start w → MayRun (scene_of t) c → IsReady (scene_of t) w
begins_ready t c w b may = record {
  long = may.duration;
  lattice = ap (λ (x : SurfaceView). x.lattice) b.surface ∙ may.lattice;
  species_count = ap (λ (x : SurfaceView). x.species_count) b.surface ∙ may.species_count;
  species = subst (λ (x : SurfaceView). All (LeavesWithin x.species_count) t.plan.now.rules) (sym b.surface) may.species;
  settled = subst (All IsSettled) (sym (ap (λ (x : SurfaceView). x.sites) b.surface ∙ may.first.1)) (first_settled may.first.0);
  tally = b.tally ∙ ap (λ (n : ℕ). record { limit = t.span.limit; admitted = n }) (sym b.events);
  within = omega (arith, b.events);
  ticks = b.within;
}

-- what it tells to the end is the whole run
pub begins_reached : (t : Task) (first : SurfaceView) (w : Writer) → Begins t.span first w → reached_of w ≡ start (scene_of t) first.sites
begins_reached t first w h = same_reached _ _ _ _ _ _ (ap (λ (x : SurfaceView). x.sites) h.surface) h.events h.ticks

pub begins_ends : {T : Type 0} (t : Task) (first : SurfaceView) (w : Writer) (a b : Page) (r : Result T Stop) → Begins t.span first w → Ends (scene_of t) (reached_of w) a b r → Ends (scene_of t) (start (scene_of t) first.sites) a b r
begins_ends t first w a b r h e =
    subst (λ (x : Reached). Ends (scene_of t) x a b r) (begins_reached t first w h) e

sent_all : (a b : Page) (x : List ℕ) → a.pending ≡ [] → Sent a b x → Appends a.written b.written x
sent_all a b x none p = wrote_all a b x p.wrote none p.none

pub stopped_prefix : (a b : Page) (x : List ℕ) (stop : Stop) → a.pending ≡ [] → Stopped a b x stop → AppendsPrefix a.written b.written x
stopped_prefix a b x stop none p = subst (AppendsPrefix a.written b.written) (ap (λ l. l ++ x) none) p.prefix

sends_gains : {T : Type 0} (a b : Page) (x : List ℕ) (r : Result T Stop) → a.pending ≡ [] → Sends a b x r → RunGains r x a.written b.written
sends_gains a b x (Ok v) none p = sent_all a b x none p
sends_gains a b x (Err stops.Limit) none p = sent_all a b x none p
sends_gains a b x (Err stops.Write) none p = stopped_prefix a b x stops.Write none p
sends_gains a b x (Err stops.Memory) none p = stopped_prefix a b x stops.Memory none p

sends_prefix : {T : Type 0} (a b : Page) (x : List ℕ) (r : Result T Stop) → a.pending ≡ [] → Sends a b x r → AppendsPrefix a.written b.written x
sends_prefix a b x (Ok v) none p = prefix_whole a.written b.written x (sent_all a b x none p)
sends_prefix a b x (Err stops.Limit) none p = prefix_whole a.written b.written x (sent_all a b x none p)
sends_prefix a b x (Err stops.Write) none p = stopped_prefix a b x stops.Write none p
sends_prefix a b x (Err stops.Memory) none p = stopped_prefix a b x stops.Memory none p

sends_later : {T : Type 0} (a b : Page) (x : List ℕ) (r : Result T Stop) → Sends a b x r → a.faults ≤ b.faults
sends_later a b x (Ok v) p = p.wrote.later
sends_later a b x (Err stops.Limit) p = p.wrote.later
sends_later a b x (Err stops.Write) p = p.later
sends_later a b x (Err stops.Memory) p = p.later

sends_rose : {T : Type 0} (a b : Page) (x : List ℕ) (r : Result T Stop) → Sends a b x r → IsErrOf r stops.Write → Rose a.faults b.faults
sends_rose a b x (Ok v) p h = cc
sends_rose a b x (Err stops.Limit) p h = cc
sends_rose a b x (Err stops.Write) p h = p.cause
sends_rose a b x (Err stops.Memory) p h = cc

ends_limited : {T : Type 0} (s : Scene) (sites : List SiteState) (r : Result T Stop) → EndsWith s (start s sites) r → IsLimited r s sites
ends_limited s sites (Ok v) h = omega (arith, h)
ends_limited s sites (Err stops.Limit) h = omega (arith, h)
ends_limited s sites (Err stops.Write) h = tt
ends_limited s sites (Err stops.Memory) h = tt

-- how a run has ended whose text was sent from its start to its end
pub has_run : {T : Type 0} (s : Scene) (c d : CrewView) (a b : Page) (r : Result T Stop) → a.pending ≡ [] → Ends s (start s c.start.sites) a b r → OnOk r (d.horizon ≡ end_key (world_in d)) → (IsErrOf r stops.Limit → IsPastLimit s d) → IsSameCrew c d
    → HasRun r s c d a.written b.written a.faults b.faults
has_run s c d a b r none e finished past same = record {
  ended = record { limited = ends_limited s c.start.sites r e.limited; write = sends_rose a b _ r e.sends; finished = finished; past = past; same = same };
  text = sends_gains a b _ r none e.sends;
  prefix = sends_prefix a b _ r none e.sends;
  later = sends_later a b _ r e.sends;
}
