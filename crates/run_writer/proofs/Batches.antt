-- Lists of the next events of a surface.
use Rattle.std.proofs.Common.{◌≡◌, ℕ, ◌+◌, ◌<◌, ◌≤◌, List, length, Some, refl, sym, ap, ◌∙◌, arith, subst, drop, get_or}
use Rattle.std.proofs.lemmas.List.{drop_all}
use Rattle.surf_kinds.specs.declared.event.Event.{Event}
use Rattle.surf_kinds.specs.declared.site.SiteState.{SiteState}
use Rattle.lattice.specs.Surface.{after, after_all}
use Rattle.plan.specs.History.{due, AreNext}
use Rattle.run_writer.specs.declared.writer.Writer.{Writer}
use Rattle.run_writer.specs.Pages.{Page, Waiting}
use Rattle.run_writer.specs.RunText.{Scene}
use Rattle.run_writer.specs.Writing.{reached_of, IsReady, Progress}
use Rattle.run_writer.proofs.Applying.{dropped}
use Rattle.run_writer.proofs.Firing.{ready_with}
use Rattle.run_writer.proofs.Progressing.{progress_start, progress_more}

-- the first i of a list of events were written
pub record WritingList (s : Scene) (w v : Writer) (events : List Event) (i : ℕ) (a b : Page) : Type 0 where
  pub ready : IsReady s v
  pub inside : i ≤ length events
  pub count : v.events ≡ w.events + i
  pub next : AreNext s.network s.until v.surface.sites (drop i events)
  pub progress : Progress s (reached_of w) (reached_of v) a b
  pub sites : after_all s.network.lattice s.network.rules v.surface.sites (drop i events) ≡ after_all s.network.lattice s.network.rules w.surface.sites events

pub writing_start : (s : Scene) (w : Writer) (events : List Event) (a : Page) → IsReady s w → AreNext s.network s.until w.surface.sites events → WritingList s w w events 0 a a
writing_start s w events a h next = record { ready = h; inside = omega arith; count = omega arith; next = next; progress = progress_start s (reached_of w) a; sites = refl }

pub writing_due : (s : Scene) (w v : Writer) (events : List Event) (i : ℕ) (d : Event) (a b : Page) → WritingList s w v events i a b → i < length events → due s.network s.until v.surface.sites ≡ Some (get_or events i d)
writing_due s w v events i d a b t h = (subst (AreNext s.network s.until v.surface.sites) (dropped events i d h) t.next).0

pub writing_step : (s : Scene) (w v u : Writer) (events : List Event) (i : ℕ) (d : Event) (a b c : Page) → WritingList s w v events i a b → i < length events → IsReady s u
    → Progress s (reached_of v) (reached_of u) b c → u.surface.sites ≡ after s.network.lattice s.network.rules v.surface.sites (get_or events i d) → u.events ≡ v.events + 1 → WritingList s w u events (i + 1) a c
writing_step s w v u events i d a b c t h ready more is one =
    let e = get_or events i d in
    record {
      ready = ready;
      inside = omega (arith, h);
      count = omega (arith, t.count, one);
      next = subst (λ (x : List SiteState). AreNext s.network s.until x (drop (i + 1) events)) (sym is) (subst (AreNext s.network s.until v.surface.sites) (dropped events i d h) t.next).1;
      progress = progress_more s (reached_of w) (reached_of v) (reached_of u) a b c t.progress more;
      sites = ap (λ (x : List SiteState). after_all s.network.lattice s.network.rules x (drop (i + 1) events)) is
          ∙ (sym (ap (after_all s.network.lattice s.network.rules v.surface.sites) (dropped events i d h)) ∙ t.sites);
    }

-- all were written
pub writing_count : (s : Scene) (w v : Writer) (events : List Event) (i : ℕ) (a b : Page) → WritingList s w v events i a b → length events ≤ i → v.events ≡ w.events + length events
writing_count s w v events i a b t h = omega (arith, t.count, t.inside, h)

pub writing_sites : (s : Scene) (w v : Writer) (events : List Event) (i : ℕ) (a b : Page) → WritingList s w v events i a b → length events ≤ i → v.surface.sites ≡ after_all s.network.lattice s.network.rules w.surface.sites events
writing_sites s w v events i a b t h = sym (ap (after_all s.network.lattice s.network.rules v.surface.sites) (drop_all i events h)) ∙ t.sites

-- a writer that has sent what waits is ready still
pub ready_sent : (s : Scene) (w : Writer) (buffer : Waiting) → IsReady s w → IsReady s (record w { buffer = buffer })
ready_sent s w buffer h = ready_with s w w.ticks buffer h.ticks h
