-- The lines of viewers that are done.
use Rattle.std.proofs.Common.{◌≡◌, ℕ, ◌<◌, ◌≤◌, List, [], ◌∷◌, length, map, All, sym, ap, ◌∙◌, subst}
use Rattle.surf_kinds.specs.declared.event.Event.{Event}
use Rattle.surf_kinds.specs.declared.site.SiteState.{SiteState}
use Rattle.lattice.specs.Surface.{after}
use Rattle.plan.specs.Network.{Network}
use Rattle.plan.specs.Products.{LeavesWithin}
use Rattle.plan.specs.History.{history, IsHistory, AreNext}
use Rattle.plan.proofs.LawLemmas.{is_history}
use Rattle.trace_text.specs.Lines.{counts_of}
use Rattle.frames.specs.declared.sample.Change.{Change}
use Rattle.frames.specs.declared.sample.Sample.{Sample}
use Rattle.viewer.specs.declared.viewer.Viewer.{Viewer}
use Rattle.watching.specs.declared.publisher.Publisher.{Publisher}
use Rattle.watching.specs.Changes.{changes_of}
use Rattle.watching.specs.Lines.{views_text}
use Rattle.watching.specs.Published.{HasPublished}
use Rattle.watching.specs.Viewing.{IsDone}
use Rattle.watching.specs.Views.{AreViews}
use Rattle.watching.proofs.LawLemmas.{are_views, done_wide}
use Rattle.run_writer.specs.RunText.{Scene, events_of}
use Rattle.watch_run.specs.Seats.{AreLinesOf}

-- all events of a history come next
all_next : (n : Network) (until : ℕ) (es : List Event) (sites : List SiteState) → IsHistory n until sites es → AreNext n until sites es
all_next n until [] sites h = tt
all_next n until (e ∷ es) sites h = (h.0, all_next n until es (after n.lattice n.rules sites e) h.1)

-- each sample has a count for each species
pub all_wide : (start : List ℕ) (changes : List Change) (frames kinds : ℕ) (viewers : List Viewer) → length start ≡ kinds → All (IsDone start changes frames) viewers → All (λ (v : Viewer). All (λ (s : Sample). length s.counts ≡ kinds) v.samples) viewers
all_wide start changes frames kinds viewers long done k d h = done_wide start changes frames kinds _ long (done k d h)

-- viewers who saw all that was published of a run saw the run
pub lines_of : (s : Scene) (p : Publisher) (first : List SiteState) (viewers : List Viewer) (frames count : ℕ) (lines : List ℕ) → HasPublished s.network first (events_of s first) p → length p.writer.name.start ≡ length s.names → 1 ≤ frames → length viewers ≡ count
    → All (IsDone p.writer.name.start p.writer.published frames) viewers → lines ≡ views_text s.names (map (λ (v : Viewer). v.samples) viewers) → AreLinesOf (record { viewers = count; frames = frames }) s first lines
lines_of s p first viewers frames count lines published kinds some number done is =
    let n = s.network in
    let all = length s.names in
    let es : List Event = events_of s first in
    let views : List (List Sample) = map (λ (v : Viewer). v.samples) viewers in
    let added = published.added in
    let start : p.writer.name.start ≡ counts_of first all = added.start ∙ ap (counts_of first) kinds in
    let changes : p.writer.published ≡ changes_of n.lattice n.rules first es = published.published ∙ added.added in
    let leaves : All (LeavesWithin all) n.rules = subst (λ k. All (LeavesWithin k) n.rules) kinds added.leaves in
    let below : All (λ (x : SiteState). x.species.0 < all) first = subst (λ k. All (λ (x : SiteState). x.species.0 < k) first) kinds added.below in
    let seen : All (IsDone (counts_of first all) (changes_of n.lattice n.rules first es) frames) viewers =
    subst (λ (cs : List Change). All (IsDone (counts_of first all) cs frames) viewers) changes (subst (λ x. All (IsDone x p.writer.published frames) viewers) start done) in
    let next : AreNext n s.until first es = all_next n s.until es first (is_history n s.until first) in
    (views, subst (λ k. AreViews n all k frames first es views) number (are_views n s.until all leaves first es added.long below next frames viewers some seen), is)
