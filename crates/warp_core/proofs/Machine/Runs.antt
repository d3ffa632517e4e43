-- Entries that run from a base to a surface.
use Rattle.std.proofs.Common.{◌≡◌, List, [], ◌∷◌, ◌++◌, refl, sym, ap, ◌∙◌, subst, cond, inl, inr}
use Rattle.std.specs.Prelude.{not}
use Rattle.std.proofs.lemmas.Bool.{cases_Bool}
use Rattle.surf_kinds.specs.declared.event.Key.{Key}
use Rattle.surf_kinds.specs.Keys.{is_before, below as below_key, from as from_key}
use Rattle.plan.specs.Network.{Network}
use Rattle.surface_state.specs.SurfaceView.{SurfaceView}
use Rattle.lattice.specs.Surface.{after_all}
use Rattle.timeline.specs.declared.entry.Entry.{Entry}
use Rattle.timeline.specs.TimelineView.{events_of, below, from, entry_key}
use Rattle.timeline.specs.Led.{LedTo}
use Rattle.warp_core.specs.Grounds.{IsStepBy, RunTo}

pub led : (n : Network) (s now : SurfaceView) (es : List Entry) → RunTo n s es now → LedTo s es now
led n s now [] r = r
led n s now (e ∷ es) r = (r.0, r.1.step, led n r.0 now es r.2)

pub run_parted : (n : Network) (s now : SurfaceView) (first rest : List Entry) → RunTo n s (first ++ rest) now → (mid : SurfaceView) × RunTo n s first mid × RunTo n mid rest now
run_parted n s now [] rest r = (s, refl, r)
run_parted n s now (e ∷ first) rest r = let more = run_parted n r.0 now first rest r.2 in (more.0, (r.0, r.1, more.1), more.2)

run_joined : (n : Network) (s mid now : SurfaceView) (first rest : List Entry) → RunTo n s first mid → RunTo n mid rest now → RunTo n s (first ++ rest) now
run_joined n s mid now [] rest r more = subst (λ t. RunTo n t rest now) r more
run_joined n s mid now (e ∷ first) rest r more = (r.0, r.1, run_joined n r.0 mid now first rest r.2 more)

pub run_pushed : (n : Network) (s mid now : SurfaceView) (es : List Entry) (e : Entry) → RunTo n s es mid → IsStepBy n mid e now → RunTo n s (es ++ e ∷ []) now
run_pushed n s mid now es e r step = run_joined n s mid now es (e ∷ []) r (now, step, refl)

pub events-append : (xs ys : List Entry) → events_of (xs ++ ys) ≡ events_of xs ++ events_of ys
events-append [] ys = refl
events-append (x ∷ xs) ys = ap (λ l. x.before.event ∷ l) (events-append xs ys)

-- the surface that a run leads to
pub run_gives : (n : Network) (s now : SurfaceView) (es : List Entry) → RunTo n s es now → now ≡ record s { sites = after_all n.lattice n.rules s.sites (events_of es) }
run_gives n s now [] r = r
run_gives n s now (e ∷ es) r =
    run_gives n r.0 now es r.2
    ∙ ap (λ (x : SurfaceView). record x { sites = after_all n.lattice n.rules x.sites (events_of es) }) r.1.after

-- entries cut by key are events cut by key
pub events-below : (k : Key) (es : List Entry) → events_of (below k es) ≡ below_key k (events_of es)
events-below k [] = refl
events-below k (e ∷ es) =
    elim (cases_Bool (is_before (entry_key e) k)) [
      | inl p ↦ ap (λ b. events_of (cond b (e ∷ below k es) (below k es))) p ∙ (ap (λ l. e.before.event ∷ l) (events-below k es) ∙ sym (ap (λ b. cond b (e.before.event ∷ below_key k (events_of es)) (below_key k (events_of es))) p))
      | inr p ↦ ap (λ b. events_of (cond b (e ∷ below k es) (below k es))) p ∙ (events-below k es ∙ sym (ap (λ b. cond b (e.before.event ∷ below_key k (events_of es)) (below_key k (events_of es))) p))
    ]

pub events-from : (k : Key) (es : List Entry) → events_of (from k es) ≡ from_key k (events_of es)
events-from k [] = refl
events-from k (e ∷ es) =
    elim (cases_Bool (is_before (entry_key e) k)) [
      | inl p ↦ ap (λ b. events_of (cond (not b) (e ∷ from k es) (from k es))) p ∙ (events-from k es ∙ sym (ap (λ b. cond (not b) (e.before.event ∷ from_key k (events_of es)) (from_key k (events_of es))) p))
      | inr p ↦ ap (λ b. events_of (cond (not b) (e ∷ from k es) (from k es))) p ∙ (ap (λ l. e.before.event ∷ l) (events-from k es) ∙ sym (ap (λ b. cond (not b) (e.before.event ∷ from_key k (events_of es)) (from_key k (events_of es))) p))
    ]
