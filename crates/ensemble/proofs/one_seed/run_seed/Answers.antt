use Rattle.std.proofs.Common.{◌≡◌, Bool, true, false, not, refl, sym, ap, ◌∙◌}
use Rattle.surface_state.specs.SurfaceView.{SurfaceView}
use Rattle.trace_text.specs.Lines.{counts_of}
use Rattle.ensemble.specs.declared.outcome.Outcome.{Outcome}
use Rattle.ensemble.specs.Outcomes.{history_with, outcome_within}
use Rattle.ensemble.proofs.Outcoming.{outcome_is}
use Rattle.ensemble.proofs.one_seed.run_seed.Goals as goal

not_not : (b : Bool) → b ≡ not (not b)
not_not true = refl
not_not false = refl

pub returns : goal.returns
returns c =
    let m = c.args.m.now in
    let s = c.args.settings in
    let seed = c.seed_at-seed.result in
    let fired = c.fire_at_most-events.result in
    let counts = c.in_ok-counts.counts in
    let counted = c.in_ok-counts.ensures ∙ ap (λ (x : SurfaceView). counts_of x.sites x.species_count) c.surface.ensures.surface in
    ap (λ (b : Bool). let o : Outcome = record { seed = seed; events = fired.0; last = fired.1; ended = b; counts = counts } in o) (not_not c.is_none-ended.result ∙ ap not (sym c.is_none-ended.ensures))
    ∙ (outcome_is s.until s.limit m seed c.in_ok-engine.engine c.fire_at_most-events.new.engine c.fire.new.self fired.0 fired.1 counts c.fire.result c.in_ok-engine.ensures c.fire_at_most-events.ensures counted c.fire.ensures.history
    ∙ ap (λ x. outcome_within s.limit m x (history_with m x s.until)) c.seed_at-seed.ensures)
