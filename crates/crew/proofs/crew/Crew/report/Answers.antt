use Rattle.std.proofs.Common.{◌≡◌, ◌<◌, ◌+◌, ◌-◌, ◌==◌, ◌∙◌, sym, ap, subst, if◌then◌else◌}
use Rattle.warp_core.specs.World.{end_key}
use Rattle.crew.specs.Crews.{CrewView, world_in}
use Rattle.crew.specs.Reports.{added_in_all, forgotten_in_all, cut_in_all, fired_in_all}
use Rattle.crew.proofs.Finished.{all_handed_out, fired_is}
use Rattle.crew.proofs.crew.Crew.report.Goals as goal

pub returns-clause-few : goal.returns-clause-few
returns-clause-few c = c.self.invariant.few

pub returns-clause-all : goal.returns-clause-all
returns-clause-all c = rw (← c.self.view_is) (all_handed_out _ c.self.invariant)

pub returns-clause-balanced : goal.returns-clause-balanced
returns-clause-balanced c finished low =
    let added : c.of-sums.result.added ≡ added_in_all c.self.inside.regions.items = c.of-sums.ensures.added ∙ ap added_in_all c.deref.ensures.value in
    let forgotten : c.of-sums.result.forgotten ≡ forgotten_in_all c.self.inside.regions.items = c.of-sums.ensures.forgotten ∙ ap forgotten_in_all c.deref.ensures.value in
    let cancelled : c.of-sums.result.cut ≡ cut_in_all c.self.inside.regions.items = c.of-sums.ensures.cut ∙ ap cut_in_all c.deref.ensures.value in
    let fired : c.fired.result ≡ fired_in_all c.self.inside.regions.items = c.fired.ensures ∙ (λ e. if added e == 18446744073709551615 then 18446744073709551615 else added e - forgotten e) in
    fired
    ∙ (fired_is _ c.self.invariant (subst (λ (v : CrewView). v.horizon ≡ end_key (world_in v)) (sym c.self.view_is) finished) (subst (λ n. n < 18446744073709551615) fired low)
    ∙ ap (λ n. c.self.inside.committed + n) (sym cancelled))
