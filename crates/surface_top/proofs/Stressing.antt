-- A run to its end, of which the events are counted alone.
use Rattle.std.proofs.Common.{◌≡◌, ℕ, ◌≤◌, List, [], length, Option, refl, arith, subst}
use Rattle.std.specs.Prelude.{Result, Ok, Err, nat_lt, IsErrOf, ◌≢◌}
use Rattle.std.proofs.lemmas.Bool.Decides.{nat_tests}
use Rattle.surf_kinds.specs.declared.site.SiteState.{SiteState}
use Rattle.surf_outside.specs.Causes.{Rose}
use Rattle.surface_state.specs.SurfaceView.{SurfaceView}
use Rattle.crew.specs.Crews.{CrewView}
use Rattle.run_writer.specs.declared.pages.Stop.{Stop}
use Rattle.run_writer.specs.declared.pages.Stop.TheVariants as stop
use Rattle.surface_top.specs.Ending.{Answered, run_ending}
use Rattle.run_writer.specs.RunText.{Scene, events_of}
use Rattle.run_writer.specs.Runs.{HasEnded}
use Rattle.run_writer.specs.Stops.{IsLimited, EndGains}
use Rattle.run_writer.specs.StressText.{stress_line, stress_text}
use Rattle.surface_top.proofs.RunEnds.{by_limit, ends_whole, ends_limited, ends_failed, ends_unwritten}

stress_some : (number : ℕ) (s : Scene) (sites : List SiteState) → stress_text number s sites ≢ []
unfolding stress_line
stress_some number s sites = λ h. cc

stress_ends : {T : Type 0} (r : Result T Stop) (number : ℕ) (s : Scene) (sites : List SiteState) (old new : Option (List ℕ)) (f n : ℕ) → IsLimited r s sites → EndGains r (stress_text number s sites) old new → (IsErrOf r stop.Write → Rose f n)
    → (IsErrOf r stop.Write → length (events_of s sites) ≤ s.limit) → Answered (by_limit (nat_lt s.limit (length (events_of s sites))) s.limit [] (stress_text number s sites)) (run_ending s.limit r) old new f n
stress_ends (Ok x) number s sites old new f n h g w few = ends_whole _ s.limit [] (stress_text number s sites) old new f n (grind (arith, nat_tests)) g
stress_ends (Err stop.Limit) number s sites old new f n h g w few = ends_limited _ s.limit [] (stress_text number s sites) old new f n (grind (arith, nat_tests)) g
stress_ends (Err stop.Write) number s sites old new f n h g w few =
    let le : length (events_of s sites) ≤ s.limit = few refl in
    ends_failed _ s.limit [] (stress_text number s sites) old new f n (grind (arith, nat_tests)) (stress_some number s sites) g (w refl)
stress_ends (Err stop.Memory) number s sites old new f n h g w few = ends_unwritten _ s.limit [] (stress_text number s sites) old new f n g

-- the same where the scene and the surface are known by other names
pub stress_answers : {T : Type 0} (r : Result T Stop) (number : ℕ) (s t : Scene) (c d : CrewView) (first : SurfaceView) (old new : Option (List ℕ)) (f n : ℕ) → s ≡ t → c.start ≡ first → HasEnded r s c d f n → EndGains r (stress_text number s c.start.sites) old new
    → (IsErrOf r stop.Write → length (events_of s c.start.sites) ≤ s.limit) → Answered (by_limit (nat_lt t.limit (length (events_of t first.sites))) t.limit [] (stress_text number t first.sites)) (run_ending t.limit r) old new f n
stress_answers r number s t c d first old new f n same starts ended gains few =
    subst (λ (x : SurfaceView). Answered (by_limit (nat_lt t.limit (length (events_of t x.sites))) t.limit [] (stress_text number t x.sites)) (run_ending t.limit r) old new f n) starts
    (subst (λ (x : Scene). Answered (by_limit (nat_lt x.limit (length (events_of x c.start.sites))) x.limit [] (stress_text number x c.start.sites)) (run_ending x.limit r) old new f n) same
    (stress_ends r number s c.start.sites old new f n ended.limited gains ended.write few))
