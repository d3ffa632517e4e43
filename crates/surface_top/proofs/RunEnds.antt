-- How a call ends after a run.
use Rattle.std.proofs.Common.{rules, ◌≡◌, ℕ, Bool, true, false, cond, List, [], ◌∷◌, ◌++◌, length, Option, refl, sym, ap, ◌∙◌, subst, arith}
use Rattle.std.specs.Prelude.{All, Result, Ok, Err, nat_lt, unwrap_or, IsErrOf, ◌≢◌, ◌==◌}
use Rattle.surf_kinds.specs.declared.event.Event.{Event}
use Rattle.std.proofs.lemmas.Bool.Decides.{nat_tests}
use Rattle.std.specs.Io.KnownBytes.{Appends}
use Rattle.surf_outside.specs.Causes.{Rose}
use Rattle.surf_outside.specs.Known.{AppendsPrefix}
use Rattle.surf_kinds.specs.declared.site.SiteState.{SiteState}
use Rattle.run_writer.specs.declared.pages.Stop.{Stop}
use Rattle.run_writer.specs.declared.pages.Stop.TheVariants as stop
use Rattle.surface_top.specs.declared.ending.Ending.TheVariants as ending
use Rattle.manifest_read.specs.declared.manifest.Manifest.{Manifest}
use Rattle.surf_kinds.specs.declared.rule.Rule.{Rule}
use Rattle.surf_kinds.specs.declared.rule.Rule.TheVariants.{One, Two}
use Rattle.manifest_read.specs.Sound.{IsKnownRule, IsSound}
use Rattle.plan.specs.Network.{Network}
use Rattle.plan.specs.Products.{LeavesWithin}
use Rattle.surface_state.specs.SurfaceView.{SurfaceView}
use Rattle.crew.specs.Crews.{CrewView}
use Rattle.run_writer.specs.declared.writer.Span.{Span}
use Rattle.surface_top.specs.declared.run.RunOptions.{RunOptions}
use Rattle.surface_top.specs.Crewed.{network_of, first_of}
use Rattle.surface_top.specs.Answer.{Answer, Text, EventLimit, scene_of}
use Rattle.surface_top.specs.Ending.{Answered, run_ending}
use Rattle.trace_text.specs.Lines.{event_text, end_text, limit_text}
use Rattle.run_writer.specs.RunText.{Scene, Reached, events_of, shown, ticks_before, reached, start, text_from, run_text}
use Rattle.run_writer.specs.Runs.{HasRun}
use Rattle.run_writer.specs.Stops.{IsLimited, RunGains}
use Rattle.run_writer.specs.Writing.{scene}

-- a text that is cut to another where a limit was passed
abbrev pub by_limit : Bool → ℕ → List ℕ → List ℕ → Answer
by_limit over limit cut text = cond over (EventLimit limit cut) (Text text)

pub ends_whole : (over : Bool) (limit : ℕ) (cut text : List ℕ) (old new : Option (List ℕ)) (f n : ℕ) → over ≡ false → Appends old new text → Answered (by_limit over limit cut text) ending.Done old new f n
ends_whole false limit cut text old new f n h g = record { is_of = (text, refl); gains = g; write = search rules; read = search rules }
ends_whole true limit cut text old new f n h g = search rules

pub ends_limited : (over : Bool) (limit : ℕ) (cut text : List ℕ) (old new : Option (List ℕ)) (f n : ℕ) → over ≡ true → Appends old new cut → Answered (by_limit over limit cut text) (ending.EventLimit limit) old new f n
ends_limited true limit cut text old new f n h g = record { is_of = (cut, refl); gains = g; write = search rules; read = search rules }
ends_limited false limit cut text old new f n h g = search rules

-- a write failed

pub ends_failed : (over : Bool) (limit : ℕ) (cut text : List ℕ) (old new : Option (List ℕ)) (f n : ℕ) → over ≡ false → text ≢ [] → AppendsPrefix old new text → Rose f n → Answered (by_limit over limit cut text) ending.WriteFault old new f n
ends_failed false limit cut text old new f n h some g w = record { is_of = some; gains = g; write = λ _. w; read = search rules }
ends_failed true limit cut text old new f n h some g w = search rules

ends_stopped : (over : Bool) (limit : ℕ) (text : List ℕ) (old new : Option (List ℕ)) (f n : ℕ) → text ≢ [] → AppendsPrefix old new text → Rose f n → Answered (by_limit over limit text text) ending.WriteFault old new f n
ends_stopped false limit text old new f n some g w = record { is_of = some; gains = g; write = λ _. w; read = search rules }
ends_stopped true limit text old new f n some g w = record { is_of = some; gains = g; write = λ _. w; read = search rules }

-- memory ran out

pub ends_unwritten : (over : Bool) (limit : ℕ) (cut text : List ℕ) (old new : Option (List ℕ)) (f n : ℕ) → Appends old new [] → Answered (by_limit over limit cut text) ending.Memory old new f n
ends_unwritten false limit cut text old new f n g = record { is_of = tt; gains = (0, g); write = search rules; read = search rules }
ends_unwritten true limit cut text old new f n g = record { is_of = tt; gains = (0, g); write = search rules; read = search rules }

ends_wanting : (over : Bool) (limit : ℕ) (text : List ℕ) (old new : Option (List ℕ)) (f n : ℕ) → AppendsPrefix old new text → Answered (by_limit over limit text text) ending.Memory old new f n
ends_wanting false limit text old new f n g = record { is_of = tt; gains = g; write = search rules; read = search rules }
ends_wanting true limit text old new f n g = record { is_of = tt; gains = g; write = search rules; read = search rules }

-- a run text has a last line

pub behind_some : (x y : List ℕ) → y ≢ [] → x ++ y ≢ []
behind_some [] y h = h
behind_some (c ∷ x) y h = λ e. cc

end_some : (until events : ℕ) → end_text until events ≢ []
unfolding end_text
end_some until events = λ e. cc

limit_some : (limit : ℕ) → limit_text limit ≢ []
unfolding limit_text
limit_some limit = λ e. cc

event_some : (cols : ℕ) (e : Event) (rest : List ℕ) → event_text cols e ++ rest ≢ []
unfolding event_text
event_some cols e rest = λ h. cc

next_some : (full : Bool) (s : Scene) (e : Event) (rest : List ℕ) → cond full (limit_text s.limit) (event_text s.network.lattice.cols e ++ rest) ≢ []
next_some true s e rest = limit_some s.limit
next_some false s e rest = event_some s.network.lattice.cols e rest

text_some : (es : List Event) (s : Scene) (r : Reached) → text_from es s r ≢ []
unfolding text_from
text_some [] s r = behind_some (shown s r r.ticks) (end_text s.until r.events) (end_some s.until r.events)
text_some (e ∷ es) s r = behind_some (shown s r (ticks_before e.time r.ticks)) _ (next_some (r.events == s.limit) s e (text_from es s (reached s r e)))

run_text_some : (s : Scene) (sites : List SiteState) → run_text s sites ≢ []
run_text_some s sites = text_some (events_of s sites) s (start s sites)

-- a run ends as its answer wants
run_ends : {T : Type 0} (r : Result T Stop) (s : Scene) (sites : List SiteState) (old new : Option (List ℕ)) (f n : ℕ) → IsLimited r s sites → RunGains r (run_text s sites) old new → (IsErrOf r stop.Write → Rose f n) → Answered (by_limit (nat_lt s.limit (length (events_of s sites))) s.limit (run_text s sites) (run_text s sites)) (run_ending s.limit r) old new f n
run_ends (Ok x) s sites old new f n h g w = ends_whole _ s.limit (run_text s sites) (run_text s sites) old new f n (grind (arith, nat_tests)) g
run_ends (Err stop.Limit) s sites old new f n h g w = ends_limited _ s.limit (run_text s sites) (run_text s sites) old new f n (grind (arith, nat_tests)) g
run_ends (Err stop.Write) s sites old new f n h g w = ends_stopped _ s.limit (run_text s sites) old new f n (run_text_some s sites) g (w refl)
run_ends (Err stop.Memory) s sites old new f n h g w = ends_wanting _ s.limit (run_text s sites) old new f n g

-- the same where the scene and the surface are known by other names
pub run_answers : {T : Type 0} (r : Result T Stop) (s t : Scene) (c d : CrewView) (first : SurfaceView) (old new : Option (List ℕ)) (f n : ℕ) → s ≡ t → c.start ≡ first → HasRun r s c d old new f n
    → Answered (by_limit (nat_lt t.limit (length (events_of t first.sites))) t.limit (run_text t first.sites) (run_text t first.sites)) (run_ending t.limit r) old new f n
run_answers r s t c d first old new f n same starts run =
    subst (λ (x : SurfaceView). Answered (by_limit (nat_lt t.limit (length (events_of t x.sites))) t.limit (run_text t x.sites) (run_text t x.sites)) (run_ending t.limit r) old new f n) starts
    (subst (λ (x : Scene). Answered (by_limit (nat_lt x.limit (length (events_of x c.start.sites))) x.limit (run_text x c.start.sites) (run_text x c.start.sites)) (run_ending x.limit r) old new f n) same
    (run_ends r s c.start.sites old new f n run.ended.limited run.text run.ended.write))

-- the scene that a manifest with these words makes
pub scene_is : (m : Manifest) (plan : Network) (seed until : Option ℕ) (samples limit s u : ℕ) → plan ≡ record { lattice = m.lattice; rules = m.rules; seed = s } → s ≡ unwrap_or seed m.seed → u ≡ unwrap_or until m.until → scene m.names plan (record { until = u; samples = samples; limit = limit }) ≡ scene_of seed until samples limit m
scene_is m plan seed until samples limit s u p is iu =
    ap (λ x. scene m.names x (record { until = u; samples = samples; limit = limit })) p
    ∙ (ap (λ x. scene m.names (record { lattice = m.lattice; rules = m.rules; seed = x }) (record { until = u; samples = samples; limit = limit })) is
    ∙ ap (λ x. scene m.names (record { lattice = m.lattice; rules = m.rules; seed = unwrap_or seed m.seed }) (record { until = x; samples = samples; limit = limit })) iu)

-- the scene of a run at its start is that of the options
pub started_scene : (m : Manifest) (o : RunOptions) (plan : Network) (span : Span) → plan ≡ network_of (unwrap_or o.seed m.seed) m → span ≡ record { until = unwrap_or o.until m.until; samples = o.samples; limit = o.limit } → scene m.names plan span ≡ scene_of o.seed o.until o.samples o.limit m
started_scene m o plan span p is =
    ap (scene m.names plan) is ∙ scene_is m plan o.seed o.until o.samples o.limit (unwrap_or o.seed m.seed) (unwrap_or o.until m.until) p refl refl

-- the rules of a sound manifest leave species that the first surface knows

known_leaves : (count : ℕ) (r : Rule) → IsKnownRule count r → LeavesWithin count r
known_leaves count (One rate a c) known = known.1
known_leaves count (Two rate a b c d) known = (known.2, known.3)

pub started_leaves : (m : Manifest) (seed : ℕ) (plan : Network) (first : SurfaceView) → IsSound m → plan ≡ network_of seed m → first ≡ first_of m → All (LeavesWithin first.species_count) plan.rules
started_leaves m seed plan first sound same_plan same_first =
    subst (λ (x : Network). All (LeavesWithin first.species_count) x.rules) (sym same_plan)
    (subst (λ (x : SurfaceView). All (LeavesWithin x.species_count) m.rules) (sym same_first) (λ k d inside. known_leaves (length m.names) _ (sound.rules k d inside)))
