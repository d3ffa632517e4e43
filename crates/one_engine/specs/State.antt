-- What an engine is seen as, and what its calls make of it.
use Rattle.std.specs.Prelude.{◌≡◌, ℕ, List, [], ◌∷◌, Option, Some, None, MatchOption}
use Rattle.surf_kinds.specs.declared.event.Event.{Event}
use Rattle.lattice.specs.Surface.{after}
use Rattle.plan.specs.Network.{Network}
use Rattle.plan.specs.History.{due, history}
pub use Rattle.plan.specs.Products.{LeavesWithin}
use Rattle.surface_state.specs.SurfaceView.{SurfaceView}

-- the rules on a lattice with the seed of their draws, and what stands at the sites
pub record State : Type 0 where
  pub network : Network
  pub surface : SurfaceView

-- the state with the surface after the event
abbrev pub fired : State → Event → State
fired s e = record s { surface = record s.surface { sites = after s.network.lattice s.network.rules s.surface.sites e } }

-- after events, from the first to the last
abbrev pub fired_all : State → List Event → State
fired_all s [] = s
fired_all s (e ∷ es) = fired_all (fired s e) es

-- the history from this state on
abbrev pub history_from : ℕ → State → List Event
history_from until s = history s.network until s.surface.sites

-- what a call of `fire` answers in the state s, and the state that it leaves
abbrev pub IsFiring : ℕ → State → Option Event → State → Type 0
IsFiring until s answer t = (answer ≡ due s.network until s.surface.sites) × MatchOption answer (t ≡ s) (λ e. t ≡ fired s e)

-- calls of `fire`, one after the other, answer these events and then None, and leave the state t
abbrev pub AreFirings : ℕ → State → List Event → State → Type 0
AreFirings until s [] t = IsFiring until s None t
AreFirings until s (e ∷ es) t = (u : State) × IsFiring until s (Some e) u × AreFirings until u es t
