-- The answers of an engine, one after the other.
use Rattle.std.proofs.Common.{◌≡◌, ℕ, List, [], ◌∷◌, Some, None, refl, sym, ap, ◌∙◌}
use Rattle.surf_kinds.specs.declared.event.Event.{Event}
use Rattle.lattice.specs.Surface.{after_all}
use Rattle.plan.specs.History.{due}
use Rattle.plan.proofs.LawLemmas.{history_due, history_none}
use Rattle.one_engine.specs.State.{State, fired, fired_all, history_from, IsFiring, AreFirings}

-- events leave the network, and the surface after them
pub fired_network : (s : State) (es : List Event) → (fired_all s es).network ≡ s.network
fired_network s [] = refl
fired_network s (e ∷ es) = fired_network (fired s e) es

pub fired_sites : (s : State) (es : List Event) → (fired_all s es).surface.sites ≡ after_all s.network.lattice s.network.rules s.surface.sites es
fired_sites s [] = refl
fired_sites s (e ∷ es) = fired_sites (fired s e) es

-- the history from a state on, by what is due
pub history_of_none : (until : ℕ) (s : State) → due s.network until s.surface.sites ≡ None → history_from until s ≡ []
history_of_none until s h = history_none s.network until s.surface.sites h

pub history_of_some : (until : ℕ) (s : State) (e : Event) → due s.network until s.surface.sites ≡ Some e → history_from until s ≡ e ∷ history_from until (fired s e)
history_of_some until s e h = history_due s.network until s.surface.sites e h

-- the answers are the history, in order, and leave the state after it
pub firings_are : (until : ℕ) (s t : State) (es : List Event) → AreFirings until s es t → (es ≡ history_from until s) × (t ≡ fired_all s es)
firings_are until s t [] h = (sym (history_of_none until s (sym h.0)), h.1)
firings_are until s t (e ∷ es) h =
    let f : IsFiring until s (Some e) h.0 = h.1 in
    let rest = firings_are until h.0 t es h.2 in (
      ap (λ xs. e ∷ xs) (rest.0 ∙ ap (history_from until) f.1) ∙ sym (history_of_some until s e (sym f.0)),
      rest.1 ∙ ap (λ u. fired_all u es) f.1,
    )
