-- What an engine has fired of the history.
use Rattle.std.proofs.Common.{◌≡◌, ℕ, suc, ◌+◌, ◌<◌, ◌≤◌, List, [], ◌∷◌, ◌++◌, length, take, drop, get_or, refl, sym, ap, ◌∙◌, arith, take_all, drop-cons}
use Rattle.std.proofs.lemmas.List.{take_more, drop_all, length-drop, length-take-le}
use Rattle.surf_kinds.specs.declared.event.Event.{Event}
use Rattle.lattice.specs.Surface.{last_from, end_time}
use Rattle.one_engine.specs.State.{State, fired, fired_all, history_from}
use Rattle.ensemble.specs.Running.{HasFired}

fired_snoc : (s : State) (es : List Event) (e : Event) → fired (fired_all s es) e ≡ fired_all s (es ++ e ∷ [])
fired_snoc s [] e = refl
fired_snoc s (x ∷ xs) e = fired_snoc (fired s x) xs e

last_snoc : (x e : Event) (es : List Event) → (last_from x (es ++ e ∷ [])).time ≡ e.time
last_snoc x e [] = refl
last_snoc x e (y ∷ ys) = last_snoc y e ys

end_snoc : (es : List Event) (e : Event) → end_time (es ++ e ∷ []) ≡ e.time
end_snoc [] e = refl
end_snoc (x ∷ xs) e = last_snoc x e xs

abbrev head_of : Event → List Event → Event
head_of d [] = d
head_of d (e ∷ es) = e

abbrev tail_of : List Event → List Event
tail_of [] = []
tail_of (e ∷ es) = es

-- where an event stands at a place of a list, the list is the events before it, it, and the rest
module _ (es : List Event) (i : ℕ) (e : Event) (rest : List Event) (at : drop i es ≡ e ∷ rest) where
  within : i < length es
  within = let n = ap length at in let m = length-drop i es in omega (arith, n, m)

  here : get_or es i e ∷ drop (suc i) es ≡ e ∷ rest
  here = sym (drop-cons es i e within) ∙ at

  one_more : take (i + 1) es ≡ take i es ++ e ∷ []
  one_more = take_more es i e within ∙ ap (λ x. take i es ++ x ∷ []) (ap (head_of e) here)

  one_less : drop (i + 1) es ≡ rest
  one_less = let n : i + 1 ≡ suc i = omega arith in ap (λ k. drop k es) n ∙ ap tail_of here

-- nothing was fired yet
pub fired_start : (until : ℕ) (s : State) → HasFired until 0 s s 0 0
fired_start until s = record { state = refl; rest = refl; events = refl; last = refl }

-- one event more
pub fired_more : (until i events last : ℕ) (s t u : State) (e : Event) → HasFired until i s t events last → history_from until t ≡ e ∷ history_from until u → u ≡ fired t e → HasFired until (i + 1) s u (i + 1) e.time
fired_more until i events last s t u e f next is =
    let h = history_from until s in
    let at : drop i h ≡ e ∷ history_from until u = sym f.rest ∙ next in
    let more = one_more h i e (history_from until u) at in
    let long = within h i e (history_from until u) at in
    record {
      state = is ∙ (ap (λ (x : State). fired x e) f.state ∙ (fired_snoc s (take i h) e ∙ ap (fired_all s) (sym more)));
      rest = sym (one_less h i e (history_from until u) at);
      events = let n = length-take-le (i + 1) h (omega (arith, long)) in sym n;
      last = sym (ap end_time more ∙ end_snoc (take i h) e);
    }

-- none is due any more
pub fired_out : (until i n events last : ℕ) (s t : State) → HasFired until i s t events last → i ≤ n → history_from until t ≡ [] → HasFired until n s t events last
fired_out until i n events last s t f le none =
    let h = history_from until s in
    let nothing = ap length (sym f.rest ∙ none) in
    let rest = length-drop i h in
    let short : length h ≤ i = omega (arith, nothing, rest) in
    let same : take i h ≡ take n h = take_all i h short ∙ sym (take_all n h (omega (arith, short, le))) in
    record {
      state = f.state ∙ ap (fired_all s) same;
      rest = none ∙ sym (drop_all n h (omega (arith, short, le)));
      events = f.events ∙ ap length same;
      last = f.last ∙ ap end_time same;
    }
