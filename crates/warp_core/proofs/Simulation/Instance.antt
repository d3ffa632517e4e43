-- The simulation is a world of the core, and its times rise.
use Rattle.std.proofs.Common.{◌≡◌, ℕ, ◌+◌, ◌^◌, ◌≤◌, List, [], ◌∷◌, Option, Some, None, ◌==◌, true, inl, refl, sym, ap, ◌∙◌, subst, arith}
use Rattle.std.specs.Prelude.{IsSome}
use Rattle.std.proofs.lemmas.Bool.{eq-eqb, both_ways, false≢true}
use Rattle.std.proofs.lemmas.Bool.Decides.{nat_tests}
use Rattle.surf_kinds.specs.declared.site.SiteState.{SiteState}
use Rattle.surf_kinds.specs.declared.site.Sites.{Sites}
use Rattle.surf_kinds.specs.declared.event.Event.{Event}
use Rattle.surf_kinds.specs.declared.event.Key.{Key}
use Rattle.surf_kinds.specs.Keys.{is_before, key_of, below, AllKeys}
use Rattle.lattice.specs.Shape.{Shape}
use Rattle.lattice.specs.Places.{sites_of, HasSite}
use Rattle.lattice.specs.Surface.{after, after_all as surface_after_all}
use Rattle.plan.specs.Network.{Network}
use Rattle.plan.specs.Next.{next}
use Rattle.plan.specs.History.{history, IsHistory, if_at}
use Rattle.plan.proofs.LawLemmas.{offer_place, offer_later, offer_fits, next_local, fits_is_place, after_elsewhere, offer_after, offer_again, due_next, is_history, rising, at_history}
use Rattle.regions.specs.Bands.{Bands, IsCut, owner_of}
use Rattle.regions.specs.Seen.{sees}
use Rattle.regions.proofs.LawLemmas.{owner_below, sees_own, unseen, not_itself}
use Rattle.warp_core.specs.World.{IsWorld, IsMonotone, after_all}
use Rattle.warp_core.specs.Simulation.{world_of}
use Rattle.warp_core.proofs.Simulation.Local.{after_local}

pub same_after_all : (n : Network) (b : Bands) (until : ℕ) (start : List SiteState) (es : List Event) (sites : List SiteState) → surface_after_all n.lattice n.rules sites es ≡ after_all (world_of n b until start) sites es
same_after_all n b until start [] sites = refl
same_after_all n b until start (e ∷ es) sites = same_after_all n b until start es (after n.lattice n.rules sites e)

pub in_time : (k : Key) (until : ℕ) → k.time ≤ until → is_before k (record { time = until + 1; place = record { 0 = 0 } }) ≡ true
in_time k until h = grind (arith, nat_tests)

time_of : (k : Key) (until : ℕ) → is_before k (record { time = until + 1; place = record { 0 = 0 } }) ≡ true → k.time ≤ until
time_of k until h = grind (arith, nat_tests)

-- all events of a history are within the duration
within_end : (n : Network) (until : ℕ) (es : List Event) (sites : List SiteState) → IsHistory n until sites es → AllKeys (λ k. is_before k (record { time = until + 1; place = record { 0 = 0 } }) ≡ true) es
within_end n until [] sites h = tt
within_end n until (x ∷ es) sites h = (in_time (key_of x) until (due_next n until sites x h.0).1, within_end n until es (after n.lattice n.rules sites x) h.1)

-- an event that is offered comes after the start
after_zero : (n : Network) (p : ℕ) (a : List SiteState) (e : Event) → next n a p ≡ Some e → 1 ≤ e.time
after_zero n p a e h = go (sites_of n.lattice e.place.0) refl (fits_is_place n e.place.0 e.channel (offer_fits n a p e h))
  where
    go : (o : Option Sites) → sites_of n.lattice e.place.0 ≡ o → IsSome o → 1 ≤ e.time
    go None is some = absurd (false≢true some)
    go (Some q) is some =
        let has : HasSite n.lattice p q.first.0 = record { sites = q; is = ap (sites_of n.lattice) (sym (offer_place n a p e h)) ∙ is; among = inl refl } in
        let late = offer_later n a p q.first.0 e h has in
        omega (arith, late.2)

abbrev on : Network → Shape → Network
on n l = record { lattice = l; rules = n.rules; seed = n.seed }

on_cut : (n : Network) (b : Bands) (until : ℕ) (start : List SiteState) → IsCut b → until ≤ 10 ^ 15 → IsWorld (world_of (on n b.lattice) b until start)
on_cut n b until start cut short =
    let m = on n b.lattice in
    record {
      short = short;
      not_itself = not_itself b;
      owned = λ p. owner_below b p cut;
      same_next = λ p x y agree. next_local m p x y (λ k h. agree k (sees_own b p k h));
      same_after = λ i e x y agree s h. after_local b.lattice n.rules e s x y (agree s h);
      unseen = λ i e x no_owner no_told s h. after_elsewhere b.lattice n.rules x e s (λ has.
          both_ways (sees b i s) (unseen b i e.place.0 s (λ is. both_ways (owner_of b e.place.0 == i) no_owner (eq-eqb (owner_of b e.place.0) i is)) no_told has) h);
      at_place = λ p x e h. offer_place m x p e h;
      after_start = λ p x e h. after_zero m p x e h;
      fitting = λ p x e h. offer_fits m x p e h;
      rising = rising m until (history m until start) start (is_history m until start);
      within = within_end m until (history m until start) start (is_history m until start);
      pointwise = λ k h.
          at_history m until (history m until start) start k (is_history m until start) (time_of k until h)
          ∙ ap (λ s. if_at k (next m s k.place.0)) (same_after_all m b until start (below k (history m until start)) start);
    }

pub is_world : (n : Network) (b : Bands) (until : ℕ) (start : List SiteState) → IsCut b → b.lattice ≡ n.lattice → until ≤ 10 ^ 15 → IsWorld (world_of n b until start)
is_world n b until start cut same short = subst (λ l. IsWorld (world_of (on n l) b until start)) same (on_cut n b until start cut short)

pub is_monotone : (n : Network) (b : Bands) (until : ℕ) (start : List SiteState) → IsMonotone (world_of n b until start)
is_monotone n b until start = record { overtaken = λ p a f e h. offer_after n a f e p h; renewed = λ a f e h. offer_again n a f e h }
