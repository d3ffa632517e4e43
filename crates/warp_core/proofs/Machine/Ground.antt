-- What holds of the ground that a region's guesses stand on.
use Rattle.std.proofs.Common.{◌≡◌, ℕ, zero, suc, Bool, ◌^◌, ◌≤◌, List, [], ◌∷◌, ◌++◌, Option, Some, None, refl, sym, ap, ◌∙◌, subst, arith, append_assoc}
use Rattle.std.specs.Prelude.{All, IfSome, IsSome}
use Rattle.std.specs.List.{last_or}
use Rattle.surf_kinds.specs.declared.event.Event.{Event}
use Rattle.surf_kinds.specs.declared.event.Key.{Key}
use Rattle.surf_kinds.specs.declared.site.SpeciesId.{SpeciesId}
use Rattle.surf_kinds.specs.declared.site.SiteState.{SiteState}
use Rattle.surf_kinds.specs.Keys.{is_before, key_of, AllKeys, IsRising, RiseStrictly, ◌is_below◌, keep, below as below_key}
use Rattle.surf_kinds.proofs.Rising.{strictly, parted}
use Rattle.surf_kinds.proofs.Tables.{AllKeys_keep, AllKeys_append, IsRising_keep}
use Rattle.lattice.specs.Places.{IsPlace}
use Rattle.lattice.specs.Surface.{after, after_all, first_surface, end_time, last_from, HasRoom}
use Rattle.lattice.proofs.LawLemmas.{seven, last_at_most, room_at}
use Rattle.plan.specs.Network.{Network}
use Rattle.plan.specs.Bounds.{IsWithinBounds}
use Rattle.plan.specs.Products.{products_of}
use Rattle.surface_state.specs.SurfaceView.{SurfaceView}
use Rattle.surface_state.specs.Changes.{applied, IsBefore, IsBelow}
use Rattle.surface_state.proofs.LawLemmas.{applied_after}
use Rattle.timeline.specs.declared.entry.Entry.{Entry}
use Rattle.timeline.specs.TimelineView.{events_of, IsLater, below, from}
use Rattle.timeline.specs.Led.{LedTo}
use Rattle.timeline.proofs.LawLemmas.{step_applied, parts}
use Rattle.warp_core.specs.Grounds.{IsStepBy, RunTo, IsTimely, IsGround, ArePlaces}
use Rattle.plan.specs.Products.{LeavesWithin}
use Rattle.warp_core.proofs.Machine.Runs.{led, run_parted, run_pushed, run_gives, events-append, events-below, events-from}

-- lists of events

pub sites-append : (n : Network) (sites : List SiteState) (xs ys : List Event) → after_all n.lattice n.rules sites (xs ++ ys) ≡ after_all n.lattice n.rules (after_all n.lattice n.rules sites xs) ys
sites-append n sites [] ys = refl
sites-append n sites (x ∷ xs) ys = sites-append n (after n.lattice n.rules sites x) xs ys

rising_push : (xs : List Event) (e : Event) → IsRising xs → AllKeys (λ k. k is_below key_of e) xs → IsRising (xs ++ e ∷ [])
rising_push [] e r all = (tt, tt)
rising_push (x ∷ xs) e r all = (more xs r.0, rising_push xs e r.1 all.1)
  where
    more : (ys : List Event) → AllKeys (λ k. key_of x is_below k) ys → AllKeys (λ k. key_of x is_below k) (ys ++ e ∷ [])
    more [] a = (all.0, tt)
    more (y ∷ ys) a = (a.0, more ys a.1)

pub all_right : (P : Key → Type 0) (xs ys : List Event) → AllKeys P (xs ++ ys) → AllKeys P ys
all_right P [] ys all = all
all_right P (x ∷ xs) ys all = all_right P xs ys all.1

all_left : (P : Key → Type 0) (xs ys : List Event) → AllKeys P (xs ++ ys) → AllKeys P xs
all_left P [] ys all = tt
all_left P (x ∷ xs) ys all = (all.0, all_left P xs ys all.1)

pub rising_right : (xs ys : List Event) → IsRising (xs ++ ys) → IsRising ys
rising_right [] ys r = r
rising_right (x ∷ xs) ys r = rising_right xs ys r.1

-- a list that rises still does where only some of its last part are kept
rising_kept : (test : Key → Bool) (xs ys : List Event) → IsRising (xs ++ ys) → IsRising (xs ++ keep test ys)
rising_kept test [] ys r = IsRising_keep test ys r
rising_kept test (x ∷ xs) ys r = (AllKeys_append (λ k. key_of x is_below k) xs (keep test ys) (all_left (λ k. key_of x is_below k) xs ys r.0) (AllKeys_keep (λ k. key_of x is_below k) test ys (all_right (λ k. key_of x is_below k) xs ys r.0)), rising_kept test xs ys r.1)

-- what holds of the keys holds of the events
each_event : (P : Key → Type 0) (es : List Event) → AllKeys P es → All (λ e. P (key_of e)) es
each_event P [] all k d h = absurd (omega (arith, h))
each_event P (e ∷ es) all zero d h = all.0
each_event P (e ∷ es) all (suc k) d h = each_event P es all.1 k d (omega (arith, h))

late_from : (e : Event) (es : List Event) → AllKeys IsTimely (e ∷ es) → (last_from e es).time ≤ 10 ^ 15
late_from e [] all = all.0.1
late_from e (f ∷ fs) all = late_from f fs all.1

late : (es : List Event) → AllKeys IsTimely es → end_time es ≤ 10 ^ 15
late [] all = omega arith
late (e ∷ es) all = late_from e es all

-- the surface

module _ (n : Network) (cells : List SpeciesId) (past : List Event) (base : SurfaceView) (es : List Entry) (s : SurfaceView) (g : IsGround n cells past base es s) where
  whole : s ≡ record base { sites = after_all n.lattice n.rules base.sites (events_of es) }
  whole = run_gives n base s es g.run

  pub ground_sites : s.sites ≡ after_all n.lattice n.rules base.sites (events_of es)
  ground_sites = ap (λ (x : SurfaceView). x.sites) whole

  pub ground_lattice : s.lattice ≡ n.lattice
  ground_lattice = ap (λ (x : SurfaceView). x.lattice) whole ∙ g.lattice

  pub ground_species : All (LeavesWithin s.species_count) n.rules
  ground_species = subst (λ k. All (LeavesWithin k) n.rules) (sym (ap (λ (x : SurfaceView). x.species_count) whole)) g.species

  sites_are : s.sites ≡ after_all n.lattice n.rules (first_surface cells) (past ++ events_of es)
  sites_are =
      ap (λ (x : SurfaceView). x.sites) whole
      ∙ (ap (λ x. after_all n.lattice n.rules x (events_of es)) g.start
      ∙ sym (sites-append n (first_surface cells) past (events_of es)))

  from_first : All (λ e. 1 ≤ e.time) (past ++ events_of es)
  from_first k d h = (each_event IsTimely (past ++ events_of es) g.timely k d h).0

  pub ground_bounds : All IsWithinBounds s.sites
  ground_bounds =
      subst (All IsWithinBounds) (sym sites_are)
      (λ k d h.
      let rising = strictly (past ++ events_of es) g.rising in
      let v = seven n.lattice n.rules cells (past ++ events_of es) rising from_first k d h in
      let t = last_at_most n.lattice n.rules cells (past ++ events_of es) rising from_first k d h in
      record { version = omega (arith, v, t, late (past ++ events_of es) g.timely); last = omega (arith, t, late (past ++ events_of es) g.timely) })

  pub ground_room : (place : ℕ) → HasRoom s.lattice s.sites place
  ground_room place = room_at s.lattice s.sites place (λ k d h. (ground_bounds k d h).version)

  pub step_by : (e : Event) (entry : Entry) (to : SpeciesId × Option SpeciesId) (now : SurfaceView)
      → Some to ≡ products_of n.rules e.channel → entry.before.event ≡ e → now ≡ applied s e to → IsBefore s entry.before → IsBelow s.species_count entry.before
      → IsStepBy n s entry now
  step_by e entry to now products is left stood known =
      record {
        step = step_applied s now e to entry is left stood known;
        after = left ∙ ap (λ (xs : List SiteState). record s { sites = xs })
            (applied_after s n.rules e to products ∙ (ap (λ l. after l n.rules s.sites e) ground_lattice ∙ ap (after n.lattice n.rules s.sites) (sym is)));
      }

  pub push_ground : (e : Event) (entry : Entry) (now : SurfaceView)
      → AllKeys (λ k. k is_below key_of e) (past ++ events_of es) → IsTimely (key_of e) → entry.before.event ≡ e → IsStepBy n s entry now
      → IsGround n cells past base (es ++ entry ∷ []) now
  push_ground e entry now below timely is step =
      let more : past ++ events_of (es ++ entry ∷ []) ≡ (past ++ events_of es) ++ e ∷ [] =
      ap (λ l. past ++ l) (events-append es (entry ∷ []) ∙ ap (λ x. events_of es ++ x ∷ []) is) ∙ sym (append_assoc past (events_of es) (e ∷ [])) in
      record {
        lattice = g.lattice;
        species = g.species;
        start = g.start;
        rising = subst IsRising (sym more) (rising_push (past ++ events_of es) e g.rising below);
        timely = subst (AllKeys IsTimely) (sym more) (AllKeys_append IsTimely (past ++ events_of es) (e ∷ []) g.timely (timely, tt));
        run = run_pushed n base s now es entry g.run step;
      }

  -- cut at a key, with the surface that stood before the entries that went
  pub cut_ground : (k : Key) (now : SurfaceView) → ((stood : SurfaceView) → LedTo stood (from k es) s → now ≡ stood) → IsGround n cells past base (below k es) now
  cut_ground k now back =
      let rise : RiseStrictly (events_of es) = strictly (events_of es) (rising_right past (events_of es) g.rising) in
      let p = run_parted n base s (below k es) (from k es) (subst (λ l. RunTo n base l s) (parts k es rise) g.run) in
      let here : now ≡ p.0 = back p.0 (led n p.0 s (from k es) p.2) in
      record {
        lattice = g.lattice;
        species = g.species;
        start = g.start;
        rising = subst (λ l. IsRising (past ++ l)) (sym (events-below k es)) (rising_kept (λ j. is_before j k) past (events_of es) g.rising);
        timely = subst (λ l. AllKeys IsTimely (past ++ l)) (sym (events-below k es)) (AllKeys_append IsTimely past (below_key k (events_of es)) (all_left IsTimely past (events_of es) g.timely) (AllKeys_keep IsTimely (λ j. is_before j k) (events_of es) (all_right IsTimely past (events_of es) g.timely)));
        run = subst (λ t. RunTo n base (below k es) t) (sym here) p.1;
      }

  -- without the entries below a key: they go into the base
  pub drop_ground : (k : Key) → (mid : SurfaceView) × IsGround n cells (past ++ below_key k (events_of es)) mid (from k es) s × (mid.sites ≡ after_all n.lattice n.rules base.sites (below_key k (events_of es)))
  drop_ground k =
      let line : IsRising (events_of es) = rising_right past (events_of es) g.rising in
      let p = run_parted n base s (below k es) (from k es) (subst (λ l. RunTo n base l s) (parts k es (strictly (events_of es) line)) g.run) in
      let given = run_gives n base p.0 (below k es) p.1 in
      let sites : p.0.sites ≡ after_all n.lattice n.rules base.sites (below_key k (events_of es)) = ap (λ (x : SurfaceView). x.sites) given ∙ ap (after_all n.lattice n.rules base.sites) (events-below k es) in
      let whole_list : (past ++ below_key k (events_of es)) ++ events_of (from k es) ≡ past ++ events_of es =
      append_assoc past (below_key k (events_of es)) (events_of (from k es)) ∙ ap (λ l. past ++ l) (ap (λ l. below_key k (events_of es) ++ l) (events-from k es) ∙ sym (parted k (events_of es) line)) in (
        p.0,
        record {
          lattice = ap (λ (x : SurfaceView). x.lattice) given ∙ g.lattice;
          species = subst (λ m. All (LeavesWithin m) n.rules) (sym (ap (λ (x : SurfaceView). x.species_count) given)) g.species;
          start = sites ∙ (ap (λ x. after_all n.lattice n.rules x (below_key k (events_of es))) g.start ∙ sym (sites-append n (first_surface cells) past (below_key k (events_of es))));
          rising = subst IsRising (sym whole_list) g.rising;
          timely = subst (AllKeys IsTimely) (sym whole_list) g.timely;
          run = p.2;
        },
        sites,
      )

-- the entries are at places
pub run_places : (n : Network) (s now : SurfaceView) (es : List Entry) → s.lattice ≡ n.lattice → RunTo n s es now → ArePlaces n.lattice es
run_places n s now [] same r = tt
run_places n s now (e ∷ es) same r = (
  subst (λ l. IsPlace l e.before.event.place.0) same (subst IsSome (sym r.1.step.stood.is) refl),
  run_places n r.0 now es (ap (λ (x : SurfaceView). x.lattice) r.1.after ∙ same) r.2,
)

-- the key of the last of the entries
last_key : (P : Key → Type 0) (o : Option Entry) (es : List Entry) → IfSome o (λ e. P (key_of e.before.event)) → AllKeys P (events_of es) → IfSome (last_or o es) (λ e. P (key_of e.before.event))
last_key P o [] h all = h
last_key P o (e ∷ es) h all = last_key P (Some e) es all.0 all.1

pub is_later : (past : List Event) (es : List Entry) (e : Event) (entry : Entry) → entry.before.event ≡ e → AllKeys (λ k. k is_below key_of e) (past ++ events_of es) → IsLater es entry
is_later past es e entry is all =
    subst (λ (x : Event). IfSome (last_or None es) (λ last. key_of last.before.event is_below key_of x)) (sym is)
    (last_key (λ k. k is_below key_of e) None es tt (all_right (λ k. k is_below key_of e) past (events_of es) all))
