-- The first of the events that a region's places offer and its stacks have is its next entry.
use Rattle.std.proofs.Common.{◌≡◌, ℕ, zero, suc, ◌+◌, ◌*◌, ◌<◌, ◌≤◌, Bool, true, false, ◌&&◌, ◌==◌, ◌⊎◌, inl, inr, List, [], ◌∷◌, refl, sym, ap, ◌∙◌, subst, arith, Option, Some, None, cond}
use Rattle.std.specs.Prelude.{not, nat_le, IsSome}
use Rattle.std.proofs.lemmas.Bool.{both_ways, cases_Bool, and_parts, and_cases, and_from, not-true, not_from_false, leb-true, le-leb, eqb-true, eq-eqb, false≢true}
use Rattle.std.proofs.lemmas.Bool.Decides.{nat_tests, eqb_tells}
use Rattle.std.proofs.lemmas.Option.{none-some, same_Some}
use Rattle.surf_kinds.specs.declared.event.Event.{Event}
use Rattle.surf_kinds.specs.declared.event.Key.{Key}
use Rattle.surf_kinds.specs.declared.site.Sites.{Sites}
use Rattle.surf_kinds.specs.declared.site.SiteState.{SiteState}
use Rattle.surf_kinds.specs.Keys.{is_before, same_key, key_of, at, AllKeys, IsRising, ◌is_upto◌, ◌is_below◌}
use Rattle.surf_kinds.proofs.Order.{le_refl, lt_le, le_le, lt_to_le, lt_not_le, same_refl, same_is, above_not_same}
use Rattle.surf_kinds.proofs.Tables.{none_or_some}
use Rattle.lattice.specs.Places.{sites_of}
use Rattle.lattice.proofs.LawLemmas.{place_below}
use Rattle.plan.specs.Network.{Network}
use Rattle.plan.specs.Next.{next}
use Rattle.plan.proofs.LawLemmas.{offer_place, offer_fits, fits_is_place}
use Rattle.surf_kinds.specs.Steps.{end_of_places}
use Rattle.regions.specs.Bands.{Bands, owner_of}
use Rattle.plan.specs.History.{if_at}
use Rattle.warp_core.specs.World.{World, is_own}
use Rattle.warp_core.specs.Timelines.{due_at, IsNext, IsNothingDue}
use Rattle.warp_core.specs.Simulation.{world_of}
use Rattle.warp_core.specs.Choices.{counts, beats, earlier_due, earlier_due_of, own_event, first_own, first_in, first_entry_in}
use Rattle.warp_core.proofs.Theory.Parts.{if_at_some}

-- The best is due, and of the keys that were seen none at which something is due comes before it.
pub record IsBest (due : Key → Option Event) (clock : Key) (until : ℕ) (seen : Key → Type 0) (best : Option Event) : Type 0 where
  pub is_due : (b : Event) → best ≡ Some b → (clock is_upto key_of b) × (b.time ≤ until) × (due (key_of b) ≡ Some b)
  pub least : (k : Key) (f : Event) → seen k → clock is_upto k → k.time ≤ until → due k ≡ Some f → (b : Event) × (best ≡ Some b) × (key_of b is_upto k)

pub best_start : (due : Key → Option Event) (clock : Key) (until : ℕ) (seen : Key → Type 0) → ((k : Key) → seen k → ⊥) → IsBest due clock until seen None
best_start due clock until seen none = record { is_due = λ b h. absurd (none-some b h); least = λ k f s c t d. absurd (none k s) }

-- more keys are seen, at which nothing further is due
best_skip : (due : Key → Option Event) (clock : Key) (until : ℕ) (seen more : Key → Type 0) (best : Option Event) → IsBest due clock until seen best → ((k : Key) (f : Event) → more k → due k ≡ Some f → seen k) → IsBest due clock until more best
best_skip due clock until seen more best b h = record { is_due = b.is_due; least = λ k f s c t d. b.least k f (h k f s d) c t d }

beaten : (best : Option Event) (e : Event) → beats best e ≡ false → (b : Event) × (best ≡ Some b) × (key_of b is_upto key_of e)
beaten None e h = absurd (both_ways true h refl)
beaten (Some b) e h = (b, refl, h)

beats_is : (best : Option Event) (e b : Event) → beats best e ≡ true → best ≡ Some b → key_of e is_below key_of b
beats_is best e b h is = ap (λ o. beats o e) (sym is) ∙ h

upto_time : (a b : Key) → a is_upto b → a.time ≤ b.time
upto_time a b h = grind (arith, nat_tests)

-- one further event is seen, and what comes after it
pub best_from : (due : Key → Option Event) (clock : Key) (until : ℕ) (seen more : Key → Type 0) (best : Option Event) (e : Event) → IsBest due clock until seen best → due (key_of e) ≡ Some e
    → ((k : Key) (f : Event) → more k → clock is_upto k → due k ≡ Some f → seen k ⊎ ((clock is_upto key_of e) × (key_of e is_upto k))) → IsBest due clock until more (earlier_due clock until best e)
best_from due clock until seen more best e b here h =
    elim (cases_Bool (counts clock until e && beats best e)) [
      | inl p ↦
          let both = and_parts (counts clock until e) (beats best e) p in
          let fit = and_parts (not (is_before (key_of e) clock)) (nat_le e.time until) both.0 in
          subst (IsBest due clock until more) (sym (ap (λ t. cond t (Some e) best) p))
          (record {
            is_due = λ x is. subst (λ (y : Event). (clock is_upto key_of y) × (y.time ≤ until) × (due (key_of y) ≡ Some y)) (same_Some e x is) (not-true (is_before (key_of e) clock) fit.0, leb-true e.time until fit.1, here);
            least = λ k f s c t d. elim (h k f s c d) [
              | inl q ↦ let old = b.least k f q c t d in (e, refl, lt_to_le (key_of e) k (lt_le (key_of e) (key_of old.0) k (beats_is best e old.0 both.1 old.1) old.2))
              | inr q ↦ (e, refl, q.1)
            ];
          })
      | inr p ↦
          subst (IsBest due clock until more) (sym (ap (λ t. cond t (Some e) best) p))
          (record {
            is_due = b.is_due;
            least = λ k f s c t d. elim (h k f s c d) [
              | inl q ↦ b.least k f q c t d
              | inr q ↦
                  let early : e.time ≤ until = omega (arith, upto_time (key_of e) k q.1, t) in
                  let use' : counts clock until e ≡ true = and_from (not (is_before (key_of e) clock)) (nat_le e.time until) (not_from_false (is_before (key_of e) clock) q.0) (le-leb e.time until early) in
                  let old = beaten best e (elim (and_cases (counts clock until e) (beats best e) p) [ inl r ↦ absurd (both_ways (counts clock until e) r use') | inr r ↦ r ]) in
                  (old.0, old.1, le_le (key_of old.0) (key_of e) k old.2 q.1)
            ];
          })
    ]

-- the key of one further event is seen
best_more : (due : Key → Option Event) (clock : Key) (until : ℕ) (seen more : Key → Type 0) (best : Option Event) (e : Event) → IsBest due clock until seen best → due (key_of e) ≡ Some e → ((k : Key) (f : Event) → more k → due k ≡ Some f → seen k ⊎ (k ≡ key_of e)) → IsBest due clock until more (earlier_due clock until best e)
best_more due clock until seen more best e b here h =
    best_from due clock until seen more best e b here
    (λ k f s c d. elim (h k f s d) [
      | inl q ↦ inl q
      | inr q ↦ inr (subst (λ j. clock is_upto j) q c, subst (λ j. key_of e is_upto j) (sym q) (le_refl (key_of e)))
    ])

time_le : (a b : Key) → a is_below b → a.time ≤ b.time
time_le a b h = grind (arith, nat_tests)

time_end : (a : Key) (until : ℕ) → is_before a (record { time = until + 1; place = record { 0 = 0 } }) ≡ true → a.time ≤ until
time_end a until h = grind (arith, nat_tests)

-- where all keys are seen the best is the next, and without one nothing is due
pub best_next : (w : World) (mine : Key → Bool) (ins : Key → Option Event) (sites : List SiteState) (clock : Key) (seen : Key → Type 0) (best : Option Event) → IsBest (due_at w mine ins sites) clock w.until seen best → ((k : Key) (f : Event) → due_at w mine ins sites k ≡ Some f → seen k) → (b : Event) → best ≡ Some b → IsNext w mine ins sites clock b
best_next w mine ins sites clock seen best x all b is =
    let d = x.is_due b is in
    record {
      later = d.0;
      in_time = d.1;
      here = d.2;
      first = λ k c u. elim (none_or_some (due_at w mine ins sites k)) [
        | inl none ↦ none
        | inr some ↦
            let old = x.least k some.0 (all k some.0 some.1) c (omega (arith, time_le k (key_of b) u, d.1)) some.1 in
            absurd (lt_not_le k (key_of b) u (subst (λ (y : Event). key_of y is_upto k) (same_Some old.0 b (sym old.1 ∙ is)) old.2))
      ];
    }

pub best_none : (w : World) (mine : Key → Bool) (ins : Key → Option Event) (sites : List SiteState) (clock : Key) (seen : Key → Type 0) (best : Option Event) → IsBest (due_at w mine ins sites) clock w.until seen best → ((k : Key) (f : Event) → due_at w mine ins sites k ≡ Some f → seen k) → best ≡ None → IsNothingDue w mine ins sites clock
best_none w mine ins sites clock seen best x all is k c u =
    elim (none_or_some (due_at w mine ins sites k)) [
      | inl none ↦ none
      | inr some ↦
          let old = x.least k some.0 (all k some.0 some.1) c (time_end k w.until u) some.1 in
          absurd (none-some old.0 (sym is ∙ old.1))
    ]

-- an event of the list has this key
abbrev HasKey : Key → List Event → Type 0
HasKey k [] = ⊥
HasKey k (e ∷ es) = (k ≡ key_of e) ⊎ HasKey k es

has_key : (k : Key) (es : List Event) (f : Event) → at k es ≡ Some f → HasKey k es
has_key k [] f h = none-some f h
has_key k (e ∷ es) f h =
    elim (cases_Bool (same_key (key_of e) k)) [
      | inl p ↦ inl (sym (same_is (key_of e) k p))
      | inr p ↦ inr (has_key k es f (sym (ap (λ b. cond b (Some e) (at k es)) p) ∙ h))
    ]

-- each event of the list is due at its key
abbrev AllDue : (Key → Option Event) → List Event → Type 0
AllDue due [] = Unit {0}
AllDue due (e ∷ es) = (due (key_of e) ≡ Some e) × AllDue due es

best_in : (due : Key → Option Event) (clock : Key) (until : ℕ) (seen : Key → Type 0) (best : Option Event) (es : List Event) → IsBest due clock until seen best → AllDue due es → IsBest due clock until (λ k. seen k ⊎ HasKey k es) (first_in clock until best es)
best_in due clock until seen best [] b all = best_skip due clock until seen (λ k. seen k ⊎ HasKey k []) best b (λ k f s d. elim s [ inl q ↦ q | inr q ↦ absurd q ])
best_in due clock until seen best (e ∷ es) b all =
    let one : Key → Type 0 = λ k. seen k ⊎ (k ≡ key_of e) in
    best_skip due clock until (λ k. one k ⊎ HasKey k es) (λ k. seen k ⊎ HasKey k (e ∷ es)) (first_in clock until (earlier_due clock until best e) es)
    (best_in due clock until one (earlier_due clock until best e) es (best_more due clock until seen one best e b all.0 (λ k f s d. s)) all.1)
    (λ k f s d. elim s [ inl q ↦ inl (inl q) | inr q ↦ elim q [ inl r ↦ inl (inr r) | inr r ↦ inr r ] ])

-- in a list that rises each event stands at its key
in_table : (ins : Key → Option Event) (es : List Event) → IsRising es → ((k : Key) → HasKey k es → ins k ≡ at k es) → AllDue ins es
in_table ins [] r h = tt
in_table ins (e ∷ es) r h = (
  h (key_of e) (inl refl) ∙ ap (λ b. cond b (Some e) (at (key_of e) es)) (same_refl (key_of e)),
  in_table ins es r.1 (λ k q. h k (inr q) ∙ ap (λ b. cond b (Some e) (at k es)) (not_first k q)),
)
  where
    later : (k : Key) (xs : List Event) → AllKeys (λ j. key_of e is_below j) xs → HasKey k xs → key_of e is_below k
    later k [] all q = absurd q
    later k (x ∷ xs) all q = elim q [ inl s ↦ subst (λ j. key_of e is_below j) (sym s) all.0 | inr s ↦ later k xs all.1 s ]

    not_first : (k : Key) → HasKey k es → same_key (key_of e) k ≡ false
    not_first k q = Rattle.surf_kinds.proofs.Order.below_not_same (key_of e) k (later k es r.0 q)

-- a place that offers an event is one of the lattice
next_inside : (n : Network) (sites : List SiteState) (p : ℕ) (e : Event) → next n sites p ≡ Some e → p < end_of_places (n.lattice.rows * n.lattice.cols)
next_inside n sites p e h =
    subst (λ q. q < end_of_places (n.lattice.rows * n.lattice.cols)) (offer_place n sites p e h)
    (go (sites_of n.lattice e.place.0) refl (fits_is_place n e.place.0 e.channel (offer_fits n sites p e h)))
  where
    go : (o : Option Sites) → sites_of n.lattice e.place.0 ≡ o → IsSome o → e.place.0 < end_of_places (n.lattice.rows * n.lattice.cols)
    go None is some = absurd (false≢true some)
    go (Some q) is some = place_below n.lattice e.place.0 q is

module _ (n : Network) (b : Bands) (until : ℕ) (start : List SiteState) (i : ℕ) (sites : List SiteState) (stack : ℕ → List Event) (clock : Key) where
  ins : Key → Option Event
  ins k = at k (stack (owner_of b k.place.0))

  abbrev Due : Key → Option Event
  Due k = due_at (world_of n b until start) (is_own (world_of n b until start) i) (λ j. at j (stack (owner_of b j.place.0))) sites k

  own_due : (k : Key) → (owner_of b k.place.0 == i) ≡ true → Due k ≡ if_at k (next n sites k.place.0)
  own_due k h = ap (λ t. cond t (if_at k (next n sites k.place.0)) (at k (stack (owner_of b k.place.0)))) h

  own_here : (p : ℕ) (e : Event) → owner_of b p ≡ i → next n sites p ≡ Some e → Due (key_of e) ≡ Some e
  own_here p e o h =
      let at_p : e.place.0 ≡ p = offer_place n sites p e h in
      own_due (key_of e) (eq-eqb _ _ (ap (owner_of b) at_p ∙ o))
      ∙ (ap (λ q. if_at (key_of e) (next n sites q)) at_p ∙ (ap (if_at (key_of e)) h ∙ ap (λ t. cond t (Some e) None) (same_refl (key_of e))))

  own_is : (k : Key) (f : Event) → (owner_of b k.place.0 == i) ≡ true → Due k ≡ Some f → next n sites k.place.0 ≡ Some f
  own_is k f h d = if_at_some k _ f (sym (own_due k h) ∙ d)

  own_key : (k : Key) (f : Event) → (owner_of b k.place.0 == i) ≡ true → Due k ≡ Some f → key_of f ≡ k
  own_key k f h d = key_from (next n sites k.place.0) (sym (own_due k h) ∙ d)
    where
      key_from : (o : Option Event) → if_at k o ≡ Some f → key_of f ≡ k
      key_from None g = absurd (none-some f g)
      key_from (Some x) g =
          elim (cases_Bool (same_key (key_of x) k)) [
            | inl q ↦ ap key_of (sym (same_Some x f (sym (ap (λ t. cond t (Some x) None) q) ∙ g))) ∙ same_is (key_of x) k q
            | inr q ↦ absurd (none-some f (sym (ap (λ t. cond t (Some x) None) q) ∙ g))
          ]

  -- the own places below a number
  abbrev OwnBelow : ℕ → Key → Type 0
  OwnBelow p k = ((owner_of b k.place.0 == i) ≡ true) × (k.place.0 < p)

  own_more : (p : ℕ) → IsBest (λ k. Due k) clock until (OwnBelow p) (first_own n b i sites clock until p) → IsBest (λ k. Due k) clock until (OwnBelow (suc p)) (first_own n b i sites clock until (suc p))
  own_more p old = by (owner_of b p == i) refl (next n sites p) refl
    where
      Result : Option Event → Type 0
      Result o = IsBest (λ k. Due k) clock until (OwnBelow (suc p)) (earlier_due_of clock until (first_own n b i sites clock until p) o)

      -- of the further keys none has anything due
      still : ((k : Key) (f : Event) → k.place.0 ≡ p → (owner_of b k.place.0 == i) ≡ true → Due k ≡ Some f → ⊥) → Result None
      still none =
          best_skip (λ k. Due k) clock until (OwnBelow p) (OwnBelow (suc p)) (first_own n b i sites clock until p) old
          (λ k f s d. elim (eqb_tells k.place.0 p) [ inl q ↦ absurd (none k f q.1 s.0 d) | inr q ↦ (s.0, omega (arith, s.1, q.1)) ])

      by : (t : Bool) → (owner_of b p == i) ≡ t → (o : Option Event) → next n sites p ≡ o → IsBest (λ k. Due k) clock until (OwnBelow (suc p)) (earlier_due_of clock until (first_own n b i sites clock until p) (own_event n b i sites p))
      by false h o is =
          subst Result (sym (ap (λ t. cond t (next n sites p) None) h))
          (still (λ k f at_p own d. both_ways (owner_of b p == i) h (ap (λ q. owner_of b q == i) (sym at_p) ∙ own)))
      by true h None is =
          subst Result (sym (ap (λ t. cond t (next n sites p) None) h ∙ is))
          (still (λ k f at_p own d. none-some f (sym is ∙ (ap (next n sites) (sym at_p) ∙ own_is k f own d))))
      by true h (Some e) is =
          subst Result (sym (ap (λ t. cond t (next n sites p) None) h ∙ is))
          (best_more (λ k. Due k) clock until (OwnBelow p) (OwnBelow (suc p)) (first_own n b i sites clock until p) e old (own_here p e (eqb-true (owner_of b p) i h) is)
          (λ k f s d. elim (eqb_tells k.place.0 p) [
            | inl q ↦ inr (sym (own_key k f s.0 d) ∙ ap key_of (same_Some f e (sym (own_is k f s.0 d) ∙ (ap (next n sites) q.1 ∙ is))))
            | inr q ↦ inl (s.0, omega (arith, s.1, q.1))
          ]))

  best_own : (p : ℕ) → IsBest (λ k. Due k) clock until (OwnBelow p) (first_own n b i sites clock until p)
  best_own zero = best_start (λ k. Due k) clock until (OwnBelow 0) (λ k s. omega (arith, s.1))
  best_own (suc p) = own_more p (best_own p)

  best_own_all : IsBest (λ k. Due k) clock until (λ k. (owner_of b k.place.0 == i) ≡ true) (first_own n b i sites clock until (end_of_places (n.lattice.rows * n.lattice.cols)))
  best_own_all =
      best_skip (λ k. Due k) clock until (OwnBelow (end_of_places (n.lattice.rows * n.lattice.cols))) (λ k. (owner_of b k.place.0 == i) ≡ true) _ (best_own (end_of_places (n.lattice.rows * n.lattice.cols)))
      (λ k f s d. (s, next_inside n sites k.place.0 f (own_is k f s d)))

  -- the stacks rise, and each has events of its sender's places alone
  module _ (rising : (j : ℕ) → IsRising (stack j)) (owned : (j : ℕ) → AllKeys (λ k. owner_of b k.place.0 ≡ j) (stack j)) where
    other_due : (j : ℕ) (k : Key) → (j ≡ i → ⊥) → owner_of b k.place.0 ≡ j → Due k ≡ at k (stack j)
    other_due j k apart o =
        let other : (owner_of b k.place.0 == i) ≡ false = elim (eqb_tells (owner_of b k.place.0) i) [ inl q ↦ absurd (apart (sym o ∙ q.1)) | inr q ↦ q.0 ] in
        ap (λ t. cond t (if_at k (next n sites k.place.0)) (at k (stack (owner_of b k.place.0)))) other ∙ ap (λ m. at k (stack m)) o

    owner_is : (j : ℕ) (k : Key) (es : List Event) → AllKeys (λ k. owner_of b k.place.0 ≡ j) es → HasKey k es → owner_of b k.place.0 ≡ j
    owner_is j k [] all h = absurd h
    owner_is j k (e ∷ es) all h = elim h [ inl q ↦ subst (λ (l : Key). owner_of b l.place.0 ≡ j) (sym q) all.0 | inr q ↦ owner_is j k es all.1 q ]

    -- the own places, and those of the first senders
    abbrev SeenOf : ℕ → Key → Type 0
    SeenOf m k = ((owner_of b k.place.0 == i) ≡ true) ⊎ (owner_of b k.place.0 < m)

    abbrev Own : Option Event
    Own = first_own n b i sites clock until (end_of_places (n.lattice.rows * n.lattice.cols))

    entry_more : (m : ℕ) → IsBest (λ k. Due k) clock until (SeenOf m) (first_entry_in clock until i stack Own m) → IsBest (λ k. Due k) clock until (SeenOf (suc m)) (first_entry_in clock until i stack Own (suc m))
    entry_more m old = by (m == i) (eqb_tells m i)
      where
        Result : Bool → Type 0
        Result t = IsBest (λ k. Due k) clock until (SeenOf (suc m)) (cond t (first_entry_in clock until i stack Own m) (first_in clock until (first_entry_in clock until i stack Own m) (stack m)))

        by : (t : Bool) → (((m == i) ≡ true) × (m ≡ i)) ⊎ (((m == i) ≡ false) × (m ≡ i → ⊥)) → Result (m == i)
        by t (inl q) =
            subst Result (sym q.0)
            (best_skip (λ k. Due k) clock until (SeenOf m) (SeenOf (suc m)) (first_entry_in clock until i stack Own m) old
            (λ k f s d. elim s [
              | inl r ↦ inl r
              | inr r ↦ elim (eqb_tells (owner_of b k.place.0) m) [ inl p ↦ inl (eq-eqb _ _ (p.1 ∙ q.1)) | inr p ↦ inr (omega (arith, r, p.1)) ]
            ]))
        by t (inr q) =
            subst Result (sym q.0)
            (best_skip (λ k. Due k) clock until (λ k. SeenOf m k ⊎ HasKey k (stack m)) (SeenOf (suc m)) (first_in clock until (first_entry_in clock until i stack Own m) (stack m))
            (best_in (λ k. Due k) clock until (SeenOf m) (first_entry_in clock until i stack Own m) (stack m) old
            (in_table (λ k. Due k) (stack m) (rising m) (λ k h. other_due m k q.1 (owner_is m k (stack m) (owned m) h))))
            (λ k f s d. elim s [
              | inl r ↦ inl (inl r)
              | inr r ↦ elim (eqb_tells (owner_of b k.place.0) m) [
                | inl p ↦ inr (has_key k (stack m) f (sym (other_due m k q.1 p.1) ∙ d))
                | inr p ↦ inl (inr (omega (arith, r, p.1)))
              ]
            ]))

    best_entry : (m : ℕ) → IsBest (λ k. Due k) clock until (SeenOf m) (first_entry_in clock until i stack (first_own n b i sites clock until (end_of_places (n.lattice.rows * n.lattice.cols))) m)
    best_entry zero = best_skip (λ k. Due k) clock until (λ k. (owner_of b k.place.0 == i) ≡ true) (SeenOf 0) _ best_own_all (λ k f s d. elim s [ inl q ↦ q | inr q ↦ absurd (omega (arith, q)) ])
    best_entry (suc m) = entry_more m (best_entry m)

    -- where every place has one of the first senders as its owner, that is the next entry
    module _ (senders : ℕ) (all : (p : ℕ) → owner_of b p < senders) where
      abbrev Chosen : Option Event
      Chosen = first_entry_in clock until i stack (first_own n b i sites clock until (end_of_places (n.lattice.rows * n.lattice.cols))) senders

      pub chosen_next : (e : Event) → first_entry_in clock until i stack (first_own n b i sites clock until (end_of_places (n.lattice.rows * n.lattice.cols))) senders ≡ Some e
          → IsNext (world_of n b until start) (is_own (world_of n b until start) i) (λ j. at j (stack (owner_of b j.place.0))) sites clock e
      chosen_next e h = best_next (world_of n b until start) (is_own (world_of n b until start) i) (λ j. at j (stack (owner_of b j.place.0))) sites clock (SeenOf senders) _ (best_entry senders) (λ k f d. inr (all k.place.0)) e h

      pub chosen_none : first_entry_in clock until i stack (first_own n b i sites clock until (end_of_places (n.lattice.rows * n.lattice.cols))) senders ≡ None
          → IsNothingDue (world_of n b until start) (is_own (world_of n b until start) i) (λ j. at j (stack (owner_of b j.place.0))) sites clock
      chosen_none h = best_none (world_of n b until start) (is_own (world_of n b until start) i) (λ j. at j (stack (owner_of b j.place.0))) sites clock (SeenOf senders) _ (best_entry senders) (λ k f d. inr (all k.place.0)) h
