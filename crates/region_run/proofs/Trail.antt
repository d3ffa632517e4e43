-- Changes of a queue, taken back or forgotten.
use Rattle.std.proofs.Common.{append-nil, append_assoc, slice_index_or, slice_set, ◌≡◌, ℕ, suc, ◌-◌, ◌≤◌, ◌==◌, ◌&&◌, Bool, true, false, ◌⊎◌, inl, inr, List, [], ◌∷◌, ◌++◌, length, refl, sym, ap, ◌∙◌, subst, arith, Option, Some, None, cond}
use Rattle.std.specs.Prelude.{not, nat_le, nat_lt, slice_get, filter}
use Rattle.std.proofs.lemmas.Bool.{both_ways, cases_Bool, and_parts, leb-true, eq-eqb, eqb-true, not-true}
use Rattle.std.proofs.lemmas.Bool.Decides.{eqb_tells}
use Rattle.std.proofs.lemmas.List.{get_or-set_same, get_or-set_other, length-set}
use Rattle.std.proofs.lemmas.Option.{same_Some}
use Rattle.surf_kinds.specs.declared.event.Event.{Event}
use Rattle.surf_kinds.specs.declared.event.Key.{Key}
use Rattle.surf_kinds.specs.declared.site.SiteState.{SiteState}
use Rattle.surf_kinds.specs.Keys.{is_before, key_of, at, below, from, AllKeys, IsRising, ◌is_upto◌, ◌is_below◌}
use Rattle.surf_kinds.proofs.Order.{le_refl, lt_lt, lt_le, le_lt, le_le, lt_to_le, key_cases, same_refl, above_not_same}
use Rattle.surf_kinds.proofs.Tables.{AllKeys_at, AllKeys_weaker, AllKeys_append, AllKeys_kept, keep_append, keep_no, at_after_all, at_append_left, at_append_right}
use Rattle.surf_kinds.proofs.Rising.{parted}
use Rattle.lattice.specs.Ranges.{is_in_range}
use Rattle.lattice.specs.Surface.{after_all}
use Rattle.lattice.specs.declared.place_range.PlaceRange.{PlaceRange}
use Rattle.plan.specs.Network.{Network}
use Rattle.plan.specs.Next.{next}
use Rattle.plan.specs.Sharing.{ShareSite}
use Rattle.event_queue.specs.QueueView.{QueueView, HasPlace}
use Rattle.next_events.specs.Entries.{CoversRange, AreUpToDate, IsRefreshed}
use Rattle.warp_core.proofs.LawLemmas.{at_below, at_from, below_below, below_all, sites-append}
use Rattle.region_run.specs.declared.changes.Change.{Change}
use Rattle.region_run.specs.Boards.{entry_of, entry_before, AllChanges, HasChange, AreInOrder, IsChange, GoesBack, AreNoted, ArePutBack}

-- lists of changes

pub each_weaker : (P Q : Change → Type 0) → ((c : Change) → P c → Q c) → (cs : List Change) → AllChanges P cs → AllChanges Q cs
each_weaker P Q f [] all = tt
each_weaker P Q f (c ∷ cs) all = (f c all.0, each_weaker P Q f cs all.1)

pub each_append : (P : Change → Type 0) (xs ys : List Change) → AllChanges P xs → AllChanges P ys → AllChanges P (xs ++ ys)
each_append P [] ys a b = b
each_append P (x ∷ xs) ys a b = (a.0, each_append P xs ys a.1 b)

pub each_left : (P : Change → Type 0) (xs ys : List Change) → AllChanges P (xs ++ ys) → AllChanges P xs
each_left P [] ys a = tt
each_left P (x ∷ xs) ys a = (a.0, each_left P xs ys a.1)

pub each_right : (P : Change → Type 0) (xs ys : List Change) → AllChanges P (xs ++ ys) → AllChanges P ys
each_right P [] ys a = a
each_right P (x ∷ xs) ys a = each_right P xs ys a.1

each_both : (P Q : Change → Type 0) (cs : List Change) → AllChanges P cs → AllChanges Q cs → AllChanges (λ c. P c × Q c) cs
each_both P Q [] a b = tt
each_both P Q (c ∷ cs) a b = ((a.0, b.0), each_both P Q cs a.1 b.1)

each_filter : (P : Change → Type 0) (test : Change → Bool) (cs : List Change) → AllChanges P cs → AllChanges P (filter test cs)
each_filter P test [] a = tt
each_filter P test (c ∷ cs) a = elim (test c) as (λ t. AllChanges P (cond t (c ∷ filter test cs) (filter test cs))) [ true ↦ (a.0, each_filter P test cs a.1) | false ↦ each_filter P test cs a.1 ]

passes : (test : Change → Bool) (cs : List Change) → AllChanges (λ c. test c ≡ true) (filter test cs)
passes test [] = tt
passes test (c ∷ cs) =
    elim (cases_Bool (test c)) [
      | inl p ↦ subst (AllChanges (λ d. test d ≡ true)) (sym (ap (λ t. cond t (c ∷ filter test cs) (filter test cs)) p)) (p, passes test cs)
      | inr p ↦ subst (AllChanges (λ d. test d ≡ true)) (sym (ap (λ t. cond t (c ∷ filter test cs) (filter test cs)) p)) (passes test cs)
    ]

pub has_left : (p : ℕ) (xs ys : List Change) → HasChange p xs → HasChange p (xs ++ ys)
has_left p [] ys h = absurd h
has_left p (x ∷ xs) ys h = elim h [ inl e ↦ inl e | inr r ↦ inr (has_left p xs ys r) ]

pub has_right : (p : ℕ) (xs ys : List Change) → HasChange p ys → HasChange p (xs ++ ys)
has_right p [] ys h = h
has_right p (x ∷ xs) ys h = inr (has_right p xs ys h)

-- the order

pub order_left : (xs ys : List Change) → AreInOrder (xs ++ ys) → AreInOrder xs
order_left [] ys o = tt
order_left (x ∷ xs) ys o = (each_left (λ d. x.at is_upto d.at) xs ys o.0, order_left xs ys o.1)

order_filter : (test : Change → Bool) (cs : List Change) → AreInOrder cs → AreInOrder (filter test cs)
order_filter test [] o = tt
order_filter test (c ∷ cs) o =
    elim (test c) as (λ t. AreInOrder (cond t (c ∷ filter test cs) (filter test cs))) [ true ↦ (each_filter (λ d. c.at is_upto d.at) test cs o.0, order_filter test cs o.1) | false ↦ order_filter test cs o.1 ]

order_same : (k : Key) (cs : List Change) → AllChanges (λ c. c.at ≡ k) cs → AreInOrder cs
order_same k [] a = tt
order_same k (c ∷ cs) a = (each_weaker (λ d. d.at ≡ k) (λ d. c.at is_upto d.at) (λ d e. subst (λ j. c.at is_upto j) (a.0 ∙ sym e) (le_refl c.at)) cs a.1, order_same k cs a.1)

order_noted : (k : Key) (cs more : List Change) → AreInOrder cs → AllChanges (λ c. c.at is_below k) cs → AllChanges (λ c. c.at ≡ k) more → AreInOrder (cs ++ more)
order_noted k [] more o a b = order_same k more b
order_noted k (c ∷ cs) more o a b =
    (each_append (λ d. c.at is_upto d.at) cs more o.0 (each_weaker (λ d. d.at ≡ k) (λ d. c.at is_upto d.at) (λ d e. subst (λ j. c.at is_upto j) (sym e) (lt_to_le c.at k a.0)) more b), order_noted k cs more o.1 a.1 b)

one_less : (n : ℕ) → suc n - 1 ≡ n
one_less n = omega arith

-- where the last change is below a key all are
pub last_below : (key : Key) (cs : List Change) (last : Change) → slice_get cs (length cs - 1) ≡ Some last → last.at is_below key → AreInOrder cs → AllChanges (λ c. c.at is_below key) cs
last_below key [] last is h o = tt
last_below key (c ∷ []) last is h o = (subst (λ (x : Change). x.at is_below key) (sym (same_Some c last is)) h, tt)
last_below key (c ∷ d ∷ cs) last is h o =
    let here : slice_get (d ∷ cs) (length cs) ≡ Some last = subst (λ k. slice_get (c ∷ d ∷ cs) k ≡ Some last) (one_less (suc (length cs))) is in
    let rest = last_below key (d ∷ cs) last (subst (λ k. slice_get (d ∷ cs) k ≡ Some last) (sym (one_less (length cs))) here) h o.1 in
    (le_lt c.at d.at key o.0.0 rest.0, rest)

-- what an entry was

pub before_append : (k : Key) (xs ys : List Change) (now : ℕ → Option Event) (p : ℕ) → entry_before k (xs ++ ys) now p ≡ entry_before k xs (entry_before k ys now) p
before_append k [] ys now p = refl
before_append k (c ∷ xs) ys now p = ap (λ t. cond (not (is_before c.at k) && (c.place.0 == p)) c.was t) (before_append k xs ys now p)

pub before_now : (k : Key) (cs : List Change) (a b : ℕ → Option Event) (p : ℕ) → a p ≡ b p → entry_before k cs a p ≡ entry_before k cs b p
before_now k [] a b p h = h
before_now k (c ∷ cs) a b p h = ap (λ t. cond (not (is_before c.at k) && (c.place.0 == p)) c.was t) (before_now k cs a b p h)

-- changes below the key don't count
pub before_early : (k : Key) (cs : List Change) (now : ℕ → Option Event) (p : ℕ) → AllChanges (λ c. c.at is_below k) cs → entry_before k cs now p ≡ now p
before_early k [] now p a = refl
before_early k (c ∷ cs) now p a = ap (λ t. cond (not t && (c.place.0 == p)) c.was (entry_before k cs now p)) a.0 ∙ before_early k cs now p a.1

-- and for changes from both keys on it is the same
before_late : (k j : Key) (cs : List Change) (now : ℕ → Option Event) (p : ℕ) → AllChanges (λ c. k is_upto c.at) cs → AllChanges (λ c. j is_upto c.at) cs → entry_before k cs now p ≡ entry_before j cs now p
before_late k j [] now p a b = refl
before_late k j (c ∷ cs) now p a b =
    ap (λ t. cond (not t && (c.place.0 == p)) c.was (entry_before k cs now p)) (a.0 ∙ sym b.0)
    ∙ ap (λ t. cond (not (is_before c.at j) && (c.place.0 == p)) c.was t) (before_late k j cs now p a.1 b.1)

before_filter : (k key : Key) (cs : List Change) (now : ℕ → Option Event) (p : ℕ) → key is_upto k → entry_before k (filter (λ c. not (is_before c.at key)) cs) now p ≡ entry_before k cs now p
before_filter k key [] now p h = refl
before_filter k key (c ∷ cs) now p h =
    let rest = filter (λ d. not (is_before d.at key)) cs in
    elim (cases_Bool (is_before c.at key)) [
      | inl q ↦
          ap (λ t. entry_before k (cond (not t) (c ∷ rest) rest) now p) q
          ∙ (before_filter k key cs now p h ∙ sym (ap (λ t. cond (not t && (c.place.0 == p)) c.was (entry_before k cs now p)) (lt_le c.at key k q h)))
      | inr q ↦
          ap (λ t. entry_before k (cond (not t) (c ∷ rest) rest) now p) q
          ∙ ap (λ t. cond (not (is_before c.at k) && (c.place.0 == p)) c.was t) (before_filter k key cs now p h)
    ]

-- what was noted is what the entries were
noted_entry : (k key : Key) (q : QueueView) (more : List Change) (now : ℕ → Option Event) (p : ℕ) → k is_upto key → AllChanges (λ c. (c.at ≡ key) × (c.was ≡ entry_of q c.place.0)) more → (HasChange p more) ⊎ (now p ≡ entry_of q p) → entry_before k more now p ≡ entry_of q p
noted_entry k key q [] now p late all h = elim h [ inl x ↦ absurd x | inr x ↦ x ]
noted_entry k key q (c ∷ cs) now p late all h =
    let early : is_before c.at k ≡ false = subst (λ j. k is_upto j) (sym all.0.0) late in
    elim (cases_Bool (c.place.0 == p)) [
      | inl e ↦
          ap (λ t. cond (not t && (c.place.0 == p)) c.was (entry_before k cs now p)) early
          ∙ (ap (λ t. cond t c.was (entry_before k cs now p)) e ∙ (all.0.1 ∙ ap (entry_of q) (eqb-true c.place.0 p e)))
      | inr e ↦
          ap (λ t. cond (not t && (c.place.0 == p)) c.was (entry_before k cs now p)) early
          ∙ (ap (λ t. cond t c.was (entry_before k cs now p)) e
          ∙ noted_entry k key q cs now p late all.1 (elim h [
            | inl x ↦ elim x [ inl same ↦ absurd (both_ways (c.place.0 == p) e (eq-eqb c.place.0 p same)) | inr y ↦ inl y ]
            | inr x ↦ inr x
          ]))
    ]

-- a place of the range is one of the queue
pub has_place : (r : PlaceRange) (q : QueueView) (p : ℕ) → CoversRange r q → is_in_range r p ≡ true → HasPlace q (record { 0 = p })
has_place r q p c h = both (and_parts (nat_le r.first p) (nat_lt p r.end) h)
  where
    both : (nat_le r.first p ≡ true) × (nat_lt p r.end ≡ true) → HasPlace q (record { 0 = p })
    both g =
        let low : r.first ≤ p = leb-true r.first p g.0 in
        let high : suc p ≤ r.end = leb-true (suc p) r.end g.1 in
        (omega (arith, low, c.first), omega (arith, high, c.end))

-- a new event

made_still : (es : List Event) (e : Event) (r : PlaceRange) (c : Change) → AllKeys (λ k. k is_below key_of e) es → IsChange r es c → IsChange r (es ++ e ∷ []) c
made_still es e r c all i =
    let low : c.at is_below key_of e = AllKeys_at (λ k. k is_below key_of e) c.at es i.made.0 all i.made.1 in
    record {
      inside = i.inside;
      event = i.event;
      made = (i.made.0, at_append_left c.at es (e ∷ []) (ap (λ t. cond t (Some e) None) (above_not_same c.at (key_of e) low)) ∙ i.made.1);
    }

made_now : (es : List Event) (e : Event) → AllKeys (λ k. k is_below key_of e) es → at (key_of e) (es ++ e ∷ []) ≡ Some e
made_now es e all = at_append_right (key_of e) es (e ∷ []) (at_after_all (key_of e) es all) ∙ ap (λ t. cond t (Some e) None) (same_refl (key_of e))

below_more : (k : Key) (es : List Event) (e : Event) → k is_upto key_of e → below k (es ++ e ∷ []) ≡ below k es
below_more k es e h = keep_append (λ j. is_before j k) es (e ∷ []) ∙ (ap (λ l. below k es ++ l) (keep_no (λ j. is_before j k) e [] h) ∙ append-nil (below k es))

pub back_applied : (n : Network) (base old_sites sites : List SiteState) (floor : Key) (es : List Event) (e : Event) (r : PlaceRange) (cs cs' : List Change) (q q' : QueueView)
    → AllKeys (λ k. k is_below key_of e) es → sites ≡ after_all n.lattice n.rules base (es ++ e ∷ []) → CoversRange r q → CoversRange r q'
    → GoesBack n base floor es r cs q → AreNoted (key_of e) r q (ShareSite n.lattice e.place.0) cs cs' → IsRefreshed n sites (is_in_range r) (ShareSite n.lattice e.place.0) q q' → AreUpToDate n sites (is_in_range r) q'
    → GoesBack n base floor (es ++ e ∷ []) r cs' q'
back_applied n base old_sites sites floor es e r cs cs' q q' all is covers covers' g noted f up =
    record {
      order = subst AreInOrder (sym noted.is) (order_noted (key_of e) cs noted.more g.order early (each_weaker _ (λ c. c.at ≡ key_of e) (λ c h. h.0) noted.more noted.each));
      each = subst (AllChanges (IsChange r (es ++ e ∷ []))) (sym noted.is)
          (each_append (IsChange r (es ++ e ∷ [])) cs noted.more
          (each_weaker (IsChange r es) (IsChange r (es ++ e ∷ [])) (λ c i. made_still es e r c all i) cs g.each)
          (each_weaker _ (IsChange r (es ++ e ∷ [])) (λ c h. record { inside = h.1; event = h.3; made = (e, ap (λ k. at k (es ++ e ∷ [])) h.0 ∙ made_now es e all) }) noted.more noted.each));
      before = λ k low p inside. elim (key_cases (key_of e) k) [ inl q ↦ later k p inside q | inr q ↦ sooner k low p inside q ];
    }
  where
    early : AllChanges (λ c. c.at is_below key_of e) cs
    early = each_weaker (IsChange r es) (λ c. c.at is_below key_of e) (λ c i. AllKeys_at (λ k. k is_below key_of e) c.at es i.made.0 all i.made.1) cs g.each

    later : (k : Key) (p : ℕ) → is_in_range r p ≡ true → key_of e is_below k → entry_before k cs' (entry_of q') p ≡ next n (after_all n.lattice n.rules base (below k (es ++ e ∷ []))) p
    later k p inside h =
        let low : AllChanges (λ c. c.at is_below k) cs' =
        subst (AllChanges (λ c. c.at is_below k)) (sym noted.is)
        (each_append (λ c. c.at is_below k) cs noted.more (each_weaker (λ c. c.at is_below key_of e) (λ c. c.at is_below k) (λ c u. lt_lt c.at (key_of e) k u h) cs early)
        (each_weaker _ (λ c. c.at is_below k) (λ c u. subst (λ j. j is_below k) (sym u.0) h) noted.more noted.each)) in
        let keys : AllKeys (λ j. j is_below k) (es ++ e ∷ []) = AllKeys_append (λ j. j is_below k) es (e ∷ []) (AllKeys_weaker (λ j. j is_below key_of e) (λ j. j is_below k) (λ j u. lt_lt j (key_of e) k u h) es all) (h, tt) in
        before_early k cs' (entry_of q') p low
        ∙ (up p inside (has_place r q' p covers' inside)
        ∙ (ap (λ s. next n s p) is ∙ ap (λ l. next n (after_all n.lattice n.rules base l) p) (sym (below_all k (es ++ e ∷ []) keys))))

    known : (p : ℕ) → is_in_range r p ≡ true → (HasChange p noted.more) ⊎ (entry_of q' p ≡ entry_of q p)
    known p inside = elim (f.others p (has_place r q p covers inside)) [ inl same ↦ inr same | inr set ↦ inl (noted.all p inside set.1) ]

    sooner : (k : Key) → floor is_upto k → (p : ℕ) → is_in_range r p ≡ true → k is_upto key_of e → entry_before k cs' (entry_of q') p ≡ next n (after_all n.lattice n.rules base (below k (es ++ e ∷ []))) p
    sooner k low p inside h =
        ap (λ l. entry_before k l (entry_of q') p) noted.is
        ∙ (before_append k cs noted.more (entry_of q') p
        ∙ (before_now k cs (entry_before k noted.more (entry_of q')) (entry_of q) p
        (noted_entry k (key_of e) q noted.more (entry_of q') p h (each_weaker _ (λ c. (c.at ≡ key_of e) × (c.was ≡ entry_of q c.place.0)) (λ c u. (u.0, u.2)) noted.more noted.each) (known p inside))
        ∙ (g.before k low p inside ∙ ap (λ l. next n (after_all n.lattice n.rules base l) p) (sym (below_more k es e h)))))

-- entries that were undone

module _ (n : Network) (base : List SiteState) (floor key : Key) (es : List Event) (r : PlaceRange) (cs cs' : List Change) (q q' : QueueView)
    (high : floor is_upto key) (g : GoesBack n base floor es r cs q) (b : ArePutBack key r cs cs' q q') (early : AllChanges (λ c. c.at is_below key) cs') where
  pub back_entry : (p : ℕ) → is_in_range r p ≡ true → entry_of q' p ≡ next n (after_all n.lattice n.rules base (below key es)) p
  back_entry p inside =
      b.entries p inside
      ∙ (sym (before_early key cs' (entry_before key b.gone (entry_of q)) p early)
      ∙ (sym (before_append key cs' b.gone (entry_of q) p)
      ∙ (ap (λ l. entry_before key l (entry_of q) p) (sym b.parts) ∙ g.before key high p inside)))

  AllKeys_below : (k : Key) (xs : List Event) → AllKeys (λ j. j is_below k) (below k xs)
  AllKeys_below k xs = AllKeys_kept (λ j. is_before j k) xs

  pub back_cut : GoesBack n base floor (below key es) r cs' q'
  back_cut =
      record {
        order = order_left cs' b.gone (subst AreInOrder b.parts g.order);
        each = each_weaker (λ c. IsChange r es c × (c.at is_below key)) (IsChange r (below key es))
            (λ c h. record { inside = h.0.inside; event = h.0.event; made = (h.0.made.0, at_below key c.at es h.1 ∙ h.0.made.1) }) cs'
            (each_both (IsChange r es) (λ c. c.at is_below key) cs' (each_left (IsChange r es) cs' b.gone (subst (AllChanges (IsChange r es)) b.parts g.each)) early);
        before = λ k low p inside. elim (key_cases k key) [
          | inr up ↦
              before_early k cs' (entry_of q') p (each_weaker (λ c. c.at is_below key) (λ c. c.at is_below k) (λ c u. lt_le c.at key k u up) cs' early)
              ∙ (back_entry p inside
              ∙ ap (λ l. next n (after_all n.lattice n.rules base l) p) (sym (below_all k (below key es) (AllKeys_weaker (λ j. j is_below key) (λ j. j is_below k) (λ j u. lt_le j key k u up) (below key es) (AllKeys_below key es)))))
          | inl under ↦
              before_now k cs' (entry_of q') (entry_before key b.gone (entry_of q)) p (b.entries p inside)
              ∙ (before_now k cs' (entry_before key b.gone (entry_of q)) (entry_before k b.gone (entry_of q)) p
              (before_late key k b.gone (entry_of q) p b.late (each_weaker (λ c. key is_upto c.at) (λ c. k is_upto c.at) (λ c u. le_le k key c.at (lt_to_le k key under) u) b.gone b.late))
              ∙ (sym (before_append k cs' b.gone (entry_of q) p)
              ∙ (ap (λ l. entry_before k l (entry_of q) p) (sym b.parts)
              ∙ (g.before k low p inside ∙ ap (λ l. next n (after_all n.lattice n.rules base l) p) (sym (below_below k key es (lt_to_le k key under)))))))
        ];
      }

-- entries that were forgotten

pub back_forgotten : (n : Network) (base base' : List SiteState) (floor key : Key) (es : List Event) (r : PlaceRange) (cs : List Change) (q : QueueView) → IsRising es → floor is_upto key
    → base' ≡ after_all n.lattice n.rules base (below key es) → GoesBack n base floor es r cs q → GoesBack n base' key (from key es) r (filter (λ c. not (is_before c.at key)) cs) q
back_forgotten n base base' floor key es r cs q rise high is g =
    record {
      order = order_filter (λ c. not (is_before c.at key)) cs g.order;
      each = each_weaker (λ c. IsChange r es c × (not (is_before c.at key) ≡ true)) (IsChange r (from key es))
          (λ c h. record { inside = h.0.inside; event = h.0.event; made = (h.0.made.0, at_from key c.at es (not-true (is_before c.at key) h.1) ∙ h.0.made.1) })
          (filter (λ c. not (is_before c.at key)) cs)
          (each_both (IsChange r es) (λ c. not (is_before c.at key) ≡ true) (filter (λ c. not (is_before c.at key)) cs) (each_filter (IsChange r es) (λ c. not (is_before c.at key)) cs g.each) (passes (λ c. not (is_before c.at key)) cs));
      before = λ k low p inside.
          before_filter k key cs (entry_of q) p low
          ∙ (g.before k (le_le floor key k high low) p inside ∙ ap (λ s. next n s p) (sym (same k low)));
    }
  where
    parts : (k : Key) → key is_upto k → below k es ≡ below key es ++ below k (from key es)
    parts k low =
        ap (below k) (parted key es rise)
        ∙ (keep_append (λ j. is_before j k) (below key es) (from key es)
        ∙ ap (λ l. l ++ below k (from key es)) (below_all k (below key es) (AllKeys_weaker (λ j. j is_below key) (λ j. j is_below k) (λ j u. lt_le j key k u low) (below key es) (AllKeys_kept (λ j. is_before j key) es))))

    same : (k : Key) → key is_upto k → after_all n.lattice n.rules base' (below k (from key es)) ≡ after_all n.lattice n.rules base (below k es)
    same k low =
        ap (λ s. after_all n.lattice n.rules s (below k (from key es))) is
        ∙ (sym (sites-append n base (below key es) (below k (from key es))) ∙ ap (after_all n.lattice n.rules base) (sym (parts k low)))

-- one change after the other is taken back

pub none_back : (k : Key) (r : PlaceRange) (cs : List Change) (q : QueueView) → CoversRange r q → ArePutBack k r cs cs q q
none_back k r cs q covers = record { gone = []; parts = sym (append-nil cs); late = tt; entries = λ p inside. refl; covers = covers }

module _ (k : Key) (r : PlaceRange) (cs mid : List Change) (q q' : QueueView) (b : ArePutBack k r cs mid q q') (c : Change) (cs' : List Change) (is : mid ≡ cs' ++ c ∷ []) (late : k is_upto c.at) (inside : is_in_range r c.place.0 ≡ true) (q'' : QueueView)
    (set : q'' ≡ record { first = q'.first; events = slice_set q'.events (c.place.0 - q'.first) c.was }) where
  covers_set : CoversRange r q''
  covers_set = subst (CoversRange r) (sym set) (record { first = b.covers.first; end = omega (arith, length-set q'.events (c.place.0 - q'.first) c.was, b.covers.end) })

  entry_set : (p : ℕ) → is_in_range r p ≡ true → entry_of q'' p ≡ entry_before k (c ∷ b.gone) (entry_of q) p
  entry_set p has =
      let here : HasPlace q' (record { 0 = c.place.0 }) = has_place r q' c.place.0 b.covers inside in
      let there : HasPlace q' (record { 0 = p }) = has_place r q' p b.covers has in
      elim (eqb_tells c.place.0 p) [
        | inl e ↦
            ap (λ (v : QueueView). entry_of v p) set
            ∙ (subst (λ j. slice_index_or (slice_set q'.events (c.place.0 - q'.first) c.was) (j - q'.first) None ≡ c.was) e.1 (get_or-set_same q'.events (c.place.0 - q'.first) c.was None (omega (arith, here.0, here.1)))
            ∙ sym (ap (λ t. cond (not t && (c.place.0 == p)) c.was (entry_before k b.gone (entry_of q) p)) late ∙ ap (λ t. cond t c.was (entry_before k b.gone (entry_of q) p)) e.0))
        | inr e ↦
            ap (λ (v : QueueView). entry_of v p) set
            ∙ (get_or-set_other q'.events (c.place.0 - q'.first) (p - q'.first) c.was None (λ s. e.1 (omega (arith, s, here.0, there.0)))
            ∙ (b.entries p has
            ∙ sym (ap (λ t. cond (not t && (c.place.0 == p)) c.was (entry_before k b.gone (entry_of q) p)) late ∙ ap (λ t. cond t c.was (entry_before k b.gone (entry_of q) p)) e.0)))
      ]

  pub more_back : ArePutBack k r cs cs' q q''
  more_back =
      record {
        gone = c ∷ b.gone;
        parts = b.parts ∙ (ap (λ l. l ++ b.gone) is ∙ append_assoc cs' (c ∷ []) b.gone);
        late = (late, b.late);
        entries = entry_set;
        covers = covers_set;
      }
