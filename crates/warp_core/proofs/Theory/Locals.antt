-- Local timelines: there is one, and how it goes on.
use Rattle.std.proofs.Common.{◌≡◌, ℕ, Bool, true, false, ◌||◌, List, [], ◌∷◌, ◌++◌, Option, Some, None, inl, inr, refl, sym, ap, ◌∙◌, subst, cond, append-nil}
use Rattle.std.specs.Prelude.{not}
use Rattle.std.proofs.lemmas.Bool.{both_ways, cases_Bool, eqb-true}
use Rattle.surf_kinds.specs.declared.event.Key.{Key}
use Rattle.surf_kinds.specs.declared.event.Event.{Event}
use Rattle.surf_kinds.specs.declared.site.SiteState.{SiteState}
use Rattle.surf_kinds.specs.Keys.{is_before, same_key, key_of, key_after, ◌is_below◌, ◌is_upto◌, at, keep, below, from, AllKeys, IsRising}
use Rattle.plan.specs.History.{if_at}
use Rattle.warp_core.specs.World.{World, IsWorld, Agree, after_all, is_own, end_key}
use Rattle.warp_core.specs.Timelines.{due_at, IsLocal, IsNext, IsNothingDue}
use Rattle.surf_kinds.proofs.Order.{lt_lt, lt_le, le_le, lt_to_le, key_cases, same_refl, upto_both, above_not_same, below_after, below_after_upto, key_induction}
use Rattle.surf_kinds.proofs.Tables.{keep_yes, keep_no, AllKeys_at, AllKeys_from_at, AllKeys_weaker, AllKeys_keep, AllKeys_append, IsRising_keep, IsRising_append, at_before_all, at_after_all, at_append_left, at_append_right, same_tables, keep_append}
use Rattle.surf_kinds.proofs.Rising.{parted}
use Rattle.warp_core.proofs.Theory.Cuts.{at_below, at_below_none, at_from, below_below, below_all, AllKeys_below, AllKeys_from, below_from}

module _ (w : World) (mine : Key → Bool) (base : List SiteState) (floor : Key) where
  -- a timeline has nothing outside its span
  pub nothing_above : (ins : Key → Option Event) (clock : Key) (es : List Event) → IsLocal w mine base floor ins clock es → (k : Key) → clock is_upto k → at k es ≡ None
  nothing_above ins clock es l k h = at_after_all k es (AllKeys_weaker (λ j. (floor is_upto j) × (j is_below clock)) (λ j. j is_below k) (λ j s. lt_le j clock k s.1 h) es l.span)

  pub nothing_under : (ins : Key → Option Event) (clock : Key) (es : List Event) → IsLocal w mine base floor ins clock es → (k : Key) → k is_below floor → at k es ≡ None
  nothing_under ins clock es l k h = at_before_all k es (AllKeys_weaker (λ j. (floor is_upto j) × (j is_below clock)) (λ j. k is_below j) (λ j s. lt_le k floor j h s.0) es l.span)

  pub all_below : (ins : Key → Option Event) (clock : Key) (es : List Event) → IsLocal w mine base floor ins clock es → AllKeys (λ j. j is_below clock) es
  all_below ins clock es l = AllKeys_weaker (λ j. (floor is_upto j) × (j is_below clock)) (λ j. j is_below clock) (λ j s. s.1) es l.span

  -- the part below a key is determined by what is at each key below
  below_same : (xs ys : List Event) (k : Key) → IsRising xs → IsRising ys → ((j : Key) → j is_below k → at j xs ≡ at j ys) → below k xs ≡ below k ys
  below_same xs ys k r s h =
      same_tables (below k xs) (below k ys) (IsRising_keep (λ j. is_before j k) xs r) (IsRising_keep (λ j. is_before j k) ys s)
      (λ j. elim (key_cases j k) [
        | inl l ↦ at_below k j xs l ∙ (h j l ∙ sym (at_below k j ys l))
        | inr l ↦ at_below_none k j xs l ∙ sym (at_below_none k j ys l)
      ])

  -- there is at most one
  pub only_one : (ins : Key → Option Event) (clock : Key) (xs ys : List Event) → IsLocal w mine base floor ins clock xs → IsLocal w mine base floor ins clock ys → xs ≡ ys
  only_one ins clock xs ys x y =
      same_tables xs ys x.rising y.rising (key_induction (λ k. at k xs ≡ at k ys) (λ k h.
      elim (key_cases k clock) [
        | inl under ↦ elim (key_cases k floor) [
          | inl out ↦ nothing_under ins clock xs x k out ∙ sym (nothing_under ins clock ys y k out)
          | inr over ↦
              x.each k over under
              ∙ (ap (λ l. due_at w mine ins (after_all w base l) k) (below_same xs ys k x.rising y.rising h)
              ∙ sym (y.each k over under))
        ]
        | inr out ↦ nothing_above ins clock xs x k out ∙ sym (nothing_above ins clock ys y k out)
      ]))

  pub due_ins : (ins other : Key → Option Event) (sites : List SiteState) (k : Key) → ins k ≡ other k → due_at w mine ins sites k ≡ due_at w mine other sites k
  due_ins ins other sites k h = ap (λ o. cond (mine k) (if_at k (w.next k.place.0 sites)) o) h

  -- cut at a key it is the local timeline up to that key, also where the incoming events differ from that key on
  pub cut : (ins other : Key → Option Event) (clock k : Key) (es : List Event) → IsLocal w mine base floor ins clock es → k is_upto clock → ((j : Key) → j is_below k → ins j ≡ other j) → IsLocal w mine base floor other k (below k es)
  cut ins other clock k es l h same =
      record {
        rising = IsRising_keep (λ j. is_before j k) es l.rising;
        span = spans;
        each = λ j over under.
            at_below k j es under
            ∙ (l.each j over (lt_le j k clock under h)
            ∙ (ap (λ xs. due_at w mine ins (after_all w base xs) j) (sym (below_below j k es (lt_to_le j k under)))
            ∙ due_ins ins other (after_all w base (below j (below k es))) j (same j under)));
      }
    where
      spans : AllKeys (λ j. (floor is_upto j) × (j is_below k)) (below k es)
      spans = AllKeys_from_at (λ j. (floor is_upto j) × (j is_below k)) (below k es) (λ j e is. (
        AllKeys_at (λ i. floor is_upto i) j (below k es) e (AllKeys_keep (λ i. floor is_upto i) (λ i. is_before i k) es (AllKeys_weaker (λ i. (floor is_upto i) × (i is_below clock)) (λ i. floor is_upto i) (λ i s. s.0) es l.span)) is,
        AllKeys_at (λ i. i is_below k) j (below k es) e (AllKeys_below k es) is,
      ))

  -- below a key nothing is at or after it
  below_push : (k : Key) (es : List Event) (e : Event) → k is_upto key_of e → below k (es ++ e ∷ []) ≡ below k es
  below_push k es e h = keep_append (λ j. is_before j k) es (e ∷ []) ∙ (ap (λ l. below k es ++ l) (keep_no (λ j. is_before j k) e [] h) ∙ append-nil (below k es))

  at_one : (k : Key) (e : Event) (b : Bool) → same_key (key_of e) k ≡ b → at k (e ∷ []) ≡ cond b (Some e) None
  at_one k e b h = ap (λ t. cond t (Some e) None) h

  -- it goes on by what is due next
  pub goes_on : (ins : Key → Option Event) (clock : Key) (es : List Event) (e : Event) → floor is_upto clock → IsLocal w mine base floor ins clock es → IsNext w mine ins (after_all w base es) clock e → IsLocal w mine base floor ins (key_after (key_of e)) (es ++ e ∷ [])
  goes_on ins clock es e low l n =
      record {
        rising = IsRising_append clock es (e ∷ []) l.rising (tt, tt) (all_below ins clock es l) (n.later, tt);
        span = AllKeys_append (λ j. (floor is_upto j) × (j is_below key_after (key_of e))) es (e ∷ [])
            (AllKeys_weaker (λ j. (floor is_upto j) × (j is_below clock)) (λ j. (floor is_upto j) × (j is_below key_after (key_of e)))
            (λ j s. (s.0, lt_lt j (key_of e) (key_after (key_of e)) (lt_le j clock (key_of e) s.1 n.later) (below_after (key_of e)))) es l.span)
            ((le_le floor clock (key_of e) low n.later, below_after (key_of e)), tt);
        each = λ j over under. each_key j over (below_after_upto j (key_of e) under);
      }
    where
      whole : (j : Key) → clock is_upto j → below j es ≡ es
      whole j h = below_all j es (AllKeys_weaker (λ i. i is_below clock) (λ i. i is_below j) (λ i s. lt_le i clock j s h) es (all_below ins clock es l))

      each_key : (j : Key) → floor is_upto j → j is_upto key_of e → at j (es ++ e ∷ []) ≡ due_at w mine ins (after_all w base (below j (es ++ e ∷ []))) j
      each_key j over upto =
          let same : below j (es ++ e ∷ []) ≡ below j es = below_push j es e upto in
          elim (key_cases j clock) [
            | inl under ↦
                let skip : at j (e ∷ []) ≡ None = at_one j e false (above_not_same j (key_of e) (lt_le j clock (key_of e) under n.later)) in
                at_append_left j es (e ∷ []) skip ∙ (l.each j over under ∙ ap (λ xs. due_at w mine ins (after_all w base xs) j) (sym same))
            | inr past ↦
                let all : es ≡ below j (es ++ e ∷ []) = sym (same ∙ whole j past) in
                at_append_right j es (e ∷ []) (nothing_above ins clock es l j past)
                ∙ (elim (key_cases j (key_of e)) [
                  | inl before ↦ at_one j e false (above_not_same j (key_of e) before) ∙ sym (n.first j past before)
                  | inr reached ↦
                      let is : key_of e ≡ j = upto_both (key_of e) j reached upto in
                      at_one j e true (subst (λ i. same_key (key_of e) i ≡ true) is (same_refl (key_of e)))
                      ∙ sym (subst (λ i. due_at w mine ins (after_all w base es) i ≡ Some e) is n.here)
                ] ∙ ap (λ xs. due_at w mine ins (after_all w base xs) j) all)
          ]

  -- and to the end where nothing is left
  pub ends : (ins : Key → Option Event) (clock : Key) (es : List Event) → clock is_upto end_key w → IsLocal w mine base floor ins clock es → IsNothingDue w mine ins (after_all w base es) clock → IsLocal w mine base floor ins (end_key w) es
  ends ins clock es high l n =
      record {
        rising = l.rising;
        span = AllKeys_weaker (λ j. (floor is_upto j) × (j is_below clock)) (λ j. (floor is_upto j) × (j is_below end_key w)) (λ j s. (s.0, lt_le j clock (end_key w) s.1 high)) es l.span;
        each = λ j over under. elim (key_cases j clock) [
          | inl h ↦ l.each j over h
          | inr h ↦
              nothing_above ins clock es l j h
              ∙ (sym (n j h under)
              ∙ ap (λ xs. due_at w mine ins (after_all w base xs) j) (sym (below_all j es (AllKeys_weaker (λ i. i is_below clock) (λ i. i is_below j) (λ i s. lt_le i clock j s h) es (all_below ins clock es l)))))
        ];
      }

pub after_all_append : (w : World) (sites : List SiteState) (xs ys : List Event) → after_all w sites (xs ++ ys) ≡ after_all w (after_all w sites xs) ys
after_all_append w sites [] ys = refl
after_all_append w sites (x ∷ xs) ys = after_all_append w (w.after sites x) xs ys

-- the floor rises: what lies below it goes into the base
pub raised : (w : World) (mine : Key → Bool) (base : List SiteState) (floor k : Key) (ins : Key → Option Event) (clock : Key) (es : List Event) → floor is_upto k → IsLocal w mine base floor ins clock es → IsLocal w mine (after_all w base (below k es)) k ins clock (from k es)
raised w mine base floor k ins clock es h l =
    record {
      rising = IsRising_keep (λ j. not (is_before j k)) es l.rising;
      span = AllKeys_from_at (λ j. (k is_upto j) × (j is_below clock)) (from k es) (λ j e is. (
        AllKeys_at (λ i. k is_upto i) j (from k es) e (AllKeys_from k es) is,
        AllKeys_at (λ i. i is_below clock) j (from k es) e (AllKeys_keep (λ i. i is_below clock) (λ i. not (is_before i k)) es (all_below w mine base floor ins clock es l)) is,
      ));
      each = λ j over under.
          at_from k j es over
          ∙ (l.each j (le_le floor k j h over) under
          ∙ ap (λ s. due_at w mine ins s j) (ap (after_all w base) (sym (parts j over)) ∙ after_all_append w base (below k es) (below j (from k es))));
    }
  where
    parts : (j : Key) → k is_upto j → below k es ++ below j (from k es) ≡ below j es
    parts j over =
        ap (λ xs. xs ++ below j (from k es)) (sym (below_below k j es over))
        ∙ (ap (λ xs. below k (below j es) ++ xs) (below_from j k es)
        ∙ sym (parted k (below j es) (IsRising_keep (λ i. is_before i j) es l.rising)))

-- surfaces that agree
pub agree_refl : (w : World) (i : ℕ) (a : List SiteState) → Agree w i a a
agree_refl w i a s h = refl

pub agree_sym : (w : World) (i : ℕ) (a b : List SiteState) → Agree w i a b → Agree w i b a
agree_sym w i a b p s h = sym (p s h)

pub agree_trans : (w : World) (i : ℕ) (a b c : List SiteState) → Agree w i a b → Agree w i b c → Agree w i a c
agree_trans w i a b c p q s h = p s h ∙ q s h

pub agree_after_all : (w : World) → IsWorld w → (i : ℕ) (es : List Event) (a b : List SiteState) → Agree w i a b → Agree w i (after_all w a es) (after_all w b es)
agree_after_all w laws i [] a b p = p
agree_after_all w laws i (e ∷ es) a b p = agree_after_all w laws i es (w.after a e) (w.after b e) (laws.same_after i e a b p)

-- what a region has to know of
abbrev pub needs : World → ℕ → Key → Bool
needs w i k = is_own w i k || w.told i k.place.0

-- the other events make no difference to it
pub needed_only : (w : World) → IsWorld w → (i : ℕ) (es : List Event) (a b : List SiteState) → Agree w i a b → Agree w i (after_all w a es) (after_all w b (keep (needs w i) es))
needed_only w laws i [] a b p = p
needed_only w laws i (e ∷ es) a b p =
    elim (cases_Bool (needs w i (key_of e))) [
      | inl q ↦ subst (λ l. Agree w i (after_all w (w.after a e) es) (after_all w b l)) (sym (keep_yes (needs w i) e es q)) (needed_only w laws i es (w.after a e) (w.after b e) (laws.same_after i e a b p))
      | inr q ↦
          let no = or_no (is_own w i (key_of e)) (w.told i e.place.0) q in
          subst (λ l. Agree w i (after_all w (w.after a e) es) (after_all w b l)) (sym (keep_no (needs w i) e es q))
          (needed_only w laws i es (w.after a e) b (agree_trans w i (w.after a e) a b (laws.unseen i e a no.0 no.1) p))
    ]
  where
    or_no : (x y : Bool) → (x || y) ≡ false → (x ≡ false) × (y ≡ false)
    or_no true y h = absurd (both_ways true h refl)
    or_no false y h = (refl, h)

-- a timeline that is local over one base is so over each that agrees with it
pub rebased : (w : World) → IsWorld w → (i : ℕ) (a b : List SiteState) (floor : Key) (ins : Key → Option Event) (clock : Key) (es : List Event) → Agree w i a b → IsLocal w (is_own w i) a floor ins clock es → IsLocal w (is_own w i) b floor ins clock es
rebased w laws i a b floor ins clock es p l =
    record {
      rising = l.rising;
      span = l.span;
      each = λ k over under. l.each k over under ∙ same_due k (below k es);
    }
  where
    same_due : (k : Key) (xs : List Event) → due_at w (is_own w i) ins (after_all w a xs) k ≡ due_at w (is_own w i) ins (after_all w b xs) k
    same_due k xs =
        elim (cases_Bool (is_own w i k)) [
          | inl q ↦ ap (λ o. cond (is_own w i k) (if_at k o) (ins k)) (laws.same_next k.place.0 _ _ (subst (λ j. Agree w j (after_all w a xs) (after_all w b xs)) (sym (eqb-true (w.owner k.place.0) i q)) (agree_after_all w laws i xs a b p)))
          | inr q ↦ ap (λ t. cond t (if_at k (w.next k.place.0 (after_all w a xs))) (ins k)) q ∙ sym (ap (λ t. cond t (if_at k (w.next k.place.0 (after_all w b xs))) (ins k)) q)
        ]
