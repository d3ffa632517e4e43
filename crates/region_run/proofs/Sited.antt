-- Neighbours, and what is put for them.
use Rattle.std.proofs.Common.{◌≡◌, ℕ, zero, suc, ◌<◌, Bool, true, false, ◌==◌, ◌&&◌, ◌||◌, inl, inr, List, [], ◌∷◌, ◌++◌, refl, sym, ap, ◌∙◌, arith, Option, Some, None, cond, append_assoc, if◌then◌else◌}
use Rattle.std.specs.Prelude.{not}
use Rattle.std.proofs.lemmas.Bool.{both_ways, cases_Bool, eqb-true, and_parts, or_cases, or_left, or_right}
use Rattle.std.proofs.lemmas.Bool.Decides.{eqb_tells}
use Rattle.surf_kinds.specs.declared.event.Event.{Event}
use Rattle.surf_kinds.specs.declared.event.Key.{Key}
use Rattle.surf_kinds.specs.Keys.{is_before, key_of, keep, from, AllKeys, IsRising, ◌is_below◌}
use Rattle.surf_kinds.proofs.Order.{lt_to_le}
use Rattle.surf_kinds.proofs.Tables.{AllKeys_keep, IsRising_keep, keep_same, keep_none, all_keys}
use Rattle.lattice.specs.declared.place_range.PlaceRange.{PlaceRange}
use Rattle.plan.specs.Network.{Network}
use Rattle.regions.specs.Bands.{Bands, IsCut, owner_of}
use Rattle.regions.specs.Seen.{is_told}
use Rattle.regions.proofs.LawLemmas.{told_below}
use Rattle.border.specs.declared.op.Op.{Op}
use Rattle.border.specs.declared.op.Op.TheVariants.{Put}
use Rattle.border.specs.Messages.{op_key}
use Rattle.border.specs.Stacked.{StacksView, stack_of}
use Rattle.warp_core.specs.World.{is_own, is_told_by}
use Rattle.warp_core.specs.Parts.{is_told_to_some, back_if_any, op_puts, Part}
use Rattle.region_run.specs.Sides.{SideView, is_other, line_of, sent_by, Gained, event_puts, is_side_told, is_own_told, first_key, first_told_of, lesser_key, back_of}
use Rattle.region_run.specs.Regions.{Base, world_at, stack_in, line_in, IsSited}

-- a neighbour stays who it is

pub other_same : (o t : Option SideView) (ops : ℕ → List Op) → Gained o ops t → (l : ℕ) → is_other t l ≡ is_other o l
other_same None None ops g l = refl
other_same None (Some t) ops g l = absurd g
other_same (Some s) None ops g l = absurd g
other_same (Some s) (Some t) ops g l = ap (λ m. m == l) g.other

line_gained : (o t : Option SideView) (ops : ℕ → List Op) (l : ℕ) → Gained o ops t → is_other o l ≡ true → line_of t ≡ line_of o ++ ops l
line_gained None t ops l g h = absurd (both_ways false refl h)
line_gained (Some s) None ops l g h = absurd g
line_gained (Some s) (Some t) ops l g h =
    ap (λ e. sent_by e ++ t.outbox) g.ends
    ∙ (ap (λ o. sent_by s.ends ++ o) (g.outbox ∙ ap (λ m. s.outbox ++ ops m) (eqb-true s.other l h)) ∙ sym (append_assoc (sent_by s.ends) s.outbox (ops l)))

module _ (first second first' second' : Option SideView) (ops : ℕ → List Op) (a : Gained first ops first') (b : Gained second ops second') where
  -- what is put for each region, where nothing is put for others than the two
  pub lines_gained : ((l : ℕ) → is_other first l ≡ false → is_other second l ≡ false → ops l ≡ []) → (l : ℕ) → line_in first' second' l ≡ line_in first second l ++ ops l
  lines_gained none l =
      elim (cases_Bool (is_other first l)) [
        | inl p ↦
            ap (λ t. cond t (line_of first') (cond (is_other second' l) (line_of second') [])) (other_same first first' ops a l ∙ p)
            ∙ (line_gained first first' ops l a p
            ∙ ap (λ t. cond t (line_of first) (cond (is_other second l) (line_of second) []) ++ ops l) (sym p))
        | inr p ↦ elim (cases_Bool (is_other second l)) [
          | inl q ↦
              ap (λ t. cond t (line_of first') (cond (is_other second' l) (line_of second') [])) (other_same first first' ops a l ∙ p)
              ∙ (ap (λ t. cond t (line_of second') []) (other_same second second' ops b l ∙ q)
              ∙ (line_gained second second' ops l b q
              ∙ (ap (λ t. cond t (line_of second) [] ++ ops l) (sym q)
              ∙ ap (λ t. cond t (line_of first) (cond (is_other second l) (line_of second) []) ++ ops l) (sym p))))
          | inr q ↦
              ap (λ t. cond t (line_of first') (cond (is_other second' l) (line_of second') [])) (other_same first first' ops a l ∙ p)
              ∙ (ap (λ t. cond t (line_of second') []) (other_same second second' ops b l ∙ q)
              ∙ (sym (none l p q)
              ∙ (ap (λ t. cond t (line_of second) [] ++ ops l) (sym q)
              ∙ ap (λ t. cond t (line_of first) (cond (is_other second l) (line_of second) []) ++ ops l) (sym p))))
        ]
      ]

  pub stack_same : (s : StacksView) → stack_in first' second' s ≡ stack_in first second s
  stack_same s = λ i l. at l i
    where
      at : (l : ℕ) → stack_in first' second' s l ≡ stack_in first second s l
      at l =
          ap (λ t. cond t (stack_of s 0) (cond (is_other second' l) (stack_of s 1) [])) (other_same first first' ops a l)
          ∙ ap (λ t. cond (is_other first l) (stack_of s 0) (cond t (stack_of s 1) [])) (other_same second second' ops b l)

  pub sited_still : (c : Bands) (id : ℕ) (range : PlaceRange) → IsSited c id range first second → IsSited c id range first' second'
  sited_still c id range s =
      record {
        own = s.own;
        near = λ l p o t. elim (s.near l p o t) [ inl q ↦ inl (other_same first first' ops a l ∙ q) | inr q ↦ inr (other_same second second' ops b l ∙ q) ];
        from = λ p t. elim (s.from p t) [ inl q ↦ inl (other_same first first' ops a (owner_of c p) ∙ q) | inr q ↦ inr (other_same second second' ops b (owner_of c p) ∙ q) ];
        below = λ l h. s.below l (elim h [ inl q ↦ inl (sym (other_same first first' ops a l) ∙ q) | inr q ↦ inr (sym (other_same second second' ops b l) ∙ q) ]);
        apart = λ l h. other_same second second' ops b l ∙ s.apart l (sym (other_same first first' ops a l) ∙ h);
        not_first = other_same first first' ops a id ∙ s.not_first;
        not_second = other_same second second' ops b id ∙ s.not_second;
      }

-- what an event puts

pub tells_none : (c : Bands) (id : ℕ) (range : PlaceRange) (first second : Option SideView) (e : Event) (is_own : Bool) → IsSited c id range first second → is_own ≡ (owner_of c e.place.0 == id)
    → (l : ℕ) → is_other first l ≡ false → is_other second l ≡ false → event_puts c is_own e l ≡ []
tells_none c id range first second e is_own s mine l p q =
    elim (cases_Bool (is_own && is_told c l e.place.0)) [
      | inl h ↦
          let both = and_parts is_own (is_told c l e.place.0) h in
          let o : owner_of c e.place.0 ≡ id = eqb-true (owner_of c e.place.0) id (sym mine ∙ both.0) in
          absurd (elim (s.near l e.place.0 o both.1) [ inl x ↦ both_ways (is_other first l) p x | inr x ↦ both_ways (is_other second l) q x ])
      | inr h ↦ ap (λ t. cond t (Put e ∷ []) []) h
    ]

-- what a cut takes back

back_if_is : (xs ys : List Event) → back_if_any xs ys ≡ back_of (first_key xs) (first_key ys)
back_if_is [] ys = refl
back_if_is (x ∷ xs) [] = refl
back_if_is (x ∷ xs) (y ∷ ys) = refl

told_some_is : (told : ℕ → ℕ → Bool) (m p : ℕ) → is_told_to_some told m p ≡ true → (l : ℕ) × (told l p ≡ true)
told_some_is told zero p h = absurd (both_ways false refl h)
told_some_is told (suc m) p h = elim (or_cases (is_told_to_some told m p) (told m p) h) [ inl q ↦ told_some_is told m p q | inr q ↦ (m, q) ]

told_some_from : (told : ℕ → ℕ → Bool) (m l p : ℕ) → l < m → told l p ≡ true → is_told_to_some told m p ≡ true
told_some_from told zero l p h t = absurd (omega (arith, h))
told_some_from told (suc m) l p h t =
    elim (eqb_tells l m) [
      | inl q ↦ or_right (is_told_to_some told m p) (told m p) (ap (λ k. told k p) (sym q.1) ∙ t)
      | inr q ↦ or_left (is_told_to_some told m p) (told m p) (told_some_from told m l p (omega (arith, h, q.1)) t)
    ]

side_told : (c : Bands) (o : Option SideView) (l p : ℕ) → is_other o l ≡ true → is_side_told c o p ≡ is_told c l p
side_told c None l p h = absurd (both_ways false refl h)
side_told c (Some s) l p h = ap (λ m. is_told c m p) (eqb-true s.other l h)

told_side_is : (c : Bands) (o : Option SideView) (p : ℕ) → is_side_told c o p ≡ true → (l : ℕ) × (is_told c l p ≡ true)
told_side_is c None p h = absurd (both_ways false refl h)
told_side_is c (Some s) p h = (s.other, h)

same_bool : (x y : Bool) → (x ≡ true → y ≡ true) → (y ≡ true → x ≡ true) → x ≡ y
same_bool true y f g = sym (f refl)
same_bool false true f g = g refl
same_bool false false f g = refl

-- the first of all that pass one of two tests
first_of_either : (P Q : Key → Bool) (es : List Event) → IsRising es → first_key (keep (λ k. P k || Q k) es) ≡ lesser_key (first_key (keep P es)) (first_key (keep Q es))
first_of_either P Q [] r = refl
first_of_either P Q (e ∷ es) r = either (P (key_of e)) (Q (key_of e)) (first_of_either P Q es r.1)
  where
    later : (test : Key → Bool) → AllKeys (λ k. key_of e is_below k) (keep test es)
    later test = AllKeys_keep (λ k. key_of e is_below k) test es r.0

    here_first : (xs : List Event) → AllKeys (λ k. key_of e is_below k) xs → Some (key_of e) ≡ lesser_key (Some (key_of e)) (first_key xs)
    here_first [] all = refl
    here_first (x ∷ xs) all = sym (ap (λ t. cond t (Some (key_of x)) (Some (key_of e))) (lt_to_le (key_of e) (key_of x) all.0))

    here_last : (xs : List Event) → AllKeys (λ k. key_of e is_below k) xs → Some (key_of e) ≡ lesser_key (first_key xs) (Some (key_of e))
    here_last [] all = refl
    here_last (x ∷ xs) all = sym (ap (λ t. cond t (Some (key_of e)) (Some (key_of x))) all.0)

    at_once : (t : Bool) → Some (key_of e) ≡ cond t (Some (key_of e)) (Some (key_of e))
    at_once true = refl
    at_once false = refl

    either : (s t : Bool) → first_key (keep (λ k. P k || Q k) es) ≡ lesser_key (first_key (keep P es)) (first_key (keep Q es))
        → first_key (cond (s || t) (e ∷ keep (λ k. P k || Q k) es) (keep (λ k. P k || Q k) es)) ≡ lesser_key (first_key (cond s (e ∷ keep P es) (keep P es))) (first_key (cond t (e ∷ keep Q es) (keep Q es)))
    either true true h = at_once (is_before (key_of e) (key_of e))
    either true false h = here_first (keep Q es) (later Q)
    either false true h = here_last (keep P es) (later P)
    either false false h = h

module _ (n : Network) (c : Bands) (until : ℕ) (x : Base) (id : ℕ) (range : PlaceRange) (first second : Option SideView) (s : IsSited c id range first second) (cut : IsCut c) where
  any_told : (k : Key) → (is_own_told c id first k || is_own_told c id second k) ≡ (is_own (world_at n c until x) id k && is_told_to_some (is_told c) c.count k.place.0)
  any_told k =
      elim (cases_Bool (owner_of c k.place.0 == id)) [
        | inl mine ↦
            ap (λ t. (t && is_side_told c first k.place.0) || (t && is_side_told c second k.place.0)) mine
            ∙ (same_bool _ _
            (λ h. elim (or_cases (is_side_told c first k.place.0) (is_side_told c second k.place.0) h) [
              | inl q ↦ let t = told_side_is c first k.place.0 q in told_some_from (is_told c) c.count t.0 k.place.0 (told_below c t.0 k.place.0 cut t.1) t.1
              | inr q ↦ let t = told_side_is c second k.place.0 q in told_some_from (is_told c) c.count t.0 k.place.0 (told_below c t.0 k.place.0 cut t.1) t.1
            ])
            (λ h.
            let t = told_some_is (is_told c) c.count k.place.0 h in
            elim (s.near t.0 k.place.0 (eqb-true (owner_of c k.place.0) id mine) t.1) [
              | inl q ↦ or_left (is_side_told c first k.place.0) (is_side_told c second k.place.0) (side_told c first t.0 k.place.0 q ∙ t.1)
              | inr q ↦ or_right (is_side_told c first k.place.0) (is_side_told c second k.place.0) (side_told c second t.0 k.place.0 q ∙ t.1)
            ])
            ∙ ap (λ t. t && is_told_to_some (is_told c) c.count k.place.0) (sym mine))
        | inr other ↦
            ap (λ t. (t && is_side_told c first k.place.0) || (t && is_side_told c second k.place.0)) other
            ∙ ap (λ t. t && is_told_to_some (is_told c) c.count k.place.0) (sym other)
      ]

  one_told : (o : Option SideView) (l : ℕ) → is_other o l ≡ true → (k : Key) → is_own_told c id o k ≡ is_told_by (world_at n c until x) id l k
  one_told o l h k = ap (λ t. (owner_of c k.place.0 == id) && t) (side_told c o l k.place.0 h)

  -- the Back for a neighbour
  pub back_for : (o : Option SideView) (l : ℕ) (p : Part) (op : Op) → is_other o l ≡ true → is_before (op_key op) p.clock ≡ true → IsRising p.timeline
      → back_of (first_told_of c id o (op_key op) p.timeline) (lesser_key (first_told_of c id first (op_key op) p.timeline) (first_told_of c id second (op_key op) p.timeline)) ≡ op_puts (world_at n c until x) id p op l
  back_for o l p op h early rising =
      let here = from (op_key op) p.timeline in
      let told = keep (is_told_by (world_at n c until x) id l) here in
      let to_some : Key → Bool = λ k. is_own (world_at n c until x) id k && is_told_to_some (is_told c) c.count k.place.0 in
      let least : lesser_key (first_told_of c id first (op_key op) p.timeline) (first_told_of c id second (op_key op) p.timeline) ≡ first_key (keep to_some here) =
      sym (first_of_either (is_own_told c id first) (is_own_told c id second) here (IsRising_keep (λ k. not (is_before k (op_key op))) p.timeline rising))
      ∙ ap first_key (keep_same (λ k. is_own_told c id first k || is_own_told c id second k) to_some any_told here) in
      ap (λ es. back_of (first_key es) (lesser_key (first_told_of c id first (op_key op) p.timeline) (first_told_of c id second (op_key op) p.timeline))) (keep_same (is_own_told c id o) (is_told_by (world_at n c until x) id l) (one_told o l h) here)
      ∙ (ap (back_of (first_key told)) least
      ∙ (sym (back_if_is told (keep to_some here))
      ∙ ap (λ t. cond t (back_if_any told (keep to_some here)) []) (sym early)))

  -- a region that is no neighbour was told nothing
  pub no_back : (l : ℕ) (p : Part) (op : Op) → is_other first l ≡ false → is_other second l ≡ false → op_puts (world_at n c until x) id p op l ≡ []
  no_back l p op no_f no_s =
      let here = from (op_key op) p.timeline in
      let none : keep (is_told_by (world_at n c until x) id l) here ≡ [] = keep_none (is_told_by (world_at n c until x) id l) here (all_keys (λ k. is_told_by (world_at n c until x) id l k ≡ false) silent here) in
      ap (λ es. cond (is_before (op_key op) p.clock) (back_if_any es (keep (λ k. is_own (world_at n c until x) id k && is_told_to_some (is_told c) c.count k.place.0) here)) []) none
      ∙ both (is_before (op_key op) p.clock)
    where
      none_either : Bool → List Op
      none_either t = if t then [] else []

      both : (t : Bool) → none_either t ≡ []
      both true = refl
      both false = refl

      silent : (k : Key) → is_told_by (world_at n c until x) id l k ≡ false
      silent k =
          elim (cases_Bool (is_told_by (world_at n c until x) id l k)) [
            | inr q ↦ q
            | inl q ↦
                let t = and_parts (owner_of c k.place.0 == id) (is_told c l k.place.0) q in
                absurd (elim (s.near l k.place.0 (eqb-true (owner_of c k.place.0) id t.0) t.1) [ inl y ↦ both_ways (is_other first l) no_f y | inr y ↦ both_ways (is_other second l) no_s y ])
          ]

  pub not_early : (l : ℕ) (p : Part) (op : Op) → is_before (op_key op) p.clock ≡ false → op_puts (world_at n c until x) id p op l ≡ []
  not_early l p op h = ap (λ t. cond t (back_if_any (keep (is_told_by (world_at n c until x) id l) (from (op_key op) p.timeline)) (keep (λ k. is_own (world_at n c until x) id k && is_told_to_some (is_told c) c.count k.place.0) (from (op_key op) p.timeline))) []) h
