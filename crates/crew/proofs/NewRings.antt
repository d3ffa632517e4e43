-- The rings between the regions of a crew, as they are made.
use Rattle.std.proofs.Common.{◌≡◌, ◌≢◌, ℕ, ◌+◌, ◌<◌, ◌⊎◌, inl, inr, List, length, refl, sym, ap, ◌∙◌, subst, arith, Option, Some, None, get_or}
use Rattle.std.specs.Prelude.{slice_get}
use Rattle.std.proofs.lemmas.Bool.{cases_eq, cases_lt, cases_order}
use Rattle.std.proofs.lemmas.Option.{none-some, same_Some, slice_get_past, slice_get-get_or, get_or_from_slice_get}
use Rattle.surface_state.specs.SurfaceView.{SurfaceView}
use Rattle.plan.specs.Network.{Network}
use Rattle.regions.specs.Bands.{Bands, IsCut}
use Rattle.regions.specs.Neighbours.{IsNeighbour, AreNeighbours}
use Rattle.region_run.specs.declared.region.Region.{Region}
use Rattle.region_run.specs.declared.side.Ends.{Ends}
use Rattle.region_run.specs.Regions.{ends_with}
use Rattle.region_run.specs.Channels.{AreTied}
use Rattle.crew.specs.Crews.{ends_of, ends_if}
use Rattle.crew.specs.Rounds.{IsFirstRegion, AreFirstRegions, IsTwo}
use Rattle.crew.specs.Rings.{HasNewEnds, AreUnjoined, AreJoined, ArePairJoined, MayJoin, IsJoinedAbove, StayFirst, HaveNewRings, AreJoinedBelow, AreRinged, AreMade}
use Rattle.crew.proofs.Present.{member, there}
use Rattle.crew.proofs.Firsts.{first_region, joined_first}

-- Two members

-- two regions of a list that were joined, as they were and as they are
record IsPair (slots i j : ℕ) (rs rs' : List Region) : Type 0 where
  r : Region
  s : Region
  t : Region
  u : Region
  two : IsTwo rs rs' i j r s t u
  joined : AreJoined slots r s t u

pair : (slots i j : ℕ) (rs rs' : List Region) → i < j → j < length rs → ArePairJoined slots i j rs rs' → IsPair slots i j rs rs'
pair slots i j rs rs' order inside p =
    let m = member rs i (omega (arith, order, inside)) in
    let q = member rs j inside in
    record {
      r = m.0;
      s = q.0;
      t = get_or rs' i m.0;
      u = get_or rs' j m.0;
      two = record {
        apart = λ e. absurd (omega (arith, order, e));
        len = p.len;
        old_from = m.1;
        old_to = q.1;
        new_from = slice_get-get_or rs' i m.0 (omega (arith, p.len, order, inside));
        new_to = slice_get-get_or rs' j m.0 (omega (arith, p.len, inside));
        others = others;
      };
      joined = subst (λ (x : Region). AreJoined slots x q.0 (get_or rs' i m.0) (get_or rs' j m.0)) (get_or_from_slice_get rs i m.0 m.0 m.1)
          (subst (λ (x : Region). AreJoined slots (get_or rs i m.0) x (get_or rs' i m.0) (get_or rs' j m.0)) (get_or_from_slice_get rs j q.0 m.0 q.1) (p.joined m.0));
    }
  where
    others : (k : ℕ) → k ≢ i → k ≢ j → slice_get rs' k ≡ slice_get rs k
    others k ni nj =
        elim (there rs k) [
          | inl x ↦ slice_get-get_or rs' k x.0 (omega (arith, p.len, x.2)) ∙ ap Some (p.others k x.0 ni nj ∙ get_or_from_slice_get rs k x.0 x.0 x.1) ∙ sym x.1
          | inr x ↦ slice_get_past rs' k (omega (arith, p.len, x.1)) ∙ sym x.0
        ]

is_pair : (a b c d : ℕ) → ((a ≡ b) × (c ≡ d)) ⊎ (a ≡ b → c ≡ d → ⊥)
is_pair a b c d =
    elim (cases_eq a b) [
      | inr n ↦ inr (λ x y. n x)
      | inl x ↦ elim (cases_eq c d) [ inl y ↦ inl (x, y) | inr m ↦ inr (λ z y. m y) ]
    ]

module _ (slots i j : ℕ) (rs rs' : List Region) (r s t u : Region) (two : IsTwo rs rs' i j r s t u) (a : AreJoined slots r s t u) where
  members : (P : ℕ → Region → Type 0) → P i t → P j u → ((k : ℕ) (x : Region) → slice_get rs k ≡ Some x → P k x) → (k : ℕ) (x : Region) → slice_get rs' k ≡ Some x → P k x
  members P pt pu old k x h =
      elim (cases_eq k i) [
        | inl e ↦ subst (λ m. P m x) (sym e) (subst (P i) (same_Some t x (sym two.new_from ∙ ap (slice_get rs') (sym e) ∙ h)) pt)
        | inr ni ↦
            elim (cases_eq k j) [
              | inl e ↦ subst (λ m. P m x) (sym e) (subst (P j) (same_Some u x (sym two.new_to ∙ ap (slice_get rs') (sym e) ∙ h)) pu)
              | inr nj ↦ old k x (sym (two.others k ni nj) ∙ h)
            ]
      ]

  stay_pair : StayFirst rs rs'
  stay_pair =
      record {
        each = λ n b start old.
            members (λ k x. IsFirstRegion n b k start x) (joined_first n b i start r t (old i r two.old_from) slots s.id a.ends1 a.first) (joined_first n b j start s u (old j s two.old_to) slots r.id a.ends2 a.second) old;
      }

  numbers_pair : ((k : ℕ) (x : Region) → slice_get rs k ≡ Some x → x.id ≡ k) → (k : ℕ) (x : Region) → slice_get rs' k ≡ Some x → x.id ≡ k
  numbers_pair old =
      members (λ k x. x.id ≡ k) (ap (λ (x : Region). x.id) a.first.attached.same ∙ old i r two.old_from) (ap (λ (x : Region). x.id) a.second.attached.same ∙ old j s two.old_to) old

  module _ (r_id : r.id ≡ i) (s_id : s.id ≡ j) where
    there_ends : ends_of rs' i j ≡ Some a.ends1
    there_ends = ap (λ o. ends_if o j) two.new_from ∙ ap (ends_with t) (sym s_id) ∙ a.first.attached.ends

    back_ends : ends_of rs' j i ≡ Some a.ends2
    back_ends = ap (λ o. ends_if o i) two.new_to ∙ ap (ends_with u) (sym r_id) ∙ a.second.attached.ends

    new_pair : HaveNewRings slots rs' i j
    new_pair = record { there = subst (HasNewEnds slots) (sym there_ends) a.first.ends; back = subst (HasNewEnds slots) (sym back_ends) a.second.ends }

    of_first : (l : ℕ) → l ≢ j → ends_of rs' i l ≡ ends_of rs i l
    of_first l ne = ap (λ o. ends_if o l) two.new_from ∙ (a.first.attached.others l (λ q. ne (q ∙ s_id))).0 ∙ sym (ap (λ o. ends_if o l) two.old_from)

    of_second : (l : ℕ) → l ≢ i → ends_of rs' j l ≡ ends_of rs j l
    of_second l ne = ap (λ o. ends_if o l) two.new_to ∙ (a.second.attached.others l (λ q. ne (q ∙ r_id))).0 ∙ sym (ap (λ o. ends_if o l) two.old_to)

    kept : (k l : ℕ) → (k ≡ i → l ≡ j → ⊥) → (k ≡ j → l ≡ i → ⊥) → ends_of rs' k l ≡ ends_of rs k l
    kept k l x y =
        elim (cases_eq k i) [
          | inl e ↦ subst (λ m. ends_of rs' m l ≡ ends_of rs m l) (sym e) (of_first l (x e))
          | inr ni ↦
              elim (cases_eq k j) [
                | inl e ↦ subst (λ m. ends_of rs' m l ≡ ends_of rs m l) (sym e) (of_second l (y e))
                | inr nj ↦ ap (λ o. ends_if o l) (two.others k ni nj)
              ]
        ]

    tied_there : AreTied (ends_of rs' i j) (ends_of rs' j i)
    tied_there = subst (λ (o : Option Ends). AreTied o (ends_of rs' j i)) (sym there_ends) (subst (λ (o : Option Ends). AreTied (Some a.ends1) o) (sym back_ends) a.ties)

    tied_back : AreTied (ends_of rs' j i) (ends_of rs' i j)
    tied_back =
        subst (λ (o : Option Ends). AreTied o (ends_of rs' i j)) (sym back_ends) (subst (λ (o : Option Ends). AreTied (Some a.ends2) o) (sym there_ends) (a.ties.1, a.ties.0))

    ties_pair : ((k l : ℕ) → k ≢ l → AreTied (ends_of rs k l) (ends_of rs l k)) → (k l : ℕ) → k ≢ l → AreTied (ends_of rs' k l) (ends_of rs' l k)
    ties_pair old k l ne =
        elim (is_pair k i l j) [
          | inl e ↦ subst (λ m. AreTied (ends_of rs' m l) (ends_of rs' l m)) (sym e.0) (subst (λ m. AreTied (ends_of rs' i m) (ends_of rs' m i)) (sym e.1) tied_there)
          | inr x ↦
              elim (is_pair k j l i) [
                | inl e ↦ subst (λ m. AreTied (ends_of rs' m l) (ends_of rs' l m)) (sym e.0) (subst (λ m. AreTied (ends_of rs' j m) (ends_of rs' m j)) (sym e.1) tied_back)
                | inr y ↦
                    subst (λ (o : Option Ends). AreTied o (ends_of rs' l k)) (sym (kept k l x y))
                    (subst (λ (o : Option Ends). AreTied (ends_of rs k l) o) (sym (kept l k (λ p q. y q p) (λ p q. x q p))) (old k l ne))
              ]
        ]

-- One step

-- What a step leaves: from rs to rs' the region was joined to the other one.
pub record IsFurther (slots i : ℕ) (other : Option ℕ) (rs rs' : List Region) : Type 0 where
  pub len : length rs' ≡ length rs
  pub numbers : (k : ℕ) (x : Region) → slice_get rs' k ≡ Some x → x.id ≡ k
  pub ties : (k l : ℕ) → k ≢ l → AreTied (ends_of rs' k l) (ends_of rs' l k)
  pub stay : StayFirst rs rs'
  pub rings : (j : ℕ) → other ≡ Some j → i < j → HaveNewRings slots rs' i j
  pub rest : (k l : ℕ) → k < l → (k ≡ i → other ≡ Some l → ⊥) → (ends_of rs' k l ≡ ends_of rs k l) × (ends_of rs' l k ≡ ends_of rs l k)

module _ (slots i : ℕ) (rs rs' : List Region) (numbers : (k : ℕ) (x : Region) → slice_get rs k ≡ Some x → x.id ≡ k) (ties : (k l : ℕ) → k ≢ l → AreTied (ends_of rs k l) (ends_of rs l k)) where
  no_further : (other : Option ℕ) → ((j : ℕ) → other ≡ Some j → i < j → ⊥) → rs' ≡ rs → IsFurther slots i other rs rs'
  no_further other none e =
      subst (λ (xs : List Region). IsFurther slots i other rs xs) (sym e)
      (record { len = refl; numbers = numbers; ties = ties; stay = record { each = λ n b start old. old }; rings = λ j q lt. absurd (none j q lt); rest = λ k l lt ne. (refl, refl) })

  pair_further : (j : ℕ) → i < j → IsPair slots i j rs rs' → IsFurther slots i (Some j) rs rs'
  pair_further j lt p =
      let r_id : p.r.id ≡ i = numbers i p.r p.two.old_from in
      let s_id : p.s.id ≡ j = numbers j p.s p.two.old_to in
      record {
        len = p.two.len;
        numbers = numbers_pair slots i j rs rs' p.r p.s p.t p.u p.two p.joined numbers;
        ties = ties_pair slots i j rs rs' p.r p.s p.t p.u p.two p.joined r_id s_id ties;
        stay = stay_pair slots i j rs rs' p.r p.s p.t p.u p.two p.joined;
        rings = λ k q _. subst (HaveNewRings slots rs' i) (same_Some j k q) (new_pair slots i j rs rs' p.r p.s p.t p.u p.two p.joined r_id s_id);
        rest = λ k l kl ne.
            let one = kept slots i j rs rs' p.r p.s p.t p.u p.two p.joined r_id s_id in
            (one k l (λ x y. ne x (ap Some (sym y))) (λ x y. absurd (omega (arith, lt, kl, x, y))), one l k (λ x y. absurd (omega (arith, lt, kl, x, y))) (λ y x. ne x (ap Some (sym y))));
      }

  pub further : (other : Option ℕ) → MayJoin i other rs → IsJoinedAbove slots i other rs rs' → IsFurther slots i other rs rs'
  further None may a = let n = λ (j : ℕ) (q : None ≡ Some j) (lt : i < j). none-some j q in no_further None n (a.none n)
  further (Some j) may a =
      elim (cases_lt i j) [
        | inl lt ↦ pair_further j lt (pair slots i j rs rs' lt (may j refl lt).0 (a.pair j refl lt))
        | inr le ↦
            let n = λ (k : ℕ) (q : Some j ≡ Some k) (lt : i < k). let e : j ≡ k = same_Some j k q in absurd (omega (arith, le, lt, e)) in
            no_further (Some j) n (a.none n)
      ]

-- All steps

pub unjoined : (rs : List Region) (i j : ℕ) → ((k : ℕ) (x : Region) → slice_get rs k ≡ Some x → x.id ≡ k) → i < j → j < length rs → ends_of rs i j ≡ None → ends_of rs j i ≡ None
    → (d : Region) → AreUnjoined (get_or rs i d) (get_or rs j d)
unjoined rs i j numbers lt inside e f d =
    let at_i : slice_get rs i ≡ Some (get_or rs i d) = slice_get-get_or rs i d (omega (arith, lt, inside)) in
    let at_j : slice_get rs j ≡ Some (get_or rs j d) = slice_get-get_or rs j d inside in
    let id_i : (get_or rs i d).id ≡ i = numbers i (get_or rs i d) at_i in
    let id_j : (get_or rs j d).id ≡ j = numbers j (get_or rs j d) at_j in
    record {
      apart = λ q. let same : i ≡ j = sym id_i ∙ q ∙ id_j in absurd (omega (arith, lt, same));
      first = ap (ends_with (get_or rs i d)) id_j ∙ sym (ap (λ o. ends_if o j) at_i) ∙ e;
      second = ap (ends_with (get_or rs j d)) id_i ∙ sym (ap (λ o. ends_if o i) at_j) ∙ f;
    }

rings_stay : (slots i j : ℕ) (rs rs' : List Region) → (ends_of rs' i j ≡ ends_of rs i j) × (ends_of rs' j i ≡ ends_of rs j i) → HaveNewRings slots rs i j → HaveNewRings slots rs' i j
rings_stay slots i j rs rs' e h = record { there = subst (HasNewEnds slots) (sym e.0) h.there; back = subst (HasNewEnds slots) (sym e.1) h.back }

pub stay_on : (rs one two : List Region) → StayFirst rs one → StayFirst one two → StayFirst rs two
stay_on rs one two x y = record { each = λ n b start old. y.each n b start (x.each n b start old) }

module _ (b : Bands) (slots k : ℕ) (first second : Option ℕ) (rs : List Region) (neighbours : AreNeighbours b k first second) (less : (other : ℕ) → IsNeighbour b k other → other < b.count) (below : AreJoinedBelow b slots k rs) where
  pub may_first : MayJoin k first rs
  may_first j q lt =
      let inside : j < length rs = subst (λ m. j < m) (sym below.count) (less j ((neighbours.exactly j).0 (inl q))) in
      let none = below.apart k j (omega arith) lt in
      (inside, unjoined rs k j below.numbers lt inside none.0 none.1)

  module _ (one : List Region) (a : IsJoinedAbove slots k first rs one) where
    first_step : IsFurther slots k first rs one
    first_step = further slots k rs one below.numbers below.ties first may_first a

    pub may_second : MayJoin k second one
    may_second j q lt =
        let inside : j < length one = subst (λ m. j < m) (sym (first_step.len ∙ below.count)) (less j ((neighbours.exactly j).0 (inr q))) in
        let same = first_step.rest k j lt (λ _ p. neighbours.apart j p q) in
        let none = below.apart k j (omega arith) lt in
        (inside, unjoined one k j first_step.numbers lt inside (same.0 ∙ none.0) (same.1 ∙ none.1))

    module _ (two : List Region) (d : IsJoinedAbove slots k second one two) where
      second_step : IsFurther slots k second one two
      second_step = further slots k one two first_step.numbers first_step.ties second may_second d

      pub stay_both : StayFirst rs two
      stay_both = stay_on rs one two first_step.stay second_step.stay

      same_both : (i j : ℕ) → i < j → i ≢ k → (ends_of two i j ≡ ends_of rs i j) × (ends_of two j i ≡ ends_of rs j i)
      same_both i j lt ne =
          let x = first_step.rest i j lt (λ e _. ne e) in
          let y = second_step.rest i j lt (λ e _. ne e) in
          (y.0 ∙ x.0, y.1 ∙ x.1)

      rings_k : (j : ℕ) → k < j → IsNeighbour b k j → HaveNewRings slots two k j
      rings_k j lt nb =
          elim ((neighbours.exactly j).1 nb) [
            | inl q ↦ rings_stay slots k j one two (second_step.rest k j lt (λ _ p. neighbours.apart j q p)) (first_step.rings j q lt)
            | inr q ↦ second_step.rings j q lt
          ]

      pub one_more_joined : AreJoinedBelow b slots (k + 1) two
      one_more_joined =
          record {
            count = second_step.len ∙ first_step.len ∙ below.count;
            numbers = second_step.numbers;
            ties = second_step.ties;
            rings = λ i j at lt nb.
                elim (cases_eq i k) [
                  | inl e ↦ subst (λ m. HaveNewRings slots two m j) (sym e) (rings_k j (subst (λ m. m < j) e lt) (subst (λ m. IsNeighbour b m j) e nb))
                  | inr ne ↦ rings_stay slots i j rs two (same_both i j lt ne) (below.rings i j (omega (arith, at, ne)) lt nb)
                ];
            apart = λ i j at lt.
                let same = same_both i j lt (λ e. absurd (omega (arith, at, e))) in
                let none = below.apart i j (omega (arith, at)) lt in
                (same.0 ∙ none.0, same.1 ∙ none.1);
          }

-- Before the first step, and after the last one

module _ (n : Network) (b : Bands) (start : SurfaceView) (slots : ℕ) (rs : List Region) (made : AreMade n b start b.count rs) where
  no_ends : (i j : ℕ) → ends_of rs i j ≡ None
  no_ends i j =
      elim (there rs i) [
        | inl m ↦ ap (λ o. ends_if o j) m.1 ∙ (made.each i m.0 m.1).ends j
        | inr m ↦ ap (λ o. ends_if o j) m.0
      ]

  pub none_joined : AreJoinedBelow b slots 0 rs
  none_joined =
      record {
        count = made.count;
        numbers = λ i r at. (made.each i r at).id_is;
        ties = λ i j _.
            subst (λ (o : Option Ends). AreTied o (ends_of rs j i)) (sym (no_ends i j)) (subst (λ (o : Option Ends). AreTied None o) (sym (no_ends j i)) tt);
        rings = λ i j lt _ _. absurd (omega (arith, lt));
        apart = λ i j _ _. (no_ends i j, no_ends j i);
      }

  pub all_first : (rs' : List Region) → AreJoinedBelow b slots b.count rs' → StayFirst rs rs' → AreFirstRegions n b start rs'
  all_first rs' joined stay =
      record { count = joined.count; each = stay.each n b start (λ i r at. first_region n b i start r (made.each i r at)); ties = joined.ties }

pub all_ringed : (b : Bands) (slots : ℕ) (rs : List Region) → IsCut b → ((region other : ℕ) → region < b.count → IsNeighbour b region other → other < b.count)
    → ((region other : ℕ) → region < b.count → IsNeighbour b region other → IsNeighbour b other region) → AreJoinedBelow b slots b.count rs → AreRinged b slots rs
all_ringed b slots rs cut less both joined =
    record {
      each = λ i j inside nb.
          elim (cases_order i j) [
            | inl e ↦ absurd (nb.0 e)
            | inr o ↦
                elim o [
                  | inl lt ↦ joined.rings i j inside lt nb
                  | inr lt ↦ let h = joined.rings j i (less i j inside nb) lt (both i j inside nb) in record { there = h.back; back = h.there }
                ]
          ];
    }
