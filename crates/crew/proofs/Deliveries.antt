-- A crew after a delivery.
use Rattle.std.proofs.Common.{◌≡◌, ◌≢◌, ℕ, ◌==◌, ◌&&◌, ◌<◌, inl, inr, Bool, true, false, List, [], ◌∷◌, ◌++◌, length, drop, refl, sym, ap, ◌∙◌, subst, Option, Some, None, cond, if◌then◌else◌}
use Rattle.std.specs.Prelude.{slice_get}
use Rattle.std.proofs.lemmas.Bool.{eq-eqb}
use Rattle.std.proofs.lemmas.Bool.Decides.{eqb_tells}
use Rattle.std.proofs.lemmas.Option.{same_Some}
use Rattle.surf_kinds.specs.declared.event.Event.{Event}
use Rattle.surf_kinds.specs.declared.event.Key.{Key}
use Rattle.surface_state.specs.SurfaceView.{SurfaceView}
use Rattle.border.specs.declared.op.Op.{Op}
use Rattle.warp_core.specs.World.{World}
use Rattle.warp_core.specs.Parts.{Part, PartStep, after_take, take_puts}
use Rattle.warp_core.specs.Cores.{Core}
use Rattle.warp_core.specs.Steps.{StepOf, with_part, with_channel}
use Rattle.warp_core.specs.declared.step.Step.{Step}
use Rattle.warp_core.specs.declared.step.Step.TheVariants.{Take}
use Rattle.region_run.specs.declared.region.Region.{Region}
use Rattle.region_run.specs.declared.side.Ends.{Ends}
use Rattle.region_run.specs.Sides.{received_by}
use Rattle.region_run.specs.Channels.{AreTied, channel}
use Rattle.region_run.specs.Regions.{part_of, line_to, ends_with, IsRegion}
use Rattle.crew.specs.Crews.{CrewView, IsCrew, world_in, core_in, core_from, parts_of, lines_of, ends_of, got_of, part_if, line_if, ends_if, base_at}
use Rattle.region_run.specs.Deliveries.{IsSender, IsBut, IsDelivery, IsNoDelivery}
use Rattle.crew.specs.Rounds.{IsTwo}
use Rattle.crew.proofs.Fronts.{IsFront, tied_back}
use Rattle.crew.proofs.Cores.{AreFronts, OnlyMoved, moved_is, OnlyTook, took_is, fronts_took}
use Rattle.crew.proofs.Present.{fronts}
use Rattle.crew.proofs.Joins.{no_line, no_puts}

module _ (v : CrewView) (past : ℕ → List Event) (base : ℕ → SurfaceView) (crew : IsCrew v past base) (rs' : List Region) (j i : ℕ) (f t f' t' : Region) (two : IsTwo v.regions rs' j i f t f' t') where
  f_id : f.id ≡ j
  f_id = (crew.region j f two.old_from).1

  t_id : t.id ≡ i
  t_id = (crew.region i t two.old_to).1

  -- what is as it was of the sender and the receiver
  module _ (sender : IsSender t.id f f') (to_ends : (l : ℕ) → l ≢ f.id → ends_with t' l ≡ ends_with t l) (ties : AreTied (ends_with f' t.id) (ends_with t' f.id)) where
    other_ends : (a b : ℕ) → ((a ≡ j) → (b ≡ i) → ⊥) → ((a ≡ i) → (b ≡ j) → ⊥) → ends_of rs' a b ≡ ends_of v.regions a b
    other_ends a b m n =
        elim (eqb_tells a j) [
          | inl p ↦ subst (λ x. ends_of rs' x b ≡ ends_of v.regions x b) (sym p.1) (ap (λ o. ends_if o b) two.new_from ∙ (sender.but.ends b (λ e. m p.1 (e ∙ t_id)) ∙ sym (ap (λ o. ends_if o b) two.old_from)))
          | inr p ↦ elim (eqb_tells a i) [
            | inl q ↦ subst (λ x. ends_of rs' x b ≡ ends_of v.regions x b) (sym q.1) (ap (λ o. ends_if o b) two.new_to ∙ (to_ends b (λ e. n q.1 (e ∙ f_id)) ∙ sym (ap (λ o. ends_if o b) two.old_to)))
            | inr q ↦ ap (λ o. ends_if o b) (two.others a p.1 q.1)
          ]
        ]

    tied : AreTied (ends_of rs' j i) (ends_of rs' i j)
    tied =
        subst (λ o. AreTied (ends_if o i) (ends_of rs' i j)) (sym two.new_from)
        (subst (λ o. AreTied (ends_with f' i) (ends_if o j)) (sym two.new_to)
        (subst (λ m. AreTied (ends_with f' m) (ends_with t' j)) t_id (subst (λ m. AreTied (ends_with f' t.id) (ends_with t' m)) f_id ties)))

    all_tied : (a b : ℕ) → a ≢ b → AreTied (ends_of rs' a b) (ends_of rs' b a)
    all_tied a b n =
        elim (eqb_tells a j) [
          | inl p ↦ elim (eqb_tells b i) [
            | inl q ↦ subst (λ x. AreTied (ends_of rs' x b) (ends_of rs' b x)) (sym p.1) (subst (λ y. AreTied (ends_of rs' j y) (ends_of rs' y j)) (sym q.1) tied)
            | inr q ↦ plain (λ _ e. q.1 e) (λ e _. two.apart (sym p.1 ∙ e))
          ]
          | inr p ↦ elim (eqb_tells a i) [
            | inr q ↦ plain (λ e _. p.1 e) (λ e _. q.1 e)
            | inl q ↦ elim (eqb_tells b j) [
              | inl r ↦ subst (λ x. AreTied (ends_of rs' x b) (ends_of rs' b x)) (sym q.1) (subst (λ y. AreTied (ends_of rs' i y) (ends_of rs' y i)) (sym r.1) (tied_back (ends_of rs' j i) (ends_of rs' i j) tied))
              | inr r ↦ plain (λ e _. p.1 e) (λ _ e. r.1 e)
            ]
          ]
        ]
      where
        plain : ((a ≡ j) → (b ≡ i) → ⊥) → ((a ≡ i) → (b ≡ j) → ⊥) → AreTied (ends_of rs' a b) (ends_of rs' b a)
        plain m l = subst (λ x. AreTied x (ends_of rs' b a)) (sym (other_ends a b m l)) (subst (λ x. AreTied (ends_of v.regions a b) x) (sym (other_ends b a (λ e d. l d e) (λ e d. m d e))) (crew.ties a b n))

    -- what was received elsewhere
    other_got : (b a : ℕ) → ((a ≡ j) → (b ≡ i) → ⊥) → got_of rs' b a ≡ got_of v.regions b a
    other_got b a n =
        elim (eqb_tells b j) [
          | inr p ↦ ap received_by (other_ends b a (λ e _. p.1 e) (λ e d. n d e))
          | inl p ↦ elim (eqb_tells a i) [
            | inr q ↦ ap received_by (other_ends b a (λ _ e. q.1 e) (λ e d. n d e))
            | inl q ↦
                subst (λ x. got_of rs' x a ≡ got_of v.regions x a) (sym p.1) (subst (λ y. got_of rs' j y ≡ got_of v.regions j y) (sym q.1)
                (ap (λ o. received_by (ends_if o i)) two.new_from
                ∙ (subst (λ m. received_by (ends_with f' m) ≡ received_by (ends_with f m)) t_id sender.got
                ∙ sym (ap (λ o. received_by (ends_if o i)) two.old_from))))
          ]
        ]

    -- what was put by others than the receiver
    other_lines : (a b : ℕ) → a ≢ i → ((a ≡ j) → (b ≡ i) → ⊥) → lines_of rs' a b ≡ lines_of v.regions a b
    other_lines a b m n =
        elim (eqb_tells a j) [
          | inl p ↦ subst (λ x. lines_of rs' x b ≡ lines_of v.regions x b) (sym p.1) (ap (λ o. line_if o b) two.new_from ∙ (sender.but.line b (λ e. n p.1 (e ∙ t_id)) ∙ sym (ap (λ o. line_if o b) two.old_from)))
          | inr p ↦ ap (λ o. line_if o b) (two.others a p.1 m)
        ]

    other_parts : (k : ℕ) → k ≢ i → parts_of rs' k ≡ parts_of v.regions k
    other_parts k n =
        elim (eqb_tells k j) [
          | inl p ↦ subst (λ x. parts_of rs' x ≡ parts_of v.regions x) (sym p.1) (ap part_if two.new_from ∙ (sender.part ∙ sym (ap part_if two.old_from)))
          | inr p ↦ ap part_if (two.others k p.1 n)
        ]

    crew_two : IsRegion v.network v.bands v.until (base_at v past base i) t' → t'.id ≡ t.id → IsCrew (record v { regions = rs' }) past base
    crew_two g id =
        record {
          count = two.len ∙ crew.count;
          cut = crew.cut;
          lattice = crew.lattice;
          short = crew.short;
          region = λ k r at.
              elim (eqb_tells k i) [
                | inl p ↦
                    let is : t' ≡ r = same_Some t' r (sym two.new_to ∙ (ap (slice_get rs') (sym p.1) ∙ at)) in
                    subst (λ x. IsRegion v.network v.bands v.until (base_at v past base k) x × (x.id ≡ k)) is (subst (λ m. IsRegion v.network v.bands v.until (base_at v past base m) t' × (t'.id ≡ m)) (sym p.1) (g, id ∙ t_id))
                | inr p ↦ elim (eqb_tells k j) [
                  | inl q ↦
                      let is : f' ≡ r = same_Some f' r (sym two.new_from ∙ (ap (slice_get rs') (sym q.1) ∙ at)) in
                      subst (λ x. IsRegion v.network v.bands v.until (base_at v past base k) x × (x.id ≡ k)) is
                      (subst (λ m. IsRegion v.network v.bands v.until (base_at v past base m) f' × (f'.id ≡ m)) (sym q.1)
                      (sender.region v.network v.bands v.until (base_at v past base j) (crew.region j f two.old_from).0, sender.but.id ∙ f_id))
                  | inr q ↦ crew.region k r (sym (two.others k q.1 p.1) ∙ at)
                ]
              ];
          agree = crew.agree;
          ties = all_tied;
        }

    -- the channel between them, before and after
    old_channel : drop (length (got_of v.regions i j)) (lines_of v.regions j i) ≡ channel f t
    old_channel =
        ap (λ o. drop (length (received_by (ends_if o j))) (lines_of v.regions j i)) two.old_to
        ∙ (ap (λ o. drop (length (received_by (ends_with t j))) (line_if o i)) two.old_from
        ∙ (ap (λ m. drop (length (received_by (ends_with t m))) (line_to f i)) (sym f_id)
        ∙ ap (λ m. drop (length (received_by (ends_with t f.id))) (line_to f m)) (sym t_id)))

    new_channel : t'.id ≡ t.id → drop (length (got_of rs' i j)) (lines_of rs' j i) ≡ channel f' t'
    new_channel id =
        ap (λ o. drop (length (received_by (ends_if o j))) (lines_of rs' j i)) two.new_to
        ∙ (ap (λ o. drop (length (received_by (ends_with t' j))) (line_if o i)) two.new_from
        ∙ (ap (λ m. drop (length (received_by (ends_with t' m))) (line_to f' i)) (sym (sender.but.id ∙ f_id))
        ∙ ap (λ m. drop (length (received_by (ends_with t' f'.id))) (line_to f' m)) (sym (id ∙ t_id))))

    no_own : (l : List Op) → cond (j == i) [] l ≡ l
    no_own l = elim (eqb_tells j i) [ inl e ↦ absurd (two.apart e.1) | inr e ↦ ap (λ s. cond s [] l) e.0 ]

  -- a message was there
  module _ (d : IsDelivery v.network v.bands v.until (base_at v past base i) f t f' t') where
    -- what was put, before the receiver put its Backs
    abbrev between : ℕ → ℕ → List Op
    between a b = if a == i then lines_of v.regions a b else lines_of rs' a b

    at_i : (l : ℕ) → between i l ≡ lines_of v.regions i l
    at_i l = ap (λ s. cond s (lines_of v.regions i l) (lines_of rs' i l)) (eq-eqb i i refl)

    not_i : (a b : ℕ) → a ≢ i → between a b ≡ lines_of rs' a b
    not_i a b n = elim (eqb_tells a i) [ inl e ↦ absurd (n e.1) | inr e ↦ ap (λ s. cond s (lines_of v.regions a b) (lines_of rs' a b)) e.0 ]

    pub took : OnlyTook j i (channel f' t') (lines_of v.regions) between (got_of v.regions) (got_of rs')
    took =
        record {
          apart = two.apart;
          remains = ap (drop (length (got_of rs' i j))) (not_i j i two.apart) ∙ new_channel d.sender d.ends d.ties d.made.id;
          front = subst (IsFront (got_of rs' i j)) (sym (not_i j i two.apart)) (fronts rs' (all_tied d.sender d.ends d.ties) j i two.apart);
          other_lines = λ a b n. elim (eqb_tells a i) [
            | inl p ↦ ap (λ s. cond s (lines_of v.regions a b) (lines_of rs' a b)) p.0
            | inr p ↦ ap (λ s. cond s (lines_of v.regions a b) (lines_of rs' a b)) p.0 ∙ other_lines d.sender d.ends d.ties a b p.1 n
          ];
          other_got = other_got d.sender d.ends d.ties;
        }

    part : part_of t ≡ parts_of v.regions i
    part = sym (ap part_if two.old_to)

    abbrev puts : ℕ → List Op
    puts = take_puts (world_in v) v.horizon i (parts_of v.regions i) j d.op

    puts_is : (l : ℕ) → take_puts (world_in v) v.horizon t.id (part_of t) f.id d.op l ≡ puts l
    puts_is l =
        ap (λ m. take_puts (world_in v) v.horizon m (part_of t) f.id d.op l) t_id
        ∙ (ap (λ p. take_puts (world_in v) v.horizon i p f.id d.op l) part
        ∙ ap (λ m. take_puts (world_in v) v.horizon i (parts_of v.regions i) m d.op l) f_id)

    none : take_puts (world_in v) v.horizon t.id (part_of t) f.id d.op t.id ≡ []
    none =
        no_puts (line_to t t.id) (take_puts (world_in v) v.horizon t.id (part_of t) f.id d.op t.id) (no_line v.network v.bands v.until (base_at v past base i) t (crew.region i t two.old_to).0)
        (sym (d.made.puts t.id) ∙ subst (λ m. line_to t' m ≡ []) d.made.id (no_line v.network v.bands v.until (base_at v past base i) t' d.made.region))

    pub moved : OnlyMoved i (after_take (world_in v) v.horizon i (parts_of v.regions i) j d.op) puts (parts_of v.regions) (parts_of rs') between (lines_of rs') (got_of rs') (got_of rs')
    moved =
        record {
          part =
              ap part_if two.new_to
              ∙ (d.made.part
              ∙ (ap (λ m. after_take (world_in v) v.horizon m (part_of t) f.id d.op) t_id
              ∙ (ap (λ p. after_take (world_in v) v.horizon i p f.id d.op) part
              ∙ ap (λ m. after_take (world_in v) v.horizon i (parts_of v.regions i) m d.op) f_id)));
          other_parts = other_parts d.sender d.ends d.ties;
          grew = λ l.
              ap (λ o. line_if o l) two.new_to
              ∙ (d.made.puts l
              ∙ (ap (λ x. x ++ take_puts (world_in v) v.horizon t.id (part_of t) f.id d.op l) (sym (ap (λ o. line_if o l) two.old_to) ∙ sym (at_i l))
              ∙ ap (λ x. between i l ++ x) (puts_is l)));
          other_lines = λ k l n. sym (not_i k l n);
          same_got = λ k l. refl;
          itself = sym (puts_is i) ∙ subst (λ m. take_puts (world_in v) v.horizon t.id (part_of t) f.id d.op m ≡ []) t_id none;
        }

    pub delivered_crew : IsCrew (record v { regions = rs' }) past base
    delivered_crew = crew_two d.sender d.ends d.ties d.made.region d.made.id

    pub delivered : j < v.bands.count → i < v.bands.count → StepOf (world_in v) (core_in v) (Take j i) (core_in (record v { regions = rs' }))
    delivered a b = (
      a,
      b,
      d.op,
      channel f' t',
      no_own d.sender d.ends d.ties (drop (length (got_of v.regions i j)) (lines_of v.regions j i)) ∙ (old_channel d.sender d.ends d.ties ∙ d.first),
      moved_is (world_in v) v.horizon i (after_take (world_in v) v.horizon i (parts_of v.regions i) j d.op) puts (parts_of v.regions) (parts_of rs') between (lines_of rs') (got_of rs') (got_of rs') moved
          (fronts_took (world_in v) v.horizon (parts_of v.regions) j i (channel f' t') (lines_of v.regions) between (got_of v.regions) (got_of rs') took (fronts v.regions crew.ties))
          ∙ ap (λ (c : Core). with_part c i (after_take (world_in v) v.horizon i (parts_of v.regions i) j d.op) puts) (took_is (world_in v) v.horizon (parts_of v.regions) j i (channel f' t') (lines_of v.regions) between (got_of v.regions) (got_of rs') took),
    )

  -- none was there
  module _ (d : IsNoDelivery f t f' t') where
    to_ends : (l : ℕ) → l ≢ f.id → ends_with t' l ≡ ends_with t l
    to_ends = d.receiver.ends

    same_parts : (k : ℕ) → parts_of rs' k ≡ parts_of v.regions k
    same_parts k =
        elim (eqb_tells k i) [
          | inl p ↦ subst (λ x. parts_of rs' x ≡ parts_of v.regions x) (sym p.1) (ap part_if two.new_to ∙ (d.part ∙ sym (ap part_if two.old_to)))
          | inr p ↦ other_parts d.sender d.receiver.ends d.ties k p.1
        ]

    to_line : (l : ℕ) → line_to t' l ≡ line_to t l
    to_line l = elim (eqb_tells l f.id) [ inl e ↦ subst (λ m. line_to t' m ≡ line_to t m) (sym e.1) d.line | inr e ↦ d.receiver.line l e.1 ]

    pub none_took : OnlyTook j i [] (lines_of v.regions) (lines_of rs') (got_of v.regions) (got_of rs')
    none_took =
        record {
          apart = two.apart;
          remains = new_channel d.sender d.receiver.ends d.ties d.receiver.id ∙ d.empty;
          front = fronts rs' (all_tied d.sender d.receiver.ends d.ties) j i two.apart;
          other_lines = λ a b n. elim (eqb_tells a i) [
            | inl p ↦ subst (λ x. lines_of rs' x b ≡ lines_of v.regions x b) (sym p.1) (ap (λ o. line_if o b) two.new_to ∙ (to_line b ∙ sym (ap (λ o. line_if o b) two.old_to)))
            | inr p ↦ other_lines d.sender d.receiver.ends d.ties a b p.1 n
          ];
          other_got = other_got d.sender d.receiver.ends d.ties;
        }

    pub none_before : (core_in v).channel j i ≡ []
    none_before = no_own d.sender d.receiver.ends d.ties (drop (length (got_of v.regions i j)) (lines_of v.regions j i)) ∙ (old_channel d.sender d.receiver.ends d.ties ∙ d.none)

    pub none_crew : IsCrew (record v { regions = rs' }) past base
    none_crew = crew_two d.sender d.receiver.ends d.ties (d.region v.network v.bands v.until (base_at v past base i) (crew.region i t two.old_to).0) d.receiver.id

    still : (a b : ℕ) → (if a == j && b == i then [] else (core_in v).channel a b) ≡ (core_in v).channel a b
    still a b =
        elim (eqb_tells a j) [
          | inr p ↦ ap (λ s. cond (s && (b == i)) [] ((core_in v).channel a b)) p.0
          | inl p ↦ elim (eqb_tells b i) [
            | inr q ↦ ap (λ s. cond (s && (b == i)) [] ((core_in v).channel a b)) p.0 ∙ ap (λ s. cond s [] ((core_in v).channel a b)) q.0
            | inl q ↦
                ap (λ s. cond (s && (b == i)) [] ((core_in v).channel a b)) p.0
                ∙ (ap (λ s. cond s [] ((core_in v).channel a b)) q.0
                ∙ sym (ap (λ x. (core_in v).channel x b) p.1 ∙ (ap (λ y. (core_in v).channel j y) q.1 ∙ none_before)))
          ]
        ]

    pub none_core : core_in (record v { regions = rs' }) ≡ core_in v
    none_core =
        (λ e. core_from (world_in v) v.horizon (λ k. same_parts k e) (lines_of rs') (got_of rs'))
        ∙ (took_is (world_in v) v.horizon (parts_of v.regions) j i [] (lines_of v.regions) (lines_of rs') (got_of v.regions) (got_of rs') none_took
        ∙ (λ e. record { horizon = v.horizon; committed = (core_in v).committed; part = (core_in v).part; channel = λ a b. still a b e }))
