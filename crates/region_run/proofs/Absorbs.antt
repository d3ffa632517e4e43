-- A region that takes a message.
use Rattle.std.proofs.Common.{◌≡◌, ℕ, ◌<◌, Bool, true, false, ◌==◌, inl, inr, List, [], ◌∷◌, ◌++◌, length, refl, sym, ap, ◌∙◌, subst, arith, Option, Some, None, cond, append-nil, if◌then◌else◌}
use Rattle.std.specs.Prelude.{not}
use Rattle.std.specs.Option.{option_map_or}
use Rattle.std.proofs.lemmas.Bool.{both_ways, cases_Bool, eq-eqb, eqb-true, and_parts}
use Rattle.std.proofs.lemmas.Bool.Decides.{eqb_tells}
use Rattle.std.proofs.lemmas.List.{get_or-set_same, get_or-set_other, length-set}
use Rattle.std.proofs.lemmas.Option.{none-some, same_Some}
use Rattle.surf_kinds.specs.declared.event.Event.{Event}
use Rattle.surf_kinds.specs.declared.event.Key.{Key}
use Rattle.surf_kinds.specs.Keys.{is_before, key_of, keep, below, AllKeys, ◌is_upto◌}
use Rattle.surf_kinds.proofs.Tables.{AllKeys_weaker}
use Rattle.lattice.specs.Shape.{Shape}
use Rattle.plan.specs.Network.{Network}
use Rattle.regions.specs.Bands.{Bands, owner_of}
use Rattle.timeline.specs.declared.entry.Entry.{Entry}
use Rattle.timeline.specs.TimelineView.{events_of, entry_key, below as entries_below}
use Rattle.border.specs.declared.op.Op.{Op}
use Rattle.border.specs.declared.op.Op.TheVariants.{Put, Back}
use Rattle.border.specs.Messages.{replay_one, op_key, IsPutOf, is_put_of, is_lawful, accepted_op}
use Rattle.border.specs.Stacked.{StacksView, stack_of}
use Rattle.warp_core.specs.World.{World, is_own}
use Rattle.warp_core.specs.Messages.{partition_of, ArePutsOf}
use Rattle.warp_core.specs.Grounds.{ArePlaces}
use Rattle.warp_core.specs.Parts.{PartStep, after_op, op_puts, after_take, IsSound}
use Rattle.warp_core.proofs.LawLemmas.{accepted_from, tested_put, take_sound, events-below, run_places}
use Rattle.region_run.specs.Boards.{IsBoard}
use Rattle.region_run.specs.Messages.{partition_at}
use Rattle.region_run.specs.declared.board.Board.{Board}
use Rattle.region_run.specs.declared.region.Region.{Region}
use Rattle.region_run.specs.Sides.{SideView, is_other, Gained, first_told_of, lesser_key, back_of}
use Rattle.region_run.specs.Regions.{Base, world_at, stack_in, line_in, part_of, AreMarked, IsSited, IsRegion}
use Rattle.region_run.specs.Runs.{MakesStep, IsCutBack, IsReplayed, replayed_at}
use Rattle.region_run.proofs.Remade.{remade}
use Rattle.region_run.proofs.Sited.{other_same, lines_gained, stack_same, sited_still, back_for, no_back, not_early}
use Rattle.region_run.proofs.Applies.{same_part, makes}

-- nothing gained
gained_none : (o : Option SideView) (ops : ℕ → List Op) → ((l : ℕ) → ops l ≡ []) → Gained o ops o
gained_none None ops none = tt
gained_none (Some s) ops none = record { other = refl; ends = refl; outbox = sym (ap (λ l. s.outbox ++ l) (none s.other) ∙ append-nil s.outbox); room = omega arith }

gained_as : (o t : Option SideView) (ops more : ℕ → List Op) → ((l : ℕ) → is_other o l ≡ true → ops l ≡ more l) → Gained o ops t → Gained o more t
gained_as None None ops more same g = tt
gained_as None (Some t) ops more same g = g
gained_as (Some s) None ops more same g = g
gained_as (Some s) (Some t) ops more same g = record { other = g.other; ends = g.ends; outbox = g.outbox ∙ ap (λ l. s.outbox ++ l) (same s.other (eq-eqb s.other s.other refl)); room = g.room }

pub region_places : (n : Network) (b : Bands) (until : ℕ) (x : Base) (r : Region) → IsRegion n b until x r → ArePlaces b.lattice r.board.timeline.entries
region_places n b until x r g = subst (λ (l : Shape). ArePlaces l r.board.timeline.entries) (sym g.lattice) (run_places n x.surface r.board.surface r.board.timeline.entries g.board.ground.lattice g.board.ground.run)

-- the message isn't before the clock
pub cut_late : (n : Network) (b : Bands) (until : ℕ) (x : Base) (op : Op) (r : Region) → IsRegion n b until x r → is_before (op_key op) r.clock ≡ false → IsCutBack n b until x op r r
cut_late n b until x op r g late =
    record {
      same = refl;
      range = refl;
      undoable = refl;
      board = g.board;
      timeline = sym (ap (λ t. cond t (below (op_key op) (events_of r.board.timeline.entries)) (events_of r.board.timeline.entries)) late);
      marked = g.marked;
      clock = sym (ap (λ t. cond t (op_key op) r.clock) late);
      first = gained_none r.first (op_puts (world_at n b until x) r.id (part_of r) op) (λ l. not_early n b until x r.id r.board.range r.first r.second g.sited g.cut l (part_of r) op late);
      second = gained_none r.second (op_puts (world_at n b until x) r.id (part_of r) op) (λ l. not_early n b until x r.id r.board.range r.first r.second g.sited g.cut l (part_of r) op late);
    }

marked_below : (b : Bands) (id : ℕ) (k : Key) (es : List Entry) → AreMarked b id es → AreMarked b id (entries_below k es)
marked_below b id k [] m = tt
marked_below b id k (e ∷ es) m =
    elim (is_before (entry_key e) k) as (λ t. AreMarked b id (cond t (e ∷ entries_below k es) (entries_below k es))) [ true ↦ (m.0, marked_below b id k es m.1) | false ↦ marked_below b id k es m.1 ]

pub cut_early : (n : Network) (b : Bands) (until : ℕ) (x : Base) (op : Op) (r : Region) (key : Key) (board : Board) (first second : Option SideView) → IsRegion n b until x r → key ≡ op_key op → is_before key r.clock ≡ true
    → board.timeline.entries ≡ entries_below key r.board.timeline.entries → board.range ≡ r.board.range → board.undoable ≡ r.board.undoable → IsBoard n x.cells x.past x.surface x.floor board
    → Gained r.first (λ l. back_of (first_told_of b r.id r.first key (events_of r.board.timeline.entries)) (lesser_key (first_told_of b r.id r.first key (events_of r.board.timeline.entries)) (first_told_of b r.id r.second key (events_of r.board.timeline.entries)))) first
    → Gained r.second (λ l. back_of (first_told_of b r.id r.second key (events_of r.board.timeline.entries)) (lesser_key (first_told_of b r.id r.first key (events_of r.board.timeline.entries)) (first_told_of b r.id r.second key (events_of r.board.timeline.entries)))) second
    → IsCutBack n b until x op r (record r { board = board; clock = key; first = first; second = second })
cut_early n b until x op r key board first second g is early kept range undoable good g1 g2 =
    let early' : is_before (op_key op) r.clock ≡ true = subst (λ k. is_before k r.clock ≡ true) is early in
    record {
      same = refl;
      range = range;
      undoable = undoable;
      board = good;
      timeline = ap events_of kept ∙ (events-below key r.board.timeline.entries ∙ (ap (λ k. below k (events_of r.board.timeline.entries)) is ∙ sym (ap (λ t. cond t (below (op_key op) (events_of r.board.timeline.entries)) (events_of r.board.timeline.entries)) early')));
      marked = subst (AreMarked b r.id) (sym kept) (marked_below b r.id key r.board.timeline.entries g.marked);
      clock = is ∙ sym (ap (λ t. cond t (op_key op) r.clock) early');
      first = gained_as r.first first _ (op_puts (world_at n b until x) r.id (part_of r) op)
          (λ l h. ap (λ k. back_of (first_told_of b r.id r.first k (events_of r.board.timeline.entries)) (lesser_key (first_told_of b r.id r.first k (events_of r.board.timeline.entries)) (first_told_of b r.id r.second k (events_of r.board.timeline.entries)))) is
          ∙ back_for n b until x r.id r.board.range r.first r.second g.sited g.cut r.first l (part_of r) op h early' g.sound.local.rising) g1;
      second = gained_as r.second second _ (op_puts (world_at n b until x) r.id (part_of r) op)
          (λ l h. ap (λ k. back_of (first_told_of b r.id r.second k (events_of r.board.timeline.entries)) (lesser_key (first_told_of b r.id r.first k (events_of r.board.timeline.entries)) (first_told_of b r.id r.second k (events_of r.board.timeline.entries)))) is
          ∙ back_for n b until x r.id r.board.range r.first r.second g.sited g.cut r.second l (part_of r) op h early' g.sound.local.rising) g2;
    }

-- what a message is taken for

-- a Put is of one that the sender may put
abbrev MayTake : World → ℕ → ℕ → Op → Type 0
MayTake w j i (Put e) = IsPutOf (partition_of w) j i e
MayTake w j i (Back k) = Unit {0}

accepted_may : (w : World) (j i : ℕ) (floor : Key) (op a : Op) → accepted_op (partition_of w) j i floor op ≡ Some a → MayTake w j i a
accepted_may w j i floor (Put e) a h =
    elim (cases_Bool (is_lawful (partition_of w) j i floor e)) [
      | inl p ↦
          let is : Put e ≡ a = same_Some (Put e) a (sym (ap (λ t. cond t (Some (Put e)) None) p) ∙ h) in
          subst (MayTake w j i) is (tested_put w j i e (and_parts (not (is_before (key_of e) floor)) (is_put_of (partition_of w) j i e) p).1)
      | inr p ↦ absurd (none-some a (sym (ap (λ t. cond t (Some (Put e)) None) p) ∙ h))
    ]
accepted_may w j i floor (Back k) a h = go (is_before k floor) h
  where
    go : (t : Bool) → cond t (Some (Back floor)) (Some (Back k)) ≡ Some a → MayTake w j i a
    go true q = subst (MayTake w j i) (same_Some (Back floor) a q) tt
    go false q = subst (MayTake w j i) (same_Some (Back k) a q) tt

pub puts_keep : (w : World) (j i : ℕ) (test : Key → Bool) (es : List Event) → ArePutsOf w j i es → ArePutsOf w j i (keep test es)
puts_keep w j i test [] a = tt
puts_keep w j i test (e ∷ es) a =
    elim (test (key_of e)) as (λ t. ArePutsOf w j i (cond t (e ∷ keep test es) (keep test es))) [ true ↦ (a.0, puts_keep w j i test es a.1) | false ↦ puts_keep w j i test es a.1 ]

puts_push : (w : World) (j i : ℕ) (es : List Event) (e : Event) → ArePutsOf w j i es → IsPutOf (partition_of w) j i e → ArePutsOf w j i (es ++ e ∷ [])
puts_push w j i [] e a p = (p, tt)
puts_push w j i (x ∷ es) e a p = (a.0, puts_push w j i es e a.1 p)

puts_one : (w : World) (j i : ℕ) (stack : List Event) (op : Op) → ArePutsOf w j i stack → MayTake w j i op → ArePutsOf w j i (replay_one stack op)
puts_one w j i stack (Put e) a s = puts_push w j i (below (key_of e) stack) e (puts_keep w j i (λ k. is_before k (key_of e)) stack a) s
puts_one w j i stack (Back k) a s = puts_keep w j i (λ h. is_before h k) stack a

puts_owned : (w : World) (j i : ℕ) (es : List Event) → ArePutsOf w j i es → AllKeys (λ k. is_own w j k ≡ true) es
puts_owned w j i [] a = tt
puts_owned w j i (e ∷ es) a = (a.0.owned, puts_owned w j i es a.1)

-- the stacks after a message

one_other : (o : Option SideView) (l m : ℕ) → is_other o l ≡ true → is_other o m ≡ true → l ≡ m
one_other None l m h k = absurd (both_ways false refl h)
one_other (Some s) l m h k = sym (eqb-true s.other l h) ∙ eqb-true s.other m k

other_not : (o : Option SideView) (l m : ℕ) → is_other o l ≡ true → (l ≡ m → ⊥) → is_other o m ≡ false
other_not o l m h away = elim (cases_Bool (is_other o m)) [ inl q ↦ absurd (away (one_other o l m h q)) | inr q ↦ q ]

module _ (first second : Option SideView) (sender : ℕ) (op : Op) (s t : StacksView) (two : length s.stacks ≡ 2) (is : IsReplayed first second sender op s t) (apart : (l : ℕ) → is_other first l ≡ true → is_other second l ≡ false) where
  at_number : (k : ℕ) → k < 2 → stack_of (replayed_at s k op) k ≡ replay_one (stack_of s k) op
  at_number k h = get_or-set_same s.stacks k (replay_one (stack_of s k) op) [] (omega (arith, h, two))

  at_other : (k m : ℕ) → (m ≡ k → ⊥) → stack_of (replayed_at s k op) m ≡ stack_of s m
  at_other k m h = get_or-set_other s.stacks k m (replay_one (stack_of s k) op) [] h

  is_first : is_other first sender ≡ true → t ≡ replayed_at s 0 op
  is_first p = is ∙ ap (λ u. cond u (replayed_at s 0 op) (cond (is_other second sender) (replayed_at s 1 op) s)) p

  is_second : is_other first sender ≡ false → is_other second sender ≡ true → t ≡ replayed_at s 1 op
  is_second p q = is ∙ (ap (λ u. cond u (replayed_at s 0 op) (cond (is_other second sender) (replayed_at s 1 op) s)) p ∙ ap (λ u. cond u (replayed_at s 1 op) s) q)

  is_neither : is_other first sender ≡ false → is_other second sender ≡ false → t ≡ s
  is_neither p q = is ∙ (ap (λ u. cond u (replayed_at s 0 op) (cond (is_other second sender) (replayed_at s 1 op) s)) p ∙ ap (λ u. cond u (replayed_at s 1 op) s) q)

  pub two_still : length t.stacks ≡ 2
  two_still =
      elim (cases_Bool (is_other first sender)) [
        | inl p ↦ ap (λ (v : StacksView). length v.stacks) (is_first p) ∙ (length-set s.stacks 0 (replay_one (stack_of s 0) op) ∙ two)
        | inr p ↦ elim (cases_Bool (is_other second sender)) [
          | inl q ↦ ap (λ (v : StacksView). length v.stacks) (is_second p q) ∙ (length-set s.stacks 1 (replay_one (stack_of s 1) op) ∙ two)
          | inr q ↦ ap (λ (v : StacksView). length v.stacks) (is_neither p q) ∙ two
        ]
      ]

  first_here : is_other first sender ≡ true → stack_of t 0 ≡ replay_one (stack_of s 0) op
  first_here p = ap (λ v. stack_of v 0) (is_first p) ∙ at_number 0 (omega arith)

  first_still : is_other first sender ≡ false → stack_of t 0 ≡ stack_of s 0
  first_still p =
      elim (cases_Bool (is_other second sender)) [
        | inl q ↦ ap (λ v. stack_of v 0) (is_second p q) ∙ at_other 1 0 (λ e. omega (arith, e))
        | inr q ↦ ap (λ v. stack_of v 0) (is_neither p q)
      ]

  second_here : is_other second sender ≡ true → stack_of t 1 ≡ replay_one (stack_of s 1) op
  second_here q =
      let p : is_other first sender ≡ false = elim (cases_Bool (is_other first sender)) [ inl z ↦ absurd (both_ways (is_other second sender) (apart sender z) q) | inr z ↦ z ] in
      ap (λ v. stack_of v 1) (is_second p q) ∙ at_number 1 (omega arith)

  second_still : is_other second sender ≡ false → stack_of t 1 ≡ stack_of s 1
  second_still q =
      elim (cases_Bool (is_other first sender)) [
        | inl p ↦ ap (λ v. stack_of v 1) (is_first p) ∙ at_other 0 1 (λ e. omega (arith, e))
        | inr p ↦ ap (λ v. stack_of v 1) (is_neither p q)
      ]

  -- a region that is no neighbour has an empty stack, and its messages leave it so
  pub stack_took : (is_other first sender ≡ false → is_other second sender ≡ false → replay_one [] op ≡ []) → (l : ℕ) → stack_in first second t l ≡ (if l == sender then replay_one (stack_in first second s l) op else stack_in first second s l)
  stack_took neither l =
      elim (cases_Bool (is_other first l)) [
        | inl p ↦ elim (eqb_tells l sender) [
          | inl e ↦
              ap (λ u. cond u (stack_of t 0) (cond (is_other second l) (stack_of t 1) [])) p
              ∙ (first_here (subst (λ m. is_other first m ≡ true) e.1 p)
              ∙ (ap (λ u. replay_one (cond u (stack_of s 0) (cond (is_other second l) (stack_of s 1) [])) op) (sym p)
              ∙ ap (λ u. cond u (replay_one (stack_in first second s l) op) (stack_in first second s l)) (sym e.0)))
          | inr e ↦
              ap (λ u. cond u (stack_of t 0) (cond (is_other second l) (stack_of t 1) [])) p
              ∙ (first_still (other_not first l sender p e.1)
              ∙ (ap (λ u. cond u (stack_of s 0) (cond (is_other second l) (stack_of s 1) [])) (sym p)
              ∙ ap (λ u. cond u (replay_one (stack_in first second s l) op) (stack_in first second s l)) (sym e.0)))
        ]
        | inr p ↦ elim (cases_Bool (is_other second l)) [
          | inl q ↦ elim (eqb_tells l sender) [
            | inl e ↦
                ap (λ u. cond u (stack_of t 0) (cond (is_other second l) (stack_of t 1) [])) p
                ∙ (ap (λ u. cond u (stack_of t 1) []) q
                ∙ (second_here (subst (λ m. is_other second m ≡ true) e.1 q)
                ∙ (ap (λ u. replay_one (cond u (stack_of s 1) []) op) (sym q)
                ∙ (ap (λ u. replay_one (cond u (stack_of s 0) (cond (is_other second l) (stack_of s 1) [])) op) (sym p)
                ∙ ap (λ u. cond u (replay_one (stack_in first second s l) op) (stack_in first second s l)) (sym e.0)))))
            | inr e ↦
                ap (λ u. cond u (stack_of t 0) (cond (is_other second l) (stack_of t 1) [])) p
                ∙ (ap (λ u. cond u (stack_of t 1) []) q
                ∙ (second_still (other_not second l sender q e.1)
                ∙ (ap (λ u. cond u (stack_of s 1) []) (sym q)
                ∙ (ap (λ u. cond u (stack_of s 0) (cond (is_other second l) (stack_of s 1) [])) (sym p)
                ∙ ap (λ u. cond u (replay_one (stack_in first second s l) op) (stack_in first second s l)) (sym e.0)))))
          ]
          | inr q ↦
              let now : stack_in first second t l ≡ [] = ap (λ u. cond u (stack_of t 0) (cond (is_other second l) (stack_of t 1) [])) p ∙ ap (λ u. cond u (stack_of t 1) []) q in
              let was : stack_in first second s l ≡ [] = ap (λ u. cond u (stack_of s 0) (cond (is_other second l) (stack_of s 1) [])) p ∙ ap (λ u. cond u (stack_of s 1) []) q in
              elim (eqb_tells l sender) [
                | inl e ↦
                    now
                    ∙ (sym (neither (subst (λ m. is_other first m ≡ false) e.1 p) (subst (λ m. is_other second m ≡ false) e.1 q))
                    ∙ (ap (λ y. replay_one y op) (sym was)
                    ∙ ap (λ u. cond u (replay_one (stack_in first second s l) op) (stack_in first second s l)) (sym e.0)))
                | inr e ↦ now ∙ (sym was ∙ ap (λ u. cond u (replay_one (stack_in first second s l) op) (stack_in first second s l)) (sym e.0))
              ]
        ]
      ]

  -- what holds of a neighbour's stack still holds, where it holds of the sender's
  pub first_kept : (P : List Event → Type 0) → P (stack_of s 0) → (is_other first sender ≡ true → P (stack_of t 0)) → P (stack_of t 0)
  first_kept P old new = elim (cases_Bool (is_other first sender)) [ inl p ↦ new p | inr p ↦ subst P (sym (first_still p)) old ]

  pub second_kept : (P : List Event → Type 0) → P (stack_of s 1) → (is_other second sender ≡ true → P (stack_of t 1)) → P (stack_of t 1)
  second_kept P old new = elim (cases_Bool (is_other second sender)) [ inl p ↦ new p | inr p ↦ subst P (sym (second_still p)) old ]

pub take_low : (n : Network) (b : Bands) (until : ℕ) (x : Base) (r : Region) (sender : ℕ) (op a : Op) → IsRegion n b until x r → accepted_op (partition_at n b) sender r.id r.floor op ≡ Some a → x.floor is_upto op_key a
take_low n b until x r sender op a g accepted =
    accepted_from (world_at n b until x) sender r.id x.floor op a (ap (λ k. accepted_op (partition_of (world_at n b until x)) sender r.id k op) (sym g.floor) ∙ accepted)

-- the message was passed over
pub take_passed : (n : Network) (b : Bands) (until : ℕ) (x : Base) (r : Region) (sender : ℕ) (op : Op) → IsRegion n b until x r → accepted_op (partition_at n b) sender r.id r.floor op ≡ None → MakesStep n b until x r (PartStep.Takes sender op) r
take_passed n b until x r sender op g none =
    let w = world_at n b until x in
    let here : accepted_op (partition_of w) sender r.id x.floor op ≡ None = ap (λ k. accepted_op (partition_of w) sender r.id k op) (sym g.floor) ∙ none in
    makes n b until x r r (PartStep.Takes sender op) g refl tt
    (sym (ap (λ o. option_map_or (after_op (part_of r) sender) o (part_of r)) here))
    (λ l. sym (ap (λ o. line_in r.first r.second l ++ option_map_or (λ a. op_puts w r.id (part_of r) a l) o []) here ∙ append-nil (line_in r.first r.second l))) g

module _ (n : Network) (b : Bands) (until : ℕ) (x : Base) (r mid : Region) (t : StacksView) (sender : ℕ) (op a : Op) (g : IsRegion n b until x r) (accepted : accepted_op (partition_at n b) sender r.id r.floor op ≡ Some a) (m : IsCutBack n b until x a r mid)
    (is : IsReplayed mid.first mid.second sender a mid.stacks t) where
  w : World
  w = world_at n b until x

  here : accepted_op (partition_of (world_at n b until x)) sender r.id x.floor op ≡ Some a
  here = ap (λ k. accepted_op (partition_of (world_at n b until x)) sender r.id k op) (sym g.floor) ∙ accepted

  may : MayTake (world_at n b until x) sender r.id a
  may = accepted_may (world_at n b until x) sender r.id x.floor op a here

  puts : ℕ → List Op
  puts = op_puts (world_at n b until x) r.id (part_of r) a

  same_first : (l : ℕ) → is_other mid.first l ≡ is_other r.first l
  same_first l = other_same r.first mid.first (op_puts (world_at n b until x) r.id (part_of r) a) m.first l

  same_second : (l : ℕ) → is_other mid.second l ≡ is_other r.second l
  same_second l = other_same r.second mid.second (op_puts (world_at n b until x) r.id (part_of r) a) m.second l

  stacks_are : mid.stacks ≡ r.stacks
  stacks_are = ap (λ (y : Region). y.stacks) m.same

  id_is : mid.id ≡ r.id
  id_is = ap (λ (y : Region). y.id) m.same

  sited : IsSited b r.id r.board.range mid.first mid.second
  sited = sited_still r.first r.second mid.first mid.second (op_puts (world_at n b until x) r.id (part_of r) a) m.first m.second b r.id r.board.range g.sited

  two : length mid.stacks.stacks ≡ 2
  two = ap (λ (y : StacksView). length y.stacks) stacks_are ∙ g.two

  -- only a neighbour's Put is taken
  neither : (o : Op) → MayTake (world_at n b until x) sender r.id o → is_other mid.first sender ≡ false → is_other mid.second sender ≡ false → replay_one [] o ≡ []
  neither (Back k) y p q = refl
  neither (Put e) y p q =
      let own : owner_of b e.place.0 ≡ sender = eqb-true (owner_of b e.place.0) sender y.owned in
      absurd (elim (sited.from e.place.0 y.told) [ inl z ↦ both_ways (is_other mid.first sender) p (ap (is_other mid.first) (sym own) ∙ z) | inr z ↦ both_ways (is_other mid.second sender) q (ap (is_other mid.second) (sym own) ∙ z) ])

  -- the stacks by the numbers of the senders
  took : (l : ℕ) → stack_in mid.first mid.second t l ≡ (after_op (part_of r) sender a).stack l
  took l =
      stack_took mid.first mid.second sender a mid.stacks t two is sited.apart (neither a may) l
      ∙ ap (λ y. cond (l == sender) (replay_one y a) y)
      (ap (λ s. stack_in mid.first mid.second s l) stacks_are ∙ ap (λ f. f l) (stack_same r.first r.second mid.first mid.second (op_puts (world_at n b until x) r.id (part_of r) a) m.first m.second r.stacks))

  after : part_of (record mid { stacks = t }) ≡ after_op (part_of r) sender a
  after = same_part (part_of (record mid { stacks = t })) (after_op (part_of r) sender a) m.timeline m.clock (λ i l. took l i)

  part_is : part_of (record mid { stacks = t }) ≡ after_take (world_at n b until x) x.floor r.id (part_of r) sender op
  part_is = after ∙ sym (ap (λ o. option_map_or (after_op (part_of r) sender) o (part_of r)) here)

  puts_new : (l : ℕ) → ArePutsOf (world_at n b until x) l r.id (stack_in mid.first mid.second t l)
  puts_new l = subst (ArePutsOf (world_at n b until x) l r.id) (sym (took l)) (old l)
    where
      old : (l : ℕ) → ArePutsOf (world_at n b until x) l r.id (if l == sender then replay_one (stack_in r.first r.second r.stacks l) a else stack_in r.first r.second r.stacks l)
      old l =
          elim (eqb_tells l sender) [
            | inl q ↦ subst (λ u. ArePutsOf (world_at n b until x) l r.id (cond u (replay_one (stack_in r.first r.second r.stacks l) a) (stack_in r.first r.second r.stacks l))) (sym q.0)
                (puts_one (world_at n b until x) l r.id (stack_in r.first r.second r.stacks l) a (g.puts l) (subst (λ j. MayTake (world_at n b until x) j r.id a) (sym q.1) may))
            | inr q ↦ subst (λ u. ArePutsOf (world_at n b until x) l r.id (cond u (replay_one (stack_in r.first r.second r.stacks l) a) (stack_in r.first r.second r.stacks l))) (sym q.0) (g.puts l)
          ]

  owner_other : (o : Option SideView) (l : ℕ) (k : Key) → is_other o l ≡ true → is_own (world_at n b until x) l k ≡ true → is_other o (owner_of b k.place.0) ≡ true
  owner_other o l k h q = ap (is_other o) (eqb-true (owner_of b k.place.0) l q) ∙ h

  first_new : AllKeys (λ k. is_other mid.first (owner_of b k.place.0) ≡ true) (stack_of t 0)
  first_new =
      first_kept mid.first mid.second sender a mid.stacks t two is sited.apart (AllKeys (λ k. is_other mid.first (owner_of b k.place.0) ≡ true))
      (subst (λ s. AllKeys (λ k. is_other mid.first (owner_of b k.place.0) ≡ true) (stack_of s 0)) (sym stacks_are)
      (AllKeys_weaker (λ k. is_other r.first (owner_of b k.place.0) ≡ true) (λ k. is_other mid.first (owner_of b k.place.0) ≡ true) (λ k q. same_first (owner_of b k.place.0) ∙ q) (stack_of r.stacks 0) g.from_first))
      (λ who. AllKeys_weaker (λ k. is_own (world_at n b until x) sender k ≡ true) (λ k. is_other mid.first (owner_of b k.place.0) ≡ true) (λ k q. owner_other mid.first sender k who q) (stack_of t 0)
      (puts_owned (world_at n b until x) sender r.id (stack_of t 0) (subst (ArePutsOf (world_at n b until x) sender r.id) (ap (λ u. cond u (stack_of t 0) (cond (is_other mid.second sender) (stack_of t 1) [])) who) (puts_new sender))))

  second_new : AllKeys (λ k. is_other mid.second (owner_of b k.place.0) ≡ true) (stack_of t 1)
  second_new =
      second_kept mid.first mid.second sender a mid.stacks t two is sited.apart (AllKeys (λ k. is_other mid.second (owner_of b k.place.0) ≡ true))
      (subst (λ s. AllKeys (λ k. is_other mid.second (owner_of b k.place.0) ≡ true) (stack_of s 1)) (sym stacks_are)
      (AllKeys_weaker (λ k. is_other r.second (owner_of b k.place.0) ≡ true) (λ k. is_other mid.second (owner_of b k.place.0) ≡ true) (λ k q. same_second (owner_of b k.place.0) ∙ q) (stack_of r.stacks 1) g.from_second))
      (λ who.
      let no_first : is_other mid.first sender ≡ false = elim (cases_Bool (is_other mid.first sender)) [ inl q ↦ absurd (both_ways (is_other mid.second sender) (sited.apart sender q) who) | inr q ↦ q ] in
      AllKeys_weaker (λ k. is_own (world_at n b until x) sender k ≡ true) (λ k. is_other mid.second (owner_of b k.place.0) ≡ true) (λ k q. owner_other mid.second sender k who q) (stack_of t 1)
      (puts_owned (world_at n b until x) sender r.id (stack_of t 1)
      (subst (ArePutsOf (world_at n b until x) sender r.id) (ap (λ u. cond u (stack_of t 0) (cond (is_other mid.second sender) (stack_of t 1) [])) no_first ∙ ap (λ u. cond u (stack_of t 1) []) who) (puts_new sender))))

  pub region_is : IsRegion n b until x (record mid { stacks = t })
  region_is =
      remade n b until x r g (record mid { stacks = t }) id_is (ap (λ (y : Region). y.floor) m.same)
      (record {
        sited = subst (λ i. IsSited b i mid.board.range mid.first mid.second) (sym id_is) (subst (λ q. IsSited b r.id q mid.first mid.second) (sym m.range) sited);
        alone = λ u. g.alone (sym m.undoable ∙ u);
        two = two_still mid.first mid.second sender a mid.stacks t two is sited.apart;
        board = m.board;
        marked = subst (λ i. AreMarked b i mid.board.timeline.entries) (sym id_is) m.marked;
        sound = subst (λ i. IsSound (world_at n b until x) x.surface.sites x.floor i (part_of (record mid { stacks = t }))) (sym id_is)
            (subst (IsSound (world_at n b until x) x.surface.sites x.floor r.id) (sym part_is) (take_sound (world_at n b until x) x.surface.sites x.floor r.id sender (part_of r) op g.sound));
        puts = λ l. subst (λ i. ArePutsOf (world_at n b until x) l i (stack_in mid.first mid.second t l)) (sym id_is) (puts_new l);
        from_first = first_new;
        from_second = second_new;
      })

  lines : (l : ℕ) → line_in mid.first mid.second l ≡ line_in r.first r.second l ++ op_puts (world_at n b until x) r.id (part_of r) a l
  lines = lines_gained r.first r.second mid.first mid.second (op_puts (world_at n b until x) r.id (part_of r) a) m.first m.second (λ l p q. no_back n b until x r.id r.board.range r.first r.second g.sited g.cut l (part_of r) a p q)

  pub take_made : MakesStep n b until x r (PartStep.Takes sender op) (record mid { stacks = t })
  take_made =
      makes n b until x r (record mid { stacks = t }) (PartStep.Takes sender op) g id_is tt part_is
      (λ l. lines l ∙ ap (λ o. line_in r.first r.second l ++ option_map_or (λ y. op_puts (world_at n b until x) r.id (part_of r) y l) o []) (sym here)) region_is
