-- Room that is used, rings that stay, and entries by their marks.
use Rattle.std.proofs.Common.{◌≡◌, ℕ, zero, suc, drop, length, ◌+◌, ◌≤◌, ◌&&◌, Bool, true, false, List, [], ◌∷◌, refl, sym, ap, ◌∙◌, arith, Option, Some, None, cond, inl, inr}
use Rattle.std.specs.Prelude.{not, vec_len, vec_capacity}
use Rattle.std.proofs.lemmas.Bool.{cases_Bool}
use Rattle.surf_kinds.specs.declared.event.Key.{Key}
use Rattle.surf_kinds.specs.Keys.{is_before, keep, below}
use Rattle.surf_kinds.proofs.Tables.{keep_yes, keep_no}
use Rattle.regions.specs.Bands.{Bands}
use Rattle.timeline.specs.declared.entry.Entry.{Entry}
use Rattle.timeline.specs.TimelineView.{events_of, entry_key}
use Rattle.border.specs.declared.op.Op.{Op}
use Rattle.border.specs.Stacked.{StacksView}
use Rattle.region_run.specs.declared.region.Region.{Region}
use Rattle.region_run.specs.Sides.{SideView, is_other, Gained, HasRoom}
use Rattle.plan.specs.Network.{Network}
use Rattle.warp_core.specs.Parts.{PartStep}
use Rattle.region_run.specs.declared.totals.Totals.{Totals}
use Rattle.region_run.specs.Regions.{Base, is_own_key, AreMarked}
use Rattle.region_run.specs.Runs.{HasSpare, SameSide, IsReplayed, replayed_at, MakesStep, StepsOn}
use Rattle.region_run.proofs.Remade.{counted}
use Rattle.region_run.specs.Starts.{own_entries_below, received_entries_below}

pub side_gained : (o t : Option SideView) (ops : ℕ → List Op) → Gained o ops t → SameSide o t
side_gained None None ops g = tt
side_gained None (Some t) ops g = g
side_gained (Some s) None ops g = g
side_gained (Some s) (Some t) ops g = (g.other, g.ends)

pub side_self : (o : Option SideView) → SameSide o o
side_self None = tt
side_self (Some s) = (refl, refl)

pub room_gained : (o t : Option SideView) (ops : ℕ → List Op) (m : ℕ) → Gained o ops t → HasRoom (m + 1) o → HasRoom m t
room_gained None None ops m g h = tt
room_gained None (Some t) ops m g h = absurd g
room_gained (Some s) None ops m g h = absurd g
room_gained (Some s) (Some t) ops m g h = omega (arith, h, g.room)

pub room_less : (o : Option SideView) (m k : ℕ) → k ≤ m → HasRoom m o → HasRoom k o
room_less None m k h r = tt
room_less (Some s) m k h r = omega (arith, h, r)

pub less : (m k : ℕ) (r : Region) → k ≤ m → HasSpare m r → HasSpare k r
less m k r h s = record { timeline = omega (arith, h, s.timeline); changes = λ u. omega (arith, h, s.changes u); stacks = omega (arith, h, s.stacks); first = room_less r.first m k h s.first; second = room_less r.second m k h s.second }

pub uses_one : (old new : Region) (ops1 ops2 : ℕ → List Op) → old.board.timeline.spare ≤ new.board.timeline.spare + 1 → new.board.undoable ≡ old.board.undoable → vec_len new.board.changes ≤ vec_len old.board.changes + 14
    → vec_capacity new.board.changes ≡ vec_capacity old.board.changes → old.stacks.spare ≤ new.stacks.spare + 1 → Gained old.first ops1 new.first → Gained old.second ops2 new.second → (m : ℕ) → HasSpare (m + 1) old → HasSpare m new
uses_one old new ops1 ops2 t u l c s f g m h =
    record {
      timeline = omega (arith, t, h.timeline);
      changes = λ is. omega (arith, h.changes (sym u ∙ is), l, c);
      stacks = omega (arith, s, h.stacks);
      first = room_gained old.first new.first ops1 m f h.first;
      second = room_gained old.second new.second ops2 m g h.second;
    }

pub replay_spare : (first second : Option SideView) (sender : ℕ) (op : Op) (s t : StacksView) → IsReplayed first second sender op s t → s.spare ≤ t.spare + 1
replay_spare first second sender op s t is =
    elim (cases_Bool (is_other first sender)) [
      | inl p ↦ omega (arith, ap (λ (v : StacksView). v.spare) (is ∙ ap (λ u. cond u (replayed_at s 0 op) (cond (is_other second sender) (replayed_at s 1 op) s)) p))
      | inr p ↦ elim (cases_Bool (is_other second sender)) [
        | inl q ↦ omega (arith, ap (λ (v : StacksView). v.spare) (is ∙ (ap (λ u. cond u (replayed_at s 0 op) (cond (is_other second sender) (replayed_at s 1 op) s)) p ∙ ap (λ u. cond u (replayed_at s 1 op) s) q)))
        | inr q ↦ omega (arith, ap (λ (v : StacksView). v.spare) (is ∙ (ap (λ u. cond u (replayed_at s 0 op) (cond (is_other second sender) (replayed_at s 1 op) s)) p ∙ ap (λ u. cond u (replayed_at s 1 op) s) q)))
      ]
    ]

-- entries by their marks are entries by their owners

pub own_marked : (b : Bands) (id : ℕ) (k : Key) (es : List Entry) → AreMarked b id es → own_entries_below k es ≡ keep (is_own_key b id) (below k (events_of es))
own_marked b id k [] m = refl
own_marked b id k (e ∷ es) m = go (is_before (entry_key e) k) e.own m.0 (own_marked b id k es m.1)
  where
    go : (s t : Bool) → t ≡ is_own_key b id (entry_key e) → own_entries_below k es ≡ keep (is_own_key b id) (below k (events_of es)) → cond (s && t) (e.before.event ∷ own_entries_below k es) (own_entries_below k es) ≡ keep (is_own_key b id) (cond s (e.before.event ∷ below k (events_of es)) (below k (events_of es)))
    go true true r ih = ap (λ l. e.before.event ∷ l) (ih) ∙ sym (keep_yes (is_own_key b id) e.before.event (below k (events_of es)) (sym r))
    go true false r ih = ih ∙ sym (keep_no (is_own_key b id) e.before.event (below k (events_of es)) (sym r))
    go false t r ih = ih

pub received_marked : (b : Bands) (id : ℕ) (k : Key) (es : List Entry) → AreMarked b id es → received_entries_below k es ≡ keep (λ j. not (is_own_key b id j)) (below k (events_of es))
received_marked b id k [] m = refl
received_marked b id k (e ∷ es) m = go (is_before (entry_key e) k) (not e.own) (ap not m.0) (received_marked b id k es m.1)
  where
    go : (s t : Bool) → t ≡ not (is_own_key b id (entry_key e)) → received_entries_below k es ≡ keep (λ j. not (is_own_key b id j)) (below k (events_of es)) → cond (s && t) (e.before.event ∷ received_entries_below k es) (received_entries_below k es) ≡ keep (λ j. not (is_own_key b id j)) (cond s (e.before.event ∷ below k (events_of es)) (below k (events_of es)))
    go true true r ih = ap (λ l. e.before.event ∷ l) (ih) ∙ sym (keep_yes (λ j. not (is_own_key b id j)) e.before.event (below k (events_of es)) (sym r))
    go true false r ih = ih ∙ sym (keep_no (λ j. not (is_own_key b id j)) e.before.event (below k (events_of es)) (sym r))
    go false t r ih = ih

pub drop_end : (es : List Entry) (n : ℕ) → length es ≤ n → drop n es ≡ []
drop_end [] zero h = refl
drop_end [] (suc n) h = refl
drop_end (e ∷ es) zero h = absurd (omega (arith, h))
drop_end (e ∷ es) (suc n) h = drop_end es n (omega (arith, h))

-- another count

pub step_counted : (n : Network) (b : Bands) (until : ℕ) (x : Base) (r new : Region) (step : PartStep) (t : Totals) → MakesStep n b until x r step new → MakesStep n b until x r step (record new { totals = t })
step_counted n b until x r new step t s = record { id = s.id; may = s.may; part = s.part; puts = s.puts; facts = s.facts; region = counted n b until x new s.region t }

pub steps_counted : (n : Network) (b : Bands) (until : ℕ) (x : Base) (r new : Region) (answer : Bool) (t : Totals) → StepsOn n b until x r answer new → StepsOn n b until x r answer (record new { totals = t })
steps_counted n b until x r new true t s = (s.0, step_counted n b until x r new s.0 t s.1, s.2)
steps_counted n b until x r new false t s = (step_counted n b until x r new PartStep.Ends t s.0, s.1, s.2)

pub spare_counted : (m : ℕ) (r : Region) (t : Totals) → HasSpare m r → HasSpare m (record r { totals = t })
spare_counted m r t h = record { timeline = h.timeline; changes = h.changes; stacks = h.stacks; first = h.first; second = h.second }
