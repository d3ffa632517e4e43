-- Parts of a turn one after the other, and what all of them leave.
use Rattle.std.proofs.Common.{◌≡◌, ℕ, ◌+◌, ◌==◌, ◌≤◌, ◌<◌, Bool, true, false, inl, inr, List, [], ◌∷◌, ◌++◌, length, refl, sym, ap, ◌∙◌, subst, arith, Option, Some, None, cond, length-append, if◌then◌else◌}
use Rattle.std.specs.Prelude.{MatchBool, max}
use Rattle.std.specs.Option.{option_map_or}
use Rattle.std.proofs.lemmas.List.{length-map}
use Rattle.surf_kinds.specs.declared.event.Event.{Event}
use Rattle.surf_kinds.specs.declared.event.Key.{Key}
use Rattle.surf_kinds.specs.Keys.{is_before, key_of, keep, below, ◌is_below◌, ◌is_upto◌}
use Rattle.surf_kinds.proofs.Order.{lt_not_le}
use Rattle.plan.specs.Network.{Network}
use Rattle.regions.specs.Bands.{Bands}
use Rattle.border.specs.declared.op.Op.{Op}
use Rattle.border.specs.Messages.{op_key, accepted_op}
use Rattle.timeline.specs.declared.entry.Entry.{Entry}
use Rattle.timeline.specs.TimelineView.{events_of}
use Rattle.warp_core.specs.World.{World, end_key}
use Rattle.warp_core.specs.Messages.{partition_of}
use Rattle.warp_core.specs.Parts.{Part, PartStep, HasNoEntry, at_end, after_op, part_after, part_run, run_takes}
use Rattle.region_run.specs.declared.region.Region.{Region}
use Rattle.region_run.specs.declared.side.Ends.{Ends}
use Rattle.region_run.specs.declared.totals.Totals.{Totals}
use Rattle.region_run.specs.declared.totals.Turn.{Turn}
use Rattle.region_run.specs.Sides.{SideView, is_other, line_of, sent_by, HasRoom, RingExchanged, Exchanged}
use Rattle.region_run.specs.Channels.{RingFlushed, Flushed}
use Rattle.region_run.specs.Regions.{Base, world_at, part_of, IsRegion}
use Rattle.region_run.specs.Runs.{MakesStep, SameSide, SameRings, StepsOn, HasSpare}
use Rattle.region_run.specs.Counts.{added_in, taken_in, cut_in}
use Rattle.region_run.specs.Turns.{Hears, RingSent, IsSent, AreSent, IsAtEnd, HasEntryLeft, IsTurn}
use Rattle.region_run.specs.Hearing.{Asks, Works}
use Rattle.region_run.proofs.Renumbered.{same_parts}
use Rattle.region_run.proofs.Running.{run_none, run_one, added_append, taken_append}
use Rattle.std.proofs.lemmas.Bool.Decides.{nat_tests, eqb_tells}
use Rattle.region_run.proofs.Hearing.{run_to, heard_same, flushed_heard, handed_none, hears_none, hears_then}

-- parts of a turn, one after the other

pub works_then : (n : Network) (b : Bands) (until : ℕ) (x : Base) (r mid new : Region) (m1 a1 t1 k1 m2 a2 t2 k2 m a t k : ℕ) → IsRegion n b until x r → a ≡ a1 + a2 → t ≡ t1 + t2 → t ≤ m
    → ((p q : ℕ) → (t1 < m1 → k1 ≤ p) → (t2 < m2 → k2 ≤ q) → t < m → k ≤ p + q) → Works n b until x m1 r a1 t1 k1 mid → Works n b until x m2 mid a2 t2 k2 new → Works n b until x m r a t k new
works_then n b until x r mid new m1 a1 t1 k1 m2 a2 t2 k2 m a t k g same_a same_t few enough s u =
    record {
      steps = s.steps ++ u.steps;
      asks1 = s.asks1 + u.asks1;
      asks2 = s.asks2 + u.asks2;
      hears = hears_then n b until x r mid new s.asks1 s.asks2 u.asks1 u.asks2 s.steps u.steps g s.hears u.hears;
      adds = omega (arith, added_append s.steps u.steps, s.adds, u.adds, same_a);
      takes = omega (arith, taken_append s.steps u.steps, s.takes, u.takes, same_t);
      few = few;
      asked = λ h. (enough s.asks1 u.asks1 (λ d. (s.asked d).0) (λ d. (u.asked d).0) h, enough s.asks2 u.asks2 (λ d. (s.asked d).1) (λ d. (u.asked d).1) h);
    }

pub works_none : (n : Network) (b : Bands) (until : ℕ) (x : Base) (r : Region) (m : ℕ) → IsRegion n b until x r → Works n b until x m r 0 0 0 r
works_none n b until x r m g = record { steps = []; asks1 = 0; asks2 = 0; hears = hears_none n b until x r g; adds = refl; takes = refl; few = omega arith; asked = λ h. (omega arith, omega arith) }

-- the first neighbour's ring was asked, and had a message
pub works_first : (n : Network) (b : Bands) (until : ℕ) (x : Base) (r new : Region) → Asks n b until x r 1 0 true new → Works n b until x 1 r 0 1 1 new
works_first n b until x r new s = record { steps = s.steps; asks1 = 1; asks2 = 0; hears = s.hears; adds = s.adds; takes = s.takes; few = omega arith; asked = λ h. absurd (omega (arith, h)) }

-- the first neighbour's ring was asked in vain, and then the second one's
pub works_second : (n : Network) (b : Bands) (until : ℕ) (x : Base) (r mid new : Region) (is_one : Bool) → IsRegion n b until x r → Asks n b until x r 1 0 false mid → Asks n b until x mid 0 1 is_one new → Works n b until x 1 r 0 (if is_one then 1 else 0) 1 new
works_second n b until x r mid new is_one g s u =
    record {
      steps = s.steps ++ u.steps;
      asks1 = 1 + 0;
      asks2 = 0 + 1;
      hears = hears_then n b until x r mid new 1 0 0 1 s.steps u.steps g s.hears u.hears;
      adds = omega (arith, added_append s.steps u.steps, s.adds, u.adds);
      takes = omega (arith, taken_append s.steps u.steps, s.takes, u.takes);
      few = at_most is_one;
      asked = λ h. (omega arith, omega arith);
    }
  where
    at_most : (t : Bool) → (if t then 1 else 0) ≤ 1
    at_most true = omega arith
    at_most false = omega arith

-- steps without a message

quiet : (n : Network) (b : Bands) (until : ℕ) (x : Base) (r new : Region) (step : PartStep) → IsRegion n b until x r → MakesStep n b until x r step new → SameRings r new → ((l : ℕ) → run_takes (step ∷ []) l ≡ []) → Hears n b until x r 0 0 (step ∷ []) new
quiet n b until x r new step g s rings none =
    record {
      run = run_one n b until x r new step g s;
      ops1 = [];
      ops2 = [];
      first = heard_same r.first new.first rings.0;
      second = heard_same r.second new.second rings.1;
      takes = λ l. none l ∙ handed_none r.first r.second l;
    }

works_step : (n : Network) (b : Bands) (until : ℕ) (x : Base) (r new : Region) (step : PartStep) (k : ℕ) → IsRegion n b until x r → MakesStep n b until x r step new → SameRings r new → ((l : ℕ) → run_takes (step ∷ []) l ≡ []) → added_in (step ∷ []) ≡ k
    → taken_in (step ∷ []) ≡ 0 → Works n b until x 0 r k 0 0 new
works_step n b until x r new step k g s rings none adds takes = record { steps = step ∷ []; asks1 = 0; asks2 = 0; hears = quiet n b until x r new step g s rings none; adds = adds; takes = takes; few = omega arith; asked = λ h. (omega arith, omega arith) }

pub works_end : (n : Network) (b : Bands) (until : ℕ) (x : Base) (r new : Region) → IsRegion n b until x r → MakesStep n b until x r PartStep.Ends new → SameRings r new → Works n b until x 0 r 0 0 0 new
works_end n b until x r new g s rings = works_step n b until x r new PartStep.Ends 0 g s rings (λ l. refl) refl refl

pub works_on : (n : Network) (b : Bands) (until : ℕ) (x : Base) (r new : Region) (made : Bool) → IsRegion n b until x r → StepsOn n b until x r made new → SameRings r new → Works n b until x 0 r (if made then 1 else 0) 0 0 new
works_on n b until x r new false g s rings = works_end n b until x r new g s.0 rings
works_on n b until x r new true g s rings =
    elim s.2 [
      | inl e ↦ works_step n b until x r new (PartStep.Fires e.0) 1 g (subst (λ p. MakesStep n b until x r p new) e.1 s.1) rings (λ l. refl) refl refl
      | inr e ↦ works_step n b until x r new (PartStep.Passes e.0) 1 g (subst (λ p. MakesStep n b until x r p new) e.1 s.1) rings (λ l. refl) refl refl
    ]

-- the end

pub is_at_end : (n : Network) (b : Bands) (until : ℕ) (x : Base) (r new : Region) → MakesStep n b until x r PartStep.Ends new → new.clock ≡ end_key (world_at n b until x) → IsAtEnd n b until x new
is_at_end n b until x r new s clock =
    let w = world_at n b until x in
    let none : HasNoEntry w x.surface.sites r.id (at_end w (part_of r)) = λ k from before. absurd (lt_not_le k (end_key w) before from) in
    (subst (λ p. HasNoEntry w x.surface.sites new.id p) (sym s.part) (subst (λ i. HasNoEntry w x.surface.sites i (at_end w (part_of r))) (sym s.id) none), clock)

pub on_to_end : (n : Network) (b : Bands) (until : ℕ) (x : Base) (r new : Region) (made : Bool) → StepsOn n b until x r made new → made ≡ false → IsAtEnd n b until x new
on_to_end n b until x r new true s e = cc
on_to_end n b until x r new false s e = is_at_end n b until x r new s.0 s.2

before_end : (a : Key) (until : ℕ) → a.time ≤ until → a is_below record { time = until + 1; place = record { 0 = 0 } }
before_end a until h = grind (arith, nat_tests)

pub end_not_left : (n : Network) (b : Bands) (until : ℕ) (x : Base) (r : Region) → IsAtEnd n b until x r → HasEntryLeft n b until x r → ⊥
end_not_left n b until x r h e =
    let next = e.1 in
    lt_not_le (key_of e.0) (end_key (world_at n b until x)) (before_end (key_of e.0) until next.in_time) (subst (λ k. k is_upto key_of e.0) h.1 next.later)

-- the counts

keep_shorter : (test : Key → Bool) (es : List Event) → length (keep test es) ≤ length es
keep_shorter test [] = omega arith
keep_shorter test (e ∷ es) = either (test (key_of e)) (keep_shorter test es)
  where
    either : (t : Bool) → length (keep test es) ≤ length es → length (cond t (e ∷ keep test es) (keep test es)) ≤ length (e ∷ es)
    either true h = omega (arith, h)
    either false h = omega (arith, h)

op_shorter : (p : Part) (j : ℕ) (op : Op) → length (after_op p j op).timeline ≤ length p.timeline
op_shorter p j op = either (is_before (op_key op) p.clock)
  where
    either : (t : Bool) → length (cond t (below (op_key op) p.timeline) p.timeline) ≤ length p.timeline
    either true = keep_shorter (λ k. is_before k (op_key op)) p.timeline
    either false = omega arith

take_shorter : (p : Part) (j : ℕ) (o : Option Op) → length (option_map_or (after_op p j) o p).timeline ≤ length p.timeline
take_shorter p j None = omega arith
take_shorter p j (Some op) = op_shorter p j op

-- the timeline is longer by what was added less what was cut
lengths : (w : World) (f : Key) (i : ℕ) (p : Part) (steps : List PartStep) → length (part_run w f i p steps).timeline + cut_in w f i p steps ≡ length p.timeline + added_in steps
lengths w f i p [] = omega arith
lengths w f i p (PartStep.Fires e ∷ steps) = omega (arith, lengths w f i (part_after w f i p (PartStep.Fires e)) steps, length-append p.timeline (e ∷ []))
lengths w f i p (PartStep.Passes e ∷ steps) = omega (arith, lengths w f i (part_after w f i p (PartStep.Passes e)) steps, length-append p.timeline (e ∷ []))
lengths w f i p (PartStep.Ends ∷ steps) = omega (arith, lengths w f i (part_after w f i p PartStep.Ends) steps)
lengths w f i p (PartStep.Takes j op ∷ steps) = omega (arith, lengths w f i (part_after w f i p (PartStep.Takes j op)) steps, take_shorter p j (accepted_op (partition_of w) j i f op))

-- nothing is cut where nothing was taken
uncut : (w : World) (f : Key) (i : ℕ) (p : Part) (steps : List PartStep) → taken_in steps ≡ 0 → cut_in w f i p steps ≡ 0
uncut w f i p [] h = refl
uncut w f i p (PartStep.Fires e ∷ steps) h = let r = uncut w f i (part_after w f i p (PartStep.Fires e)) steps (omega (arith, h)) in omega (arith, r)
uncut w f i p (PartStep.Passes e ∷ steps) h = let r = uncut w f i (part_after w f i p (PartStep.Passes e)) steps (omega (arith, h)) in omega (arith, r)
uncut w f i p (PartStep.Ends ∷ steps) h = let r = uncut w f i (part_after w f i p PartStep.Ends) steps (omega (arith, h)) in omega (arith, r)
uncut w f i p (PartStep.Takes j op ∷ steps) h = absurd (omega (arith, h))

events_length : (es : List Entry) → length (events_of es) ≡ length es
events_length es = length-map es (λ e. e.before.event)

-- the timeline is at most longer by what was added
pub no_longer : (n : Network) (b : Bands) (until : ℕ) (x : Base) (m a t k : ℕ) (r new : Region) → Works n b until x m r a t k new → length new.board.timeline.entries ≤ length r.board.timeline.entries + a
no_longer n b until x m a t k r new s =
    let w = world_at n b until x in
    let all = lengths w x.floor r.id (part_of r) s.steps in
    let now : length (part_of new).timeline ≡ length (Part.timeline (part_run w x.floor r.id (part_of r) s.steps)) = ap (λ (p : Part). length p.timeline) s.hears.run.part in
    let e1 = events_length new.board.timeline.entries in
    let e2 = events_length r.board.timeline.entries in
    omega (arith, all, now, e1, e2, s.adds)

-- what was sent

flushed_other : (o t : Option SideView) → Flushed o t → (l : ℕ) → is_other t l ≡ is_other o l
flushed_other None None f l = refl
flushed_other None (Some t) f l = absurd f
flushed_other (Some s) None f l = absurd f
flushed_other (Some s) (Some t) f l = ap (λ n. n == l) f.other

flushed_ring : (e f : Option Ends) (box box' : List Op) → RingFlushed e box box' f → sent_by f ++ box' ≡ sent_by e ++ box
flushed_ring None None box box' h = h
flushed_ring None (Some f) box box' h = absurd h
flushed_ring (Some e) None box box' h = absurd h
flushed_ring (Some e) (Some f) box box' h = h.0.line

flushed_line : (o t : Option SideView) → Flushed o t → line_of t ≡ line_of o
flushed_line None None f = refl
flushed_line None (Some t) f = absurd f
flushed_line (Some s) None f = absurd f
flushed_line (Some s) (Some t) f = flushed_ring s.ends t.ends s.outbox t.outbox f.ring

-- what was sent since an earlier time was so since a time before that

ring_since : (e m f : Option Ends) (ops : List Op) (asks : ℕ) (box : List Op) → RingExchanged e ops asks m → RingSent m box f → RingSent e box f
ring_since None None None ops asks box h g = tt
ring_since None None (Some f) ops asks box h g = absurd g
ring_since None (Some m) f ops asks box h g = absurd h
ring_since (Some e) None f ops asks box h g = absurd h
ring_since (Some e) (Some m) None ops asks box h g = absurd g
ring_since (Some e) (Some m) (Some f) ops asks box h g = elim g [ inl none ↦ inl none | inr much ↦ inr (omega (arith, h.free, much)) ]

sent_since : (o m t : Option SideView) (ops : List Op) (asks : ℕ) → Exchanged o ops asks m → IsSent m t → IsSent o t
sent_since None None None ops asks h f = tt
sent_since None None (Some t) ops asks h f = absurd f
sent_since None (Some m) t ops asks h f = absurd h
sent_since (Some s) None t ops asks h f = absurd h
sent_since (Some s) (Some m) None ops asks h f = absurd f
sent_since (Some s) (Some m) (Some t) ops asks h f = ring_since s.ends m.ends t.ends ops asks t.outbox h.ring f

ring_flushed : (e f : Option Ends) (box box' : List Op) → RingFlushed e box box' f → RingSent e box' f
ring_flushed None None box box' h = tt
ring_flushed None (Some f) box box' h = absurd h
ring_flushed (Some e) None box box' h = absurd h
ring_flushed (Some e) (Some f) box box' h = h.1

flushed_sent : (o t : Option SideView) → Flushed o t → IsSent o t
flushed_sent None None f = tt
flushed_sent None (Some t) f = absurd f
flushed_sent (Some s) None f = absurd f
flushed_sent (Some s) (Some t) f = ring_flushed s.ends t.ends s.outbox t.outbox f.ring

-- the same of a region
pub works_sent_on : (n : Network) (b : Bands) (until : ℕ) (x : Base) (m a t k : ℕ) (r mid new : Region) → Works n b until x m r a t k mid → AreSent mid new → AreSent r new
works_sent_on n b until x m a t k r mid new s sent = (
  sent_since r.first mid.first new.first s.hears.ops1 s.asks1 s.hears.first sent.0,
  sent_since r.second mid.second new.second s.hears.ops2 s.asks2 s.hears.second sent.1,
)

-- a neighbour was heard and told, and then all was sent that could be
pub sent_after : (o m l t : Option SideView) (ops : List Op) (asks : ℕ) → Exchanged o ops asks m → SameSide m l → Flushed l t → IsSent o t
sent_after o m l t ops asks h same f = sent_since o m t ops asks h (sent_since m l t [] 0 (heard_same m l same) (flushed_sent l t f))

flushed_room : (o t : Option SideView) (m : ℕ) → Flushed o t → HasRoom m o → HasRoom m t
flushed_room None None m f h = tt
flushed_room None (Some t) m f h = absurd f
flushed_room (Some s) None m f h = absurd f
flushed_room (Some s) (Some t) m f h = omega (arith, h, f.room)

-- A region sent what its rings took.
module _ (r : Region) (first second : Option SideView) (f1 : Flushed r.first first) (f2 : Flushed r.second second) where
  same_first : (l : ℕ) → is_other first l ≡ is_other r.first l
  same_first = flushed_other r.first first f1

  same_second : (l : ℕ) → is_other second l ≡ is_other r.second l
  same_second = flushed_other r.second second f2

  pub flushed_spare : (m : ℕ) → HasSpare m r → HasSpare m (record r { first = first; second = second })
  flushed_spare m h = record { timeline = h.timeline; changes = h.changes; stacks = h.stacks; first = flushed_room r.first first m f1 h.first; second = flushed_room r.second second m f2 h.second }

  pub flushed_end : (n : Network) (b : Bands) (until : ℕ) (x : Base) → IsAtEnd n b until x r → IsAtEnd n b until x (record r { first = first; second = second })
  flushed_end n b until x h = (subst (HasNoEntry (world_at n b until x) x.surface.sites r.id) (sym (same_parts n b until x r first second same_first same_second)) h.0, h.1)

  flushed_hears : (n : Network) (b : Bands) (until : ℕ) (x : Base) → IsRegion n b until x r → Hears n b until x r 0 0 [] (record r { first = first; second = second })
  flushed_hears n b until x g =
      record {
        run = run_to n b until x r r [] first second r.totals same_first same_second (flushed_line r.first first f1) (flushed_line r.second second f2) g (run_none n b until x r g);
        ops1 = [];
        ops2 = [];
        first = flushed_heard r.first first f1;
        second = flushed_heard r.second second f2;
        takes = handed_none r.first r.second;
      }

  pub works_sent : (n : Network) (b : Bands) (until : ℕ) (x : Base) → IsRegion n b until x r → Works n b until x 0 r 0 0 0 (record r { first = first; second = second })
  works_sent n b until x g = record { steps = []; asks1 = 0; asks2 = 0; hears = flushed_hears n b until x g; adds = refl; takes = refl; few = omega arith; asked = λ h. (omega arith, omega arith) }

-- a turn

pub is_turn : (n : Network) (b : Bands) (until : ℕ) (x : Base) (quota : ℕ) (r last : Region) (totals : Totals) (t : Turn) → IsRegion n b until x r → Works n b until x quota r t.added t.taken (max 1 t.added) last → t.added ≤ quota → (t.empty ≡ false → t.added ≡ quota)
    → MatchBool t.empty (IsAtEnd n b until x last) (HasEntryLeft n b until x last) → length last.board.timeline.entries + t.cut ≡ length r.board.timeline.entries + t.added → AreSent r last → IsTurn n b until x quota r (record last { totals = totals }) t
is_turn n b until x quota r last totals t g s most whole left long sent =
    let w = world_at n b until x in
    let h = s.hears in
    let all = lengths w x.floor r.id (part_of r) s.steps in
    let now : length (part_of last).timeline ≡ length (Part.timeline (part_run w x.floor r.id (part_of r) s.steps)) = ap (λ (p : Part). length p.timeline) h.run.part in
    let e1 = events_length last.board.timeline.entries in
    let e2 = events_length r.board.timeline.entries in
    let is_cut : t.cut ≡ cut_in w x.floor r.id (part_of r) s.steps = omega (arith, all, now, e1, e2, long, s.adds) in
    record {
      steps = s.steps;
      run = run_to n b until x r last s.steps last.first last.second totals (λ l. refl) (λ l. refl) refl refl g h.run;
      counts = record { added = sym s.adds; taken = sym s.takes; cut = is_cut };
      most = s.few;
      ops1 = h.ops1;
      ops2 = h.ops2;
      asks1 = s.asks1;
      asks2 = s.asks2;
      first = h.first;
      second = h.second;
      takes = h.takes;
      sent = sent;
      added = most;
      whole = whole;
      empty = left;
      uncut = λ z. is_cut ∙ uncut w x.floor r.id (part_of r) s.steps (s.takes ∙ z);
      length = omega (arith, e1, e2, long);
      asked = λ d. let k = s.asked d in ((omega (arith, k.0), omega (arith, k.0)), (omega (arith, k.1), omega (arith, k.1)));
    }

-- a turn that left an entry added the whole quota
pub whole_quota : (n : Network) (b : Bands) (until : ℕ) (x : Base) (mid last : Region) (added quota : ℕ) (empty : Bool) → added ≤ quota → (added < quota → IsAtEnd n b until x mid) → (empty ≡ false → last ≡ mid) → MatchBool empty (IsAtEnd n b until x last) (HasEntryLeft n b until x last)
    → empty ≡ false → added ≡ quota
whole_quota n b until x mid last added quota empty most at_end same left h =
    elim (eqb_tells added quota) [
      | inl e ↦ e.1
      | inr e ↦
          let low : added < quota = omega (arith, most, e.1) in
          let entry : HasEntryLeft n b until x last = subst (λ t. MatchBool t (IsAtEnd n b until x last) (HasEntryLeft n b until x last)) h left in
          absurd (end_not_left n b until x mid (at_end low) (subst (λ (r : Region). HasEntryLeft n b until x r) (same h) entry))
    ]
