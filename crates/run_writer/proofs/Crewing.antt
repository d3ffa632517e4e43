-- A run by a crew, round by round.
use Rattle.std.proofs.Common.{◌≡◌, ◌⊎◌, inl, inr, ℕ, ◌+◌, ◌<◌, ◌≤◌, List, [], ◌∷◌, ◌++◌, length, Bool, true, false, None, refl, sym, ap, ◌∙◌, arith, subst, cond}
use Rattle.std.specs.Prelude.{◌≢◌, Result, Ok, Err, OnOk, All}
use Rattle.std.proofs.lemmas.Bool.{cases_Bool}
use Rattle.std.proofs.lemmas.Bool.Decides.{nat_tests}
use Rattle.std.proofs.lemmas.List.{length-append}
use Rattle.surf_kinds.specs.declared.event.Event.{Event}
use Rattle.surf_kinds.specs.declared.event.Key.{Key}
use Rattle.surf_kinds.specs.declared.site.SiteState.{SiteState}
use Rattle.surf_kinds.specs.declared.site.SpeciesId.{SpeciesId}
use Rattle.surf_kinds.specs.Keys.{is_before, same_key, origin, key_of, below, from, ◌is_below◌, ◌is_upto◌, AllKeys, IsRising}
use Rattle.surf_kinds.proofs.Order.{lt_to_le, same_refl, same_is, is_upto_origin}
use Rattle.surf_kinds.proofs.Rising.{parted}
use Rattle.surf_kinds.proofs.Tables.{IsRising_keep, all_keys, keep_all, keep_none, below_below}
use Rattle.lattice.specs.Surface.{after, after_all, first_surface}
use Rattle.plan.specs.Network.{Network}
use Rattle.plan.specs.History.{due, history, IsHistory, AreNext}
use Rattle.plan.proofs.LawLemmas.{is_history, rising, due_next, history_next}
use Rattle.surface_state.specs.SurfaceView.{SurfaceView}
use Rattle.warp_core.specs.World.{end_key}
use Rattle.warp_core.specs.Configs.{IsFresh}
use Rattle.warp_core.proofs.LawLemmas.{sites-append, fresh_sites}
use Rattle.region_run.specs.declared.region.Region.{Region}
use Rattle.crew.specs.Crews.{CrewView, world_in}
use Rattle.run_writer.specs.declared.writer.Writer.{Writer}
use Rattle.run_writer.specs.Pages.{Page}
use Rattle.run_writer.specs.RunText.{Scene, Reached, start, events_of}
use Rattle.run_writer.specs.Runs.{MayRun}
use Rattle.run_writer.specs.Writing.{reached_of, IsReady, Progress}
use Rattle.run_writer.proofs.Endings.{first_fresh}
use Rattle.run_writer.specs.Crewed.{IsAlong, IsPastLimit, IsSameCrew, rounds_left, first_in, handed_by}

-- Parts of a history

all_next : (n : Network) (until : ℕ) (es : List Event) (sites : List SiteState) → IsHistory n until sites es → AreNext n until sites es
all_next n until [] sites h = tt
all_next n until (e ∷ es) sites h = (h.0, all_next n until es (after n.lattice n.rules sites e) h.1)

first_next : (n : Network) (until : ℕ) (xs ys : List Event) (sites : List SiteState) → AreNext n until sites (xs ++ ys) → AreNext n until sites xs
first_next n until [] ys sites h = tt
first_next n until (x ∷ xs) ys sites h = (h.0, first_next n until xs ys (after n.lattice n.rules sites x) h.1)

rest_next : (n : Network) (until : ℕ) (xs ys : List Event) (sites : List SiteState) → AreNext n until sites (xs ++ ys) → AreNext n until (after_all n.lattice n.rules sites xs) ys
rest_next n until [] ys sites h = h
rest_next n until (x ∷ xs) ys sites h = rest_next n until xs ys (after n.lattice n.rules sites x) h.1

none_behind : (n : Network) (until : ℕ) (es : List Event) (sites : List SiteState) → IsHistory n until sites es → due n until (after_all n.lattice n.rules sites es) ≡ None
none_behind n until [] sites h = h
none_behind n until (e ∷ es) sites h = none_behind n until es (after n.lattice n.rules sites e) h.1

-- a list that rises, below a key, is what lies below a lesser one and then what lies from that one on
cut_twice : (a b : Key) (es : List Event) → IsRising es → a is_upto b → below b es ≡ below a es ++ from a (below b es)
cut_twice a b es r h = parted a (below b es) (IsRising_keep (λ j. is_before j b) es r) ∙ ap (λ l. l ++ from a (below b es)) (below_below a b es h)

rises : (n : Network) (until : ℕ) (first : List SiteState) → IsRising (history n until first)
rises n until first = rising n until (history n until first) first (is_history n until first)

-- the events of a history from one key on and below another are the next ones after those below the first
pub between_next : (n : Network) (until : ℕ) (first : List SiteState) (a b : Key) → a is_upto b → AreNext n until (after_all n.lattice n.rules first (below a (history n until first))) (from a (below b (history n until first)))
between_next n until first a b h =
    let es : List Event = history n until first in
    let whole : AreNext n until first (below b es ++ from b es) = subst (AreNext n until first) (parted b es (rises n until first)) (all_next n until es first (is_history n until first)) in
    rest_next n until (below a es) (from a (below b es)) first
    (subst (AreNext n until first) (cut_twice a b es (rises n until first) h) (first_next n until (below b es) (from b es) first whole))

-- and lead to the surface after those below the other
pub between_sites : (n : Network) (until : ℕ) (first : List SiteState) (a b : Key) → a is_upto b
    → after_all n.lattice n.rules (after_all n.lattice n.rules first (below a (history n until first))) (from a (below b (history n until first))) ≡ after_all n.lattice n.rules first (below b (history n until first))
between_sites n until first a b h =
    let es : List Event = history n until first in
    sym (sites-append n first (below a es) (from a (below b es))) ∙ ap (after_all n.lattice n.rules first) (sym (cut_twice a b es (rises n until first) h))

in_time : (k : Key) (until : ℕ) → k.time ≤ until → is_before k (record { time = until + 1; place = record { 0 = 0 } }) ≡ true
in_time k until h = grind (arith, nat_tests)

within_end : (n : Network) (until : ℕ) (es : List Event) (sites : List SiteState) → IsHistory n until sites es → AllKeys (λ k. is_before k (record { time = until + 1; place = record { 0 = 0 } }) ≡ true) es
within_end n until [] sites h = tt
within_end n until (x ∷ es) sites h = (in_time (key_of x) until (due_next n until sites x h.0).1, within_end n until es (after n.lattice n.rules sites x) h.1)

-- after those below the end no event is due
pub end_none : (n : Network) (until : ℕ) (first : List SiteState) → due n until (after_all n.lattice n.rules first (below (record { time = until + 1; place = record { 0 = 0 } }) (history n until first))) ≡ None
end_none n until first =
    let es : List Event = history n until first in
    ap (λ l. due n until (after_all n.lattice n.rules first l)) (keep_all (λ k. is_before k (record { time = until + 1; place = record { 0 = 0 } })) es (within_end n until es first (is_history n until first)))
    ∙ none_behind n until es first (is_history n until first)

-- they are as many as lie between
pub between_count : (n : Network) (until : ℕ) (first : List SiteState) (a b : Key) → a is_upto b
    → length (below b (history n until first)) ≡ length (below a (history n until first)) + length (from a (below b (history n until first)))
between_count n until first a b h =
    let es : List Event = history n until first in
    ap length (cut_twice a b es (rises n until first) h) ∙ length-append (below a es) (from a (below b es))

-- A round

-- what it hands out comes next
pub round_next : (s : Scene) (c d : CrewView) (r : Reached) (es : List Event) → IsAlong s c r → c.horizon is_below d.horizon → es ≡ from c.horizon (below d.horizon (world_in c).history) → AreNext s.network s.until r.sites es
round_next s c d r es along later is =
    subst (λ (n : Network). AreNext n s.until r.sites es) along.network
    (subst (λ (u : ℕ). AreNext c.network u r.sites es) along.until
    (subst (λ (l : List Event). AreNext c.network c.until r.sites l) (sym is)
    (subst (λ (x : List SiteState). AreNext c.network c.until x (from c.horizon (below d.horizon (world_in c).history))) (sym along.reached)
    (between_next c.network c.until (world_in c).start c.horizon d.horizon (lt_to_le c.horizon d.horizon later)))))

-- all that was handed out then
round_handed : (c : CrewView) (horizon : Key) (es : List Event) → c.horizon is_below horizon → es ≡ from c.horizon (below horizon (world_in c).history) → below horizon (world_in c).history ≡ handed_by c ++ es
round_handed c horizon es later is =
    cut_twice c.horizon horizon (world_in c).history (rises c.network c.until (world_in c).start) (lt_to_le c.horizon horizon later) ∙ ap (λ l. handed_by c ++ l) (sym is)

-- are the first events of the history
pub round_upto : (s : Scene) (c d : CrewView) (r : Reached) (es : List Event) → IsAlong s c r → c.horizon is_below d.horizon → es ≡ from c.horizon (below d.horizon (world_in c).history) → AreNext s.network s.until (first_in c) (handed_by c ++ es)
round_upto s c d r es along later is =
    let all : List Event = (world_in c).history in
    let whole : AreNext c.network c.until (first_in c) (below d.horizon all ++ from d.horizon all) =
    subst (AreNext c.network c.until (first_in c)) (parted d.horizon all (rises c.network c.until (first_in c))) (all_next c.network c.until all (first_in c) (is_history c.network c.until (first_in c))) in
    subst (λ (n : Network). AreNext n s.until (first_in c) (handed_by c ++ es)) along.network
    (subst (λ (u : ℕ). AreNext c.network u (first_in c) (handed_by c ++ es)) along.until
    (subst (AreNext c.network c.until (first_in c)) (round_handed c d.horizon es later is)
    (first_next c.network c.until (below d.horizon all) (from d.horizon all) (first_in c) whole)))

-- who has seen all of them has seen what the crew has handed out
pub round_seen : (P : List SiteState → List Event → Type 0) (c d : CrewView) (horizon : Key) (rounds committed : ℕ) (regions : List Region) (es : List Event) → d ≡ record c { horizon = horizon; rounds = rounds; committed = committed; regions = regions } → c.horizon is_below horizon
    → es ≡ from c.horizon (below horizon (world_in c).history) → P (first_in c) (handed_by c ++ es) → P (first_in d) (handed_by d)
round_seen P c d horizon rounds committed regions es moved later is seen =
    subst (λ (x : CrewView). P (first_in x) (handed_by x)) (sym moved) (subst (P (first_in c)) (sym (round_handed c horizon es later is)) seen)

-- the same with the other numbers and regions that a round leaves
pub round_along : (s : Scene) (c d : CrewView) (rounds committed : ℕ) (r q : Reached) (es : List Event) → IsAlong s c r → c.horizon is_below d.horizon → es ≡ from c.horizon (below d.horizon (world_in c).history)
    → d ≡ record c { horizon = d.horizon; rounds = rounds; committed = committed; regions = d.regions } → q.sites ≡ after_all s.network.lattice s.network.rules r.sites es → q.events ≡ r.events + length es → IsAlong s d q
round_along s c d rounds committed r q es along later is moved after_is count =
    subst (λ (x : CrewView). IsAlong s x q) (sym moved) (record {
      network = along.network;
      until = along.until;
      reached = after_is
          ∙ (ap (λ (n : Network). after_all n.lattice n.rules r.sites es) (sym along.network)
          ∙ (ap (λ (l : List Event). after_all c.network.lattice c.network.rules r.sites l) is
          ∙ (ap (λ (x : List SiteState). after_all c.network.lattice c.network.rules x (from c.horizon (below d.horizon (world_in c).history))) along.reached
          ∙ between_sites c.network c.until (world_in c).start c.horizon d.horizon (lt_to_le c.horizon d.horizon later))));
      count = omega (arith, count, along.count, ap length is, between_count c.network c.until (world_in c).start c.horizon d.horizon (lt_to_le c.horizon d.horizon later));
    })

-- where it hands out more than the limit, it is past it
pub round_limited : (s : Scene) (c d : CrewView) (rounds committed : ℕ) (r : Reached) (es : List Event) → IsAlong s c r → c.horizon is_below d.horizon → es ≡ from c.horizon (below d.horizon (world_in c).history)
    → d ≡ record c { horizon = d.horizon; rounds = rounds; committed = committed; regions = d.regions } → s.limit < r.events + length es → IsPastLimit s d
round_limited s c d rounds committed r es along later is moved over =
    subst (IsPastLimit s) (sym moved)
    (omega (arith, over, along.count, ap length is, between_count c.network c.until (world_in c).start c.horizon d.horizon (lt_to_le c.horizon d.horizon later)))

pub round_same : (c d : CrewView) (horizon : Key) (rounds committed : ℕ) (regions : List Region) → d ≡ record c { horizon = horizon; rounds = rounds; committed = committed; regions = regions } → IsSameCrew c d
round_same c d horizon rounds committed regions is = record {
  network = ap (λ (x : CrewView). x.network) is;
  bands = ap (λ (x : CrewView). x.bands) is;
  start = ap (λ (x : CrewView). x.start) is;
  until = ap (λ (x : CrewView). x.until) is;
  quota = ap (λ (x : CrewView). x.quota) is;
  slots = ap (λ (x : CrewView). x.slots) is;
}

pub same_self : (c : CrewView) → IsSameCrew c c
same_self c = record { network = refl; bands = refl; start = refl; until = refl; quota = refl; slots = refl }

pub same_more : (c d e : CrewView) → IsSameCrew c d → IsSameCrew d e → IsSameCrew c e
same_more c d e p q = record {
  network = q.network ∙ p.network;
  bands = q.bands ∙ p.bands;
  start = q.start ∙ p.start;
  until = q.until ∙ p.until;
  quota = q.quota ∙ p.quota;
  slots = q.slots ∙ p.slots;
}

-- how many rounds are left

abbrev flag : Bool → ℕ
flag b = cond b 0 1

flag_most : (b : Bool) → flag b ≤ 1
flag_most true = omega arith
flag_most false = omega arith

flag_end : (b : Bool) → b ≡ true → flag b ≡ 0
flag_end b h = ap flag h

flag_not : (j k : Key) → j ≢ k → flag (same_key j k) ≡ 1
flag_not j k h = go (cases_Bool (same_key j k))
  where
    go : (same_key j k ≡ true) ⊎ (same_key j k ≡ false) → flag (same_key j k) ≡ 1
    go (inl p) = absurd (h (same_is j k p))
    go (inr p) = ap flag p

pub round_fewer : (s : Scene) (c d : CrewView) (sites new : List SiteState) (es : List Event) → AreNext s.network s.until sites es → new ≡ after_all s.network.lattice s.network.rules sites es → c.horizon ≢ end_key (world_in c)
    → IsSameCrew c d → (es ≡ [] → d.horizon ≡ end_key (world_in c)) → rounds_left s d new < rounds_left s c sites
round_fewer s c d sites new es next is unfinished same some =
    let rest : List Event = events_of s new in
    let whole : length (events_of s sites) ≡ length es + length rest =
    ap length (history_next s.network s.until sites es next ∙ ap (λ (x : List SiteState). es ++ history s.network s.until x) (sym is)) ∙ length-append es rest in
    let old : flag (same_key c.horizon (end_key (world_in c))) ≡ 1 = flag_not c.horizon (end_key (world_in c)) unfinished in
    go es whole some old
  where
    go : (l : List Event) → length (events_of s sites) ≡ length l + length (events_of s new) → (l ≡ [] → d.horizon ≡ end_key (world_in c)) → flag (same_key c.horizon (end_key (world_in c))) ≡ 1 → rounds_left s d new < rounds_left s c sites
    go [] whole some old =
        let ends : d.horizon ≡ end_key (world_in d) = some refl ∙ ap (λ (u : ℕ). record { time = u + 1; place = record { 0 = 0 } }) (sym same.until) in
        let new_flag : flag (same_key d.horizon (end_key (world_in d))) ≡ 0 = flag_end (same_key d.horizon (end_key (world_in d))) (ap (λ (k : Key). same_key k (end_key (world_in d))) ends ∙ same_refl (end_key (world_in d))) in
        omega (arith, whole, old, new_flag)
    go (x ∷ xs) whole some old =
        let new_flag : flag (same_key d.horizon (end_key (world_in d))) ≤ 1 = flag_most (same_key d.horizon (end_key (world_in d))) in
        omega (arith, whole, old, new_flag)

-- A crew that is finished

pub finished_none : (s : Scene) (c : CrewView) (r : Reached) → IsAlong s c r → c.horizon ≡ end_key (world_in c) → due s.network s.until r.sites ≡ None
finished_none s c r along ends =
    ap (λ (n : Network). due n s.until r.sites) (sym along.network)
    ∙ (ap (λ (u : ℕ). due c.network u r.sites) (sym along.until)
    ∙ (ap (due c.network c.until) (along.reached ∙ ap (λ (k : Key). after_all c.network.lattice c.network.rules (world_in c).start (below k (world_in c).history)) ends)
    ∙ end_none c.network c.until (world_in c).start))

-- what follows where a call went well

pub on_ok_both : {T E P Q S : Type 0} (r : Result T E) → (P → Q → S) → OnOk r P → OnOk r Q → OnOk r S
on_ok_both (Ok x) f p q = f p q
on_ok_both (Err e) f p q = tt

pub on_ok_then : {T E P Q : Type 0} (r : Result T E) → (P → Q) → OnOk r P → OnOk r Q
on_ok_then (Ok x) f p = f p
on_ok_then (Err e) f p = tt

-- what a round leaves where all of it was written
pub round_wrote : {T E : Type 0} (result : Result T E) (s : Scene) (c d : CrewView) (rounds committed : ℕ) (r q : Reached) (es : List Event) → IsAlong s c r → c.horizon is_below d.horizon → es ≡ from c.horizon (below d.horizon (world_in c).history)
    → d ≡ record c { horizon = d.horizon; rounds = rounds; committed = committed; regions = d.regions } → OnOk result (q.sites ≡ after_all s.network.lattice s.network.rules r.sites es) → OnOk result (q.events ≡ r.events + length es) → OnOk result (IsAlong s d q)
round_wrote (Ok x) s c d rounds committed r q es along later is moved after_is count = round_along s c d rounds committed r q es along later is moved after_is count
round_wrote (Err e) s c d rounds committed r q es along later is moved after_is count = tt

-- rounds were made, and what they handed out was written
pub record WritingRounds (s : Scene) (c d : CrewView) (w v : Writer) (a b : Page) : Type 0 where
  pub ready : IsReady s v
  pub along : IsAlong s d (reached_of v)
  pub progress : Progress s (reached_of w) (reached_of v) a b
  pub same : IsSameCrew c d

-- A crew at its start

below_origin : (es : List Event) → below origin es ≡ []
below_origin es = keep_none (λ k. is_before k origin) es (all_keys (λ k. is_before k origin ≡ false) is_upto_origin es)

handed_none : (c : CrewView) → c.horizon ≡ origin → handed_by c ≡ []
handed_none c horizon = ap (λ (k : Key). below k (world_in c).history) horizon ∙ below_origin (world_in c).history

starts_at : (c : CrewView) (cells : List SpeciesId) → c.start.sites ≡ first_surface cells → c.start.sites ≡ first_in c
starts_at c cells is = fresh_sites c.start.sites (subst (All IsFresh) (sym is) (first_fresh cells))

-- has handed out nothing
pub along_first : (s : Scene) (c : CrewView) → MayRun s c → IsAlong s c (start s c.start.sites)
along_first s c may = record {
  network = may.network;
  until = may.until;
  reached = starts_at c may.first.0 may.first.1 ∙ ap (after_all c.network.lattice c.network.rules (first_in c)) (sym (handed_none c may.horizon));
  count = sym (ap length (handed_none c may.horizon));
}

-- so who has seen none of its events has seen that
pub seen_first : (P : List SiteState → List Event → Type 0) (s : Scene) (c : CrewView) → MayRun s c → P c.start.sites [] → P (first_in c) (handed_by c)
seen_first P s c may seen =
    subst (λ (x : List SiteState). P x (handed_by c)) (starts_at c may.first.0 may.first.1) (subst (P c.start.sites) (sym (handed_none c may.horizon)) seen)

-- A finished one has handed out all events of the run
pub seen_all : (P : List SiteState → List Event → Type 0) (s : Scene) (c d : CrewView) → MayRun s c → IsSameCrew c d → d.horizon ≡ end_key (world_in d) → P (first_in d) (handed_by d) → P c.start.sites (events_of s c.start.sites)
seen_all P s c d may same ends seen =
    let first : first_in d ≡ c.start.sites =
    sym (starts_at d may.first.0 (ap (λ (x : SurfaceView). x.sites) same.start ∙ may.first.1)) ∙ ap (λ (x : SurfaceView). x.sites) same.start in
    let events : handed_by d ≡ events_of s c.start.sites =
    ap (λ (k : Key). below k (world_in d).history) ends
    ∙ (keep_all (λ k. is_before k (end_key (world_in d))) (world_in d).history (within_end d.network d.until (world_in d).history (first_in d) (is_history d.network d.until (first_in d)))
    ∙ (ap (λ (x : List SiteState). history d.network d.until x) first
    ∙ (ap (λ (n : Network). history n d.until c.start.sites) (same.network ∙ may.network)
    ∙ ap (λ (u : ℕ). history s.network u c.start.sites) (same.until ∙ may.until)))) in
    subst (λ (x : List SiteState). P x (events_of s c.start.sites)) first (subst (P (first_in d)) events seen)
