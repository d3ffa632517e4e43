-- What the totals of regions account for, call by call.
use Rattle.std.proofs.Common.{◌≡◌, ℕ, zero, suc, ◌+◌, ◌<◌, inl, inr, Bool, true, false, not, List, [], ◌∷◌, length, refl, sym, ap, ◌∙◌, subst, arith, min, Some, slice_index_or, if◌then◌else◌}
use Rattle.std.specs.Prelude.{slice_get}
use Rattle.std.proofs.lemmas.Bool.{cases_Bool}
use Rattle.std.proofs.lemmas.Bool.Decides.{eqb_tells}
use Rattle.std.proofs.lemmas.List.{length-append}
use Rattle.std.proofs.lemmas.Option.{same_Some, slice_get_within, none-some}
use Rattle.surf_kinds.specs.declared.event.Event.{Event}
use Rattle.surf_kinds.specs.declared.event.Key.{Key}
use Rattle.surf_kinds.specs.Keys.{is_before, key_of, keep, below, from, AllKeys, ◌is_upto◌, ◌is_below◌}
use Rattle.surf_kinds.proofs.Order.{lt_not_le}
use Rattle.surf_kinds.proofs.Tables.{keep_yes, keep_no, below_below}
use Rattle.plan.specs.Network.{Network}
use Rattle.regions.specs.Bands.{Bands}
use Rattle.ordered_commit.specs.Merge.{all_events}
use Rattle.warp_core.specs.Parts.{Part, part_after}
use Rattle.region_run.specs.declared.region.Region.{Region}
use Rattle.region_run.specs.declared.totals.Totals.{Totals}
use Rattle.region_run.specs.declared.totals.Turn.{Turn}
use Rattle.region_run.specs.Counts.{with_work, with_turn}
use Rattle.region_run.specs.Regions.{Base, world_at, part_of, is_own_key, IsRegion}
use Rattle.region_run.specs.Runs.{StepsOn}
use Rattle.region_run.specs.Starts.{no_totals}
use Rattle.crew.specs.Balances.{IsBalanced, AreBalanced, total_of}
use Rattle.crew.specs.Calls.{ChangesEach, HasStepped, Delivers, IsOwnBelow, AreOwnBelow, Forgets}
use Rattle.crew.specs.Reports.{added_in_all, cut_in_all, forgotten_in_all}
use Rattle.crew.specs.Rounds.{IsOne, IsTwo}
use Rattle.crew.proofs.Lists.{both_there, each_changed}

-- One region

-- so many entries more, and so many cut
worked_numbers : (added cut len forgotten own a c added' cut' len' : ℕ) → (added < 18446744073709551615 → added ≡ cut + len + forgotten + own) → added' ≡ min (added + a) 18446744073709551615 → cut' ≡ min (cut + c) 18446744073709551615
    → len' + c ≡ len + a → added' < 18446744073709551615 → added' ≡ cut' + len' + forgotten + own
worked_numbers added cut len forgotten own a c added' cut' len' was more less long low =
    let before : added < 18446744073709551615 = omega (arith, more, low) in
    let is : added ≡ cut + len + forgotten + own = was before in
    omega (arith, more, less, long, low, is)

-- so many received entries forgotten, and so many own ones
forgot_numbers : (added cut len forgotten own received mine forgotten' len' : ℕ) → (added < 18446744073709551615 → added ≡ cut + len + forgotten + own) → forgotten' ≡ min (forgotten + received) 18446744073709551615 → len ≡ mine + received + len'
    → added < 18446744073709551615 → added ≡ cut + len' + forgotten' + (own + mine)
forgot_numbers added cut len forgotten own received mine forgotten' len' was more long low =
    let is : added ≡ cut + len + forgotten + own = was low in
    omega (arith, more, long, low, is)

pub worked : (own : ℕ) (r t : Region) (a c : ℕ) → t.totals ≡ with_work r.totals a c → length (part_of t).timeline + c ≡ length (part_of r).timeline + a → IsBalanced own r → IsBalanced own t
worked own r t a c totals long b =
    record {
      is = λ low.
          worked_numbers r.totals.added r.totals.cut (length (part_of r).timeline) r.totals.forgotten own a c t.totals.added t.totals.cut (length (part_of t).timeline) b.is (ap (λ (x : Totals). x.added) totals) (ap (λ (x : Totals). x.cut) totals) long low
          ∙ ap (λ n. t.totals.cut + length (part_of t).timeline + n + own) (sym (ap (λ (x : Totals). x.forgotten) totals));
    }

pub turned : (own : ℕ) (r t : Region) (turn : Turn) → t.totals ≡ with_turn r.totals turn → length (part_of t).timeline + turn.cut ≡ length (part_of r).timeline + turn.added → IsBalanced own r → IsBalanced own t
turned own r t turn totals long b =
    record {
      is = λ low.
          worked_numbers r.totals.added r.totals.cut (length (part_of r).timeline) r.totals.forgotten own turn.added turn.cut t.totals.added t.totals.cut (length (part_of t).timeline) b.is (ap (λ (x : Totals). x.added) totals)
          (ap (λ (x : Totals). x.cut) totals) long low
          ∙ ap (λ n. t.totals.cut + length (part_of t).timeline + n + own) (sym (ap (λ (x : Totals). x.forgotten) totals));
    }

pub same_balance : (own : ℕ) (r t : Region) → t.totals ≡ r.totals → part_of t ≡ part_of r → IsBalanced own r → IsBalanced own t
same_balance own r t totals part b =
    record {
      is = λ low.
          ap (λ (x : Totals). x.added) totals ∙ (b.is (subst (λ (x : Totals). x.added < 18446744073709551615) totals low)
          ∙ sym (λ e. (totals e).cut + length (part e).timeline + (totals e).forgotten + own));
    }

step_length : (n : Network) (b : Bands) (until : ℕ) (x : Base) (r t : Region) (answer : Bool) → StepsOn n b until x r answer t → length (part_of t).timeline ≡ length (part_of r).timeline + (if answer then 1 else 0)
step_length n b until x r t true s =
    elim s.2 [
      | inl e ↦ ap (λ (p : Part). length p.timeline) (s.1.part ∙ ap (part_after (world_at n b until x) x.floor r.id (part_of r)) e.1) ∙ length-append (part_of r).timeline (e.0 ∷ [])
      | inr e ↦ ap (λ (p : Part). length p.timeline) (s.1.part ∙ ap (part_after (world_at n b until x) x.floor r.id (part_of r)) e.1) ∙ length-append (part_of r).timeline (e.0 ∷ [])
    ]
step_length n b until x r t false s = omega (arith, ap (λ (p : Part). length p.timeline) s.0.part)

by_answer : (own : ℕ) (r t : Region) (answer : Bool) → t.totals ≡ (if answer then with_work r.totals 1 0 else r.totals) → length (part_of t).timeline ≡ length (part_of r).timeline + (if answer then 1 else 0) → IsBalanced own r → IsBalanced own t
by_answer own r t true totals long b = worked own r t 1 0 totals (omega (arith, long)) b
by_answer own r t false totals long b =
    let same : length (part_of t).timeline ≡ length (part_of r).timeline = omega (arith, long) in
    record {
      is = λ low.
          ap (λ (x : Totals). x.added) totals ∙ (b.is (subst (λ (x : Totals). x.added < 18446744073709551615) totals low)
          ∙ sym (λ e. (totals e).cut + same e + (totals e).forgotten + own));
    }

pub stepped : (own : ℕ) (n : Network) (b : Bands) (until : ℕ) (x : Base) (r t : Region) → IsRegion n b until x r → HasStepped n b until r t → IsBalanced own r → IsBalanced own t
stepped own n b until x r t region h bal = by_answer own r t h.answer h.totals (step_length n b until x r t h.answer (h.steps x region)) bal

pub given : (own : ℕ) (n : Network) (b : Bands) (until : ℕ) (x : Base) (done : Bool) (f t f' t' : Region) → IsRegion n b until x t → Delivers n b done f t f' t' → IsBalanced own t → IsBalanced own t'
given own n b until x true f t f' t' region d bal = let w = d.totals refl in worked own t t' 0 w.0 w.1 (omega (arith, w.2)) bal
given own n b until x false f t f' t' region d bal = same_balance own t t' (d.no_totals refl) (d.none refl).part bal

pub gave : (own : ℕ) (n : Network) (b : Bands) (until : ℕ) (x : Base) (done : Bool) (f t f' t' : Region) → IsRegion n b until x t → Delivers n b done f t f' t' → IsBalanced own f → IsBalanced own f'
gave own n b until x true f t f' t' region d bal = same_balance own f f' d.sender_totals (d.one refl until x region).sender.part bal
gave own n b until x false f t f' t' region d bal = same_balance own f f' d.sender_totals (d.none refl).sender.part bal

-- the events that pass a test, and those that don't, are all
pub parted_length : (P : Key → Bool) (es : List Event) → length (keep P es) + length (keep (λ k. not (P k)) es) ≡ length es
parted_length P [] = refl
parted_length P (e ∷ es) =
    elim (cases_Bool (P (key_of e))) [
      | inl p ↦ omega (arith, parted_length P es, ap (λ (l : List Event). length l) (keep_yes P e es p), ap (λ (l : List Event). length l) (keep_no (λ k. not (P k)) e es (ap not p)))
      | inr p ↦ omega (arith, parted_length P es, ap (λ (l : List Event). length l) (keep_no P e es p), ap (λ (l : List Event). length l) (keep_yes (λ k. not (P k)) e es (ap not p)))
    ]

pub forgot : (own : ℕ) (n : Network) (b : Bands) (until : ℕ) (x : Base) (key : Key) (r t : Region) (mine : List Event) → IsRegion n b until x r → x.floor is_upto key → key is_upto r.clock → IsOwnBelow key r mine → Forgets key r t → IsBalanced own r
    → IsBalanced (own + length mine) t
forgot own n b until x key r t mine region late early owned f bal =
    let line = (part_of r).timeline in
    let left : (part_of t).timeline ≡ from key line = (f.committed n b until x region late early).timeline in
    let all : length (below key line) + length (from key line) ≡ length line = parted_length (λ j. is_before j key) line in
    let split : length (keep (is_own_key b r.id) (below key line)) + length (keep (λ k. not (is_own_key b r.id k)) (below key line)) ≡ length (below key line) = parted_length (is_own_key b r.id) (below key line) in
    let is_mine : length mine ≡ length (keep (is_own_key b r.id) (below key line)) = ap (λ (l : List Event). length l) (owned.is n b until x region) in
    let received : f.totals.0 ≡ length (keep (λ k. not (is_own_key b r.id k)) (below key line)) = f.totals.2 n b until x region in
    let long : length line ≡ length mine + f.totals.0 + length (part_of t).timeline = omega (arith, all, split, is_mine, received, ap (λ (l : List Event). length l) left) in
    record {
      is = λ low.
          (ap (λ (y : Totals). y.added) f.totals.1
          ∙ forgot_numbers r.totals.added r.totals.cut (length line) r.totals.forgotten own f.totals.0 (length mine) t.totals.forgotten (length (part_of t).timeline) bal.is (ap (λ (y : Totals). y.forgotten) f.totals.1) long
          (subst (λ m. m < 18446744073709551615) (ap (λ (y : Totals). y.added) f.totals.1) low))
          ∙ ap (λ m. m + length (part_of t).timeline + t.totals.forgotten + (own + length mine)) (sym (ap (λ (y : Totals). y.cut) f.totals.1));
    }

-- All regions

pub each_balanced : (rs rs' : List Region) (own : ℕ) → length rs' ≡ length rs → ((i m : ℕ) (r t : Region) → slice_get rs i ≡ Some r → slice_get rs' i ≡ Some t → IsBalanced m r → IsBalanced m t) → AreBalanced rs own → AreBalanced rs' own
each_balanced rs rs' own len step b =
    record {
      own_of = b.own_of;
      each = λ i t at.
          elim (both_there rs rs' len i) [
            | inl m ↦ step i (b.own_of i) m.0 t m.2 at (b.each i m.0 m.2)
            | inr m ↦ absurd (none-some t (sym m.1 ∙ at))
          ];
      all = ap (total_of b.own_of) len ∙ b.all;
    }

pub one_balanced : (rs rs' : List Region) (i : ℕ) (r t : Region) (own : ℕ) → IsOne rs rs' i r t → ((m : ℕ) → IsBalanced m r → IsBalanced m t) → AreBalanced rs own → AreBalanced rs' own
one_balanced rs rs' i r t own one step b =
    record {
      own_of = b.own_of;
      each = λ k u at.
          elim (eqb_tells k i) [
            | inl p ↦
                let is : t ≡ u = same_Some t u (sym one.new_at ∙ (ap (slice_get rs') (sym p.1) ∙ at)) in
                subst (IsBalanced (b.own_of k)) is (step (b.own_of k) (b.each k r (ap (slice_get rs) p.1 ∙ one.old_at)))
            | inr p ↦ b.each k u (sym (one.others k p.1) ∙ at)
          ];
      all = ap (total_of b.own_of) one.len ∙ b.all;
    }

pub two_balanced : (rs rs' : List Region) (j i : ℕ) (f t f' t' : Region) (own : ℕ) → IsTwo rs rs' j i f t f' t' → ((m : ℕ) → IsBalanced m f → IsBalanced m f') → ((m : ℕ) → IsBalanced m t → IsBalanced m t') → AreBalanced rs own → AreBalanced rs' own
two_balanced rs rs' j i f t f' t' own two first second b =
    record {
      own_of = b.own_of;
      each = λ k u at.
          elim (eqb_tells k j) [
            | inl p ↦
                let is : f' ≡ u = same_Some f' u (sym two.new_from ∙ (ap (slice_get rs') (sym p.1) ∙ at)) in
                subst (IsBalanced (b.own_of k)) is (first (b.own_of k) (b.each k f (ap (slice_get rs) p.1 ∙ two.old_from)))
            | inr p ↦ elim (eqb_tells k i) [
              | inl q ↦
                  let is : t' ≡ u = same_Some t' u (sym two.new_to ∙ (ap (slice_get rs') (sym q.1) ∙ at)) in
                  subst (IsBalanced (b.own_of k)) is (second (b.own_of k) (b.each k t (ap (slice_get rs) q.1 ∙ two.old_to)))
              | inr q ↦ b.each k u (sym (two.others k p.1 q.1) ∙ at)
            ]
          ];
      all = ap (total_of b.own_of) two.len ∙ b.all;
    }

-- numbers together

total_none : (n : ℕ) → total_of (λ _. 0) n ≡ 0
total_none zero = refl
total_none (suc n) = omega (arith, total_none n)

total_both : (f g : ℕ → ℕ) (n : ℕ) → total_of (λ i. f i + g i) n ≡ total_of f n + total_of g n
total_both f g zero = refl
total_both f g (suc n) = omega (arith, total_both (λ i. f (suc i)) (λ i. g (suc i)) n)

total_lists : (lists : List (List Event)) → total_of (λ i. length (slice_index_or lists i [])) (length lists) ≡ length (all_events lists)
total_lists [] = refl
total_lists (l ∷ lists) = omega (arith, total_lists lists, length-append l (all_events lists))

pub first_balanced : (rs : List Region) → ((i : ℕ) (r : Region) → slice_get rs i ≡ Some r → (r.totals ≡ no_totals) × ((part_of r).timeline ≡ [])) → AreBalanced rs 0
first_balanced rs first =
    record {
      own_of = λ _. 0;
      each = λ i r at.
          let f = first i r at in
          record { is = λ low. sym (λ e. (sym f.0 e).added) ∙ sym (λ e. (f.0 e).cut + length (f.1 e) + (f.0 e).forgotten + 0) };
      all = total_none (length rs);
    }

pub forgot_balanced : (key : Key) (rs rs' : List Region) (lists : List (List Event)) (own : ℕ) → AreOwnBelow key rs (length rs) lists → ChangesEach (Forgets key) rs rs'
    → ((i m : ℕ) (r t : Region) → slice_get rs i ≡ Some r → IsOwnBelow key r (slice_index_or lists i []) → Forgets key r t → IsBalanced m r → IsBalanced (m + length (slice_index_or lists i [])) t) → AreBalanced rs own
    → AreBalanced rs' (own + length (all_events lists))
forgot_balanced key rs rs' lists own owned c step b =
    record {
      own_of = λ i. b.own_of i + length (slice_index_or lists i []);
      each = λ i t at.
          elim (both_there rs rs' c.len i) [
            | inl m ↦
                let inside = slice_get_within rs i m.0 m.2 in
                step i (b.own_of i) m.0 t m.2 (subst (λ r. IsOwnBelow key r (slice_index_or lists i [])) (Rattle.std.proofs.lemmas.Option.get_or_from_slice_get rs i m.0 m.0 m.2) (owned.each i m.0 inside))
                (each_changed (Forgets key) rs rs' c i m.0 t m.2 at) (b.each i m.0 m.2)
            | inr m ↦ absurd (none-some t (sym m.1 ∙ at))
          ];
      all =
          ap (total_of (λ i. b.own_of i + length (slice_index_or lists i []))) c.len
          ∙ (total_both b.own_of (λ i. length (slice_index_or lists i [])) (length rs) ∙ omega (arith, b.all, total_lists lists, ap (total_of (λ i. length (slice_index_or lists i []))) owned.len));
    }

-- What regions without entries account for: the entries added are those cut, the received ones forgotten, and the own ones forgotten.
pub all_accounted : (rs : List Region) (own : ℕ → ℕ) → ((i : ℕ) (r : Region) → slice_get rs i ≡ Some r → IsBalanced (own i) r × ((part_of r).timeline ≡ [])) → added_in_all rs < 18446744073709551615
    → added_in_all rs ≡ cut_in_all rs + forgotten_in_all rs + total_of own (length rs)
all_accounted [] own each low = refl
all_accounted (r ∷ rs) own each low =
    let here = each 0 r refl in
    let none : length (part_of r).timeline ≡ 0 = ap (λ (l : List Event). length l) here.1 in
    let one : r.totals.added ≡ r.totals.cut + length (part_of r).timeline + r.totals.forgotten + own 0 = here.0.is (omega (arith, low)) in
    let rest : added_in_all rs ≡ cut_in_all rs + forgotten_in_all rs + total_of (λ i. own (suc i)) (length rs) = all_accounted rs (λ i. own (suc i)) (λ i s at. each (suc i) s at) (omega (arith, low)) in
    omega (arith, none, one, rest, low)

-- the events below a key, and from there on those below a later one
pub handed_length : (a b : Key) (es : List Event) → a is_upto b → length (below a es) + length (from a (below b es)) ≡ length (below b es)
handed_length a b es h = omega (arith, parted_length (λ j. is_before j a) (below b es), ap (λ (l : List Event). length l) (below_below a b es h))

-- no key is from a key on and below one that is no later
pub nothing_between : (floor clock : Key) (es : List Event) → clock is_upto floor → AllKeys (λ k. (floor is_upto k) × (k is_below clock)) es → es ≡ []
nothing_between floor clock [] h all = refl
nothing_between floor clock (e ∷ es) h all = absurd (lt_not_le (key_of e) floor (Rattle.surf_kinds.proofs.Order.lt_le (key_of e) clock floor all.0.1 h) all.0.0)
