-- Parts of a list below a key and from a key on, merged lists, and replays.
use Rattle.std.proofs.Common.{◌≡◌, true, false, List, [], ◌∷◌, ◌++◌, Some, None, inl, inr, refl, sym, ap, ◌∙◌, subst, cond}
use Rattle.std.specs.Prelude.{not}
use Rattle.std.proofs.lemmas.Bool.{cases_Bool, not_from_true, not_from_false, not-true}
use Rattle.std.proofs.lemmas.Option.{none-some}
use Rattle.surf_kinds.specs.declared.event.Key.{Key}
use Rattle.surf_kinds.specs.declared.event.Event.{Event}
use Rattle.border.specs.declared.op.Op.{Op}
use Rattle.surf_kinds.specs.Keys.{is_before, same_key, key_of, ◌is_below◌, ◌is_upto◌, at, keep, below, from, AllKeys, IsRising}
use Rattle.border.specs.Messages.{replay, replay_one, op_key, AllOpsFrom}
use Rattle.border.proofs.LawLemmas.{rise_replay, below_replay}
use Rattle.warp_core.specs.Steps.{with_event, with_events}
use Rattle.surf_kinds.proofs.Order.{lt_to_le, le_refl, key_cases, same_is, not_same_below}
use Rattle.surf_kinds.proofs.Rising.{strictly, rises}
use Rattle.surf_kinds.proofs.Tables.{at_keep_yes, at_keep_no, AllKeys_weaker, AllKeys_kept, IsRising_keep, IsRising_append, at_append_left, at_append_right, same_tables, keep_swap, keep_all, keep_none}
-- the lower of two bounds counts
pub use Rattle.surf_kinds.proofs.Tables.{below_below}

pub at_below : (k j : Key) (es : List Event) → j is_below k → at j (below k es) ≡ at j es
at_below k j es h = at_keep_yes (λ i. is_before i k) j es h

pub at_below_none : (k j : Key) (es : List Event) → k is_upto j → at j (below k es) ≡ None
at_below_none k j es h = at_keep_no (λ i. is_before i k) j es h

pub at_from : (k j : Key) (es : List Event) → k is_upto j → at j (from k es) ≡ at j es
at_from k j es h = at_keep_yes (λ i. not (is_before i k)) j es (not_from_false (is_before j k) h)

pub at_from_none : (k j : Key) (es : List Event) → j is_below k → at j (from k es) ≡ None
at_from_none k j es h = at_keep_no (λ i. not (is_before i k)) j es (not_from_true (is_before j k) h)

pub below_all : (k : Key) (es : List Event) → AllKeys (λ j. j is_below k) es → below k es ≡ es
below_all k es a = keep_all (λ j. is_before j k) es a

pub below_none : (k : Key) (es : List Event) → AllKeys (λ j. k is_upto j) es → below k es ≡ []
below_none k es a = keep_none (λ j. is_before j k) es a

pub from_all : (k : Key) (es : List Event) → AllKeys (λ j. k is_upto j) es → from k es ≡ es
from_all k es a = keep_all (λ j. not (is_before j k)) es (AllKeys_weaker (λ j. k is_upto j) (λ j. not (is_before j k) ≡ true) (λ j. not_from_false (is_before j k)) es a)

pub from_none : (k : Key) (es : List Event) → AllKeys (λ j. j is_below k) es → from k es ≡ []
from_none k es a = keep_none (λ j. not (is_before j k)) es (AllKeys_weaker (λ j. j is_below k) (λ j. not (is_before j k) ≡ false) (λ j. not_from_true (is_before j k)) es a)

pub AllKeys_below : (k : Key) (es : List Event) → AllKeys (λ j. j is_below k) (below k es)
AllKeys_below k es = AllKeys_kept (λ j. is_before j k) es

pub AllKeys_from : (k : Key) (es : List Event) → AllKeys (λ j. k is_upto j) (from k es)
AllKeys_from k es = AllKeys_weaker (λ j. not (is_before j k) ≡ true) (λ j. k is_upto j) (λ j. not-true (is_before j k)) (from k es) (AllKeys_kept (λ j. not (is_before j k)) es)

-- a list that rises is what lies below a key and then what lies from it on
pub halves : (k : Key) (es : List Event) → IsRising es → below k es ++ from k es ≡ es
halves k es r =
    same_tables (below k es ++ from k es) es
    (IsRising_append k (below k es) (from k es) (IsRising_keep (λ j. is_before j k) es r) (IsRising_keep (λ j. not (is_before j k)) es r) (AllKeys_below k es) (AllKeys_from k es)) r
    (λ j. elim (key_cases j k) [
      | inl h ↦ at_append_left j (below k es) (from k es) (at_from_none k j es h) ∙ at_below k j es h
      | inr h ↦ at_append_right j (below k es) (from k es) (at_below_none k j es h) ∙ at_from k j es h
    ])

-- from a key on, below a later one
pub below_from : (a b : Key) (es : List Event) → below a (from b es) ≡ from b (below a es)
below_from a b es = keep_swap (λ j. is_before j a) (λ j. not (is_before j b)) es

-- an event at its place
pub IsRising_put : (e : Event) (es : List Event) → IsRising es → IsRising (with_event e es)
IsRising_put e es r =
    let k = key_of e in
    IsRising_append k (below k es) (e ∷ keep (λ j. is_before k j) es) (IsRising_keep (λ j. is_before j k) es r)
    (AllKeys_kept (λ j. is_before k j) es, IsRising_keep (λ j. is_before k j) es r)
    (AllKeys_below k es)
    (le_refl k, AllKeys_weaker (λ j. k is_below j) (λ j. k is_upto j) (λ j. lt_to_le k j) (keep (λ j. is_before k j) es) (AllKeys_kept (λ j. is_before k j) es))

pub at_put_same : (e : Event) (es : List Event) (k : Key) → same_key (key_of e) k ≡ true → at k (with_event e es) ≡ Some e
at_put_same e es k h =
    let is : key_of e ≡ k = same_is (key_of e) k h in
    at_append_right k (below (key_of e) es) _ (at_below_none (key_of e) k es (subst (λ j. key_of e is_upto j) is (le_refl (key_of e))))
    ∙ ap (λ b. cond b (Some e) (at k (keep (λ j. is_before (key_of e) j) es))) h

pub at_put_other : (e : Event) (es : List Event) (k : Key) → same_key (key_of e) k ≡ false → at k (with_event e es) ≡ at k es
at_put_other e es k h =
    let rest = keep (λ j. is_before (key_of e) j) es in
    let skip : at k (e ∷ rest) ≡ at k rest = ap (λ b. cond b (Some e) (at k rest)) h in
    elim (key_cases k (key_of e)) [
      | inl l ↦
          let none : at k rest ≡ None = at_keep_no (λ j. is_before (key_of e) j) k es (lt_to_le k (key_of e) l) in
          at_append_left k (below (key_of e) es) (e ∷ rest) (skip ∙ none) ∙ at_below (key_of e) k es l
      | inr l ↦
          at_append_right k (below (key_of e) es) (e ∷ rest) (at_below_none (key_of e) k es l)
          ∙ (skip ∙ at_keep_yes (λ j. is_before (key_of e) j) k es (not_same_below (key_of e) k h l))
    ]

pub IsRising_put_all : (es fs : List Event) → IsRising fs → IsRising (with_events es fs)
IsRising_put_all [] fs r = r
IsRising_put_all (e ∷ es) fs r = IsRising_put e (with_events es fs) (IsRising_put_all es fs r)

pub at_put_all_none : (es fs : List Event) (k : Key) → at k es ≡ None → at k (with_events es fs) ≡ at k fs
at_put_all_none [] fs k h = refl
at_put_all_none (e ∷ es) fs k h =
    elim (cases_Bool (same_key (key_of e) k)) [
      | inl p ↦ absurd (none-some e (sym h ∙ ap (λ b. cond b (Some e) (at k es)) p))
      | inr p ↦ at_put_other e (with_events es fs) k p ∙ at_put_all_none es fs k (sym (ap (λ b. cond b (Some e) (at k es)) p) ∙ h)
    ]

pub at_put_all_some : (es fs : List Event) (k : Key) (x : Event) → at k es ≡ Some x → at k (with_events es fs) ≡ Some x
at_put_all_some [] fs k x h = absurd (none-some x h)
at_put_all_some (e ∷ es) fs k x h =
    elim (cases_Bool (same_key (key_of e) k)) [
      | inl p ↦ at_put_same e (with_events es fs) k p ∙ (sym (ap (λ b. cond b (Some e) (at k es)) p) ∙ h)
      | inr p ↦ at_put_other e (with_events es fs) k p ∙ at_put_all_some es fs k x (sym (ap (λ b. cond b (Some e) (at k es)) p) ∙ h)
    ]

-- replays, of one message and below a key
pub below_replay_one : (k : Key) (stack : List Event) (op : Op) → k is_upto op_key op → below k (replay_one stack op) ≡ below k stack
below_replay_one k stack op h = below_replay k stack (op ∷ []) (h, tt)

pub at_replay : (k j : Key) (stack : List Event) (ops : List Op) → AllOpsFrom k ops → j is_below k → at j (replay stack ops) ≡ at j stack
at_replay k j stack ops h l = sym (at_below k j (replay stack ops) l) ∙ (ap (at j) (below_replay k stack ops h) ∙ at_below k j stack l)

pub IsRising_replay_one : (stack : List Event) (op : Op) → IsRising stack → IsRising (replay_one stack op)
IsRising_replay_one stack op r = rises (replay_one stack op) (rise_replay stack (op ∷ []) (strictly stack r))
