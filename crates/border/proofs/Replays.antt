-- Messages that are replayed.
use Rattle.std.proofs.Common.{◌≡◌, List, [], ◌∷◌, ◌++◌, refl, sym, ap, ◌∙◌, append-nil}
use Rattle.std.specs.Prelude.{not}
use Rattle.std.proofs.lemmas.Bool.{not_from_false}
use Rattle.surf_kinds.specs.declared.event.Key.{Key}
use Rattle.surf_kinds.specs.declared.event.Event.{Event}
use Rattle.surf_kinds.specs.Keys.{is_before, key_of, below, from, ◌is_upto◌, RiseStrictly}
use Rattle.surf_kinds.proofs.Tables.{AllKeys_kept, below_below, keep_all, keep_append, keep_no, keep_swap, keep_yes}
use Rattle.border.specs.declared.op.Op.{Op}
use Rattle.border.specs.declared.op.Op.TheVariants.{Put, Back}
use Rattle.border.specs.Messages.{op_key, replay_one, replay, AllOpsFrom}
use Rattle.border.proofs.Cutting.{rise-below, rise-put}

pub rise_replay_one : (stack : List Event) (op : Op) → RiseStrictly stack → RiseStrictly (replay_one stack op)
rise_replay_one stack (Put e) r = rise-put e stack r
rise_replay_one stack (Back k) r = rise-below k stack r

pub rise_replay : (stack : List Event) (ops : List Op) → RiseStrictly stack → RiseStrictly (replay stack ops)
rise_replay stack [] r = r
rise_replay stack (op ∷ ops) r = rise_replay (replay_one stack op) ops (rise_replay_one stack op r)

pub replay_append : (stack : List Event) (xs ys : List Op) → replay stack (xs ++ ys) ≡ replay (replay stack xs) ys
replay_append stack [] ys = refl
replay_append stack (x ∷ xs) ys = replay_append (replay_one stack x) xs ys

below_from : (a k : Key) (es : List Event) → from k (below a es) ≡ below a (from k es)
below_from a k es = keep_swap (λ j. not (is_before j k)) (λ j. is_before j a) es

-- what a message leaves from a key on depends on what lies from it on alone
from_put : (k : Key) (stack : List Event) (e : Event) → from k (replay_one stack (Put e)) ≡ below (key_of e) (from k stack) ++ from k (e ∷ [])
from_put k stack e =
    keep_append (λ j. not (is_before j k)) (below (key_of e) stack) (e ∷ []) ∙ ap (λ l. l ++ from k (e ∷ [])) (below_from (key_of e) k stack)

from_alike_one : (k : Key) (s t : List Event) (op : Op) → from k s ≡ from k t → from k (replay_one s op) ≡ from k (replay_one t op)
from_alike_one k s t (Put e) h = from_put k s e ∙ (ap (λ l. below (key_of e) l ++ from k (e ∷ [])) h ∙ sym (from_put k t e))
from_alike_one k s t (Back j) h = below_from j k s ∙ (ap (below j) h ∙ sym (below_from j k t))

from_alike : (k : Key) (s t : List Event) (ops : List Op) → from k s ≡ from k t → from k (replay s ops) ≡ from k (replay t ops)
from_alike k s t [] h = h
from_alike k s t (op ∷ ops) h = from_alike k (replay_one s op) (replay_one t op) ops (from_alike_one k s t op h)

-- a stack may forget what lies below a key before messages are replayed
pub from_forgotten : (k : Key) (stack : List Event) (ops : List Op) → from k (replay (from k stack) ops) ≡ from k (replay stack ops)
from_forgotten k stack ops =
    from_alike k (from k stack) stack ops (keep_all (λ j. not (is_before j k)) (from k stack) (AllKeys_kept (λ j. not (is_before j k)) stack))

from_replay_one : (k : Key) (stack : List Event) (op : Op) → k is_upto op_key op → from k (replay_one stack op) ≡ replay_one (from k stack) op
from_replay_one k stack (Put e) h =
    from_put k stack e ∙ ap (λ l. below (key_of e) (from k stack) ++ l) (keep_yes (λ j. not (is_before j k)) e [] (not_from_false (is_before (key_of e) k) h))
from_replay_one k stack (Back j) h = below_from j k stack

-- messages from a key on do the same to what lies from it on
pub from_replay : (k : Key) (stack : List Event) (ops : List Op) → AllOpsFrom k ops → from k (replay stack ops) ≡ replay (from k stack) ops
from_replay k stack [] h = refl
from_replay k stack (op ∷ ops) h = from_replay k (replay_one stack op) ops h.1 ∙ ap (λ s. replay s ops) (from_replay_one k stack op h.0)

below_replay_one : (k : Key) (stack : List Event) (op : Op) → k is_upto op_key op → below k (replay_one stack op) ≡ below k stack
below_replay_one k stack (Put e) h =
    keep_append (λ j. is_before j k) (below (key_of e) stack) (e ∷ [])
    ∙ (ap (λ l. below k (below (key_of e) stack) ++ l) (keep_no (λ j. is_before j k) e [] h)
    ∙ (append-nil (below k (below (key_of e) stack)) ∙ below_below k (key_of e) stack h))
below_replay_one k stack (Back j) h = below_below k j stack h

-- and leave what lies below it
pub below_replay : (k : Key) (stack : List Event) (ops : List Op) → AllOpsFrom k ops → below k (replay stack ops) ≡ below k stack
below_replay k stack [] h = refl
below_replay k stack (op ∷ ops) h = below_replay k (replay_one stack op) ops h.1 ∙ below_replay_one k stack op h.0
