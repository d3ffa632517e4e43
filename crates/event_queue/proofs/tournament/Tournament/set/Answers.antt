use Rattle.std.proofs.Common.{◌≡◌, ◌∙◌, ◌<◌, ◌+◌, ◌*◌, arith, ap, set, sym, length}
use Rattle.std.specs.Prelude.{vec_capacity}
use Rattle.std.specs.Vec.{with_item}
use Rattle.std.proofs.lemmas.List.{set-get_or, with_items_is}
use Rattle.event_queue.specs.Tournament.{nothing}
use Rattle.event_queue.proofs.Orders.{same_entry}
use Rattle.event_queue.proofs.Leaves.{in_view, view_at, leaf_here, leaf_ordered, risen_leaves, risen_sound}
use Rattle.event_queue.proofs.tournament.Tournament.set.Goals as goal

pub overflow_add-at : goal.overflow_add-at
overflow_add-at c =
    let t = c.self.inside in
    let i = c.self.invariant in
    let within : c.args.number < t.count = in_view t.nodes.items t.inner_end t.count c.args.number c.args.self.now c.self.view_is c.requires in
    omega (arith, within, i.few, i.enough)

pub index_mut-requires : goal.index_mut-requires
index_mut-requires c =
    let t = c.self.inside in
    let i = c.self.invariant in
    let within : c.args.number < t.count = in_view t.nodes.items t.inner_end t.count c.args.number c.args.self.now c.self.view_is c.requires in
    omega (arith, within, i.enough, c.first_below.ensures, c.make.ensures.len)

pub rise-requires-clause-within : goal.rise-requires-clause-within
rise-requires-clause-within c =
    let t = c.self.inside in
    let i = c.self.invariant in
    let within : c.args.number < t.count = in_view t.nodes.items t.inner_end t.count c.args.number c.args.self.now c.self.view_is c.requires in
    omega (arith, within, i.enough, c.first_below.ensures, c.make.ensures.len, c.deref_mut.ensures.len)

pub rise-requires-clause-written : goal.rise-requires-clause-written
rise-requires-clause-written c =
    let t = c.self.inside in
    let i = c.self.invariant in
    let n = c.args.number in
    let made = c.make.new.nodes.items in
    let within : n < t.count = in_view t.nodes.items t.inner_end t.count n c.args.self.now c.self.view_is c.requires in
    let full : length made + 41 ≡ 8 * t.inner_end = omega (arith, c.first_below.ensures, c.make.ensures.len) in
    leaf_here t.nodes.items made c.deref_mut.result.now (vec_capacity t.nodes) t.inner_end t.count n c.args.entry i c.make.ensures.same full within c.deref_mut.ensures.value

pub rise-requires-clause-ordered : goal.rise-requires-clause-ordered
rise-requires-clause-ordered c =
    let t = c.self.inside in
    let i = c.self.invariant in
    let n = c.args.number in
    let made = c.make.new.nodes.items in
    let within : n < t.count = in_view t.nodes.items t.inner_end t.count n c.args.self.now c.self.view_is c.requires in
    let full : length made + 41 ≡ 8 * t.inner_end = omega (arith, c.first_below.ensures, c.make.ensures.len) in
    let at = t.inner_end + n in
    let old = c.get-old.ensures ∙ sym (c.make.ensures.same at ∙ view_at t.nodes.items t.inner_end t.count n c.args.self.now c.self.view_is c.requires) in
    leaf_ordered t.nodes.items made c.deref_mut.result.now (vec_capacity t.nodes) t.inner_end t.count n c.args.entry i c.make.ensures.same full within c.deref_mut.ensures.value c.get-old.result old

pub invariant_of-self : goal.invariant_of-self
invariant_of-self c =
    let t = c.self.inside in
    let i = c.self.invariant in
    let n = c.args.number in
    let made = c.make.new.nodes.items in
    let within : n < t.count = in_view t.nodes.items t.inner_end t.count n c.args.self.now c.self.view_is c.requires in
    let full : length made + 41 ≡ 8 * t.inner_end = omega (arith, c.first_below.ensures, c.make.ensures.len) in
    let r = c.rise in
    let long : length r.new.nodes ≡ c.make.new.nodes.len = r.auto.nodes ∙ c.deref_mut.ensures.len in
    rw (with_items_is (with_item c.make.new.nodes (t.inner_end + n) c.args.entry) r.new.nodes long)
    (risen_sound t.nodes.items made c.deref_mut.result.now (vec_capacity t.nodes) t.inner_end t.count n c.args.entry i c.make.ensures.same full within c.deref_mut.ensures.value r.new.nodes c.make.new.nodes.cap r.auto.nodes r.ensures.ordered r.ensures.leaves (omega (arith, i.room_for_all, c.make.ensures.capacity)))

pub returns : goal.returns
returns c =
    let t = c.self.inside in
    let i = c.self.invariant in
    let n = c.args.number in
    let made = c.make.new.nodes.items in
    let within : n < t.count = in_view t.nodes.items t.inner_end t.count n c.args.self.now c.self.view_is c.requires in
    let full : length made + 41 ≡ 8 * t.inner_end = omega (arith, c.first_below.ensures, c.make.ensures.len) in
    let r = c.rise in
    let long : length r.new.nodes ≡ c.make.new.nodes.len = r.auto.nodes ∙ c.deref_mut.ensures.len in
    rw (with_items_is (with_item c.make.new.nodes (t.inner_end + n) c.args.entry) r.new.nodes long)
    (risen_leaves t.nodes.items made c.deref_mut.result.now (vec_capacity t.nodes) t.inner_end t.count n c.args.entry i c.make.ensures.same full within c.deref_mut.ensures.value r.new.nodes c.make.new.nodes.cap r.auto.nodes r.ensures.ordered r.ensures.leaves (omega (arith, i.room_for_all, c.make.ensures.capacity)) c.args.self.now c.self.view_is)

pub returns-then-eq : goal.returns-then-eq
returns-then-eq c =
    let same = same_entry c.get-old.result c.args.entry (sym c.eq.ensures ∙ c.if-eq.true) in
    sym (ap (λ x. set c.args.self.now c.args.number x) (sym same ∙ c.get-old.ensures) ∙ set-get_or c.args.self.now c.args.number nothing)
