use Rattle.std.proofs.Common.{◌≡◌, sym, arith, rules, true, false}
use Rattle.std.specs.List.Sorted.{IsPartitionPoint}
use Rattle.std.proofs.lemmas.List.Sorted.{IsPartitionPoint-from_clause}
use Rattle.surf_kinds.specs.declared.event.Event.{Event}
use Rattle.surf_kinds.specs.Keys.{is_before, key_of}
use Rattle.surf_kinds.proofs.Rising.{rises}
use Rattle.region_run.proofs.Searching.{parts, first_at, first_none}
use Rattle.region_run.proofs.choice.first_from.Goals as goal

pub returns-then-at-stack : goal.returns-then-at-stack
returns-then-at-stack c =
    let key = c.args.clock in
    let es = c.args.stack.now in
    let point : IsPartitionPoint (λ (e : Event). is_before (key_of e) key ≡ true) (λ (e : Event). is_before (key_of e) key ≡ false) es c.partition_point-at.result =
    IsPartitionPoint-from_clause (λ (e : Event). is_before (key_of e) key) _ _ c.partition_point-at.ensures.partitioned (parts key es (rises es c.requires)) (λ a r q k. search rules) in
    sym (first_at key es c.partition_point-at.result _ (λ j h. point.0 j _ (omega arith) h) c.if-at-stack.true (point.1 c.partition_point-at.result _ (omega arith) c.if-at-stack.true))

pub returns-else-at-stack : goal.returns-else-at-stack
returns-else-at-stack c =
    let key = c.args.clock in
    let es = c.args.stack.now in
    let point : IsPartitionPoint (λ (e : Event). is_before (key_of e) key ≡ true) (λ (e : Event). is_before (key_of e) key ≡ false) es c.partition_point-at.result =
    IsPartitionPoint-from_clause (λ (e : Event). is_before (key_of e) key) _ _ c.partition_point-at.ensures.partitioned (parts key es (rises es c.requires)) (λ a r q k. search rules) in
    let none : Event = record { time = 0; place = record { 0 = 0 }; channel = 0 } in
    sym (first_none key es none (λ j h. point.0 j none (omega arith) (omega (arith, h, c.if-at-stack.false))))
