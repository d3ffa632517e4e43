use Rattle.std.proofs.Common.{rules}
use Rattle.std.proofs.lemmas.List.Sorted.{IsPartitionPoint-from_clause}
use Rattle.surf_kinds.specs.Keys.{is_before}
use Rattle.surf_kinds.proofs.Rising.{rises}
use Rattle.timeline.specs.declared.entry.Entry.{Entry}
use Rattle.timeline.specs.TimelineView.{events_of, entry_key}
use Rattle.region_run.proofs.Searching.{entry_parts, from_point}
use Rattle.region_run.proofs.choice.count_before.Goals as goal

pub returns : goal.returns
returns c =
    let key = c.args.key in
    let es = c.args.entries.now in
    from_point key es c.partition_point.result (IsPartitionPoint-from_clause (λ (e : Entry). is_before (entry_key e) key) _ _ c.partition_point.ensures.partitioned (entry_parts key es (rises (events_of es) c.requires)) (λ a r q k. search rules))
