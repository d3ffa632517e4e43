use Rattle.std.proofs.Common.{◌≡◌, ◌+◌, ◌<◌, ◌≤◌, ℕ, None, slice_index_or}
use Rattle.next_events.specs.Entries.{CoversRange, IsUpToDate}
use Rattle.next_events.proofs.entries.queue_of.Given as goal

abbrev pub invariant-loop-number : goal.invariant-loop-number
invariant-loop-number l = record {
  covers : CoversRange l.fn.range l.queue;
  low : l.fn.range.first ≤ l.number;
  entries : (k : ℕ) → l.fn.range.first ≤ k → k < l.number → IsUpToDate l.plan l.surface.sites l.queue k;
  empty : (k : ℕ) → l.number ≤ l.fn.range.first + k → slice_index_or l.queue.events k None ≡ None;
}
