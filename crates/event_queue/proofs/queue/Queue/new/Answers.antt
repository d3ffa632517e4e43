use Rattle.std.proofs.Common.{◌+◌, ◌*◌, ◌/◌}
use Rattle.event_queue.proofs.Halves.{seen_new}
use Rattle.event_queue.proofs.queue.Queue.new.Goals as goal

pub returns : goal.returns
returns c = rw (c.in_ok-low.ensures, c.in_ok-high.ensures) (seen_new c.args.first.0 c.args.count ((c.args.count + 7) / 8 * 4))
