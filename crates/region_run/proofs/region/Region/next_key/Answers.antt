use Rattle.std.proofs.Common.{sym, inl}
use Rattle.region_run.proofs.region.Region.next_key.Goals as goal

pub returns-in-Some : goal.returns-in-Some
returns-in-Some c n b x g = inl (c.in-Some.event, c.in-Some.ensures.some n b x g, sym c.key.ensures)
