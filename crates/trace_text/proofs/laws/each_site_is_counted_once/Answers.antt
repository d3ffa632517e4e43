use Rattle.trace_text.proofs.Counted.{sum-counts_of}
use Rattle.trace_text.proofs.laws.each_site_is_counted_once.Goals as goal

pub returns : goal.returns
returns c = sum-counts_of
