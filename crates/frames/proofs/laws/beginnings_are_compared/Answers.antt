use Rattle.frames.proofs.Prefixes.{prefix_shorter, prefix_whole, prefix_trans}
use Rattle.frames.proofs.laws.beginnings_are_compared.Goals as goal

pub returns-clause-shorter : goal.returns-clause-shorter
returns-clause-shorter c = prefix_shorter

pub returns-clause-whole : goal.returns-clause-whole
returns-clause-whole c = prefix_whole

pub returns-clause-transitive : goal.returns-clause-transitive
returns-clause-transitive c = prefix_trans
