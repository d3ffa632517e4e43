use Rattle.surf_outside.proofs.Gains.{appends_more, prefix_more, prefix_longer, prefix_whole}
use Rattle.surf_outside.proofs.laws.gains_add_up.Goals as goal

pub returns-clause-more : goal.returns-clause-more
returns-clause-more c = appends_more

pub returns-clause-prefix : goal.returns-clause-prefix
returns-clause-prefix c = prefix_more

pub returns-clause-longer : goal.returns-clause-longer
returns-clause-longer c = prefix_longer

pub returns-clause-whole : goal.returns-clause-whole
returns-clause-whole c = prefix_whole
