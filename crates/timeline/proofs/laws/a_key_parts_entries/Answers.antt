use Rattle.timeline.proofs.Rising.{parts}
use Rattle.timeline.proofs.laws.a_key_parts_entries.Goals as goal

pub returns : goal.returns
returns c = parts
