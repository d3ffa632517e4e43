use Rattle.next_events.proofs.Refreshing.{up_to_date_after}
use Rattle.next_events.proofs.laws.refreshed_is_up_to_date.Goals as goal

pub returns : goal.returns
returns c = up_to_date_after
