use Rattle.border.proofs.Replays.{rise_replay, replay_append}
use Rattle.border.proofs.laws.messages_are_replayed_in_order.Goals as goal

pub returns-clause-parts : goal.returns-clause-parts
returns-clause-parts c = replay_append

pub returns-clause-rising : goal.returns-clause-rising
returns-clause-rising c = rise_replay
