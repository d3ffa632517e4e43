use Rattle.event_queue.proofs.Orders.{first_of_eight_by}
use Rattle.event_queue.proofs.tournament.first_of_eight.Goals as goal

pub returns-clause-first : goal.returns-clause-first
returns-clause-first c =
    first_of_eight_by c.args.nodes.now c.args.start c.first_of_four-low.result c.first_of_four-high.result c.lesser.result
    c.first_of_four-low.ensures.first c.first_of_four-high.ensures.first c.lesser.ensures.not_i c.lesser.ensures.not_j
