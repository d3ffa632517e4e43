use Rattle.event_queue.proofs.Orders.{first_of_four_by}
use Rattle.event_queue.proofs.tournament.first_of_four.Goals as goal

pub returns-clause-first : goal.returns-clause-first
returns-clause-first c =
    first_of_four_by c.args.nodes.now c.args.start c.lesser-low.result c.lesser-high.result c.lesser.result
    c.lesser-low.ensures.not_i c.lesser-low.ensures.not_j c.lesser-high.ensures.not_i c.lesser-high.ensures.not_j c.lesser.ensures.not_i c.lesser.ensures.not_j
