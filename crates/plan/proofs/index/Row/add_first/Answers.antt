use Rattle.std.proofs.Common.{◌∷◌, ◌++◌, [], ap, ◌∙◌, refl}
use Rattle.std.specs.List.{insert}
use Rattle.plan.specs.Index.{listed}
use Rattle.plan.proofs.Listed.{put_first, row_added}
use Rattle.plan.proofs.index.Row.add_first.Goals as goal

pub returns-clause-added : goal.returns-clause-added
returns-clause-added c =
    let r = c.args.self.now in
    row_added r (record { alone = r.alone; seconds = c.insert-2.new.self; pairs = c.insert.new.self }) c.args.second c.args.channel refl
    (λ q.
    ap (λ ks. listed ks c.insert.new.self.items q) c.in_ok-insert-2.ensures.items
    ∙ ap (λ vs. listed (insert r.seconds.items c.args.k c.args.second) vs q) c.in_ok-insert.ensures.items
    ∙ put_first r c.requires.row c.args.k c.args.second c.push.new.self c.args.channel c.requires.place (c.in_ok-push.ensures.items ∙ ap (λ xs. xs ++ c.args.channel ∷ []) c.new-list.ensures.items) q)
