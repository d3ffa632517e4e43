use Rattle.std.proofs.Common.{ap, subst, List}
use mathlib.Core.List.{IsPrefix}
use Rattle.frames.specs.declared.sample.Change.{Change}
use Rattle.frames.proofs.Prefixes.{prefix_shorter}
use Rattle.frames.proofs.change_log.compare.Goals as goal

pub returns-clause-this : goal.returns-clause-this
returns-clause-this c less =
    let both = c.learn.new.self.log in
    let this : IsPrefix c.args.one.now.log both = subst (λ (l : List Change). IsPrefix l both) (ap (λ s. s.log) c.again-both.ensures) c.learn.ensures.2 in
    prefix_shorter c.args.one.now.log c.args.other.now.log both this c.learn.ensures.3 less

pub returns-clause-that : goal.returns-clause-that
returns-clause-that c less =
    let both = c.learn.new.self.log in
    let this : IsPrefix c.args.one.now.log both = subst (λ (l : List Change). IsPrefix l both) (ap (λ s. s.log) c.again-both.ensures) c.learn.ensures.2 in
    prefix_shorter c.args.other.now.log c.args.one.now.log both c.learn.ensures.3 this less
