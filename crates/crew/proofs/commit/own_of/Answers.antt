use Rattle.std.proofs.Common.{◌≡◌, ◌++◌, subst}
use Rattle.surf_kinds.specs.Keys.{keep, below}
use Rattle.region_run.specs.Regions.{part_of, is_own_key}
use Rattle.crew.proofs.commit.own_of.Goals as goal

pub returns : goal.returns
returns c = record {
  is = λ n b until x g. subst (λ l. c.own_below.new.out.items ≡ l ++ keep (is_own_key b c.args.region.now.id) (below c.args.key (part_of c.args.region.now).timeline)) c.new-own.ensures.items (c.in_ok-own_below.ensures.ok n b until x g);
}
