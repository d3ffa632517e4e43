use Rattle.std.proofs.Common.{rules}
use Rattle.std.specs.Prelude.{not}
use Rattle.std.proofs.lemmas.Fn.{filter_same}
use Rattle.surf_kinds.specs.Keys.{is_before}
use Rattle.region_run.proofs.changes.forget_changes.Goals as goal

pub returns-clause-items : goal.returns-clause-items
returns-clause-items c =
    filter_same _ (λ e. not (is_before e.at c.args.key)) _ (λ x b f h. search rules) c.args.changes.now.items c.retain.new.self.items c.retain.ensures.filtered
