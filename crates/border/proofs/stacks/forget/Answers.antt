use Rattle.std.proofs.Common.{rules}
use Rattle.std.specs.Prelude.{not}
use Rattle.std.proofs.lemmas.Fn.{filter_same}
use Rattle.surf_kinds.specs.Keys.{is_before, key_of}
use Rattle.border.proofs.stacks.forget.Goals as goal

pub returns : goal.returns
returns c = record {
  items = filter_same _ (λ e. not (is_before (key_of e) c.args.key)) _ (λ x b f h. search rules) c.args.stack.now.items c.retain.new.self.items c.retain.ensures.filtered;
  len = search rules;
  capacity = search rules;
}
