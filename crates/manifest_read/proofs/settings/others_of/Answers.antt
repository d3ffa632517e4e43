use Rattle.std.proofs.Common.{rules, ◌∙◌}
use Rattle.std.proofs.lemmas.Fn.{filter_same}
use Rattle.manifest_read.specs.Settings.{is_other}
use Rattle.manifest_read.proofs.settings.others_of.Goals as goal

pub returns : goal.returns
returns c = c.of.ensures ∙ filter_same _ is_other _ (λ x b f' k. search rules) _ _ c.retain.ensures.filtered
