use Rattle.std.proofs.Common.{◌≡◌, ◌++◌, ◌∷◌, [], map, take, ◌+◌, Err, sym, ap, subst, ◌∙◌}
use Rattle.std.specs.List.{flat_map}
use Rattle.std.proofs.lemmas.List.{take_all}
use Rattle.manifest_read.specs.Manifest.{first_seen, numbered}
use Rattle.manifest_read.specs.Rules.{names_of_rule}
use Rattle.manifest_read.specs.Seen.{named_rule_of}
use Rattle.manifest_read.specs.CollectedView.{rule_with_names}
use Rattle.manifest_read.proofs.Renumbered.{Ruled, rules-of, ruled-more, rules-fit, map-take-push}
use Rattle.manifest_read.proofs.collected.Collected.renumber_rules.Goals as goal

pub loop-old-init : goal.loop-old-init
loop-old-init c = record {
  items = rules-of c.self.inside.names c.self.inside.rules c.self.inside.cells c.args.self.now c.as_slice-old-items.result.now c.self.view_is c.as_slice-old-items.ensures c.self.invariant;
  ruled = record { names_is = c.requires; rules_is = c.new-rules.ensures };
}

pub unreachable-requires : goal.unreachable-requires
unreachable-requires c =
    let names = c.args.self.now.names in
    let items = c.as_slice-old-items.result.now in
    let i = c.loop-old.old-index in
    let one : map (rule_with_names names) (take i items) ++ named_rule_of c.named_rule.result ∷ [] ≡ map (rule_with_names names) (take (i + 1) items)
    = map-take-push (rule_with_names names) items i c.old-item.result (named_rule_of c.named_rule.result) c.loop-old-test.true (ap (rule_with_names names) (sym c.old-item.is) ∙ sym c.named_rule.ensures) in
    let fits = rules-fit c.args.self.now items i (named_rule_of c.named_rule.result) c.loop-old.names c.loop-old.rules c.loop-old.invariant.items one c.loop-old.invariant.ruled in
    let fault = c.number_rule.ensures.full (c.in-Err-TooMany.is ∙ ap Err c.in-Err-TooMany.field-0-is) in
    cc

pub loop-old-preserved : goal.loop-old-preserved
loop-old-preserved c =
    let names = c.args.self.now.names in
    let items = c.as_slice-old-items.result.now in
    let i = c.loop-old.old-index in
    let one : map (rule_with_names names) (take i items) ++ named_rule_of c.named_rule.result ∷ [] ≡ map (rule_with_names names) (take (i + 1) items)
    = map-take-push (rule_with_names names) items i c.old-item.result (named_rule_of c.named_rule.result) c.loop-old-test.true (ap (rule_with_names names) (sym c.old-item.is) ∙ sym c.named_rule.ensures) in
    record {
      items = c.loop-old.invariant.items;
      ruled = subst (λ done. Ruled done c.number_rule.new.names c.push.new.self) one
          (ruled-more (map (rule_with_names names) (take i items)) c.loop-old.names c.number_rule.new.names c.loop-old.rules c.push.new.self (named_rule_of c.named_rule.result) c.in-Ok.rule
          c.in-Ok.ensures.names c.in_ok-push.ensures.ok c.in-Ok.ensures.rule c.loop-old.invariant.ruled);
    }

pub returns-clause-rules : goal.returns-clause-rules
returns-clause-rules c =
    c.loop-old.invariant.ruled.rules_is
    ∙ ap (λ l. map (numbered c.loop-old.names) (map (rule_with_names c.args.self.now.names) l)) (take_all c.loop-old.old-index c.as_slice-old-items.result.now c.loop-old-test.false)
    ∙ ap (map (numbered c.loop-old.names)) c.loop-old.invariant.items.same

pub returns-clause-names : goal.returns-clause-names
returns-clause-names c =
    c.loop-old.invariant.ruled.names_is
    ∙ ap (λ l. first_seen (flat_map names_of_rule (map (rule_with_names c.args.self.now.names) l))) (take_all c.loop-old.old-index c.as_slice-old-items.result.now c.loop-old-test.false)
    ∙ ap (λ l. first_seen (flat_map names_of_rule l)) c.loop-old.invariant.items.same
