use Rattle.std.proofs.Common.{◌+◌, ◌++◌, ◌∷◌, [], ap, ◌∙◌, codes, drop, map, take}
use Rattle.surface_rows.specs.Rows.{lines_text}
use Rattle.surf_outside.proofs.LawLemmas.{wrote_by, puts_as, wrote_as, wrote_more, puts_after, fails_within, fails_behind}
use Rattle.manifest_write.specs.Canon.{rule_line}
use Rattle.manifest_write.proofs.Spellings.Loops.{ended}
use Rattle.manifest_write.proofs.Spellings.Forms.{section-text, section-within, section-more, section-all}
use Rattle.manifest_write.proofs.writing.write_rules.Goals as goal

pub returns-in_err-put : goal.returns-in_err-put
returns-in_err-put g c =
    let f = rule_line c.args.names.now in
    let rules = c.args.rules.now in
    puts_as (lines_text (codes "!START_TRANSITION_RULES" ∷ map f rules ++ codes "!END_TRANSITION_RULES" ∷ []))
    (section-text (codes "!START_TRANSITION_RULES") (codes "!END_TRANSITION_RULES") (map f rules))
    (fails_within _ (lines_text (map f rules) ++ codes "!END_TRANSITION_RULES\n") c.from_residual.result c.from_residual.ensures.1 c.in_err-put.ensures)

pub returns-in_err-write_rule : goal.returns-in_err-write_rule
returns-in_err-write_rule g c =
    let f = rule_line c.args.names.now in
    let rules = c.args.rules.now in
    let i = c.loop-rule.rule-index in
    let before = ended (codes "!START_TRANSITION_RULES") ++ lines_text (map f (take i rules)) in
    let after = lines_text (map f (drop (i + 1) rules)) ++ ended (codes "!END_TRANSITION_RULES") in
    puts_as (lines_text (codes "!START_TRANSITION_RULES" ∷ map f rules ++ codes "!END_TRANSITION_RULES" ∷ []))
    (ap (λ r. (before ++ ended (f r)) ++ after) c.rule-item.is ∙ section-within (codes "!START_TRANSITION_RULES") (codes "!END_TRANSITION_RULES") f rules i c.rule-item.result c.loop-rule-test.true)
    (fails_behind _ after c.from_residual-in_err-write_rule.result c.from_residual-in_err-write_rule.ensures.1 c.loop-rule.invariant c.in_err-write_rule.ensures)

pub loop-rule-preserved : goal.loop-rule-preserved
loop-rule-preserved g c =
    let f = rule_line c.args.names.now in
    let rules = c.args.rules.now in
    let i = c.loop-rule.rule-index in
    let before = codes "!START_TRANSITION_RULES\n" ++ lines_text (map f (take i rules)) in
    wrote_as (codes "!START_TRANSITION_RULES\n" ++ lines_text (map f (take (i + 1) rules)))
    (ap (λ r. before ++ ended (f r)) c.rule-item.is ∙ section-more (codes "!START_TRANSITION_RULES\n") f rules i c.rule-item.result c.loop-rule-test.true)
    (wrote_more c.loop-rule.invariant (wrote_by c.in_ok-write_rule.ensures))

pub returns : goal.returns
returns g c =
    let f = rule_line c.args.names.now in
    let rules = c.args.rules.now in
    puts_as (lines_text (codes "!START_TRANSITION_RULES" ∷ map f rules ++ codes "!END_TRANSITION_RULES" ∷ []))
    (section-all (codes "!START_TRANSITION_RULES") (codes "!END_TRANSITION_RULES") f rules c.loop-rule.rule-index c.loop-rule-test.false)
    (puts_after c.put-2.result c.loop-rule.invariant c.put-2.ensures)
