use Rattle.std.proofs.Common.{◌++◌, codes, map, take}
use Rattle.surface_rows.specs.Rows.{lines_text}
use Rattle.surf_outside.specs.Puts.{Wrote}
use Rattle.manifest_write.specs.Canon.{rule_line}
use Rattle.manifest_write.proofs.writing.write_rules.Given as goal

abbrev pub invariant-loop-rule : goal.invariant-loop-rule
invariant-loop-rule g l =
    Wrote (g.O.Sink.written l.fn.out) (g.O.Sink.written l.out) (g.O.Sink.faults l.fn.out) (g.O.Sink.faults l.out)
    (codes "!START_TRANSITION_RULES\n" ++ lines_text (map (rule_line l.names) (take l.rule-index l.rules)))
