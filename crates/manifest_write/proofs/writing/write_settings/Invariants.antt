use Rattle.std.proofs.Common.{map, take}
use Rattle.surface_rows.specs.Rows.{lines_text}
use Rattle.surf_outside.specs.Puts.{Wrote}
use Rattle.manifest_write.specs.Canon.{setting_line}
use Rattle.manifest_write.proofs.writing.write_settings.Given as goal

abbrev pub invariant-loop-setting : goal.invariant-loop-setting
invariant-loop-setting g l =
    Wrote (g.O.Sink.written l.fn.out) (g.O.Sink.written l.out) (g.O.Sink.faults l.fn.out) (g.O.Sink.faults l.out)
    (lines_text (map setting_line (take l.setting-index l.settings)))
