use Rattle.std.proofs.Common.{◌+◌, ◌++◌, ap, ◌∙◌, drop, map, take}
use Rattle.surface_rows.specs.Rows.{lines_text}
use Rattle.surf_outside.proofs.LawLemmas.{puts_as, fails_behind}
use Rattle.manifest_write.specs.Canon.{setting_line}
use Rattle.manifest_write.proofs.Spellings.Loops.{ended, lines-within}
use Rattle.manifest_write.proofs.writing.write_settings.Goals as goal

pub returns-in_err-write_setting : goal.returns-in_err-write_setting
returns-in_err-write_setting g c =
    let settings = c.args.settings.now in
    let i = c.loop-setting.setting-index in
    let before = lines_text (map setting_line (take i settings)) in
    let after = lines_text (map setting_line (drop (i + 1) settings)) in
    puts_as (lines_text (map setting_line settings))
    (ap (λ s. (before ++ ended (setting_line s)) ++ after) c.setting-item.is ∙ lines-within setting_line settings i c.setting-item.result c.loop-setting-test.true)
    (fails_behind _ after c.from_residual.result c.from_residual.ensures.1 c.loop-setting.invariant c.in_err-write_setting.ensures)
