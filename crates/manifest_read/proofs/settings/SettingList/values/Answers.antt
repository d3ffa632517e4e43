use Rattle.std.proofs.Common.{false, ap, ◌∙◌}
use Rattle.lattice.specs.declared.grid.Kind.TheVariants.{Square}
use Rattle.manifest_read.specs.Settings.{seed_in, duration_in, kind_in, wrap_in}
use Rattle.manifest_read.proofs.LastSettings.{last-more}
use Rattle.manifest_read.proofs.settings.SettingList.values.Goals as goal

pub loop-setting-preserved : goal.loop-setting-preserved
loop-setting-preserved c =
    let items = c.deref-setting-items.result.now in
    let i = c.loop-setting.setting-index in
    let e = c.setting-item.result in
    record {
      seed = c.unwrap_or-seed.ensures ∙ last-more seed_in 0 items i e _ _ c.loop-setting-test.true (c.seed_in.ensures ∙ ap seed_in c.setting-item.is) c.loop-setting.invariant.seed;
      until = c.unwrap_or-until.ensures ∙ last-more duration_in 100000000 items i e _ _ c.loop-setting-test.true (c.duration_in.ensures ∙ ap duration_in c.setting-item.is) c.loop-setting.invariant.until;
      kind = c.unwrap_or-kind.ensures ∙ last-more kind_in Square items i e _ _ c.loop-setting-test.true (c.kind_in.ensures ∙ ap kind_in c.setting-item.is) c.loop-setting.invariant.kind;
      wrap = c.unwrap_or-wrap.ensures ∙ last-more wrap_in false items i e _ _ c.loop-setting-test.true (c.wrap_in.ensures ∙ ap wrap_in c.setting-item.is) c.loop-setting.invariant.wrap;
    }
