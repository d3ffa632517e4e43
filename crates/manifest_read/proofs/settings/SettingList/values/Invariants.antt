use Rattle.std.proofs.Common.{◌≡◌, take}
use Rattle.std.specs.List.{filter_map}
use Rattle.lattice.specs.declared.grid.Kind.TheVariants.{Square}
use Rattle.std.specs.Prelude.{false}
use Rattle.manifest_read.specs.Settings.{seed_in, duration_in, kind_in, wrap_in, last_or}
use Rattle.manifest_read.proofs.settings.SettingList.values.Given as goal

abbrev pub invariant-loop-setting : goal.invariant-loop-setting
invariant-loop-setting l = record {
  seed : l.seed ≡ last_or 0 (filter_map seed_in (take l.setting-index l.setting-items));
  until : l.until ≡ last_or 100000000 (filter_map duration_in (take l.setting-index l.setting-items));
  kind : l.kind ≡ last_or Square (filter_map kind_in (take l.setting-index l.setting-items));
  wrap : l.wrap ≡ last_or false (filter_map wrap_in (take l.setting-index l.setting-items));
}
