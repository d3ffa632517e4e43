-- The names of the kinds of faults, and what their numbers count.
use Rattle.std.specs.Prelude.{ℕ, List, codes}
use Rattle.manifest_read.specs.declared.fault.ManifestKind.{ManifestKind}
use Rattle.manifest_read.specs.declared.fault.ManifestKind.TheVariants as kinds

abbrev pub manifest_kind_text : ManifestKind → List ℕ
manifest_kind_text kinds.NotUtf8 = codes "NotUtf8"
manifest_kind_text kinds.UnknownSection = codes "UnknownSection"
manifest_kind_text kinds.SectionTwice = codes "SectionTwice"
manifest_kind_text kinds.SectionOpen = codes "SectionOpen"
manifest_kind_text kinds.SectionMissing = codes "SectionMissing"
manifest_kind_text kinds.BadSetting = codes "BadSetting"
manifest_kind_text kinds.SettingTwice = codes "SettingTwice"
manifest_kind_text kinds.BadSeed = codes "BadSeed"
manifest_kind_text kinds.BadDuration = codes "BadDuration"
manifest_kind_text kinds.BadLattice = codes "BadLattice"
manifest_kind_text kinds.BadWrap = codes "BadWrap"
manifest_kind_text kinds.BadRate = codes "BadRate"
manifest_kind_text kinds.BadRule = codes "BadRule"
manifest_kind_text kinds.BadArity = codes "BadArity"
manifest_kind_text kinds.RaggedRow = codes "RaggedRow"
manifest_kind_text kinds.BadName = codes "BadName"
manifest_kind_text kinds.NoSites = codes "NoSites"
manifest_kind_text kinds.TooManySites = codes "TooManySites"
manifest_kind_text kinds.TooManyRules = codes "TooManyRules"
manifest_kind_text kinds.TooManySpecies = codes "TooManySpecies"

-- faults have the number of a line; of a text that isn't UTF-8 it is a number of bytes
abbrev pub unit_text : ManifestKind → List ℕ
unit_text kinds.NotUtf8 = codes "byte"
unit_text kind = codes "line"
