-- A line that is no section line, and the manifest in the end, from the content of the lines.
use Rattle.std.proofs.Common.{◌≡◌, ℕ, Bool, List, ◌++◌, map, Option, Some, None, Result, Ok, Err, ap, ◌∙◌}
use Rattle.std.specs.List.{flat_map}
use Rattle.std.specs.Option.{option_map}
use Rattle.lattice.specs.declared.grid.Kind.{Kind}
use Rattle.lattice.specs.Shape.{Shape}
use Rattle.species.specs.Names.{place_of}
use Rattle.surf_kinds.specs.declared.rule.Rule.{Rule}
use Rattle.surf_kinds.specs.declared.site.SpeciesId.{SpeciesId}
use Rattle.manifest_read.specs.declared.text.Setting.{Setting}
use Rattle.manifest_read.specs.declared.fault.ManifestKind.{ManifestKind}
use Rattle.manifest_read.specs.declared.fault.ManifestFault.{ManifestFault}
use Rattle.manifest_read.specs.declared.manifest.Manifest.{Manifest}
use Rattle.manifest_read.specs.Rules.{names_of_rule}
use Rattle.manifest_read.specs.Settings.{SettingValues, setting_values}
use Rattle.manifest_read.specs.Sorts.{Plain}
use Rattle.manifest_read.specs.Manifest.{fault, unless, Content, entry_at, entry_fault, first_seen, numbered, manifest_with, manifest_by}
use Rattle.manifest_read.specs.Steps.{ReaderState, with_entry, by_sort}
use Rattle.manifest_read.specs.Views.{entered}

took : (o : Option ManifestKind) (n : ℕ) (t after : Content) (k : ReaderState) → unless o (Ok t) ≡ Ok after
    → unless (option_map (λ kind. fault kind n) o) (Ok (record k { content = t })) ≡ Ok (record k { content = after })
took None n t after k h = let e : t ≡ after = cc in ap (λ (x : Content). let r : Result ReaderState ManifestFault = Ok (record k { content = x }) in r) e
took (Some kind) n t after k h = absurd cc

pub plain-ok : (k : ReaderState) (bare whole : List ℕ) (after : Content) → entered k.content (entry_at k.within (Plain bare whole)) ≡ Ok after
    → by_sort k.lines k (Plain bare whole) ≡ Ok (record k { content = after })
plain-ok k bare whole after h =
    took (entry_fault k.content (entry_at k.within (Plain bare whole))) k.lines (with_entry (entry_at k.within (Plain bare whole)) k.content) after k h

refused : (o : Option ManifestKind) (n : ℕ) (t : Content) (k : ReaderState) (kind : ManifestKind) → unless o (Ok t) ≡ Err kind → unless (option_map (λ x. fault x n) o) (Ok k) ≡ Err (fault kind n)
refused None n t k kind h = absurd cc
refused (Some x) n t k kind h = let e : x ≡ kind = cc in ap (λ (y : ManifestKind). let r : Result ReaderState ManifestFault = Err (fault y n) in r) e

pub plain-err : (k : ReaderState) (bare whole : List ℕ) (kind : ManifestKind) → entered k.content (entry_at k.within (Plain bare whole)) ≡ Err kind
    → by_sort k.lines k (Plain bare whole) ≡ Err (fault kind k.lines)
plain-err k bare whole kind h =
    refused (entry_fault k.content (entry_at k.within (Plain bare whole))) k.lines (with_entry (entry_at k.within (Plain bare whole)) k.content) _ kind h

pub made : (t : Content) (seed until : ℕ) (kind : Kind) (wrap : Bool) (others : List Setting) (names : List (List ℕ)) (rules : List Rule) (cells : List SpeciesId) (shape : Shape)
    → (let k : SettingValues = record { seed = seed; until = until; kind = kind; wrap = wrap; others = others } in k ≡ setting_values t.settings)
    → names ≡ first_seen (flat_map names_of_rule t.rules ++ t.cells) → rules ≡ map (numbered names) t.rules → cells ≡ map (place_of names) t.cells
    → (let s : Shape = record { kind = kind; rows = t.rows; cols = t.cols; wrap = wrap } in shape ≡ s)
    → (let m : Manifest = record { seed = seed; until = until; lattice = shape; others = others; names = names; rules = rules; cells = cells; colours = t.colours } in m ≡ manifest_by t)
made t seed until kind wrap others names rules cells shape e f g h i =
    ap (λ (x : Shape). let m : Manifest = record { seed = seed; until = until; lattice = x; others = others; names = names; rules = rules; cells = cells; colours = t.colours } in m) i
    ∙ ap (λ (x : List Rule). let m : Manifest = record { seed = seed; until = until; lattice = record { kind = kind; rows = t.rows; cols = t.cols; wrap = wrap }; others = others; names = names; rules = x; cells = cells; colours = t.colours } in m) g
    ∙ ap (λ (x : List SpeciesId). let m : Manifest = record { seed = seed; until = until; lattice = record { kind = kind; rows = t.rows; cols = t.cols; wrap = wrap }; others = others; names = names; rules = map (numbered names) t.rules; cells = x; colours = t.colours } in m) h
    ∙ ap (manifest_with names t) e
    ∙ ap (λ n. manifest_with n t (setting_values t.settings)) f
