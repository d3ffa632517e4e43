-- A manifest of these parts has the theorems.
use Rattle.std.proofs.Common.{◌≡◌, ℕ, ◌*◌, ◌^◌, ◌≤◌, List, length, Bool, sym, ap, ◌∙◌, subst, arith}
use Rattle.surf_kinds.specs.declared.site.SpeciesId.{SpeciesId}
use Rattle.manifest_read.specs.declared.manifest.Manifest.{Manifest}
use Rattle.manifest_read.specs.Manifest.{IsValid}
use Rattle.circuit_text.specs.Circuits.{NetList}
use Rattle.circuit_text.specs.Values.{values_of, AreNets}
use Rattle.circuit_text.proofs.LawLemmas.{values_are}
use Rattle.gate_layout.specs.Nets.{AreNumbered}
use Rattle.gate_layout.specs.Table.{Table, IsWellFormed}
use Rattle.crn_compile.specs.Start.{IsStart}
use Rattle.crn_compile.specs.Settled.{Settles, RunsOut}
use Rattle.crn_compile.specs.Compiled.{IsCompiled, manifest_on, compiled_manifest}
use Rattle.crn_compile.proofs.Settles.{Compiled, settles}
use Rattle.crn_compile.proofs.RunsOut.{runs_out}
use Rattle.manifest_write.specs.Canon.{canonical_text}
use Rattle.crn_compile.proofs.Short.{short_text}
use Rattle.crn_compile.proofs.Blanks.{start_small}
use Rattle.crn_compile.proofs.OneStart.{start_is}
use Rattle.crn_compile.proofs.Valid.{valid}

-- the manifest of these species
abbrev manifest_for : Table → List SpeciesId → Manifest
manifest_for t S = manifest_on t.rows t.cols S

-- what the code has shown when it makes a manifest
pub record Made (c : NetList) (inputs : List Bool) (t : Table) (m : Manifest) : Type 0 where
  pub is : m ≡ manifest_for t m.cells
  pub start : IsStart c.nets inputs t m.cells

compiled : (c : NetList) (inputs : List Bool) (t : Table) → AreNets c.nets → AreNumbered c.nets → IsWellFormed c t → Compiled c inputs (values_of c.nets inputs) t
compiled c inputs t are numbered formed = record { nets_are = are; numbered = numbered; values_are = values_are c.nets inputs are; formed = formed }

pub made_compiled : (c : NetList) (inputs : List Bool) (t : Table) (m : Manifest) → Made c inputs t m → IsCompiled c inputs t m
made_compiled c inputs t m k = record {
  seed = ap (λ (x : Manifest). x.seed) k.is;
  until = ap (λ (x : Manifest). x.until) k.is;
  lattice = ap (λ (x : Manifest). x.lattice) k.is;
  others = ap (λ (x : Manifest). x.others) k.is;
  names = ap (λ (x : Manifest). x.names) k.is;
  rules = ap (λ (x : Manifest). x.rules) k.is;
  cells = k.start;
  colours = ap (λ (x : Manifest). x.colours) k.is;
}

pub made_valid : (c : NetList) (inputs : List Bool) (t : Table) (m : Manifest) → t.rows * t.cols ≤ 2 ^ 20 → 1 ≤ t.rows → 1 ≤ t.cols → Made c inputs t m → IsValid m
made_valid c inputs t m size rows cols k =
    subst IsValid (sym k.is) (valid t.rows t.cols m.cells (start_small c.nets inputs t m.cells k.start) k.start.size size rows cols)

pub made_settles : (c : NetList) (inputs : List Bool) (t : Table) (m : Manifest) → AreNets c.nets → AreNumbered c.nets → IsWellFormed c t → Made c inputs t m → Settles c (values_of c.nets inputs) t m.cells
made_settles c inputs t m are numbered formed k = settles c inputs (values_of c.nets inputs) t m.cells (compiled c inputs t are numbered formed) k.start

pub made_runs : (c : NetList) (inputs : List Bool) (t : Table) (m : Manifest) → AreNets c.nets → AreNumbered c.nets → IsWellFormed c t → t.rows * t.cols ≤ 2 ^ 20 → Made c inputs t m
    → (seed : ℕ) → RunsOut c (values_of c.nets inputs) t m.cells seed (10 ^ 15)
made_runs c inputs t m are numbered formed size k seed = runs_out c inputs (values_of c.nets inputs) t m.cells seed (10 ^ 15) (compiled c inputs t are numbered formed) k.start size (omega arith)

pub made_from : (c : NetList) (inputs : List Bool) (t : Table) (rows cols : ℕ) (S : List SpeciesId) (m : Manifest) → rows ≡ t.rows → cols ≡ t.cols → m ≡ manifest_on rows cols S → IsStart c.nets inputs t S → Made c inputs t m
made_from c inputs t rows cols S m r k e start =
    let one : m ≡ manifest_for t S = e ∙ ap (λ n. manifest_on n cols S) r ∙ ap (λ n. manifest_on t.rows n S) k in
    let same : m.cells ≡ S = ap (λ (x : Manifest). x.cells) one in
    record { is = one ∙ ap (manifest_for t) (sym same); start = subst (IsStart c.nets inputs t) (sym same) start }

-- and it is the one
pub made_exact : (c : NetList) (inputs : List Bool) (t : Table) (m : Manifest) → Made c inputs t m → m ≡ compiled_manifest c inputs t
made_exact c inputs t m k = k.is ∙ ap (manifest_for t) (start_is c.nets inputs t m.cells k.start)

pub made_short : (c : NetList) (inputs : List Bool) (t : Table) (m : Manifest) → t.rows * t.cols ≤ 2 ^ 20 → 1 ≤ t.cols → Made c inputs t m → length (canonical_text m) ≤ 67108864
made_short c inputs t m size cols k =
    let short = short_text t.rows t.cols m.cells size cols in
    subst (λ (x : Manifest). length (canonical_text x) ≤ 67108864) (sym k.is) (omega (arith, short))
