-- A long run of a compiled circuit ends with nothing left.
use Rattle.std.proofs.Common.{◌≡◌, ℕ, ◌+◌, ◌*◌, ◌^◌, ◌≤◌, List, [], ◌∷◌, length, Option, Some, None, Bool, refl, sym, ap, ◌∙◌, subst, arith, take}
use Rattle.std.specs.Prelude.{slice_get, map}
use Rattle.std.specs.List.{sum_by}
use Rattle.std.specs.Option.{option_map}
use Rattle.std.proofs.lemmas.Option.{none-some, same_Some, slice_get-map}
use Rattle.std.proofs.lemmas.List.{take_all}
use Rattle.std.proofs.lemmas.List.Sums.{sum_by-cons}
use Rattle.surf_kinds.specs.declared.site.SpeciesId.{SpeciesId}
use Rattle.surf_kinds.specs.declared.site.SiteState.{SiteState}
use Rattle.lattice.specs.Surface.{fresh, first_surface, after_all}
use Rattle.plan.specs.History.{history}
use Rattle.plan.specs.Network.{Network}
use Rattle.plan.proofs.LawLemmas.{is_history}
use Rattle.reach.specs.Reach.{species_in, firing_of, IsReached}
use Rattle.reach.specs.Bounds.{AreLastBy}
use Rattle.reach.specs.Counting.{CountsDown}
use Rattle.reach.proofs.LawLemmas.{prefix_reaches, uses_up}
use Rattle.circuit_text.specs.Circuits.{NetList}
use Rattle.gate_layout.specs.Table.{Table}
use Rattle.crn_compile.specs.Cells.{Neither, First, Second, Known, Cell, Inert, Wire, Vert, PinA, PinB, Cross, Single, Pair, Done, blank, lacking, work_of}
use Rattle.crn_compile.specs.Species.{cell_of, circuit_rules}
use Rattle.crn_compile.specs.Start.{shape_of, IsStart}
use Rattle.crn_compile.specs.Settled.{work, network_of, end_of, RunsOut}
use Rattle.crn_compile.proofs.Tables.{rates_one}
use Rattle.crn_compile.proofs.Settles.{Compiled, settles}

one_blank : (h : Option Bool) → blank h ≤ 1
one_blank None = omega arith
one_blank (Some d) = omega arith

two_lacking : (k : Known) → lacking k ≤ 2
two_lacking Neither = omega arith
two_lacking (First d) = omega arith
two_lacking (Second e) = omega arith

two_halves : (x : Cell) → work_of x ≤ 2
two_halves Inert = omega arith
two_halves (Wire h) = omega (arith, one_blank h)
two_halves (Vert h) = omega (arith, one_blank h)
two_halves (PinA h) = omega (arith, one_blank h)
two_halves (PinB h) = omega (arith, one_blank h)
two_halves (Cross h k) = omega (arith, one_blank h, one_blank k)
two_halves (Single op) = omega arith
two_halves (Pair op known) = two_lacking known
two_halves (Done d) = omega arith

pub work_few : (S : List SpeciesId) → work S ≤ 2 * length S
work_few [] = omega arith
work_few (x ∷ S) =
    let e : sum_by (λ s. work_of (cell_of s)) (x ∷ S) ≡ work_of (cell_of x) + sum_by (λ s. work_of (cell_of s)) S = sum_by-cons (λ s. work_of (cell_of s)) x S in
    omega (arith, e, two_halves (cell_of x), work_few S)

-- the first surface
pub first_species : (S : List SpeciesId) → species_in (first_surface S) ≡ S
first_species [] = refl
first_species (x ∷ S) = ap (λ l. x ∷ l) (first_species S)

mapped_last : (o : Option SpeciesId) (s : SiteState) → option_map fresh o ≡ Some s → s.last ≤ 0
mapped_last None s h = absurd (none-some s h)
mapped_last (Some x) s h = omega (arith, ap (λ (y : SiteState). y.last) (same_Some (fresh x) s h))

pub first_last : (S : List SpeciesId) → AreLastBy 0 (first_surface S)
first_last S k s is = mapped_last (slice_get S k) s (sym (slice_get-map fresh S k) ∙ is)

-- the last surface of a history is reached
history_reached : (n : Network) (until : ℕ) (sites : List SiteState) → IsReached n.lattice n.rules (species_in sites) (species_in (after_all n.lattice n.rules sites (history n until sites)))
history_reached n until sites =
    let es = history n until sites in
    let whole : take (length es) es ≡ es = take_all (length es) es (omega arith) in
    let reaches = prefix_reaches n until (length es) es sites (is_history n until sites) in
    subst (λ fs. IsReached n.lattice n.rules (species_in sites) (species_in (after_all n.lattice n.rules sites fs))) whole (map firing_of (take (length es) es), reaches)

pub runs_out : (c : NetList) (inputs values : List Bool) (t : Table) (S : List SpeciesId) (seed until : ℕ) → Compiled c inputs values t → IsStart c.nets inputs t S → t.rows * t.cols ≤ 2 ^ 20 → 44361420 * 2 ^ 21 ≤ until
    → RunsOut c values t S seed until
runs_out c inputs values t S seed until k start size long =
    let n = network_of t seed in
    let sites = first_surface S in
    let settled = settles c inputs values t S k start in
    let few : work S ≤ 2 ^ 21 = omega (arith, work_few S, start.size, size) in
    let same : species_in sites ≡ S = first_species S in
    let same_work : work (species_in sites) ≡ work S = ap work same in
    let counted : CountsDown (shape_of t) circuit_rules S work = record { falls = settled.falls; ends = settled.rest } in
    let r = uses_up n until 0 work sites (subst (λ X. CountsDown (shape_of t) circuit_rules X work) (sym same) counted) rates_one (first_last S) (omega (arith, same_work, few, long)) in
    let reached : IsReached (shape_of t) circuit_rules S (end_of t S seed until) = subst (λ X. IsReached (shape_of t) circuit_rules X (end_of t S seed until)) same (history_reached n until sites) in
    record {
      count = r.count ∙ same_work;
      few = few;
      none_left = r.ended;
      done = settled.done (end_of t S seed until) reached r.ended;
    }
