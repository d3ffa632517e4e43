-- The run of a compiled circuit ends with its work.
use Rattle.std.proofs.Common.{◌≡◌, ℕ, ◌+◌, ◌^◌, ◌≤◌, List, ◌++◌, length, Option, Some, None, Ok, Err, Result, Bool, true, false, refl, sym, ap, ◌∙◌, subst, arith, if◌then◌else◌}
use Rattle.std.specs.Prelude.{nat_lt, unwrap_or, IfOk}
use Rattle.std.specs.Option.{option_map_or}
use Rattle.std.proofs.lemmas.Bool.Decides.{nat_tests}
use Rattle.surf_kinds.specs.declared.rule.Rule.{Rule}
use Rattle.surf_kinds.specs.declared.site.SiteState.{SiteState}
use Rattle.surf_kinds.specs.declared.site.SpeciesId.{SpeciesId}
use Rattle.lattice.specs.Shape.{Shape}
use Rattle.lattice.specs.Surface.{after_all, first_surface}
use Rattle.plan.specs.Network.{Network}
use Rattle.plan.specs.History.{history}
use Rattle.plan.proofs.LawLemmas.{is_history}
use Rattle.reach.specs.Reach.{species_in}
use Rattle.manifest_read.specs.declared.manifest.Manifest.{Manifest}
use Rattle.manifest_read.specs.Manifest.{IsValid, manifest_of}
use Rattle.manifest_write.specs.Canon.{canonical_text}
use Rattle.surface_words.specs.declared.commands.Program.TheVariants.{Surface}
use Rattle.surface_words.specs.declared.words.Words.TheVariants.{Run}
use Rattle.surface_words.specs.FirstWrong.{first_wrong}
use Rattle.surface_words.specs.Reading.{reading}
use Rattle.circuit_text.specs.Circuits.{NetList}
use Rattle.circuit_text.specs.Values.{values_of}
use Rattle.gate_layout.specs.Table.{Table}
use Rattle.crn_compile.specs.Species.{circuit_rules}
use Rattle.crn_compile.specs.Start.{shape_of}
use Rattle.crn_compile.specs.Settled.{work, OutputsAre, RunsOut}
use Rattle.crn_compile.specs.Compiled.{IsCompiled}
use Rattle.track_layout.specs.Tracks.{compact_table}
use Rattle.track_layout.specs.Turns.{tracks_of}
use Rattle.track_layout.specs.Compact.{IsCompact}
use Rattle.trace_text.specs.Lines.{surface_text, end_text}
use Rattle.run_writer.specs.RunText.{Scene, events_of, start, run_text}
use Rattle.surface_top.specs.Answer.{Answer, WrongWord, Text, scene_of, run_answer, by_manifest, answer_within, answer_to, specified_answer}
use Rattle.run_writer.specs.Cuts.{EndsWithText}
use Rattle.surface_top.specs.CircuitRuns.{IsLongRun, RunsToItsValues}
use Rattle.run_writer.proofs.LawLemmas.{ends, shows, ticks_end}

-- the run of a manifest with up to 10,000,000 events
abbrev long_scene : Manifest → Option ℕ → ℕ → Scene
long_scene m seed samples = scene_of seed None samples 10000000 m

abbrev events_on : Shape → List Rule → ℕ → ℕ → List SpeciesId → ℕ
events_on l rules seed until cells = length (history (record { lattice = l; rules = rules; seed = seed }) until (first_surface cells))

-- it has as many events as there is work
count : (c : NetList) (inputs values : List Bool) (t : Table) (m : Manifest) (seed : Option ℕ) (samples : ℕ) → IsCompiled c inputs t m → ((k : ℕ) → RunsOut c values t m.cells k (10 ^ 15))
    → length (events_of (long_scene m seed samples) (first_surface m.cells)) ≡ work m.cells
count c inputs values t m seed samples k runs =
    ap (λ l. events_on l m.rules (unwrap_or seed m.seed) m.until m.cells) k.lattice
    ∙ ap (λ r. events_on (shape_of t) r (unwrap_or seed m.seed) m.until m.cells) k.rules
    ∙ ap (λ u. events_on (shape_of t) circuit_rules (unwrap_or seed m.seed) u m.cells) k.until
    ∙ (runs (unwrap_or seed m.seed)).count

-- the surface at its end
abbrev last_on : Shape → List Rule → ℕ → ℕ → List SpeciesId → List SiteState
last_on l rules seed until cells = after_all l rules (first_surface cells) (history (record { lattice = l; rules = rules; seed = seed }) until (first_surface cells))

abbrev last_of : Manifest → Option ℕ → List SiteState
last_of m seed = last_on m.lattice m.rules (unwrap_or seed m.seed) m.until m.cells

finished : (c : NetList) (inputs values : List Bool) (t : Table) (m : Manifest) (seed : Option ℕ) → IsCompiled c inputs t m → ((k : ℕ) → RunsOut c values t m.cells k (10 ^ 15)) → OutputsAre c values t (species_in (last_of m seed))
finished c inputs values t m seed k runs =
    let is : last_of m seed ≡ last_on (shape_of t) circuit_rules (unwrap_or seed m.seed) (10 ^ 15) m.cells =
    ap (λ l. last_on l m.rules (unwrap_or seed m.seed) m.until m.cells) k.lattice
    ∙ ap (λ r. last_on (shape_of t) r (unwrap_or seed m.seed) m.until m.cells) k.rules
    ∙ ap (λ u. last_on (shape_of t) circuit_rules (unwrap_or seed m.seed) u m.cells) k.until in
    subst (λ sites. OutputsAre c values t (species_in sites)) (sym is) (runs (unwrap_or seed m.seed)).done

not_over : (limit n : ℕ) (x y : Answer) → n ≤ limit → (if nat_lt limit n then x else y) ≡ y
not_over limit n x y le =
    let test : nat_lt limit n ≡ false = grind (arith, nat_tests) in
    ap (λ b. if b then x else y) test

shows_last : (m : Manifest) (seed : Option ℕ) (samples n : ℕ) → length (events_of (long_scene m seed samples) (first_surface m.cells)) ≡ n → n ≤ 10000000 → 1 ≤ samples
    → EndsWithText (surface_text m.names m.lattice (last_of m seed) m.until n ++ end_text m.until n) (run_text (long_scene m seed samples) (first_surface m.cells))
shows_last m seed samples n is few some =
    let s = long_scene m seed samples in
    let sites = first_surface m.cells in
    let ticks = ticks_end m.until samples some in
    shows (events_of s sites) s (start s sites) ticks.0 n (is_history s.network s.until sites) ticks.1 (omega (arith, is)) few

-- what is answered to the canonical text
answer_is : (m : Manifest) (seed : Option ℕ) (workers samples quota slots : ℕ) (report : Bool) (words : List (List ℕ)) → manifest_of (canonical_text m) ≡ Ok m → length (canonical_text m) ≤ 67108864
    → length (events_of (long_scene m seed samples) (first_surface m.cells)) ≤ 10000000 → reading Surface words ≡ Some (Run workers seed None samples 10000000 quota slots report)
    → specified_answer Surface words (canonical_text m) ≡ Text (run_text (long_scene m seed samples) (first_surface m.cells))
answer_is m seed workers samples quota slots report words again short few said =
    let s = long_scene m seed samples in
    let sites = first_surface m.cells in
    let text = canonical_text m in
    let command = Run workers seed None samples 10000000 quota slots report in
    ap (λ o. option_map_or (λ x. answer_to words x text) o (WrongWord (unwrap_or (first_wrong Surface words) 0))) said
    ∙ not_over 67108864 (length text) _ (answer_within command words text) short
    ∙ ap (by_manifest (λ x. run_answer (scene_of seed None samples 10000000 x) x)) again
    ∙ not_over 10000000 (length (events_of s sites)) _ (Text (run_text s sites)) few

runs_to_values : (c : NetList) (inputs values : List Bool) (t : Table) (m : Manifest) → IsCompiled c inputs t m → manifest_of (canonical_text m) ≡ Ok m → length (canonical_text m) ≤ 67108864 → ((k : ℕ) → RunsOut c values t m.cells k (10 ^ 15))
    → (words : List (List ℕ)) (samples : ℕ) → IsLongRun words samples → RunsToItsValues c values t m words samples
runs_to_values c inputs values t m k again short runs words samples (workers, seed, quota, slots, report, said) =
    let s = long_scene m seed samples in
    let sites = first_surface m.cells in
    let is = count c inputs values t m seed samples k runs in
    let few : work m.cells ≤ 10000000 = omega (arith, (runs 0).few) in
    record {
      text = run_text s sites;
      last = last_of m seed;
      answer = answer_is m seed workers samples quota slots report words again short (omega (arith, is, few)) said;
      ends = ends (events_of s sites) s (start s sites) (work m.cells) (omega (arith, is)) few;
      shows = shows_last m seed samples (work m.cells) is few;
      outputs = finished c inputs values t m seed k runs;
    }

pub each_runs : {E : Type 0} (c : NetList) (inputs values : List Bool) (t : Table) (r : Result Manifest E) → IfOk r (IsCompiled c inputs t) → IfOk r IsValid → IfOk r (λ m. length (canonical_text m) ≤ 67108864)
    → IfOk r (λ m. (k : ℕ) → RunsOut c values t m.cells k (10 ^ 15)) → ((m : Manifest) → IsValid m → manifest_of (canonical_text m) ≡ Ok m)
    → IfOk r (λ m. (words : List (List ℕ)) (samples : ℕ) → IsLongRun words samples → RunsToItsValues c values t m words samples)
each_runs c inputs values t (Ok m) compiled valid short runs again = runs_to_values c inputs values t m compiled (again m valid) short runs
each_runs c inputs values t (Err e) compiled valid short runs again = tt

pub compact_runs : {E : Type 0} (c : NetList) (inputs : List Bool) (r : Result Manifest E) → IfOk r (IsCompact c inputs) → ((m : Manifest) → IsValid m → manifest_of (canonical_text m) ≡ Ok m)
    → IfOk r (λ m. (words : List (List ℕ)) (samples : ℕ) → IsLongRun words samples → RunsToItsValues c (values_of c.nets inputs) (compact_table (tracks_of c)) m words samples)
compact_runs c inputs (Ok m) is again = runs_to_values c inputs (values_of c.nets inputs) (compact_table (tracks_of c)) m is.compiled (again m is.valid) is.short is.runs
compact_runs c inputs (Err e) is again = tt
