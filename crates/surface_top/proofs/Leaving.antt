-- The crew that a run leaves.
use Rattle.std.proofs.Common.{◌≡◌, ℕ, ◌≤◌, arith, Bool, true, false, cond, List, length, Option, Some, None, refl, sym, ap, ◌∙◌, subst}
use Rattle.std.specs.Prelude.{Result, Ok, Err, OnOk, IsErrOf}
use Rattle.std.specs.Option.{option_map_or}
use Rattle.plan.specs.Network.{Network}
use Rattle.surface_state.specs.SurfaceView.{SurfaceView}
use Rattle.surf_kinds.specs.declared.status.Status.TheVariants as status
use Rattle.surf_kinds.specs.declared.site.SiteState.{SiteState}
use Rattle.warp_core.specs.World.{end_key}
use Rattle.crew.specs.Crews.{CrewView, world_in}
use Rattle.manifest_read.specs.declared.manifest.Manifest.{Manifest}
use Rattle.manifest_read.specs.declared.fault.ManifestFault.{ManifestFault}
use Rattle.surface_words.specs.declared.commands.Program.{Program}
use Rattle.surface_words.specs.declared.words.Words.{Words}
use Rattle.surface_words.specs.declared.words.Words.TheVariants as said
use Rattle.surface_words.specs.Reading.{reading, reads}
use Rattle.run_writer.specs.declared.pages.Stop.{Stop}
use Rattle.run_writer.specs.declared.pages.Stop.TheVariants as stop
use Rattle.surface_top.specs.declared.run.RunOptions.{RunOptions}
use Rattle.surface_top.specs.declared.ending.Ending.{Ending}
use Rattle.surface_top.specs.declared.ending.Ending.TheVariants as ending
use Rattle.surface_top.specs.Answer.{is_too_long}
use Rattle.surface_top.specs.Ending.{run_ending, status_of, IsNoManifest, IsUnread}
use Rattle.surface_top.specs.Outcome.{is_over, are_too_many, has_too_many_nets, limit_or_faulty}
use Rattle.run_writer.specs.RunText.{Scene, events_of}
use Rattle.run_writer.specs.Stops.{IsLimited}
use Rattle.run_writer.specs.Crewed.{IsPastLimit, IsSameCrew}
use Rattle.run_writer.specs.Runs.{HasEnded}
use Rattle.surface_top.specs.Crewed.{IsCrewFor, first_of}
use Rattle.surface_top.specs.Kept.{Asked, scene_by, events_by, IsCrewOf, run_read, run_within, run_to, specified_run, left_by, RunLeaves, Leaves, Keeps}

same_for : (n : Network) (tick : ℕ) (first : SurfaceView) (o : RunOptions) (c d : CrewView) → IsCrewFor n tick first o c → IsSameCrew c d → IsCrewFor n tick first o d
same_for n tick first o c d h same = record {
  network = same.network ∙ h.network;
  bands = same.bands ∙ h.bands;
  start = same.start ∙ h.start;
  until = same.until ∙ h.until;
  quota = same.quota ∙ h.quota;
  slots = same.slots ∙ h.slots;
}

-- a history that was written to its end has no more events than any limit allows
few_events : {T : Type 0} (r : Result T Stop) (s : Scene) (sites : List SiteState) → IsLimited r s sites → s.limit ≤ 10000000 → OnOk r (length (events_of s sites) ≤ 10000000)
few_events (Ok x) s sites few small = omega (arith, few, small)
few_events (Err e) s sites few small = tt

leaves : {T : Type 0} (r : Result T Stop) (a : Asked) (d : CrewView) → IsCrewOf a d → OnOk r (d.horizon ≡ end_key (world_in d)) → OnOk r (length (events_by a) ≤ 10000000) → (IsErrOf r stop.Limit → IsPastLimit (scene_by a) d)
    → RunLeaves (run_ending a.options.limit r) a (left_by (run_ending a.options.limit r) d)
leaves (Ok x) a d h finished few past = (d, refl, h, finished, few)
leaves (Err stop.Limit) a d h finished few past = (d, refl, h, past refl)
leaves (Err stop.Write) a d h finished few past = refl
leaves (Err stop.Memory) a d h finished few past = refl

-- a run that has ended leaves its crew by how it ended
pub run_leaves : {T : Type 0} (r : Result T Stop) (a : Asked) (s : Scene) (c d : CrewView) (kept : Option CrewView) (e : Ending) (f n : ℕ) → s ≡ scene_by a → IsCrewOf a c → HasEnded r s c d f n → a.options.limit ≤ 10000000
    → kept ≡ left_by e d → e ≡ run_ending a.options.limit r → RunLeaves e a kept
run_leaves r a s c d kept e f n same_scene h has_ended small is ends =
    let t = scene_by a in
    let ended : HasEnded r t c d f n = subst (λ (x : Scene). HasEnded r x c d f n) same_scene has_ended in
    let few : OnOk r (length (events_by a) ≤ 10000000) =
    subst (λ (x : SurfaceView). OnOk r (length (events_of t x.sites) ≤ 10000000)) h.start (few_events r t c.start.sites ended.limited small) in
    subst (RunLeaves e a) (sym is)
    (subst (λ x. RunLeaves x a (left_by x d)) (sym ends) (leaves r a d (same_for t.network t.until (first_of a.manifest) a.options c d h ended.same) ended.finished few ended.past))

-- Nothing is left

-- where nothing runs
pub none_read : (f : Manifest → Option Asked) (read : Result Manifest ManifestFault) → ((m : Manifest) → f m ≡ None) → run_read f read ≡ None
none_read f (Ok m) h = h m
none_read f (Err fault) h = refl

-- after a fault of the source, and where memory ran out

pub memory_leaves : (a : Option Asked) (kept : Option CrewView) → kept ≡ None → Leaves ending.Memory a kept
memory_leaves (Some a) kept h = h
memory_leaves None kept h = h

pub read_leaves : (a : Option Asked) (kept : Option CrewView) → kept ≡ None → Leaves ending.ReadFault a kept
read_leaves (Some a) kept h = h
read_leaves None kept h = h

-- where there is a manifest
pub got_leaves : (e : Ending) (f : Manifest → Option Asked) (read : Result Manifest ManifestFault) (m : Manifest) (kept : Option CrewView) → read ≡ Ok m → Leaves e (f m) kept → Leaves e (run_read f read) kept
got_leaves e f read m kept is h = subst (λ (x : Result Manifest ManifestFault). Leaves e (run_read f x) kept) (sym is) h

-- where there is no manifest
pub unread_leaves : (e : Ending) (f : Manifest → Option Asked) (read : Result Manifest ManifestFault) (kept : Option CrewView) → IsNoManifest e read → kept ≡ None → Leaves e (run_read f read) kept
unread_leaves (ending.BadManifest fault) f read kept h none = subst (λ (x : Result Manifest ManifestFault). Leaves (ending.BadManifest fault) (run_read f x) kept) (sym h) none
unread_leaves ending.Memory f read kept h none = memory_leaves (run_read f read) kept none
unread_leaves ending.Done f read kept h none = absurd h
unread_leaves (ending.WrongWord index) f read kept h none = absurd h
unread_leaves ending.TooLong f read kept h none = absurd h
unread_leaves (ending.BadCircuit fault) f read kept h none = absurd h
unread_leaves (ending.BadNetlist fault) f read kept h none = absurd h
unread_leaves (ending.WrongInputs expected given) f read kept h none = absurd h
unread_leaves (ending.TooManySites sites) f read kept h none = absurd h
unread_leaves (ending.EventLimit limit) f read kept h none = absurd h
unread_leaves ending.ReadFault f read kept h none = absurd h
unread_leaves ending.WriteFault f read kept h none = absurd h

-- with more bytes than are read
pub too_long_leaves : (command : Words) (bytes : List ℕ) (kept : Option CrewView) → is_too_long command bytes ≡ true → kept ≡ None → Leaves ending.TooLong (run_to command bytes) kept
too_long_leaves command bytes kept long none = subst (λ b. Leaves ending.TooLong (cond b None (run_within command bytes)) kept) (sym long) none

-- where the source was not read whole
pub source_leaves : (e : Ending) (unread : Option (List ℕ)) (command : Words) (bytes : List ℕ) (kept : Option CrewView) → IsUnread e unread → (e ≡ ending.TooLong → is_too_long command bytes ≡ true) → kept ≡ None → Leaves e (run_to command bytes) kept
source_leaves ending.ReadFault unread command bytes kept u long none = read_leaves (run_to command bytes) kept none
source_leaves ending.Memory unread command bytes kept u long none = memory_leaves (run_to command bytes) kept none
source_leaves ending.TooLong unread command bytes kept u long none = too_long_leaves command bytes kept (long refl) none
source_leaves ending.Done unread command bytes kept u long none = absurd u
source_leaves (ending.WrongWord index) unread command bytes kept u long none = absurd u
source_leaves (ending.BadManifest fault) unread command bytes kept u long none = absurd u
source_leaves (ending.BadCircuit fault) unread command bytes kept u long none = absurd u
source_leaves (ending.BadNetlist fault) unread command bytes kept u long none = absurd u
source_leaves (ending.WrongInputs expected given) unread command bytes kept u long none = absurd u
source_leaves (ending.TooManySites sites) unread command bytes kept u long none = absurd u
source_leaves (ending.EventLimit limit) unread command bytes kept u long none = absurd u
source_leaves ending.WriteFault unread command bytes kept u long none = absurd u

-- with wrong words
pub wrong_leaves : (program : Program) (words : List (List ℕ)) (index : ℕ) (bytes : List ℕ) (kept : Option CrewView) → reading program words ≡ None → kept ≡ None → Leaves (ending.WrongWord index) (specified_run program words bytes) kept
wrong_leaves program words index bytes kept h none = subst (λ (o : Option Words). Leaves (ending.WrongWord index) (option_map_or (λ command. run_to command bytes) o None) kept) (sym h) none

-- What is left is that of the words

pub within_leaves : (command : Words) (bytes : List ℕ) (e : Ending) (kept : Option CrewView) → is_too_long command bytes ≡ false → Leaves e (run_within command bytes) kept → Leaves e (run_to command bytes) kept
within_leaves command bytes e kept short h = subst (λ b. Leaves e (cond b None (run_within command bytes)) kept) (sym short) h

pub accepted_leaves : (program : Program) (words : List (List ℕ)) (command : Words) (bytes : List ℕ) (e : Ending) (kept : Option CrewView) → reading program words ≡ Some command → Leaves e (run_to command bytes) kept → Leaves e (specified_run program words bytes) kept
accepted_leaves program words command bytes e kept is h = subst (λ (o : Option Words). Leaves e (option_map_or (λ said. run_to said bytes) o None) kept) (sym is) h

-- a command that reads nothing runs the same, whatever the bytes are
pub same_run : (command : Words) (xs ys : List ℕ) → reads command ≡ false → run_within command xs ≡ run_to command ys
same_run said.Check xs ys h = absurd (cc)
same_run said.Print xs ys h = absurd (cc)
same_run (said.Run workers seed until samples limit quota slots report) xs ys h = absurd (cc)
same_run (said.Compile inputs) xs ys h = absurd (cc)
same_run (said.Compact inputs) xs ys h = absurd (cc)
same_run (said.Value inputs) xs ys h = absurd (cc)
same_run (said.Ensemble workers seeds first until limit) xs ys h = absurd (cc)
same_run said.Bench xs ys h = absurd (cc)
same_run (said.Watch workers seed until samples limit quota slots viewers frames) xs ys h = absurd (cc)
same_run (said.Gen number) xs ys h = refl
same_run (said.Stress workers number) xs ys h = refl

-- The status

fault_keeps : (over : Bool) (a : Option Asked) (kept : Option CrewView) → (e : Ending) → ((x : Asked) → RunLeaves e x kept → ⊥) → Leaves e a kept → Keeps (limit_or_faulty over) a kept
fault_keeps true None kept e other h = h
fault_keeps false None kept e other h = h
fault_keeps true (Some a) kept e other h = absurd (other a h)
fault_keeps false (Some a) kept e other h = absurd (other a h)

-- what is left by an ending is left by its status
pub keeps : (e : Ending) (a : Option Asked) (kept : Option CrewView) → Leaves e a kept → Keeps (status_of e) a kept
keeps ending.Done (Some a) kept h = h
keeps ending.Done None kept h = h
keeps (ending.WrongWord index) (Some a) kept h = absurd h
keeps (ending.WrongWord index) None kept h = h
keeps ending.TooLong (Some a) kept h = absurd h
keeps ending.TooLong None kept h = h
keeps (ending.BadManifest fault) a kept h = fault_keeps (is_over fault.kind) a kept (ending.BadManifest fault) (λ x n. n) h
keeps (ending.BadCircuit fault) a kept h = fault_keeps (are_too_many fault.kind) a kept (ending.BadCircuit fault) (λ x n. n) h
keeps (ending.BadNetlist fault) a kept h = fault_keeps (has_too_many_nets fault.kind) a kept (ending.BadNetlist fault) (λ x n. n) h
keeps (ending.WrongInputs expected given) (Some a) kept h = absurd h
keeps (ending.WrongInputs expected given) None kept h = h
keeps (ending.TooManySites sites) (Some a) kept h = absurd h
keeps (ending.TooManySites sites) None kept h = h
keeps (ending.EventLimit limit) (Some a) kept h = h
keeps (ending.EventLimit limit) None kept h = h
keeps ending.ReadFault (Some a) kept h = h
keeps ending.ReadFault None kept h = h
keeps ending.WriteFault (Some a) kept h = h
keeps ending.WriteFault None kept h = h
keeps ending.Memory (Some a) kept h = h
keeps ending.Memory None kept h = h

pub memory_keeps : (a : Option Asked) (kept : Option CrewView) → kept ≡ None → Keeps status.Memory a kept
memory_keeps (Some a) kept h = h
memory_keeps None kept h = h

pub write_keeps : (a : Option Asked) (kept : Option CrewView) → kept ≡ None → Keeps status.WriteFault a kept
write_keeps (Some a) kept h = h
write_keeps None kept h = h
