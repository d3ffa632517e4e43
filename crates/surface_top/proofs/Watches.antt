-- What a watch leaves.
use Rattle.std.proofs.Common.{◌≡◌, ◌⊎◌, inl, inr, ℕ, zero, suc, ◌-◌, ◌<◌, ◌≤◌, Bool, true, false, cond, List, [], ◌++◌, ◌∷◌, length, map, Option, Some, None, refl, sym, ap, ◌∙◌, subst, arith, All, slice_index}
use Rattle.std.specs.Prelude.{codes, Result, Ok, Err, IfOk, IfSome, unwrap_or, take, nat_lt}
use Rattle.std.specs.Option.{option_map_or, option_map, option_and_then}
use Rattle.std.proofs.Math.ListN.{replicate}
use Rattle.std.proofs.lemmas.List.{length-replicate, get_or-replicate}
use Rattle.std.proofs.lemmas.List.Elements.{All-replicate}
use Rattle.std.specs.Str.{bytes_eq}
use Rattle.surf_outside.specs.Causes.{Rose}
use Rattle.surf_kinds.specs.declared.status.Status.{Status}
use Rattle.surf_kinds.specs.declared.status.Status.TheVariants as status
use Rattle.surf_kinds.specs.declared.site.SiteState.{SiteState}
use Rattle.lattice.specs.Surface.{first_surface}
use Rattle.frames.specs.declared.sample.Sample.{Sample}
use Rattle.watching.specs.Changes.{state_after}
use Rattle.watching.specs.Lines.{views_text, IsView, NeverFall}
use Rattle.watching.specs.Views.{AreViews}
use Rattle.crew.specs.Crews.{CrewView}
use Rattle.surface_words.specs.declared.commands.Program.TheVariants.{Watch}
use Rattle.surface_words.specs.declared.words.Words.{Words}
use Rattle.surface_words.specs.declared.words.Words.TheVariants as said
use Rattle.surface_words.specs.Accepted.{Pair, is_accepted, pairs_of}
use Rattle.surface_words.specs.Reading.{reading, reads, spelled_words, words_of, IsInRange}
use Rattle.run_writer.specs.declared.pages.Stop.{Stop}
use Rattle.run_writer.specs.declared.pages.Stop.TheVariants as stop
use Rattle.surface_top.specs.declared.ending.Ending.{Ending}
use Rattle.surface_top.specs.declared.ending.Ending.TheVariants as ending
use Rattle.watch_run.specs.declared.beside.Seats.{Seats}
use Rattle.run_writer.specs.RunText.{Scene, events_of, run_text}
use Rattle.manifest_read.specs.declared.manifest.Manifest.{Manifest}
use Rattle.manifest_read.specs.declared.fault.ManifestFault.{ManifestFault}
use Rattle.manifest_read.specs.Manifest.{manifest_of}
use Rattle.surface_top.specs.Answer.{Answer, WrongWord, EventLimit, Text, answer_within, by_manifest, run_answer, scene_of, specified_answer, is_too_long}
use Rattle.surface_top.specs.Ending.{EndsAs, IsAccepted, IsEndingOf, status_of, answer_by, run_ending}
use Rattle.surface_top.specs.Outcome.{message, Gains, SinkView, Outside, IsOutcome}
use Rattle.surface_top.specs.Kept.{Asked, scene_by, specified_run, run_to, run_within, Leaves, Keeps}
use Rattle.surface_top.specs.Reporting.{Told, Concluded}
use Rattle.surface_top.specs.Watched.{no_seats, seats_of, seats_within, IsWatch, AreLines, Shows, IsWatchedCall}
use Rattle.surface_top.proofs.Leaving.{memory_keeps}
use Rattle.surface_top.proofs.Outcomes.{outcome_of, outcome_memory}
use Rattle.surface_top.proofs.Reports.{at_own, left_keeps}

-- Some viewers may always have seen a run: they saw all of it on each line.

all_again : (n k : ℕ) → NeverFall n (replicate k n)
all_again n zero = tt
all_again n (suc k) = (omega arith, all_again n k)

rising_all : (n k : ℕ) → NeverFall 0 (replicate k n)
rising_all n zero = tt
rising_all n (suc k) = (omega arith, all_again n k)

sees_all : (frames all : ℕ) → 1 ≤ frames → IsView frames all (replicate frames all)
sees_all frames all some = record {
  number = length-replicate frames all;
  most = All-replicate (λ e. e ≤ all) frames all (omega arith);
  rise = rising_all all frames;
  last = get_or-replicate frames (frames - 1) all 0 (omega (arith, some));
}

pub some_lines : (seats : Seats) (a : Option Asked) → 1 ≤ seats.frames → (lines : List ℕ) × AreLines seats a lines
some_lines seats None some = ([], refl)
some_lines seats (Some a) some =
    let s = scene_by a in
    let first = first_surface a.manifest.cells in
    let es = events_of s first in
    let numbers : List (List ℕ) = replicate seats.viewers (replicate seats.frames (length es)) in
    let views = map (λ ks. map (λ e. state_after s.network.lattice s.network.rules (length s.names) first (take e es)) ks) numbers in (
      views_text s.names views,
      (
        views,
        record {
          numbers = numbers;
          count = length-replicate seats.viewers (replicate seats.frames (length es));
          each = All-replicate (IsView seats.frames (length es)) seats.viewers (replicate seats.frames (length es)) (sees_all seats.frames (length es) some);
          states = refl;
        },
        refl,
      ),
    )

-- What the program reads is a watch

pub only_watch : (words : List (List ℕ)) (saying : Words) → reading Watch words ≡ Some saying → IsWatch saying
only_watch words saying h = tested (is_accepted Watch words) words h
  where
    found : {C : Type 0} (f : C → List Pair → Words) (x : C) (b : Bool) (pairs : Option (List Pair)) → ((given : List Pair) → IsWatch (f x given)) → option_and_then (λ c. option_map (f c) pairs) (cond b (Some x) None) ≡ Some saying → IsWatch saying
    found f x false pairs is h = absurd (cc)
    found f x true None is h = absurd (cc)
    found f x true (Some given) is h = subst IsWatch (ap (λ (o : Option Words). unwrap_or o saying) h) (is given)

    tested : (b : Bool) (words : List (List ℕ)) → cond b (spelled_words Watch words) None ≡ Some saying → IsWatch saying
    tested false words h = absurd (cc)
    tested true [] h = absurd (cc)
    tested true (word ∷ words) h = found words_of _ (bytes_eq word (codes "watch")) (pairs_of words) (λ given. tt) h

-- it reads its manifest
pub reads_watch : (command : Words) → IsWatch command → reads command ≡ true
reads_watch (said.Watch workers seed until samples limit quota slots viewers frames) h = refl
reads_watch said.Check h = absurd h
reads_watch said.Print h = absurd h
reads_watch (said.Run workers seed until samples limit quota slots report) h = absurd h
reads_watch (said.Compile inputs) h = absurd h
reads_watch (said.Compact inputs) h = absurd h
reads_watch (said.Value inputs) h = absurd h
reads_watch (said.Gen number) h = absurd h
reads_watch (said.Stress workers number) h = absurd h
reads_watch (said.Ensemble workers seeds first until limit) h = absurd h
reads_watch said.Bench h = absurd h

-- each viewer takes a sample
pub takes_some : (command : Words) (count : ℕ) → IsWatch command → IsInRange count command → 1 ≤ (seats_within command).frames
takes_some (said.Watch workers seed until samples limit quota slots viewers frames) count h within = within.frames_at_least
takes_some said.Check count h within = absurd h
takes_some said.Print count h within = absurd h
takes_some (said.Run workers seed until samples limit quota slots report) count h within = absurd h
takes_some (said.Compile inputs) count h within = absurd h
takes_some (said.Compact inputs) count h within = absurd h
takes_some (said.Value inputs) count h within = absurd h
takes_some (said.Gen number) count h within = absurd h
takes_some (said.Stress workers number) count h within = absurd h
takes_some (said.Ensemble workers seeds first until limit) count h within = absurd h
takes_some said.Bench count h within = absurd h

-- What is shown is what the words ask for

pub shows_within : (command : Words) (bytes : List ℕ) (e : Ending) (lines : List ℕ) → is_too_long command bytes ≡ false → Shows e (seats_within command) (run_within command bytes) lines → Shows e (seats_within command) (run_to command bytes) lines
shows_within command bytes e lines short h = subst (λ b. Shows e (seats_within command) (cond b None (run_within command bytes)) lines) (sym short) h

pub shows_accepted : (words : List (List ℕ)) (command : Words) (bytes : List ℕ) (e : Ending) (lines : List ℕ) → reading Watch words ≡ Some command → Shows e (seats_within command) (run_to command bytes) lines → Shows e (seats_of words) (specified_run Watch words bytes) lines
shows_accepted words command bytes e lines is h =
    subst (λ (o : Option Words). Shows e (option_map_or seats_within o no_seats) (option_map_or (λ c. run_to c bytes) o None) lines) (sym is) h

pub some_accepted : (words : List (List ℕ)) (command : Words) (count : ℕ) (bytes : List ℕ) → reading Watch words ≡ Some command → IsInRange count command → (some : List ℕ) × AreLines (seats_of words) (specified_run Watch words bytes) some
some_accepted words command count bytes is within =
    subst (λ (o : Option Words). (some : List ℕ) × AreLines (option_map_or seats_within o no_seats) (option_map_or (λ c. run_to c bytes) o None) some) (sym is)
    (some_lines (seats_within command) (run_to command bytes) (takes_some command count (only_watch words command is) within))

pub some_wrong : (words : List (List ℕ)) (bytes : List ℕ) → reading Watch words ≡ None → (some : List ℕ) × AreLines (seats_of words) (specified_run Watch words bytes) some
some_wrong words bytes none =
    subst (λ (o : Option Words). (some : List ℕ) × AreLines (option_map_or seats_within o no_seats) (option_map_or (λ c. run_to c bytes) o None) some) (sym none) ([], refl)

-- Its words are accepted, so none of them is the answer

accepted_of : (e : Ending) (a : Answer) → ((index : ℕ) → a ≡ WrongWord index → ⊥) → IsEndingOf e a → IsAccepted e
accepted_of ending.Done a other h = tt
accepted_of (ending.WrongWord index) a other h = other index h
accepted_of ending.TooLong a other h = tt
accepted_of (ending.BadManifest fault) a other h = tt
accepted_of (ending.BadCircuit fault) a other h = tt
accepted_of (ending.BadNetlist fault) a other h = tt
accepted_of (ending.WrongInputs expected given) a other h = tt
accepted_of (ending.TooManySites sites) a other h = tt
accepted_of (ending.EventLimit limit) a other h = tt
accepted_of ending.ReadFault a other h = tt
accepted_of ending.WriteFault a other h = tt
accepted_of ending.Memory a other h = tt

run_no_word : (s : Scene) (m : Manifest) (index : ℕ) → run_answer s m ≡ WrongWord index → ⊥
run_no_word s m index h = by (nat_lt s.limit (length (events_of s (first_surface m.cells)))) h
  where
    by : (b : Bool) → cond b (EventLimit s.limit (run_text s (first_surface m.cells))) (Text (run_text s (first_surface m.cells))) ≡ WrongWord index → ⊥
    by true h = cc
    by false h = cc

manifest_no_word : (f : Manifest → Answer) (r : Result Manifest ManifestFault) (index : ℕ) → ((m : Manifest) → f m ≡ WrongWord index → ⊥) → by_manifest f r ≡ WrongWord index → ⊥
manifest_no_word f (Ok m) index other h = other m h
manifest_no_word f (Err fault) index other h = cc

pub watch_accepted : (command : Words) (words : List (List ℕ)) (bytes : List ℕ) (e : Ending) → IsWatch command → IsEndingOf e (answer_within command words bytes) → IsAccepted e
watch_accepted (said.Watch workers seed until samples limit quota slots viewers frames) words bytes e w h =
    accepted_of e (by_manifest (λ m. run_answer (scene_of seed until samples limit m) m) (manifest_of bytes))
    (λ index. manifest_no_word (λ m. run_answer (scene_of seed until samples limit m) m) (manifest_of bytes) index (λ m. run_no_word (scene_of seed until samples limit m) m index)) h
watch_accepted said.Check words bytes e w h = absurd w
watch_accepted said.Print words bytes e w h = absurd w
watch_accepted (said.Run workers seed until samples limit quota slots report) words bytes e w h = absurd w
watch_accepted (said.Compile inputs) words bytes e w h = absurd w
watch_accepted (said.Compact inputs) words bytes e w h = absurd w
watch_accepted (said.Value inputs) words bytes e w h = absurd w
watch_accepted (said.Gen number) words bytes e w h = absurd w
watch_accepted (said.Stress workers number) words bytes e w h = absurd w
watch_accepted (said.Ensemble workers seeds first until limit) words bytes e w h = absurd w
watch_accepted said.Bench words bytes e w h = absurd w

-- How a call ends

done_or : (e : Ending) → (e ≡ ending.Done) ⊎ (e ≡ ending.Done → ⊥)
done_or ending.Done = inl refl
done_or (ending.WrongWord index) = inr (λ e. cc)
done_or ending.TooLong = inr (λ e. cc)
done_or (ending.BadManifest fault) = inr (λ e. cc)
done_or (ending.BadCircuit fault) = inr (λ e. cc)
done_or (ending.BadNetlist fault) = inr (λ e. cc)
done_or (ending.WrongInputs expected given) = inr (λ e. cc)
done_or (ending.TooManySites sites) = inr (λ e. cc)
done_or (ending.EventLimit limit) = inr (λ e. cc)
done_or ending.ReadFault = inr (λ e. cc)
done_or ending.WriteFault = inr (λ e. cc)
done_or ending.Memory = inr (λ e. cc)

-- what is so of a run that went to its end
pub shown_by : {T : Type 0} (r : Result T Stop) (limit : ℕ) (e : Ending) (P Q : T → Type 0) → e ≡ run_ending limit r → e ≡ ending.Done → IfOk r P → IfOk r Q → (x : T) × P x × Q x
shown_by (Ok x) limit e P Q is done p q = (x, p, q)
shown_by (Err stop.Limit) limit e P Q is done p q = absurd (cc)
shown_by (Err stop.Write) limit e P Q is done p q = absurd (cc)
shown_by (Err stop.Memory) limit e P Q is done p q = absurd (cc)

-- the lines that a call ends with are its viewers' where it is done, and else any such lines
chosen : (e after : Ending) (seats : Seats) (a : Option Asked) (lines : List ℕ) (old mid : SinkView) → Shows e seats a lines → (some : List ℕ) × AreLines seats a some → Told lines e after old mid → (these : List ℕ) × AreLines seats a these × Told these e after old mid
chosen e after seats a lines old mid shown some told = by (done_or e) told
  where
    by : (e ≡ ending.Done) ⊎ (e ≡ ending.Done → ⊥) → Told lines e after old mid → (these : List ℕ) × AreLines seats a these × Told these e after old mid
    by (inl done) told = (lines, shown done, told)
    by (inr other) (inl t) = (some.0, some.1, inl (t.0, t.1, λ d. absurd (other d)))
    by (inr other) (inr t) = absurd (other t.0)

-- what is left and shown of a run
abbrev pub Watches : List (List ℕ) → Ending → Option CrewView → List ℕ → List ℕ → Type 0
Watches words e kept lines bytes = Leaves e (specified_run Watch words bytes) kept × Shows e (seats_of words) (specified_run Watch words bytes) lines

-- the outcome of a watch that was told its viewers' lines, and then its message
pub watch_concludes : (words : List (List ℕ)) (before after : Ending) (kept left final : Option CrewView) (lines : List ℕ) (s : Status) (old new : Outside) (mid : SinkView)
    → EndsAs (specified_answer Watch words) (Watches words before kept lines) before old.source.unread old.out.written new.out.written
    → ((bytes : List ℕ) → (some : List ℕ) × AreLines (seats_of words) (specified_run Watch words bytes) some) → Told lines before after old.notes mid
    → (after ≡ before → left ≡ kept) → ((after ≡ before → ⊥) → left ≡ None) → (before ≡ ending.ReadFault → Rose old.source.faults new.source.faults) → (before ≡ ending.WriteFault → Rose old.out.faults new.out.faults)
    → Concluded after s left final mid new.notes → IsWatchedCall words s final old new
watch_concludes words before after kept left final lines s old new mid ends some told same none read write concluded = by concluded
  where
    own : EndsAs (specified_answer Watch words) (λ bytes. (bytes ≡ ends.bytes) × Watches words before kept lines bytes) before old.source.unread old.out.written new.out.written
    own = at_own (specified_answer Watch words) (Watches words before kept lines) before old.source.unread old.out.written new.out.written ends

    asked : Option Asked
    asked = specified_run Watch words ends.bytes

    these : (these : List ℕ) × AreLines (seats_of words) asked these × Told these before after old.notes mid
    these = chosen before after (seats_of words) asked lines old.notes mid ends.besides.1 (some ends.bytes) told

    by : Concluded after s left final mid new.notes → IsWatchedCall words s final old new
    by (inl t) = (
      these.0,
      outcome_of (specified_answer Watch words) _ (λ bytes. Keeps s (specified_run Watch words bytes) final × AreLines (seats_of words) (specified_run Watch words bytes) these.0) these.0 before after s _ old new mid own these.2 t.0
          (λ bytes k. (
            subst (λ (o : Option CrewView). Keeps s (specified_run Watch words bytes) o) (sym t.1)
                (subst (λ (x : Status). Keeps x (specified_run Watch words bytes) left) (sym t.0) (left_keeps before after (specified_run Watch words bytes) kept left these.0 old.notes mid these.2 same none k.1.0)),
            subst (λ b. AreLines (seats_of words) (specified_run Watch words b) these.0) (sym k.0) these.1,
          ))
          refl t.2 t.3 read write,
    )
    by (inr t) = (
      these.0,
      subst (λ (x : Status). IsOutcome (specified_answer Watch words) (λ bytes. Keeps x (specified_run Watch words bytes) final × AreLines (seats_of words) (specified_run Watch words bytes) these.0) these.0 x old new) (sym t.0)
          (outcome_memory (specified_answer Watch words) _ (λ bytes. Keeps status.Memory (specified_run Watch words bytes) final × AreLines (seats_of words) (specified_run Watch words bytes) these.0) these.0 before after _ old new mid own these.2
          (λ bytes k. (memory_keeps (specified_run Watch words bytes) final t.1, subst (λ b. AreLines (seats_of words) (specified_run Watch words b) these.0) (sym k.0) these.1))
          refl t.2),
    )
