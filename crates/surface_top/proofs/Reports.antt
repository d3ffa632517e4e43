-- The report of the crew that a run leaves.
use Rattle.std.proofs.Common.{◌≡◌, ◌⊎◌, inl, inr, ℕ, ◌+◌, ◌<◌, ◌≤◌, min, Bool, true, false, cond, List, [], ◌++◌, ◌∷◌, length, Option, Some, None, refl, sym, ap, ◌∙◌, subst, arith}
use Rattle.std.specs.Prelude.{Result, Ok, Err, codes, All, IsSome, IfSome, ◌≢◌}
use Rattle.std.specs.Option.{option_map_or}
use Rattle.surf_outside.specs.Causes.{Rose}
use Rattle.surf_kinds.specs.declared.event.Event.{Event}
use Rattle.surf_kinds.specs.declared.site.SiteState.{SiteState}
use Rattle.surf_kinds.specs.declared.status.Status.{Status}
use Rattle.surf_kinds.specs.declared.status.Status.TheVariants as status
use Rattle.lattice.specs.Surface.{first_surface}
use Rattle.plan.specs.Network.{Network}
use Rattle.plan.specs.History.{history}
use Rattle.regions.specs.Bands.{Bands}
use Rattle.surface_state.specs.SurfaceView.{SurfaceView}
use Rattle.warp_core.specs.World.{end_key}
use Rattle.warp_core.specs.Configs.{IsFresh}
use Rattle.warp_core.proofs.LawLemmas.{fresh_sites}
use Rattle.crew.specs.declared.settings.Report.{Report}
use Rattle.crew.specs.Crews.{CrewView, species_of, world_in}
use Rattle.crew.specs.Reports.{report_of}
use Rattle.manifest_read.specs.declared.manifest.Manifest.{Manifest}
use Rattle.manifest_read.specs.declared.fault.ManifestFault.{ManifestFault}
use Rattle.manifest_read.specs.Manifest.{manifest_of}
use Rattle.surface_words.specs.declared.commands.Program.TheVariants.{Surface}
use Rattle.surface_words.specs.declared.words.Words.{Words}
use Rattle.surface_words.specs.declared.words.Words.TheVariants as said
use Rattle.surface_words.specs.Reading.{reading}
use Rattle.surface_top.specs.declared.call.ManifestJob.TheVariants as job
use Rattle.surface_top.specs.declared.run.RunOptions.{RunOptions}
use Rattle.surface_top.specs.declared.ending.Ending.{Ending}
use Rattle.surface_top.specs.declared.ending.Ending.TheVariants as ending
use Rattle.surface_top.specs.Answer.{Answer, TooLong, by_manifest, is_too_long, answer_within, answer_to, specified_answer}
use Rattle.surface_top.specs.Crewed.{first_of}
use Rattle.surface_top.specs.Ending.{IsEndingOf, EndsAs, status_of, answer_by}
use Rattle.surface_top.specs.Outcome.{message, Gains, SinkView, Outside, IsOutcome}
use Rattle.surface_top.specs.Kept.{Asked, IsCrewOf, scene_by, events_by, run_by, run_read, run_within, run_to, specified_run, Leaves, Keeps}
use Rattle.surface_top.specs.Reporting.{report_text, says_report, wants_report, lines_of, line_in, IsRightReport, IsReportOf, IsReportOfKept, IsReportIf, Noted, Told, Concluded}
use Rattle.run_writer.proofs.LawLemmas.{first_fresh}
use Rattle.surface_top.proofs.Leaving.{keeps, write_keeps, memory_keeps}
use Rattle.surface_top.proofs.Outcomes.{outcome_of, outcome_memory}
use Rattle.surface_top.proofs.Statuses.{done_is}

-- a crew of a run hands out the run's history
history_is : (a : Asked) (c : CrewView) → IsCrewOf a c → (world_in c).history ≡ events_by a
history_is a c h =
    let cells = a.manifest.cells in
    let from_start : (world_in c).start ≡ first_surface cells = ap (λ (x : SurfaceView). first_surface (species_of x)) h.start ∙ sym (fresh_sites (first_surface cells) (first_fresh cells)) in
    ap (λ (x : List SiteState). history c.network c.until x) from_start
    ∙ (ap (λ (n : Network). history n c.until (first_surface cells)) h.network
    ∙ ap (λ (u : ℕ). history (scene_by a).network u (first_surface cells)) h.until)

report_is : (a : Asked) (c : CrewView) → IsCrewOf a c → c.horizon ≡ end_key (world_in c) → length (events_by a) ≤ 10000000 → IsRightReport c → IsReportOf a (report_of c)
report_is a c h finished few right = record {
  regions = ap (λ (x : Bands). x.count) h.bands;
  committed = omega (arith, right.all finished, ap length (history_is a c h), few);
  rounds = right.few;
  fired = right.balanced finished;
}

-- some report with the right numbers
abbrev some_report : Option Asked → Report
some_report (Some a) = record { regions = min a.options.workers a.manifest.lattice.rows; rounds = 0; fired = length (events_by a); committed = length (events_by a); cancelled = 0 }
some_report None = record { regions = 0; rounds = 0; fired = 0; committed = 0; cancelled = 0 }

some_is : (a : Option Asked) → IsReportIf a (some_report a)
some_is (Some a) = record { regions = refl; committed = refl; rounds = omega arith; fired = λ h. omega arith }
some_is None = tt

text_some : (r : Report) → report_text r ≢ []
unfolding report_text
text_some r = λ e. cc

not_done : (s : Status) (kept : Option CrewView) (r : Report) → (s ≡ status.Done → ⊥) → IsReportOfKept true s kept r
not_done status.Done kept r other = absurd (other refl)
not_done status.Words kept r other = tt
not_done status.Faulty kept r other = tt
not_done status.Limit kept r other = tt
not_done status.ReadFault kept r other = tt
not_done status.WriteFault kept r other = tt
not_done status.Memory kept r other = tt

-- words that want a report and are done run a manifest
pub done_runs : (words : List (List ℕ)) (bytes : List ℕ) → wants_report Surface words ≡ true → IsEndingOf ending.Done (specified_answer Surface words bytes) → IsSome (specified_run Surface words bytes)
done_runs words bytes wants done = by _ (reading Surface words) wants done
  where
    of_manifest : (f : Manifest → Answer) (options : RunOptions) (r : Result Manifest ManifestFault) → IsEndingOf ending.Done (by_manifest f r) → IsSome (run_read (run_by (job.Run options)) r)
    of_manifest f options (Ok m) h = refl
    of_manifest f options (Err fault) h = let e = h.1 in absurd (cc)

    tested : (b : Bool) (a : Answer) (r : Option Asked) → (IsEndingOf ending.Done a → IsSome r) → IsEndingOf ending.Done (cond b TooLong a) → IsSome (cond b None r)
    tested true a r f h = let e = h.1 in absurd (cc)
    tested false a r f h = f h

    by : (wrong : Answer) (o : Option Words) → option_map_or says_report o false ≡ true → IsEndingOf ending.Done (option_map_or (λ c. answer_to words c bytes) o wrong) → IsSome (option_map_or (λ c. run_to c bytes) o None)
    by wrong None w h = absurd (cc)
    by wrong (Some (said.Run workers seed until samples limit quota slots report)) w h =
        let command = said.Run workers seed until samples limit quota slots report in
        tested (is_too_long command bytes) (answer_within command words bytes) (run_within command bytes) (of_manifest _ _ (manifest_of bytes)) h
    by wrong (Some command) w h = absurd (cc)

-- the line of the crew that was left was written, or some of it
pub told_line : (wants : Bool) (kept : Option CrewView) (crew : CrewView) (report : Report) (before after : Ending) (old mid : SinkView) → before ≡ ending.Done → wants ≡ true → kept ≡ Some crew → report ≡ report_of crew
    → Noted after (report_text report) old mid → old.faults ≤ mid.faults → Told (line_in wants kept) before after old mid
told_line wants kept crew report before after old mid done want is same noted later =
    let line : line_in wants kept ≡ report_text report = ap (λ w. line_in w kept) want ∙ (ap (line_in true) is ∙ ap report_text (sym same)) in
    subst (λ lines. Told lines before after old mid) (sym line) (inr (done, text_some report, noted, later))

pub right_of : (kept : Option CrewView) (crew : CrewView) → kept ≡ Some crew → IsRightReport crew → IfSome kept IsRightReport
right_of kept crew is right = subst (λ (o : Option CrewView). IfSome o IsRightReport) (sym is) right

-- What is said of the bytes of an ending may be said of these bytes alone.
pub at_own : (answer : List ℕ → Answer) (Besides : List ℕ → Type 0) (e : Ending) (unread old new : Option (List ℕ)) (h : EndsAs answer Besides e unread old new) → EndsAs answer (λ bytes. (bytes ≡ h.bytes) × Besides bytes) e unread old new
at_own answer Besides e unread old new h = record { bytes = h.bytes; agrees = h.agrees; is_of = h.is_of; gains = h.gains; besides = (refl, h.besides) }

-- How a call ended, was told and reported, and what it left then.
pub record Concludes (answer : List ℕ → Answer) (run : List ℕ → Option Asked) (wants : Bool) (before after : Ending) (kept left : Option CrewView) (old new : Outside) (mid : SinkView) : Type 0 where
  pub ends : EndsAs answer (λ bytes. Leaves before (run bytes) kept) before old.source.unread old.out.written new.out.written
  pub runs : (bytes : List ℕ) → wants ≡ true → IsEndingOf ending.Done (answer bytes) → IsSome (run bytes)
  pub told : Told (line_in wants kept) before after old.notes mid
  pub right : before ≡ ending.Done → wants ≡ true → IfSome kept IsRightReport
  pub same : after ≡ before → left ≡ kept
  pub none : (after ≡ before → ⊥) → left ≡ None
  pub read : before ≡ ending.ReadFault → Rose old.source.faults new.source.faults
  pub write : before ≡ ending.WriteFault → Rose old.out.faults new.out.faults

-- what a call that was told its lines leaves is left by its status
pub left_keeps : (before after : Ending) (a : Option Asked) (kept left : Option CrewView) (lines : List ℕ) (old mid : SinkView) → Told lines before after old mid → (after ≡ before → left ≡ kept) → ((after ≡ before → ⊥) → left ≡ None)
    → Leaves before a kept → Keeps (status_of after) a left
left_keeps before after a kept left lines old mid (inl t) same none h =
    subst (λ (o : Option CrewView). Keeps (status_of after) a o) (sym (same t.0)) (subst (λ (e : Ending). Keeps (status_of e) a kept) (sym t.0) (keeps before a kept h))
left_keeps before after a kept left lines old mid (inr t) same none h = noted after t.2 same none
  where
    noted : (e : Ending) → Noted e lines old mid → (e ≡ before → left ≡ kept) → ((e ≡ before → ⊥) → left ≡ None) → Keeps (status_of e) a left
    noted ending.Done n same none = subst (λ (o : Option CrewView). Keeps status.Done a o) (sym (same (sym t.0))) (keeps ending.Done a kept (subst (λ (x : Ending). Leaves x a kept) t.0 h))
    noted ending.WriteFault n same none = write_keeps a left (none (λ e. let f : ending.WriteFault ≡ ending.Done = e ∙ t.0 in absurd (cc)))
    noted ending.Memory n same none = memory_keeps a left (none (λ e. let f : ending.Memory ≡ ending.Done = e ∙ t.0 in absurd (cc)))
    noted (ending.WrongWord index) n same none = absurd n
    noted ending.TooLong n same none = absurd n
    noted (ending.BadManifest fault) n same none = absurd n
    noted (ending.BadCircuit fault) n same none = absurd n
    noted (ending.BadNetlist fault) n same none = absurd n
    noted (ending.WrongInputs expected given) n same none = absurd n
    noted (ending.TooManySites sites) n same none = absurd n
    noted (ending.EventLimit limit) n same none = absurd n
    noted ending.ReadFault n same none = absurd n

-- The report that the lines of a call are, with what holds of it, by the bytes that are spoken of.
record Reported (wants : Bool) (before after : Ending) (s : Status) (a : Option Asked) (left : Option CrewView) (old mid : SinkView) : Type 0 where
  report : Report
  of_kept : IsReportOfKept wants s left report
  right : IsReportIf a report
  told : Told (lines_of wants report) before after old mid

-- it is that of the crew where the call was done, and else any with the right numbers
reported : (wants : Bool) (before after : Ending) (a : Option Asked) (kept left : Option CrewView) (old mid : SinkView) → Told (line_in wants kept) before after old mid → Leaves before a kept → (before ≡ ending.Done → wants ≡ true → IsSome a)
    → (before ≡ ending.Done → wants ≡ true → IfSome kept IsRightReport) → (after ≡ before → left ≡ kept) → Reported wants before after (status_of after) a left old mid
reported false before after a kept left old mid told h some right same = record { report = some_report a; of_kept = tt; right = some_is a; told = told }
reported true before after a kept left old mid (inl t) h some right same = record {
  report = some_report a;
  of_kept = not_done (status_of after) left (some_report a) (λ e. undone (sym t.0 ∙ done_is after e));
  right = some_is a;
  told = inl (t.0, t.1, λ d. absurd (undone d));
}
  where
    of_crew : (a : Option Asked) (kept : Option CrewView) → IsSome a → Leaves ending.Done a kept → line_in true kept ≡ [] → ⊥
    of_crew None kept some l e = absurd (cc)
    of_crew (Some x) kept some l e = text_some (report_of l.0) (sym (ap (line_in true) l.1) ∙ e)

    undone : before ≡ ending.Done → ⊥
    undone d = of_crew a kept (some d refl) (subst (λ (x : Ending). Leaves x a kept) d h) (t.2 d)
reported true before after a kept left old mid (inr t) h some right same =
    of_crew a kept (some t.0 refl) (subst (λ (x : Ending). Leaves x a kept) t.0 h) (right t.0 refl) t.2 (λ e. same (e ∙ sym t.0))
  where
    of_kept : (e : Ending) (c : CrewView) (lines : List ℕ) → Noted e lines old mid → (e ≡ ending.Done → left ≡ Some c) → IsReportOfKept true (status_of e) left (report_of c)
    of_kept ending.Done c lines n same = subst (λ (o : Option CrewView). IsReportOfKept true status.Done o (report_of c)) (sym (same refl)) refl
    of_kept ending.WriteFault c lines n same = tt
    of_kept ending.Memory c lines n same = tt
    of_kept (ending.WrongWord index) c lines n same = absurd n
    of_kept ending.TooLong c lines n same = absurd n
    of_kept (ending.BadManifest fault) c lines n same = absurd n
    of_kept (ending.BadCircuit fault) c lines n same = absurd n
    of_kept (ending.BadNetlist fault) c lines n same = absurd n
    of_kept (ending.WrongInputs expected given) c lines n same = absurd n
    of_kept (ending.TooManySites sites) c lines n same = absurd n
    of_kept (ending.EventLimit limit) c lines n same = absurd n
    of_kept ending.ReadFault c lines n same = absurd n

    of_crew : (a : Option Asked) (kept : Option CrewView) → IsSome a → Leaves ending.Done a kept → IfSome kept IsRightReport → Noted after (line_in true kept) old mid → (after ≡ ending.Done → left ≡ kept) → Reported true before after (status_of after) a left old mid
    of_crew None kept some l right n same = absurd (cc)
    of_crew (Some x) kept some l right n same =
        let c : CrewView = l.0 in
        let noted : Noted after (report_text (report_of c)) old mid = subst (λ (o : Option CrewView). Noted after (line_in true o) old mid) l.1 n in
        record {
          report = report_of c;
          of_kept = of_kept after c (report_text (report_of c)) noted (λ e. same e ∙ l.1);
          right = report_is x c l.2 l.3 l.4 (subst (λ (o : Option CrewView). IfSome o IsRightReport) l.1 right);
          told = inr (t.0, text_some (report_of c), noted, t.3);
        }

-- the outcome of a call that was told its lines, and then its message
pub concludes : (answer : List ℕ → Answer) (run : List ℕ → Option Asked) (wants : Bool) (before after : Ending) (kept left final : Option CrewView) (s : Status) (old new : Outside) (mid : SinkView)
    → Concludes answer run wants before after kept left old new mid → Concluded after s left final mid new.notes
    → (report : Report) × IsReportOfKept wants s final report × IsOutcome answer (λ bytes. Keeps s (run bytes) final × IsReportIf (run bytes) report) (lines_of wants report) s old new
concludes answer run wants before after kept left final s old new mid h concluded = by concluded
  where
    own : EndsAs answer (λ bytes. (bytes ≡ h.ends.bytes) × Leaves before (run bytes) kept) before old.source.unread old.out.written new.out.written
    own = at_own answer (λ bytes. Leaves before (run bytes) kept) before old.source.unread old.out.written new.out.written h.ends

    r : Reported wants before after (status_of after) (run h.ends.bytes) left old.notes mid
    r = reported wants before after (run h.ends.bytes) kept left old.notes mid h.told h.ends.besides (λ d w. h.runs h.ends.bytes w (subst (λ (e : Ending). IsEndingOf e (answer h.ends.bytes)) d h.ends.is_of)) h.right h.same

    any_kept : (wants : Bool) (kept : Option CrewView) (r : Report) → IsReportOfKept wants status.Memory kept r
    any_kept true kept r = tt
    any_kept false kept r = tt

    by : Concluded after s left final mid new.notes → (report : Report) × IsReportOfKept wants s final report × IsOutcome answer (λ bytes. Keeps s (run bytes) final × IsReportIf (run bytes) report) (lines_of wants report) s old new
    by (inl t) = (
      r.report,
      subst (λ (o : Option CrewView). IsReportOfKept wants s o r.report) (sym t.1) (subst (λ (x : Status). IsReportOfKept wants x left r.report) (sym t.0) r.of_kept),
      outcome_of answer _ (λ bytes. Keeps s (run bytes) final × IsReportIf (run bytes) r.report) (lines_of wants r.report) before after s _ old new mid own r.told t.0
          (λ bytes k. (
            subst (λ (o : Option CrewView). Keeps s (run bytes) o) (sym t.1)
                (subst (λ (x : Status). Keeps x (run bytes) left) (sym t.0) (left_keeps before after (run bytes) kept left (lines_of wants r.report) old.notes mid r.told h.same h.none k.1)),
            subst (λ b. IsReportIf (run b) r.report) (sym k.0) r.right,
          ))
          refl t.2 t.3 h.read h.write,
    )
    by (inr t) = (
      r.report,
      subst (λ (x : Status). IsReportOfKept wants x final r.report) (sym t.0) (any_kept wants final r.report),
      subst (λ (x : Status). IsOutcome answer (λ bytes. Keeps x (run bytes) final × IsReportIf (run bytes) r.report) (lines_of wants r.report) x old new) (sym t.0)
          (outcome_memory answer _ (λ bytes. Keeps status.Memory (run bytes) final × IsReportIf (run bytes) r.report) (lines_of wants r.report) before after _ old new mid own r.told
          (λ bytes k. (memory_keeps (run bytes) final t.1, subst (λ b. IsReportIf (run b) r.report) (sym k.0) r.right))
          refl t.2),
    )
