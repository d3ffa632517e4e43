-- The outcome of a call, by how its work ended and what became of its message.
use Rattle.std.proofs.Common.{rules, ◌≡◌, ◌⊎◌, inl, inr, ℕ, Bool, true, false, List, [], ◌∷◌, ◌++◌, take, Option, ◌≤◌, length, arith, append-nil, refl, sym, ap, ◌∙◌, subst}
use Rattle.std.specs.Prelude.{codes, ◌≢◌}
use Rattle.std.specs.Io.KnownBytes.{Appends}
use Rattle.std.proofs.Math.Seq.{take-nil}
use Rattle.surf_outside.specs.Causes.{Rose}
use Rattle.surf_outside.specs.Known.{AppendsPrefix}
use Rattle.surf_outside.proofs.LawLemmas.{prefix_more, prefix_whole, appends_more}
use Rattle.surf_kinds.specs.declared.status.Status.{Status}
use Rattle.surf_kinds.specs.declared.status.Status.TheVariants as status
use Rattle.surface_top.specs.declared.ending.Ending.{Ending}
use Rattle.surface_top.specs.declared.ending.Ending.TheVariants as ending
use Rattle.surface_top.specs.Answer.{Answer, Text}
use Rattle.surface_top.specs.Ending.{status_of, answer_by, IsEndingOf, EndsAs}
use Rattle.surface_top.specs.Outcome.{is_over, are_too_many, has_too_many_nets, limit_or_faulty, own_status, IsStatusOf, answer_note, message, Gains, NotesGain, HasText, HasLines, HasWriteCause, SinkView, Outside, outside, IsOutcome}
use Rattle.surface_top.specs.Reporting.{Noted, Told}
use Rattle.surf_outside.proofs.LawLemmas.{wrote_nothing}
use Rattle.surface_top.proofs.Statuses.{status_is, message_is, out_prefix, complete_of, read_fault, write_fault, memory_message}

gains_nothing : (F : Type 0) (old new : Option (List ℕ)) → Gains F [] old new → Appends old new []
gains_nothing F old new g = subst (Appends old new) (take-nil g.prefix.0) g.prefix.1

noted_or : (F : Type 0) (over : Bool) (a : Answer) (lines : List ℕ) (old new : Option (List ℕ)) → Gains F (message (limit_or_faulty over) a) old new → NotesGain F (limit_or_faulty over) a lines old new
noted_or F true a lines old new g = g
noted_or F false a lines old new g = g

-- without lines of status 0 the notes gain the message
notes_are : (F : Type 0) (e : Ending) (a : Answer) (lines : List ℕ) (old new : Option (List ℕ)) → IsEndingOf e a → (e ≡ ending.Done → lines ≡ []) → Gains F (message (status_of e) a) old new → NotesGain F (status_of e) a lines old new
unfolding message
notes_are F ending.Done a lines old new h none g = subst (Appends old new) (sym (none refl)) (gains_nothing F old new (subst (λ text. Gains F text old new) (ap answer_note h.1) g))
notes_are F (ending.WrongWord index) a lines old new h none g = g
notes_are F ending.TooLong a lines old new h none g = g
notes_are F (ending.BadManifest fault) a lines old new h none g = noted_or F (is_over fault.kind) a lines old new g
notes_are F (ending.BadCircuit fault) a lines old new h none g = noted_or F (are_too_many fault.kind) a lines old new g
notes_are F (ending.BadNetlist fault) a lines old new h none g = noted_or F (has_too_many_nets fault.kind) a lines old new g
notes_are F (ending.WrongInputs expected given) a lines old new h none g = g
notes_are F (ending.TooManySites sites) a lines old new h none g = g
notes_are F (ending.EventLimit limit) a lines old new h none g = g
notes_are F ending.ReadFault a lines old new h none g = g
notes_are F ending.WriteFault a lines old new h none g = (0, g)
notes_are F ending.Memory a lines old new h none g = (0, g)

-- the message was written where nothing else was
silent : (answer : List ℕ → Answer) (Besides More : List ℕ → Type 0) (lines : List ℕ) (e : Ending) (s : Status) (line : List ℕ) (old new : Outside) → s ≡ status_of e → EndsAs answer Besides e old.source.unread old.out.written new.out.written
    → ((bytes : List ℕ) → Besides bytes → More bytes) → (e ≡ ending.Done → lines ≡ [])
    → line ≡ message (status_of e) (answer_by e) → Gains (Rose old.notes.faults new.notes.faults) line old.notes.written new.notes.written
    → (e ≡ ending.ReadFault → Rose old.source.faults new.source.faults) → (e ≡ ending.WriteFault → Rose old.out.faults new.out.faults) → IsOutcome answer More lines s old new
silent answer Besides More lines e s line old new same h more none is gains read write =
    let a = answer h.bytes in
    let F = Rose old.notes.faults new.notes.faults in
    subst (λ (x : Status). IsOutcome answer More lines x old new) (sym same) (record {
      bytes = h.bytes;
      agrees = h.agrees;
      is_of = status_is e a h.is_of;
      out_gains = h.gains;
      notes_gain = notes_are F e a lines old.notes.written new.notes.written h.is_of none (subst (λ text. Gains F text old.notes.written new.notes.written) (is ∙ message_is e a h.is_of) gains);
      cause = λ w. let k : e ≡ ending.WriteFault = write_fault e w in inl (subst (λ (x : Ending). IsEndingOf x a) k h.is_of, write k);
      besides = more h.bytes h.besides;
      complete = λ nr nw nn.
          complete_of (status_of e) a (Rose old.source.faults new.source.faults) (Rose old.out.faults new.out.faults)
          (status_is e a h.is_of) (λ r. read (read_fault e r)) (λ w. write (write_fault e w)) nr nw;
    })

-- after some of the lines
behind_lines : (F G : Type 0) (lines text : List ℕ) (old mid new : Option (List ℕ)) (n : ℕ) → Appends old mid (take n lines) → (F → G) → Gains F text mid new → Gains G (take n lines ++ text) old new
behind_lines F G lines text old mid new n some rise g = record {
  prefix = prefix_more old mid new (take n lines) text some g.prefix;
  whole = λ no. appends_more old mid new (take n lines) text some (g.whole (λ f. no (rise f)));
}

rose_later : (a b c : ℕ) → a ≤ b → Rose b c → Rose a c
rose_later a b c h r = omega (arith, h, r)

rose_before : (a b c : ℕ) → Rose a b → b ≤ c → Rose a c
rose_before a b c r h = omega (arith, h, r)

told_prefix : (lines : List ℕ) (e : Ending) (old mid : SinkView) → Noted e lines old mid → AppendsPrefix old.written mid.written lines
told_prefix lines ending.Done old mid h = prefix_whole old.written mid.written lines h
told_prefix lines ending.WriteFault old mid h = h.0
told_prefix lines ending.Memory old mid h = subst (λ (x : SinkView). AppendsPrefix old.written x.written lines) h (0, (wrote_nothing old.written 0).gained)
told_prefix lines (ending.WrongWord index) old mid h = absurd h
told_prefix lines ending.TooLong old mid h = absurd h
told_prefix lines (ending.BadManifest fault) old mid h = absurd h
told_prefix lines (ending.BadCircuit fault) old mid h = absurd h
told_prefix lines (ending.BadNetlist fault) old mid h = absurd h
told_prefix lines (ending.WrongInputs expected given) old mid h = absurd h
told_prefix lines (ending.TooManySites sites) old mid h = absurd h
told_prefix lines (ending.EventLimit limit) old mid h = absurd h
told_prefix lines ending.ReadFault old mid h = absurd h

some_lines : (a : Answer) (lines : List ℕ) → IsEndingOf ending.Done a → lines ≢ [] → HasLines a lines
some_lines a lines h some = subst (λ x. HasLines x lines) (sym h.1) some

-- the lines of a call that was done were written, or some of them, and then the message
spoken : (answer : List ℕ → Answer) (Besides More : List ℕ → Type 0) (lines : List ℕ) (e : Ending) (line : List ℕ) (old new : Outside) (mid : SinkView) → EndsAs answer Besides ending.Done old.source.unread old.out.written new.out.written
    → lines ≢ [] → Noted e lines old.notes mid → old.notes.faults ≤ mid.faults → ((bytes : List ℕ) → Besides bytes → More bytes)
    → line ≡ message (status_of e) (answer_by e) → Gains (Rose mid.faults new.notes.faults) line mid.written new.notes.written → mid.faults ≤ new.notes.faults → IsOutcome answer More lines (status_of e) old new
unfolding message
spoken answer Besides More lines ending.Done line old new mid h some noted low more is gains high =
    let a = answer h.bytes in
    record {
      bytes = h.bytes;
      agrees = h.agrees;
      is_of = status_is ending.Done a h.is_of;
      out_gains = h.gains;
      notes_gain = subst (Appends old.notes.written new.notes.written) (append-nil lines)
          (appends_more old.notes.written mid.written new.notes.written lines [] noted (gains_nothing (Rose mid.faults new.notes.faults) mid.written new.notes.written (subst (λ text. Gains (Rose mid.faults new.notes.faults) text mid.written new.notes.written) is gains)));
      cause = λ w. search rules;
      besides = more h.bytes h.besides;
      complete = λ nr nw nn. inl (sym (ap own_status h.is_of.1));
    }
spoken answer Besides More lines ending.WriteFault line old new mid h some noted low more is gains high =
    let a = answer h.bytes in
    let rose : Rose old.notes.faults new.notes.faults = rose_before old.notes.faults mid.faults new.notes.faults noted.1 high in
    record {
      bytes = h.bytes;
      agrees = h.agrees;
      is_of = tt;
      out_gains = out_prefix status.Done a old.out.written new.out.written h.gains;
      notes_gain = (
        noted.0.0,
        behind_lines (Rose mid.faults new.notes.faults) (Rose old.notes.faults new.notes.faults) lines _ old.notes.written mid.written new.notes.written noted.0.0 noted.0.1 (λ f. rose)
            (subst (λ text. Gains (Rose mid.faults new.notes.faults) text mid.written new.notes.written) is gains),
      );
      cause = λ w. inr (some_lines a lines h.is_of some, rose);
      besides = more h.bytes h.besides;
      complete = λ nr nw nn. absurd (nn (some_lines a lines h.is_of some) rose);
    }
spoken answer Besides More lines ending.Memory line old new mid h some noted low more is gains high =
    let a = answer h.bytes in
    record {
      bytes = h.bytes;
      agrees = h.agrees;
      is_of = tt;
      out_gains = out_prefix status.Done a old.out.written new.out.written h.gains;
      notes_gain = (0, subst (λ (x : SinkView). Gains (Rose x.faults new.notes.faults) (message status.Memory a) x.written new.notes.written) (sym noted) (subst (λ text. Gains (Rose mid.faults new.notes.faults) text mid.written new.notes.written) is gains));
      cause = λ w. search rules;
      besides = more h.bytes h.besides;
      complete = λ nr nw nn. inr refl;
    }
spoken answer Besides More lines (ending.WrongWord index) line old new mid h some noted low more is gains high = absurd noted
spoken answer Besides More lines ending.TooLong line old new mid h some noted low more is gains high = absurd noted
spoken answer Besides More lines (ending.BadManifest fault) line old new mid h some noted low more is gains high = absurd noted
spoken answer Besides More lines (ending.BadCircuit fault) line old new mid h some noted low more is gains high = absurd noted
spoken answer Besides More lines (ending.BadNetlist fault) line old new mid h some noted low more is gains high = absurd noted
spoken answer Besides More lines (ending.WrongInputs expected given) line old new mid h some noted low more is gains high = absurd noted
spoken answer Besides More lines (ending.TooManySites sites) line old new mid h some noted low more is gains high = absurd noted
spoken answer Besides More lines (ending.EventLimit limit) line old new mid h some noted low more is gains high = absurd noted
spoken answer Besides More lines ending.ReadFault line old new mid h some noted low more is gains high = absurd noted

-- the message of the ending was written, behind the lines if there are such
pub outcome_of : (answer : List ℕ → Answer) (Besides More : List ℕ → Type 0) (lines : List ℕ) (before after : Ending) (s : Status) (line : List ℕ) (old new : Outside) (mid : SinkView) → EndsAs answer Besides before old.source.unread old.out.written new.out.written
    → Told lines before after old.notes mid → s ≡ status_of after → ((bytes : List ℕ) → Besides bytes → More bytes)
    → line ≡ message (status_of after) (answer_by after) → Gains (Rose mid.faults new.notes.faults) line mid.written new.notes.written → mid.faults ≤ new.notes.faults
    → (before ≡ ending.ReadFault → Rose old.source.faults new.source.faults) → (before ≡ ending.WriteFault → Rose old.out.faults new.out.faults) → IsOutcome answer More lines s old new
outcome_of answer Besides More lines before after s line old new mid h (inl t) same more is gains high read write =
    silent answer Besides More lines before s line old new (same ∙ ap status_of t.0) h more t.2 (is ∙ ap (λ (e : Ending). message (status_of e) (answer_by e)) t.0)
    (subst (λ (x : SinkView). Gains (Rose x.faults new.notes.faults) line x.written new.notes.written) t.1 gains) read write
outcome_of answer Besides More lines before after s line old new mid h (inr t) same more is gains high read write =
    subst (λ (x : Status). IsOutcome answer More lines x old new) (sym same)
    (spoken answer Besides More lines after line old new mid (subst (λ (e : Ending). EndsAs answer Besides e old.source.unread old.out.written new.out.written) t.0 h) t.1 t.2 t.3 more is gains high)

any_prefix : (lines : List ℕ) (before after : Ending) (old mid : SinkView) → Told lines before after old mid → AppendsPrefix old.written mid.written lines × (old.faults ≤ mid.faults)
any_prefix lines before after old mid (inl t) = subst (λ (x : SinkView). AppendsPrefix old.written x.written lines × (old.faults ≤ x.faults)) (sym t.1) ((0, (wrote_nothing old.written 0).gained), omega arith)
any_prefix lines before after old mid (inr t) = (told_prefix lines after old mid t.2, t.3)

-- there was no memory for the message, and that is the status
pub outcome_memory : (answer : List ℕ → Answer) (Besides More : List ℕ → Type 0) (lines : List ℕ) (before after : Ending) (line : List ℕ) (old new : Outside) (mid : SinkView) → EndsAs answer Besides before old.source.unread old.out.written new.out.written
    → Told lines before after old.notes mid → ((bytes : List ℕ) → Besides bytes → More bytes) → line ≡ codes "memory" ++ 10 ∷ [] → Gains (Rose mid.faults new.notes.faults) line mid.written new.notes.written → IsOutcome answer More lines status.Memory old new
outcome_memory answer Besides More lines before after line old new mid h told more is gains =
    let a = answer h.bytes in
    let some = any_prefix lines before after old.notes mid told in
    record {
      bytes = h.bytes;
      agrees = h.agrees;
      is_of = tt;
      out_gains = out_prefix (status_of before) a old.out.written new.out.written h.gains;
      notes_gain = (
        some.0.0,
        behind_lines (Rose mid.faults new.notes.faults) (Rose old.notes.faults new.notes.faults) lines _ old.notes.written mid.written new.notes.written some.0.0 some.0.1 (rose_later old.notes.faults mid.faults new.notes.faults some.1)
            (subst (λ text. Gains (Rose mid.faults new.notes.faults) text mid.written new.notes.written) (is ∙ memory_message a) gains),
      );
      cause = λ w. search rules;
      besides = more h.bytes h.besides;
      complete = λ nr nw nn. inr refl;
    }
