-- The answer to the bytes that were read.
use Rattle.std.proofs.Common.{◌≡◌, ℕ, ◌<◌, ◌≤◌, Bool, true, false, cond, List, [], ◌++◌, length, take, Option, Some, None, refl, sym, ap, ◌∙◌, subst, arith, length-append}
use Rattle.std.specs.Prelude.{IfSome, nat_lt, unwrap_or, ◌&&◌}
use Rattle.std.specs.Option.{option_map_or}
use Rattle.std.specs.Io.KnownBytes.{Appends, Consumes}
use Rattle.std.proofs.lemmas.Bool.Decides.{nat_tests}
use Rattle.surface_words.specs.declared.commands.Program.{Program}
use Rattle.surface_words.specs.declared.words.Words.{Words}
use Rattle.surface_words.specs.declared.words.Words.TheVariants as said
use Rattle.surface_words.specs.FirstWrong.{first_wrong}
use Rattle.surface_words.specs.Accepted.{is_accepted}
use Rattle.surface_words.specs.Reading.{reading, reads, spelled_words}
use Rattle.surface_top.specs.declared.ending.Ending.{Ending}
use Rattle.surface_top.specs.declared.ending.Ending.TheVariants as ending
use Rattle.surface_top.specs.Answer.{Answer, TooLong, WrongWord, answer_within, answer_to, is_too_long, specified_answer}
use Rattle.surface_top.specs.Ending.{status_of, IsEndingOf, EndsAs, IsUnread}
use Rattle.surface_top.specs.Outcome.{OutGains}
use Rattle.surf_outside.proofs.LawLemmas.{wrote_nothing}

-- the bytes of a source: those that it tells, or else these
abbrev pub given : Option (List ℕ) → List ℕ → List ℕ
given unread bytes = unwrap_or unread bytes

pub given_agrees : (unread : Option (List ℕ)) (bytes : List ℕ) → IfSome unread (λ all. given unread bytes ≡ all)
given_agrees None bytes = tt
given_agrees (Some all) bytes = refl

-- nothing was read of the answer, and nothing written

pub ends_read_fault : (answer : List ℕ → Answer) (Besides : List ℕ → Type 0) (unread old : Option (List ℕ)) → ((bytes : List ℕ) → Besides bytes) → EndsAs answer Besides ending.ReadFault unread old old
ends_read_fault answer Besides unread old rest =
    record { bytes = given unread []; agrees = given_agrees unread []; is_of = tt; gains = (wrote_nothing old 0).gained; besides = rest (given unread []) }

pub ends_memory : (answer : List ℕ → Answer) (Besides : List ℕ → Type 0) (unread old : Option (List ℕ)) → ((bytes : List ℕ) → Besides bytes) → EndsAs answer Besides ending.Memory unread old old
ends_memory answer Besides unread old rest =
    record { bytes = given unread []; agrees = given_agrees unread []; is_of = tt; gains = (0, (wrote_nothing old 0).gained); besides = rest (given unread []) }

-- the answer is this one, which has no text
pub ends_bare : (answer : List ℕ → Answer) (Besides : List ℕ → Type 0) (e : Ending) (a : Answer) (bytes : List ℕ) (unread old : Option (List ℕ)) → answer (given unread bytes) ≡ a → IsEndingOf e a → OutGains (status_of e) a old old
    → Besides (given unread bytes) → EndsAs answer Besides e unread old old
ends_bare answer Besides e a bytes unread old is h g rest = record {
  bytes = given unread bytes;
  agrees = given_agrees unread bytes;
  is_of = subst (IsEndingOf e) (sym is) h;
  gains = subst (λ x. OutGains (status_of e) x old old) (sym is) g;
  besides = rest;
}

-- a source that gave more bytes has more
pub given_more : (unread rest : Option (List ℕ)) (bytes : List ℕ) (most : ℕ) → Consumes unread rest bytes → most < length bytes → most < length (given unread bytes)
given_more None rest bytes most taken more = more
given_more (Some all) None bytes most taken more = absurd taken
given_more (Some all) (Some left) bytes most taken more =
    let long = ap length taken in
    omega (arith, long, length-append bytes left, more)

too_long : (command : Words) (bytes : List ℕ) → reads command ≡ true → 67108864 < length bytes → is_too_long command bytes ≡ true
too_long command bytes h more =
    let test : nat_lt 67108864 (length bytes) ≡ true = grind (arith, nat_tests) in
    ap (λ b. b && nat_lt 67108864 (length bytes)) h ∙ test

pub short : (command : Words) (bytes : List ℕ) → reads command ≡ true → length bytes ≤ 67108864 → is_too_long command bytes ≡ false
short command bytes h few =
    let test : nat_lt 67108864 (length bytes) ≡ false = grind (arith, nat_tests) in
    ap (λ b. b && nat_lt 67108864 (length bytes)) h ∙ test

-- the source was not read whole
pub ends_unread : (words : List (List ℕ)) (command : Words) (Besides : List ℕ → Type 0) (e : Ending) (unread old : Option (List ℕ)) → reads command ≡ true → IsUnread e unread
    → ((bytes : List ℕ) → (e ≡ ending.TooLong → is_too_long command bytes ≡ true) → Besides bytes) → EndsAs (answer_to words command) Besides e unread old old
ends_unread words command Besides ending.ReadFault unread old h u besides = ends_read_fault (answer_to words command) Besides unread old (λ bytes. besides bytes (λ e. absurd (cc)))
ends_unread words command Besides ending.Memory unread old h u besides = ends_memory (answer_to words command) Besides unread old (λ bytes. besides bytes (λ e. absurd (cc)))
ends_unread words command Besides ending.TooLong unread old h u besides =
    let long = too_long command u.0 h u.2 in
    let is : answer_to words command u.0 ≡ TooLong = ap (λ b. cond b TooLong (answer_within command words u.0)) long in
    record {
      bytes = u.0;
      agrees = u.1;
      is_of = is;
      gains = subst (λ x. OutGains (status_of ending.TooLong) x old old) (sym is) ((wrote_nothing old 0).gained);
      besides = besides u.0 (λ e. long);
    }
ends_unread words command Besides ending.Done unread old h u besides = absurd u
ends_unread words command Besides (ending.WrongWord index) unread old h u besides = absurd u
ends_unread words command Besides (ending.BadManifest fault) unread old h u besides = absurd u
ends_unread words command Besides (ending.BadCircuit fault) unread old h u besides = absurd u
ends_unread words command Besides (ending.BadNetlist fault) unread old h u besides = absurd u
ends_unread words command Besides (ending.WrongInputs expected given) unread old h u besides = absurd u
ends_unread words command Besides (ending.TooManySites sites) unread old h u besides = absurd u
ends_unread words command Besides (ending.EventLimit limit) unread old h u besides = absurd u
ends_unread words command Besides ending.WriteFault unread old h u besides = absurd u

-- the text that was read is answered
pub ends_within : (words : List (List ℕ)) (command : Words) (Besides : List ℕ → Type 0) (text : List ℕ) (e : Ending) (unread old new : Option (List ℕ)) → reads command ≡ true → length text ≤ 67108864 → IfSome unread (λ all. text ≡ all)
    → IsEndingOf e (answer_within command words text) → OutGains (status_of e) (answer_within command words text) old new → Besides text → EndsAs (answer_to words command) Besides e unread old new
ends_within words command Besides text e unread old new h few agrees is gains rest =
    let same : answer_to words command text ≡ answer_within command words text = ap (λ b. cond b TooLong (answer_within command words text)) (short command text h few) in
    record {
      bytes = text;
      agrees = agrees;
      is_of = subst (IsEndingOf e) (sym same) is;
      gains = subst (λ x. OutGains (status_of e) x old new) (sym same) gains;
      besides = rest;
    }

-- accepted words are answered by what they say
pub ends_accepted : (program : Program) (words : List (List ℕ)) (command : Words) (Besides More : List ℕ → Type 0) (e : Ending) (unread old new : Option (List ℕ)) → reading program words ≡ Some command → EndsAs (answer_to words command) Besides e unread old new
    → ((bytes : List ℕ) → Besides bytes → More bytes) → EndsAs (specified_answer program words) More e unread old new
ends_accepted program words command Besides More e unread old new is h more =
    let same : specified_answer program words h.bytes ≡ answer_to words command h.bytes = ap (λ o. option_map_or (λ c. answer_to words c h.bytes) o (WrongWord (unwrap_or (first_wrong program words) 0))) is in
    record {
      bytes = h.bytes;
      agrees = h.agrees;
      is_of = subst (IsEndingOf e) (sym same) h.is_of;
      gains = subst (λ x. OutGains (status_of e) x old new) (sym same) h.gains;
      besides = more h.bytes h.besides;
    }

-- others by their first wrong one
pub ends_wrong : (program : Program) (words : List (List ℕ)) (Besides : List ℕ → Type 0) (index : ℕ) (unread old : Option (List ℕ)) → reading program words ≡ None → first_wrong program words ≡ Some index → ((bytes : List ℕ) → Besides bytes)
    → EndsAs (specified_answer program words) Besides (ending.WrongWord index) unread old old
ends_wrong program words Besides index unread old none first rest =
    ends_bare (specified_answer program words) Besides (ending.WrongWord index) (WrongWord index) [] unread old
    (ap (λ o. option_map_or (λ c. answer_to words c (given unread [])) o (WrongWord (unwrap_or (first_wrong program words) 0))) none ∙ ap (λ o. WrongWord (unwrap_or o 0)) first)
    refl ((wrote_nothing old 0).gained) (rest (given unread []))

-- a command that reads nothing has one answer, whatever the bytes are
same_answer : (words : List (List ℕ)) (command : Words) (xs ys : List ℕ) → reads command ≡ false → answer_within command words xs ≡ answer_to words command ys
same_answer words said.Check xs ys h = absurd (cc)
same_answer words said.Print xs ys h = absurd (cc)
same_answer words (said.Run workers seed until samples limit quota slots report) xs ys h = absurd (cc)
same_answer words (said.Compile inputs) xs ys h = absurd (cc)
same_answer words (said.Value inputs) xs ys h = absurd (cc)
same_answer words (said.Ensemble workers seeds first until limit) xs ys h = absurd (cc)
same_answer words said.Bench xs ys h = absurd (cc)
same_answer words (said.Compact inputs) xs ys h = absurd (cc)
same_answer words (said.Watch workers seed until samples limit quota slots viewers frames) xs ys h = absurd (cc)
same_answer words (said.Gen number) xs ys h = refl
same_answer words (said.Stress workers number) xs ys h = refl

pub ends_alone : (words : List (List ℕ)) (command : Words) (Besides : List ℕ → Type 0) (text : List ℕ) (e : Ending) (unread old new : Option (List ℕ)) → reads command ≡ false
    → IsEndingOf e (answer_within command words text) → OutGains (status_of e) (answer_within command words text) old new → ((bytes : List ℕ) → Besides bytes) → EndsAs (answer_to words command) Besides e unread old new
ends_alone words command Besides text e unread old new h is gains rest =
    let same = same_answer words command text (given unread []) h in
    record {
      bytes = given unread [];
      agrees = given_agrees unread [];
      is_of = subst (IsEndingOf e) same is;
      gains = subst (λ x. OutGains (status_of e) x old new) same gains;
      besides = rest (given unread []);
    }

-- words that aren't accepted say nothing
pub unread_words : (program : Program) (words : List (List ℕ)) → (is_accepted program words ≡ true → ⊥) → reading program words ≡ None
unread_words program words h = by (is_accepted program words) h
  where
    by : (b : Bool) → (b ≡ true → ⊥) → cond b (spelled_words program words) None ≡ None
    by true h = absurd (h refl)
    by false h = refl
