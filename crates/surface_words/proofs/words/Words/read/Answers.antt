use Rattle.std.proofs.Common.{rules, ◌≡◌, ◌∷◌, Some, None, Err, map, string_bytes, refl, sym, ap, subst, ◌∙◌}
use Rattle.std.proofs.lemmas.List.{nil_from_length, length-map}
use Rattle.std.specs.Option.{is_none}
use Rattle.surface_words.specs.FirstWrong.{first_wrong}
use Rattle.surface_words.specs.Reading.{reading, IsInRange}
use Rattle.surface_words.proofs.FirstWrongs.{first_is, one_index, none_of_accepted}
use Rattle.surface_words.proofs.Readings.{reading_is}
use Rattle.surface_words.proofs.Ranges.{reading_within}
use Rattle.surface_words.proofs.Fits.{accepted_unless_wrong}
use Rattle.surface_words.proofs.words.Words.read.Goals as goal

pub returns-in_default-clause-first : goal.returns-in_default-clause-first
returns-in_default-clause-first c =
    let none = nil_from_length c.args.words.now c.in_default.ensures.cases in
    first_is c.args.program (map string_bytes c.args.words.now) 0 (ap (λ words. first_wrong c.args.program (map string_bytes words)) none)

pub returns-in-Ok-clause-ok : goal.returns-in-Ok-clause-ok
returns-in-Ok-clause-ok c =
    let all : map string_bytes c.args.words.now ≡ c.as_str.result.now ∷ map string_bytes c.in-Some.pairs.now = search rules in
    let right : first_wrong c.args.program (c.as_str.result.now ∷ map string_bytes c.in-Some.pairs.now) ≡ None = search rules in
    ap (reading c.args.program) all
    ∙ reading_is c.args.program c.as_str.result.now (map string_bytes c.in-Some.pairs.now) c.in-Some-read.command c.in-Ok.given (sym c.in-Some-read.ensures) right c.in-Ok.ensures.values
    ∙ ap (λ w. Some w) (sym c.of.ensures)

pub returns-in-Ok-clause-accepted : goal.returns-in-Ok-clause-accepted
returns-in-Ok-clause-accepted c =
    let right : first_wrong c.args.program (map string_bytes c.args.words.now) ≡ None = search rules in
    (λ _. accepted_unless_wrong c.args.program (map string_bytes c.args.words.now) ∙ ap is_none right, λ _. refl)

pub returns-in-Err-clause-accepted : goal.returns-in-Err-clause-accepted
returns-in-Err-clause-accepted c =
    let wrong : first_wrong c.args.program (map string_bytes c.args.words.now) ≡ Some c.in-Err.index = search rules in
    (λ h. absurd (cc), λ h. sym (ap is_none wrong) ∙ sym (accepted_unless_wrong c.args.program (map string_bytes c.args.words.now)) ∙ h)

pub returns-in-Err-clause-first : goal.returns-in-Err-clause-first
returns-in-Err-clause-first c =
    let wrong : first_wrong c.args.program (map string_bytes c.args.words.now) ≡ Some c.in-Err.index = search rules in
    first_is c.args.program (map string_bytes c.args.words.now) c.in-Err.index wrong

pub returns-in-Ok-clause-range : goal.returns-in-Ok-clause-range
returns-in-Ok-clause-range c =
    subst (λ count. IsInRange count c.of.result) (length-map c.args.words.now string_bytes) (reading_within c.args.program (map string_bytes c.args.words.now) c.of.result (returns-in-Ok-clause-ok c))

pub returns-in_default-clause-only : goal.returns-in_default-clause-only
returns-in_default-clause-only c i h =
    ap (λ index. Err index) (one_index c.args.program (map string_bytes c.args.words.now) 0 i (returns-in_default-clause-first c) h)

pub returns-in_default-read-clause-only : goal.returns-in_default-read-clause-only
returns-in_default-read-clause-only c i h =
    let wrong : first_wrong c.args.program (map string_bytes c.args.words.now) ≡ Some 0 = search rules in
    ap (λ index. Err index) (one_index c.args.program (map string_bytes c.args.words.now) 0 i (first_is c.args.program (map string_bytes c.args.words.now) 0 wrong) h)

pub returns-in-Ok-clause-only : goal.returns-in-Ok-clause-only
returns-in-Ok-clause-only c i h =
    absurd (none_of_accepted c.args.program (map string_bytes c.args.words.now) i ((returns-in-Ok-clause-accepted c).0 refl) h)

pub returns-in-Err-clause-only : goal.returns-in-Err-clause-only
returns-in-Err-clause-only c i h =
    ap (λ index. Err index) (one_index c.args.program (map string_bytes c.args.words.now) c.in-Err.index i (returns-in-Err-clause-first c) h)
