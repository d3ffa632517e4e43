use Rattle.std.proofs.Common.{rules, ◌≡◌, ◌+◌, Ok, Err, ◌∷◌, map, string_bytes, sym, ap, ◌∙◌, arith}
use Rattle.std.proofs.lemmas.List.{nil_from_length}
use Rattle.surface_words.proofs.Runs.{run, comes_first, values_first, run_no_option, run_no_value, run_refused, run_onward}
use Rattle.surface_words.proofs.given.Given.read.Goals as goal

pub returns-in_default-next_option-clause-wrong : goal.returns-in_default-next_option-clause-wrong
returns-in_default-next_option-clause-wrong c =
    let rest : map string_bytes c.loop-name.rest.now ≡ c.as_str.result.now ∷ map string_bytes c.in-Some.others.now = search rules in
    let option = sym c.in_default-next_option.ensures in
    comes_first c.args.command (map string_bytes c.args.words.now) (Err c.loop-name.index)
    (sym (run_no_option c.args.command c.loop-name.given c.loop-name.index c.as_str.result.now (map string_bytes c.in-Some.others.now) option)
    ∙ ap (run c.args.command c.loop-name.given c.loop-name.index) (sym rest) ∙ c.loop-name.invariant.same)

pub returns-in_default-split_first-clause-wrong : goal.returns-in_default-split_first-clause-wrong
returns-in_default-split_first-clause-wrong c =
    let none = nil_from_length c.in-Some.others.now c.in_default-split_first.ensures.cases in
    let rest : map string_bytes c.loop-name.rest.now ≡ c.as_str.result.now ∷ map string_bytes c.in-Some.others.now = search rules in
    let option = sym c.in-Some-next_option.ensures in
    comes_first c.args.command (map string_bytes c.args.words.now) (Err (c.loop-name.index + 1))
    (sym (run_no_value c.args.command c.loop-name.given c.loop-name.index c.as_str.result.now c.in-Some-next_option.option option)
    ∙ ap (run c.args.command c.loop-name.given c.loop-name.index) (sym (rest ∙ ap (λ words. c.as_str.result.now ∷ map string_bytes words) none)) ∙ c.loop-name.invariant.same)

pub returns-in_default-with-clause-wrong : goal.returns-in_default-with-clause-wrong
returns-in_default-with-clause-wrong c =
    let after : map string_bytes c.in-Some.others.now ≡ c.as_str-in-Some.result.now ∷ map string_bytes c.in-Some-split_first.after.now = search rules in
    let rest : map string_bytes c.loop-name.rest.now ≡ c.as_str.result.now ∷ map string_bytes c.in-Some.others.now = search rules in
    comes_first c.args.command (map string_bytes c.args.words.now) (Err (c.loop-name.index + 1))
    (sym (run_refused c.args.command c.loop-name.given c.loop-name.index c.as_str.result.now c.as_str-in-Some.result.now (map string_bytes c.in-Some-split_first.after.now) c.in-Some-next_option.option (sym c.in-Some-next_option.ensures) (sym c.in_default-with.ensures))
    ∙ ap (run c.args.command c.loop-name.given c.loop-name.index) (sym (rest ∙ ap (λ words. c.as_str.result.now ∷ words) after)) ∙ c.loop-name.invariant.same)

pub loop-name-preserved : goal.loop-name-preserved
loop-name-preserved c =
    let after : map string_bytes c.in-Some.others.now ≡ c.as_str-in-Some.result.now ∷ map string_bytes c.in-Some-split_first.after.now = search rules in
    let rest : map string_bytes c.loop-name.rest.now ≡ c.as_str.result.now ∷ map string_bytes c.in-Some.others.now = search rules in
    record {
      same =
          sym (run_onward c.args.command c.loop-name.given c.in-Some-with.more c.loop-name.index c.as_str.result.now c.as_str-in-Some.result.now (map string_bytes c.in-Some-split_first.after.now) c.in-Some-next_option.option (sym c.in-Some-next_option.ensures) (sym c.in-Some-with.ensures))
          ∙ ap (run c.args.command c.loop-name.given c.loop-name.index) (sym (rest ∙ ap (λ words. c.as_str.result.now ∷ words) after)) ∙ c.loop-name.invariant.same;
      place = omega (arith, c.in-Some.ensures.cases, c.in-Some-split_first.ensures.cases, c.loop-name.invariant.place);
    }

pub returns-clause-right : goal.returns-clause-right
returns-clause-right c =
    let none = nil_from_length c.loop-name.rest.now c.in_default.ensures.cases in
    let outcome = comes_first c.args.command (map string_bytes c.args.words.now) (Ok c.loop-name.given)
    (ap (λ words. run c.args.command c.loop-name.given c.loop-name.index (map string_bytes words)) (sym none) ∙ c.loop-name.invariant.same) in
    outcome.0

pub returns-clause-values : goal.returns-clause-values
returns-clause-values c =
    let none = nil_from_length c.loop-name.rest.now c.in_default.ensures.cases in
    values_first c.args.command (map string_bytes c.args.words.now) c.loop-name.given
    (ap (λ words. run c.args.command c.loop-name.given c.loop-name.index (map string_bytes words)) (sym none) ∙ c.loop-name.invariant.same)
