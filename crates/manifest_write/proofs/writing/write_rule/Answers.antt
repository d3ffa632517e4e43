use Rattle.std.proofs.Common.{ℕ, List, ◌++◌, ◌∷◌, [], codes, sym, ap, ◌∙◌}
use Rattle.surf_kinds.specs.Rates.{Fraction}
use Rattle.surface_rows.specs.Rows.{name_of}
use Rattle.surf_outside.proofs.LawLemmas.{wrote_by, puts_as, puts_after, fails_within}
use Rattle.manifest_write.specs.Canon.{rate_text, rule_line}
use Rattle.manifest_write.proofs.Spellings.Loops.{ended}
use Rattle.manifest_write.proofs.Spellings.Forms.{one-rule, two-rule}
use Rattle.manifest_write.proofs.writing.write_rule.Goals as goal

abbrev front : Fraction → List ℕ
front rate = codes "(" ++ rate_text rate ++ codes ") "

abbrev sides : List ℕ → List ℕ → List ℕ → List ℕ → List ℕ
sides a b c d = a ++ (codes " + " ++ (b ++ (codes " -> " ++ (c ++ (codes " + " ++ (d ++ 10 ∷ []))))))

pub returns-in_err-put_rate-in-One : goal.returns-in_err-put_rate-in-One
returns-in_err-put_rate-in-One g c =
    let names = c.args.names.now in
    let r = c.in-One in
    puts_as (ended (rule_line names c.args.rule.now))
    (one-rule (front r.rate) (name_of names r.a) (codes " -> ") (name_of names r.c) ∙ ap (λ x. ended (rule_line names x)) (sym r.is))
    (fails_within _ (name_of names r.a ++ (codes " -> " ++ (name_of names r.c ++ 10 ∷ []))) c.from_residual.result c.from_residual.ensures.1 c.in_err-put_rate-in-One.ensures)

pub returns-in_err-put_rate-in-Two : goal.returns-in_err-put_rate-in-Two
returns-in_err-put_rate-in-Two g c =
    let names = c.args.names.now in
    let r = c.in-Two in
    puts_as (ended (rule_line names c.args.rule.now))
    (two-rule (front r.rate) (name_of names r.a) (codes " + ") (name_of names r.b) (codes " -> ") (name_of names r.c) (name_of names r.d) ∙ ap (λ x. ended (rule_line names x)) (sym r.is))
    (fails_within _ (sides (name_of names r.a) (name_of names r.b) (name_of names r.c) (name_of names r.d)) c.from_residual-in_err-put_rate-in-Two.result c.from_residual-in_err-put_rate-in-Two.ensures.1 c.in_err-put_rate-in-Two.ensures)

pub returns-in_ok-put_rate-in-One : goal.returns-in_ok-put_rate-in-One
returns-in_ok-put_rate-in-One g c =
    let names = c.args.names.now in
    let r = c.in-One in
    puts_as (ended (rule_line names c.args.rule.now))
    (ap (λ a. front r.rate ++ (a ++ (codes " -> " ++ (c.name_bytes-c.result.now ++ 10 ∷ [])))) c.name_bytes-a.ensures
    ∙ ap (λ t. front r.rate ++ (name_of names r.a ++ (codes " -> " ++ (t ++ 10 ∷ [])))) c.name_bytes-c.ensures
    ∙ one-rule (front r.rate) (name_of names r.a) (codes " -> ") (name_of names r.c) ∙ ap (λ x. ended (rule_line names x)) (sym r.is))
    (puts_after c.put_pieces.result (wrote_by c.in_ok-put_rate-in-One.ensures) c.put_pieces.ensures)

pub returns-in_ok-put_rate-in-Two : goal.returns-in_ok-put_rate-in-Two
returns-in_ok-put_rate-in-Two g c =
    let names = c.args.names.now in
    let r = c.in-Two in
    let s = c.name_bytes-a-in-Two.result.now in
    let t = c.name_bytes-b.result.now in
    let u = c.name_bytes-c-in-Two.result.now in
    let v = c.name_bytes-d.result.now in
    puts_as (ended (rule_line names c.args.rule.now))
    (ap (λ x. front r.rate ++ sides x t u v) c.name_bytes-a-in-Two.ensures
    ∙ ap (λ x. front r.rate ++ sides (name_of names r.a) x u v) c.name_bytes-b.ensures
    ∙ ap (λ x. front r.rate ++ sides (name_of names r.a) (name_of names r.b) x v) c.name_bytes-c-in-Two.ensures
    ∙ ap (λ x. front r.rate ++ sides (name_of names r.a) (name_of names r.b) (name_of names r.c) x) c.name_bytes-d.ensures
    ∙ two-rule (front r.rate) (name_of names r.a) (codes " + ") (name_of names r.b) (codes " -> ") (name_of names r.c) (name_of names r.d) ∙ ap (λ x. ended (rule_line names x)) (sym r.is))
    (puts_after c.put_pieces-in-Two.result (wrote_by c.in_ok-put_rate-in-Two.ensures) c.put_pieces-in-Two.ensures)
