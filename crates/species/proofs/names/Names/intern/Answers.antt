use Rattle.std.proofs.Common.{◌≡◌, eq-eqb, ne_eqb, length, None, sym, ap, refl, ◌∙◌}
use Rattle.species.specs.Names.{with_name, number_of}
use Rattle.species.proofs.NameLists.{with_name-known, with_name-new, number-new, place-known, not_full-known, not_full-room, full}
use Rattle.species.proofs.names.Names.intern.Goals as goal

pub returns-in-Some-clause-names : goal.returns-in-Some-clause-names
returns-in-Some-clause-names c = sym (with_name-known c.args.self.now c.args.name.now c.in-Some.id (sym c.in-Some.ensures))

pub returns-in-Some-clause-place : goal.returns-in-Some-clause-place
returns-in-Some-clause-place c = (place-known c.args.self.now c.args.name.now c.in-Some.id (sym c.in-Some.ensures)).0

pub returns-in-Some-clause-room : goal.returns-in-Some-clause-room
returns-in-Some-clause-room c =
    not_full-known c.args.self.now c.args.name.now (place-known c.args.self.now c.args.name.now c.in-Some.id (sym c.in-Some.ensures)).1

pub returns-clause-id : goal.returns-clause-id
returns-clause-id c =
    let none : number_of c.args.self.now c.args.name.now ≡ None = sym c.in_default.ensures in
    let names : c.add.new.self ≡ with_name c.args.self.now c.args.name.now
    = c.in_ok-add.ensures.texts ∙ ap (λ t. with_name t c.args.name.now) c.self.view_is in
    let count : length c.args.self.now ≡ c.count-index.result = ap length (sym c.self.view_is) ∙ sym c.count-index.ensures.count in
    rw (names, with_name-new _ _ none, number-new _ _ none, count) refl

pub returns-clause-place : goal.returns-clause-place
returns-clause-place c = (place-known c.add.new.self c.args.name.now _ (returns-clause-id c)).0

pub returns-clause-room : goal.returns-clause-room
returns-clause-room c =
    let count : length c.args.self.now ≡ c.count-index.result = ap length (sym c.self.view_is) ∙ sym c.count-index.ensures.count in
    not_full-room c.args.self.now c.args.name.now (ne_eqb (length c.args.self.now) 4096 (λ e. c.if-index-eq-MOST_NAMES.false (sym count ∙ e)))

pub returns-then-index-eq-MOST_NAMES-clause-full : goal.returns-then-index-eq-MOST_NAMES-clause-full
returns-then-index-eq-MOST_NAMES-clause-full c = λ _.
    let count : length c.args.self.now ≡ c.count-index.result = ap length (sym c.self.view_is) ∙ sym c.count-index.ensures.count in
    full c.args.self.now c.args.name.now (sym c.in_default.ensures) (eq-eqb _ 4096 (count ∙ c.if-index-eq-MOST_NAMES.true))
