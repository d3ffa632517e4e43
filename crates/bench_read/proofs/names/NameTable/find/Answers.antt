use Rattle.std.specs.Str.{bytes_eq}
use Rattle.std.proofs.Common.{◌≡◌, Some, None, position, ◌∙◌, ap}
use Rattle.species.proofs.LawLemmas.{position-map, found, missing}
use Rattle.bench_read.proofs.names.NameTable.find.Goals as goal

pub returns-in-Some-clause-index : goal.returns-in-Some-clause-index
returns-in-Some-clause-index c =
    let at : Some c.in-Some.index ≡ position (bytes_eq c.args.name.now) c.args.self.now = rw (← c.self.view_is, position-map (λ k. k.now) (bytes_eq c.args.name.now) c.self.inside.names.keys) c.in-Some.ensures.index in
    (found c.args.self.now c.args.name.now c.in-Some.index at).0

pub returns-in-Some-clause-some : goal.returns-in-Some-clause-some
returns-in-Some-clause-some c =
    let at : Some c.in-Some.index ≡ position (bytes_eq c.args.name.now) c.args.self.now = rw (← c.self.view_is, position-map (λ k. k.now) (bytes_eq c.args.name.now) c.self.inside.names.keys) c.in-Some.ensures.index in
    (found c.args.self.now c.args.name.now c.in-Some.index at).1

pub returns-in-None-clause-none : goal.returns-in-None-clause-none
returns-in-None-clause-none c =
    let at : None ≡ position (bytes_eq c.args.name.now) c.args.self.now = rw (← c.self.view_is, position-map (λ k. k.now) (bytes_eq c.args.name.now) c.self.inside.names.keys) c.in-None.ensures.index in
    missing c.args.self.now c.args.name.now at
