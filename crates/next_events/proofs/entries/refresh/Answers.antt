use Rattle.std.proofs.Common.{◌≡◌, Some, sym, ap, ◌∙◌}
use Rattle.lattice.specs.Shape.{Shape}
use Rattle.lattice.specs.Places.{sites_of}
use Rattle.lattice.proofs.LawLemmas.{first_below, second_below}
use Rattle.next_events.proofs.Refreshing.{round_one, round_two}
use Rattle.next_events.proofs.entries.refresh.Goals as goal

pub refresh_around-requires-clause-site : goal.refresh_around-requires-clause-site
refresh_around-requires-clause-site g c =
    let l = c.args.plan.now.lattice in
    let is : sites_of l c.args.place.0 ≡ Some c.in-Some.sites = ap (λ (s : Shape). sites_of s c.args.place.0) (sym c.lattice.ensures) ∙ sym c.in-Some.ensures in
    first_below l c.args.place.0 c.in-Some.sites is

pub refresh_around-requires-in-Some-second-clause-site : goal.refresh_around-requires-in-Some-second-clause-site
refresh_around-requires-in-Some-second-clause-site g c =
    let l = c.args.plan.now.lattice in
    let is : sites_of l c.args.place.0 ≡ Some c.in-Some.sites = ap (λ (s : Shape). sites_of s c.args.place.0) (sym c.lattice.ensures) ∙ sym c.in-Some.ensures in
    second_below l c.args.place.0 c.in-Some.sites c.in-Some-second.second is c.in-Some-second.is

pub returns-in-Some-second : goal.returns-in-Some-second
returns-in-Some-second g c =
    let l = c.args.plan.now.lattice in
    let is : sites_of l c.args.place.0 ≡ Some c.in-Some.sites = ap (λ (s : Shape). sites_of s c.args.place.0) (sym c.lattice.ensures) ∙ sym c.in-Some.ensures in
    round_two c.args.plan.now c.args.surface.now.sites (g.P.Places.has c.args.places) c.args.place.0 c.in-Some.sites c.in-Some-second.second c.args.queue.now c.refresh_place.new.queue c.refresh_around.new.queue c.refresh_around-in-Some-second.new.queue
    is c.in-Some-second.is c.requires.covers c.refresh_place.ensures c.refresh_around.ensures c.refresh_around-in-Some-second.ensures

pub returns-in_default-second : goal.returns-in_default-second
returns-in_default-second g c =
    let l = c.args.plan.now.lattice in
    let is : sites_of l c.args.place.0 ≡ Some c.in-Some.sites = ap (λ (s : Shape). sites_of s c.args.place.0) (sym c.lattice.ensures) ∙ sym c.in-Some.ensures in
    round_one c.args.plan.now c.args.surface.now.sites (g.P.Places.has c.args.places) c.args.place.0 c.in-Some.sites c.args.queue.now c.refresh_place.new.queue c.refresh_around.new.queue
    is c.in_default-second.is c.requires.covers c.refresh_place.ensures c.refresh_around.ensures
