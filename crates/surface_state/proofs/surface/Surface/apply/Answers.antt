use Rattle.std.proofs.Common.{◌≡◌, Some, length, sym, ap, subst, inr, ◌-◌, ◌^◌, ◌<◌, ◌*◌, ◌∙◌, arith}
use Rattle.std.specs.Prelude.{slice_get, IfSome, is_some}
use Rattle.lattice.specs.Places.{sites_of}
use Rattle.lattice.proofs.LawLemmas.{sites_differ, first_below, second_below, room_left, rewrite_other}
use Rattle.surface_state.specs.Changes.{state_at}
use Rattle.surface_state.specs.SurfaceView.{SurfaceView}
use Rattle.surface_state.proofs.Columns.{long_of}
use Rattle.surface_state.proofs.surface.Surface.apply.Goals as goal

pub rewrite-first-requires-clause-site : goal.rewrite-first-requires-clause-site
rewrite-first-requires-clause-site c =
    first_below c.args.self.now.lattice c.args.event.place.0 c.unwrap-place.result
    (ap (λ (v : SurfaceView). sites_of v.lattice c.args.event.place.0) (sym c.self.view_is) ∙ sym c.sites_of.ensures ∙ c.unwrap-place.ensures)

pub rewrite-requires-clause-site : goal.rewrite-requires-clause-site
rewrite-requires-clause-site c =
    subst (λ (v : SurfaceView). c.in-Some-Some.site.0 < v.lattice.rows * v.lattice.cols) (sym c.rewrite-first.ensures.surface)
    (second_below c.args.self.now.lattice c.args.event.place.0 c.unwrap-place.result c.in-Some-Some.site
    (ap (λ (v : SurfaceView). sites_of v.lattice c.args.event.place.0) (sym c.self.view_is) ∙ sym c.sites_of.ensures ∙ c.unwrap-place.ensures) c.in-Some-Some.is-0)

pub rewrite-requires-clause-room : goal.rewrite-requires-clause-room
rewrite-requires-clause-room c =
    let is : sites_of c.args.self.now.lattice c.args.event.place.0 ≡ Some c.unwrap-place.result =
    ap (λ (v : SurfaceView). sites_of v.lattice c.args.event.place.0) (sym c.self.view_is) ∙ sym c.sites_of.ensures ∙ c.unwrap-place.ensures in
    let below : c.in-Some-Some.site.0 < c.args.self.now.lattice.rows * c.args.self.now.lattice.cols =
    second_below c.args.self.now.lattice c.args.event.place.0 c.unwrap-place.result c.in-Some-Some.site is c.in-Some-Some.is-0 in
    let long : length c.args.self.now.sites ≡ c.args.self.now.lattice.rows * c.args.self.now.lattice.cols =
    subst (λ (v : SurfaceView). length v.sites ≡ v.lattice.rows * v.lattice.cols) c.self.view_is
    (long_of c.self.inside.lattice c.self.inside.species.items c.self.inside.marks.items c.self.inside.counts.items c.self.invariant) in
    subst (λ (v : SurfaceView). IfSome (slice_get v.sites c.in-Some-Some.site.0) (λ s. s.version < 2 ^ 64 - 1)) (sym c.rewrite-first.ensures.surface)
    (room_left (λ _. c.args.to.0) c.args.event.time c.unwrap-place.result.first.0 c.in-Some-Some.site.0 c.args.self.now.sites (omega (arith, below, long))
    (c.requires.room c.in-Some-Some.site.0 (record { sites = c.unwrap-place.result; is = is; among = inr c.in-Some-Some.is-0 })))

pub returns-in-Some-Some-clause-stood : goal.returns-in-Some-Some-clause-stood
returns-in-Some-Some-clause-stood c =
    let is : sites_of c.args.self.now.lattice c.args.event.place.0 ≡ Some c.unwrap-place.result =
    ap (λ (v : SurfaceView). sites_of v.lattice c.args.event.place.0) (sym c.self.view_is) ∙ sym c.sites_of.ensures ∙ c.unwrap-place.ensures in
    let place = c.unwrap-place.result in
    let site = c.in-Some-Some.site in
    let sites = c.args.self.now.sites in
    record {
      place = place;
      is = is;
      first = c.rewrite-first.ensures.stood;
      second =
          ap (state_at sites) c.in-Some-Some.is-0
          ∙ sym (rewrite_other (λ _. c.args.to.0) c.args.event.time place.first.0 (slice_get sites place.first.0) sites site.0 (sites_differ c.args.self.now.lattice c.args.event.place.0 place site is c.in-Some-Some.is-0))
          ∙ ap (λ (v : SurfaceView). slice_get v.sites site.0) (sym c.rewrite-first.ensures.surface)
          ∙ c.rewrite.ensures.stood;
      both = ap is_some (sym c.in-Some-Some.is-0);
    }
