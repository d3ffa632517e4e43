use Rattle.std.proofs.Common.{arith, take, rules, ◌∙◌}
use Rattle.region_run.proofs.Noted.{noted_all, noted_listed}
use Rattle.region_run.proofs.changes.note_site.Goals as goal

pub returns-clause-noted : goal.returns-clause-noted
returns-clause-noted c =
    noted_all c.args.at c.args.range c.args.queue.now c.args.lattice.now (take c.from.result c.places_of-around.result.list) c.args.site.0 c.loop-place.place-index c.args.changes.now.items c.loop-place.changes.items
    c.loop-place.invariant.places (omega (arith, c.loop-place-test.false)) c.loop-place.invariant.noted

pub loop-place-preserved : goal.loop-place-preserved
loop-place-preserved c =
    let inv = c.loop-place.invariant in
    record {
      places = inv.places;
      few = inv.few;
      noted = noted_listed c.args.at c.args.range c.args.queue.now (take c.from.result c.places_of-around.result.list) c.loop-place.place-index c.args.changes.now.items c.loop-place.changes.items c.note_place.new.changes.items inv.noted
          (search rules);
      len = omega (arith, c.note_place.ensures.len, inv.len);
      capacity = c.note_place.ensures.capacity ∙ inv.capacity;
    }
