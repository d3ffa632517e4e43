use Rattle.std.proofs.Common.{◌≡◌, ◌+◌, ◌<◌, List, [], ◌∷◌, map, sym, subst, arith}
use Rattle.std.specs.Vec.{vec_items}
use Rattle.std.specs.Global.{Global}
use Rattle.std.proofs.lemmas.List.{map-append}
use Rattle.surf_kinds.specs.declared.event.Event.{Event}
use Rattle.region_run.specs.declared.region.Region.{Region}
use Rattle.crew.specs.Calls.{IsOwnBelow, AreOwnBelow}
use Rattle.crew.proofs.Gathering.{own_more}
use Rattle.crew.proofs.commit.collect.Goals as goal

pub loop-i-preserved : goal.loop-i-preserved
loop-i-preserved c =
    rw c.in-Ok.ensures.items
    (subst (λ (lists : List (List Event)). AreOwnBelow c.args.key c.args.regions.now (c.loop-i.i + 1) lists) (sym (map-append (vec_items {X = Event} {Z = Global}) c.loop-i.lists.items (c.in_ok-own.own ∷ [])))
    (own_more c.args.key c.args.regions.now c.loop-i.i c.index-regions-i.result (map (vec_items {X = Event} {Z = Global}) c.loop-i.lists.items) c.in_ok-own.own.items (omega (arith, c.loop-i-test.true)) c.loop-i.invariant
    (subst (λ (r : Region). IsOwnBelow c.args.key r c.in_ok-own.own.items) c.index-regions-i.is c.in_ok-own.ensures)))
