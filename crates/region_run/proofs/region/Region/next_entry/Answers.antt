use Rattle.std.proofs.Common.{◌≡◌, ℕ, List, Option, None, sym, ap, ◌∙◌, subst}
use Rattle.std.specs.Prelude.{IfSome, IfNone}
use Rattle.surf_kinds.specs.declared.event.Event.{Event}
use Rattle.surf_kinds.specs.declared.event.Key.{Key}
use Rattle.surf_kinds.specs.Keys.{from, RiseStrictly}
use Rattle.border.specs.Stacked.{stack_of}
use Rattle.warp_core.specs.Parts.{IsNextEntry, HasNoEntry}
use Rattle.warp_core.specs.Choices.{earlier_due_of}
use Rattle.region_run.specs.Choices.{first_of}
use Rattle.region_run.specs.Regions.{world_at, part_of}
use Rattle.region_run.proofs.Nexts.{best_is, some_next, none_next}
use Rattle.region_run.proofs.region.Region.next_entry.Goals as goal

-- the three choices together
chosen : (clock : Key) (until : ℕ) (o own first best second result : Option Event) (s0 s1 t0 t1 : List Event)
    → own ≡ earlier_due_of clock until None o → first ≡ first_of (from clock t0) → t0 ≡ s0 → best ≡ earlier_due_of clock until own first → second ≡ first_of (from clock t1) → t1 ≡ s1 → result ≡ earlier_due_of clock until best second
    → earlier_due_of clock until (earlier_due_of clock until (earlier_due_of clock until None o) (first_of (from clock s0))) (first_of (from clock s1)) ≡ result
chosen clock until o own first best second result s0 s1 t0 t1 a b c d e f g =
    sym (g ∙ (ap (λ y. earlier_due_of clock until y second) (d ∙ (ap (λ y. earlier_due_of clock until y first) a ∙ ap (earlier_due_of clock until (earlier_due_of clock until None o)) (b ∙ ap (λ l. first_of (from clock l)) c)))
    ∙ ap (earlier_due_of clock until (earlier_due_of clock until (earlier_due_of clock until None o) (first_of (from clock s0)))) (e ∙ ap (λ l. first_of (from clock l)) f)))

pub returns-clause-some : goal.returns-clause-some
returns-clause-some c n b x g =
    let r = c.args.self.now in
    subst (λ o. IfSome o (λ e. IsNextEntry (world_at n b c.args.until x) x.surface.sites r.id (part_of r) e))
    (chosen r.clock c.args.until c.least.result c.earlier_due-own.result c.first_from-first.result c.earlier_due-best.result c.first_from-second.result c.earlier_due.result (stack_of r.stacks 0) (stack_of r.stacks 1) c.of.result.now c.of-2.result.now
    c.earlier_due-own.ensures c.first_from-first.ensures c.of.ensures.events c.earlier_due-best.ensures c.first_from-second.ensures c.of-2.ensures.events c.earlier_due.ensures)
    (some_next n b c.args.until x r g _ (best_is n b c.args.until x r g c.least.result c.least.ensures.least (subst RiseStrictly c.of.ensures.events c.of.ensures.rising) (subst RiseStrictly c.of-2.ensures.events c.of-2.ensures.rising)))

pub returns-clause-none : goal.returns-clause-none
returns-clause-none c n b x g =
    let r = c.args.self.now in
    subst (λ o. IfNone o (HasNoEntry (world_at n b c.args.until x) x.surface.sites r.id (part_of r)))
    (chosen r.clock c.args.until c.least.result c.earlier_due-own.result c.first_from-first.result c.earlier_due-best.result c.first_from-second.result c.earlier_due.result (stack_of r.stacks 0) (stack_of r.stacks 1) c.of.result.now c.of-2.result.now
    c.earlier_due-own.ensures c.first_from-first.ensures c.of.ensures.events c.earlier_due-best.ensures c.first_from-second.ensures c.of-2.ensures.events c.earlier_due.ensures)
    (none_next n b c.args.until x r g _ (best_is n b c.args.until x r g c.least.result c.least.ensures.least (subst RiseStrictly c.of.ensures.events c.of.ensures.rising) (subst RiseStrictly c.of-2.ensures.events c.of-2.ensures.rising)))
