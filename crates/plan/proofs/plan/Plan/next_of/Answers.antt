use Rattle.std.proofs.Common.{◌≡◌, [], None, ◌↔◌, refl, sym, ap, ◌∙◌, subst, length}
use Rattle.std.proofs.lemmas.Bool.{eqb-true}
use Rattle.std.proofs.lemmas.List.{nil_from_length}
use Rattle.std.specs.Prelude.{All, Option}
use Rattle.surf_kinds.specs.declared.event.Event.{Event}
use Rattle.plan.specs.Channels.{IsChannel, reactants_of, channels_of}
use Rattle.plan.specs.Network.{Network}
use Rattle.plan.specs.Index.{found_in}
use Rattle.plan.specs.Next.{next_at, occurrence, latest, earliest}
use Rattle.plan.proofs.Standing.{all_drawn, earliest_none}
use Rattle.plan.proofs.plan.Plan.next_of.Goals as goal

pub earliest-requires-clause-channels : goal.earliest-requires-clause-channels
earliest-requires-clause-channels c =
    let rules = c.self.inside.rules.items in
    let r = reactants_of c.args.a c.args.b in
    subst (All IsChannel) (sym (c.find-channels.ensures ∙ (ap (found_in c.self.inside.index) c.reactants_of.ensures ∙ c.self.invariant.found r))) (all_drawn rules r (length rules) c.self.invariant.few)

pub returns-clause-next : goal.returns-clause-next
returns-clause-next c =
    let rules = c.self.inside.rules.items in
    let r = reactants_of c.args.a c.args.b in
    let seed = c.args.self.now.seed in
    let found : c.find-channels.result.now ≡ channels_of rules r = c.find-channels.ensures ∙ (ap (found_in c.self.inside.index) c.reactants_of.ensures ∙ c.self.invariant.found r) in
    c.earliest.ensures
    ∙ (ap (λ o. earliest seed c.args.place.0 o c.beginning_of-occurrence.result.1 None c.find-channels.result.now) c.beginning_of-occurrence.ensures.occurrence
    ∙ (ap (λ from. earliest seed c.args.place.0 (occurrence c.args.a c.args.b) from None c.find-channels.result.now) c.beginning_of-occurrence.ensures.from
    ∙ (ap (earliest seed c.args.place.0 (occurrence c.args.a c.args.b) (latest c.args.a c.args.b) None) found
    ∙ ap (λ (n : Network). next_at (record n { seed = seed }) c.args.place.0 c.args.a c.args.b) c.self.view_is)))

pub returns-clause-none : goal.returns-clause-none
returns-clause-none c =
    let r = reactants_of c.args.a c.args.b in
    let n = c.args.self.now in
    let is : c.earliest.result ≡ next_at n c.args.place.0 c.args.a c.args.b = returns-clause-next c in
    subst (λ (o : Option Event). (o ≡ None) ↔ (channels_of n.rules r ≡ [])) (sym is)
    (earliest_none n.seed c.args.place.0 (occurrence c.args.a c.args.b) (latest c.args.a c.args.b) (channels_of n.rules r))

-- no channel stands there
none_stand : (c : goal.Then-is_empty) → channels_of c.args.self.now.rules (reactants_of c.args.a c.args.b) ≡ []
none_stand c =
    let r = reactants_of c.args.a c.args.b in
    let none : c.find-channels.result.now ≡ [] = nil_from_length _ (eqb-true (length c.find-channels.result.now) 0 (sym c.is_empty.ensures ∙ c.if-is_empty.true)) in
    let found : c.find-channels.result.now ≡ channels_of c.self.inside.rules.items r = c.find-channels.ensures ∙ (ap (found_in c.self.inside.index) c.reactants_of.ensures ∙ c.self.invariant.found r) in
    ap (λ (n : Network). channels_of n.rules r) (sym c.self.view_is) ∙ (sym found ∙ none)

pub returns-then-is_empty-clause-next : goal.returns-then-is_empty-clause-next
returns-then-is_empty-clause-next c = ap (earliest c.args.self.now.seed c.args.place.0 (occurrence c.args.a c.args.b) (latest c.args.a c.args.b) None) (sym (none_stand c))

pub returns-then-is_empty-clause-none : goal.returns-then-is_empty-clause-none
returns-then-is_empty-clause-none c = (λ h. none_stand c, λ h. refl)
