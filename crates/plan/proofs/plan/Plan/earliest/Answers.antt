use Rattle.std.proofs.Common.{◌≡◌, ◌+◌, ◌*◌, ◌/◌, ◌%◌, ◌<◌, ◌∷◌, ℕ, Option, Some, None, true, slice_index, slice_index_or, drop, arith, ap, sym, ◌∙◌}
use Rattle.std.proofs.lemmas.List.{drop_more}
use Rattle.std.proofs.lemmas.Bool.{false≢true, not-false}
use Rattle.std.proofs.lemmas.Bool.Decides.{Decides-eqb}
use Rattle.std.proofs.lemmas.Option.{same_Some}
use Rattle.std.specs.Option.{option_eq}
use Rattle.std.specs.Prelude.{nat_eq}
use Rattle.surf_kinds.specs.declared.event.Event.{Event}
use Rattle.surf_kinds.specs.Keys.{earlier}
use Rattle.draws.specs.Draw.{draw_of}
use Rattle.rates.specs.Waits.{wait_of}
use Rattle.plan.specs.Network.{Network}
use Rattle.plan.specs.Next.{armed, earliest}
use Rattle.plan.proofs.plan.Plan.earliest.Goals as goal
use Rattle.plan.proofs.plan.Plan.earliest.Goals.{then-ne, else-ne}

-- an optional number that equals a number is that number
is_some : (made : Option ℕ) (block : ℕ) → option_eq nat_eq made (Some block) ≡ true → made ≡ Some block
is_some None block e = absurd (false≢true e)
is_some (Some x) block e = ap (λ k. Some k) ((Decides-eqb x block).0 e)

-- the draws made last are those of the channel's block
made : (c : goal.After-earlier-best)
    → (c.if-ne.made ≡ Some (c.channel-item.result.number / 8))
    × ((i : ℕ) → i < 8 → slice_index c.if-ne.draws i ≡ draw_of c.args.self.now.seed c.args.place.0 c.args.occurrence (8 * (c.channel-item.result.number / 8) + i))
made c =
    let block = c.channel-item.result.number / 8 in
    elim c.if-ne.branch [
      | then-ne w ↦ (
        w.made-is,
        λ i h. ap (λ xs. slice_index xs i) w.draws-is
            ∙ (w.draws-draws.ensures i h
            ∙ ap (λ (n : Network). draw_of n.seed c.args.place.0 c.args.occurrence (8 * block + i)) c.self.view_is),
      )
      | else-ne w ↦ (
          let same : c.loop-channel.made ≡ Some block = is_some c.loop-channel.made block (not-false _ (sym c.ne.ensures ∙ w.if-ne.false)) in (
            w.made-is ∙ same,
            λ i h. ap (λ xs. slice_index xs i) w.draws-is ∙ c.loop-channel.invariant.draws block same i h,
          ))
    ]

-- the event is that of the channel's draw
is_armed : (c : goal.After-earlier-best) → c.armed.result ≡ armed c.args.self.now.seed c.args.place.0 c.args.occurrence c.args.from c.channel-item.result
is_armed c =
    let number = c.channel-item.result.number in
    let below : number % 8 < 8 = omega arith in
    let whole : 8 * (number / 8) + number % 8 ≡ number = omega arith in
    let draw : slice_index_or c.if-ne.draws c.from.result 0 ≡ draw_of c.args.self.now.seed c.args.place.0 c.args.occurrence number =
    ap (λ j. slice_index_or c.if-ne.draws j 0) c.from.ensures
    ∙ ((made c).1 (number % 8) below ∙ ap (draw_of c.args.self.now.seed c.args.place.0 c.args.occurrence) whole) in
    let with_draw : ℕ → Event = λ d. record { time = c.args.from + wait_of c.channel-item.result.rate d; place = c.args.place; channel = number } in
    c.armed.ensures ∙ ap with_draw draw

pub loop-channel-preserved : goal.loop-channel-preserved
loop-channel-preserved c =
    let seed = c.args.self.now.seed in
    let place = c.args.place.0 in
    let occurrence = c.args.occurrence in
    let from = c.args.from in
    let k = c.loop-channel.channel-index in
    let channels = c.args.channels.now in
    let best = c.loop-channel.best in
    let here : drop k channels ≡ c.channel-item.result ∷ drop (k + 1) channels =
    drop_more channels k c.channel-item.result c.loop-channel-test.true ∙ ap (λ x. x ∷ drop (k + 1) channels) (sym c.channel-item.is) in
    record {
      best =
          ap (λ b. earliest seed place occurrence from b (drop (k + 1) channels)) (c.earlier-best.ensures ∙ ap (λ e. earlier best (Some e)) (is_armed c))
          ∙ (ap (earliest seed place occurrence from best) (sym here) ∙ c.loop-channel.invariant.best);
      draws = λ block is i h. (made c).1 i h ∙ ap (λ g. draw_of seed place occurrence (8 * g + i)) (same_Some _ _ (sym (made c).0 ∙ is));
    }
