use Rattle.std.proofs.Common.{◌≡◌, ℕ, ◌<◌, ◌+◌, ◌*◌, None, Some, drop, slice_index}
use Rattle.draws.specs.Draw.{draw_of}
use Rattle.plan.specs.Next.{earliest}
use Rattle.plan.proofs.plan.Plan.earliest.Given as goal

abbrev pub invariant-loop-channel : goal.invariant-loop-channel
invariant-loop-channel l = record {
  best : earliest l.self.seed l.place.0 l.occurrence l.from l.best (drop l.channel-index l.channels) ≡ earliest l.self.seed l.place.0 l.occurrence l.from None l.channels;
  draws : (block : ℕ) → l.made ≡ Some block → (i : ℕ) → i < 8 → slice_index l.draws i ≡ draw_of l.self.seed l.place.0 l.occurrence (8 * block + i);
}
