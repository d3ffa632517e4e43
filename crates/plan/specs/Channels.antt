-- The channels of a place: the rules whose reactants stand at its sites, each in the way in which they stand.
use Rattle.std.specs.Prelude.{ℕ, zero, suc, ◌+◌, ◌*◌, ◌<◌, List, [], ◌∷◌, ◌++◌, length, Option, Some, None, if◌then◌else◌, slice_get}
use Rattle.std.specs.Option.{option_map}
use Rattle.surf_kinds.specs.declared.rule.Rule.{Rule}
use Rattle.surf_kinds.specs.declared.site.SiteState.{SiteState}
use Rattle.lattice.specs.Channels.{matches, rate_of}
use Rattle.plan.specs.declared.index.Reactants.{Reactants}
use Rattle.plan.specs.declared.index.Channel.{Channel}

-- what stands at the sites of a place with these states
abbrev pub reactants_of : SiteState → Option SiteState → Reactants
reactants_of s t = record { first = s.species; second = option_map (λ (x : SiteState). x.species) t }

-- the channel of a rule in this way, where the reactants stand so
abbrev pub channel_at : Reactants → ℕ → ℕ → Option Rule → List Channel
channel_at r number way None = []
channel_at r number way (Some rule) = if matches rule way r.first r.second then record { number = number; rate = rate_of rule } ∷ [] else []

-- the channels of the first n rules with these reactants, rising
abbrev pub channels_upto : List Rule → Reactants → ℕ → List Channel
channels_upto rules r zero = []
channels_upto rules r (suc n) = (channels_upto rules r n ++ channel_at r (2 * n) 0 (slice_get rules n)) ++ channel_at r (2 * n + 1) 1 (slice_get rules n)

-- all channels with these reactants, rising
abbrev pub channels_of : List Rule → Reactants → List Channel
channels_of rules r = channels_upto rules r (length rules)

-- a channel's number is below that of the draws, and its rate is above 0
pub record IsChannel (c : Channel) : Type 0 where
  pub number : c.number < 8192
  pub rate : 0 < c.rate.p
