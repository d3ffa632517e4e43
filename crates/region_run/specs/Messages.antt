-- What messages between regions depend on.
use Rattle.plan.specs.Network.{Network}
use Rattle.plan.specs.Products.{fits_place}
use Rattle.regions.specs.Bands.{Bands, owner_of}
use Rattle.regions.specs.Seen.{is_told}
use Rattle.border.specs.Messages.{Partition}

-- the owners of places, who is told of them, and which channels fit
abbrev pub partition_at : Network → Bands → Partition
partition_at n b = record { owner = owner_of b; told = is_told b; fits = λ e. fits_place n e.place.0 e.channel }
