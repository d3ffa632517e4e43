-- What two regions have of one another, when the first message goes from one to the other, or the rings between them are looked at.
use Rattle.std.specs.Prelude.{◌≡◌, ℕ, ◌+◌, MatchBool, List, [], ◌++◌, length, drop, Option, Some, None, if◌then◌else◌}
use Rattle.border.specs.declared.op.Op.{Op}
use Rattle.border.specs.Ends.{OutView, InView}
use Rattle.region_run.specs.Sides.{SideView, is_other, number_of, ends_of, line_of, sent_by, received_by, HasRoom, one}
use Rattle.region_run.specs.Channels.{AreTied, IsOneRing}
use Rattle.region_run.specs.declared.region.Region.{Region}
use Rattle.region_run.specs.declared.side.Ends.{Ends}

-- what waits in a ring
abbrev pub ring_rest : OutView → InView → List Op
ring_rest o i = drop (length i.received) o.sent

-- The first message that waits in the ring was taken, if there is one.
pub record RingGives (e f : Ends) (o : Option Op) (e' f' : Ends) : Type 0 where
  pub inn : e'.inn ≡ e.inn
  pub out : f'.out ≡ f.out
  pub sent : e'.out.sent ≡ e.out.sent
  pub ring : e'.out.ring ≡ e.out.ring
  pub tied : IsOneRing e'.out f'.inn
  pub first : ring_rest e.out f.inn ≡ one o ++ ring_rest e'.out f'.inn
  pub none : o ≡ None → ring_rest e'.out f'.inn ≡ []

-- Both know what waits in a ring, and how many of its slots are free.
pub record KnowRing (o : OutView) (i : InView) : Type 0 where
  pub ring : o.ring ≡ i.ring
  pub waiting : i.received ++ i.ahead ≡ o.sent
  pub free : o.free + length i.ahead ≡ o.slots

-- Both rings between the two were looked at.
pub record RingsSeen (e f e' f' : Ends) : Type 0 where
  pub sent : e'.out.sent ≡ e.out.sent
  pub sent_back : f'.out.sent ≡ f.out.sent
  pub received : e'.inn.received ≡ e.inn.received
  pub received_back : f'.inn.received ≡ f.inn.received
  pub know : KnowRing e'.out f'.inn
  pub know_back : KnowRing f'.out e'.inn

-- the neighbour of this number, if there is one
abbrev pub side_for : Option SideView → Option SideView → ℕ → Option SideView
side_for first second l = if is_other first l then first else (if is_other second l then second else None)

-- the channel between what one region has of another, and what that one has of it
abbrev pub channel_between : Option SideView → Option SideView → List Op
channel_between s t = drop (length (received_by (ends_of t))) (line_of s)

-- the same neighbour, with no less room
pub record IsStill (s t : Option SideView) : Type 0 where
  pub number : number_of t ≡ number_of s
  pub room : (m : ℕ) → HasRoom m s → HasRoom m t

-- what waits in a ring, where there is one
abbrev pub rest_between : Option Ends → Option Ends → List Op
rest_between e f = drop (length (received_by f)) (sent_by e)

-- The first message that waits in the ring to a neighbour was taken, if there is one.
pub record GivesTo (e : Option Ends) (t : Option SideView) (o : Option Op) (e' : Option Ends) (t' : Option SideView) : Type 0 where
  pub receiver : IsStill t t'
  pub line : line_of t' ≡ line_of t
  pub got : received_by e' ≡ received_by e
  pub sent : sent_by e' ≡ sent_by e
  pub first : rest_between e (ends_of t) ≡ one o ++ rest_between e' (ends_of t')
  pub none : o ≡ None → rest_between e' (ends_of t') ≡ []
  pub ties : AreTied e' (ends_of t')

-- The first message of the channel was taken, if there is one.
pub record TakesFirst (s t : Option SideView) (o : Option Op) (s' t' : Option SideView) : Type 0 where
  pub sender : IsStill s s'
  pub receiver : IsStill t t'
  pub got : received_by (ends_of s') ≡ received_by (ends_of s)
  pub line : line_of t' ≡ line_of t
  pub first : channel_between s t ≡ one o ++ channel_between s' t'
  pub none : o ≡ None → channel_between s' t' ≡ []
  pub ties : AreTied (ends_of s') (ends_of t')

-- where there are rings, both know what waits in them, and how many of their slots are free
abbrev pub KnowRings : Option Ends → Option Ends → Type 0
KnowRings None None = Unit {0}
KnowRings (Some e) (Some f) = KnowRing e.out f.inn × KnowRing f.out e.inn
KnowRings None (Some f) = ⊥
KnowRings (Some e) None = ⊥

-- what was sent and received is as it was, and so is what waits to be sent
pub record IsLookedAt (s t : Option SideView) : Type 0 where
  pub still : IsStill s t
  pub got : received_by (ends_of t) ≡ received_by (ends_of s)
  pub line : line_of t ≡ line_of s

-- The rings between the two were looked at.
pub record Meets (s t s' t' : Option SideView) : Type 0 where
  pub this_one : IsLookedAt s s'
  pub other : IsLookedAt t t'
  pub know : KnowRings (ends_of s') (ends_of t')

-- what a region has of another one has become this; of one that isn't its neighbour it has nothing
abbrev pub HasChanged : (Option SideView → Option SideView → Type 0) → ℕ → Region → Region → Type 0
HasChanged R l old new =
    MatchBool (is_other old.first l) ((new ≡ record old { first = new.first }) × R old.first new.first)
    (MatchBool (is_other old.second l) ((new ≡ record old { second = new.second }) × R old.second new.second) ((new ≡ old) × R None None))
