-- What becomes of two regions with rings between them at each call.
use Rattle.std.proofs.Common.{◌≡◌, ◌≢◌, ℕ, Bool, true, false, [], length, refl, sym, ap, ◌∙◌, subst, arith, Option, Some, None}
use Rattle.std.specs.Prelude.{◌++◌, drop}
use Rattle.border.specs.Ends.{OutView, InView}
use Rattle.plan.specs.Network.{Network}
use Rattle.regions.specs.Bands.{Bands}
use Rattle.surface_state.specs.SurfaceView.{SurfaceView}
use Rattle.region_run.specs.declared.region.Region.{Region}
use Rattle.region_run.specs.declared.side.Ends.{Ends}
use Rattle.region_run.specs.Sides.{SideView}
use Rattle.region_run.specs.Regions.{Base, IsRegion, ends_with}
use Rattle.region_run.specs.Runs.{StepsOn, SameSide, SameRings}
use Rattle.region_run.specs.Starts.{SameButRoom, IsRoomier, IsFirst, first_base}
use Rattle.region_run.specs.Turns.{IsAttached}
use Rattle.region_run.specs.Channels.{IsOneRing, AreTied}
use Rattle.region_run.specs.Deliveries.{ArePaired, IsDelivery, IsNoDelivery, HasLooked}
use Rattle.region_run.proofs.Delivering.{rings_same}
use Rattle.region_tests.specs.Pairs.{IsPair}

-- More room

roomy_side : (o t : Option SideView) → SameButRoom o t → SameSide o t
roomy_side None None h = tt
roomy_side None (Some t) h = absurd h
roomy_side (Some o) None h = absurd h
roomy_side (Some o) (Some t) h = (ap (λ (v : SideView). v.other) h.0, ap (λ (v : SideView). v.ends) h.0)

roomier_rings : (r t : Region) → IsRoomier r t → (l : ℕ) → ends_with t l ≡ ends_with r l
roomier_rings r t h = rings_same r t (roomy_side r.first t.first h.first, roomy_side r.second t.second h.second)

upper_on : (n : Network) (b : Bands) (r s t : Region) (h : IsPair n b r s) → t.id ≡ r.id → ((l : ℕ) → ends_with t l ≡ ends_with r l) → IsRegion n b 5 h.upper_base t → IsPair n b t s
upper_on n b r s t h id ends region =
    record { first = id ∙ h.first; second = h.second; ties = subst (λ e. AreTied e (ends_with s 0)) (sym (ends 1)) h.ties; upper_base = h.upper_base; is_upper = region; lower_base = h.lower_base; is_lower = h.is_lower }

lower_on : (n : Network) (b : Bands) (r s t : Region) (h : IsPair n b r s) → t.id ≡ s.id → ((l : ℕ) → ends_with t l ≡ ends_with s l) → IsRegion n b 5 h.lower_base t → IsPair n b r t
lower_on n b r s t h id ends region =
    record { first = h.first; second = id ∙ h.second; ties = subst (λ e. AreTied (ends_with r 1) e) (sym (ends 0)) h.ties; upper_base = h.upper_base; is_upper = h.is_upper; lower_base = h.lower_base; is_lower = region }

pub upper_roomier : (n : Network) (b : Bands) (r s t : Region) → IsPair n b r s → IsRoomier r t → ((n : Network) (b : Bands) (until : ℕ) (x : Base) → IsRegion n b until x r → IsRegion n b until x t) → IsPair n b t s
upper_roomier n b r s t h g region = upper_on n b r s t h g.id (roomier_rings r t g) (region n b 5 h.upper_base h.is_upper)

pub lower_roomier : (n : Network) (b : Bands) (r s t : Region) → IsPair n b r s → IsRoomier s t → ((n : Network) (b : Bands) (until : ℕ) (x : Base) → IsRegion n b until x s → IsRegion n b until x t) → IsPair n b r t
lower_roomier n b r s t h g region = lower_on n b r s t h g.id (roomier_rings s t g) (region n b 5 h.lower_base h.is_lower)

-- One step

stepped : (n : Network) (b : Bands) (x : Base) (r t : Region) (answer : Bool) → StepsOn n b 5 x r answer t → (t.id ≡ r.id) × IsRegion n b 5 x t
stepped n b x r t true s = (s.1.id, s.1.region)
stepped n b x r t false s = (s.0.id, s.0.region)

pub upper_stepped : (n : Network) (b : Bands) (r s t : Region) (answer : Bool) → IsPair n b r s → ((x : Base) → IsRegion n b 5 x r → StepsOn n b 5 x r answer t) → SameRings r t → IsPair n b t s
upper_stepped n b r s t answer h steps rings =
    let d = stepped n b h.upper_base r t answer (steps h.upper_base h.is_upper) in
    upper_on n b r s t h d.0 (rings_same r t rings) d.1

pub lower_stepped : (n : Network) (b : Bands) (r s t : Region) (answer : Bool) → IsPair n b r s → ((x : Base) → IsRegion n b 5 x s → StepsOn n b 5 x s answer t) → SameRings s t → IsPair n b r t
lower_stepped n b r s t answer h steps rings =
    let d = stepped n b h.lower_base s t answer (steps h.lower_base h.is_lower) in
    lower_on n b r s t h d.0 (rings_same s t rings) d.1

-- A look, and a delivery

tied_pair : (e f : Option Ends) → AreTied e f → ArePaired e f
tied_pair None None t = tt
tied_pair None (Some f) t = absurd t
tied_pair (Some e) None t = absurd t
tied_pair (Some e) (Some f) t = (t.0.ring, t.1.ring)

pub apart : (n : Network) (b : Bands) (r s : Region) → IsPair n b r s → r.id ≢ s.id
apart n b r s h e = omega (arith, h.first, h.second, e)

pub paired : (n : Network) (b : Bands) (r s : Region) → IsPair n b r s → ArePaired (ends_with r s.id) (ends_with s r.id)
paired n b r s h = subst (λ k. ArePaired (ends_with r k) (ends_with s r.id)) (sym h.second) (subst (λ k. ArePaired (ends_with r 1) (ends_with s k)) (sym h.first) (tied_pair (ends_with r 1) (ends_with s 0) h.ties))

ties_at : (r s : Region) (i j : ℕ) → i ≡ 0 → j ≡ 1 → AreTied (ends_with r j) (ends_with s i) → AreTied (ends_with r 1) (ends_with s 0)
ties_at r s i j first second t = subst (λ k. AreTied (ends_with r k) (ends_with s 0)) second (subst (λ k. AreTied (ends_with r j) (ends_with s k)) first t)

pub looked : (n : Network) (b : Bands) (r s r' s' : Region) → IsPair n b r s → HasLooked s.id r r' → HasLooked r.id s s' → AreTied (ends_with r' s'.id) (ends_with s' r'.id) → IsPair n b r' s'
looked n b r s r' s' h one other ties =
    record {
      first = one.id ∙ h.first;
      second = other.id ∙ h.second;
      ties = ties_at r' s' r'.id s'.id (one.id ∙ h.first) (other.id ∙ h.second) ties;
      upper_base = h.upper_base;
      is_upper = one.region n b 5 h.upper_base h.is_upper;
      lower_base = h.lower_base;
      is_lower = other.region n b 5 h.lower_base h.is_lower;
    }

pub delivered : (n : Network) (b : Bands) (r s r' s' : Region) (answer : Bool) → IsPair n b r s → (answer ≡ false → IsNoDelivery r s r' s')
    → (answer ≡ true → (until : ℕ) (x : Base) → IsRegion n b until x s → IsDelivery n b until x r s r' s') → IsPair n b r' s'
delivered n b r s r' s' true h none one =
    let d = one refl 5 h.lower_base h.is_lower in
    record {
      first = d.sender.but.id ∙ h.first;
      second = d.made.id ∙ h.second;
      ties = ties_at r' s' r.id s.id h.first h.second d.ties;
      upper_base = h.upper_base;
      is_upper = d.sender.region n b 5 h.upper_base h.is_upper;
      lower_base = h.lower_base;
      is_lower = d.made.region;
    }
delivered n b r s r' s' false h none one =
    let d = none refl in
    record {
      first = d.sender.but.id ∙ h.first;
      second = d.receiver.id ∙ h.second;
      ties = ties_at r' s' r.id s.id h.first h.second d.ties;
      upper_base = h.upper_base;
      is_upper = d.sender.region n b 5 h.upper_base h.is_upper;
      lower_base = h.lower_base;
      is_lower = d.region n b 5 h.lower_base h.is_lower;
    }

-- New regions

pub new_ring : (o : OutView) (i : InView) → o.ring ≡ i.ring → i.received ≡ [] → IsOneRing o i
new_ring o i one none = record { ring = one; received = subst (λ l. l ++ drop (length l) o.sent ≡ o.sent) (sym none) refl }

pub made : (n : Network) (b : Bands) (start : SurfaceView) (e f : Ends) (r s r' s' : Region) → IsFirst n b 0 start r → IsFirst n b 1 start s → IsAttached 1 e r r' → IsAttached 0 f s s'
    → IsRegion n b 5 (first_base start) r' → IsRegion n b 5 (first_base start) s' → AreTied (Some e) (Some f) → IsPair n b r' s'
made n b start e f r s r' s' one other at_one at_other is_one is_other ties =
    record {
      first = ap (λ (v : Region). v.id) at_one.same ∙ one.id_is;
      second = ap (λ (v : Region). v.id) at_other.same ∙ other.id_is;
      ties = subst (λ u. AreTied u (ends_with s' 0)) (sym at_one.ends) (subst (λ v. AreTied (Some e) v) (sym at_other.ends) ties);
      upper_base = first_base start;
      is_upper = is_one;
      lower_base = first_base start;
      is_lower = is_other;
    }
