-- What a region received is the front of what was put for it.
use Rattle.std.proofs.Common.{◌≡◌, Bool, true, false, ℕ, List, [], ◌++◌, length, drop, Option, Some, None, refl, sym, ap, ◌∙◌, append_assoc, if◌then◌else◌}
use Rattle.std.proofs.Math.Seq.{drop-append_seam}
use Rattle.border.specs.declared.op.Op.{Op}
use Rattle.region_run.specs.declared.region.Region.{Region}
use Rattle.region_run.specs.declared.side.Ends.{Ends}
use Rattle.region_run.specs.Sides.{SideView, is_other, line_of, ends_of, sent_by, received_by}
use Rattle.region_run.specs.Regions.{line_to, ends_with}
use Rattle.region_run.specs.Channels.{AreTied}

-- the first list begins the second
abbrev pub IsFront : List Op → List Op → Type 0
IsFront xs ys = (rest : List Op) × (ys ≡ xs ++ rest)

-- what is left behind a front
pub rest_is : (xs ys : List Op) → (f : IsFront xs ys) → drop (length xs) ys ≡ f.0
rest_is xs ys f = ap (drop (length xs)) f.1 ∙ drop-append_seam xs f.0

pub front_whole : (xs ys : List Op) → IsFront xs ys → xs ++ drop (length xs) ys ≡ ys
front_whole xs ys f = ap (λ l. xs ++ l) (rest_is xs ys f) ∙ sym f.1

pub front_more : (xs ys more : List Op) → IsFront xs ys → IsFront xs (ys ++ more)
front_more xs ys more f = (f.0 ++ more, ap (λ l. l ++ more) f.1 ∙ append_assoc xs f.0 more)

-- what comes later stays behind
pub drop_more : (xs ys more : List Op) → IsFront xs ys → drop (length xs) (ys ++ more) ≡ drop (length xs) ys ++ more
unfolding front_more
drop_more xs ys more f = rest_is xs (ys ++ more) (front_more xs ys more f) ∙ ap (λ l. l ++ more) (sym (rest_is xs ys f))

-- With more put and more received, what was there and was put is what was received since and what is there.
pub flows : (xs ys puts handed : List Op) → IsFront xs ys → IsFront (xs ++ handed) (ys ++ puts) → drop (length xs) ys ++ puts ≡ handed ++ drop (length (xs ++ handed)) (ys ++ puts)
flows xs ys puts handed f g =
    sym (drop_more xs ys puts f)
    ∙ (ap (drop (length xs)) (g.1 ∙ append_assoc xs handed g.0)
    ∙ (drop-append_seam xs (handed ++ g.0)
    ∙ ap (λ l. handed ++ l) (sym (rest_is (xs ++ handed) (ys ++ puts) g))))

-- what was sent is the front of what was put
side_line : (o : Option SideView) → IsFront (sent_by (ends_of o)) (line_of o)
side_line None = ([], refl)
side_line (Some s) = (s.outbox, refl)

pub sent_front : (r : Region) (l : ℕ) → IsFront (sent_by (ends_with r l)) (line_to r l)
sent_front r l = by (is_other r.first l) (is_other r.second l)
  where
    by : (s t : Bool) → IsFront (sent_by (if s then ends_of r.first else (if t then ends_of r.second else None))) (if s then line_of r.first else (if t then line_of r.second else []))
    by true t = side_line r.first
    by false true = side_line r.second
    by false false = ([], refl)

-- and what was received is the front of what was sent
tied_front : (e f : Option Ends) → AreTied e f → IsFront (received_by f) (sent_by e)
tied_front None None t = ([], refl)
tied_front None (Some f) t = absurd t
tied_front (Some e) None t = absurd t
tied_front (Some e) (Some f) t = (drop (length f.inn.received) e.out.sent, sym t.0.received)

pub front_front : (xs ys zs : List Op) → IsFront xs ys → IsFront ys zs → IsFront xs zs
front_front xs ys zs f g = (f.0 ++ g.0, g.1 ∙ (ap (λ l. l ++ g.0) f.1 ∙ append_assoc xs f.0 g.0))

pub received_front : (r : Region) (l : ℕ) (f : Option Ends) → AreTied (ends_with r l) f → IsFront (received_by f) (line_to r l)
received_front r l f t = front_front (received_by f) (sent_by (ends_with r l)) (line_to r l) (tied_front (ends_with r l) f t) (sent_front r l)

pub tied_back : (e f : Option Ends) → AreTied e f → AreTied f e
tied_back None None t = tt
tied_back None (Some f) t = absurd t
tied_back (Some e) None t = absurd t
tied_back (Some e) (Some f) t = (t.1, t.0)
