-- The stacks as lists of events.
use Rattle.std.proofs.Common.{◌≡◌, ℕ, suc, ◌-◌, ◌<◌, List, [], ◌∷◌, ◌++◌, length, map, take, drop, slice_index_or, slice_set, refl, sym, subst, arith, ap, ◌∙◌, Vec, replicate, max, rules}
use Rattle.std.specs.Global.{Global}
use Rattle.std.proofs.lemmas.List.{map-set, length-map, get_or-map, get_or-replicate, length-replicate}
use Rattle.surf_kinds.specs.declared.event.Event.{Event}
use Rattle.surf_kinds.specs.declared.event.Key.{Key}
use Rattle.surf_kinds.specs.Keys.{from}
use Rattle.border.specs.Stacked.{AreGrown, AreStacks, StacksView, stacks_of, stack_of, AreRests}
use Rattle.border.specs.Messages.{replay_one}
use Rattle.border.specs.declared.op.Op.{Op}
use Rattle.border.proofs.Cutting.{rise-from}

pub stacks-set : (vs : List (Vec Event Global)) (i : ℕ) (w : Vec Event Global) (xs : List Event) → w.items ≡ xs → stacks_of (slice_set vs i w) ≡ slice_set (stacks_of vs) i xs
stacks-set vs i w xs e = map-set (λ (v : Vec Event Global). v.items) vs i w ∙ ap (λ (y : List Event). slice_set (stacks_of vs) i y) e

pub stack-at : (vs : List (Vec Event Global)) (i : ℕ) (d : Vec Event Global) → i < length vs → slice_index_or (stacks_of vs) i [] ≡ (slice_index_or vs i d).items
stack-at vs i d h = get_or-map (λ (v : Vec Event Global). v.items) vs i d [] h

-- stacks of which each is empty
pub empty_stacks : (vs : List (Vec Event Global)) (n : ℕ) → stacks_of vs ≡ replicate n [] → AreStacks 0 vs
empty_stacks vs n e i d h =
    let none : (slice_index_or vs i d).items ≡ [] = sym (stack-at vs i d h) ∙ ap (λ (ys : List (List Event)). slice_index_or ys i []) e ∙ get_or-replicate n i [] [] (subst (λ m. i < m) (sym (length-map vs (λ (v : Vec Event Global). v.items)) ∙ ap length e ∙ length-replicate {A = List Event} n []) h) in
    record { rising = rw none tt; room = search rules }

abbrev pub IsReplayed : List (Vec Event Global) → ℕ → StacksView → ℕ → Vec Event Global → Op → Type 0
IsReplayed vs spare s i w op =
    let new : StacksView = record { stacks = stacks_of (slice_set vs i w); spare = spare - 1 } in
    let want : StacksView = record { stacks = slice_set s.stacks i (replay_one (stack_of s i) op); spare = s.spare - 1 } in
    new ≡ want

-- one stack is replaced by its replay
pub replayed : (vs : List (Vec Event Global)) (spare : ℕ) (s : StacksView) (i : ℕ) (m w : Vec Event Global) (op : Op) → record { stacks = stacks_of vs; spare = spare } ≡ s → m ≡ slice_index_or vs i m → i < length s.stacks → w.items ≡ replay_one m.items op → IsReplayed vs spare s i w op
replayed vs spare s i m w op e at h r =
    let v : StacksView = record { stacks = stacks_of vs; spare = spare } in
    let P : StacksView → Type 0 = λ t. i < length t.stacks → IsReplayed vs spare t i w op in
    let base : P v = λ l.
    let read : slice_index_or (stacks_of vs) i [] ≡ m.items = stack-at vs i m (omega (arith, length-map vs (λ (v : Vec Event Global). v.items))) ∙ ap (λ (x : Vec Event Global). x.items) (sym at) in
    ap {B = StacksView} (λ (ys : List (List Event)). record { stacks = ys; spare = spare - 1 }) (stacks-set vs i w (replay_one (slice_index_or (stacks_of vs) i []) op) (r ∙ ap (λ (ys : List Event). replay_one ys op) (sym read))) in
    subst P e base h

pub stacks-grown : (vs ws : List (Vec Event Global)) → length ws ≡ length vs → AreGrown vs ws → stacks_of ws ≡ stacks_of vs
stacks-grown [] [] e g = refl
stacks-grown [] (w ∷ ws) e g = absurd (omega arith)
stacks-grown (v ∷ vs) [] e g = absurd (omega arith)
stacks-grown (v ∷ vs) (w ∷ ws) e g =
    let first : w.items ≡ v.items = (g 0 v (omega arith)).items in
    let rest : stacks_of ws ≡ stacks_of vs = stacks-grown vs ws (omega arith) (λ i d h. g (suc i) d (omega arith)) in
    rw (first, rest) refl

refilled : (xs ws : List (Vec Event Global)) → length ws ≡ length xs → take (length ws) (ws ++ drop (length ws) xs) ≡ ws
refilled [] [] e = refl
refilled (x ∷ xs) [] e = refl
refilled [] (w ∷ ws) e = absurd (omega arith)
refilled (x ∷ xs) (w ∷ ws) e = ap (λ t. w ∷ t) (refilled xs ws (omega arith))

-- the slice us, borrowed of all of the vector's n items vs and left as ws, is written back whole
pub written_back : (n : ℕ) (P : List (Vec Event Global) → Type 0) (vs us ws : List (Vec Event Global)) → n ≡ length vs → us ≡ vs → length ws ≡ length us → P ws → P (take n (ws ++ drop (length ws) vs))
written_back n P vs us ws a u l p =
    let long : length ws ≡ length vs = l ∙ ap length u in
    let e : n ≡ length ws = a ∙ sym long in
    rw (e, refilled vs ws long) p

pub stacks-forgotten : (key : Key) (vs ws : List (Vec Event Global)) → length ws ≡ length vs → AreRests key vs ws → stacks_of ws ≡ map (from key) (stacks_of vs)
stacks-forgotten key [] [] e g = refl
stacks-forgotten key [] (w ∷ ws) e g = absurd (omega arith)
stacks-forgotten key (v ∷ vs) [] e g = absurd (omega arith)
stacks-forgotten key (v ∷ vs) (w ∷ ws) e g =
    let first : w.items ≡ from key v.items = (g 0 v (omega arith)).items in
    let rest : stacks_of ws ≡ map (from key) (stacks_of vs) = stacks-forgotten key vs ws (omega arith) (λ i d h. g (suc i) d (omega arith)) in
    rw (first, rest) refl

-- each stack rises still, and has the room that it had
pub stacks_left : (key : Key) (spare : ℕ) (vs ws : List (Vec Event Global)) → length ws ≡ length vs → AreRests key vs ws → AreStacks spare vs → AreStacks spare ws
stacks_left key spare vs ws e g s i d h =
    let f = g i d (omega arith) in
    let v = s i d (omega arith) in
    record { rising = rw f.items (rise-from key (slice_index_or vs i d).items v.rising); room = omega (arith, f.len, f.capacity, v.room) }

abbrev pub IsReserved : List (List Event) → ℕ → StacksView → Type 0
IsReserved ys more s =
    let new : StacksView = record { stacks = ys; spare = more } in
    let want : StacksView = record { stacks = s.stacks; spare = max s.spare more } in
    new ≡ want

-- the same stacks with a greater spare
pub reserved : (s : StacksView) (ys zs : List (List Event)) (spare more : ℕ) → record { stacks = zs; spare = spare } ≡ s → ys ≡ zs → spare < more → IsReserved ys more s
reserved s ys zs spare more e same less =
    let v : StacksView = record { stacks = zs; spare = spare } in
    let top : max spare more ≡ more = omega arith in
    let base : IsReserved ys more v = rw (same, top) refl in
    subst (IsReserved ys more) e base

-- the same stacks with the same spare
pub unreserved : (s : StacksView) (ys zs : List (List Event)) (spare : ℕ) → record { stacks = zs; spare = spare } ≡ s → ys ≡ zs → record { stacks = ys; spare = spare } ≡ s
unreserved s ys zs spare e same = ap {B = StacksView} (λ (xs : List (List Event)). record { stacks = xs; spare = spare }) same ∙ e
