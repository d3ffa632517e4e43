-- What the writer's steps keep.
use Rattle.std.proofs.Common.{◌≡◌, ℕ, ◌-◌, ◌<◌, ◌^◌, List, [], ◌∷◌, ◌++◌, length, fold, sym, ap, ◌∙◌, subst, arith}
use Rattle.std.proofs.lemmas.List.Sums.{fold-append}
use Rattle.logbook.specs.Pages.{Book}
use Rattle.left_right.specs.Register.{TurnsAt}
use Rattle.frames.specs.declared.sample.Sample.{Sample}
use Rattle.frames.specs.declared.pair.Frame.{Frame}
use Rattle.frames.specs.declared.pair.Step.{Step}
use Rattle.frames.specs.declared.places.Knowledge.{Knowledge}
use Rattle.frames.specs.States.{after, total, MayFollow}
use Rattle.frames.specs.Capped.{applied}
use Rattle.frames.specs.Places.{known_as, newcomer, moved_on, ArePlaces, Sees, Opens}
use Rattle.frames.specs.Ends.{IsWriter}
use Rattle.frames.proofs.States.{after-snoc, after-events, exact, next-total}
use Rattle.frames.proofs.Prefixes.{prefix_trans}
use Rattle.frames.proofs.Steps.{opens, publishes}

pub opens_first : (seat : ℕ) (v : Knowledge) (x y : Frame) (pending : List Step) → v ≡ newcomer → pending ≡ [] → x.seen.log ≡ [] → y ≡ fold moved_on x pending
    → TurnsAt (λ (f : Frame) (views : List Knowledge). ArePlaces f views) seat v x y Opens
opens_first seat v x y pending new none empty is =
    let same : y ≡ x = is ∙ ap (λ (ops : List Step). fold moved_on x ops) none in
    subst (λ (u : Knowledge). TurnsAt (λ (f : Frame) (views : List Knowledge). ArePlaces f views) seat u x y Opens) (sym new)
    (opens seat x y empty (ap (λ (f : Frame). f.seen.log) same ∙ empty) (ap (λ (f : Frame). f.seen.book) same) (ap (λ (f : Frame). f.sample) same))

pub publishes_all : (seat : ℕ) (v : Knowledge) (x y goal : Frame) → v ≡ known_as v.start goal.seen.book → goal.sample ≡ after v.start goal.seen.log → y ≡ goal
    → TurnsAt (λ (f : Frame) (views : List Knowledge). ArePlaces f views) seat v x y Sees
publishes_all seat v x y goal known state is =
    let log : y.seen.log ≡ goal.seen.log = ap (λ (f : Frame). f.seen.log) is in
    subst (λ (u : Knowledge). TurnsAt (λ (f : Frame) (views : List Knowledge). ArePlaces f views) seat u x y Sees) (sym known)
    (publishes seat v.start goal.seen.book x y (ap (λ (f : Frame). f.sample) is ∙ (state ∙ ap (λ l. after v.start l) (sym log))) (ap (λ (f : Frame). f.seen.book) is))

-- `op` is the step of a change that may follow
pub adding : (v : Knowledge) (shown : Frame) (pending : List Step) (goal : Frame) (op : Step)
    → IsWriter v shown pending goal → goal.sample ≡ after v.start goal.seen.log
    → op.seen.log ≡ goal.seen.log ++ op.change ∷ [] → op.seen.book ≡ goal.seen.book
    → length goal.seen.log < 2 ^ 64 - 1 → MayFollow (after v.start goal.seen.log) op.change
    → IsWriter v shown (pending ++ op ∷ []) (record { sample = after v.start op.seen.log; seen = op.seen })
adding v shown pending goal op is state longer book room may =
    let s : Sample = after v.start goal.seen.log in
    let events : s.events ≡ length goal.seen.log = after-events v.start goal.seen.log in
    let sum : total s.counts < 2 ^ 64 = is.fits in
    let moved : applied goal.sample op.change ≡ after v.start op.seen.log = ap (λ (t : Sample). applied t op.change) state ∙ (exact s op.change (omega arith) sum may ∙ (sym (after-snoc v.start goal.seen.log op.change) ∙ ap (λ l. after v.start l) (sym longer))) in
    record {
      known = is.known ∙ ap (λ (c : Book). known_as v.start c) (sym book);
      frame = is.frame;
      book = is.book ∙ sym book;
      prefix = prefix_trans shown.seen.log goal.seen.log op.seen.log is.prefix (op.change ∷ [], sym longer);
      reach = fold-append moved_on shown pending (op ∷ []) ∙ (ap (λ (f : Frame). moved_on f op) is.reach ∙ (λ i. record { sample = moved i; seen = op.seen }));
      fits = let e : total (after v.start op.seen.log).counts ≡ total s.counts = ap (λ l. total (after v.start l).counts) longer ∙ (ap (λ (t : Sample). total t.counts) (after-snoc v.start goal.seen.log op.change) ∙ next-total s op.change may) in omega arith;
    }
