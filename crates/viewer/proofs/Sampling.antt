-- Samples, and lists of changes that grow.
use Rattle.std.proofs.Common.{◌≡◌, ℕ, zero, suc, ◌+◌, ◌<◌, ◌≤◌, Bool, true, false, nat_lt, List, [], ◌∷◌, ◌++◌, All, map, length, take, drop, set, get_or, refl, sym, ap, ◌∙◌, subst, arith, min, length-append, add-one}
use Rattle.std.proofs.lemmas.List.{take-append-le, take_all}
use Rattle.std.proofs.lemmas.List.Elements.{All-map}
use Rattle.std.proofs.lemmas.Bool.Decides.{nat_tests}
use mathlib.Core.List.{IsPrefix}
use Rattle.frames.specs.declared.sample.Change.{Change}
use Rattle.frames.specs.declared.sample.Sample.{Sample}
use Rattle.frames.specs.States.{after}
use Rattle.frames.proofs.LawLemmas.{after-events}
use Rattle.viewer.specs.Samples.{IsStateOf, Rise, clipped}

take_prefix : (xs ys : List Change) (n : ℕ) → IsPrefix xs ys → n ≤ length xs → take n xs ≡ take n ys
take_prefix xs ys n p le = sym (take-append-le n xs p.0 le) ∙ ap (λ l. take n l) p.1

prefix_length : (xs ys : List Change) → IsPrefix xs ys → length xs ≤ length ys
prefix_length xs ys p = omega (arith, sym (ap length p.1) ∙ length-append xs p.0)

pub all_one : (P : Sample → Type 0) (s : Sample) → P s → All P (s ∷ [])
all_one P s p zero d h = p
all_one P s p (suc k) d h = absurd (omega arith)

events_of : (start : List ℕ) (changes : List Change) (s : Sample) → s ≡ after start changes → s.events ≡ length changes
events_of start changes s e = ap (λ (x : Sample). x.events) e ∙ after-events start changes

-- what is the state after a beginning of a list is one of each longer list
state_longer : (start : List ℕ) (xs ys : List Change) (s : Sample) → IsPrefix xs ys → IsStateOf start xs s → IsStateOf start ys s
state_longer start xs ys s p is = (
  (let le = prefix_length xs ys p in omega (arith, is.0)),
  is.1 ∙ ap (λ l. after start l) (take_prefix xs ys s.events p is.0),
)

pub all_longer : (start : List ℕ) (xs ys : List Change) (ss : List Sample) → IsPrefix xs ys → All (IsStateOf start xs) ss → All (IsStateOf start ys) ss
all_longer start xs ys ss p a k d h = state_longer start xs ys (get_or ss k d) p (a k d h)

pub state_whole : (start : List ℕ) (xs : List Change) (s : Sample) → s ≡ after start xs → IsStateOf start xs s
state_whole start xs s e =
    let n : s.events ≡ length xs = events_of start xs s e in (
      omega arith,
      e ∙ ap (λ l. after start l) (sym (take_all s.events xs (omega arith))),
    )

clipped_by : (start : List ℕ) (xs told all : List Change) (t s : Sample) → t ≡ after start told → IsPrefix xs all → IsPrefix told all → IsStateOf start xs s
    → (b : Bool) → nat_lt t.events s.events ≡ b → IsStateOf start told (clipped t s)
clipped_by start xs told all t s e p q is true less = rw less (state_whole start told t e)
clipped_by start xs told all t s e p q is false less =
    let n : t.events ≡ length told = events_of start told t e in
    let le : s.events ≤ length told = grind (arith, nat_tests) in
    rw less (le, is.1 ∙ ap (λ l. after start l) (take_prefix xs all s.events p is.0 ∙ sym (take_prefix told all s.events q le)))

-- samples that are clipped by what was told are states after beginnings of it
pub all_clipped : (start : List ℕ) (xs told all : List Change) (t : Sample) (ss : List Sample) → t ≡ after start told → IsPrefix xs all → IsPrefix told all
    → All (IsStateOf start xs) ss → All (IsStateOf start told) (map (clipped t) ss)
all_clipped start xs told all t ss e p q a =
    All-map (IsStateOf start told) (clipped t) ss (λ k d h. clipped_by start xs told all t (get_or ss k d) e p q (a k d h) (nat_lt t.events (get_or ss k d).events) refl)

wide_by : (t s : Sample) → length s.counts ≡ length t.counts → (b : Bool) → nat_lt t.events s.events ≡ b → length (clipped t s).counts ≡ length t.counts
wide_by t s e true less = rw less refl
wide_by t s e false less = rw less e

pub clip_wide : (t s u : Sample) → u ≡ clipped t s → length s.counts ≡ length t.counts → length u.counts ≡ length t.counts
clip_wide t s u is e = ap (λ (x : Sample). length x.counts) is ∙ wide_by t s e (nat_lt t.events s.events) refl

pub all_wide : (t : Sample) (ss : List Sample) → All (λ (s : Sample). length s.counts ≡ length t.counts) ss → All (λ (s : Sample). length s.counts ≡ length t.counts) (map (clipped t) ss)
all_wide t ss a = All-map (λ (s : Sample). length s.counts ≡ length t.counts) (clipped t) ss (λ k d h. wide_by t (get_or ss k d) (a k d h) (nat_lt t.events (get_or ss k d).events) refl)

clip_suc : (g : Sample → Sample) (old xs : List Sample) (i : ℕ) (y d : Sample) → i < length old
    → xs ≡ map g (take i old) ++ drop i old → y ≡ g (get_or xs i d)
    → set xs i y ≡ map g (take (suc i) old) ++ drop (suc i) old
clip_suc g [] xs i y d h is e = absurd (omega arith)
clip_suc g (o ∷ os) [] zero y d h is e = absurd (cc (is))
clip_suc g (o ∷ os) (x ∷ xs) zero y d h is e = cc (is, e)
clip_suc g (o ∷ os) [] (suc i) y d h is e = absurd (cc (is))
clip_suc g (o ∷ os) (x ∷ xs) (suc i) y d h is e =
    let rest = clip_suc g os xs i y d (omega arith) (cc (is)) e in cc (is, rest)

-- a loop that has clipped the first i clips the next
pub clip_step : (g : Sample → Sample) (old xs : List Sample) (i : ℕ) (y d : Sample) → i < length old
    → xs ≡ map g (take i old) ++ drop i old → y ≡ g (get_or xs i d)
    → set xs i y ≡ map g (take (i + 1) old) ++ drop (i + 1) old
clip_step g old xs i y d h is e = rw add-one (clip_suc g old xs i y d h is e)

events_by : (t s : Sample) (b : Bool) → nat_lt t.events s.events ≡ b → (clipped t s).events ≡ min s.events t.events
events_by t s true less = rw less (let h : t.events < s.events = grind (arith, nat_tests) in omega arith)
events_by t s false less = rw less (let h : s.events ≤ t.events = grind (arith, nat_tests) in omega arith)

rise_clipped : (n : ℕ) (t : Sample) (ss : List Sample) → Rise n ss → Rise (min n t.events) (map (clipped t) ss)
rise_clipped n t [] r = tt
rise_clipped n t (s ∷ ss) r =
    let e : (clipped t s).events ≡ min s.events t.events = events_by t s (nat_lt t.events s.events) refl in
    (omega (arith, e, r.0), subst (λ (m : ℕ). Rise m (map (clipped t) ss)) (sym e) (rise_clipped s.events t ss r.1))

-- clipped samples rise as before
pub rise_all : (t : Sample) (ss : List Sample) → Rise 0 ss → Rise 0 (map (clipped t) ss)
rise_all t ss r = let z : min 0 t.events ≡ 0 = omega arith in subst (λ (m : ℕ). Rise m (map (clipped t) ss)) z (rise_clipped 0 t ss r)

rise_last : (n : ℕ) (ss : List Sample) (s : Sample) → Rise n ss → n ≤ s.events → All (λ (x : Sample). x.events ≤ s.events) ss → Rise n (ss ++ s ∷ [])
rise_last n [] s r le a = (le, tt)
rise_last n (x ∷ ss) s r le a = (r.0, rise_last x.events ss s r.1 (a 0 x (omega arith)) (λ k d h. a (suc k) d (omega arith)))

-- a sample after a list that begins with that of the others has no fewer events
pub rise_next : (start : List ℕ) (xs ys : List Change) (ss : List Sample) (s : Sample) → IsPrefix xs ys → s ≡ after start ys → All (IsStateOf start xs) ss → Rise 0 ss → Rise 0 (ss ++ s ∷ [])
rise_next start xs ys ss s p e a r =
    let n : s.events ≡ length ys = events_of start ys s e in
    let le : length xs ≤ length ys = prefix_length xs ys p in
    rise_last 0 ss s r (omega arith) (λ k d h. omega (arith, (a k d h).0))
