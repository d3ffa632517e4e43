-- Each step keeps the rule of the places.
use Rattle.std.proofs.Common.{◌≡◌, ℕ, ◌≢◌, true, List, [], ◌∷◌, ◌++◌, set, refl, sym, ap, ◌∙◌, subst, ⊎_elim}
use mathlib.Core.Option.{some}
use lib.ListN.{get_elem?}
use Rattle.logbook.specs.Pages.{Book}
use Rattle.left_right.specs.Register.{Admits, Turns, TurnsAt, Forks, Merges}
use Rattle.atomic_table.proofs.Lists.{at_set, at_snoc, set_again}
use Rattle.frames.specs.declared.pair.Frame.{Frame}
use Rattle.frames.specs.declared.sample.Sample.{Sample}
use Rattle.frames.specs.declared.places.Knowledge.{Knowledge}
use Rattle.frames.specs.States.{after, opening}
use Rattle.frames.specs.Places.{known_as, newcomer, IsFrame, ArePlaces, Sees, Opens}

abbrev same_start : (s t : List ℕ) (b d : Book) → known_as s b ≡ known_as t d → s ≡ t
same_start s t b d e = ap (λ (v : Knowledge). v.start) e

abbrev same_book : (s t : List ℕ) (b d : Book) → known_as s b ≡ known_as t d → b ≡ d
same_book s t b d e i = record { number = (e i).number; log_name = (e i).log_name; cells_name = (e i).cells_name }

same_known : (s t : List ℕ) (b d : Book) → s ≡ t → b ≡ d → known_as s b ≡ known_as t d
same_known s t b d p q i = known_as (p i) (q i)

unknown : (v : Knowledge) → newcomer ≡ v → v.known ≡ true → ⊥
unknown v e k = cc (ap (λ (t : Knowledge). t.known) e, k)

pub admits : Admits (λ (x : Frame) (views : List Knowledge). ArePlaces x views) newcomer
admits x views h = record {
  start = h.start;
  frame = h.frame;
  each = λ seat v at known. ⊎_elim (λ (e : get_elem? views seat ≡ some v). h.each seat v e known) (λ (e : newcomer ≡ v). absurd (unknown v e known)) (at_snoc views newcomer v seat at);
}

pub reads : (seat : ℕ) (v : Knowledge) → Turns (λ (x : Frame) (views : List Knowledge). ArePlaces x views) seat v (λ x. x) Sees
reads seat v x views h at = (
  v,
  subst (λ (vs : List Knowledge). ArePlaces x vs) (sym (set_again views seat v at)) h,
  (
    refl,
    λ start b is.
        let e : known_as start b ≡ known_as h.start x.seen.book = sym is ∙ h.each seat v at (ap (λ (t : Knowledge). t.known) is) in (
          subst (λ (s : List ℕ). IsFrame s x) (sym (same_start start h.start b x.seen.book e)) h.frame,
          sym (same_book start h.start b x.seen.book e),
        ),
  ),
)

pub publishes : (seat : ℕ) (start : List ℕ) (b : Book) (x y : Frame) → IsFrame start y → y.seen.book ≡ b
    → TurnsAt (λ (x : Frame) (views : List Knowledge). ArePlaces x views) seat (known_as start b) x y Sees
publishes seat start b x y frame book views h at =
    let v : Knowledge = known_as start b in
    let e : known_as start b ≡ known_as h.start x.seen.book = h.each seat v at refl in
    let back : known_as h.start x.seen.book ≡ known_as start y.seen.book = sym e ∙ same_known start start b y.seen.book refl (sym book) in (
      v,
      subst (λ (vs : List Knowledge). ArePlaces y vs) (sym (set_again views seat v at)) (record {
        start = start;
        frame = frame;
        each = λ j u there known. h.each j u there known ∙ back;
      }),
      (
        refl,
        λ s d is. (
          subst (λ (t : List ℕ). IsFrame t y) (same_start start s b d is) frame,
          book ∙ same_book start s b d is,
        ),
      ),
    )

pub opens : (seat : ℕ) (x y : Frame) → x.seen.log ≡ [] → y.seen.log ≡ [] → y.seen.book ≡ x.seen.book → y.sample ≡ x.sample
    → TurnsAt (λ (x : Frame) (views : List Knowledge). ArePlaces x views) seat newcomer x y Opens
opens seat x y xs ys book same views h at =
    let w : Knowledge = known_as y.sample.counts y.seen.book in
    let started : x.sample ≡ opening h.start = h.frame ∙ ap (λ l. after h.start l) xs in
    let first : y.sample.counts ≡ h.start = ap (λ (s : Sample). s.counts) (same ∙ started) in
    let back : known_as h.start x.seen.book ≡ w = same_known h.start y.sample.counts x.seen.book y.seen.book (sym first) (sym book) in (
      w,
      record {
        start = y.sample.counts;
        frame = same ∙ (started ∙ (ap opening (sym first) ∙ ap (λ l. after y.sample.counts l) (sym ys)));
        each = λ j u there known. ⊎_elim (λ (t : (j ≡ seat) × (w ≡ u)). sym t.1) (λ (t : (j ≢ seat) × (get_elem? views j ≡ some u)). h.each j u t.1 known ∙ back) (at_set views seat j w u there);
      },
      refl,
    )

pub forks : (seat : ℕ) (v : Knowledge) → Forks (λ (x : Frame) (views : List Knowledge). ArePlaces x views) seat v v v
forks seat v x views h at = subst (λ (vs : List Knowledge). ArePlaces x (vs ++ v ∷ [])) (sym (set_again views seat v at)) (record {
  start = h.start;
  frame = h.frame;
  each = λ j u there known. ⊎_elim (λ (e : get_elem? views j ≡ some u). h.each j u e known)
      (λ (e : v ≡ u). subst (λ (t : Knowledge). t.known ≡ true → t ≡ known_as h.start x.seen.book) e (h.each seat v at) known) (at_snoc views v u j there);
})

pub merges : (seat : ℕ) (v : Knowledge) (other : ℕ) (w : Knowledge) → Merges (λ (x : Frame) (views : List Knowledge). ArePlaces x views) seat v other w w newcomer
merges seat v other w x views h at apart there =
    let from : get_elem? views other ≡ some w = ⊎_elim (λ (t : (other ≡ seat) × (w ≡ w)). absurd (apart t.0)) (λ (t : (other ≢ seat) × (get_elem? views other ≡ some w)). t.1) (at_set views seat other w w there) in
    record {
      start = h.start;
      frame = h.frame;
      each = λ j u here known. ⊎_elim (λ (t : (j ≡ other) × (newcomer ≡ u)). absurd (unknown u t.1 known))
          (λ (t : (j ≢ other) × (get_elem? (set views seat w) j ≡ some u)). ⊎_elim (λ (s : (j ≡ seat) × (w ≡ u)). subst (λ (z : Knowledge). z.known ≡ true → z ≡ known_as h.start x.seen.book) s.1 (h.each other w from) known)
          (λ (s : (j ≢ seat) × (get_elem? views j ≡ some u)). h.each j u s.1 known) (at_set views seat j w u t.1))
          (at_set (set views seat w) other j newcomer u here);
    }
