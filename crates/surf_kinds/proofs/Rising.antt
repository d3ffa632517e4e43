-- Events whose keys rise.
use Rattle.std.proofs.Common.{◌≡◌, true, inl, inr, List, [], ◌∷◌, ◌++◌, refl, sym, ap, ◌∙◌}
use Rattle.std.specs.Prelude.{IsTrue, not}
use Rattle.surf_kinds.specs.declared.event.Key.{Key}
use Rattle.surf_kinds.specs.declared.event.Event.{Event}
use Rattle.surf_kinds.specs.Keys.{is_before, is_earlier, key_of, below, from, ◌is_below◌, ◌is_upto◌, AllKeys, IsRising, RiseFrom, RiseStrictly}
use Rattle.surf_kinds.proofs.Order.{lt_lt, le_lt, lt_to_le, key_cases}
use Rattle.surf_kinds.proofs.Tables.{AllKeys_weaker, keep_yes, keep_no, keep_all, keep_none}

before_from : (e : Event) (f : Event) → key_of e is_below key_of f → IsTrue (is_earlier e f)
before_from e f h = h

rise_from : (e : Event) (es : List Event) → AllKeys (λ k. key_of e is_below k) es → IsRising es → RiseFrom e es
rise_from e [] all r = tt
rise_from e (f ∷ fs) all r = (before_from e f all.0, rise_from f fs r.0 r.1)

pub strictly : (es : List Event) → IsRising es → RiseStrictly es
strictly [] r = tt
strictly (e ∷ es) r = rise_from e es r.0 r.1

mutual_all : (e : Event) (es : List Event) → RiseFrom e es → AllKeys (λ k. key_of e is_below k) es × IsRising es
mutual_all e [] r = (tt, tt)
mutual_all e (f ∷ fs) r =
    let rest = mutual_all f fs r.1 in (
      (r.0, AllKeys_weaker (λ k. key_of f is_below k) (λ k. key_of e is_below k) (λ k l. lt_lt (key_of e) (key_of f) k r.0 l) fs rest.0),
      rest,
    )

pub rises : (es : List Event) → RiseStrictly es → IsRising es
rises [] r = tt
rises (e ∷ es) r = mutual_all e es r

-- a list that rises is what lies below a key and then what lies from it on
pub parted : (k : Key) (es : List Event) → IsRising es → es ≡ below k es ++ from k es
parted k [] r = refl
parted k (e ∷ es) r =
    elim (key_cases (key_of e) k) [
      | inl p ↦
          let rest : es ≡ below k es ++ from k es = parted k es r.1 in
          ap (λ l. e ∷ l) rest ∙ (ap (λ l. l ++ from k es) (sym (keep_yes (λ j. is_before j k) e es p)) ∙ ap (λ l. below k (e ∷ es) ++ l) (sym (keep_no (λ j. not (is_before j k)) e es (ap not p))))
      | inr p ↦
          let later : AllKeys (λ j. k is_upto j) es = AllKeys_weaker (λ j. key_of e is_below j) (λ j. k is_upto j) (λ j l. lt_to_le k j (le_lt k (key_of e) j p l)) es r.0 in
          let none : below k (e ∷ es) ≡ [] = keep_none (λ j. is_before j k) (e ∷ es) (p, later) in
          let all : from k (e ∷ es) ≡ e ∷ es = keep_all (λ j. not (is_before j k)) (e ∷ es) (ap not p, AllKeys_weaker (λ j. k is_upto j) (λ j. not (is_before j k) ≡ true) (λ j l. ap not l) es later) in
          sym (ap (λ l. l ++ from k (e ∷ es)) none ∙ all)
    ]
