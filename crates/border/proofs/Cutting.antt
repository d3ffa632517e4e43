-- What lies below a key in a list whose keys rise strictly.
use Rattle.std.proofs.Common.{◌≡◌, ℕ, zero, suc, ◌+◌, ◌<◌, ◌≤◌, List, [], ◌∷◌, ◌++◌, length, take, slice_index_or, refl, sym, subst, arith, add-one}
use Rattle.std.specs.Prelude.{not}
use Rattle.surf_kinds.specs.declared.event.Key.{Key}
use Rattle.surf_kinds.specs.declared.event.Event.{Event}
use Rattle.surf_kinds.specs.Keys.{is_before, key_of, below, from, ◌is_below◌, AllKeys, IsRising, RiseStrictly}
use Rattle.surf_kinds.proofs.Order.{lt_lt, le_refl}
use Rattle.surf_kinds.proofs.Tables.{AllKeys_kept, IsRising_keep, IsRising_append, keep_all}
use Rattle.surf_kinds.proofs.Rising.{strictly, rises}

-- what holds of all keys holds of the one at n
AllKeys_index : (P : Key → Type 0) (es : List Event) (n : ℕ) (x : Event) → n < length es → x ≡ slice_index_or es n x → AllKeys P es → P (key_of x)
AllKeys_index P [] n x h i all = absurd (omega arith)
AllKeys_index P (e ∷ es) zero x h i all = subst (λ y. P (key_of y)) (sym i) all.0
AllKeys_index P (e ∷ es) (suc n) x h i all = AllKeys_index P es n x (omega arith) i all.1

-- the event at n lies below the key, and so do all before it
all_below : (k : Key) (es : List Event) (n : ℕ) (x : Event) → n < length es → x ≡ slice_index_or es n x → IsRising es → key_of x is_below k → AllKeys (λ j. j is_below k) (take (suc n) es)
all_below k [] n x h i r p = absurd (omega arith)
all_below k (e ∷ es) zero x h i r p = (subst (λ y. key_of y is_below k) i p, tt)
all_below k (e ∷ es) (suc n) x h i r p = (
  lt_lt (key_of e) (key_of x) k (AllKeys_index (λ j. key_of e is_below j) es n x (omega arith) i r.0) p,
  all_below k es n x (omega arith) i r.1 p,
)

-- where the loop that cuts ends
pub end_cuts : (k : Key) (es : List Event) (m n : ℕ) (x : Event) → m ≡ n + 1 → m ≤ length es → x ≡ slice_index_or es n x → RiseStrictly es → key_of x is_below k → take m es ≡ below k (take m es)
end_cuts k es m n x e h i r p =
    rw (e, add-one) (sym (keep_all (λ j. is_before j k) (take (suc n) es) (all_below k es n x (omega arith) i (rises es r) p)))

pub none_cuts : (k : Key) (es : List Event) (m : ℕ) → m ≤ 0 → take m es ≡ below k (take m es)
none_cuts k es m h = let e : m ≡ 0 = omega arith in rw e refl

pub rise-below : (k : Key) (es : List Event) → RiseStrictly es → RiseStrictly (below k es)
rise-below k es r = strictly (below k es) (IsRising_keep (λ j. is_before j k) es (rises es r))

pub rise-from : (k : Key) (es : List Event) → RiseStrictly es → RiseStrictly (from k es)
rise-from k es r = strictly (from k es) (IsRising_keep (λ j. not (is_before j k)) es (rises es r))

pub rise-put : (e : Event) (es : List Event) → RiseStrictly es → RiseStrictly (below (key_of e) es ++ e ∷ [])
rise-put e es r =
    strictly _
    (IsRising_append (key_of e) (below (key_of e) es) (e ∷ []) (IsRising_keep (λ j. is_before j (key_of e)) es (rises es r)) (tt, tt) (AllKeys_kept (λ j. is_before j (key_of e)) es) (le_refl (key_of e), tt))
