-- Lists of vectors.
use Rattle.std.proofs.Common.{drop, if◌then◌else◌, ◌≡◌, ◌≢◌, ℕ, zero, suc, refl, ◌+◌, ◌<◌, ◌≤◌, ◌==◌, List, [], ◌∷◌, ◌++◌, length, map, sym, ap, ◌∙◌, subst, arith, slice_index_or, slice_set, append-nil, Vec, vec_len, vec_capacity, inl, inr, cond}
use Rattle.std.specs.Global.{Global}
use Rattle.std.proofs.lemmas.List.{map-set, get_or-map, get_or-set_same, get_or-set_other, length-map, length-set}
use Rattle.std.proofs.lemmas.Bool.{cases_lt}
use Rattle.std.proofs.lemmas.Bool.Decides.{eqb_tells}
use Rattle.border.specs.declared.op.Op.{Op}
use Rattle.warp_core.specs.Regions.{items_at, HaveRoom}

pub items_is : {X : Type 0} → (vs : List (Vec X Global)) (i : ℕ) (d : Vec X Global) → i < length vs → items_at vs i ≡ (slice_index_or vs i d).items
items_is {X} vs i d h = get_or-map (λ (v : Vec X Global). v.items) vs i d [] h

items_set_same : {X : Type 0} → (vs : List (Vec X Global)) (i : ℕ) (v : Vec X Global) → i < length vs → items_at (slice_set vs i v) i ≡ v.items
items_set_same {X} vs i v h = ap (λ (l : List (List X)). slice_index_or l i []) (map-set (λ (v : Vec X Global). v.items) vs i v) ∙ get_or-set_same (map (λ (v : Vec X Global). v.items) vs) i v.items [] (subst (λ n. i < n) (sym (length-map vs (λ (v : Vec X Global). v.items))) h)

items_set_other : {X : Type 0} → (vs : List (Vec X Global)) (i j : ℕ) (v : Vec X Global) → j ≢ i → items_at (slice_set vs i v) j ≡ items_at vs j
items_set_other {X} vs i j v h = ap (λ (l : List (List X)). slice_index_or l j []) (map-set (λ (v : Vec X Global). v.items) vs i v) ∙ get_or-set_other (map (λ (v : Vec X Global). v.items) vs) i j v.items [] h

-- a vector with the same items in its place
pub items_kept : {X : Type 0} → (vs : List (Vec X Global)) (i : ℕ) (old new : Vec X Global) → i < length vs → old ≡ slice_index_or vs i old → new.items ≡ old.items → (l : ℕ) → items_at (slice_set vs i new) l ≡ items_at vs l
items_kept {X} vs i old new h is same l =
    elim (eqb_tells l i) [
      | inl q ↦
          ap (items_at (slice_set vs i new)) q.1
          ∙ (items_set_same vs i new h
          ∙ (same ∙ (ap (λ (v : Vec X Global). v.items) is ∙ (sym (items_is vs i old h) ∙ ap (items_at vs) (sym q.1)))))
      | inr q ↦ items_set_other vs i l new q.1
    ]

-- each vector up to one has room
pub room_more : {X : Type 0} → (vs : List (Vec X Global)) (i : ℕ) (new : Vec X Global) → i < length vs → HaveRoom 0 i vs → vec_len new < vec_capacity new → HaveRoom 0 (i + 1) (slice_set vs i new)
room_more {X} vs i new h r n l d a b =
    elim (eqb_tells l i) [
      | inl q ↦ subst (λ m. vec_len (slice_index_or (slice_set vs i new) m d) < vec_capacity (slice_index_or (slice_set vs i new) m d)) (sym q.1) (subst (λ (v : Vec X Global). vec_len v < vec_capacity v) (sym (get_or-set_same vs i new d h)) n)
      | inr q ↦ subst (λ (v : Vec X Global). vec_len v < vec_capacity v) (sym (get_or-set_other vs i l new d q.1)) (r l d a (omega (arith, b, q.1)))
    ]

-- In a loop that puts messages, after the first n outboxes.
pub record Putting (puts : ℕ → List Op) (first now : List (Vec Op Global)) (n : ℕ) : Type 0 where
  pub long : length now ≡ length first
  pub done : (l : ℕ) → l < n → items_at now l ≡ items_at first l ++ puts l
  pub rest : (l : ℕ) → n ≤ l → items_at now l ≡ items_at first l
  pub room : HaveRoom n (length now) now

pub putting_done : (puts : ℕ → List Op) (first now : List (Vec Op Global)) (n : ℕ) → Putting puts first now n → length now ≤ n → ((l : ℕ) → length first ≤ l → puts l ≡ []) → (l : ℕ) → items_at now l ≡ items_at first l ++ puts l
putting_done puts first now n p h r l =
    elim (cases_lt l n) [
      | inl q ↦ p.done l q
      | inr q ↦ p.rest l q ∙ (sym (append-nil (items_at first l)) ∙ ap (λ x. items_at first l ++ x) (sym (r l (omega (arith, q, h, p.long)))))
    ]

pub putting_skip : (puts : ℕ → List Op) (first now : List (Vec Op Global)) (n : ℕ) → Putting puts first now n → puts n ≡ [] → Putting puts first now (n + 1)
putting_skip puts first now n p none =
    record {
      long = p.long;
      done = λ l h. elim (eqb_tells l n) [
        | inl q ↦ p.rest l (omega (arith, q.1)) ∙ (sym (append-nil (items_at first l)) ∙ ap (λ x. items_at first l ++ x) (sym (ap puts q.1 ∙ none)))
        | inr q ↦ p.done l (omega (arith, h, q.1))
      ];
      rest = λ l h. p.rest l (omega (arith, h));
      room = λ l d a b. p.room l d (omega (arith, a)) b;
    }

pub putting_push : (puts : ℕ → List Op) (first now : List (Vec Op Global)) (n : ℕ) (old new : Vec Op Global) (op : Op) → Putting puts first now n → n < length now → old ≡ slice_index_or now n old → new.items ≡ old.items ++ op ∷ [] → puts n ≡ op ∷ [] → Putting puts first (slice_set now n new) (n + 1)
putting_push puts first now n old new op p h is push when =
    record {
      long = length-set now n new ∙ p.long;
      done = λ l q. elim (eqb_tells l n) [
        | inl s ↦ at_n l s.1
        | inr s ↦ items_set_other now n l new s.1 ∙ p.done l (omega (arith, q, s.1))
      ];
      rest = λ l q. items_set_other now n l new (λ s. omega (arith, q, s)) ∙ p.rest l (omega (arith, q));
      room = λ l d a b.
          subst (λ v. vec_len v < vec_capacity v) (sym (get_or-set_other now n l new d (λ s. omega (arith, a, s))))
          (p.room l d (omega (arith, a)) (subst (λ m. l < m) (length-set now n new) b));
    }
  where
    at_n : (l : ℕ) → l ≡ n → items_at (slice_set now n new) l ≡ items_at first l ++ puts l
    at_n l s =
        ap (items_at (slice_set now n new)) s
        ∙ (items_set_same now n new h
        ∙ (push
        ∙ (ap (λ (v : Vec Op Global). v.items ++ op ∷ []) is
        ∙ (ap (λ x. x ++ op ∷ []) (sym (items_is now n old h) ∙ p.rest n (omega arith))
        ∙ (ap (λ x. items_at first n ++ x) (sym when)
        ∙ ap (λ m. items_at first m ++ puts m) (sym s))))))

-- a vector loses its first item
pub items_dropped : {X : Type 0} → (vs : List (Vec X Global)) (i : ℕ) (old new : Vec X Global) → i < length vs → old ≡ slice_index_or vs i old → new.items ≡ drop 1 old.items → (l : ℕ) → items_at (slice_set vs i new) l ≡ (if l == i then drop 1 (items_at vs i) else items_at vs l)
items_dropped {X} vs i old new h is same l =
    elim (eqb_tells l i) [
      | inl q ↦
          ap (items_at (slice_set vs i new)) q.1
          ∙ (items_set_same vs i new h
          ∙ (same ∙ (ap (drop 1) (ap (λ (v : Vec X Global). v.items) is ∙ sym (items_is vs i old h))
          ∙ ap (λ b. cond b (drop 1 (items_at vs i)) (items_at vs l)) (sym q.0))))
      | inr q ↦ items_set_other vs i l new q.1 ∙ ap (λ b. cond b (drop 1 (items_at vs i)) (items_at vs l)) (sym q.0)
    ]

-- one more empty vector
pub items_more : {X : Type 0} → (vs : List (Vec X Global)) (v : Vec X Global) → v.items ≡ [] → ((j : ℕ) → items_at vs j ≡ []) → (j : ℕ) → items_at (vs ++ v ∷ []) j ≡ []
items_more {X} [] v e h zero = e
items_more {X} [] v e h (suc j) = refl
items_more {X} (w ∷ vs) v e h zero = h 0
items_more {X} (w ∷ vs) v e h (suc j) = items_more vs v e (λ k. h (suc k)) j
