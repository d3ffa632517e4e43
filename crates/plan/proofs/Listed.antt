-- Lists of channels that are found by the species beside them.
use Rattle.std.proofs.Common.{◌≡◌, ◌≢◌, ℕ, zero, suc, ◌<◌, ◌≤◌, List, [], ◌∷◌, ◌++◌, length, cond, refl, sym, ap, ◌∙◌, arith, set, get_or, slice_index, inl, inr, Option, Some, None, Ok, Err, nat_cmp}
use mathlib.Core.Logic.{⊎_elim}
use Rattle.std.specs.Prelude.{◌==◌, slice_get}
use Rattle.std.specs.List.{insert}
use Rattle.std.specs.Global.{Vec}
use Rattle.std.proofs.lemmas.Bool.{cases_lt}
use Rattle.std.proofs.lemmas.Bool.Decides.{eqb_tells}
use Rattle.std.proofs.lemmas.List.Sorted.{searched}
use Rattle.std.specs.List.Sorted.{IsBinarySearchResult}
use Rattle.surf_kinds.specs.declared.site.SpeciesId.{SpeciesId}
use Rattle.plan.specs.declared.index.Channel.{Channel}
use Rattle.plan.specs.declared.index.Row.{Row}
use Rattle.plan.specs.Index.{listed, same_species, found_in_row, found_at, IsRow, IsPlaceFor}

same_number : (k s : ℕ) (xs ys : List Channel) → k ≡ s → cond (k == s) xs ys ≡ xs
same_number k s xs ys h = elim (eqb_tells k s) [ inl p ↦ ap (λ b. cond b xs ys) p.0 | inr p ↦ absurd (p.1 h) ]

other_number : (k s : ℕ) (xs ys : List Channel) → k ≢ s → cond (k == s) xs ys ≡ ys
other_number k s xs ys h = elim (eqb_tells k s) [ inl p ↦ absurd (h p.1) | inr p ↦ ap (λ b. cond b xs ys) p.0 ]

-- what stands beside the species is what is listed
pub listed-at : (ks : List ℕ) (vs : List (Vec Channel)) (i s : ℕ) (d : Vec Channel) → length vs ≡ length ks → i < length ks → slice_index ks i ≡ s → ((j : ℕ) → j < i → slice_index ks j ≢ s) → listed ks vs s ≡ (get_or vs i d).items
listed-at [] vs i s d e l is before = absurd (omega (arith, l))
listed-at (k ∷ ks) [] i s d e l is before = absurd (omega (arith, e))
listed-at (k ∷ ks) (v ∷ vs) zero s d e l is before = same_number k s v.items (listed ks vs s) is
listed-at (k ∷ ks) (v ∷ vs) (suc i) s d e l is before =
    other_number k s v.items (listed ks vs s) (before 0 (omega arith))
    ∙ listed-at ks vs i s d (omega (arith, e)) (omega (arith, l)) is (λ j h. before (suc j) (omega (arith, h)))

-- nothing is listed where no species is that one
pub listed-none : (ks : List ℕ) (vs : List (Vec Channel)) (s : ℕ) → ((j : ℕ) → j < length ks → slice_index ks j ≢ s) → listed ks vs s ≡ []
listed-none [] vs s h = refl
listed-none (k ∷ ks) [] s h = refl
listed-none (k ∷ ks) (v ∷ vs) s h = other_number k s v.items (listed ks vs s) (h 0 (omega arith)) ∙ listed-none ks vs s (λ j l. h (suc j) (omega (arith, l)))

-- what is listed where one species has a new list
abbrev pub with_list : ℕ → List Channel → ℕ → List Channel → List Channel
with_list s new q old = cond (q == s) new old

head_new : (k s q : ℕ) (new old rest : List Channel) → k ≡ s → cond (k == q) new rest ≡ with_list s new q (cond (k == q) old rest)
head_new k s q new old rest h = elim (eqb_tells q s) [
  | inl p ↦ same_number k q new rest (h ∙ sym p.1) ∙ sym (ap (λ b. cond b new (cond (k == q) old rest)) p.0)
  | inr p ↦
      let apart : k ≢ q = λ z. p.1 (sym z ∙ h) in
      other_number k q new rest apart ∙ sym (ap (λ b. cond b new (cond (k == q) old rest)) p.0 ∙ other_number k q old rest apart)
]

tail_new : (k s q : ℕ) (new here rest : List Channel) → k ≢ s → cond (k == q) here (with_list s new q rest) ≡ with_list s new q (cond (k == q) here rest)
tail_new k s q new here rest h = elim (eqb_tells q s) [
  | inl p ↦
      let apart : k ≢ q = λ z. h (z ∙ p.1) in
      other_number k q here (with_list s new q rest) apart ∙ (ap (λ b. cond b new rest) p.0 ∙ sym (ap (λ b. cond b new (cond (k == q) here rest)) p.0))
  | inr p ↦ ap (λ b. cond (k == q) here (cond b new rest)) p.0 ∙ sym (ap (λ b. cond b new (cond (k == q) here rest)) p.0)
]

pub listed-set : (ks : List ℕ) (vs : List (Vec Channel)) (i s : ℕ) (w : Vec Channel) → length vs ≡ length ks → i < length ks → slice_index ks i ≡ s → ((j : ℕ) → j < i → slice_index ks j ≢ s) → (q : ℕ) → listed ks (set vs i w) q ≡ with_list s w.items q (listed ks vs q)
listed-set [] vs i s w e l is before q = absurd (omega (arith, l))
listed-set (k ∷ ks) [] i s w e l is before q = absurd (omega (arith, e))
listed-set (k ∷ ks) (v ∷ vs) zero s w e l is before q = head_new k s q w.items v.items (listed ks vs q) is
listed-set (k ∷ ks) (v ∷ vs) (suc i) s w e l is before q =
    ap (cond (k == q) v.items) (listed-set ks vs i s w (omega (arith, e)) (omega (arith, l)) is (λ j h. before (suc j) (omega (arith, h))) q)
    ∙ tail_new k s q w.items v.items (listed ks vs q) (before 0 (omega arith))

-- what is listed once that list has one channel more
abbrev pub with_more : ℕ → Channel → ℕ → List Channel → List Channel
with_more s c q old = cond (q == s) (old ++ c ∷ []) old

more : (ks : List ℕ) (vs : List (Vec Channel)) (s q : ℕ) (new : List Channel) (c : Channel) → new ≡ listed ks vs s ++ c ∷ [] → with_list s new q (listed ks vs q) ≡ with_more s c q (listed ks vs q)
more ks vs s q new c is = elim (eqb_tells q s) [
  | inl p ↦ ap (λ b. cond b new (listed ks vs q)) p.0 ∙ (is ∙ (ap (λ n. listed ks vs n ++ c ∷ []) (sym p.1) ∙ sym (ap (λ b. cond b (listed ks vs q ++ c ∷ []) (listed ks vs q)) p.0)))
  | inr p ↦ ap (λ b. cond b new (listed ks vs q)) p.0 ∙ sym (ap (λ b. cond b (listed ks vs q ++ c ∷ []) (listed ks vs q)) p.0)
]

first_new : (s q : ℕ) (new rest : List Channel) → cond (s == q) new rest ≡ with_list s new q rest
first_new s q new rest = elim (eqb_tells q s) [
  | inl p ↦ same_number s q new rest (sym p.1) ∙ sym (ap (λ b. cond b new rest) p.0)
  | inr p ↦ other_number s q new rest (λ z. p.1 (sym z)) ∙ sym (ap (λ b. cond b new rest) p.0)
]

pub listed-insert : (ks : List ℕ) (vs : List (Vec Channel)) (i s : ℕ) (w : Vec Channel) → length vs ≡ length ks → i ≤ length ks → ((j : ℕ) → j < i → slice_index ks j ≢ s) → (q : ℕ) → listed (insert ks i s) (insert vs i w) q ≡ with_list s w.items q (listed ks vs q)
listed-insert ks vs zero s w e l before q = first_new s q w.items (listed ks vs q)
listed-insert [] vs (suc i) s w e l before q = absurd (omega (arith, l))
listed-insert (k ∷ ks) [] (suc i) s w e l before q = absurd (omega (arith, e))
listed-insert (k ∷ ks) (v ∷ vs) (suc i) s w e l before q =
    ap (cond (k == q) v.items) (listed-insert ks vs i s w (omega (arith, e)) (omega (arith, l)) (λ j h. before (suc j) (omega (arith, h))) q)
    ∙ tail_new k s q w.items v.items (listed ks vs q) (before 0 (omega arith))

-- what is found in a row by a search among its second species
module _ (r : Row) (row : IsRow r) (k s : ℕ) where
  weakly : (i j : ℕ) → i ≤ j → j < length r.seconds.items → slice_index r.seconds.items i ≤ slice_index r.seconds.items j
  weakly i j h l = elim (eqb_tells i j) [
    | inl p ↦ omega (arith, ap (slice_index r.seconds.items) p.1)
    | inr p ↦ omega (arith, row.rising i j (omega (arith, h, p.1)) l)
  ]

  earlier_less : k < length r.seconds.items → slice_index r.seconds.items k ≡ s → (j : ℕ) → j < k → slice_index r.seconds.items j ≢ s
  earlier_less l is j h z = absurd (omega (arith, row.rising j k h l, is, z))

  pub is_there : IsBinarySearchResult (λ y. nat_cmp y s) r.seconds.items (Ok k) → (k < length r.seconds.items) × (slice_index r.seconds.items k ≡ s)
  is_there h = searched r.seconds.items s (Ok k) h weakly

  pub is_place : IsBinarySearchResult (λ y. nat_cmp y s) r.seconds.items (Err k) → IsPlaceFor r.seconds.items k s
  is_place h = let p = searched r.seconds.items s (Err k) h weakly in record { within = p.0; below = p.1; above = p.2 }

  pub found_there : (d : Vec Channel) → IsBinarySearchResult (λ y. nat_cmp y s) r.seconds.items (Ok k) → listed r.seconds.items r.pairs.items s ≡ (get_or r.pairs.items k d).items
  found_there d h =
      let at = is_there h in
      listed-at r.seconds.items r.pairs.items k s d row.paired at.0 at.1 (earlier_less at.0 at.1)

  not_there : IsPlaceFor r.seconds.items k s → (j : ℕ) → j < length r.seconds.items → slice_index r.seconds.items j ≢ s
  not_there p j l z = ⊎_elim (λ jk. absurd (omega (arith, p.below j jk, z))) (λ kj. absurd (omega (arith, p.above j kj l, z))) (cases_lt j k)

  pub found_nothing : IsPlaceFor r.seconds.items k s → listed r.seconds.items r.pairs.items s ≡ []
  found_nothing p = listed-none r.seconds.items r.pairs.items s (not_there p)

  -- a list with one channel more at k
  pub put_there : (w d : Vec Channel) (c : Channel) → IsBinarySearchResult (λ y. nat_cmp y s) r.seconds.items (Ok k) → w.items ≡ (get_or r.pairs.items k d).items ++ c ∷ []
      → (q : ℕ) → listed r.seconds.items (set r.pairs.items k w) q ≡ with_more s c q (listed r.seconds.items r.pairs.items q)
  put_there w d c h is q =
      let at = is_there h in
      listed-set r.seconds.items r.pairs.items k s w row.paired at.0 at.1 (earlier_less at.0 at.1) q
      ∙ more r.seconds.items r.pairs.items s q w.items c (is ∙ ap (λ xs. xs ++ c ∷ []) (sym (found_there d h)))

  -- and the first one
  pub put_first : (w : Vec Channel) (c : Channel) → IsPlaceFor r.seconds.items k s → w.items ≡ c ∷ []
      → (q : ℕ) → listed (insert r.seconds.items k s) (insert r.pairs.items k w) q ≡ with_more s c q (listed r.seconds.items r.pairs.items q)
  put_first w c p is q =
      listed-insert r.seconds.items r.pairs.items k s w row.paired p.within (λ j jk z. absurd (omega (arith, p.below j jk, z))) q
      ∙ more r.seconds.items r.pairs.items s q w.items c (is ∙ ap (λ xs. xs ++ c ∷ []) (sym (found_nothing p)))

-- a row that has one channel more for a second species
pub row_added : (r r' : Row) (s : ℕ) (c : Channel) → r'.alone.items ≡ r.alone.items → ((q : ℕ) → listed r'.seconds.items r'.pairs.items q ≡ with_more s c q (listed r.seconds.items r.pairs.items q))
    → (o : Option SpeciesId) → found_in_row r' o ≡ cond (same_species o (Some (record { 0 = s }))) (found_in_row r o ++ c ∷ []) (found_in_row r o)
row_added r r' s c alone h None = alone
row_added r r' s c alone h (Some q) = h q.0

-- an empty row behind the others
pub rows_grown : (rows : List Row) (r : Row) → ((o : Option SpeciesId) → found_in_row r o ≡ []) → (f : ℕ) (o : Option SpeciesId) → found_at (slice_get (rows ++ r ∷ []) f) o ≡ found_at (slice_get rows f) o
rows_grown [] r h zero o = h o
rows_grown [] r h (suc f) o = refl
rows_grown (x ∷ xs) r h zero o = refl
rows_grown (x ∷ xs) r h (suc f) o = rows_grown xs r h f o
