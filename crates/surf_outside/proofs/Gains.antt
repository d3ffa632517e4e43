-- What a sink has gained over several writes.
use Rattle.std.proofs.Common.{◌≡◌, ℕ, ◌+◌, ◌-◌, List, ◌++◌, length, take, drop, Option, Some, None, sym, ap, ◌∙◌, append_assoc, arith, subst, inl, inr}
use Rattle.std.proofs.Math.Seq.{take-add, take-length, take-append-add, take-append_seam}
use Rattle.std.proofs.lemmas.List.{take_all, length-drop, take-append-le}
use Rattle.std.proofs.lemmas.Bool.{cases_lt}
use Rattle.std.specs.Io.KnownBytes.{Appends, Consumes}
use Rattle.surf_outside.specs.Known.{AppendsPrefix}

-- one text and then another
pub appends_more : (a b c : Option (List ℕ)) (x y : List ℕ) → Appends a b x → Appends b c y → Appends a c (x ++ y)
appends_more None b c x y p q = tt
appends_more (Some xs) None c x y p q = absurd p
appends_more (Some xs) (Some ys) None x y p q = absurd q
appends_more (Some xs) (Some ys) (Some zs) x y p q = q ∙ (ap (λ l. l ++ y) p ∙ append_assoc xs x y)

-- the next piece of a text
pub appends_piece : (a b c : Option (List ℕ)) (text : List ℕ) (at n : ℕ) → Appends a b (take at text) → Appends b c (take n (take (length text - at) (drop at text))) → Appends a c (take (at + n) text)
appends_piece a b c text at n p q =
    let e : take (length text - at) (drop at text) ≡ drop at text = take_all (length text - at) (drop at text) (omega (arith, length-drop at text)) in
    subst (Appends a c) (sym (take-add at n text ∙ ap (λ l. take at text ++ take n l) (sym e))) (appends_more a b c _ _ p q)

-- one part and then another
pub consumes_more : (a b c : Option (List ℕ)) (x y : List ℕ) → Consumes a b x → Consumes b c y → Consumes a c (x ++ y)
consumes_more None b c x y p q = tt
consumes_more (Some xs) None c x y p q = absurd p
consumes_more (Some xs) (Some ys) None x y p q = absurd q
consumes_more (Some xs) (Some ys) (Some zs) x y p q = p ∙ (ap (λ l. x ++ l) q ∙ sym (append_assoc x y zs))

-- a whole text is a prefix of itself
pub prefix_whole : (a b : Option (List ℕ)) (x : List ℕ) → Appends a b x → AppendsPrefix a b x
prefix_whole a b x p = (length x, subst (Appends a b) (sym (take-length x)) p)

-- a text, and then a prefix of another
pub prefix_more : (a b c : Option (List ℕ)) (x y : List ℕ) → Appends a b x → AppendsPrefix b c y → AppendsPrefix a c (x ++ y)
prefix_more a b c x y p q = (length x + q.0, subst (Appends a c) (sym (take-append-add x y q.0)) (appends_more a b c _ _ p q.1))

-- a prefix of a text is a prefix of a longer one
pub prefix_longer : (a b : Option (List ℕ)) (x y : List ℕ) → AppendsPrefix a b x → AppendsPrefix a b (x ++ y)
prefix_longer a b x y p =
    elim (cases_lt p.0 (length x)) [
      | inl h ↦ (p.0, subst (Appends a b) (sym (take-append-le p.0 x y (omega (arith, h)))) p.1)
      | inr h ↦ (length x, subst (Appends a b) (take_all p.0 x h ∙ sym (take-append_seam x y)) p.1)
    ]
