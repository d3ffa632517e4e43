-- A text that is cut at its first arrow.
use Rattle.std.proofs.Common.{◌≡◌, ℕ, suc, ◌<◌, ◌≤◌, Bool, true, false, cond, ◌&&◌, List, [], ◌∷◌, ◌++◌, length, drop, Bor, Option, None, Some, refl, sym, ap, subst, ◌∙◌, arith}
use Rattle.std.specs.Prelude.{nat_eq, codes, MatchOption}
use Rattle.std.specs.List.{starts_with}
use Rattle.std.specs.Option.{option_map}
use Rattle.std.specs.Str.Pattern.{LacksTextAt, FindsText, SplitsAroundMatch}
use Rattle.std.proofs.lemmas.Bool.Decides.{nat_tests}
use Rattle.std.proofs.lemmas.Str.Pattern.{split_text_parts}
use Rattle.surf_text.specs.Cuts.{with_front}
use Rattle.manifest_read.specs.Names.{cut_arrow}

both : (c d : ℕ) → (nat_eq 45 c && (nat_eq 62 d && true)) ≡ true → (c ≡ 45) × (d ≡ 62)
both c d h = grind (arith, nat_tests)

not_one : (b : Bool) → (b && false) ≡ true → ⊥
not_one true h = cc
not_one false h = cc

starts : (text : List ℕ) → starts_with nat_eq text (codes "->") ≡ true → text ≡ codes "->" ++ drop 2 text
starts [] h = absurd cc
starts (c ∷ []) h = absurd (not_one (nat_eq 45 c) h)
starts (c ∷ d ∷ ds) h = let p = both c d h in rw (p.0, p.1) refl

-- an arrow that doesn't stand at the front
later : (c : ℕ) (cs : List ℕ) → LacksTextAt (codes "->") (c ∷ cs) 0 → cut_arrow (c ∷ cs) ≡ with_front c (cut_arrow cs)
later c cs h = by (starts_with nat_eq (c ∷ cs) (codes "->")) refl
  where
    by : (b : Bool) → starts_with nat_eq (c ∷ cs) (codes "->") ≡ b → cond b (Some ([], drop 1 cs)) (with_front c (cut_arrow cs)) ≡ with_front c (cut_arrow cs)
    by true e = absurd (h (drop 2 (c ∷ cs)) (starts (c ∷ cs) e))
    by false e = refl

no_arrow : (text : List ℕ) → ((i : ℕ) → i ≤ length text → LacksTextAt (codes "->") text i) → cut_arrow text ≡ None
no_arrow [] h = refl
no_arrow (c ∷ cs) h = later c cs (h 0 (omega arith)) ∙ ap (with_front c) (no_arrow cs (λ i l. h (suc i) (omega arith)))

first_arrow : (front back : List ℕ) → ((i : ℕ) → i < length front → LacksTextAt (codes "->") (front ++ (codes "->" ++ back)) i)
    → cut_arrow (front ++ (codes "->" ++ back)) ≡ Some (front, back)
first_arrow [] back h = refl
first_arrow (c ∷ cs) back h =
    later c (cs ++ (codes "->" ++ back)) (h 0 (omega arith))
    ∙ ap (with_front c) (first_arrow cs back (λ i l. h (suc i) (omega arith)))

pub cut-split : (text : List ℕ) (r : Option (Bor (List ℕ) × Bor (List ℕ)))
    → MatchOption r (FindsText (codes "->") text None) (λ x. SplitsAroundMatch (FindsText (codes "->")) text x.0.now x.1.now)
    → option_map (λ p. (p.0.now, p.1.now)) r ≡ cut_arrow text
cut-split text None h = sym (no_arrow text h)
cut-split text (Some p) h =
    let e : text ≡ p.0.now ++ (codes "->" ++ p.1.now) = split_text_parts (codes "->") text (Some p) h in
    let lacks : (i : ℕ) → i < length p.0.now → LacksTextAt (codes "->") (p.0.now ++ (codes "->" ++ p.1.now)) i
    = λ i l. subst (λ (t : List ℕ). LacksTextAt (codes "->") t i) e (h.2.0 i (omega (arith, h.6, l))) in
    sym (ap cut_arrow e ∙ first_arrow p.0.now p.1.now lacks)
