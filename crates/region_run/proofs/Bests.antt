-- The best of the events seen so far.
use Rattle.std.proofs.Common.{◌≡◌, ℕ, true, ◌⊎◌, inl, inr, List, [], ◌∷◌, refl, sym, ap, ◌∙◌, subst, Option, Some, None, cond}
use Rattle.std.specs.Prelude.{not}
use Rattle.std.proofs.lemmas.Bool.{cases_Bool, not-true}
use Rattle.std.proofs.lemmas.Option.{none-some, same_Some}
use Rattle.surf_kinds.specs.declared.event.Event.{Event}
use Rattle.surf_kinds.specs.declared.event.Key.{Key}
use Rattle.surf_kinds.specs.Keys.{is_before, same_key, key_of, at, from, AllKeys, IsRising, ◌is_upto◌, ◌is_below◌}
use Rattle.surf_kinds.proofs.Order.{le_refl, lt_to_le, same_refl, same_is}
use Rattle.surf_kinds.proofs.Tables.{AllKeys_at, AllKeys_weaker, AllKeys_keep, AllKeys_kept, IsRising_keep}
use Rattle.warp_core.specs.Choices.{earlier_due_of}
use Rattle.warp_core.proofs.LawLemmas.{at_from, IsBest, best_from}
use Rattle.region_run.specs.Choices.{first_of, IsFirst}

pub AllKeys_from : (k : Key) (es : List Event) → AllKeys (λ j. k is_upto j) (from k es)
AllKeys_from k es = AllKeys_weaker (λ j. not (is_before j k) ≡ true) (λ j. k is_upto j) (λ j. not-true (is_before j k)) (from k es) (AllKeys_kept (λ j. not (is_before j k)) es)

-- one more event, the first of others
pub best_add : (due_at : Key → Option Event) (clock : Key) (until : ℕ) (seen more : Key → Type 0) (best o : Option Event) → IsBest due_at clock until seen best → IsFirst due_at clock more o → IsBest due_at clock until (λ k. seen k ⊎ more k) (earlier_due_of clock until best o)
best_add due_at clock until seen more best None b first =
    record {
      is_due = b.is_due;
      least = λ k f s c t d. elim s [ inl q ↦ b.least k f q c t d | inr q ↦ let x = first.least k f q c d in absurd (none-some x.0 x.1) ];
    }
best_add due_at clock until seen more best (Some e) b first =
    let here = first.is_due e refl in
    best_from due_at clock until seen (λ k. seen k ⊎ more k) best e b here.1
    (λ k f s c d. elim s [
      | inl q ↦ inl q
      | inr q ↦ let x = first.least k f q c d in inr (here.0, subst (λ (y : Event). key_of y is_upto k) (sym (same_Some e x.0 x.1)) x.2)
    ])

-- the first of a list from the clock on
first_list : (due_at : Key → Option Event) (clock : Key) (xs : List Event) (seen : Key → Type 0) → IsRising xs → AllKeys (λ k. clock is_upto k) xs → ((k : Key) → clock is_upto k → seen k → due_at k ≡ at k xs) → AllKeys seen xs → IsFirst due_at clock seen (first_of xs)
first_list due_at clock [] seen r late is all =
    record { is_due = λ e h. absurd (none-some e h); least = λ k f s c d. absurd (none-some f (sym (is k c s) ∙ d)) }
first_list due_at clock (x ∷ xs) seen r late is all =
    record {
      is_due = λ e h. subst (λ (y : Event). (clock is_upto key_of y) × (due_at (key_of y) ≡ Some y)) (same_Some x e h) (late.0, is (key_of x) late.0 all.0 ∙ ap (λ b. cond b (Some x) (at (key_of x) xs)) (same_refl (key_of x)));
      least = λ k f s c d. (
        x,
        refl,
        elim (cases_Bool (same_key (key_of x) k)) [
          | inl q ↦ subst (λ j. key_of x is_upto j) (same_is (key_of x) k q) (le_refl (key_of x))
          | inr q ↦ lt_to_le (key_of x) k (AllKeys_at (λ j. key_of x is_below j) k xs f r.0 (sym (ap (λ b. cond b (Some x) (at k xs)) q) ∙ (sym (is k c s) ∙ d)))
        ],
      );
    }

pub first_stack : (due_at : Key → Option Event) (clock : Key) (stack : List Event) (seen : Key → Type 0) → IsRising stack → ((k : Key) → seen k → due_at k ≡ at k stack) → AllKeys seen stack → IsFirst due_at clock seen (first_of (from clock stack))
first_stack due_at clock stack seen r is all =
    first_list due_at clock (from clock stack) seen (IsRising_keep (λ j. not (is_before j clock)) stack r) (AllKeys_from clock stack) (λ k c s. is k s ∙ sym (at_from clock k stack c)) (AllKeys_keep seen (λ j. not (is_before j clock)) stack all)
