-- What is noted of a queue.
use Rattle.std.proofs.Common.{◌≡◌, ℕ, ◌+◌, ◌≤◌, ◌⊎◌, inl, inr, true, List, [], ◌++◌, length, sym, ap, ◌∙◌, subst, arith, Some, None, append-nil, append_assoc}
use Rattle.std.specs.Prelude.{IfSome}
use Rattle.std.proofs.lemmas.Option.{same_Some, none-some}
use Rattle.std.proofs.lemmas.List.{get_or_default}
use Rattle.std.proofs.lemmas.Bool.Decides.{eqb_tells}
use Rattle.surf_kinds.specs.declared.event.Key.{Key}
use Rattle.surf_kinds.specs.declared.site.Sites.{Sites}
use Rattle.surf_kinds.specs.declared.site.SiteId.{SiteId}
use Rattle.surf_kinds.specs.declared.place.Place.{Place}
use Rattle.lattice.specs.Shape.{Shape}
use Rattle.lattice.specs.Places.{sites_of, HasSite, IsAmong, ArePlacesOf}
use Rattle.lattice.specs.Ranges.{is_in_range}
use Rattle.lattice.specs.Rising.{number_at, IsListed}
use Rattle.lattice.specs.declared.place_range.PlaceRange.{PlaceRange}
use Rattle.plan.specs.Sharing.{ShareSite}
use Rattle.event_queue.specs.QueueView.{QueueView}
use Rattle.region_run.specs.declared.changes.Change.{Change}
use Rattle.region_run.specs.Boards.{entry_of, AreNoted}
use Rattle.region_run.proofs.Trail.{each_append, has_left, has_right}

pub noted_none : (at : Key) (r : PlaceRange) (q : QueueView) (A : ℕ → Type 0) (old : List Change) → ((p : ℕ) → A p → ⊥) → AreNoted at r q A old old
noted_none at r q A old none = record { more = []; is = sym (append-nil old); each = tt; all = λ p i a. absurd (none p a) }

pub noted_trans : (at : Key) (r : PlaceRange) (q : QueueView) (A B C : ℕ → Type 0) (old mid new : List Change) → AreNoted at r q A old mid → AreNoted at r q B mid new → ((p : ℕ) → C p → A p ⊎ B p) → AreNoted at r q C old new
noted_trans at r q A B C old mid new a b parts =
    record {
      more = a.more ++ b.more;
      is = b.is ∙ (ap (λ l. l ++ b.more) a.is ∙ append_assoc old a.more b.more);
      each = each_append (λ c. (c.at ≡ at) × (is_in_range r c.place.0 ≡ true) × (c.was ≡ entry_of q c.place.0) × IfSome c.was (λ e. e.place ≡ c.place)) a.more b.more a.each b.each;
      all = λ p i c. elim (parts p c) [ inl x ↦ has_left p a.more b.more (a.all p i x) | inr x ↦ has_right p a.more b.more (b.all p i x) ];
    }

pub noted_listed : (at : Key) (r : PlaceRange) (q : QueueView) (places : List Place) (i : ℕ) (old mid new : List Change) → AreNoted at r q (IsListed places i) old mid → AreNoted at r q (λ p. p ≡ number_at places i) mid new → AreNoted at r q (IsListed places (i + 1)) old new
noted_listed at r q places i old mid new a b =
    noted_trans at r q (IsListed places i) (λ p. p ≡ number_at places i) (IsListed places (i + 1)) old mid new a b
    (λ p h. elim (eqb_tells h.0 i) [ inl e ↦ inr (sym h.2 ∙ ap (number_at places) e.1) | inr e ↦ inl (h.0, omega (arith, h.1, e.1), h.2) ])

pub noted_all : (at : Key) (r : PlaceRange) (q : QueueView) (l : Shape) (places : List Place) (s i : ℕ) (old new : List Change) → ArePlacesOf l s places → length places ≤ i → AreNoted at r q (IsListed places i) old new → AreNoted at r q (λ p. HasSite l p s) old new
noted_all at r q l places s i old new are end a =
    record {
      more = a.more;
      is = a.is;
      each = a.each;
      all = λ p inside h. a.all p inside (listed p h);
    }
  where
    listed : (k : ℕ) → HasSite l k s → IsListed places i k
    listed k h =
        let at = (are.exactly k).0 h in
        (at.0, omega (arith, at.1, end), ap (λ (p : Place). p.0) (get_or_default places at.0 (record { 0 = 0 }) (record { 0 = k }) at.1 ∙ at.2))

shared_among : (l : Shape) (place : ℕ) (p : Sites) → sites_of l place ≡ Some p → (k : ℕ) → (h : ShareSite l place k) → IsAmong h.site p
shared_among l place p is k h = subst (IsAmong h.site) (same_Some h.first.sites p (sym h.first.is ∙ is)) h.first.among

pub noted_nowhere : (at : Key) (r : PlaceRange) (q : QueueView) (l : Shape) (place : ℕ) (old : List Change) → sites_of l place ≡ None → AreNoted at r q (ShareSite l place) old old
noted_nowhere at r q l place old none = noted_none at r q (ShareSite l place) old (λ p h. none-some h.first.sites (sym none ∙ h.first.is))

pub noted_one : (at : Key) (r : PlaceRange) (q : QueueView) (l : Shape) (place : ℕ) (p : Sites) (old new : List Change) → sites_of l place ≡ Some p → p.second ≡ None → AreNoted at r q (λ k. HasSite l k p.first.0) old new → AreNoted at r q (ShareSite l place) old new
noted_one at r q l place p old new is none a =
    record {
      more = a.more;
      is = a.is;
      each = a.each;
      all = λ k inside h. elim (shared_among l place p is k h) [
        | inl first ↦ a.all k inside (subst (HasSite l k) (sym first) h.second)
        | inr second ↦ absurd (none-some _ (sym none ∙ second))
      ];
    }

pub noted_two : (at : Key) (r : PlaceRange) (q : QueueView) (l : Shape) (place : ℕ) (p : Sites) (j : SiteId) (old mid new : List Change) → sites_of l place ≡ Some p → p.second ≡ Some j
    → AreNoted at r q (λ k. HasSite l k p.first.0) old mid → AreNoted at r q (λ k. HasSite l k j.0) mid new → AreNoted at r q (ShareSite l place) old new
noted_two at r q l place p j old mid new is some a b =
    noted_trans at r q (λ k. HasSite l k p.first.0) (λ k. HasSite l k j.0) (ShareSite l place) old mid new a b
    (λ k h. elim (shared_among l place p is k h) [
      | inl first ↦ inl (subst (HasSite l k) (sym first) h.second)
      | inr second ↦ inr (subst (λ (y : SiteId). HasSite l k y.0) (same_Some _ j (sym second ∙ some)) h.second)
    ])
