-- Lines that a reader takes without a fault.
use Rattle.std.proofs.Common.{◌≡◌, ℕ, ◌+◌, Bool, List, [], ◌∷◌, ◌++◌, map, fold, Option, None, refl, sym, ap, ◌∙◌, subst}
use Rattle.std.specs.Option.{option_map}
use Rattle.manifest_read.specs.declared.section.Opened.{Opened}
use Rattle.manifest_read.specs.Sorts.{LineSort, Plain, sort_of}
use Rattle.manifest_read.specs.Manifest.{Line, Entry, entry_at, Content, entry_fault, fault, unless, verdict, outcome}
use Rattle.manifest_read.specs.Steps.{ReaderState, with_entry, after, fault_at, ended, state_after}
use Rattle.manifest_read.proofs.LawLemmas.{state_after-more, fault-is}

-- from this state these lines lead to that, without a fault
abbrev pub Reaches : List Line → ReaderState → ReaderState → Type 0
Reaches [] k end = k ≡ end
Reaches (line ∷ lines) k end = (fault_at (k.lines + 1) k (sort_of line) ≡ None) × Reaches lines (after k (sort_of line)) end

pub reaches-more : (xs ys : List Line) (k m end : ReaderState) → Reaches xs k m → Reaches ys m end → Reaches (xs ++ ys) k end
reaches-more [] ys k m end h g = subst (λ x. Reaches ys x end) (sym h) g
reaches-more (x ∷ xs) ys k m end h g = (h.0, reaches-more xs ys (after k (sort_of x)) m end h.1 g)

-- a line of this sort
pub reaches-line : (line : Line) (lines : List Line) (k end : ReaderState) (sort : LineSort) → sort_of line ≡ sort → fault_at (k.lines + 1) k sort ≡ None
    → Reaches lines (after k sort) end → Reaches (line ∷ lines) k end
reaches-line line lines k end sort e h g = (ap (fault_at (k.lines + 1) k) e ∙ h, subst (λ (s : LineSort). Reaches lines (after k s) end) (sym e) g)

-- the outcome of these lines
pub outcome-reached : (lines before : List Line) (k end : ReaderState) → state_after before ≡ k → Reaches lines k end → outcome lines before ≡ ended end
unfolding outcome
outcome-reached [] before k end e h = ap ended (e ∙ h)
outcome-reached (line ∷ lines) before k end e h =
    let no_fault : verdict before line ≡ None = sym (fault-is (k_lines + 1) before (sort_of line)) ∙ ap (λ (x : ReaderState). fault_at (x.lines + 1) x (sort_of line)) e ∙ h.0 in
    ap (λ o. unless o (outcome lines (line ∷ before))) no_fault
    ∙ outcome-reached lines (line ∷ before) (after k (sort_of line)) end (state_after-more line before ∙ ap (λ x. after x (sort_of line)) e) h.1
  where
    k_lines : ℕ
    k_lines = (state_after before).lines

abbrev pub state : ℕ → Option Opened → Bool → Bool → Content → ReaderState
state lines within rules surface content = record { lines = lines; within = within; rules_seen = rules; surface_seen = surface; content = content }

module _ {X : Type 0} (line : X → Line) (entry : X → Entry) (step : Content → X → Content) (within : Option Opened) where
  -- the line of x has this entry
  pub record IsLine (x : X) : Type 0 where
    pub bare : List ℕ
    pub whole : List ℕ
    pub sort : sort_of (line x) ≡ Plain bare whole
    pub entry_is : entry_at within (Plain bare whole) ≡ entry x

  -- these lines may come, one after the other
  abbrev pub Passes : List X → Content → Type 0
  Passes [] t = Unit {0}
  Passes (x ∷ xs) t = IsLine x × (entry_fault t (entry x) ≡ None) × (with_entry (entry x) t ≡ step t x) × Passes xs (step t x)

  pub block : (xs : List X) (n : ℕ) (rules surface : Bool) (t : Content) → Passes xs t
      → (end : ℕ) × Reaches (map line xs) (state n within rules surface t) (state end within rules surface (fold step t xs))
  block [] n rules surface t h = (n, refl)
  block (x ∷ xs) n rules surface t h =
      let rest = block xs (n + 1) rules surface (step t x) h.3 in
      let entered : with_entry (entry_at within (Plain h.0.bare h.0.whole)) t ≡ step t x = ap (λ e. with_entry e t) h.0.entry_is ∙ h.2 in
      let no_fault : option_map (λ kind. fault kind (n + 1)) (entry_fault t (entry_at within (Plain h.0.bare h.0.whole))) ≡ None
      = ap (λ e. option_map (λ kind. fault kind (n + 1)) (entry_fault t e)) h.0.entry_is ∙ ap (option_map (λ kind. fault kind (n + 1))) h.1 in (
        rest.0,
        reaches-line (line x) (map line xs) (state n within rules surface t) (state rest.0 within rules surface (fold step (step t x) xs)) (Plain h.0.bare h.0.whole) h.0.sort no_fault
            (subst (λ u. Reaches (map line xs) (state (n + 1) within rules surface u) (state rest.0 within rules surface (fold step (step t x) xs))) (sym entered) rest.1),
      )
