-- The rule of the list of all changes, and what its one kind of step tells.
use Rattle.std.specs.Prelude.{ℕ, ◌≡◌, ◌==◌, true, List, [], ◌∷◌, ◌++◌, length, MatchBool}
use Rattle.logbook.specs.Pages.{Cell, Step, View, Book, Named}
use Rattle.frames.specs.declared.sample.Change.{Change}
use Rattle.frames.specs.declared.change_log.Standing.{Standing}
use Rattle.frames.specs.declared.change_log.Standing.TheVariants.{Level, Ahead, Lost}

-- the first word is the length of the list; a book has two words, of which this one leaves the second at 0
pub record IsCounted (cells : List Cell) (log : List Change) : Type 0 where
  pub words : cells ≡ (length log, true) ∷ (0, true) ∷ []

abbrev pub head_of : Book → Named
head_of b = record { tracked = true; key = 0; book = b }

-- the change was added to all that had been seen; or the list was longer, and was seen
abbrev pub Adds : Step Change → View Change ℕ → ℕ → View Change ℕ → Type 0
Adds s v found w = MatchBool (found == s.old) (w.0 ≡ v.0 ++ s.ask ∷ []) (length w.0 ≡ found)

-- the list as it stands to the changes that were added; of a lost one nothing is known
abbrev pub list_at : Standing → List Change → List Change → List Change
list_at Level added log = added
list_at (Ahead c) added log = added ++ c ∷ []
list_at Lost added log = log
