-- The lines of a text, and a text without the blanks at its ends.
use Rattle.std.specs.Prelude.{ℕ, Bool, List, [], ◌∷◌, ◌==◌, ◌||◌, if◌then◌else◌}
use Rattle.std.specs.List.{onto_first}

abbrev pub is_feed : ℕ → Bool
is_feed c = c == 10

-- A text is split at each line feed. A last piece that is empty is no line.
abbrev pub lines_of : List ℕ → List (List ℕ)
lines_of [] = []
lines_of (c ∷ cs) = if is_feed c then [] ∷ lines_of cs else onto_first c (lines_of cs)

-- the lines that were not read yet, and the number of the first of them
pub record RemainingLines : Type 0 where
  pub number : ℕ
  pub lines : List (List ℕ)

-- a space, a tab or a carriage return
abbrev pub is_blank : ℕ → Bool
is_blank c = c == 32 || c == 9 || c == 13

-- without the blanks at the front
abbrev pub trim_front : List ℕ → List ℕ
trim_front [] = []
trim_front (c ∷ cs) = if is_blank c then trim_front cs else c ∷ cs

-- a byte put before a text whose blanks at the back are gone; a blank with nothing after it goes too
abbrev pub onto_trimmed : ℕ → List ℕ → List ℕ
onto_trimmed c [] = if is_blank c then [] else c ∷ []
onto_trimmed c (d ∷ ds) = c ∷ d ∷ ds

-- without the blanks at the back
abbrev pub trim_back : List ℕ → List ℕ
trim_back [] = []
trim_back (c ∷ cs) = onto_trimmed c (trim_back cs)

-- without the blanks at both ends
abbrev pub trimmed : List ℕ → List ℕ
trimmed text = trim_back (trim_front text)
