-- Names of species.
use Rattle.std.specs.Prelude.{◌≡◌, ℕ, Bool, true, false, not, ◌&&◌, ◌||◌, List, [], ◌∷◌, drop, Option, Some, None, is_none, nat_eq, ◌==◌, if◌then◌else◌, codes}
use Rattle.std.specs.List.{list_all, list_any, starts_with, AllByRecursion}
use Rattle.std.specs.Str.{bytes_eq}
use Rattle.surf_text.specs.Lines.{is_blank}
use Rattle.surf_text.specs.Cuts.{with_front}

-- what stands before the first arrow, and what stands after it; None where there is no arrow
abbrev pub cut_arrow : List ℕ → Option (List ℕ × List ℕ)
cut_arrow [] = None
cut_arrow (c ∷ cs) = if starts_with nat_eq (c ∷ cs) (codes "->") then Some ([], drop 1 cs) else with_front c (cut_arrow cs)

-- no blank, no `#` and no `+`
abbrev pub is_name_byte : ℕ → Bool
is_name_byte c = not (is_blank c || (c == 35 || c == 43))

-- it doesn't begin with `!` or `(`
abbrev pub is_name_front : List ℕ → Bool
is_name_front [] = false
is_name_front (c ∷ cs) = not (c == 33 || c == 40)

abbrev pub is_name : List ℕ → Bool
is_name text = is_name_front text && (list_all is_name_byte text && is_none (cut_arrow text))

-- the name is one of these
abbrev pub IsListed : List (List ℕ) → List ℕ → Type 0
IsListed known name = list_any (bytes_eq name) known ≡ true

-- the names of a list are among these
abbrev pub AreListed : List (List ℕ) → List (List ℕ) → Type 0
AreListed known words = AllByRecursion (IsListed known) words
