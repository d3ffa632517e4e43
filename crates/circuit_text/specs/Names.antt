-- Names of nets.
use Rattle.std.specs.Prelude.{ℕ, Bool, ◌&&◌, ◌||◌, ◌==◌, length, not, List}
use Rattle.std.specs.List.{list_all}
use Rattle.std.specs.Char.{is_ascii_alphanumeric}

abbrev pub Name : Type 0
Name = List ℕ

-- one or more ASCII letters, digits and _ (95)
abbrev pub is_name_byte : ℕ → Bool
is_name_byte c = is_ascii_alphanumeric c || c == 95

abbrev pub is_name : Name → Bool
is_name word = not (length word == 0) && list_all is_name_byte word

-- one or more names
abbrev pub are_names : List Name → Bool
are_names words = not (length words == 0) && list_all is_name words
