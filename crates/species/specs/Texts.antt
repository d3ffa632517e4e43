-- A list of distinct texts.
use Rattle.std.specs.Prelude.{ℕ, Bool, List, [], ◌∷◌, ◌++◌, if◌then◌else◌}
use Rattle.std.specs.List.{list_any, position_or_len}
use Rattle.std.specs.Str.{bytes_eq}

abbrev pub is_in : List (List ℕ) → List ℕ → Bool
is_in texts text = list_any (bytes_eq text) texts

-- the number of a text, which is its index; where it is missing, the count
abbrev pub index_of : List (List ℕ) → List ℕ → ℕ
index_of texts text = position_or_len (bytes_eq text) texts

-- the texts after one more came: a new one goes last
abbrev pub with_text : List (List ℕ) → List ℕ → List (List ℕ)
with_text texts text = if is_in texts text then texts else texts ++ text ∷ []
