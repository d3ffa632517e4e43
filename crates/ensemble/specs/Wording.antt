-- Words with numbers.
use Rattle.std.specs.Prelude.{ℕ, List, ◌++◌, decimal}

-- three words, each with a number behind it
abbrev pub three : List ℕ → ℕ → List ℕ → ℕ → List ℕ → ℕ → List ℕ
three u a v b w c = (u ++ decimal a) ++ (v ++ decimal b) ++ (w ++ decimal c)
