-- Texts whose bytes all pass a test, and texts that begin or end without a blank.
use Rattle.std.specs.Prelude.{◌≡◌, ℕ, ◌==◌, Bool, true, false, not, List, [], ◌∷◌}
use Rattle.std.specs.List.{list_all}
use Rattle.surf_text.specs.Lines.{is_blank}

-- each byte passes
abbrev pub Each : (ℕ → Bool) → List ℕ → Type 0
Each test text = list_all test text ≡ true

-- another byte
abbrev pub lacks : ℕ → ℕ → Bool
lacks byte c = not (c == byte)

-- no blank
abbrev pub inked : ℕ → Bool
inked c = not (is_blank c)

-- the first byte is no blank
abbrev pub begins : List ℕ → Bool
begins [] = false
begins (c ∷ cs) = inked c

-- the last byte is no blank
abbrev pub ends : List ℕ → Bool
ends [] = false
ends (c ∷ []) = inked c
ends (c ∷ d ∷ ds) = ends (d ∷ ds)
