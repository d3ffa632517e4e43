-- What a line of a manifest is, by itself.
use Rattle.std.specs.Prelude.{ℕ, List, [], ◌∷◌, Option, Some, None, ◌==◌, if◌then◌else◌, codes}
use Rattle.std.specs.Str.{bytes_eq}
use Rattle.surf_text.specs.Lines.{trimmed}
use Rattle.surf_text.specs.Cuts.{cut_at}
use Rattle.manifest_read.specs.declared.section.Section.{Section}
use Rattle.manifest_read.specs.declared.section.Section.TheVariants.{Rules, Surface, Colours}

pub data LineSort : Type 0 where
  Starts : (section : Section) → LineSort
  Ends : (section : Section) → LineSort
  -- another section line
  Unknown : LineSort
  -- a line without its comment, and the whole line; both are trimmed
  Plain : (bare whole : List ℕ) → LineSort

abbrev pub front_of : List ℕ → Option (List ℕ × List ℕ) → List ℕ
front_of text None = text
front_of text (Some p) = p.0

-- a line without its comment, trimmed; a comment runs from the first `#` to the end of the line
abbrev pub bare : List ℕ → List ℕ
bare line = trimmed (front_of line (cut_at 35 line))

-- a section line
abbrev pub section_line : List ℕ → LineSort
section_line text =
    if bytes_eq text (codes "!START_TRANSITION_RULES") then Starts Rules
    else (if bytes_eq text (codes "!END_TRANSITION_RULES") then Ends Rules
    else (if bytes_eq text (codes "!START_INIT_STATE") then Starts Surface
    else (if bytes_eq text (codes "!END_INIT_STATE") then Ends Surface
    else (if bytes_eq text (codes "!START_COLORMAP") then Starts Colours
    else (if bytes_eq text (codes "!END_COLORMAP") then Ends Colours
    else Unknown)))))

-- a line is a section line where its first character other than a blank is `!`
abbrev pub sorted : List ℕ → List ℕ → LineSort
sorted [] whole = Plain [] whole
sorted (c ∷ cs) whole = if c == 33 then section_line (c ∷ cs) else Plain (c ∷ cs) whole

-- what a line is
abbrev pub sort_of : List ℕ → LineSort
sort_of line = sorted (bare line) (trimmed line)
