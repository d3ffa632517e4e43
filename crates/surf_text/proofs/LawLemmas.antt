-- The lemmas that other crates cite. Each is a clause of a law too.
use Rattle.std.proofs.Common.{◌≡◌, ℕ, ◌+◌, ◌≤◌, Bool, List, [], ◌∷◌, length, Some, None, sym, ap, ◌∙◌, arith}
use Rattle.std.specs.List.{slice_split}
use Rattle.std.proofs.lemmas.List.Splits.{length-slice_split}
use Rattle.std.proofs.lemmas.List.Sums.{count_by-le-length, length-filter}
use Rattle.surf_text.specs.Lines.{is_blank}
use Rattle.surf_text.specs.Cuts.{cut_where, is_word, words_of}
pub use Rattle.surf_text.proofs.Places.{split-cut, pieces_by, cut-shorter_at, blank_ascii}
pub use Rattle.surf_text.proofs.Trims.{front-blank, front-other}
pub use Rattle.surf_text.proofs.Passing.{each-append, each-weaker, cut-front, cut-missing, line-first, split-first, split-one, word-first, word-last}
pub use Rattle.surf_text.proofs.Ends.{begins-append, ends-append, inked-ends, front-same, trimmed-same, trimmed-behind}
pub use Rattle.surf_text.proofs.PartTexts.{parts-more, parts-within}
pub use Rattle.surf_text.proofs.DigitParts.{decimal-digits, decimal-value, number-read, after-append}
pub use Rattle.surf_text.proofs.Spelling.{decimal-complete}

pub pieces-cut : (test : ℕ → Bool) (text front back : List ℕ) → Some (front, back) ≡ cut_where test text → slice_split test text ≡ front ∷ slice_split test back
pieces-cut test text front back e = split-cut test text ∙ ap (pieces_by test text) (sym e)

pub pieces-uncut : (test : ℕ → Bool) (text : List ℕ) → None ≡ cut_where test text → slice_split test text ≡ text ∷ []
pieces-uncut test text e = split-cut test text ∙ ap (pieces_by test text) (sym e)

pub words-few : (text : List ℕ) → length (words_of text) ≤ length text + 1
words-few text =
    omega (arith, length-filter is_word (slice_split is_blank text), count_by-le-length is_word (slice_split is_blank text), length-slice_split is_blank text, count_by-le-length is_blank text)
