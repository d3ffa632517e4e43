-- A text that was made of lines comes apart into these lines.
use Rattle.std.proofs.Common.{◌≡◌, ℕ, ◌==◌, cond, List, [], ◌∷◌, ◌++◌, refl, ap, ◌∙◌, append_assoc}
use Rattle.std.specs.List.{list_all, onto_first, AllByRecursion}
use Rattle.std.specs.Str.{IsUtf8}
use Rattle.std.proofs.lemmas.Bool.{and_parts, not-true}
use Rattle.std.proofs.lemmas.Str.{IsUtf8-append, IsUtf8-nil}
use Rattle.surf_text.specs.Lines.{lines_of}
use Rattle.surf_text.specs.Passing.{Each, lacks}
use Rattle.surface_rows.specs.Rows.{lines_text}
use Rattle.manifest_write.proofs.Contents.Fits.{IsClean}
use Rattle.manifest_write.proofs.Lines.Clean.{ascii-utf8}

line-first : (line rest : List ℕ) → Each (lacks 10) line → lines_of (line ++ 10 ∷ rest) ≡ line ∷ lines_of rest
line-first [] rest h = refl
line-first (c ∷ cs) rest h =
    let p = and_parts (lacks 10 c) (list_all (lacks 10) cs) h in
    ap (λ b. cond b ([] ∷ lines_of (cs ++ 10 ∷ rest)) (onto_first c (lines_of (cs ++ 10 ∷ rest)))) (not-true (c == 10) p.0) ∙ ap (onto_first c) (line-first cs rest p.1)

pub lines-again : (lines : List (List ℕ)) → AllByRecursion IsClean lines → lines_of (lines_text lines) ≡ lines
lines-again [] h = refl
lines-again (line ∷ lines) h =
    ap lines_of (append_assoc line (10 ∷ []) (lines_text lines)) ∙ line-first line (lines_text lines) h.0.1 ∙ ap (λ ls. line ∷ ls) (lines-again lines h.1)

pub lines-utf8 : (lines : List (List ℕ)) → AllByRecursion IsClean lines → IsUtf8 (lines_text lines)
lines-utf8 [] h = IsUtf8-nil
lines-utf8 (line ∷ lines) h = IsUtf8-append (line ++ 10 ∷ []) (lines_text lines) (IsUtf8-append line (10 ∷ []) h.0.0 (ascii-utf8 (10 ∷ []) refl)) (lines-utf8 lines h.1)
