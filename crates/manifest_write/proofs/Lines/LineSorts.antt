-- What the canonical lines are.
use Rattle.std.proofs.Common.{◌≡◌, ℕ, ◌==◌, ◌⊎◌, true, false, cond, not, List, [], ◌∷◌, ◌++◌, Option, None, Some, refl, sym, ap, ◌∙◌, inl, inr, append_assoc, append-nil, codes, filter, length, subst, ne_eqb, arith}
use Rattle.std.specs.List.{flat_map, slice_split, AllByRecursion}
use Rattle.std.proofs.lemmas.Bool.{not-true, false≢true}
use Rattle.surf_text.specs.Lines.{is_blank, trim_back, onto_trimmed, trimmed}
use Rattle.surf_text.specs.Cuts.{cut_at, is_word, words_of}
use Rattle.surf_text.specs.Passing.{Each, lacks, inked, begins, ends}
use Rattle.surf_text.proofs.LawLemmas.{each-append, cut-front, cut-missing, begins-append, ends-append, front-same, split-first, split-one}
use Rattle.surface_rows.specs.Rows.{spaced}
use Rattle.manifest_read.specs.declared.text.Setting.{Setting}
use Rattle.manifest_read.specs.Sorts.{Plain, front_of, bare, sorted, section_line, sort_of}
use Rattle.manifest_read.specs.Settings.{named, by_equals, setting_of}
use Rattle.manifest_write.specs.Canon.{value_text, setting_line}
use Rattle.manifest_write.proofs.Cutting.Bytes.{cut-parts}
use Rattle.manifest_write.proofs.Cutting.Tight.{tight-append, tight-trimmed, trim-behind}
use Rattle.manifest_write.proofs.Contents.Fits.{is_plain, IsBare, FitsName, FitsSetting, FitsColour}
use Rattle.manifest_write.proofs.Spellings.NameTexts.{name-text}

sorted-plain : (line whole : List ℕ) → is_plain line ≡ true → sorted line whole ≡ Plain line whole
sorted-plain [] whole h = refl
sorted-plain (c ∷ cs) whole h = ap (λ b. cond b (section_line (c ∷ cs)) (Plain (c ∷ cs) whole)) (not-true (c == 33) h)

-- a line without a comment
pub bare-sort : (line : List ℕ) → IsBare line → is_plain line ≡ true → sort_of line ≡ Plain line line
bare-sort line h g =
    let whole : trimmed line ≡ line = tight-trimmed line h.tight in
    let same : bare line ≡ line = ap (λ o. trimmed (front_of line o)) (cut-missing 35 line h.no_comment) ∙ whole in
    ap (λ t. sorted t (trimmed line)) same ∙ ap (sorted line) whole ∙ sorted-plain line line g

pub plain-append : (xs ys : List ℕ) → begins xs ≡ true → is_plain xs ≡ true → is_plain (xs ++ ys) ≡ true
plain-append [] ys h g = absurd cc
plain-append (c ∷ cs) ys h g = g

-- Settings

value-ends : (v : List ℕ) → (v ≡ []) ⊎ IsBare v → ends (codes " =" ++ value_text v) ≡ true
value-ends [] h = refl
value-ends (c ∷ cs) (inl e) = absurd cc
value-ends (c ∷ cs) (inr h) = h.tight.back

value-lacks : (v : List ℕ) → (v ≡ []) ⊎ IsBare v → Each (lacks 35) (value_text v)
value-lacks [] h = refl
value-lacks (c ∷ cs) (inl e) = absurd cc
value-lacks (c ∷ cs) (inr h) = h.no_comment

value-trimmed : (v : List ℕ) → (v ≡ []) ⊎ IsBare v → trimmed (value_text v) ≡ v
value-trimmed [] h = refl
value-trimmed (c ∷ cs) (inl e) = absurd cc
value-trimmed (c ∷ cs) (inr h) = tight-trimmed (c ∷ cs) h.tight

pub setting-sort : (s : Setting) → FitsSetting s → sort_of (setting_line s) ≡ Plain (setting_line s) (setting_line s)
setting-sort s h =
    let same : setting_line s ≡ s.name ++ (codes " =" ++ value_text s.value) = append_assoc s.name (codes " =") (value_text s.value) in
    let fits : IsBare (s.name ++ (codes " =" ++ value_text s.value))
    = record {
      tight = tight-append s.name (codes " =" ++ value_text s.value) h.name.tight.front (value-ends s.value h.value);
      no_comment = each-append (lacks 35) s.name (codes " =" ++ value_text s.value) h.name.no_comment (value-lacks s.value h.value);
    } in
    let line : Plain (s.name ++ (codes " =" ++ value_text s.value)) (s.name ++ (codes " =" ++ value_text s.value)) ≡ Plain (setting_line s) (setting_line s)
    = ap (λ t. Plain t t) (sym same) in
    ap sort_of same ∙ bare-sort (s.name ++ (codes " =" ++ value_text s.value)) fits (plain-append s.name (codes " =" ++ value_text s.value) h.name.tight.front h.name_plain) ∙ line

named-is : (name value : List ℕ) → begins name ≡ true → named name value ≡ Some (record { name = name; value = value })
named-is [] value h = absurd cc
named-is (c ∷ cs) value h = refl

pub setting-read : (s : Setting) → FitsSetting s → setting_of (setting_line s) ≡ Some s
setting-read s h =
    let value = value_text s.value in
    let same : setting_line s ≡ (s.name ++ 32 ∷ []) ++ 61 ∷ value = append_assoc s.name (codes " =") value ∙ sym (append_assoc s.name (32 ∷ []) (61 ∷ value)) in
    ap setting_of same
    ∙ ap by_equals (cut-front 61 (s.name ++ 32 ∷ []) value (each-append (lacks 61) s.name (32 ∷ []) h.name_uncut refl))
    ∙ ap (λ n. named n (trimmed value)) (trim-behind s.name h.name.tight)
    ∙ ap (named s.name) (value-trimmed s.value h.value)
    ∙ named-is s.name s.value h.name.tight.front

pub setting-some : (s : Setting) → FitsSetting s → begins (setting_line s) ≡ true
setting-some s h =
    ap begins (append_assoc s.name (codes " =") (value_text s.value)) ∙ begins-append s.name (codes " =" ++ value_text s.value) h.name.tight.front

-- Colours

pub trimmed-plain : (c : ℕ) (cs : List ℕ) → inked c ≡ true → is_plain (c ∷ cs) ≡ true → is_plain (trimmed (c ∷ cs)) ≡ true
trimmed-plain c cs h g = ap (λ t. is_plain (trim_back t)) (front-same (c ∷ cs) h) ∙ by (trim_back cs)
  where
    by : (t : List ℕ) → is_plain (onto_trimmed c t) ≡ true
    by [] = elim (is_blank c) as (λ b. is_plain (cond b [] (c ∷ [])) ≡ true) [ true ↦ refl | false ↦ g ]
    by (d ∷ ds) = g

pub bare-plain : (c : ℕ) (cs : List ℕ) → inked c ≡ true → is_plain (c ∷ cs) ≡ true → is_plain (bare (c ∷ cs)) ≡ true
bare-plain c cs h g = by (cut_at 35 (c ∷ cs)) refl
  where
    front : (f b : List ℕ) → c ∷ cs ≡ f ++ 35 ∷ b → is_plain (trimmed f) ≡ true
    front [] b e = refl
    front (x ∷ xs) b e =
        let same : c ≡ x = cc in
        subst (λ (y : ℕ). is_plain (trimmed (y ∷ xs)) ≡ true) same (trimmed-plain c xs h g)

    by : (o : Option (List ℕ × List ℕ)) → cut_at 35 (c ∷ cs) ≡ o → is_plain (trimmed (front_of (c ∷ cs) o)) ≡ true
    by None e = trimmed-plain c cs h g
    by (Some p) e = front p.0 p.1 (cut-parts 35 (c ∷ cs) p.0 p.1 e).text_is

pub colour-sort : (line : List ℕ) → FitsColour line → (b : List ℕ) × (sort_of line ≡ Plain b line)
colour-sort [] h = absurd (false≢true h.tight.front)
colour-sort (c ∷ cs) h = (bare (c ∷ cs), ap (sorted (bare (c ∷ cs))) whole ∙ sorted-plain (bare (c ∷ cs)) (c ∷ cs) plain)
  where
    whole : trimmed (c ∷ cs) ≡ c ∷ cs
    whole = tight-trimmed (c ∷ cs) h.tight

    plain : is_plain (bare (c ∷ cs)) ≡ true
    plain = bare-plain c cs h.tight.front h.plain

-- Rows

abbrev behind : List (List ℕ) → List ℕ
behind names = flat_map (λ n. 32 ∷ n) names

row-split : (name : List ℕ) (names : List (List ℕ)) → AllByRecursion FitsName (name ∷ names) → slice_split is_blank (name ++ behind names) ≡ name ∷ names
row-split name [] h = ap (slice_split is_blank) (append-nil name) ∙ split-one is_blank name (name-text name h.0.named).inks
row-split name (n ∷ ns) h =
    split-first is_blank name (n ++ behind ns) 32 (name-text name h.0.named).inks refl ∙ ap (λ t. name ∷ t) (row-split n ns h.1)

names-words : (names : List (List ℕ)) → AllByRecursion FitsName names → filter is_word names ≡ names
names-words [] h = refl
names-words ([] ∷ ns) h = absurd (false≢true (name-text [] h.0.named).bare.tight.front)
names-words ((c ∷ cs) ∷ ns) h =
    let some : (length (c ∷ cs) == 0) ≡ false = ne_eqb (length (c ∷ cs)) 0 (λ e. omega (arith, e)) in
    ap (λ b. cond (not b) ((c ∷ cs) ∷ filter is_word ns) (filter is_word ns)) some ∙ ap (λ t. (c ∷ cs) ∷ t) (names-words ns h.1)

pub row-words : (name : List ℕ) (names : List (List ℕ)) → AllByRecursion FitsName (name ∷ names) → words_of (spaced (name ∷ names)) ≡ name ∷ names
row-words name names h = ap (filter is_word) (row-split name names h) ∙ names-words (name ∷ names) h

row-ends : (name : List ℕ) (names : List (List ℕ)) → AllByRecursion FitsName (name ∷ names) → ends (name ++ behind names) ≡ true
row-ends name [] h = ap ends (append-nil name) ∙ (name-text name h.0.named).bare.tight.back
row-ends name (n ∷ ns) h = ends-append name (32 ∷ (n ++ behind ns)) (ends-append (32 ∷ []) (n ++ behind ns) (row-ends n ns h.1))

row-lacks : (names : List (List ℕ)) → AllByRecursion FitsName names → Each (lacks 35) (behind names)
row-lacks [] h = refl
row-lacks (n ∷ ns) h = each-append (lacks 35) n (behind ns) (name-text n h.0.named).bare.no_comment (row-lacks ns h.1)

pub row-sort : (name : List ℕ) (names : List (List ℕ)) → AllByRecursion FitsName (name ∷ names) → sort_of (spaced (name ∷ names)) ≡ Plain (spaced (name ∷ names)) (spaced (name ∷ names))
row-sort name names h =
    let t = name-text name h.0.named in
    bare-sort (name ++ behind names)
    (record {
      tight = record { front = begins-append name (behind names) t.bare.tight.front; back = row-ends name names h };
      no_comment = each-append (lacks 35) name (behind names) t.bare.no_comment (row-lacks names h.1);
    })
    (plain-append name (behind names) t.bare.tight.front t.plain)

pub row-some : (name : List ℕ) (names : List (List ℕ)) → AllByRecursion FitsName (name ∷ names) → begins (spaced (name ∷ names)) ≡ true
row-some name names h = begins-append name (behind names) (name-text name h.0.named).bare.tight.front
