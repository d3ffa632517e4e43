-- What every manifest that some text has keeps to.
use Rattle.std.proofs.Common.{◌≡◌, ℕ, ◌+◌, ◌<◌, ◌≤◌, ◌^◌, ◌&&◌, ◌||◌, Bool, true, false, cond, List, [], ◌∷◌, ◌++◌, length, take, drop, filter, Option, None, Some, Ok, Err, refl, sym, ap, ◌∙◌, subst, arith, codes}
use lib.Utf8.{encode}
use Rattle.std.specs.Prelude.{Result, nat_eq, nat_lt}
use Rattle.std.specs.List.{list_any, list_all, filter_map, cons_option, flat_map, onto_first, starts_with, AllByRecursion}
use Rattle.std.specs.Str.{bytes_eq, IsUtf8, is_utf8}
use Rattle.std.specs.Str.Lossy.{utf8_valid_len}
use Rattle.std.proofs.lemmas.Bool.{or_parts, or_from, and_from, not_from_false}
use Rattle.std.proofs.lemmas.Bool.Decides.{nat_tests}
use Rattle.std.proofs.lemmas.List.{length-take}
use Rattle.std.proofs.lemmas.List.Folds.{list_any-append}
use Rattle.std.proofs.lemmas.Slice.Eq.{bytes_eq-Decides}
use Rattle.std.proofs.lemmas.Str.{IsUtf8-from_is_utf8, IsUtf8-drop, IsCharBoundary-from_take}
use Rattle.surf_text.specs.Lines.{is_feed, lines_of}
use Rattle.surf_text.specs.Numbers.{is_number, u64_of}
use Rattle.surf_text.specs.Passing.{Each, lacks}
use Rattle.manifest_read.specs.declared.text.Setting.{Setting}
use Rattle.manifest_read.specs.declared.fault.ManifestFault.{ManifestFault}
use Rattle.manifest_read.specs.declared.fault.ManifestKind.TheVariants.{NotUtf8}
use Rattle.manifest_read.specs.declared.manifest.Manifest.{Manifest}
use Rattle.manifest_read.specs.Rules.{names_of_rule}
use Rattle.manifest_read.specs.Settings.{is_seed, seed_in, is_other, last_or, setting_values}
use Rattle.manifest_read.specs.Sorts.{sort_of}
use Rattle.manifest_read.specs.Manifest.{Line, Content, content_of, fault, unless, verdict, end_verdict, unmarked, outcome, manifest_by, IsValid}
use Rattle.manifest_read.specs.Steps.{state_after}
use Rattle.manifest_read.specs.Limits.{IsAccepted, IsWithin}
use Rattle.manifest_read.proofs.LawLemmas.{accepted-within, accepted-size, content_of-more, fault-is, listed-both, few-seen, manifest-sound}
use Rattle.manifest_write.proofs.Cutting.Parted.{utf8-parted, lines-parted}
use Rattle.manifest_write.proofs.Contents.Fits.{IsClean, FitsSetting}
use Rattle.manifest_write.proofs.Contents.Blocks.{AreNew}
use Rattle.manifest_write.proofs.Contents.Content.{FitsOther, FitsValues, FitsContent, silent}
use Rattle.manifest_write.proofs.Again.Wording.{Worded, line-more}

-- Settings

module _ {A : Type 0} (P : A → Type 0) (value_of : Setting → Option A) (each : (s : Setting) (x : A) → value_of s ≡ Some x → P x) where
  last-fits : (ss : List Setting) (default : A) → P default → P (last_or default (filter_map value_of ss))
  last-fits [] default h = h
  last-fits (s ∷ ss) default h = by (value_of s) refl (last-fits ss)
    where
      by : (o : Option A) → value_of s ≡ o → ((d : A) → P d → P (last_or d (filter_map value_of ss))) → P (last_or default (cons_option o (filter_map value_of ss)))
      by None e ih = ih default h
      by (Some x) e ih = ih x (each s x e)

seed-small : (s : Setting) (n : ℕ) → seed_in s ≡ Some n → n < 2 ^ 64
seed-small s n h = by (is_seed s.name) h
  where
    small : (b : Bool) (v : ℕ) → (b && nat_lt v (2 ^ 64)) ≡ true → v < 2 ^ 64
    small true v g = grind (arith, nat_tests)
    small false v g = absurd cc

    number : (b : Bool) (v : ℕ) → ((b ≡ true) → v < 2 ^ 64) → cond b (Some v) None ≡ Some n → n < 2 ^ 64
    number true v g e = let same : v ≡ n = cc in subst (λ (x : ℕ). x < 2 ^ 64) same (g refl)
    number false v g e = absurd cc

    by : (b : Bool) → cond b (u64_of s.value) None ≡ Some n → n < 2 ^ 64
    by true g = number _ _ (λ e. small (is_number 20 s.value) _ e) g
    by false g = absurd cc

others-fit : (ss : List Setting) → AllByRecursion FitsSetting ss → AllByRecursion FitsOther (filter is_other ss)
others-fit [] h = tt
others-fit (s ∷ ss) h = by (is_other s) refl (others-fit ss h.1)
  where
    by : (b : Bool) → is_other s ≡ b → AllByRecursion FitsOther (filter is_other ss) → AllByRecursion FitsOther (cond b (s ∷ filter is_other ss) (filter is_other ss))
    by true e ih = (record { fits = h.0; other = e }, ih)
    by false e ih = ih

-- another setting that is new among the first names is new among the second ones
abbrev Covers : List (List ℕ) → List (List ℕ) → Type 0
Covers before after = (s : Setting) → is_other s ≡ true → list_any (bytes_eq s.name) before ≡ false → list_any (bytes_eq s.name) after ≡ false

covers-both : (before after : List (List ℕ)) (name : List ℕ) → Covers before after → Covers (before ++ name ∷ []) (after ++ name ∷ [])
covers-both before after name h s o e =
    let p = or_parts (list_any (bytes_eq s.name) before) (bytes_eq s.name name || false) (sym (list_any-append (bytes_eq s.name) before (name ∷ [])) ∙ e) in
    list_any-append (bytes_eq s.name) after (name ∷ []) ∙ or_from (list_any (bytes_eq s.name) after) (bytes_eq s.name name || false) (h s o p.0) p.1

covers-first : (before after : List (List ℕ)) (name : List ℕ) → Covers before after → Covers (before ++ name ∷ []) after
covers-first before after name h s o e =
    h s o (or_parts (list_any (bytes_eq s.name) before) (bytes_eq s.name name || false) (sym (list_any-append (bytes_eq s.name) before (name ∷ [])) ∙ e)).0

new-others : (ss : List Setting) (before after : List (List ℕ)) → Covers before after → AreNew ss before → AreNew (filter is_other ss) after
new-others [] before after h g = tt
new-others (s ∷ ss) before after h g = by (is_other s) refl (new-others ss)
  where
    by : (b : Bool) → is_other s ≡ b → ((x y : List (List ℕ)) → Covers x y → AreNew ss x → AreNew (filter is_other ss) y) → AreNew (cond b (s ∷ filter is_other ss) (filter is_other ss)) after
    by true e ih = (h s e g.0, ih (before ++ s.name ∷ []) (after ++ s.name ∷ []) (covers-both before after s.name h) g.1)
    by false e ih = ih (before ++ s.name ∷ []) after (covers-first before after s.name h) g.1

-- another setting has none of the names with a meaning
covers-read : Covers [] (codes "rng_seed" ∷ codes "max_duration" ∷ codes "lattice" ∷ codes "wrap" ∷ [])
covers-read s o e =
    let i = silent s o in
    or_from (bytes_eq s.name (codes "rng_seed")) _ i.seed
    (or_from (bytes_eq s.name (codes "max_duration")) _ i.duration
    (or_from (bytes_eq s.name (codes "lattice")) _ i.lattice
    (or_from (bytes_eq s.name (codes "wrap")) false i.wrap refl)))

settings-fit : (ss : List Setting) → AllByRecursion FitsSetting ss → AreNew ss [] → (setting_values ss).until ≤ 10 ^ 15 → FitsValues (setting_values ss)
settings-fit ss h g l = record {
  seed = last-fits (λ n. n < 2 ^ 64) seed_in seed-small ss 0 (omega arith);
  until = l;
  others = others-fit ss h;
  new = new-others ss [] _ covers-read g;
}

-- The end of the lines

content-fits : (t : Content) → Worded t → IsWithin t → 1 ≤ t.rows → (setting_values t.settings).until ≤ 10 ^ 15 → FitsContent t
content-fits t w f h l = record {
  known = settings-fit t.settings w.settings w.new l;
  rules = w.rules;
  rule_count = f.rule_count;
  cells = w.cells;
  cell_count = f.area.is;
  site_count = f.sites;
  rows = h;
  cols = f.area.full h;
  names = omega (arith, few-seen (flat_map names_of_rule t.rules ++ t.cells) t.names (listed-both t.names (flat_map names_of_rule t.rules) t.cells f.in_rules f.in_cells), f.name_count);
  colours = w.colours;
}

-- the content of which the manifest is made
pub record HasContent (m : Manifest) : Type 0 where
  pub content : Content
  pub is : manifest_by content ≡ m
  pub fits : FitsContent content

going : (v : Option ManifestFault) (r : Result Manifest ManifestFault) (m : Manifest) → unless v r ≡ Ok m → (v ≡ None) × (r ≡ Ok m)
going None r m h = (refl, h)
going (Some f) r m h = absurd cc

outcome-content : (lines before : List Line) (m : Manifest) → AllByRecursion IsClean lines → IsAccepted before → Worded (content_of before) → m.until ≤ 10 ^ 15 → outcome lines before ≡ Ok m → HasContent m
unfolding outcome
outcome-content [] before m c f w l h =
    let p = going (end_verdict before) (Ok (manifest_by (content_of before))) m h in
    let same : manifest_by (content_of before) ≡ m = cc (p.1) in
    let size = accepted-size before f p.0 in
    record { content = content_of before; is = same; fits = content-fits (content_of before) w (accepted-within before f) size.rows_at_least (subst (λ (x : Manifest). x.until ≤ 10 ^ 15) (sym same) l) }
outcome-content (line ∷ lines) before m c f w l h =
    let p = going (verdict before line) (outcome lines (line ∷ before)) m h in
    let more = line-more (length before + 1) (state_after before) line c.0 w (fault-is (length before + 1) before (sort_of line) ∙ p.0) in
    outcome-content lines (line ∷ before) m c.1 (p.0, f) (subst Worded (sym (content_of-more line before)) more) l p.1

-- The lines of a text

feedless-first : (c : ℕ) (ls : List Line) → is_feed c ≡ false → AllByRecursion (Each (lacks 10)) ls → AllByRecursion (Each (lacks 10)) (onto_first c ls)
feedless-first c [] h g = (and_from (lacks 10 c) true (not_from_false (is_feed c) h) refl, tt)
feedless-first c (l ∷ ls) h g = (and_from (lacks 10 c) (list_all (lacks 10) l) (not_from_false (is_feed c) h) g.0, g.1)

feedless : (text : List ℕ) → AllByRecursion (Each (lacks 10)) (lines_of text)
feedless [] = tt
feedless (c ∷ cs) = by (is_feed c) refl (feedless cs)
  where
    by : (b : Bool) → is_feed c ≡ b → AllByRecursion (Each (lacks 10)) (lines_of cs) → AllByRecursion (Each (lacks 10)) (cond b ([] ∷ lines_of cs) (onto_first c (lines_of cs)))
    by true e ih = (refl, ih)
    by false e ih = feedless-first c (lines_of cs) e ih

clean-both : (ls : List Line) → AllByRecursion IsUtf8 ls → AllByRecursion (Each (lacks 10)) ls → AllByRecursion IsClean ls
clean-both [] h g = tt
clean-both (l ∷ ls) h g = ((h.0, g.0), clean-both ls h.1 g.1)

mark-utf8 : IsUtf8 (239 ∷ 187 ∷ 191 ∷ [])
unfolding encode
mark-utf8 = (65279 ∷ [], (refl, refl))

unmarked-utf8 : (text : List ℕ) → IsUtf8 text → IsUtf8 (unmarked text)
unmarked-utf8 text h = by (starts_with nat_eq text (239 ∷ 187 ∷ 191 ∷ [])) refl
  where
    by : (b : Bool) → starts_with nat_eq text (239 ∷ 187 ∷ 191 ∷ []) ≡ b → IsUtf8 (cond b (drop 3 text) text)
    by true e =
        let mark : 239 ∷ 187 ∷ 191 ∷ [] ≡ take 3 text = (bytes_eq-Decides (239 ∷ 187 ∷ 191 ∷ []) (take 3 text)).0 e in
        let three : 3 ≤ length text = omega (arith, ap length mark, length-take 3 text) in
        IsUtf8-drop text 3 h (IsCharBoundary-from_take text 3 h three (subst IsUtf8 mark mark-utf8))
    by false e = h

pub valid-content : (m : Manifest) → IsValid m → HasContent m
valid-content m v = by (is_utf8 v.0) refl v.1
  where
    small : m.until ≤ 10 ^ 15
    small = (manifest-sound m v.0 v.1).until

    by : (b : Bool) → is_utf8 v.0 ≡ b → cond b (outcome (lines_of (unmarked v.0)) []) (Err (fault NotUtf8 (utf8_valid_len v.0))) ≡ Ok m → HasContent m
    by true e g =
        let lines = lines_of (unmarked v.0) in
        let utf8 = lines-parted IsUtf8 utf8-parted (unmarked v.0) (unmarked-utf8 v.0 (IsUtf8-from_is_utf8 v.0 e)) in
        outcome-content lines [] m (clean-both lines utf8 (feedless (unmarked v.0))) tt (record { settings = tt; new = tt; rules = tt; cells = tt; colours = tt }) small g
    by false e g = absurd cc
