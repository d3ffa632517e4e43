-- The canonical text of a content is read as that content.
use Rattle.std.proofs.Common.{◌≡◌, ℕ, ◌*◌, Bool, true, cond, List, [], ◌∷◌, ◌++◌, map, Option, None, Some, Ok, Err, refl, sym, ap, ◌∙◌, subst, codes, append_assoc}
use Rattle.std.specs.Prelude.{Result}
use Rattle.std.specs.List.{flat_map, range_with_len, AllByRecursion}
use Rattle.std.specs.Str.{is_utf8}
use Rattle.std.specs.Str.Lossy.{utf8_valid_len}
use Rattle.std.proofs.lemmas.List.{map-append}
use Rattle.std.proofs.lemmas.Str.{is_utf8-from_IsUtf8}
use Rattle.surf_text.specs.Lines.{lines_of}
use Rattle.species.specs.Names.{place_of}
use Rattle.surface_rows.specs.Rows.{row_at, spaced, name_of, row_line, lines_text}
use Rattle.manifest_read.specs.declared.fault.ManifestKind.TheVariants.{NotUtf8}
use Rattle.manifest_read.specs.declared.fault.ManifestFault.{ManifestFault}
use Rattle.manifest_read.specs.declared.manifest.Manifest.{Manifest}
use Rattle.manifest_read.specs.Rules.{names_of_rule}
use Rattle.manifest_read.specs.Settings.{setting_values}
use Rattle.manifest_read.specs.Manifest.{Line, Content, first_seen, fault, unmarked, outcome, manifest_by, manifest_of}
use Rattle.manifest_write.specs.Canon.{setting_line, rule_line, read_setting_lines, colour_lines, canon, canonical_text}
use Rattle.manifest_read.specs.Names.{AreListed}
use Rattle.manifest_read.proofs.LawLemmas.{listed-left, listed-right, listed-seen}
use Rattle.manifest_write.proofs.Lines.RuleLines.{named_line}
use Rattle.manifest_write.proofs.Contents.Grid.{rows-each, map-row, all-take, all-drop}
use Rattle.manifest_write.proofs.Contents.NumberedNames.{names-found, rules-found, all-both}
use Rattle.manifest_write.proofs.Spellings.Forms.{grouped-lines}
use Rattle.manifest_write.proofs.Contents.Fits.{IsClean, FitsName, FitsRule, FitsColour}
use Rattle.manifest_write.proofs.Contents.Blocks.{IsRead}
use Rattle.manifest_write.proofs.Lines.Clean.{clean-low, clean-setting, clean-rule, clean-row, clean-map}
use Rattle.manifest_write.proofs.Cutting.Texts.{lines-again, lines-utf8}
use Rattle.manifest_write.proofs.Contents.Content.{FitsContent, FitsColours, read_settings, read_settings-lines, settings-read}
use Rattle.manifest_write.proofs.Again.Whole.{content_rows, content_settings, content_lines, content-again}

abbrev all_names : Content → List (List ℕ)
all_names t = first_seen (flat_map names_of_rule t.rules ++ t.cells)

record AreNamed (t : Content) : Type 0 where
  rules : AreListed (all_names t) (flat_map names_of_rule t.rules)
  cells : AreListed (all_names t) t.cells

-- each name of a rule or row is among the names
named : (t : Content) → AreNamed t
named t =
    let all = listed-seen (flat_map names_of_rule t.rules ++ t.cells) in
    record { rules = listed-left (all_names t) (flat_map names_of_rule t.rules) t.cells all; cells = listed-right (all_names t) (flat_map names_of_rule t.rules) t.cells all }

rows-same : (names : List (List ℕ)) (cols : ℕ) (cells : List (List ℕ)) → AreListed names cells → (places : List ℕ)
    → map (row_line names cols (map (place_of names) cells)) places ≡ map spaced (map (row_at cols cells) places)
rows-same names cols cells h [] = refl
rows-same names cols cells h (i ∷ is) =
    ap (λ r. spaced r ∷ map (row_line names cols (map (place_of names) cells)) is) (map-row (name_of names) cols (map (place_of names) cells) i ∙ ap (λ c. row_at cols c i) (names-found names cells h))
    ∙ ap (λ t. spaced (row_at cols cells i) ∷ t) (rows-same names cols cells h is)

-- the canonical lines, by names
canon-content : (t : Content) → FitsContent t → canon (manifest_by t) ≡ content_lines t
canon-content t h =
    let m = manifest_by t in
    let k = setting_values t.settings in
    let names = all_names t in
    let known = named t in
    let others = map setting_line k.others in
    let numbered_rules = map (rule_line names) m.rules in
    let numbered_rows = map (row_line names t.cols m.cells) (range_with_len 0 t.rows) in
    let rest : List Line → List Line → List Line = λ rules rows.
    (codes "!START_TRANSITION_RULES" ∷ rules ++ codes "!END_TRANSITION_RULES" ∷ []) ++ ((codes "!START_INIT_STATE" ∷ rows ++ codes "!END_INIT_STATE" ∷ []) ++ colour_lines t.colours) in
    let settings : read_setting_lines m ++ (others ++ rest (map named_line t.rules) (map spaced (content_rows t))) ≡ content_lines t
    = sym (append_assoc (read_setting_lines m) others (rest (map named_line t.rules) (map spaced (content_rows t))))
    ∙ ap (λ l. (l ++ others) ++ rest (map named_line t.rules) (map spaced (content_rows t))) (read_settings-lines m k h.known refl refl refl refl)
    ∙ ap (λ l. l ++ rest (map named_line t.rules) (map spaced (content_rows t))) (sym (map-append setting_line (read_settings k) k.others)) in
    sym (grouped-lines (read_setting_lines m) others (codes "!START_TRANSITION_RULES" ∷ numbered_rules) (codes "!START_INIT_STATE" ∷ numbered_rows) (colour_lines t.colours) (codes "!END_TRANSITION_RULES") (codes "!END_INIT_STATE"))
    ∙ ap (λ l. read_setting_lines m ++ (others ++ rest l numbered_rows)) (rules-found names t.rules known.rules)
    ∙ ap (λ l. read_setting_lines m ++ (others ++ rest (map named_line t.rules) l)) (rows-same names t.cols t.cells known.cells (range_with_len 0 t.rows))
    ∙ settings

-- The lines are clean

section-clean : (first last : Line) (lines : List Line) → IsClean first → IsClean last → AllByRecursion IsClean lines → AllByRecursion IsClean (first ∷ lines ++ last ∷ [])
section-clean first last lines f l h = (f, all-both IsClean lines (last ∷ []) h (l, tt))

colours-clean : (lines : List Line) → AllByRecursion FitsColour lines → AllByRecursion IsClean lines
colours-clean [] h = tt
colours-clean (line ∷ lines) h = (h.0.clean, colours-clean lines h.1)

colour-lines-clean : (colours : Option (List (List ℕ))) → FitsColours colours → AllByRecursion IsClean (colour_lines colours)
colour-lines-clean None h = tt
colour-lines-clean (Some lines) h =
    section-clean (codes "!START_COLORMAP") (codes "!END_COLORMAP") lines (clean-low (codes "!START_COLORMAP") refl) (clean-low (codes "!END_COLORMAP") refl) (colours-clean lines h)

lines-clean : (t : Content) → FitsContent t → AllByRecursion IsClean (content_lines t)
lines-clean t h =
    let settings = clean-map IsRead setting_line (λ s r. clean-setting s r.fits) (content_settings t) (settings-read (setting_values t.settings) h.known) in
    let rules = clean-map FitsRule named_line clean-rule t.rules h.rules in
    let names = rows-each t.cols t.cells (AllByRecursion FitsName) (λ i l. all-take FitsName t.cols _ (all-drop FitsName (i * t.cols) t.cells h.cells)) t.rows h.cell_count in
    let rows = clean-map (AllByRecursion FitsName) spaced clean-row (content_rows t) names in
    let rule_lines = codes "!START_TRANSITION_RULES" ∷ map named_line t.rules ++ codes "!END_TRANSITION_RULES" ∷ [] in
    let surface_lines = codes "!START_INIT_STATE" ∷ map spaced (content_rows t) ++ codes "!END_INIT_STATE" ∷ [] in
    all-both IsClean (map setting_line (content_settings t)) (rule_lines ++ (surface_lines ++ colour_lines t.colours)) settings
    (all-both IsClean rule_lines (surface_lines ++ colour_lines t.colours)
    (section-clean (codes "!START_TRANSITION_RULES") (codes "!END_TRANSITION_RULES") (map named_line t.rules) (clean-low (codes "!START_TRANSITION_RULES") refl) (clean-low (codes "!END_TRANSITION_RULES") refl) rules)
    (all-both IsClean surface_lines (colour_lines t.colours)
    (section-clean (codes "!START_INIT_STATE") (codes "!END_INIT_STATE") (map spaced (content_rows t)) (clean-low (codes "!START_INIT_STATE") refl) (clean-low (codes "!END_INIT_STATE") refl) rows)
    (colour-lines-clean t.colours h.colours)))

-- the text begins with no mark of the byte order
no-mark : (m : Manifest) → unmarked (canonical_text m) ≡ lines_text (canon m)
unfolding canonical_text
no-mark m = refl

text-is : (m : Manifest) → canonical_text m ≡ lines_text (canon m)
unfolding canonical_text
text-is m = refl

pub spelled-again : (t : Content) → FitsContent t → manifest_of (canonical_text (manifest_by t)) ≡ Ok (manifest_by t)
spelled-again t h =
    let m = manifest_by t in
    let text = canonical_text m in
    let clean : AllByRecursion IsClean (canon m) = subst (AllByRecursion IsClean) (sym (canon-content t h)) (lines-clean t h) in
    let valid : is_utf8 text ≡ true = ap is_utf8 (text-is m) ∙ is_utf8-from_IsUtf8 (lines_text (canon m)) (lines-utf8 (canon m) clean) in
    ap (λ (b : Bool). let r : Result Manifest ManifestFault = cond b (outcome (lines_of (unmarked text)) []) (Err (fault NotUtf8 (utf8_valid_len text))) in r) valid
    ∙ ap (λ x. outcome (lines_of x) []) (no-mark m) ∙ ap (λ ls. outcome ls []) (lines-again (canon m) clean ∙ canon-content t h) ∙ content-again t h
