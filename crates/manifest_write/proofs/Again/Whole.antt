-- The canonical lines of a content lead to that content.
use Rattle.std.proofs.Common.{◌≡◌, ℕ, ◌+◌, ◌*◌, ◌≤◌, ◌==◌, true, false, cond, List, [], ◌∷◌, ◌++◌, map, fold, length, Option, None, Some, Ok, refl, sym, ap, ◌∙◌, subst, inl, inr, arith, codes, ne_eqb, map-id}
use Rattle.std.specs.Prelude.{Result, is_some, unwrap_or}
use Rattle.std.specs.List.{flat_map, range_with_len, AllByRecursion}
use Rattle.std.proofs.lemmas.List.{length-map}
use Rattle.std.proofs.lemmas.List.FromFn.{length-range_with_len}
use Rattle.std.specs.Option.{option_map}
use Rattle.species.specs.Names.{with_name}
use Rattle.surface_rows.specs.Rows.{row_at, spaced}
use Rattle.manifest_read.specs.declared.section.Section.TheVariants.{Rules, Surface, Colours}
use Rattle.manifest_read.specs.declared.fault.ManifestKind.TheVariants.{NoSites}
use Rattle.manifest_read.specs.declared.fault.ManifestFault.{ManifestFault}
use Rattle.manifest_read.specs.declared.manifest.Manifest.{Manifest}
use Rattle.manifest_read.specs.declared.text.Setting.{Setting}
use Rattle.manifest_read.specs.Rules.{NamedRule, names_of_rule}
use Rattle.manifest_read.specs.Settings.{SettingValues, setting_values}
use Rattle.manifest_read.specs.Sorts.{Starts, Ends}
use Rattle.manifest_read.specs.Manifest.{Line, RowEntry, ColourEntry, Content, first_seen, fault, start_fault, manifest_with, manifest_by, outcome}
use Rattle.manifest_read.specs.Steps.{start}
use Rattle.manifest_write.specs.Canon.{setting_line, colour_lines}
use Rattle.manifest_write.proofs.Lines.RuleLines.{named_line}
use Rattle.manifest_write.proofs.Contents.Reaching.{Reaches, reaches-more, reaches-line, outcome-reached, state, block}
use Rattle.manifest_write.proofs.Contents.Room.{HasRoom, room-rest}
use Rattle.manifest_write.proofs.Contents.Blocks.{AreNew, IsRead, setting_entry, and_setting, settings-pass, settings-added, rule_entry, and_rule, names_of, in_rules, rules-pass, rules-added, FitsRow, HasWidth, and_row, in_surface, words_in, rows-pass, rows-added, and_colour, in_colours, the_line, colours-pass, colours-added}
use Rattle.manifest_write.proofs.Contents.Fits.{FitsName, FitsRule}
use Rattle.manifest_write.proofs.Contents.Grid.{rows_of, rows-all, rows-each, all-take, all-drop}
use Rattle.manifest_write.proofs.Contents.Content.{FitsColours, FitsContent, read_settings, values-again, settings-read, settings-new}

-- before the first line
abbrev pub nothing : Content
nothing = start.content

-- Settings

pub settings-stage : (ss : List Setting) → AllByRecursion IsRead ss → AreNew ss [] → (n : ℕ) × Reaches (map setting_line ss) start (state n None false false (record nothing { settings = ss }))
settings-stage ss h g =
    let all = block setting_line setting_entry and_setting None ss 0 false false nothing (settings-pass ss nothing h g) in
    (all.0, subst (λ (t : Content). Reaches (map setting_line ss) start (state all.0 None false false t)) (settings-added ss nothing) all.1)

-- Rules

abbrev pub with_rules : Content → List NamedRule → Content
with_rules t rs = record t { rules = rs; names = fold with_name [] (names_of rs) }

pub rules-stage : (n : ℕ) (ss : List Setting) (rs : List NamedRule) (later : List (List ℕ)) → AllByRecursion FitsRule rs → length rs ≤ 4096 → HasRoom [] (names_of rs ++ later)
    → (m : ℕ) × Reaches (codes "!START_TRANSITION_RULES" ∷ map named_line rs ++ codes "!END_TRANSITION_RULES" ∷ []) (state n None false false (record nothing { settings = ss }))
    (state m None true false (with_rules (record nothing { settings = ss }) rs))
rules-stage n ss rs later h few room =
    let content : Content = record nothing { settings = ss } in
    let there = with_rules content rs in
    let within = in_rules (n + 1) in
    let inside = block named_line rule_entry and_rule within rs (n + 1) true false content (rules-pass (n + 1) rs later content h (omega (arith, few)) room) in
    let body : Reaches (map named_line rs) (state (n + 1) within true false content) (state inside.0 within true false there)
    = subst (λ (t : Content). Reaches (map named_line rs) (state (n + 1) within true false content) (state inside.0 within true false t)) (rules-added rs content) inside.1 in
    let closes : Reaches (codes "!END_TRANSITION_RULES" ∷ []) (state inside.0 within true false there) (state (inside.0 + 1) None true false there)
    = reaches-line (codes "!END_TRANSITION_RULES") [] (state inside.0 within true false there) (state (inside.0 + 1) None true false there) (Ends Rules) refl refl refl in (
      inside.0 + 1,
      reaches-line (codes "!START_TRANSITION_RULES") (map named_line rs ++ codes "!END_TRANSITION_RULES" ∷ []) (state n None false false content) (state (inside.0 + 1) None true false there) (Starts Rules) refl refl
          (reaches-more (map named_line rs) (codes "!END_TRANSITION_RULES" ∷ []) (state (n + 1) within true false content) (state inside.0 within true false there) (state (inside.0 + 1) None true false there) body closes),
    )

-- Rows

some-rows : (n : ℕ) (t : Content) → 1 ≤ t.rows → option_map (λ kind. fault kind n) (cond (t.rows == 0) (Some NoSites) None) ≡ None
some-rows n t h = ap (λ b. option_map (λ kind. fault kind n) (cond b (Some NoSites) None)) (ne_eqb t.rows 0 (λ e. omega (arith, h, e)))

pub surface-stage : (n cols : ℕ) (t : Content) (rows : List (List (List ℕ))) → AllByRecursion (FitsRow cols) rows → t.rows ≡ 0 → t.cells ≡ [] → 1 ≤ length rows → length (words_in rows) ≤ 1048576 → HasRoom t.names (words_in rows)
    → (m : ℕ) × Reaches (codes "!START_INIT_STATE" ∷ map spaced rows ++ codes "!END_INIT_STATE" ∷ []) (state n None true false t) (state m None true true (fold and_row t rows))
surface-stage n cols t rows h none empty some few room =
    let there = fold and_row t rows in
    let within = in_surface (n + 1) in
    let inside = block spaced RowEntry and_row within rows (n + 1) true true t (rows-pass (n + 1) cols rows t h (inl none) (omega (arith, few, ap length empty)) room) in
    let added = rows-added cols rows t h (inl none) in
    let closes : Reaches (codes "!END_INIT_STATE" ∷ []) (state inside.0 within true true there) (state (inside.0 + 1) None true true there)
    = reaches-line (codes "!END_INIT_STATE") [] (state inside.0 within true true there) (state (inside.0 + 1) None true true there) (Ends Surface) refl
    (some-rows (inside.0 + 1) there (omega (arith, added.rows_are, none, some))) refl in (
      inside.0 + 1,
      reaches-line (codes "!START_INIT_STATE") (map spaced rows ++ codes "!END_INIT_STATE" ∷ []) (state n None true false t) (state (inside.0 + 1) None true true there) (Starts Surface) refl refl
          (reaches-more (map spaced rows) (codes "!END_INIT_STATE" ∷ []) (state (n + 1) within true true t) (state inside.0 within true true there) (state (inside.0 + 1) None true true there) inside.1 closes),
    )

-- Colours

pub colours-stage : (n : ℕ) (u : Content) (colours : Option (List (List ℕ))) → u.colours ≡ None → FitsColours colours
    → (end : ℕ) × Reaches (colour_lines colours) (state n None true true u) (state end None true true (record u { colours = colours }))
colours-stage n u None e h = (n, ap (λ (o : Option (List (List ℕ))). state n None true true (record u { colours = o })) e)
colours-stage n u (Some lines) e h =
    let opened : Content = record u { colours = Some [] } in
    let there : Content = record u { colours = Some lines } in
    let within = in_colours (n + 1) in
    let inside = block the_line ColourEntry and_colour within lines (n + 1) true true opened (colours-pass (n + 1) lines opened h) in
    let body : Reaches (map the_line lines) (state (n + 1) within true true opened) (state inside.0 within true true there)
    = subst (λ (t : Content). Reaches (map the_line lines) (state (n + 1) within true true opened) (state inside.0 within true true t)) (colours-added lines [] opened refl) inside.1 in
    let closes : Reaches (codes "!END_COLORMAP" ∷ []) (state inside.0 within true true there) (state (inside.0 + 1) None true true there)
    = reaches-line (codes "!END_COLORMAP") [] (state inside.0 within true true there) (state (inside.0 + 1) None true true there) (Ends Colours) refl refl refl in
    let started : Content = record u { colours = Some (unwrap_or u.colours []) } in
    let same : opened ≡ started = ap (λ (o : Option (List (List ℕ))). let t : Content = record u { colours = Some (unwrap_or o []) } in t) (sym e) in (
      inside.0 + 1,
      reaches-line (codes "!START_COLORMAP") (lines ++ codes "!END_COLORMAP" ∷ []) (state n None true true u) (state (inside.0 + 1) None true true there) (Starts Colours) refl
          (ap (λ o. start_fault (is_some o) (n + 1) None) e)
          (subst (λ (t : Content). Reaches (lines ++ codes "!END_COLORMAP" ∷ []) (state (n + 1) within true true t) (state (inside.0 + 1) None true true there)) same
          (reaches-more lines (codes "!END_COLORMAP" ∷ []) (state (n + 1) within true true opened) (state inside.0 within true true there) (state (inside.0 + 1) None true true there)
          (subst (λ ls. Reaches ls (state (n + 1) within true true opened) (state inside.0 within true true there)) (map-id lines) body) closes)),
    )

-- All of it

abbrev pub content_rows : Content → List (List (List ℕ))
content_rows t = rows_of t.rows t.cols t.cells

abbrev pub content_settings : Content → List Setting
content_settings t = read_settings (setting_values t.settings) ++ (setting_values t.settings).others

abbrev pub content_lines : Content → List Line
content_lines t =
    map setting_line (content_settings t)
    ++ ((codes "!START_TRANSITION_RULES" ∷ map named_line t.rules ++ codes "!END_TRANSITION_RULES" ∷ [])
    ++ ((codes "!START_INIT_STATE" ∷ map spaced (content_rows t) ++ codes "!END_INIT_STATE" ∷ [])
    ++ colour_lines t.colours))

abbrev content_by : List NamedRule → ℕ → ℕ → List (List ℕ) → Option (List (List ℕ)) → SettingValues → Manifest
content_by rules rows cols cells colours known =
    manifest_with (first_seen (flat_map names_of_rule rules ++ cells)) (record { settings = []; rules = rules; rows = rows; cols = cols; cells = cells; names = []; colours = colours }) known

same-manifest : (u t : Content) → u.rules ≡ t.rules → u.rows ≡ t.rows → u.cols ≡ t.cols → u.cells ≡ t.cells → u.colours ≡ t.colours → setting_values u.settings ≡ setting_values t.settings → manifest_by u ≡ manifest_by t
same-manifest u t r w c s o k =
    ap (λ x. content_by x u.rows u.cols u.cells u.colours (setting_values u.settings)) r
    ∙ ap (λ x. content_by t.rules x u.cols u.cells u.colours (setting_values u.settings)) w
    ∙ ap (λ x. content_by t.rules t.rows x u.cells u.colours (setting_values u.settings)) c
    ∙ ap (λ x. content_by t.rules t.rows t.cols x u.colours (setting_values u.settings)) s
    ∙ ap (λ x. content_by t.rules t.rows t.cols t.cells x (setting_values u.settings)) o
    ∙ ap (content_by t.rules t.rows t.cols t.cells t.colours) k

width-is : (cols rows : ℕ) (u : Content) → HasWidth cols u → u.rows ≡ rows → 1 ≤ rows → u.cols ≡ cols
width-is cols rows u (inl e) r h = absurd (omega (arith, e, r, h))
width-is cols rows u (inr e) r h = e

pub content-again : (t : Content) → FitsContent t → outcome (content_lines t) [] ≡ Ok (manifest_by t)
content-again t h =
    let k = setting_values t.settings in
    let ss = content_settings t in
    let rows = content_rows t in
    let words : words_in rows ≡ t.cells = rows-all t.cols t.cells t.rows h.cell_count in
    let fits : AllByRecursion (FitsRow t.cols) rows
    = rows-each t.cols t.cells (FitsRow t.cols) (λ i l. record { count = l; some = h.cols; names = all-take FitsName t.cols _ (all-drop FitsName (i * t.cols) t.cells h.cells) }) t.rows h.cell_count in
    let count : length rows ≡ t.rows = length-map (range_with_len 0 t.rows) (row_at t.cols t.cells) ∙ length-range_with_len 0 t.rows in
    let one = settings-stage ss (settings-read k h.known) (settings-new k h.known) in
    let before : Content = record nothing { settings = ss } in
    let two = rules-stage one.0 ss t.rules t.cells h.rules h.rule_count h.names in
    let ruled = with_rules before t.rules in
    let room : HasRoom (fold with_name [] (names_of t.rules)) (words_in rows) = subst (HasRoom (fold with_name [] (names_of t.rules))) (sym words) (room-rest [] (names_of t.rules) t.cells h.names) in
    let three = surface-stage two.0 t.cols ruled rows fits refl refl (omega (arith, count, h.rows)) (omega (arith, h.site_count, ap length words)) room in
    let u = fold and_row ruled rows in
    let added = rows-added t.cols rows ruled fits (inl refl) in
    let four = colours-stage three.0 u t.colours added.colours h.colours in
    let v : Content = record u { colours = t.colours } in
    let end = state four.0 None true true v in
    let rules_lines = codes "!START_TRANSITION_RULES" ∷ map named_line t.rules ++ codes "!END_TRANSITION_RULES" ∷ [] in
    let surface_lines = codes "!START_INIT_STATE" ∷ map spaced rows ++ codes "!END_INIT_STATE" ∷ [] in
    let last = reaches-more surface_lines (colour_lines t.colours) (state two.0 None true false ruled) (state three.0 None true true u) end three.1 four.1 in
    let more = reaches-more rules_lines (surface_lines ++ colour_lines t.colours) (state one.0 None false false before) (state two.0 None true false ruled) end two.1 last in
    let all = reaches-more (map setting_line ss) (rules_lines ++ (surface_lines ++ colour_lines t.colours)) start (state one.0 None false false before) end one.1 more in
    outcome-reached (content_lines t) [] start end refl all
    ∙ ap (λ (m : Manifest). let r : Result Manifest ManifestFault = Ok m in r)
    (same-manifest v t added.rules (added.rows_are ∙ (let e : 0 + length rows ≡ t.rows = omega (arith, count) in e))
    (width-is t.cols t.rows u added.width (added.rows_are ∙ (let e : 0 + length rows ≡ t.rows = omega (arith, count) in e)) h.rows)
    (added.cells ∙ words) refl (ap setting_values added.settings ∙ values-again k h.known))
