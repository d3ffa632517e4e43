-- The pieces of lines, joined.
use Rattle.std.proofs.Common.{◌≡◌, ℕ, ◌+◌, ◌<◌, ◌≤◌, true, false, List, [], ◌∷◌, ◌++◌, length, take, drop, get_or, codes, decimal, map, sym, ap, ◌∙◌, append_assoc, append-nil}
use Rattle.std.specs.Prelude.{◌==◌, if◌then◌else◌}
use Rattle.std.proofs.lemmas.List.Concat.{flat_map-append}
use Rattle.surface_rows.specs.Rows.{lines_text, row_lines}
use Rattle.manifest_write.specs.Canon.{rate_text, duration_text, setting_line, rule_line, read_setting_lines, colour_lines, canonical_text}
use Rattle.manifest_read.specs.Settings.{kind_text, bool_text}
use Rattle.manifest_read.specs.declared.manifest.Manifest.{Manifest}
use Rattle.manifest_write.proofs.Spellings.Loops.{ended, lines-more, lines-within, lines-all}

-- numbers in brackets
pub whole-rate : (p q : ℕ) (s : List ℕ) → s ≡ decimal p → (q == 1) ≡ true
    → codes "(" ++ (s ++ (codes ") " ++ [])) ≡ codes "(" ++ rate_text (record { p = p; q = q }) ++ codes ") "
whole-rate p q s e h =
    ap (λ t. codes "(" ++ (t ++ codes ") ")) (e ∙ sym (append-nil (decimal p)))
    ∙ ap (λ b. codes "(" ++ (decimal p ++ (if b then [] else codes "/" ++ decimal q)) ++ codes ") ") (sym h)

pub quotient-rate : (p q : ℕ) (s t : List ℕ) → s ≡ decimal p → t ≡ decimal q → (q == 1) ≡ false
    → codes "(" ++ (s ++ (codes "/" ++ (t ++ (codes ") " ++ [])))) ≡ codes "(" ++ rate_text (record { p = p; q = q }) ++ codes ") "
quotient-rate p q s t e f h =
    ap (λ x. codes "(" ++ (x ++ (codes "/" ++ (t ++ codes ") ")))) e
    ∙ ap (λ x. codes "(" ++ (decimal p ++ (codes "/" ++ (x ++ codes ") ")))) f
    ∙ ap (λ x. codes "(" ++ x) (sym (append_assoc (decimal p) (codes "/" ++ decimal q) (codes ") ")))
    ∙ ap (λ b. codes "(" ++ (decimal p ++ (if b then [] else codes "/" ++ decimal q)) ++ codes ") ") (sym h)

-- four lines of two parts each
four-lines : (a s b d c k e w : List ℕ)
    → ((a ++ (s ++ ((10 ∷ b) ++ []))) ++ d) ++ ((10 ∷ c) ++ (k ++ ((10 ∷ e) ++ (w ++ (10 ∷ [])))))
    ≡ ended (a ++ s) ++ (ended (b ++ d) ++ (ended (c ++ k) ++ (ended (e ++ w) ++ [])))
four-lines a s b d c k e w = simp (append_assoc, append-nil)

-- the settings that the simulation reads
abbrev pub settings_front : List ℕ → List ℕ
settings_front seed = codes "rng_seed = " ++ (seed ++ (codes "\nmax_duration = " ++ []))

abbrev pub settings_back : List ℕ → List ℕ → List ℕ
settings_back kind wrap = codes "\nlattice = " ++ (kind ++ (codes "\nwrap = " ++ (wrap ++ (codes "\n" ++ []))))

pub settings-text : (m : Manifest) → (settings_front (decimal m.seed) ++ duration_text m.until) ++ settings_back (kind_text m.lattice.kind) (bool_text m.lattice.wrap) ≡ lines_text (read_setting_lines m)
settings-text m =
    four-lines (codes "rng_seed = ") (decimal m.seed) (codes "max_duration = ") (duration_text m.until) (codes "lattice = ") (kind_text m.lattice.kind) (codes "wrap = ") (bool_text m.lattice.wrap)

-- the line of a rule
pub one-rule : (p a r c : List ℕ) → p ++ (a ++ (r ++ (c ++ (10 ∷ [])))) ≡ ended (p ++ a ++ r ++ c)
one-rule p a r c = simp append_assoc

pub two-rule : (p a o b r c d : List ℕ) → p ++ (a ++ (o ++ (b ++ (r ++ (c ++ (o ++ (d ++ (10 ∷ [])))))))) ≡ ended (p ++ a ++ o ++ b ++ r ++ c ++ o ++ d)
two-rule p a o b r c d = simp append_assoc

-- a section
pub section-text : (start end : List ℕ) (lines : List (List ℕ)) → ended start ++ (lines_text lines ++ ended end) ≡ lines_text (start ∷ lines ++ end ∷ [])
section-text start end lines =
    ap (λ t. ended start ++ (lines_text lines ++ t)) (sym (append-nil (ended end))) ∙ ap (λ t. ended start ++ t) (sym (flat_map-append ended lines (end ∷ [])))

pub section-end : (start end : List ℕ) (lines : List (List ℕ)) → (ended start ++ lines_text lines) ++ ended end ≡ lines_text (start ∷ lines ++ end ∷ [])
section-end start end lines = append_assoc (ended start) (lines_text lines) (ended end) ∙ section-text start end lines

pub section-within : {X : Type 0} (start end : List ℕ) (f : X → List ℕ) (xs : List X) (i : ℕ) (d : X) → i < length xs
    → ((ended start ++ lines_text (map f (take i xs))) ++ ended (f (get_or xs i d))) ++ (lines_text (map f (drop (i + 1) xs)) ++ ended end) ≡ lines_text (start ∷ map f xs ++ end ∷ [])
section-within start end f xs i d h =
    grouped (ended start) (lines_text (map f (take i xs))) (ended (f (get_or xs i d))) (lines_text (map f (drop (i + 1) xs))) (ended end)
    ∙ ap (λ t. ended start ++ (t ++ ended end)) (lines-within f xs i d h) ∙ section-text start end (map f xs)
  where
    grouped : (s a b c e : List ℕ) → ((s ++ a) ++ b) ++ (c ++ e) ≡ s ++ (((a ++ b) ++ c) ++ e)
    grouped s a b c e = simp append_assoc

pub section-more : {X : Type 0} (start : List ℕ) (f : X → List ℕ) (xs : List X) (i : ℕ) (d : X) → i < length xs
    → (start ++ lines_text (map f (take i xs))) ++ ended (f (get_or xs i d)) ≡ start ++ lines_text (map f (take (i + 1) xs))
section-more start f xs i d h =
    append_assoc start (lines_text (map f (take i xs))) (ended (f (get_or xs i d))) ∙ ap (λ t. start ++ t) (lines-more f xs i d h)

pub section-all : {X : Type 0} (start end : List ℕ) (f : X → List ℕ) (xs : List X) (i : ℕ) → length xs ≤ i
    → (ended start ++ lines_text (map f (take i xs))) ++ ended end ≡ lines_text (start ∷ map f xs ++ end ∷ [])
section-all start end f xs i h = ap (λ t. (ended start ++ t) ++ ended end) (lines-all f xs i h) ∙ section-end start end (map f xs)

-- the whole text
pub grouped-lines : (k s r w c : List (List ℕ)) (b e : List ℕ) → k ++ (s ++ ((r ++ b ∷ []) ++ ((w ++ e ∷ []) ++ c))) ≡ k ++ s ++ r ++ b ∷ w ++ e ∷ c
grouped-lines k s r w c b e = simp append_assoc

joined-lines : (k s r w c : List (List ℕ)) → lines_text k ++ (lines_text s ++ (lines_text r ++ (lines_text w ++ lines_text c))) ≡ lines_text (k ++ (s ++ (r ++ (w ++ c))))
joined-lines k s r w c =
    ap (λ t. lines_text k ++ (lines_text s ++ (lines_text r ++ t))) (sym (flat_map-append ended w c))
    ∙ ap (λ t. lines_text k ++ (lines_text s ++ t)) (sym (flat_map-append ended r (w ++ c)))
    ∙ ap (λ t. lines_text k ++ t) (sym (flat_map-append ended s (r ++ (w ++ c))))
    ∙ sym (flat_map-append ended k (s ++ (r ++ (w ++ c))))

abbrev pub rules_text : Manifest → List ℕ
rules_text m = lines_text (codes "!START_TRANSITION_RULES" ∷ map (rule_line m.names) m.rules ++ codes "!END_TRANSITION_RULES" ∷ [])

abbrev pub surface_text : Manifest → List ℕ
surface_text m = lines_text (codes "!START_INIT_STATE" ∷ row_lines m.names m.lattice.rows m.lattice.cols m.cells ++ codes "!END_INIT_STATE" ∷ [])

pub whole-text : (m : Manifest)
    → lines_text (read_setting_lines m) ++ (lines_text (map setting_line m.others) ++ (rules_text m ++ (surface_text m ++ lines_text (colour_lines m.colours)))) ≡ canonical_text m
unfolding canonical_text
whole-text m =
    let rules = map (rule_line m.names) m.rules in
    let rows = row_lines m.names m.lattice.rows m.lattice.cols m.cells in
    joined-lines (read_setting_lines m) (map setting_line m.others) (codes "!START_TRANSITION_RULES" ∷ rules ++ codes "!END_TRANSITION_RULES" ∷ []) (codes "!START_INIT_STATE" ∷ rows ++ codes "!END_INIT_STATE" ∷ []) (colour_lines m.colours)
    ∙ ap lines_text (grouped-lines (read_setting_lines m) (map setting_line m.others) (codes "!START_TRANSITION_RULES" ∷ rules) (codes "!START_INIT_STATE" ∷ rows) (colour_lines m.colours) (codes "!END_TRANSITION_RULES") (codes "!END_INIT_STATE"))
