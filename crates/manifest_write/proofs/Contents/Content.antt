-- The content of the lines of every manifest, and the settings that spell it.
use Rattle.std.proofs.Common.{◌≡◌, ℕ, ◌*◌, ◌^◌, ◌<◌, ◌≤◌, ◌&&◌, ◌||◌, Bool, true, false, cond, List, [], ◌∷◌, ◌++◌, map, filter, length, Option, None, Some, is_none, refl, ap, ◌∙◌, inr, codes, decimal}
use Rattle.std.specs.List.{filter_map, flat_map, cons_option, AllByRecursion}
use Rattle.std.proofs.lemmas.Bool.{or_parts, not-true}
use Rattle.lattice.specs.declared.grid.Kind.{Kind}
use Rattle.lattice.specs.declared.grid.Kind.TheVariants.{Square, Hex}
use Rattle.surf_text.specs.Numbers.{u64_of}
use Rattle.surf_text.specs.Passing.{Each, lacks, begins}
use Rattle.rates.specs.Durations.{duration_of}
use Rattle.manifest_read.specs.declared.manifest.Manifest.{Manifest}
use Rattle.manifest_read.specs.declared.text.Setting.{Setting}
use Rattle.manifest_read.specs.declared.fault.ManifestKind.TheVariants.{BadSeed, BadDuration, BadLattice, BadWrap}
use Rattle.manifest_read.specs.Rules.{names_of_rule}
use Rattle.manifest_read.specs.Settings.{is_seed, is_duration, is_lattice, is_wrap, kind_of, wrap_of, seed_in, duration_in, kind_in, wrap_in, is_other, last_or, SettingValues, setting_values, value_fault, kind_text, bool_text}
use Rattle.manifest_read.specs.Manifest.{Content}
use Rattle.manifest_write.specs.Canon.{duration_text, value_text, setting_line, read_setting_lines}
use Rattle.manifest_write.proofs.Spellings.Numbers.{decimal-digits, decimal-tight, digits-lack, number-read, duration-read, duration-lacks, duration-tight}
use Rattle.manifest_write.proofs.Contents.Fits.{IsClean, IsBare, is_plain, FitsName, FitsRule, FitsSetting, FitsColour}
use Rattle.manifest_write.proofs.Lines.Clean.{clean-low, clean-decimal, clean-duration}
use Rattle.manifest_write.proofs.Contents.Room.{HasRoom}
use Rattle.manifest_write.proofs.Contents.Blocks.{AreNew, IsRead}

-- a setting without a meaning
pub record FitsOther (s : Setting) : Type 0 where
  pub fits : FitsSetting s
  pub other : is_other s ≡ true

pub record FitsValues (k : SettingValues) : Type 0 where
  pub seed : k.seed < 2 ^ 64
  pub until : k.until ≤ 10 ^ 15
  pub others : AllByRecursion FitsOther k.others
  pub new : AreNew k.others (codes "rng_seed" ∷ codes "max_duration" ∷ codes "lattice" ∷ codes "wrap" ∷ [])

abbrev pub FitsColours : Option (List (List ℕ)) → Type 0
FitsColours None = Unit {0}
FitsColours (Some lines) = AllByRecursion FitsColour lines

pub record FitsContent (t : Content) : Type 0 where
  pub known : FitsValues (setting_values t.settings)
  pub rules : AllByRecursion FitsRule t.rules
  pub rule_count : length t.rules ≤ 4096
  pub cells : AllByRecursion FitsName t.cells
  pub cell_count : length t.cells ≡ t.rows * t.cols
  pub site_count : length t.cells ≤ 1048576
  pub rows : 1 ≤ t.rows
  pub cols : 1 ≤ t.cols
  pub names : HasRoom [] (flat_map names_of_rule t.rules ++ t.cells)
  pub colours : FitsColours t.colours

-- the settings that the simulation reads
abbrev pub read_settings : SettingValues → List Setting
read_settings k =
    record { name = codes "rng_seed"; value = decimal k.seed }
    ∷ record { name = codes "max_duration"; value = duration_text k.until }
    ∷ record { name = codes "lattice"; value = kind_text k.kind }
    ∷ record { name = codes "wrap"; value = bool_text k.wrap }
    ∷ []

-- Another setting value_of nothing else

pub record IsSilent (s : Setting) : Type 0 where
  pub seed : is_seed s.name ≡ false
  pub duration : is_duration s.name ≡ false
  pub lattice : is_lattice s.name ≡ false
  pub wrap : is_wrap s.name ≡ false

pub silent : (s : Setting) → is_other s ≡ true → IsSilent s
silent s h =
    let a = or_parts (is_seed s.name) (is_duration s.name || (is_lattice s.name || is_wrap s.name)) (not-true (is_seed s.name || (is_duration s.name || (is_lattice s.name || is_wrap s.name))) h) in
    let b = or_parts (is_duration s.name) (is_lattice s.name || is_wrap s.name) a.1 in
    let c = or_parts (is_lattice s.name) (is_wrap s.name) b.1 in
    record { seed = a.0; duration = b.0; lattice = c.0; wrap = c.1 }

other-value : (s : Setting) → is_other s ≡ true → value_fault s ≡ None
other-value s h =
    let i = silent s h in
    let seed = is_none (u64_of s.value) in
    let duration = is_none (duration_of s.value) in
    let lattice = is_none (kind_of s.value) in
    let wrap = is_none (wrap_of s.value) in
    ap (λ b. cond (b && seed) (Some BadSeed) (cond (is_duration s.name && duration) (Some BadDuration) (cond (is_lattice s.name && lattice) (Some BadLattice) (cond (is_wrap s.name && wrap) (Some BadWrap) None)))) i.seed
    ∙ ap (λ b. cond (b && duration) (Some BadDuration) (cond (is_lattice s.name && lattice) (Some BadLattice) (cond (is_wrap s.name && wrap) (Some BadWrap) None))) i.duration
    ∙ ap (λ b. cond (b && lattice) (Some BadLattice) (cond (is_wrap s.name && wrap) (Some BadWrap) None)) i.lattice
    ∙ ap (λ b. cond (b && wrap) (Some BadWrap) None) i.wrap

module _ {A : Type 0} (value_of : Setting → Option A) (none : (s : Setting) → is_other s ≡ true → value_of s ≡ None) where
  others-without : (ss : List Setting) → AllByRecursion FitsOther ss → filter_map value_of ss ≡ []
  others-without [] h = refl
  others-without (s ∷ ss) h = ap (λ o. cons_option o (filter_map value_of ss)) (none s h.0.other) ∙ others-without ss h.1

others-same : (ss : List Setting) → AllByRecursion FitsOther ss → filter is_other ss ≡ ss
others-same [] h = refl
others-same (s ∷ ss) h = ap (λ b. cond b (s ∷ filter is_other ss) (filter is_other ss)) h.0.other ∙ ap (λ t. s ∷ t) (others-same ss h.1)

kind-read : (k : Kind) → kind_of (kind_text k) ≡ Some k
kind-read Square = refl
kind-read Hex = refl

wrap-read : (b : Bool) → wrap_of (bool_text b) ≡ Some b
wrap-read true = refl
wrap-read false = refl

abbrev made : ℕ → ℕ → Kind → Bool → List Setting → SettingValues
made seed until kind wrap others = record { seed = seed; until = until; kind = kind; wrap = wrap; others = others }

-- the values are read again
pub values-again : (k : SettingValues) → FitsValues k → setting_values (read_settings k ++ k.others) ≡ k
values-again k h =
    let seeds : filter_map seed_in k.others ≡ [] = others-without seed_in (λ s o. ap (λ b. cond b (u64_of s.value) None) (silent s o).seed) k.others h.others in
    let durations : filter_map duration_in k.others ≡ [] = others-without duration_in (λ s o. ap (λ b. cond b (duration_of s.value) None) (silent s o).duration) k.others h.others in
    let kinds : filter_map kind_in k.others ≡ [] = others-without kind_in (λ s o. ap (λ b. cond b (kind_of s.value) None) (silent s o).lattice) k.others h.others in
    let wraps : filter_map wrap_in k.others ≡ [] = others-without wrap_in (λ s o. ap (λ b. cond b (wrap_of s.value) None) (silent s o).wrap) k.others h.others in
    let seed : last_or 0 (cons_option (u64_of (decimal k.seed)) (filter_map seed_in k.others)) ≡ k.seed
    = ap (λ l. last_or 0 (cons_option (u64_of (decimal k.seed)) l)) seeds ∙ ap (λ o. last_or 0 (cons_option o [])) (number-read k.seed h.seed) in
    let until : last_or 100000000 (cons_option (duration_of (duration_text k.until)) (filter_map duration_in k.others)) ≡ k.until
    = ap (λ l. last_or 100000000 (cons_option (duration_of (duration_text k.until)) l)) durations ∙ ap (λ o. last_or 100000000 (cons_option o [])) (duration-read k.until h.until) in
    let kind : last_or Square (cons_option (kind_of (kind_text k.kind)) (filter_map kind_in k.others)) ≡ k.kind
    = ap (λ l. last_or Square (cons_option (kind_of (kind_text k.kind)) l)) kinds ∙ ap (λ o. last_or Square (cons_option o [])) (kind-read k.kind) in
    let wrap : last_or false (cons_option (wrap_of (bool_text k.wrap)) (filter_map wrap_in k.others)) ≡ k.wrap
    = ap (λ l. last_or false (cons_option (wrap_of (bool_text k.wrap)) l)) wraps ∙ ap (λ o. last_or false (cons_option o [])) (wrap-read k.wrap) in
    let old = setting_values (read_settings k ++ k.others) in
    ap (λ x. made x old.until old.kind old.wrap old.others) seed ∙ ap (λ x. made k.seed x old.kind old.wrap old.others) until ∙ ap (λ x. made k.seed k.until x old.wrap old.others) kind
    ∙ ap (λ x. made k.seed k.until k.kind x old.others) wrap ∙ ap (made k.seed k.until k.kind k.wrap) (others-same k.others h.others)

-- Settings that are written

seed-value : (k : SettingValues) → FitsValues k → value_fault (record { name = codes "rng_seed"; value = decimal k.seed }) ≡ None
seed-value k h = ap (λ o. cond (is_none o) (Some BadSeed) None) (number-read k.seed h.seed)

duration-value : (k : SettingValues) → FitsValues k → value_fault (record { name = codes "max_duration"; value = duration_text k.until }) ≡ None
duration-value k h = ap (λ o. cond (is_none o) (Some BadDuration) None) (duration-read k.until h.until)

setting-read : (name value : List ℕ) → IsBare name → is_plain name ≡ true → Each (lacks 61) name → IsClean name → IsBare value → IsClean value → value_fault (record { name = name; value = value }) ≡ None
    → IsRead (record { name = name; value = value })
setting-read name value n p u c v w f = record { fits = record { name = n; name_plain = p; name_uncut = u; name_clean = c; value = inr v; value_clean = w }; value = f }

kind-bare : (k : Kind) → IsBare (kind_text k) × IsClean (kind_text k)
kind-bare Square = (record { tight = record { front = refl; back = refl }; no_comment = refl }, clean-low (codes "square") refl)
kind-bare Hex = (record { tight = record { front = refl; back = refl }; no_comment = refl }, clean-low (codes "hex") refl)

wrap-bare : (b : Bool) → IsBare (bool_text b) × IsClean (bool_text b)
wrap-bare true = (record { tight = record { front = refl; back = refl }; no_comment = refl }, clean-low (codes "true") refl)
wrap-bare false = (record { tight = record { front = refl; back = refl }; no_comment = refl }, clean-low (codes "false") refl)

kind-value : (k : Kind) → value_fault (record { name = codes "lattice"; value = kind_text k }) ≡ None
kind-value Square = refl
kind-value Hex = refl

wrap-value : (b : Bool) → value_fault (record { name = codes "wrap"; value = bool_text b }) ≡ None
wrap-value true = refl
wrap-value false = refl

others-read : (ss : List Setting) → AllByRecursion FitsOther ss → AllByRecursion IsRead ss
others-read [] h = tt
others-read (s ∷ ss) h = (record { fits = h.0.fits; value = other-value s h.0.other }, others-read ss h.1)

pub settings-read : (k : SettingValues) → FitsValues k → AllByRecursion IsRead (read_settings k ++ k.others)
settings-read k h =
    let seed : IsBare (decimal k.seed) = record { tight = decimal-tight k.seed h.seed; no_comment = digits-lack 35 (decimal k.seed) refl (decimal-digits k.seed h.seed) } in
    let until : IsBare (duration_text k.until) = record { tight = duration-tight k.until h.until; no_comment = duration-lacks 35 k.until h.until refl refl } in
    let kind = kind-bare k.kind in
    let wrap = wrap-bare k.wrap in (
      setting-read (codes "rng_seed") (decimal k.seed) (record { tight = record { front = refl; back = refl }; no_comment = refl }) refl refl (clean-low (codes "rng_seed") refl) seed (clean-decimal k.seed h.seed) (seed-value k h),
      (
        setting-read (codes "max_duration") (duration_text k.until) (record { tight = record { front = refl; back = refl }; no_comment = refl }) refl refl (clean-low (codes "max_duration") refl) until (clean-duration k.until h.until) (duration-value k h),
        (
          setting-read (codes "lattice") (kind_text k.kind) (record { tight = record { front = refl; back = refl }; no_comment = refl }) refl refl (clean-low (codes "lattice") refl) kind.0 kind.1 (kind-value k.kind),
          (
            setting-read (codes "wrap") (bool_text k.wrap) (record { tight = record { front = refl; back = refl }; no_comment = refl }) refl refl (clean-low (codes "wrap") refl) wrap.0 wrap.1 (wrap-value k.wrap),
            others-read k.others h.others,
          ),
        ),
      ),
    )

pub settings-new : (k : SettingValues) → FitsValues k → AreNew (read_settings k ++ k.others) []
settings-new k h = (refl, (refl, (refl, (refl, h.new))))

-- their lines
value-some : (v : List ℕ) → begins v ≡ true → 32 ∷ v ≡ value_text v
value-some [] h = absurd cc
value-some (c ∷ cs) h = refl

kind-some : (k : Kind) → 32 ∷ kind_text k ≡ value_text (kind_text k)
kind-some Square = refl
kind-some Hex = refl

bool-some : (b : Bool) → 32 ∷ bool_text b ≡ value_text (bool_text b)
bool-some true = refl
bool-some false = refl

pub read_settings-lines : (m : Manifest) (k : SettingValues) → FitsValues k → m.seed ≡ k.seed → m.until ≡ k.until → m.lattice.kind ≡ k.kind → m.lattice.wrap ≡ k.wrap → read_setting_lines m ≡ map setting_line (read_settings k)
read_settings-lines m k h s u l w =
    let four : List ℕ → List ℕ → List ℕ → List ℕ → List (List ℕ)
    = λ a b c d. (codes "rng_seed =" ++ a) ∷ (codes "max_duration =" ++ b) ∷ (codes "lattice =" ++ c) ∷ (codes "wrap =" ++ d) ∷ [] in
    let seed : 32 ∷ decimal m.seed ≡ value_text (decimal k.seed) = ap (λ n. 32 ∷ decimal n) s ∙ value-some (decimal k.seed) (decimal-tight k.seed h.seed).front in
    let until : 32 ∷ duration_text m.until ≡ value_text (duration_text k.until) = ap (λ n. 32 ∷ duration_text n) u ∙ value-some (duration_text k.until) (duration-tight k.until h.until).front in
    let kind : 32 ∷ kind_text m.lattice.kind ≡ value_text (kind_text k.kind) = ap (λ x. 32 ∷ kind_text x) l ∙ kind-some k.kind in
    let wrap : 32 ∷ bool_text m.lattice.wrap ≡ value_text (bool_text k.wrap) = ap (λ x. 32 ∷ bool_text x) w ∙ bool-some k.wrap in
    ap (λ x. four x (32 ∷ duration_text m.until) (32 ∷ kind_text m.lattice.kind) (32 ∷ bool_text m.lattice.wrap)) seed
    ∙ ap (λ x. four (value_text (decimal k.seed)) x (32 ∷ kind_text m.lattice.kind) (32 ∷ bool_text m.lattice.wrap)) until
    ∙ ap (λ x. four (value_text (decimal k.seed)) (value_text (duration_text k.until)) x (32 ∷ bool_text m.lattice.wrap)) kind
    ∙ ap (four (value_text (decimal k.seed)) (value_text (duration_text k.until)) (value_text (kind_text k.kind))) wrap
