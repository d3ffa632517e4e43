-- What a line that is no section line keeps to, and what a setting in it does.
use Rattle.std.proofs.Common.{◌≡◌, ℕ, ◌==◌, ◌⊎◌, Bool, true, false, cond, not, List, [], ◌∷◌, ◌++◌, Option, None, Some, refl, sym, ap, ◌∙◌, subst, inl, inr, arith}
use Rattle.std.specs.List.{list_all}
use Rattle.std.specs.Str.{IsUtf8}
use Rattle.std.proofs.lemmas.Bool.{and_from, not_from_false, false≢true}
use Rattle.std.proofs.lemmas.Bool.Decides.{nat_tests}
use Rattle.surf_text.specs.Lines.{is_blank, trim_back, onto_trimmed, trimmed}
use Rattle.surf_text.specs.Cuts.{cut_at, with_front}
use Rattle.surf_text.specs.Passing.{Each, lacks, begins}
use Rattle.surf_text.proofs.LawLemmas.{front-blank, front-other}
use Rattle.manifest_read.specs.declared.section.Section.TheVariants.{Rules, Surface, Colours}
use Rattle.manifest_read.specs.declared.text.Setting.{Setting}
use Rattle.manifest_read.specs.Sorts.{Starts, Ends, Unknown, Plain, front_of, bare, sorted, section_line, sort_of}
use Rattle.manifest_read.specs.Settings.{named, by_equals, setting_of}
use Rattle.manifest_write.proofs.Cutting.Bytes.{IsCut, cut-parts}
use Rattle.manifest_write.proofs.Cutting.Parted.{Parted, utf8-parted, each-parted, both-parted, trim-parted}
use Rattle.manifest_write.proofs.Cutting.Tight.{IsTight, trimmed-tight}
use Rattle.manifest_write.proofs.Contents.Fits.{IsClean, is_plain, IsBare, FitsSetting}
use Rattle.manifest_write.proofs.Lines.LineSorts.{trimmed-plain}

pub clean-parted : Parted IsClean
clean-parted = both-parted IsUtf8 (Each (lacks 10)) utf8-parted (each-parted (lacks 10))

-- The two texts of such a line

section-other : (b1 b2 b3 b4 b5 b6 : Bool) (text whole : List ℕ)
    → cond b1 (Starts Rules) (cond b2 (Ends Rules) (cond b3 (Starts Surface) (cond b4 (Ends Surface) (cond b5 (Starts Colours) (cond b6 (Ends Colours) Unknown))))) ≡ Plain text whole → ⊥
section-other true b2 b3 b4 b5 b6 text whole h = cc
section-other false true b3 b4 b5 b6 text whole h = cc
section-other false false true b4 b5 b6 text whole h = cc
section-other false false false true b5 b6 text whole h = cc
section-other false false false false true b6 text whole h = cc
section-other false false false false false true text whole h = cc
section-other false false false false false false text whole h = cc

record IsSorted (x y text whole : List ℕ) : Type 0 where
  text_is : x ≡ text
  whole_is : y ≡ whole
  plain : is_plain x ≡ true

sorted-parts : (x y text whole : List ℕ) → sorted x y ≡ Plain text whole → IsSorted x y text whole
sorted-parts [] y text whole h = record { text_is = cc; whole_is = cc; plain = refl }
sorted-parts (c ∷ cs) y text whole h = by (c == 33) refl h
  where
    by : (b : Bool) → (c == 33) ≡ b → cond b (section_line (c ∷ cs)) (Plain (c ∷ cs) y) ≡ Plain text whole → IsSorted (c ∷ cs) y text whole
    by true e g = absurd (section-other _ _ _ _ _ _ text whole g)
    by false e g = record { text_is = cc; whole_is = cc; plain = not_from_false (c == 33) e }

-- what stands before a comment has none
front-lacks : (line : List ℕ) → Each (lacks 35) (front_of line (cut_at 35 line))
front-lacks line = by (cut_at 35 line) refl
  where
    uncut : (text : List ℕ) → cut_at 35 text ≡ None → Each (lacks 35) text
    uncut [] e = refl
    uncut (c ∷ cs) e = at (c == 35) refl e (uncut cs)
      where
        later : (o : Option (List ℕ × List ℕ)) → with_front c o ≡ None → o ≡ None
        later None g = refl
        later (Some p) g = absurd cc

        at : (b : Bool) → (c == 35) ≡ b → cond b (Some ([], cs)) (with_front c (cut_at 35 cs)) ≡ None → (cut_at 35 cs ≡ None → Each (lacks 35) cs) → Each (lacks 35) (c ∷ cs)
        at true t g ih = absurd cc
        at false t g ih = and_from (lacks 35 c) (list_all (lacks 35) cs) (not_from_false (c == 35) t) (ih (later (cut_at 35 cs) g))

    by : (o : Option (List ℕ × List ℕ)) → cut_at 35 line ≡ o → Each (lacks 35) (front_of line o)
    by None e = uncut line e
    by (Some p) e = (cut-parts 35 line p.0 p.1 e).front_lacks

front-parted : (P : List ℕ → Type 0) → Parted P → (line : List ℕ) → P line → P (front_of line (cut_at 35 line))
front-parted P parted line h = by (cut_at 35 line) refl
  where
    by : (o : Option (List ℕ × List ℕ)) → cut_at 35 line ≡ o → P (front_of line o)
    by None e = h
    by (Some p) e = (parted p.0 p.1 35 (omega arith) (subst P (cut-parts 35 line p.0 p.1 e).text_is h)).0

-- the first byte other than a blank is the first one of a trimmed text
plain-head : (c : ℕ) (cs : List ℕ) → is_blank c ≡ false → is_plain (trimmed (c ∷ cs)) ≡ not (c == 33)
plain-head c cs h = ap (λ t. is_plain (trim_back t)) (front-other c cs h) ∙ by (trim_back cs)
  where
    by : (t : List ℕ) → is_plain (onto_trimmed c t) ≡ not (c == 33)
    by [] = ap (λ b. is_plain (cond b [] (c ∷ []))) h
    by (d ∷ ds) = refl

with-front : (c : ℕ) (cs : List ℕ) → (c == 35) ≡ false → front_of (c ∷ cs) (cut_at 35 (c ∷ cs)) ≡ c ∷ front_of cs (cut_at 35 cs)
with-front c cs h = ap (λ b. front_of (c ∷ cs) (cond b (Some ([], cs)) (with_front c (cut_at 35 cs)))) h ∙ by (cut_at 35 cs)
  where
    by : (o : Option (List ℕ × List ℕ)) → front_of (c ∷ cs) (with_front c o) ≡ c ∷ front_of cs o
    by None = refl
    by (Some p) = refl

-- so it is no `!`, if that of the text without its comment is none
whole-plain : (line : List ℕ) → is_plain (bare line) ≡ true → is_plain (trimmed line) ≡ true
whole-plain [] h = refl
whole-plain (c ∷ cs) h = by (is_blank c) refl (whole-plain cs)
  where
    blank-other : is_blank c ≡ true → (c == 35) ≡ false
    blank-other e = grind (arith, nat_tests)

    comment-plain : (c == 35) ≡ true → not (c == 33) ≡ true
    comment-plain e = grind (arith, nat_tests)

    inked-plain : is_blank c ≡ false → (b : Bool) → (c == 35) ≡ b → is_plain (trimmed (c ∷ cs)) ≡ true
    inked-plain e true g = plain-head c cs e ∙ comment-plain g
    inked-plain e false g =
        plain-head c cs e ∙ sym (plain-head c (front_of cs (cut_at 35 cs)) e) ∙ ap (λ t. is_plain (trimmed t)) (sym (with-front c cs g)) ∙ h

    by : (b : Bool) → is_blank c ≡ b → (is_plain (bare cs) ≡ true → is_plain (trimmed cs) ≡ true) → is_plain (trimmed (c ∷ cs)) ≡ true
    by true e ih =
        let same : bare (c ∷ cs) ≡ bare cs = ap trimmed (with-front c cs (blank-other e)) ∙ ap trim_back (front-blank c (front_of cs (cut_at 35 cs)) e) in
        ap (λ t. is_plain (trim_back t)) (front-blank c cs e) ∙ ih (ap is_plain (sym same) ∙ h)
    by false e ih = inked-plain e (c == 35) refl

pub record IsPlainLine (text whole : List ℕ) : Type 0 where
  pub bare : (text ≡ []) ⊎ IsBare text
  pub bare_plain : is_plain text ≡ true
  pub bare_clean : IsClean text
  pub tight : (whole ≡ []) ⊎ IsTight whole
  pub plain : is_plain whole ≡ true
  pub clean : IsClean whole

pub plain-line : (line text whole : List ℕ) → IsClean line → sort_of line ≡ Plain text whole → IsPlainLine text whole
plain-line line text whole h e =
    let s = sorted-parts (bare line) (trimmed line) text whole e in
    let front = front_of line (cut_at 35 line) in
    subst (λ t. IsPlainLine t whole) s.text_is (subst (IsPlainLine (bare line)) s.whole_is (record {
      bare = bare-fits (trimmed-tight front);
      bare_plain = s.plain;
      bare_clean = trim-parted IsClean clean-parted front (front-parted IsClean clean-parted line h);
      tight = trimmed-tight line;
      plain = whole-plain line s.plain;
      clean = trim-parted IsClean clean-parted line h;
    }))
  where
    no_comment : Each (lacks 35) (bare line)
    no_comment = trim-parted (Each (lacks 35)) (each-parted (lacks 35)) (front_of line (cut_at 35 line)) (front-lacks line)

    bare-fits : (bare line ≡ []) ⊎ IsTight (bare line) → (bare line ≡ []) ⊎ IsBare (bare line)
    bare-fits (inl g) = inl g
    bare-fits (inr g) = inr (record { tight = g; no_comment = no_comment })

-- Settings

record IsNamed (name value : List ℕ) (s : Setting) : Type 0 where
  is : s ≡ record { name = name; value = value }
  some : begins name ≡ true

named-parts : (name value : List ℕ) (s : Setting) → (name ≡ []) ⊎ IsTight name → named name value ≡ Some s → IsNamed name value s
named-parts [] value s t h = absurd cc
named-parts (c ∷ cs) value s (inl e) h = absurd cc
named-parts (c ∷ cs) value s (inr t) h = record { is = cc; some = t.front }

-- a text before a byte begins as the whole text
front-plain : (text front back : List ℕ) → text ≡ front ++ 61 ∷ back → begins text ≡ true → is_plain text ≡ true → is_plain (trimmed front) ≡ true
front-plain text [] back e h g = refl
front-plain text (c ∷ cs) back e h g = trimmed-plain c cs (sym (ap begins e) ∙ h) (sym (ap is_plain e) ∙ g)

pub setting-fits : (text : List ℕ) (s : Setting) → IsBare text → is_plain text ≡ true → IsClean text → setting_of text ≡ Some s → FitsSetting s
setting-fits text s b p c h = by (cut_at 61 text) refl h
  where
    fits : (front back : List ℕ) → IsCut 61 text front back → IsNamed (trimmed front) (trimmed back) s → (trimmed front ≡ []) ⊎ IsTight (trimmed front) → (trimmed back ≡ []) ⊎ IsTight (trimmed back) → FitsSetting s
    fits front back k n (inl e) v = absurd (false≢true (sym (ap begins e) ∙ n.some))
    fits front back k n (inr t) v =
        let lacks35 = each-parted (lacks 35) front back 61 (omega arith) (subst (Each (lacks 35)) k.text_is b.no_comment) in
        let clean = clean-parted front back 61 (omega arith) (subst IsClean k.text_is c) in
        let name : IsBare (trimmed front) = record { tight = t; no_comment = trim-parted (Each (lacks 35)) (each-parted (lacks 35)) front lacks35.0 } in
        subst FitsSetting (sym n.is) (record {
          name = name;
          name_plain = front-plain text front back k.text_is b.tight.front p;
          name_uncut = trim-parted (Each (lacks 61)) (each-parted (lacks 61)) front k.front_lacks;
          name_clean = trim-parted IsClean clean-parted front clean.0;
          value = value v (trim-parted (Each (lacks 35)) (each-parted (lacks 35)) back lacks35.1);
          value_clean = trim-parted IsClean clean-parted back clean.1;
        })
      where
        value : {v : List ℕ} → (v ≡ []) ⊎ IsTight v → Each (lacks 35) v → (v ≡ []) ⊎ IsBare v
        value (inl e) l = inl e
        value (inr x) l = inr (record { tight = x; no_comment = l })

    by : (o : Option (List ℕ × List ℕ)) → cut_at 61 text ≡ o → by_equals o ≡ Some s → FitsSetting s
    by None e g = absurd cc
    by (Some q) e g =
        fits q.0 q.1 (cut-parts 61 text q.0 q.1 e) (named-parts (trimmed q.0) (trimmed q.1) s (trimmed-tight q.0) g) (trimmed-tight q.0) (trimmed-tight q.1)
