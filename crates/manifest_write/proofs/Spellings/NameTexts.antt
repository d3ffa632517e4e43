-- What a name of a species is as a text.
use Rattle.std.proofs.Common.{◌≡◌, ℕ, ◌==◌, true, ◌&&◌, ◌||◌, List, [], ◌∷◌, Option, None, Some, is_none, refl}
use Rattle.std.specs.List.{list_all}
use Rattle.std.proofs.lemmas.Bool.{and_parts, not-true, not_from_false, or_parts}
use Rattle.surf_text.specs.Lines.{is_blank}
use Rattle.surf_text.specs.Passing.{Each, lacks, inked}
use Rattle.surf_text.proofs.LawLemmas.{each-weaker}
use Rattle.manifest_read.specs.Names.{is_name, is_name_front, is_name_byte, cut_arrow}
use Rattle.manifest_write.proofs.Cutting.Tight.{inked-tight}
use Rattle.manifest_write.proofs.Contents.Fits.{is_plain, IsBare}

pub record IsNameText (name : List ℕ) : Type 0 where
  pub bare : IsBare name
  pub plain : is_plain name ≡ true
  pub inks : Each inked name
  pub no_plus : Each (lacks 43) name
  pub no_arrow : cut_arrow name ≡ None

byte-inked : (c : ℕ) → is_name_byte c ≡ true → inked c ≡ true
byte-inked c h = not_from_false (is_blank c) (or_parts (is_blank c) (c == 35 || c == 43) (not-true (is_blank c || (c == 35 || c == 43)) h)).0

byte-lacks : (c : ℕ) → is_name_byte c ≡ true → (lacks 35 c ≡ true) × (lacks 43 c ≡ true)
byte-lacks c h =
    let p = or_parts (c == 35) (c == 43) (or_parts (is_blank c) (c == 35 || c == 43) (not-true (is_blank c || (c == 35 || c == 43)) h)).1 in
    (not_from_false (c == 35) p.0, not_from_false (c == 43) p.1)

none-is : (o : Option (List ℕ × List ℕ)) → is_none o ≡ true → o ≡ None
none-is None h = refl
none-is (Some p) h = absurd cc

pub name-text : (name : List ℕ) → is_name name ≡ true → IsNameText name
name-text [] h = absurd cc
name-text (c ∷ cs) h =
    let a = and_parts (is_name_front (c ∷ cs)) (list_all is_name_byte (c ∷ cs) && is_none (cut_arrow (c ∷ cs))) h in
    let b = and_parts (list_all is_name_byte (c ∷ cs)) (is_none (cut_arrow (c ∷ cs))) a.1 in
    let inks = each-weaker is_name_byte inked byte-inked (c ∷ cs) b.0 in
    record {
      bare = record { tight = inked-tight c cs inks; no_comment = each-weaker is_name_byte (lacks 35) (λ x g. (byte-lacks x g).0) (c ∷ cs) b.0 };
      plain = not_from_false (c == 33) (or_parts (c == 33) (c == 40) (not-true (c == 33 || c == 40) a.0)).0;
      inks = inks;
      no_plus = each-weaker is_name_byte (lacks 43) (λ x g. (byte-lacks x g).1) (c ∷ cs) b.0;
      no_arrow = none-is (cut_arrow (c ∷ cs)) b.1;
    }
