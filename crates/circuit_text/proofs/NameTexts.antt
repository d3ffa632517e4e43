-- The bytes of a name are ASCII.
use Rattle.std.proofs.Common.{◌≡◌, ℕ, ◌<◌, Bool, true, false, not, ◌&&◌, ◌==◌, List, [], ◌∷◌, length, refl, arith}
use Rattle.std.proofs.lemmas.Bool.{and_parts}
use Rattle.std.specs.List.{list_all, All}
use Rattle.std.specs.Str.{IsUtf8}
use Rattle.std.proofs.lemmas.Bool.Decides.{nat_tests}
use Rattle.std.proofs.lemmas.Str.{IsUtf8-from_ascii}
use Rattle.std.proofs.lemmas.Str.Ascii.{IsAscii-from_all}
use Rattle.std.proofs.lemmas.List.Elements.{All-nil, All-cons}
use Rattle.circuit_text.specs.Names.{is_name_byte, is_name}

small : (c : ℕ) → is_name_byte c ≡ true → c < 128
small c h = grind (arith, nat_tests)

all_small : (cs : List ℕ) → list_all is_name_byte cs ≡ true → All (λ c. c < 128) cs
all_small [] h = All-nil (λ c. c < 128)
all_small (c ∷ cs) h =
    let p = and_parts (is_name_byte c) (list_all is_name_byte cs) h in
    All-cons (λ c. c < 128) c cs (small c p.0) (all_small cs p.1)

pub name-IsUtf8 : (word : List ℕ) → is_name word ≡ true → IsUtf8 word
name-IsUtf8 word h =
    let p = and_parts (not (length word == 0)) (list_all is_name_byte word) h in
    IsUtf8-from_ascii word (IsAscii-from_all word (all_small word p.1))
