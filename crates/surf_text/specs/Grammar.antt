-- What a decimal is, and what it is worth.
use Rattle.std.specs.Prelude.{◌≡◌, ◌≤◌, ◌⊎◌, ℕ, ℤ, pos, neg_ℤ, ◌-ℤ◌, List, [], ◌∷◌, ◌++◌, length, IsTrue}
use Rattle.std.specs.Str.Parse.{digits_value}
use Rattle.surf_text.specs.Numbers.{all_digits}
use Rattle.surf_text.specs.declared.numbers.Dec.{Dec}

-- from `least` to `most` digits, leading zeros counted
pub record AreDigits (text : List ℕ) (least most : ℕ) : Type 0 where
  pub digits : IsTrue (all_digits text)
  pub at_least : least ≤ length text
  pub at_most : length text ≤ most

-- what stands before an exponent: 1 to 18 digits, with one point (46) before, among or after them, or with none
pub record IsFront (text whole fraction : List ℕ) : Type 0 where
  pub text_is : (text ≡ whole ++ 46 ∷ fraction) ⊎ ((text ≡ whole) × (fraction ≡ []))
  pub digits : AreDigits (whole ++ fraction) 1 18

-- the sign of an exponent, which may be missing
pub data Sign : Type 0 where
  Missing : Sign
  Plus : Sign
  Minus : Sign

abbrev pub sign_text : Sign → List ℕ
sign_text Missing = []
sign_text Plus = 43 ∷ []
sign_text Minus = 45 ∷ []

abbrev pub signed : Sign → ℕ → ℤ
signed Minus n = neg_ℤ (pos n)
signed sign n = pos n

-- an exponent: e (101) or E (69), a sign, and one or two digits, of which the value is at most 9
pub record IsExponent (text : List ℕ) (exponent : ℤ) : Type 0 where
  pub mark : ℕ
  pub sign : Sign
  pub size : List ℕ
  pub mark_is : (mark ≡ 101) ⊎ (mark ≡ 69)
  pub text_is : text ≡ mark ∷ (sign_text sign ++ size)
  pub digits : AreDigits size 1 2
  pub at_most : digits_value 10 size ≤ 9
  pub value : exponent ≡ signed sign (digits_value 10 size)

-- nothing, which is worth 0, or an exponent
abbrev pub IsBack : List ℕ → ℤ → Type 0
IsBack text exponent = ((text ≡ []) × (exponent ≡ pos 0)) ⊎ IsExponent text exponent

-- The text is a decimal of the value `digits * 10 ^ exp`. Each digit behind the point lowers the power by one.
pub record IsDecimal (text : List ℕ) (d : Dec) : Type 0 where
  pub front : List ℕ
  pub whole : List ℕ
  pub fraction : List ℕ
  pub back : List ℕ
  pub exponent : ℤ
  pub text_is : text ≡ front ++ back
  pub front_is : IsFront front whole fraction
  pub back_is : IsBack back exponent
  pub digits : d.digits ≡ digits_value 10 (whole ++ fraction)
  pub power : d.exp ≡ exponent -ℤ pos (length fraction)
