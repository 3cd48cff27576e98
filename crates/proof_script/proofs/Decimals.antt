-- Bytes that are the text of a number of at most nine digits.
use Rattle.std.proofs.Common.{◌≡◌, ◌≢◌, ℕ, zero, suc, ◌<◌, ◌≤◌, ◌^◌, List, [], ◌∷◌, Result, Ok, Err, ap, sym, subst}
use Rattle.std.proofs.Common.{get_or, length, arith}
use Rattle.std.specs.Prelude.{MatchOption}
use Rattle.std.specs.Result.{result_ok}
use Rattle.std.specs.Fmt.{decimal}
use Rattle.std.specs.Str.{IsUtf8}
use Rattle.std.specs.Str.Parse.{AllDigits, IsNumeral, digits_value, ParsesUnsigned}
use Rattle.std.proofs.lemmas.Fmt.{decimal_is_IsNumeral, decimal_digit, decimal_nonempty, first_decimal}
use Rattle.std.proofs.lemmas.Fmt.{length-decimal-le, decimal-digits_value, IsAscii-decimal}
use Rattle.std.proofs.lemmas.Str.{IsUtf8-from_ascii}
use Rattle.std.proofs.lemmas.Str.Parse.{IsNumeralModel, numerals_by_value, tells_digits, digit_at, digits_value_short}
use Rattle.std.proofs.lemmas.Str.Parse.{parse_plain}
use Rattle.proof_script.specs.Standing.{IsShort}
use Rattle.proof_script.specs.Reading.{IsNumber}

own : IsNumeralModel (AllDigits 10) (digits_value 10)
own = numerals_by_value (AllDigits 10) tells_digits

-- digits that may appear, at least one and at most nine
pub record IsForm (bytes : List ℕ) : Type 0 where
  pub some : 0 < length bytes
  pub few : length bytes ≤ 9
  pub lone : get_or bytes 0 0 ≡ 48 → length bytes ≤ 1
  pub digits : AllDigits 10 bytes

wide : (n : ℕ) → IsShort n → n < 2 ^ 64
wide n h = omega arith

digits_of_numeral : (ds : List ℕ) → IsNumeral 10 ds → AllDigits 10 ds
digits_of_numeral [] h = tt
digits_of_numeral (c ∷ ds) h = h.1

lone_zero : (n : ℕ) → IsShort n → get_or (decimal n) 0 0 ≡ 48 → length (decimal n) ≤ 1
lone_zero zero h e = let one : length (decimal 0) ≡ 1 = ap (λ (xs : List ℕ). length xs)
    (decimal_digit 0 (omega arith)) in omega (arith, one)
lone_zero (suc n) h e = absurd (omega (arith, first_decimal (suc n) (omega arith) (wide (suc n) h), e))

pub number_form : (bytes : List ℕ) (n : ℕ) → IsNumber bytes n → IsForm bytes
number_form bytes n h = subst IsForm h.is (record {
  some = decimal_nonempty n (wide n h.short);
  few = length-decimal-le 9 n (omega arith) h.short (wide n h.short);
  lone = lone_zero n h.short;
  digits = digits_of_numeral (decimal n) (decimal_is_IsNumeral n (wide n h.short)).0;
})

pub form_number : (bytes : List ℕ) → IsForm bytes → IsNumber bytes (digits_value 10 bytes)
form_number bytes f =
    let small = digits_value_short own bytes 9 f.digits f.few in
    record {
      short = small;
      is = decimal-digits_value own bytes f.digits f.some
          (λ e. omega (arith, f.lone e, f.some)) (wide (digits_value 10 bytes) small);
    }

-- a number's text doesn't begin with a sign
pub no_sign : (bytes : List ℕ) (n : ℕ) → IsNumber bytes n → get_or bytes 0 0 ≢ 43
no_sign bytes n h = λ e. let f = number_form bytes n h in let r = digit_at bytes 0 f.digits f.some in
    omega (arith, r, e)

pub number_utf8 : (bytes : List ℕ) (n : ℕ) → IsNumber bytes n → IsUtf8 bytes
number_utf8 bytes n h = subst IsUtf8 h.is (IsUtf8-from_ascii (decimal n) (IsAscii-decimal n (wide n h.short)))

-- what the parse of such bytes gives
pub parsed_number : {E : Type 0} (bytes : List ℕ) (r : Result ℕ E) → length bytes ≤ 9 →
    (get_or bytes 0 0 ≢ 43) → (get_or bytes 0 0 ≡ 48 → length bytes ≤ 1) → ParsesUnsigned 32 10 bytes r →
    MatchOption (result_ok r) ((n : ℕ) → IsNumber bytes n → ⊥) (λ n. IsNumber bytes n)
parsed_number {E} bytes (Ok n) few sign lone h =
    let p = parse_plain own {E = E} 32 bytes (Ok n) h sign in
    subst (IsNumber bytes) (sym p.1)
    (form_number bytes (record { some = p.0.1; few = few; lone = lone; digits = p.0.0 }))
parsed_number {E} bytes (Err e) few sign lone h =
    let p = parse_plain own {E = E} 32 bytes (Err e) h sign in
    λ n is. let f = number_form bytes n is in
    p (f.digits, f.some, omega (arith, digits_value_short own bytes 9 f.digits f.few))
