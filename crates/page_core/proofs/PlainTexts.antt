-- Texts that are escaped as they are.
use Rattle.std.proofs.Common.{◌≡◌, ℕ, zero, suc, List, [], ◌∷◌, ◌/◌, ◌%◌, ◌<◌, true, false, cond, ◌==◌, refl, arith}
use Rattle.std.specs.Fmt.{decimal, digits, digits_onto, digit_glyph}
use Rattle.std.proofs.lemmas.Bool.{ne_eqb}
use Rattle.std.proofs.lemmas.Nat.{mod_below}
use Rattle.page_core.specs.Html.{is_special, escaped}
use Rattle.page_core.specs.Markup.{IsPlain}
use Rattle.page_core.specs.Pages.{shown}
use Rattle.page_core.specs.declared.parts.Format.{Format}
use Rattle.page_core.specs.declared.parts.Format.TheVariants.{Html, Text}

pub plain_escaped : (text : List ℕ) → IsPlain text → escaped text ≡ text
plain_escaped [] plain = refl
plain_escaped (c ∷ text) plain =
    simp (plain.0, plain_escaped text plain.1) refl

digit_plain : (n : ℕ) → is_special (digit_glyph false (n % 10)) ≡ false
digit_plain n = let small : n % 10 < 10 = mod_below n 10 (omega arith) in grind (arith, ne_eqb)

digits_plain : (k n : ℕ) (text : List ℕ) → IsPlain text → IsPlain (digits_onto k 10 false n text)
digits_plain zero n text plain = plain
digits_plain (suc k) n text plain =
    elim (n / 10 == 0) as (λ last. IsPlain (cond last (digit_glyph false (n % 10) ∷ text)
    (digits_onto k 10 false (n / 10) (digit_glyph false (n % 10) ∷ text)))) [
      | true ↦ (digit_plain n, plain)
      | false ↦ digits_plain k (n / 10) (digit_glyph false (n % 10) ∷ text) (digit_plain n, plain)
    ]

pub decimal_plain : (n : ℕ) → IsPlain (decimal n)
unfolding digits
decimal_plain n = digits_plain 64 n [] tt

-- each format shows the digits of a number as they are
pub shown_decimal : (format : Format) (n : ℕ) → shown format (decimal n) ≡ decimal n
shown_decimal Html n = plain_escaped (decimal n) (decimal_plain n)
shown_decimal Text n = refl
