-- The decimal digits of a number: those of its tenth, if it has more than one, and the last.
use Rattle.std.proofs.Common.{◌≡◌, ℕ, ◌+◌, ◌<◌, ◌≤◌, ◌/◌, ◌%◌, ◌^◌, List, [], ◌∷◌, ◌++◌, ap, sym, ◌∙◌, arith, map}
use Rattle.std.specs.Fmt.{decimal}
use Rattle.std.specs.Int.Digits.{digits_of}
use Rattle.std.proofs.lemmas.Fmt.{decimal_digit, decimal-digits_of}
use Rattle.std.proofs.lemmas.Int.Digits.{digits_of_step}
use Rattle.std.proofs.lemmas.List.{map-append}

-- a number of one digit
pub decimal_ones : (n : ℕ) → n < 10 → decimal n ≡ (48 + n % 10) ∷ []
decimal_ones n small =
    let same : n % 10 ≡ n = omega (arith, small) in
    decimal_digit n small ∙ ap (λ (d : ℕ). (48 + d) ∷ []) (sym same)

-- a number of several
pub decimal_step : (n : ℕ) → 10 ≤ n → n < 2 ^ 64
    → decimal n ≡ decimal (n / 10) ++ ((48 + n % 10) ∷ [])
decimal_step n tens wide =
    let shown : List ℕ → List ℕ = map (λ (d : ℕ). 48 + d) in
    let front : decimal (n / 10) ≡ shown (digits_of 10 (n / 10)) =
    decimal-digits_of (n / 10) (omega (arith, tens)) (omega (arith, wide)) in
    decimal-digits_of n (omega (arith, tens)) wide
    ∙ ap shown (digits_of_step 10 n (omega arith) (omega (arith, tens)))
    ∙ map-append (λ (d : ℕ). 48 + d) (digits_of 10 (n / 10)) (n % 10 ∷ [])
    ∙ ap (λ (ds : List ℕ). ds ++ ((48 + n % 10) ∷ [])) (sym front)
