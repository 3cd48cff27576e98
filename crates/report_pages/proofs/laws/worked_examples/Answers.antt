use Rattle.std.proofs.Common.{◌≡◌, ℕ, List, [], ◌∷◌, ◌++◌, Some, ap, arith, codes, refl, ◌∙◌}
use Rattle.std.specs.Fmt.{decimal}
use Rattle.std.proofs.lemmas.Fmt.{decimal_digit}
use Rattle.spec_core.specs.Naturals.{naturals_sig}
use Rattle.page_core.specs.Pages.{after, drawn}
use Rattle.proof_words.specs.ListEvents.{plain}
use Rattle.report_pages.specs.Examples.{one, shown, two}
use Rattle.report_pages.specs.Values.{value_events}
use Rattle.report_pages.proofs.laws.worked_examples.Goals as goal

digit_one : decimal 1 ≡ 49 ∷ []
digit_one = decimal_digit 1 (omega arith)

digit_three : decimal 3 ≡ 51 ∷ []
digit_three = decimal_digit 3 (omega arith)

digit_five : decimal 5 ≡ 53 ∷ []
digit_five = decimal_digit 5 (omega arith)

-- the line of two values, with the digits of both costs
with_costs : List ℕ → List ℕ → List ℕ
with_costs left right =
    shown (plain (codes "  left gives ") ∷ (value_events naturals_sig (Some (1 ∷ [])) one
    ++ plain (codes " (") ∷ plain left ∷ plain (codes " rule uses") ∷ plain (codes ")")
    ∷ plain (codes ", right gives ") ∷ (value_events naturals_sig (Some (1 ∷ [])) two
    ++ plain (codes " (") ∷ plain right ∷ plain (codes " rule use") ∷ plain (codes ")") ∷ [])))

-- the line of sides without a value that is shown
without_values : List ℕ → List ℕ → List ℕ
without_values left right =
    shown (plain (codes "  left gives ") ∷ plain (codes "a value of more than 10,000 symbols (")
    ∷ plain left ∷ plain (codes " rule uses") ∷ plain (codes ")") ∷ plain (codes ", right gives ")
    ∷ plain (codes "no value within ") ∷ plain right ∷ plain (codes " rule uses") ∷ [])

pub returns : goal.returns
unfolding after drawn with_costs without_values
returns c = record {
  at_root = refl;
  below = refl;
  second = refl;
  first = refl;
  same = refl;
  variable = refl;
  both = rw (digit_three, digit_one) refl;
  different = ap (λ d. with_costs d (decimal 1)) digit_three ∙ ap (λ d. with_costs (51 ∷ []) d) digit_one;
  no_values = ap (λ d. without_values d (decimal 5)) digit_three ∙ ap (λ d. without_values (51 ∷ []) d) digit_five;
}
