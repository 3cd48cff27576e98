-- A decimal number is made of marks.
use Rattle.std.proofs.Common.{◌≤◌, ◌<◌, ◌^◌, ℕ, List, [], ◌∷◌, inr, arith}
use Rattle.std.specs.Prelude.{All}
use Rattle.std.specs.Char.{digit_value}
use Rattle.std.specs.Fmt.{decimal}
use Rattle.std.specs.List.{AllByRecursion}
use Rattle.std.specs.Str.Parse.{AllDigits}
use Rattle.std.proofs.lemmas.Bool.Decides.{nat_tests}
use Rattle.std.proofs.lemmas.Fmt.{decimal_is_IsNumeral}
use Rattle.std.proofs.lemmas.List.Elements.{All-from_recursion}
use Rattle.node_names.specs.Names.{IsMark}

low : (c : ℕ) → digit_value c < 10 → 48 ≤ c
low c h = grind (arith, nat_tests)

high : (c : ℕ) → digit_value c < 10 → c ≤ 57
high c h = grind (arith, nat_tests)

digits_marked : (ds : List ℕ) → AllDigits 10 ds → AllByRecursion IsMark ds
digits_marked [] h = tt
digits_marked (c ∷ cs) h = (inr (low c h.0, high c h.0), digits_marked cs h.1)

pub decimal_marked : (n : ℕ) → n < 2 ^ 64 → All IsMark (decimal n)
decimal_marked n h =
    All-from_recursion IsMark (decimal n)
    (digits_marked (decimal n) (decimal_is_IsNumeral n h).0.1)
