-- Numbers that are compared.
use Rattle.std.proofs.Common.{◌≡◌, ℕ, ◌<◌, ◌≤◌, true, false, ◌⊎◌, arith}
use Rattle.std.specs.Prelude.{nat_le, nat_lt}
use Rattle.std.proofs.lemmas.Bool.Decides.{nat_tests}

pub split_le : (n m : ℕ) → (n ≤ m) ⊎ (m < n)
split_le n m = grind (arith, nat_tests)

pub le_true : (n m : ℕ) → n ≤ m → nat_le n m ≡ true
le_true n m h = grind (arith, nat_tests)

pub le_false : (n m : ℕ) → m < n → nat_le n m ≡ false
le_false n m h = grind (arith, nat_tests)

pub true_le : (n m : ℕ) → nat_le n m ≡ true → n ≤ m
true_le n m h = grind (arith, nat_tests)

pub lt_true : (n m : ℕ) → n < m → nat_lt n m ≡ true
lt_true n m h = grind (arith, nat_tests)

pub lt_false : (n m : ℕ) → m ≤ n → nat_lt n m ≡ false
lt_false n m h = grind (arith, nat_tests)
