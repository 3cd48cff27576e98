-- Numbers that are the same or not, and below others or not.
use Rattle.std.proofs.Common.{◌≡◌, ◌≢◌, ◌⊎◌, ◌<◌, ◌≤◌, ◌+◌, ℕ, arith}
use Rattle.std.proofs.lemmas.Bool.Decides.{nat_tests}

pub same_or_not : (m n : ℕ) → (m ≡ n) ⊎ (m ≢ n)
same_or_not m n = grind (arith, nat_tests)

pub below_or_not : (m n : ℕ) → (m < n) ⊎ (n ≤ m)
below_or_not m n = grind (arith, nat_tests)

-- below the next number is below this one, or this one
pub below_or_last : (m n : ℕ) → m < n + 1 → (m < n) ⊎ (m ≡ n)
below_or_last m n h = grind (arith, nat_tests)
