-- Sequences of numbers.
use Rattle.std.specs.Prelude.{ℕ, zero, suc, ◌+◌, ◌-◌, ◌*◌, nat_le, if◌then◌else◌}

-- the sum of the first numbers of a sequence
unfoldable pub sum_below : ℕ → (ℕ → ℕ) → ℕ
sum_below zero f = 0
sum_below (suc k) f = sum_below k f + f k

-- the convolution of two sequences: the sum of the products of numbers whose places add up to this one
unfoldable pub convolution : (ℕ → ℕ) → (ℕ → ℕ) → ℕ → ℕ
convolution f g n = sum_below (n + 1) (λ i. f i * g (n - i))

-- the sequence, begun this many places later
unfoldable pub shifted : ℕ → (ℕ → ℕ) → ℕ → ℕ
shifted k f n = if nat_le k n then f (n - k) else 0
