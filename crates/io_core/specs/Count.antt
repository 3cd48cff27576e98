-- Counts, which stay at the last value of 64 bits.
use Rattle.std.specs.Prelude.{◌≡◌, ℕ, ◌+◌, ◌<◌, ◌≤◌, ◌⊎◌, min}

-- the number is at most the last value
abbrev pub IsCount : ℕ → Type 0
IsCount n = n ≤ 18446744073709551615

-- the count rose, or is at the last value
abbrev pub Rose : ℕ → ℕ → Type 0
Rose old new = (old < new) ⊎ (new ≡ 18446744073709551615)

-- the count with one more, which the last value stays
abbrev pub next_count : ℕ → ℕ
next_count n = min (n + 1) 18446744073709551615
