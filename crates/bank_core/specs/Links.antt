-- Entries by their hashes: chains through the entries of one bucket, the last first.
use Rattle.std.specs.Prelude.{◌≡◌, ℕ, suc, ◌-◌, ◌<◌, ◌≤◌, List, length, slice_index}
use Rattle.std.specs.Int.Bits.{bit_and}

-- the entry with this number has this hash
abbrev pub HasHash : List ℕ → ℕ → ℕ → Type 0
HasHash hashes hash k = slice_index hashes k ≡ hash

-- the bucket of a hash, if there are this many
unfoldable pub place_of : ℕ → ℕ → ℕ
place_of count hash = bit_and hash (count - 1)

-- the entry with this number is in this bucket
abbrev pub IsIn : ℕ → List ℕ → ℕ → ℕ → Type 0
IsIn count hashes place k = place_of count (slice_index hashes k) ≡ place

-- r is the number after that of the last of the numbers below n that have the property, or 0 if none has it
pub record IsLast (P : ℕ → Type 0) (n r : ℕ) : Type 0 where
  pub within : r ≤ n
  pub none : (k : ℕ) → r ≤ k → k < n → P k → ⊥
  pub has : (k : ℕ) → r ≡ suc k → P k

-- each bucket leads to its last entry, and each entry to the last one before it in its bucket
pub record AreLinked (first hashes before : List ℕ) : Type 0 where
  pub some : 0 < length first
  pub firsts : (b : ℕ) → b < length first
      → IsLast (IsIn (length first) hashes b) (length hashes) (slice_index first b)
  pub befores : (k : ℕ) → k < length hashes
      → IsLast (IsIn (length first) hashes (place_of (length first) (slice_index hashes k))) k
      (slice_index before k)
