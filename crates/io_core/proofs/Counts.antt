-- A rise of a count within a longer stretch.
use Rattle.std.proofs.Common.{ℕ, ◌≤◌, inl, inr, arith}
use Rattle.io_core.specs.Count.{IsCount, Rose}

-- what rose in the end rose on the whole
pub Rose-after : (old mid new : ℕ) → old ≤ mid → Rose mid new → Rose old new
Rose-after old mid new before (inl above) = inl (omega arith)
Rose-after old mid new before (inr last) = inr last

-- what rose in the first part rose on the whole
pub Rose-before : (old mid new : ℕ) → Rose old mid → mid ≤ new → IsCount new → Rose old new
Rose-before old mid new (inl above) after bound = inl (omega arith)
Rose-before old mid new (inr last) after bound = inr (omega arith)
