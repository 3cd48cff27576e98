-- What of a value at a sample goes into hashes.
use Rattle.std.specs.Prelude.{ℕ}
use Rattle.bank_core.specs.Hashing.{stirred_by}
use Rattle.term_classes.specs.declared.sampled.Sampled.{Sampled}
use Rattle.term_classes.specs.declared.sampled.Sampled.TheVariants.{Known, Unknown}

-- a hash with one more value
abbrev pub stirred_by_sampled : ℕ → Sampled → ℕ
stirred_by_sampled hash (Known value) = stirred_by hash value.0
stirred_by_sampled hash Unknown = stirred_by hash 4294967295
