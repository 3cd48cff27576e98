-- The words that the errors print.
use Rattle.std.specs.Prelude.{ℕ, List, codes}
use Rattle.io_core.specs.declared.faults.ReadError.{ReadError}
use Rattle.io_core.specs.declared.faults.ReadError.TheVariants as read
use Rattle.io_core.specs.declared.faults.WriteError.{WriteError}
use Rattle.io_core.specs.declared.faults.WriteError.TheVariants as write

-- the words for a read that gave no bytes
abbrev pub read_words : ReadError → List ℕ
read_words read.TooLong = codes "the file is too long"
read_words read.Failed = codes "the file can't be read"
read_words read.OutOfMemory = codes "out of memory"

-- the words for a write that took no bytes
abbrev pub write_words : WriteError → List ℕ
write_words write.Failed = codes "the bytes can't be written"
write_words write.OutOfMemory = codes "out of memory"
