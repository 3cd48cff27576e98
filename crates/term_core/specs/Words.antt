-- The words that an error prints.
use Rattle.std.specs.Prelude.{ℕ, List, codes}
use Rattle.term_core.specs.declared.places.ReplaceError.{ReplaceError}
use Rattle.term_core.specs.declared.places.ReplaceError.TheVariants as replace

-- the words for a subterm that isn't exchanged
abbrev pub replace_words : ReplaceError → List ℕ
replace_words replace.NoSuchPlace = codes "no such place"
replace_words replace.OutOfMemory = codes "out of memory"
