-- How errors are reported.
use Rattle.std.specs.Prelude.{ℕ, List, Option, Some, codes}
use Rattle.unifier.specs.declared.shifting.ShiftError.{ShiftError}
use Rattle.unifier.specs.declared.shifting.ShiftError.TheVariants.{TooLarge, OutOfMemory}

abbrev pub shift_error_text : ShiftError → Option (List ℕ)
shift_error_text TooLarge = Some (codes "a variable's number is too large")
shift_error_text OutOfMemory = Some (codes "out of memory")
