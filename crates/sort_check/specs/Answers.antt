-- What a call that looks for the first fault answers.
use Rattle.std.specs.Prelude.{◌≡◌, ◌⊎◌, Result, Ok, Err}
use Rattle.spec_core.specs.Findings.{Search, Clean, First}
use Rattle.sort_check.specs.declared.faults.SortFault.{SortFault}
use Rattle.sort_check.specs.declared.faults.SortFault.TheVariants.{Sort, OutOfMemory}

-- the fault is the first one that the search finds; want of memory may always come
abbrev pub Tells : Search SortFault → SortFault → Type 0
Tells s (Sort at kind) = First s (Sort at kind)
Tells s OutOfMemory = Unit {0}

-- nothing is found and this holds of what is made, or the first fault is reported
abbrev pub Answers : {T : Type 0} → Search SortFault → (T → Type 0) → Result T SortFault → Type 0
Answers s P (Ok x) = Clean s × P x
Answers s P (Err e) = Tells s e

-- the result is the one that is wanted, unless memory ran out
abbrev pub IsUnlessNoMemory : {T : Type 0} → Result T SortFault → Result T SortFault → Type 0
IsUnlessNoMemory r wanted = (r ≡ wanted) ⊎ (r ≡ Err OutOfMemory)
