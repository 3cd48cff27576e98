-- The words of the faults.
use Rattle.std.specs.Prelude.{ℕ, List, ◌++◌, codes}
use Rattle.std.specs.Fmt.{decimal}
use Rattle.sort_check.specs.declared.faults.SortFault.{SortFault}
use Rattle.sort_check.specs.declared.faults.SortFault.TheVariants.{Sort}
use Rattle.sort_check.specs.declared.faults.SortFault.TheVariants as sort
use Rattle.sort_check.specs.declared.faults.SortKind.{SortKind}
use Rattle.sort_check.specs.declared.faults.SortKind.TheVariants as kind

-- the words of a kind
abbrev pub kind_text : SortKind → List ℕ
kind_text kind.UnknownName = codes "unknown name"
kind_text kind.RepeatedName = codes "repeated name"
kind_text kind.WrongNumberOfArguments = codes "wrong number of arguments"
kind_text kind.WrongSort = codes "wrong sort"
kind_text kind.SortNotInferred = codes "sort not inferred"
kind_text kind.NotOnTheLeft = codes "variable not on the left"
kind_text kind.DefinedInPattern = codes "defined symbol in a pattern"
kind_text kind.NoFunction = codes "left side is no function"
kind_text kind.GuardNotBool = codes "guard not Bool"
kind_text kind.NoSmallValue = codes "no small value"
kind_text kind.TooManyVariables = codes "too many variables"
kind_text kind.LeftTooLarge = codes "left side too large"
kind_text kind.TooManyRules = codes "too many rules"
kind_text kind.NotAFunction = codes "not a function"
kind_text kind.EqualTwice = codes "equal twice"
kind_text kind.StatusTwice = codes "status twice"
kind_text kind.NoOrderOfArguments = codes "no order of arguments"
kind_text kind.EqualOrStatusWithKbo = codes "equal or status with kbo"
kind_text kind.WrongWeight = codes "wrong weight"

-- the words of a fault: its place and its kind
abbrev pub fault_text : SortFault → List ℕ
fault_text (Sort at kind) = codes "sort at " ++ decimal at ++ codes ": " ++ kind_text kind
fault_text sort.OutOfMemory = codes "out of memory"
