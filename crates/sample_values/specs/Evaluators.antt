-- Values at the places of a bank, and a specification whose applications are compiled.
use Rattle.std.specs.Prelude.{◌≡◌, ℕ, List, Some, length, slice_get}
use Rattle.std.specs.List.{AllByRecursion}
use Rattle.term_core.specs.Tree.{Tree, app, trees_of}
use Rattle.term_core.specs.declared.ids.SortId.{SortId}
use Rattle.spec_core.specs.declared.records.SymInfo.{SymInfo}
use Rattle.spec_core.specs.declared.records.Spec.{Spec}
use Rattle.spec_core.specs.Sig.{info_of}
use Rattle.spec_core.specs.Sorts.{IsValue}
use Rattle.spec_core.specs.WellSorted.{IsWellSorted}
use Rattle.spec_core.specs.Truth.{AreValuesOf}
use Rattle.value_bank.specs.Cells.{Cell, IsTerm, AreTerms}
use Rattle.rule_code.specs.Programs.{Program, IsSide}
use Rattle.bank_machine.specs.declared.kept_calls.KeptCalls.{KeptCalls}
use Rattle.bank_machine.specs.KeptCalls.{AreRight}
use Rattle.clause_core.specs.Instances.{variables}

-- the symbol, applied to this many variables
abbrev pub applied : ℕ → ℕ → Tree
applied f count = app f (trees_of (variables 0 count))

-- at the place of a symbol begins the code of its application to as many variables as it has arguments
abbrev pub AreSides : Program → List ℕ → Type 0
AreSides p sides = (f side : ℕ) (i : SymInfo) → slice_get sides f ≡ Some side
    → info_of p.spec.sig f ≡ Some i → IsSide p side (length i.args) (applied f (length i.args))

-- a specification, and the cells of a bank
pub record Evaluated : Type 0 where
  pub spec : Spec
  pub cells : List Cell

abbrev pub evaluated : Spec → List Cell → Evaluated
evaluated spec cells = record { spec = spec; cells = cells }

pub record IsEvaluator (spec : Spec) (p : Program) (sides : List ℕ) (cells : List Cell)
    (kept : KeptCalls) : Type 0 where
  pub fine : IsWellSorted spec
  pub same : p.spec ≡ spec
  pub of_sides : AreSides p sides
  pub count : length sides ≡ length spec.sig.table
  pub of_kept : AreRight spec cells kept

-- at the place is a value of the sort
abbrev pub HasValue : Evaluated → ℕ → SortId → Type 0
HasValue e place sort = (t : Tree) × IsTerm e.cells place t × IsValue e.spec.sig sort t

-- at the places are values of these sorts
pub record HaveValues (e : Evaluated) (places : List ℕ) (sorts : List SortId) : Type 0 where
  pub values : List Tree
  pub are : AreValuesOf e.spec sorts values
  pub stand : AreTerms e.cells places (trees_of values)

-- at the places are values of the sorts of the symbol's arguments
pub record CanApply (e : Evaluated) (f : ℕ) (places : List ℕ) : Type 0 where
  pub info : SymInfo
  pub declared : info_of e.spec.sig f ≡ Some info
  pub args : HaveValues e places info.args

-- at the place is a value of the symbol's sort
abbrev pub IsGiven : Evaluated → ℕ → ℕ → Type 0
IsGiven e f place = (i : SymInfo) → info_of e.spec.sig f ≡ Some i → HasValue e place i.result

-- at each of the places is a term
abbrev pub HaveTerms : List Cell → List ℕ → Type 0
HaveTerms cells places = AllByRecursion (λ (p : ℕ). (t : Tree) × IsTerm cells p t) places
