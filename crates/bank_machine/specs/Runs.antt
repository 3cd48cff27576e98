-- What a run of the machine answers.
use Rattle.std.specs.Prelude.{◌≡◌, ℕ, ◌+◌, ◌≤◌, List, [], map, length}
use Rattle.std.specs.List.{AllByRecursion}
use Rattle.term_core.specs.Tree.{Tree, var, instance, trees_of}
use Rattle.term_core.specs.declared.ids.SortId.{SortId}
use Rattle.spec_core.specs.declared.records.Spec.{Spec}
use Rattle.spec_core.specs.Gives.{Gives}
use Rattle.spec_core.specs.Groups.{GroupsAreWhole}
use Rattle.spec_core.specs.Overlap.{NoOverlap}
use Rattle.spec_core.specs.Sorts.{Sorted, IsBuilt}
use Rattle.value_bank.specs.Cells.{Cell, IsTerm, AreTerms}
use Rattle.value_bank.specs.declared.bank.ValueId.{ValueId}
use Rattle.rule_code.specs.Code.{slot}
use Rattle.rule_code.specs.Programs.{Program, IsSide}
use Rattle.bank_machine.specs.declared.answers.BankEval.{BankEval}
use Rattle.bank_machine.specs.declared.answers.BankEval.TheVariants.{Value, Spent}
use Rattle.bank_machine.specs.States.{State, state, StateGives, Runs}

-- the values are at these places
abbrev pub StandAt : List Cell → List ValueId → List Tree → Type 0
StandAt cells ids values = AreTerms cells (map (λ (id : ValueId). id.0) ids) (trees_of values)

-- the side's term, whose variables stand for the values, has a sort
pub record CanRun (p : Program) (cells : List Cell) (side : ℕ) (ids : List ValueId) (term : Tree)
    (values : List Tree) (sort : SortId) : Type 0 where
  pub code : IsSide p side (length ids) term
  pub stand : StandAt cells ids values
  pub built : AllByRecursion (λ (v : Tree). IsBuilt p.spec.sig v) values
  pub sorted : Sorted p.spec.sig [] (instance values term) sort

-- the term gives the value at this place at this cost, which is within the budget; or, if left sides don't overlap and
-- groups are whole, it gives no value at a cost within the budget
abbrev pub IsBankEval : Spec → List Cell → Tree → ℕ → BankEval → Type 0
IsBankEval spec cells t budget (Value id steps) =
    (v : Tree) × IsTerm cells id.0 v × Gives spec t v steps × (steps ≤ budget)
IsBankEval spec cells t budget Spent =
    NoOverlap spec → GroupsAreWhole spec → (v : Tree) (n : ℕ) → Gives spec t v n → n ≤ budget → ⊥

-- from the state the machine runs to its end; or, if left sides don't overlap and groups are whole, to a state that
-- gives nothing for what is left of the budget
abbrev pub Ran : Spec → List Cell → State → ℕ → BankEval → Type 0
Ran spec cells s budget (Value id steps) = (env : List Tree) × (i : ℕ)
    × Runs spec s steps (state env [] (slot i) []) × IsTerm cells id.0 (instance env (var i))
    × (steps ≤ budget)
Ran spec cells s budget Spent = (now : State) × (c : ℕ) × (left : ℕ) × Runs spec s c now
    × (c + left ≡ budget) × (NoOverlap spec → GroupsAreWhole spec → (w : Tree) (n : ℕ)
    → StateGives spec now w n → n ≤ left → ⊥)
