-- What an evaluation within a budget answers.
use Rattle.std.specs.Prelude.{◌≡◌, ℕ, ◌<◌, ◌≤◌, List}
use Rattle.term_core.specs.Tree.{Tree, tree_size}
use Rattle.term_core.specs.declared.ids.SortId.{SortId}
use Rattle.spec_core.specs.declared.records.Spec.{Spec}
use Rattle.spec_core.specs.Overlap.{NoOverlap}
use Rattle.spec_core.specs.Groups.{GroupsAreWhole}
use Rattle.spec_core.specs.Gives.{Gives}
use Rattle.spec_core.specs.Sorts.{Sorted}
use Rattle.spec_core.specs.Truth.{AreValuesOf}
use Rattle.value_bank.specs.Cells.{Cell, IsTerm}
use Rattle.value_bank.specs.declared.bank.ValueId.{ValueId}
use Rattle.bank_machine.specs.declared.answers.BankEval.{BankEval}
use Rattle.bank_machine.specs.declared.answers.BankEval.TheVariants as found
use Rattle.bank_machine.specs.Runs.{StandAt}
use Rattle.ground_eval.specs.declared.answers.Eval.{Eval}
use Rattle.ground_eval.specs.declared.answers.Eval.TheVariants.{Value, Large, Spent}

-- the term gives the value, of at most 10,000 symbols, at this cost, which is within the budget; it gives one of more
-- symbols; or, if left sides don't overlap and groups are whole, it gives no value at a cost within the budget
abbrev pub IsEval : Spec → Tree → ℕ → Eval → Type 0
IsEval spec t budget (Value v n) = Gives spec t v n × (n ≤ budget) × (tree_size v ≤ 10000)
IsEval spec t budget (Large n) =
    (v : Tree) × Gives spec t v n × (n ≤ budget) × (10000 < tree_size v)
IsEval spec t budget Spent =
    NoOverlap spec → GroupsAreWhole spec
    → (v : Tree) (n : ℕ) → Gives spec t v n → n ≤ budget → ⊥

-- if left sides don't overlap and groups are whole, the value and its cost are the only ones
abbrev pub IsOnly : Spec → Tree → Eval → Type 0
IsOnly spec t (Value v n) =
    NoOverlap spec → GroupsAreWhole spec
    → (w : Tree) (m : ℕ) → Gives spec t w m → (w ≡ v) × (m ≡ n)
IsOnly spec t (Large n) =
    NoOverlap spec → GroupsAreWhole spec
    → (w : Tree) (m : ℕ) → Gives spec t w m → (10000 < tree_size w) × (m ≡ n)
IsOnly spec t Spent = Unit {0}

-- the term is sorted, and at these places of a bank are values of the sorts of its variables, one for each
pub record CanEvaluate (spec : Spec) (cells : List Cell) (t : Tree) (ids : List ValueId)
    (values : List Tree) : Type 0 where
  pub sorts : List SortId
  pub sort : SortId
  pub sorted : Sorted spec.sig sorts t sort
  pub stand : StandAt cells ids values
  pub are : AreValuesOf spec sorts values

-- if left sides don't overlap and groups are whole, whatever value the term gives is at this place, and costs this
abbrev pub IsOnlyAt : Spec → List Cell → Tree → BankEval → Type 0
IsOnlyAt spec cells t (found.Value id n) =
    NoOverlap spec → GroupsAreWhole spec
    → (v : Tree) (m : ℕ) → Gives spec t v m → IsTerm cells id.0 v × (m ≡ n)
IsOnlyAt spec cells t found.Spent = Unit {0}
