-- The rules that go on if a rule's tests have their answers.
use Rattle.std.specs.Prelude.{◌≡◌, ℕ, List, Bool, true, false, Option, Some, None, length, slice_get}
use Rattle.term_core.specs.Tree.{Tree}
use Rattle.spec_core.specs.declared.records.Rule.{Rule}
use Rattle.spec_core.specs.Gives.{boolean}
use Rattle.rule_code.specs.Tests.{GoesOn}
use Rattle.rule_code.specs.declared.following.Branch.{Branch}

-- a rule with the same left side that goes on if the rule's test k has this answer, or there is none
abbrev pub IsFollowerOn : List Rule → Rule → ℕ → Tree → Option ℕ → Type 0
IsFollowerOn rules rule k answer (Some j) = (next : Rule) × (slice_get rules j ≡ Some next)
    × (next.left ≡ rule.left) × GoesOn k answer rule.guards next.guards
IsFollowerOn rules rule k answer None = (j : ℕ) (next : Rule) → slice_get rules j ≡ Some next
    → next.left ≡ rule.left → GoesOn k answer rule.guards next.guards → ⊥

abbrev pub IsFollower : List Rule → Rule → ℕ → Bool → Option ℕ → Type 0
IsFollower rules rule k answer found = IsFollowerOn rules rule k (boolean answer) found

-- for the test k: a rule that goes on with either answer, if there is one
pub record IsBranch (rules : List Rule) (rule : Rule) (k : ℕ) (branch : Branch) : Type 0 where
  pub if_true : IsFollower rules rule k true branch.if_true
  pub if_false : IsFollower rules rule k false branch.if_false

-- the same for each of the first n tests
pub record AreBranchesBelow (rules : List Rule) (rule : Rule) (n : ℕ) (branches : List Branch) :
    Type 0 where
  pub count : length branches ≡ n
  pub each : (k : ℕ) (branch : Branch) → slice_get branches k ≡ Some branch
      → IsBranch rules rule k branch

abbrev pub AreBranches : List Rule → Rule → List Branch → Type 0
AreBranches rules rule branches = AreBranchesBelow rules rule (length rule.guards) branches
