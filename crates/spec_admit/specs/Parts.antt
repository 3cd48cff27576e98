-- What the search for a fault says of one rule, and of one function.
use Rattle.std.specs.Prelude.{◌≡◌, ℕ, suc, List, Some, length}
use Rattle.term_core.specs.Tree.{Tree}
use Rattle.spec_core.specs.declared.records.SymInfo.{SymInfo}
use Rattle.spec_core.specs.declared.records.Rule.{Rule}
use Rattle.spec_core.specs.declared.records.Spec.{Spec}
use Rattle.spec_core.specs.Sig.{info_of}
use Rattle.spec_core.specs.Findings.{First}
use Rattle.coverage_check.specs.LeftSides.{rows_of}
use Rattle.coverage_check.specs.Named.{IsNamed}
use Rattle.spec_admit.specs.Tests.{order_tests, FunctionIsCovered}

-- the first part of the rule that the left side isn't above, whatever rules come before it
abbrev pub IsUnorderedPart : (Tree → Tree → Type 0) → Rule → ℕ → Type 0
IsUnorderedPart above rule part =
    (before : List Rule) → First (order_tests above before rule) (suc (length before), part)

-- the function isn't covered, and the values are named for its rows
pub record AreNamedFor (spec : Spec) (f : ℕ) (values : List Tree) : Type 0 where
  pub uncovered : FunctionIsCovered spec f → ⊥
  pub info : SymInfo
  pub declared : info_of spec.sig f ≡ Some info
  pub named : IsNamed spec.sig (rows_of f spec.rules) info.args values
