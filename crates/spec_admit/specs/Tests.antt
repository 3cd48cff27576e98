-- What is tested at rules and functions in their order, each test with the numbers that it tells.
use Rattle.std.specs.Prelude.{◌≡◌, ℕ, suc, ◌-◌, List, [], Some, length}
use Rattle.std.specs.List.{range_with_len}
use Rattle.term_core.specs.Tree.{Tree, Trees}
use Rattle.spec_core.specs.declared.records.SymInfo.{SymInfo}
use Rattle.spec_core.specs.declared.records.Rule.{Rule}
use Rattle.spec_core.specs.declared.records.Spec.{Spec}
use Rattle.spec_core.specs.Sig.{Sig, info_of}
use Rattle.spec_core.specs.Sorts.{SortedAll, AreBuilt}
use Rattle.spec_core.specs.Groups.{Whole, group}
use Rattle.spec_core.specs.Covering.{IsMatched}
use Rattle.spec_core.specs.Findings.{Search, test, then, each, each_after}
use Rattle.clause_core.specs.Admitted.{GuardIsOrdered}

-- a rule, if these come before it: the right side, which is part 0, and then the guards, which
-- count from 1
abbrev pub order_tests : (Tree → Tree → Type 0) → List Rule → Rule → Search (ℕ × ℕ)
order_tests above before rule =
    then (test (suc (length before), 0) (¬ (above rule.left rule.right)))
    (each_after
    (λ guards g. test (suc (length before), suc (length guards))
    (¬ (GuardIsOrdered above rule.left g)))
    [] rule.guards)

-- the guards of the rules with this rule's left side
abbrev pub guards_test : Spec → List Rule → Rule → Search ℕ
guards_test spec before rule =
    test (suc (length before)) (¬ (Whole (group rule.left 0 spec.rules)))

-- all values of the argument sorts of this function match some left side of it
abbrev pub FunctionIsCovered : Spec → ℕ → Type 0
FunctionIsCovered spec f =
    (i : SymInfo) (vs : Trees) →
    info_of spec.sig f ≡ Some i → SortedAll spec.sig [] vs i.args → AreBuilt spec.sig vs →
    IsMatched spec f vs

-- the numbers of the functions, which come after the constructors
abbrev pub functions_of : Sig → List ℕ
functions_of sig = range_with_len sig.constructors (length sig.table - sig.constructors)

-- all rules in order, or all functions in order
abbrev pub all_order_tests : (Tree → Tree → Type 0) → Spec → Search (ℕ × ℕ)
all_order_tests above spec = each_after (order_tests above) [] spec.rules

abbrev pub all_guards_tests : Spec → Search ℕ
all_guards_tests spec = each_after (guards_test spec) [] spec.rules

abbrev pub all_coverage_tests : Spec → Search ℕ
all_coverage_tests spec = each (λ f. test f (¬ (FunctionIsCovered spec f))) (functions_of spec.sig)
