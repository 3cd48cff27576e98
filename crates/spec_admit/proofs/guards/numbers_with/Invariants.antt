use Rattle.std.proofs.Common.{◌≡◌, ◌++◌, suc, drop}
use Rattle.coverage_check.specs.GroupTree.{rules_with}
use Rattle.spec_admit.proofs.GroupNumbers.{numbers_from}
use Rattle.spec_admit.proofs.guards.numbers_with.Given as goal

abbrev pub invariant-loop-place : goal.invariant-loop-place
invariant-loop-place l = l.made.items ++ numbers_from l.left (suc l.place) (drop l.place l.rules) ≡ rules_with
    l.left l.rules
