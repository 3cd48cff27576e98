use Rattle.rule_code.specs.Branches.{AreBranchesBelow}
use Rattle.rule_code.proofs.following.find_branches.Given as goal

abbrev pub invariant-loop-asked : goal.invariant-loop-asked
invariant-loop-asked l = AreBranchesBelow l.rules l.rule l.asked l.branches.items
