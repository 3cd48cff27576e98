use Rattle.std.proofs.Common.{◌≡◌, ◌∙◌, ap}
use Rattle.coverage_check.specs.declared.answers.Tree.TheVariants.{Whole, Gap}
use Rattle.coverage_check.specs.GroupTree.{rules_with}
use Rattle.spec_admit.proofs.WholeGroups.{are_numbers, decided}
use Rattle.spec_admit.proofs.guards.is_whole.Goals as goal
use Rattle.spec_admit.proofs.guards.is_whole.Goals.{After-deref}

all : (c : After-deref) → c.deref.result.now ≡ rules_with c.args.left.now c.args.spec.now.rules
all c = c.deref.ensures.value ∙ c.in_ok-numbers.ensures ∙ ap (λ rs. rules_with c.args.left.now rs) c.as_slice.ensures

pub tree-requires : goal.tree-requires
tree-requires c = are_numbers c.args.spec.now c.tree_decides_groups.ensures c.args.left.now c.deref.result.now (all c)

pub returns-in-Whole : goal.returns-in-Whole
returns-in-Whole c =
    let b = (goal.at.returns-in-Whole c).After-deref in
    decided c.args.spec.now c.tree_decides_groups.ensures c.args.left.now c.deref.result.now (all b) Whole
    (rw c.in-Whole.is at c.in_ok-tree.ensures)

pub returns : goal.returns
returns c =
    let b = (goal.at.returns c).After-deref in
    decided c.args.spec.now c.tree_decides_groups.ensures c.args.left.now c.deref.result.now (all b) Gap
    (rw c.in-Gap.is at c.in_ok-tree.ensures)
