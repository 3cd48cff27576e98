use Rattle.std.proofs.Common.{sym, subst}
use Rattle.spec_core.specs.declared.records.Spec.{Spec}
use Rattle.spec_core.specs.WellSorted.{IsWellSorted}
use Rattle.clause_core.specs.declared.clauses.Clause.{Clause}
use Rattle.clause_core.specs.Limits.{IsWithin}
use Rattle.clause_core.specs.Tidied.{goal_clause}
use Rattle.descent.specs.SortedChildren.{IsNode}
use Rattle.block_steps.proofs.GoalNodes.{goal_node}
use Rattle.freer_search.proofs.finding.found_steps.Goals as goal

pub found_within-requires-clause-fine : goal.found_within-requires-clause-fine
found_within-requires-clause-fine g c =
    subst IsWellSorted (sym c.in_ok-setting.ensures) c.admitted.invariant.0

pub found_within-requires-clause-node : goal.found_within-requires-clause-node
found_within-requires-clause-node g c =
    let listed = rw (← c.admitted.view_is) at c.requires.1 in
    let within : IsWithin (goal_clause c.args.goal.now) =
    subst IsWithin c.in_ok-clause.ensures (c.within.ensures.0 c.if-not-within.false) in
    let is = sym c.in_ok-setting.ensures in
    let clause = sym c.in_ok-clause.ensures in
    subst (λ (p : Spec × Clause). IsNode p.0.sig p.1) (λ i. (is i, clause i))
    (goal_node c.admitted.inside.spec c.admitted.invariant.0 c.tidying_laws.ensures c.requires.0
    c.args.goal.now listed within)
