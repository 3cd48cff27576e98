use Rattle.std.proofs.Common.{sym, subst}
use Rattle.std.specs.Prelude.{IfOk}
use Rattle.std.specs.List.{AllByRecursion}
use Rattle.clause_core.specs.declared.clauses.Clause.{Clause}
use Rattle.descent.specs.SortedChildren.{IsNode}
use Rattle.proof_search.specs.Starting.{start_of}
use Rattle.proof_search.specs.Stuck.{IsStuckFrom}
use Rattle.proof_search.proofs.StartProofs.{goal_node}
use Rattle.proof_search.proofs.passing.walk_from.Goals as goal

pub walk-requires-clause-node : goal.walk-requires-clause-node
walk-requires-clause-node g c =
    subst (IsNode c.args.setting.now.spec.now.sig) (sym c.in_ok-clause.ensures)
    (goal_node c.tidying_laws.ensures c.args.setting.now.spec.now c.requires.setting.fine
    c.args.goal.now c.requires.sorted c.requires.within)

pub returns : goal.returns
returns g c =
    subst
    (λ (x : Clause). IfOk c.walk.result (λ made.
    AllByRecursion (IsStuckFrom (g.O.TermOrder.above c.args.order.now) c.args.setting.now.spec.now
    c.args.setting.now.lemmas.now (start_of c.args.start) x) made.stuck.items))
    c.in_ok-clause.ensures c.walk.ensures
