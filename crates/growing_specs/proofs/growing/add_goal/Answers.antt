use Rattle.std.proofs.Common.{List, [], ◌∷◌, ◌++◌, sym, subst}
use Rattle.spec_core.specs.WellSorted.{IsWellSorted}
use Rattle.spec_core.specs.declared.records.Goal.{Goal}
use Rattle.clause_core.specs.Admitted.{IsAdmitted}
use Rattle.growing_specs.specs.Growing.{with_goals}
use Rattle.growing_specs.proofs.Kept.{still_admitted, more_sorted}
use Rattle.growing_specs.proofs.growing.add_goal.Goals as goal

pub invariant_of-admitted : goal.invariant_of-admitted
invariant_of-admitted g c =
    let above = g.O.TermOrder.above c.admitted.inside.order in
    let spec = c.admitted.inside.spec in
    subst (λ (gs : List Goal). IsWellSorted (with_goals spec gs) × IsAdmitted above (with_goals spec gs))
    (sym c.in_err-push.ensures.kept) c.admitted.invariant

pub invariant_of-admitted-2 : goal.invariant_of-admitted-2
invariant_of-admitted-2 g c =
    let above = g.O.TermOrder.above c.admitted.inside.order in
    let spec = c.admitted.inside.spec in
    subst (λ (gs : List Goal). IsWellSorted (with_goals spec gs) × IsAdmitted above (with_goals spec gs))
    (sym c.in_ok-push.ensures.pushed) (
      more_sorted spec c.args.goal c.admitted.invariant.0
          (c.in_ok-may_be_added.ensures.0 c.if-not-branch.false),
      still_admitted above spec (spec.goals ++ c.args.goal ∷ []) c.admitted.invariant.1,
    )
