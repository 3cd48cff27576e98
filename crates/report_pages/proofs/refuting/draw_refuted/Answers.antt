use Rattle.std.proofs.Common.{sym, subst}
use Rattle.std.specs.List.{AllByRecursion}
use Rattle.spec_core.specs.WellSorted.{sorts_of}
use Rattle.acceptance.specs.Accepting.{values_in}
use Rattle.ground_eval.specs.Sides.{HasOneSort}
use Rattle.ground_eval.proofs.GoalSides.{have_one_sort}
use Rattle.report_pages.proofs.refuting.draw_refuted.Goals as goal

-- the sides of an equation of the goal have sorts under the values
pub draw_equations-requires-clause-sorted : goal.draw_equations-requires-clause-sorted
draw_equations-requires-clause-sorted c =
    let spec = c.args.spec.now in
    let vars = c.args.goal.now.vars in
    let sorted = c.requires.fine.goals c.requires.listed.0 c.args.goal.now c.requires.listed.1 in
    subst (λ es. AllByRecursion (HasOneSort spec (values_in c.args.values.now)) es) (sym c.as_slice.ensures)
    (have_one_sort spec (sorts_of vars) (values_in c.args.values.now) c.args.goal.now.premises c.requires.values.sorts
    sorted.premises)

pub draw_equations-requires-2-clause-sorted : goal.draw_equations-requires-2-clause-sorted
draw_equations-requires-2-clause-sorted c =
    let spec = c.args.spec.now in
    let vars = c.args.goal.now.vars in
    let sorted = c.requires.fine.goals c.requires.listed.0 c.args.goal.now c.requires.listed.1 in
    subst (λ es. AllByRecursion (HasOneSort spec (values_in c.args.values.now)) es) (sym c.as_slice-2.ensures)
    (have_one_sort spec (sorts_of vars) (values_in c.args.values.now) c.args.goal.now.conclusions
    c.requires.values.sorts sorted.conclusions)
