use Rattle.std.proofs.Common.{rules, ◌≡◌, ◌++◌, ◌≤◌, subst, map, length}
use Rattle.std.specs.List.{AllZip}
use Rattle.spec_core.specs.Findings.{Clean}
use Rattle.sort_check.specs.GoalTests.{bound, binds_tests, in_turn, left_by, sides_tests, after_sides, sorts_tests}
use Rattle.sort_check.specs.GoalTests.{opposed_by, inferred, equations_of}
use Rattle.sort_check.specs.Over.{IsEquationOver, variables_of}
use Rattle.sort_check.proofs.GoalSorts.{all_found}
use Rattle.sort_check.proofs.GoalMade.{goal_made}
use Rattle.sort_check.proofs.goals.goal_of.Goals as goal

pub variables-requires-clause-found : goal.variables-requires-clause-found
variables-requires-clause-found c = all_found c.args.sig.now c.clause.new.entries.items
    (equations_of c.args.raw.now) (c.in_ok-clause.clause.premises ++ c.in_ok-clause.clause.conclusions)
    c.in_ok-clause.ensures.answer.1.1

pub returns : goal.returns
returns c =
    let sig = c.args.sig.now in
    let raw = c.args.raw.now in
    let ps = c.in_ok-clause.clause.premises in
    let cs = c.in_ok-clause.clause.conclusions in
    let es = c.in_ok-entries.entries.items in
    let eqs = equations_of raw in
    let binds : Clean (binds_tests sig raw.binds)
    × (es ≡ map (bound sig) raw.binds) = subst (λ bs. Clean (binds_tests sig bs)
    × (es ≡ map (bound sig) bs)) c.as_slice.ensures c.in_ok-entries.ensures.answer in
    let fs = c.clause.new.entries.items in
    let sides : Clean (in_turn (sides_tests sig) (after_sides sig) (map (bound sig) raw.binds) eqs)
    × (fs ≡ left_by (after_sides sig) (map (bound sig) raw.binds) eqs) = subst
    (λ us. Clean (in_turn (sides_tests sig) (after_sides sig) us eqs)
    × (fs ≡ left_by (after_sides sig) us eqs)) binds.1 (
      c.in_ok-clause.ensures.answer.0,
      c.in_ok-clause.ensures.answer.1.0,
    ) in
    let walked = left_by (after_sides sig) (map (bound sig) raw.binds) eqs in
    let over : AllZip (IsEquationOver sig walked) eqs (ps ++ cs) = subst
    (λ us. AllZip (IsEquationOver sig us) eqs (ps ++ cs)) sides.1 c.in_ok-clause.ensures.answer.1.1 in
    let few : length walked ≤ 16 = subst (λ us. length us ≤ 16) sides.1 (search rules) in
    let sorts : Clean (sorts_tests sig walked eqs)
    × (c.in_ok-vars.vars ≡ variables_of (opposed_by sig walked eqs)
    (inferred sig (opposed_by sig walked eqs) eqs)) = subst (λ us. Clean (sorts_tests sig us eqs)
    × (c.in_ok-vars.vars ≡ variables_of (opposed_by sig us eqs) (inferred sig (opposed_by sig us eqs) eqs)))
    sides.1 c.in_ok-vars.ensures in
    goal_made sig c.requires.declared raw ps cs binds.0 sides.0 over c.in_ok-clause.ensures.answer.1.2 sorts.0
    few c.in_ok-copy.field-0 c.in_ok-vars.vars (search rules) sorts.1
