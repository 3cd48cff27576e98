use Rattle.std.proofs.Common.{◌+◌, arith, subst, length}
use Rattle.term_core.proofs.Items.{if_ok_map}
use Rattle.value_bank.proofs.Terms.{term_kept}
use Rattle.value_bank.proofs.Placed.{adds_both}
use Rattle.ground_eval.specs.Constants.{ValuesAre}
use Rattle.ground_eval.specs.OpenSides.{with_constants, shifted_here}
use Rattle.ground_eval.proofs.Marking.{marks_kept}
use Rattle.ground_eval.proofs.OpenTerms.{left_spent, right_spent, sides_open}
use Rattle.ground_eval.proofs.SharedSides.{left_found, left_runs, right_found, right_runs}
use Rattle.ground_eval.proofs.open_sides.compare_open_sides.Goals as goal

pub run-requires-clause-sorted : goal.run-requires-clause-sorted
run-requires-clause-sorted c =
    let q = c.requires.ready in
    let can = q.3.compared in
    ((shifted_here q.0 q.1).left, with_constants q.0, can.sorted.0, left_runs can)

pub run-requires-in-Value-clause-sorted : goal.run-requires-in-Value-clause-sorted
run-requires-in-Value-clause-sorted c =
    let q = c.requires.ready in
    let can = q.3.compared in (
      (shifted_here q.0 q.1).right,
      with_constants q.0,
      can.sorted.0,
      right_runs can c.run.new.bank c.in_ok-run.ensures.adds,
    )

pub returns-in-Spent-clause-sides : goal.returns-in-Spent-clause-sides
returns-in-Spent-clause-sides c s e set can =
    let l = left_found can.compared _ _ c.in-Spent.is c.in_ok-run.ensures.found in
    left_spent s c.args.trial.now.machine.now.spec set.fine set.extends c.args.trial.now.budget e
    can.compared.sorted can.left can.right l

pub returns-in-Spent-2-clause-sides : goal.returns-in-Spent-2-clause-sides
returns-in-Spent-2-clause-sides c s e set can =
    let r = right_found can.compared _ _ c.in-Spent-2.is c.in_ok-run.ensures.adds c.in_ok-run-in-Value.ensures.found in
    right_spent s c.args.trial.now.machine.now.spec set.fine set.extends c.args.trial.now.budget e
    can.compared.sorted can.left can.right r

pub returns-in-Spent-clause-marks : goal.returns-in-Spent-clause-marks
returns-in-Spent-clause-marks c = marks_kept _ _ _ _ _ c.in_ok-run.ensures.adds c.requires.marks

pub returns-in-Spent-2-clause-marks : goal.returns-in-Spent-2-clause-marks
returns-in-Spent-2-clause-marks c = marks_kept _ _ _ _ _
    (adds_both _ _ _ c.in_ok-run.ensures.adds c.in_ok-run-in-Value.ensures.adds) c.requires.marks

pub compare_values-requires-clause-marks : goal.compare_values-requires-clause-marks
compare_values-requires-clause-marks c = marks_kept _ _ _ _ _
    (adds_both _ _ _ c.in_ok-run.ensures.adds c.in_ok-run-in-Value.ensures.adds) c.requires.marks

pub compare_values-requires-clause-there : goal.compare_values-requires-clause-there
compare_values-requires-clause-there c =
    let can = c.requires.ready.3.compared in
    let l = left_found can _ _ c.in-Value.is c.in_ok-run.ensures.found in
    let r = right_found can _ _ c.in-Value-2.is c.in_ok-run.ensures.adds c.in_ok-run-in-Value.ensures.found in
    (l.0, r.0, term_kept _ _ _ _ c.in_ok-run-in-Value.ensures.adds l.1, r.1)

pub returns-in-Value-2-clause-sides : goal.returns-in-Value-2-clause-sides
returns-in-Value-2-clause-sides c =
    if_ok_map c.compare_values.result _ _
    (λ answer h s e set can.
    let l = left_found can.compared _ _ c.in-Value.is c.in_ok-run.ensures.found in
    let r = right_found can.compared _ _ c.in-Value-2.is c.in_ok-run.ensures.adds c.in_ok-run-in-Value.ensures.found in
    let there = term_kept _ _ _ _ c.in_ok-run-in-Value.ensures.adds l.1 in
    let are = subst (λ from. ValuesAre from (s.spec.sig.constructors + length s.sorts) l.0 r.0 answer) set.first
    (subst (λ to. ValuesAre c.args.constants.from to l.0 r.0 answer) set.past (h l.0 r.0 there r.1)) in
    sides_open s c.args.trial.now.machine.now.spec set.fine set.extends c.args.trial.now.budget e
    can.compared.sorted can.left can.right l.0 r.0
    (c.in-Value.steps, l.2, l.3) (c.in-Value-2.steps, r.2, r.3) answer are)
    c.compare_values.ensures.are

pub returns-in-Value-2-clause-few : goal.returns-in-Value-2-clause-few
returns-in-Value-2-clause-few c = if_ok_map c.compare_values.result _ _
    (λ answer h. omega (arith, c.in_ok-run.ensures.few, c.in_ok-run-in-Value.ensures.few)) c.compare_values.ensures.are

pub returns-in_err-run-clause-marks : goal.returns-in_err-run-clause-marks
returns-in_err-run-clause-marks c = marks_kept _ _ _ _ _ c.run.ensures.adds c.requires.marks

pub returns-in_err-run-in-Value-clause-marks : goal.returns-in_err-run-in-Value-clause-marks
returns-in_err-run-in-Value-clause-marks c = marks_kept _ _ _ _ _
    (adds_both _ _ _ c.run.ensures.adds c.run-in-Value.ensures.adds) c.requires.marks
