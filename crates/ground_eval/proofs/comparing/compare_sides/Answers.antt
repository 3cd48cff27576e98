use Rattle.ground_eval.proofs.SharedSides.{left_found, right_found, right_runs, right_spent, values_same, values_differ}
use Rattle.ground_eval.proofs.comparing.compare_sides.Goals as goal

pub run-requires-in-Value-clause-sorted : goal.run-requires-in-Value-clause-sorted
run-requires-in-Value-clause-sorted c =
    let q = c.requires.ready in
    (q.0.right, q.1, q.2.sorted.0, right_runs q.2 c.run.new.bank c.in_ok-run.ensures.adds)

pub returns-in-Spent-2-clause-sides : goal.returns-in-Spent-2-clause-sides
returns-in-Spent-2-clause-sides c e terms can =
    let l = left_found can _ _ c.in-Value.is c.in_ok-run.ensures.found in
    let r = right_found can _ _ c.in-Spent-2.is c.in_ok-run.ensures.adds c.in_ok-run-in-Value.ensures.found in
    right_spent c.args.trial.now.machine.now.spec terms c.args.trial.now.budget e c.run.new.bank c.in-Value.left
    c.in-Value.steps l c.run-in-Value.new.bank r

pub returns-then-same-clause-sides : goal.returns-then-same-clause-sides
returns-then-same-clause-sides c e terms can =
    let l = left_found can _ _ c.in-Value.is c.in_ok-run.ensures.found in
    let r = right_found can _ _ c.in-Value-2.is c.in_ok-run.ensures.adds c.in_ok-run-in-Value.ensures.found in
    values_same c.args.trial.now.machine.now.spec terms c.args.trial.now.budget e c.run.new.bank c.in-Value.left
    c.in-Value.steps l c.run-in-Value.new.bank c.in_ok-run-in-Value.ensures.adds c.in-Value-2.right
    c.in-Value-2.steps r c.same.result c.same.ensures c.if-same.true

pub returns-else-same-clause-sides : goal.returns-else-same-clause-sides
returns-else-same-clause-sides c e terms can =
    let l = left_found can _ _ c.in-Value.is c.in_ok-run.ensures.found in
    let r = right_found can _ _ c.in-Value-2.is c.in_ok-run.ensures.adds c.in_ok-run-in-Value.ensures.found in
    values_differ c.args.trial.now.machine.now.spec terms c.args.trial.now.budget e c.run.new.bank c.in-Value.left
    c.in-Value.steps l c.run-in-Value.new.bank c.in_ok-run-in-Value.ensures.adds c.in-Value-2.right
    c.in-Value-2.steps r c.same.result c.same.ensures c.if-same.false
