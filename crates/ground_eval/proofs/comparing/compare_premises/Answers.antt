use Rattle.std.proofs.Common.{arith, subst}
use Rattle.spec_core.specs.Verdict.{SidesSame}
use Rattle.value_bank.proofs.Placed.{adds_both}
use Rattle.ground_eval.specs.Sides.{SidesAre}
use Rattle.ground_eval.proofs.FewCells.{few_next, few_all}
use Rattle.ground_eval.proofs.Lists.{all_more}
use Rattle.ground_eval.proofs.Walks.{premise_differs, premise_spent}
use Rattle.ground_eval.proofs.SharedSides.{paired}
use Rattle.ground_eval.proofs.comparing.compare_premises.Goals as goal

pub compare_sides-requires-clause-ready : goal.compare_sides-requires-clause-ready
compare_sides-requires-clause-ready c =
    let q = c.requires.ready in
    let e = paired q.2 c.loop-premise.premise-index c.loop-premise-test.true c.loop-premise.bank c.loop-premise.invariant.adds in
    (e.equation, q.1, e.ready)

pub loop-premise-preserved : goal.loop-premise-preserved
loop-premise-preserved c =
    record {
      same = λ es terms can.
          let e = paired can c.loop-premise.premise-index c.loop-premise-test.true c.loop-premise.bank c.loop-premise.invariant.adds in
          let h = subst (λ r. SidesAre c.args.trial.now.machine.now.spec terms c.args.trial.now.budget e.equation r) c.in-Same.is
          (c.in_ok-compare_sides.ensures.sides e.equation terms e.ready) in
          all_more (SidesSame c.args.trial.now.machine.now.spec terms c.args.trial.now.budget) es c.loop-premise.premise-index
          e.equation e.at (c.loop-premise.invariant.same es terms can) h;
      adds = adds_both _ _ _ c.loop-premise.invariant.adds c.in_ok-compare_sides.ensures.adds;
      kept = c.in_ok-compare_sides.ensures.kept;
      few = few_next _ _ _ _ _ _ _
          (omega arith) c.loop-premise.invariant.few c.in_ok-compare_sides.ensures.few;
    }

pub returns-in-Differ-clause-sides : goal.returns-in-Differ-clause-sides
returns-in-Differ-clause-sides c es terms can =
    let e = paired can c.loop-premise.premise-index c.loop-premise-test.true c.loop-premise.bank c.loop-premise.invariant.adds in
    let h = subst (λ r. SidesAre c.args.trial.now.machine.now.spec terms c.args.trial.now.budget e.equation r) c.in-Differ.is
    (c.in_ok-compare_sides.ensures.sides e.equation terms e.ready) in
    premise_differs c.args.trial.now.machine.now.spec terms c.args.trial.now.budget es c.loop-premise.premise-index e.equation e.at
    (c.loop-premise.invariant.same es terms can) h

pub returns-in-Differ-clause-adds : goal.returns-in-Differ-clause-adds
returns-in-Differ-clause-adds c = adds_both _ _ _ c.loop-premise.invariant.adds c.in_ok-compare_sides.ensures.adds

pub returns-in-Spent-clause-sides : goal.returns-in-Spent-clause-sides
returns-in-Spent-clause-sides c es terms can =
    let e = paired can c.loop-premise.premise-index c.loop-premise-test.true c.loop-premise.bank c.loop-premise.invariant.adds in
    let h = subst (λ r. SidesAre c.args.trial.now.machine.now.spec terms c.args.trial.now.budget e.equation r) c.in-Spent.is
    (c.in_ok-compare_sides.ensures.sides e.equation terms e.ready) in
    premise_spent c.args.trial.now.machine.now.spec terms c.args.trial.now.budget es c.loop-premise.premise-index e.equation e.at
    (c.loop-premise.invariant.same es terms can) h

pub returns-in-Spent-clause-adds : goal.returns-in-Spent-clause-adds
returns-in-Spent-clause-adds c = adds_both _ _ _ c.loop-premise.invariant.adds c.in_ok-compare_sides.ensures.adds

pub returns-in-Differ-clause-few : goal.returns-in-Differ-clause-few
returns-in-Differ-clause-few c = few_next _ _ _ _ _ _ _ c.loop-premise-test.true c.loop-premise.invariant.few c.in_ok-compare_sides.ensures.few

pub returns-in-Spent-clause-few : goal.returns-in-Spent-clause-few
returns-in-Spent-clause-few c = few_next _ _ _ _ _ _ _ c.loop-premise-test.true c.loop-premise.invariant.few c.in_ok-compare_sides.ensures.few

pub returns-clause-few : goal.returns-clause-few
returns-clause-few c = few_all _ _ _ _ _ _
    (omega (arith, c.loop-premise.auto.premise-index-end)) c.loop-premise.invariant.few
