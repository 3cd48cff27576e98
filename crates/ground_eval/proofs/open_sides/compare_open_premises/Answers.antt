use Rattle.std.proofs.Common.{arith, subst}
use Rattle.value_bank.proofs.Placed.{adds_both}
use Rattle.ground_eval.specs.OpenSides.{SidesOpen}
use Rattle.ground_eval.proofs.FewCells.{few_next, few_all}
use Rattle.ground_eval.proofs.Lists.{all_more}
use Rattle.ground_eval.proofs.OpenPairs.{opened_pair}
use Rattle.ground_eval.proofs.OpenWalking.{IsSo, all_taken, premise_differs, premise_unknown}
use Rattle.ground_eval.proofs.open_sides.compare_open_premises.Goals as goal

pub compare_open_sides-requires-clause-ready : goal.compare_open_sides-requires-clause-ready
compare_open_sides-requires-clause-ready c =
    let q = c.requires.ready in
    let e = opened_pair q.3 c.loop-premise.premise-index c.loop-premise-test.true c.loop-premise.bank c.loop-premise.invariant.adds in
    (q.0, e.equation, q.2, e.ready)

pub loop-premise-preserved : goal.loop-premise-preserved
loop-premise-preserved c =
    record {
      same = λ s es set can.
          let e = opened_pair can c.loop-premise.premise-index c.loop-premise-test.true c.loop-premise.bank c.loop-premise.invariant.adds in
          let h = subst (λ r. SidesOpen s c.args.trial.now.budget e.equation r) c.in-Same.is
          (c.in_ok-compare_open_sides.ensures.sides s e.equation set e.ready) in
          all_more (IsSo s c.args.trial.now.budget) es c.loop-premise.premise-index e.equation e.at
          (c.loop-premise.invariant.same s es set can) h;
      adds = adds_both _ _ _ c.loop-premise.invariant.adds c.in_ok-compare_open_sides.ensures.adds;
      kept = c.in_ok-compare_open_sides.ensures.kept;
      marks = c.in_ok-compare_open_sides.ensures.marks;
      few = few_next _ _ _ _ _ _ _
          (omega arith) c.loop-premise.invariant.few c.in_ok-compare_open_sides.ensures.few;
    }

pub returns-in-Differ-clause-sides : goal.returns-in-Differ-clause-sides
returns-in-Differ-clause-sides c s es set can =
    let e = opened_pair can c.loop-premise.premise-index c.loop-premise-test.true c.loop-premise.bank c.loop-premise.invariant.adds in
    let h = subst (λ r. SidesOpen s c.args.trial.now.budget e.equation r) c.in-Differ.is
    (c.in_ok-compare_open_sides.ensures.sides s e.equation set e.ready) in
    premise_differs s c.args.trial.now.budget es c.loop-premise.premise-index e.equation e.at
    (c.loop-premise.invariant.same s es set can) h

pub returns-in-Differ-clause-adds : goal.returns-in-Differ-clause-adds
returns-in-Differ-clause-adds c = adds_both _ _ _ c.loop-premise.invariant.adds c.in_ok-compare_open_sides.ensures.adds

pub returns-in-Unknown-clause-sides : goal.returns-in-Unknown-clause-sides
returns-in-Unknown-clause-sides c s es set can =
    let e = opened_pair can c.loop-premise.premise-index c.loop-premise-test.true c.loop-premise.bank c.loop-premise.invariant.adds in
    let h = subst (λ r. SidesOpen s c.args.trial.now.budget e.equation r) c.in-Unknown.is
    (c.in_ok-compare_open_sides.ensures.sides s e.equation set e.ready) in
    premise_unknown s c.args.trial.now.budget es c.loop-premise.premise-index e.equation e.at
    (c.loop-premise.invariant.same s es set can) h

pub returns-in-Unknown-clause-adds : goal.returns-in-Unknown-clause-adds
returns-in-Unknown-clause-adds c = adds_both _ _ _ c.loop-premise.invariant.adds c.in_ok-compare_open_sides.ensures.adds

pub returns-clause-sides : goal.returns-clause-sides
returns-clause-sides c s es set can = all_taken (IsSo s c.args.trial.now.budget) es c.loop-premise.premise-index
    (omega (arith, can.count, c.loop-premise-test.false)) (c.loop-premise.invariant.same s es set can)

pub returns-in-Differ-clause-few : goal.returns-in-Differ-clause-few
returns-in-Differ-clause-few c = few_next _ _ _ _ _ _ _ c.loop-premise-test.true c.loop-premise.invariant.few
    c.in_ok-compare_open_sides.ensures.few

pub returns-in-Unknown-clause-few : goal.returns-in-Unknown-clause-few
returns-in-Unknown-clause-few c = few_next _ _ _ _ _ _ _ c.loop-premise-test.true c.loop-premise.invariant.few
    c.in_ok-compare_open_sides.ensures.few

pub returns-clause-few : goal.returns-clause-few
returns-clause-few c = few_all _ _ _ _ _ _
    (omega (arith, c.loop-premise.auto.premise-index-end)) c.loop-premise.invariant.few
