use Rattle.std.proofs.Common.{arith, subst}
use Rattle.value_bank.proofs.Placed.{adds_both}
use Rattle.ground_eval.specs.OpenSides.{SidesOpen}
use Rattle.ground_eval.proofs.FewCells.{few_next, few_all}
use Rattle.ground_eval.proofs.Lists.{all_more}
use Rattle.ground_eval.proofs.OpenPairs.{opened_pair}
use Rattle.ground_eval.proofs.OpenWalking.{Apart, all_taken, all_differ, conclusion_same, conclusion_unknown}
use Rattle.ground_eval.proofs.open_sides.compare_open_conclusions.Goals as goal

pub compare_open_sides-requires-clause-ready : goal.compare_open_sides-requires-clause-ready
compare_open_sides-requires-clause-ready c =
    let q = c.requires.ready in
    let e = opened_pair q.3 c.loop-conclusion.conclusion-index c.loop-conclusion-test.true c.loop-conclusion.bank c.loop-conclusion.invariant.adds in
    (q.0, e.equation, q.2, e.ready)

pub loop-conclusion-preserved : goal.loop-conclusion-preserved
loop-conclusion-preserved c =
    record {
      differ = λ s es set can.
          let e = opened_pair can c.loop-conclusion.conclusion-index c.loop-conclusion-test.true c.loop-conclusion.bank c.loop-conclusion.invariant.adds in
          let h = subst (λ r. SidesOpen s c.args.trial.now.budget e.equation r) c.in-Differ.is
          (c.in_ok-compare_open_sides.ensures.sides s e.equation set e.ready) in
          all_more (Apart s c.args.trial.now.budget) es c.loop-conclusion.conclusion-index e.equation e.at
          (c.loop-conclusion.invariant.differ s es set can) h;
      adds = adds_both _ _ _ c.loop-conclusion.invariant.adds c.in_ok-compare_open_sides.ensures.adds;
      kept = c.in_ok-compare_open_sides.ensures.kept;
      marks = c.in_ok-compare_open_sides.ensures.marks;
      few = few_next _ _ _ _ _ _ _ (omega arith) c.loop-conclusion.invariant.few
          c.in_ok-compare_open_sides.ensures.few;
    }

pub returns-in-Same-clause-verdict : goal.returns-in-Same-clause-verdict
returns-in-Same-clause-verdict c s es set can =
    let e = opened_pair can c.loop-conclusion.conclusion-index c.loop-conclusion-test.true c.loop-conclusion.bank c.loop-conclusion.invariant.adds in
    let h = subst (λ r. SidesOpen s c.args.trial.now.budget e.equation r) c.in-Same.is
    (c.in_ok-compare_open_sides.ensures.sides s e.equation set e.ready) in
    conclusion_same s c.args.trial.now.budget es c.loop-conclusion.conclusion-index e.equation e.at
    (c.loop-conclusion.invariant.differ s es set can) h

pub returns-in-Same-clause-adds : goal.returns-in-Same-clause-adds
returns-in-Same-clause-adds c = adds_both _ _ _ c.loop-conclusion.invariant.adds c.in_ok-compare_open_sides.ensures.adds

pub returns-in-Unknown-clause-verdict : goal.returns-in-Unknown-clause-verdict
returns-in-Unknown-clause-verdict c s es set can =
    let e = opened_pair can c.loop-conclusion.conclusion-index c.loop-conclusion-test.true c.loop-conclusion.bank c.loop-conclusion.invariant.adds in
    let h = subst (λ r. SidesOpen s c.args.trial.now.budget e.equation r) c.in-Unknown.is
    (c.in_ok-compare_open_sides.ensures.sides s e.equation set e.ready) in
    conclusion_unknown s c.args.trial.now.budget es c.loop-conclusion.conclusion-index e.equation e.at
    (c.loop-conclusion.invariant.differ s es set can) h

pub returns-in-Unknown-clause-adds : goal.returns-in-Unknown-clause-adds
returns-in-Unknown-clause-adds c = adds_both _ _ _ c.loop-conclusion.invariant.adds c.in_ok-compare_open_sides.ensures.adds

pub returns-clause-verdict : goal.returns-clause-verdict
returns-clause-verdict c s es set can = all_differ s c.args.trial.now.budget es
    (all_taken (Apart s c.args.trial.now.budget) es c.loop-conclusion.conclusion-index
    (omega (arith, can.count, c.loop-conclusion-test.false)) (c.loop-conclusion.invariant.differ s es set can))

pub returns-in-Same-clause-few : goal.returns-in-Same-clause-few
returns-in-Same-clause-few c = few_next _ _ _ _ _ _ _ c.loop-conclusion-test.true c.loop-conclusion.invariant.few
    c.in_ok-compare_open_sides.ensures.few

pub returns-in-Unknown-clause-few : goal.returns-in-Unknown-clause-few
returns-in-Unknown-clause-few c = few_next _ _ _ _ _ _ _ c.loop-conclusion-test.true c.loop-conclusion.invariant.few
    c.in_ok-compare_open_sides.ensures.few

pub returns-clause-few : goal.returns-clause-few
returns-clause-few c = few_all _ _ _ _ _ _
    (omega (arith, c.loop-conclusion.auto.conclusion-index-end)) c.loop-conclusion.invariant.few
