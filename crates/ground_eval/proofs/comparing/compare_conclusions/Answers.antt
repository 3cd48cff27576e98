use Rattle.std.proofs.Common.{arith, subst}
use Rattle.spec_core.specs.Verdict.{SidesDiffer}
use Rattle.value_bank.proofs.Placed.{adds_both}
use Rattle.ground_eval.specs.Sides.{SidesAre}
use Rattle.ground_eval.proofs.FewCells.{few_next, few_all}
use Rattle.ground_eval.proofs.Lists.{all_more}
use Rattle.ground_eval.proofs.Walks.{conclusion_holds, conclusion_spent}
use Rattle.ground_eval.proofs.SharedSides.{paired}
use Rattle.ground_eval.proofs.comparing.compare_conclusions.Goals as goal

pub compare_sides-requires-clause-ready : goal.compare_sides-requires-clause-ready
compare_sides-requires-clause-ready c =
    let q = c.requires.ready in
    let e = paired q.2 c.loop-conclusion.conclusion-index c.loop-conclusion-test.true c.loop-conclusion.bank c.loop-conclusion.invariant.adds in
    (e.equation, q.1, e.ready)

pub loop-conclusion-preserved : goal.loop-conclusion-preserved
loop-conclusion-preserved c =
    record {
      differ = λ es terms can.
          let e = paired can c.loop-conclusion.conclusion-index c.loop-conclusion-test.true c.loop-conclusion.bank c.loop-conclusion.invariant.adds in
          let h = subst (λ r. SidesAre c.args.trial.now.machine.now.spec terms c.args.trial.now.budget e.equation r) c.in-Differ.is
          (c.in_ok-compare_sides.ensures.sides e.equation terms e.ready) in
          all_more (SidesDiffer c.args.trial.now.machine.now.spec terms c.args.trial.now.budget) es
          c.loop-conclusion.conclusion-index e.equation e.at (c.loop-conclusion.invariant.differ es terms can) h;
      adds = adds_both _ _ _ c.loop-conclusion.invariant.adds c.in_ok-compare_sides.ensures.adds;
      kept = c.in_ok-compare_sides.ensures.kept;
      few = few_next _ _ _ _ _ _ _ (omega arith) c.loop-conclusion.invariant.few
          c.in_ok-compare_sides.ensures.few;
    }

pub returns-in-Same-clause-verdict : goal.returns-in-Same-clause-verdict
returns-in-Same-clause-verdict c es terms can =
    let e = paired can c.loop-conclusion.conclusion-index c.loop-conclusion-test.true c.loop-conclusion.bank c.loop-conclusion.invariant.adds in
    let h = subst (λ r. SidesAre c.args.trial.now.machine.now.spec terms c.args.trial.now.budget e.equation r) c.in-Same.is
    (c.in_ok-compare_sides.ensures.sides e.equation terms e.ready) in
    conclusion_holds c.args.trial.now.machine.now.spec terms c.args.trial.now.budget es c.loop-conclusion.conclusion-index
    e.equation e.at (c.loop-conclusion.invariant.differ es terms can) h

pub returns-in-Same-clause-adds : goal.returns-in-Same-clause-adds
returns-in-Same-clause-adds c = adds_both _ _ _ c.loop-conclusion.invariant.adds c.in_ok-compare_sides.ensures.adds

pub returns-in-Spent-clause-verdict : goal.returns-in-Spent-clause-verdict
returns-in-Spent-clause-verdict c es terms can =
    let e = paired can c.loop-conclusion.conclusion-index c.loop-conclusion-test.true c.loop-conclusion.bank c.loop-conclusion.invariant.adds in
    let h = subst (λ r. SidesAre c.args.trial.now.machine.now.spec terms c.args.trial.now.budget e.equation r) c.in-Spent.is
    (c.in_ok-compare_sides.ensures.sides e.equation terms e.ready) in
    conclusion_spent c.args.trial.now.machine.now.spec terms c.args.trial.now.budget es c.loop-conclusion.conclusion-index
    e.equation e.at (c.loop-conclusion.invariant.differ es terms can) h

pub returns-in-Spent-clause-adds : goal.returns-in-Spent-clause-adds
returns-in-Spent-clause-adds c = adds_both _ _ _ c.loop-conclusion.invariant.adds c.in_ok-compare_sides.ensures.adds

pub returns-in-Same-clause-few : goal.returns-in-Same-clause-few
returns-in-Same-clause-few c = few_next _ _ _ _ _ _ _ c.loop-conclusion-test.true c.loop-conclusion.invariant.few
    c.in_ok-compare_sides.ensures.few

pub returns-in-Spent-clause-few : goal.returns-in-Spent-clause-few
returns-in-Spent-clause-few c = few_next _ _ _ _ _ _ _ c.loop-conclusion-test.true c.loop-conclusion.invariant.few
    c.in_ok-compare_sides.ensures.few

pub returns-clause-few : goal.returns-clause-few
returns-clause-few c = few_all _ _ _ _ _ _
    (omega (arith, c.loop-conclusion.auto.conclusion-index-end)) c.loop-conclusion.invariant.few
