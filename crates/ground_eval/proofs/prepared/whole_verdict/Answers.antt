use Rattle.std.proofs.Common.{arith, subst}
use Rattle.term_core.proofs.Items.{if_ok_map}
use Rattle.ground_eval.specs.Sides.{PremisesAre}
use Rattle.ground_eval.proofs.Comparable.{compared_still}
use Rattle.ground_eval.proofs.FewCells.{few_all, few_both}
use Rattle.ground_eval.proofs.Walks.{conclusions_decide}
use Rattle.ground_eval.proofs.prepared.whole_verdict.Goals as goal

pub compare_premises-requires-clause-ready : goal.compare_premises-requires-clause-ready
compare_premises-requires-clause-ready c =
    let q = c.requires.ready in
    (q.0.premises, q.1, q.2)

pub compare_conclusions-requires-clause-ready : goal.compare_conclusions-requires-clause-ready
compare_conclusions-requires-clause-ready c =
    let q = c.requires.ready in (
      q.0.conclusions,
      q.1,
      compared_still _ _ _ _ _ _ _ c.in_ok-compare_premises.ensures.adds q.3,
    )

pub returns-in-Spent-clause-decided : goal.returns-in-Spent-clause-decided
returns-in-Spent-clause-decided c g terms p q =
    let h = subst (λ r. PremisesAre c.args.trial.now.machine.now.spec terms c.args.trial.now.budget g.premises r) c.in-Spent.is
    (c.in_ok-compare_premises.ensures.sides g.premises terms p) in
    (λ apart whole. h apart whole g.conclusions)

pub returns-in-Differ-clause-decided : goal.returns-in-Differ-clause-decided
returns-in-Differ-clause-decided c g terms p q =
    let h = subst (λ r. PremisesAre c.args.trial.now.machine.now.spec terms c.args.trial.now.budget g.premises r) c.in-Differ.is
    (c.in_ok-compare_premises.ensures.sides g.premises terms p) in
    h g.conclusions

pub returns-in-Same-clause-decided : goal.returns-in-Same-clause-decided
returns-in-Same-clause-decided c =
    if_ok_map c.compare_conclusions.result _ _
    (λ r h g terms p q.
    let k = subst (λ r. PremisesAre c.args.trial.now.machine.now.spec terms c.args.trial.now.budget g.premises r) c.in-Same.is
    (c.in_ok-compare_premises.ensures.sides g.premises terms p) in
    conclusions_decide c.args.trial.now.machine.now.spec terms c.args.trial.now.budget g k r
    (h g.conclusions terms (compared_still _ _ _ _ _ _ _ c.in_ok-compare_premises.ensures.adds q)))
    c.compare_conclusions.ensures.verdict

pub returns-in-Spent-clause-few : goal.returns-in-Spent-clause-few
returns-in-Spent-clause-few c = few_all _ _ _ _ _ _ (omega arith) c.in_ok-compare_premises.ensures.few

pub returns-in-Differ-clause-few : goal.returns-in-Differ-clause-few
returns-in-Differ-clause-few c = few_all _ _ _ _ _ _ (omega arith) c.in_ok-compare_premises.ensures.few

pub returns-in-Same-clause-few : goal.returns-in-Same-clause-few
returns-in-Same-clause-few c = if_ok_map c.compare_conclusions.result _ _
    (λ r h. few_both _ _ _ _ _ _ _ c.in_ok-compare_premises.ensures.few h) c.compare_conclusions.ensures.few
