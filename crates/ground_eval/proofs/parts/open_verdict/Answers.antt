use Rattle.std.proofs.Common.{arith, subst}
use Rattle.term_core.proofs.Items.{if_ok_map}
use Rattle.ground_eval.specs.OpenSides.{PremisesOpen}
use Rattle.ground_eval.proofs.FewCells.{few_all, few_both}
use Rattle.ground_eval.proofs.OpenPairs.{can_open_all_still}
use Rattle.ground_eval.proofs.OpenWalking.{goal_opens}
use Rattle.ground_eval.proofs.parts.open_verdict.Goals as goal

pub compare_open_premises-requires-clause-ready : goal.compare_open_premises-requires-clause-ready
compare_open_premises-requires-clause-ready c =
    let q = c.requires.ready in
    (q.0, q.1.premises, q.2, q.3)

pub compare_open_conclusions-requires-clause-ready : goal.compare_open_conclusions-requires-clause-ready
compare_open_conclusions-requires-clause-ready c =
    let q = c.requires.ready in (
      q.0,
      q.1.conclusions,
      q.2,
      can_open_all_still _ _ _ _ _ _ _ c.in_ok-compare_open_premises.ensures.adds q.4,
    )

pub returns-in-Unknown-clause-opens : goal.returns-in-Unknown-clause-opens
returns-in-Unknown-clause-opens c s g set p q =
    let h = subst (λ r. PremisesOpen s c.args.trial.now.budget g.premises r) c.in-Unknown.is
    (c.in_ok-compare_open_premises.ensures.sides s g.premises set p) in
    (λ r. h g.conclusions r)

pub returns-in-Differ-clause-opens : goal.returns-in-Differ-clause-opens
returns-in-Differ-clause-opens c s g set p q =
    let h = subst (λ r. PremisesOpen s c.args.trial.now.budget g.premises r) c.in-Differ.is
    (c.in_ok-compare_open_premises.ensures.sides s g.premises set p) in
    h g.conclusions

pub returns-in-Same-clause-opens : goal.returns-in-Same-clause-opens
returns-in-Same-clause-opens c =
    if_ok_map c.compare_open_conclusions.result _ _
    (λ r h s g set p q.
    let k = subst (λ r. PremisesOpen s c.args.trial.now.budget g.premises r) c.in-Same.is
    (c.in_ok-compare_open_premises.ensures.sides s g.premises set p) in
    goal_opens s c.args.trial.now.budget g r k
    (h s g.conclusions set (can_open_all_still _ _ _ _ _ _ _ c.in_ok-compare_open_premises.ensures.adds q)))
    c.compare_open_conclusions.ensures.verdict

pub returns-in-Unknown-clause-few : goal.returns-in-Unknown-clause-few
returns-in-Unknown-clause-few c = few_all _ _ _ _ _ _ (omega arith) c.in_ok-compare_open_premises.ensures.few

pub returns-in-Differ-clause-few : goal.returns-in-Differ-clause-few
returns-in-Differ-clause-few c = few_all _ _ _ _ _ _ (omega arith) c.in_ok-compare_open_premises.ensures.few

pub returns-in-Same-clause-few : goal.returns-in-Same-clause-few
returns-in-Same-clause-few c = if_ok_map c.compare_open_conclusions.result _ _
    (λ r h. few_both _ _ _ _ _ _ _ c.in_ok-compare_open_premises.ensures.few h)
    c.compare_open_conclusions.ensures.few
