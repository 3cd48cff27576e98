use Rattle.std.proofs.Common.{sym, subst}
use Rattle.term_core.proofs.Items.{if_ok_map}
use Rattle.spec_core.specs.WellSorted.{sorts_of}
use Rattle.bank_machine.specs.Runs.{StandAt}
use Rattle.ground_eval.proofs.GoalSides.{values_ground}
use Rattle.ground_eval.proofs.evaluation.verdict.Goals as goal

pub place_values-requires : goal.place_values-requires
place_values-requires c = values_ground c.args.spec.now (sorts_of c.args.goal.now.vars) c.args.values.now
    c.requires.values

pub verdict_in-requires-clause-values : goal.verdict_in-requires-clause-values
verdict_in-requires-clause-values c = (
  c.args.values.now,
  subst (λ ids. StandAt c.place_values.new.bank ids c.args.values.now)
      (sym c.deref.ensures.value) c.in_ok-ids.ensures.stand,
  c.requires.values,
)

pub returns-clause-verdict : goal.returns-clause-verdict
returns-clause-verdict c =
    let stand = subst (λ ids. StandAt c.place_values.new.bank ids c.args.values.now) (sym c.deref.ensures.value)
    c.in_ok-ids.ensures.stand in
    if_ok_map c.verdict_in.result _ _ (λ r h. h c.args.values.now stand) c.verdict_in.ensures.verdict

pub returns-clause-sure : goal.returns-clause-sure
returns-clause-sure c =
    let stand = subst (λ ids. StandAt c.place_values.new.bank ids c.args.values.now) (sym c.deref.ensures.value)
    c.in_ok-ids.ensures.stand in
    if_ok_map c.verdict_in.result _ _ (λ r h. h c.args.values.now stand) c.verdict_in.ensures.sure

pub returns-clause-fails : goal.returns-clause-fails
returns-clause-fails c =
    let stand = subst (λ ids. StandAt c.place_values.new.bank ids c.args.values.now) (sym c.deref.ensures.value)
    c.in_ok-ids.ensures.stand in
    if_ok_map c.verdict_in.result _ _ (λ r h. h c.args.values.now stand) c.verdict_in.ensures.fails
