use Rattle.std.proofs.Common.{[], ◌∷◌, refl, subst}
use Rattle.std.specs.Prelude.{codes}
use Rattle.spec_core.specs.Truth.{GoalFails, GoalIsTrue}
use Rattle.spec_core.specs.Naturals.{naturals, same_goal, unit_goal, zero_term, succ_term}
use Rattle.clause_core.specs.ClauseLaws.{TidyingLaws}
use Rattle.acceptance.specs.Claims.{IsGoalNamed}
use Rattle.acceptance.specs.Examples.{only, proves_unit, refutes, unit_steps, x_and_y}
use Rattle.acceptance.proofs.NoRefusal.{goal_named_one}
use Rattle.sample_specs.specs.SumOrder.{AboveInSums, RankInSums}
use Rattle.sample_specs.proofs.Sums.{sum_order_ranks}
use Rattle.descent.proofs.HasValues.{one_value}
use Rattle.descent.proofs.AllDescend.{all_descend}
use Rattle.descent.proofs.SortedChildren.{children_sorted}
use Rattle.descent.specs.OneValue.{ValuesRankLower}
use Rattle.soundness.specs.AcceptedAreTrue.{AcceptedAreTrue}
use Rattle.soundness.proofs.TrueReports.{accepted_true}
use Rattle.soundness.proofs.laws.worked_examples.Goals as goal

unit_named : IsGoalNamed naturals (codes "unit") unit_goal
unit_named = (1, refl, refl)

same_named : IsGoalNamed naturals (codes "same") same_goal
same_named = (0, refl, refl)

values_lower : ValuesRankLower AboveInSums RankInSums
values_lower spec fine admitted = one_value AboveInSums spec fine admitted RankInSums sum_order_ranks

accepted_by_sums : TidyingLaws → AcceptedAreTrue AboveInSums
accepted_by_sums tidying =
    accepted_true AboveInSums RankInSums sum_order_ranks values_lower
    (all_descend AboveInSums RankInSums sum_order_ranks values_lower) (children_sorted AboveInSums tidying)

pub returns : goal.returns
returns c =
    let fine = c.worked_examples-3.ensures.well_sorted in
    let admitted = c.worked_examples-2.ensures.naturals_are_admitted in
    let sound = accepted_by_sums c.tidying_laws.ensures in
    let proved = (sound naturals (only (proves_unit unit_steps)) fine admitted c.worked_examples.ensures.accepted).0 in
    let refuted = (sound naturals (only (refutes (codes "same") (x_and_y zero_term (succ_term zero_term)))) fine
    admitted c.worked_examples.ensures.refuted).0 in
    record {
      unit_is_true = subst (λ g. GoalIsTrue naturals g)
          (goal_named_one naturals fine (codes "unit") proved.0 unit_goal proved.1 unit_named) proved.2;
      same_fails = subst (λ g. GoalFails naturals (zero_term ∷ succ_term zero_term ∷ []) g)
          (goal_named_one naturals fine (codes "same") refuted.0 same_goal refuted.1 same_named) refuted.2.1;
    }
