use Rattle.std.proofs.Common.{arith, subst, sym, take}
use Rattle.std.specs.Prelude.{option_map}
use Rattle.std.proofs.lemmas.Option.{slice_get_within}
use Rattle.term_core.proofs.Items.{all_at_or, taken_next}
use Rattle.spec_core.specs.WellSorted.{IsWellSorted}
use Rattle.claimed_goals.specs.Tracking.{AreProved, Tracks}
use Rattle.report_pages.specs.Claims.{HasGoal, IsGoalOf}
use Rattle.report_pages.specs.Lists.{Where}
use Rattle.report_pages.proofs.Lists.{next_drawn}
use Rattle.open_pages.specs.Sections.{IsSection, is_shown}
use Rattle.open_pages.proofs.sections.draw_sections.Goals as goal

pub goal_of-number-requires : goal.goal_of-number-requires
goal_of-number-requires g c =
    let spec = c.args.admitted.now.spec in
    let claims = c.args.claims.now in
    let claim = c.claim-item.result in
    let there = subst (λ x. HasGoal spec x) (sym c.claim-item.is)
    (all_at_or (λ x. HasGoal spec x) claims c.loop-claim.claim-index claim c.requires
    c.loop-claim-test.true) in
    subst (λ a. HasGoal a.spec claim) (sym c.admitted.view_is) there

pub overflow_cast-at : goal.overflow_cast-at
overflow_cast-at g c =
    let fine : IsWellSorted c.admitted.inside.spec = c.admitted.invariant.0 in
    let of = c.goal_of-number.result in
    omega (
      arith,
      slice_get_within c.admitted.inside.spec.goals of.0 of.1.now c.goal_of-number.ensures.0,
      fine.few_goals,
    )

pub draw_claim-requires : goal.draw_claim-requires
draw_claim-requires g c =
    let of = c.goal_of-number.result in
    subst (λ a. IsGoalOf a.spec c.claim-item.result of.0 of.1.now) c.admitted.view_is c.goal_of-number.ensures

pub add-requires-clause-within : goal.add-requires-clause-within
add-requires-clause-within g c =
    let of = c.goal_of-number.result in
    let at = subst (λ a. IsGoalOf a.spec c.claim-item.result of.0 of.1.now) c.admitted.view_is
    c.goal_of-number.ensures in
    omega (
      arith,
      slice_get_within c.args.admitted.now.spec.goals of.0 of.1.now at.0,
      c.loop-claim.invariant.tracked.long,
    )

pub add-requires-clause-small : goal.add-requires-clause-small
add-requires-clause-small g c =
    let fine : IsWellSorted c.admitted.inside.spec = c.admitted.invariant.0 in
    let of = c.goal_of-number.result in
    omega (
      arith,
      slice_get_within c.admitted.inside.spec.goals of.0 of.1.now c.goal_of-number.ensures.0,
      fine.few_goals,
    )

pub loop-claim-preserved : goal.loop-claim-preserved
loop-claim-preserved g c =
    let above = g.O.TermOrder.above c.args.admitted.now.order in
    let spec = c.args.admitted.now.spec in
    let fine : IsWellSorted c.args.admitted.now.spec = rw (← c.admitted.view_is) c.admitted.invariant.0 in
    let claims = c.args.claims.now in
    let i = c.loop-claim.claim-index in
    let before = take i claims in
    let claim = c.claim-item.result in
    let lt = c.loop-claim-test.true in
    let is = c.claim-item.is in
    let asked = option_map (λ name. name.now) c.args.asked in
    let tracked = c.loop-claim.invariant.tracked in
    let of = c.goal_of-number.result in
    let at = subst (λ a. IsGoalOf a.spec claim of.0 of.1.now) c.admitted.view_is c.goal_of-number.ensures in
    let proved = subst (λ ns. AreProved spec before ns) (sym c.as_slice.ensures.value) tracked.proved in
    record {
      tracked = subst (λ cs. Tracks spec cs c.add.new.self) (sym (taken_next claims i claim lt is))
          (c.in_ok-add.ensures spec before claim.goal fine tracked (of.1.now, at.0, at.1));
      drawn = next_drawn
          (λ before claim shown.
          Where (is_shown asked claim) (IsSection above spec c.args.search before claim) shown)
          claims i claim lt is c.args.page.now c.loop-claim.page c.draw_claim.new.page
          c.loop-claim.invariant.drawn (c.in_ok-draw_claim.ensures before proved);
    }
