use Rattle.std.proofs.Common.{◌≡◌, Some, arith, subst, sym, take}
use Rattle.std.specs.Prelude.{option_map, slice_get}
use Rattle.std.proofs.lemmas.Option.{slice_get_within}
use Rattle.term_core.proofs.Items.{taken_next}
use Rattle.spec_core.specs.WellSorted.{IsWellSorted}
use Rattle.claimed_goals.specs.Tracking.{AreProved, Tracks}
use Rattle.report_pages.specs.Claims.{IsClaimShown}
use Rattle.report_pages.specs.Lists.{Where}
use Rattle.report_pages.specs.ReportPages.{is_asked}
use Rattle.report_pages.proofs.AcceptedClaims.{first_accepted, goal_shown, others_accepted}
use Rattle.report_pages.proofs.Lists.{next_drawn}
use Rattle.report_pages.proofs.pages.draw_sections.Goals as goal

pub draw_claim-requires-clause-shown : goal.draw_claim-requires-clause-shown
draw_claim-requires-clause-shown g c =
    let above = g.O.TermOrder.above c.args.admitted.now.order in
    let spec = c.args.admitted.now.spec in
    let fine : IsWellSorted c.args.admitted.now.spec = rw (← c.admitted.view_is) c.admitted.invariant.0 in
    let there : slice_get c.args.admitted.now.spec.goals c.in-Some.number ≡ Some c.in-Some.goal.now =
    rw (← c.admitted.view_is) c.in-Some.ensures.0 in
    let claims = c.args.claims.now in
    let before = take c.loop-claim.claim-index claims in
    let claim = c.claim-item.result in
    let accepted =
    first_accepted above spec c.args.steps claims c.loop-claim.claim-index claim c.loop-claim-test.true
    c.claim-item.is c.loop-claim.invariant.accepted in (
      before,
      subst (λ ns. AreProved spec before ns) (sym c.as_slice.ensures.value) c.loop-claim.invariant.tracked.proved,
      goal_shown above spec c.args.steps fine before claim accepted c.in-Some.goal.now
          (c.in-Some.number, there, c.in-Some.ensures.1),
    )

pub add-requires-clause-within : goal.add-requires-clause-within
add-requires-clause-within g c =
    let there : slice_get c.args.admitted.now.spec.goals c.in-Some.number ≡ Some c.in-Some.goal.now =
    rw (← c.admitted.view_is) c.in-Some.ensures.0 in
    omega (
      arith,
      slice_get_within c.args.admitted.now.spec.goals c.in-Some.number c.in-Some.goal.now there,
      c.loop-claim.invariant.tracked.long,
    )

pub add-requires-clause-small : goal.add-requires-clause-small
add-requires-clause-small g c =
    let fine : IsWellSorted c.args.admitted.now.spec = rw (← c.admitted.view_is) c.admitted.invariant.0 in
    let there : slice_get c.args.admitted.now.spec.goals c.in-Some.number ≡ Some c.in-Some.goal.now =
    rw (← c.admitted.view_is) c.in-Some.ensures.0 in
    omega (
      arith,
      slice_get_within c.args.admitted.now.spec.goals c.in-Some.number c.in-Some.goal.now there,
      fine.few_goals,
    )

pub loop-claim-preserved : goal.loop-claim-preserved
loop-claim-preserved g c =
    let above = g.O.TermOrder.above c.args.admitted.now.order in
    let spec = c.args.admitted.now.spec in
    let fine : IsWellSorted c.args.admitted.now.spec = rw (← c.admitted.view_is) c.admitted.invariant.0 in
    let there : slice_get c.args.admitted.now.spec.goals c.in-Some.number ≡ Some c.in-Some.goal.now =
    rw (← c.admitted.view_is) c.in-Some.ensures.0 in
    let claims = c.args.claims.now in
    let i = c.loop-claim.claim-index in
    let before = take i claims in
    let claim = c.claim-item.result in
    let lt = c.loop-claim-test.true in
    let is = c.claim-item.is in
    let asked = option_map (λ name. name.now) c.args.asked in
    let tracked = c.loop-claim.invariant.tracked in
    let proved = subst (λ ns. AreProved spec before ns) (sym c.as_slice.ensures.value) tracked.proved in
    record {
      tracked = subst (λ cs. Tracks spec cs c.add.new.self) (sym (taken_next claims i claim lt is))
          (c.in_ok-add.ensures spec before claim.goal fine tracked
          (c.in-Some.goal.now, there, c.in-Some.ensures.1));
      accepted = others_accepted above spec c.args.steps claims i claim lt is c.loop-claim.invariant.accepted;
      drawn = next_drawn
          (λ before claim shown.
          Where (is_asked asked claim) (IsClaimShown above spec c.args.steps before claim) shown)
          claims i claim lt is c.args.page.now c.loop-claim.page c.draw_claim.new.page
          c.loop-claim.invariant.drawn (c.in_ok-draw_claim.ensures before proved);
    }
