use Rattle.std.proofs.Common.{◌≡◌, ◌+◌, ◌<◌, length, get_or, take, ap, sym, ◌∙◌, subst, arith}
use Rattle.std.proofs.lemmas.Option.{slice_get_within}
use Rattle.std.proofs.lemmas.Result.{err_from_is_err_and}
use Rattle.term_core.proofs.Items.{taken_next}
use Rattle.spec_core.specs.WellSorted.{IsWellSorted}
use Rattle.clause_core.specs.ClauseLaws.{OneRelation}
use Rattle.acceptance.specs.Accepting.{ClaimIsAccepted, IsAccepted}
use Rattle.acceptance.specs.Refusals.{lines_of, line_after}
use Rattle.claimed_goals.specs.Tracking.{IsNumberOf, Tracks}
use Rattle.replay_check.proofs.TestedClaims.{accepted_more, claim_stops, line_more}
use Rattle.replay_check.proofs.claims.check_claims.Goals as goal

pub check_claim-requires : goal.check_claim-requires
check_claim-requires g c = c.loop-claim.invariant.0.long

pub returns-in_err-number : goal.returns-in_err-number
returns-in_err-number g c =
    let fine : IsWellSorted c.args.admitted.now.spec = rw (← c.admitted.view_is) c.admitted.invariant.0 in
    let one : OneRelation (g.O.TermOrder.above c.args.admitted.now.order) = rw (← c.admitted.view_is)
    c.one_relation.ensures in
    let lt : c.loop-claim.claim-index < length c.args.report.now.claims = omega (
      arith,
      c.loop-claim-test.true,
      ap length c.as_slice-claim-items.ensures,
    ) in
    let is : c.claim-item.result ≡ get_or c.args.report.now.claims c.loop-claim.claim-index
    c.claim-item.result = c.claim-item.is
    ∙ ap (λ xs. get_or xs c.loop-claim.claim-index c.claim-item.result) c.as_slice-claim-items.ensures in
    let p = err_from_is_err_and c.from_residual-in_err-number.result c.from_residual-in_err-number.ensures.1 in
    rw (p.1, p.2)
    (claim_stops (g.O.TermOrder.above c.args.admitted.now.order) one c.args.admitted.now.spec fine
    c.args.report.now c.loop-claim.claim-index c.claim-item.result lt is c.loop-claim.invariant.2
    (λ number. IsNumberOf c.args.admitted.now.spec c.claim-item.result.goal number
    × ClaimIsAccepted (g.O.TermOrder.above c.args.admitted.now.order) c.args.admitted.now.spec
    c.args.report.now.steps (take c.loop-claim.claim-index c.args.report.now.claims) c.claim-item.result)
    (λ done. IsAccepted (g.O.TermOrder.above c.args.admitted.now.order) c.args.admitted.now.spec
    c.args.report.now) c.loop-claim.line c.in_err-number.field-0.0 c.loop-claim.invariant.1
    (c.in_err-number.ensures (take c.loop-claim.claim-index c.args.report.now.claims) c.loop-claim.invariant.0))

pub add-requires-clause-within : goal.add-requires-clause-within
add-requires-clause-within g c =
    let found = c.in_ok-number.ensures (take c.loop-claim.claim-index c.args.report.now.claims)
    c.loop-claim.invariant.0 in
    omega (
      arith,
      slice_get_within c.args.admitted.now.spec.goals c.in_ok-number.number found.0.0 found.0.1,
      c.loop-claim.invariant.0.long,
    )

pub add-requires-clause-small : goal.add-requires-clause-small
add-requires-clause-small g c =
    let fine : IsWellSorted c.args.admitted.now.spec = rw (← c.admitted.view_is) c.admitted.invariant.0 in
    let found = c.in_ok-number.ensures (take c.loop-claim.claim-index c.args.report.now.claims)
    c.loop-claim.invariant.0 in
    omega (
      arith,
      slice_get_within c.args.admitted.now.spec.goals c.in_ok-number.number found.0.0 found.0.1,
      fine.few_goals,
    )

pub loop-claim-preserved : goal.loop-claim-preserved
loop-claim-preserved g c =
    let fine : IsWellSorted c.args.admitted.now.spec = rw (← c.admitted.view_is) c.admitted.invariant.0 in
    let one : OneRelation (g.O.TermOrder.above c.args.admitted.now.order) = rw (← c.admitted.view_is)
    c.one_relation.ensures in
    let lt : c.loop-claim.claim-index < length c.args.report.now.claims = omega (
      arith,
      c.loop-claim-test.true,
      ap length c.as_slice-claim-items.ensures,
    ) in
    let is : c.claim-item.result ≡ get_or c.args.report.now.claims c.loop-claim.claim-index
    c.claim-item.result = c.claim-item.is
    ∙ ap (λ xs. get_or xs c.loop-claim.claim-index c.claim-item.result) c.as_slice-claim-items.ensures in
    let before = take c.loop-claim.claim-index c.args.report.now.claims in
    let next = taken_next c.args.report.now.claims c.loop-claim.claim-index c.claim-item.result lt is in
    let found = c.in_ok-number.ensures before c.loop-claim.invariant.0 in
    let line : c.in_ok-line.line ≡ line_after before + lines_of c.claim-item.result.outcome = omega (
      arith,
      c.in_ok-line.ensures,
      c.other_lines.ensures,
      c.loop-claim.invariant.1,
    ) in (
      subst (λ cs. Tracks c.args.admitted.now.spec cs c.add.new.self) (sym next)
          (c.in_ok-add.ensures c.args.admitted.now.spec before c.claim-item.result.goal fine
          c.loop-claim.invariant.0 found.0),
      line ∙ sym (line_more before c.claim-item.result) ∙ ap line_after (sym next),
      accepted_more (g.O.TermOrder.above c.args.admitted.now.order) one c.args.admitted.now.spec fine
          c.args.report.now c.loop-claim.claim-index c.claim-item.result lt is c.loop-claim.invariant.2 found.1,
    )
