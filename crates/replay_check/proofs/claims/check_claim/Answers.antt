use Rattle.std.proofs.Common.{◌≡◌, inl, refl, sym, ◌∙◌, arith, subst}
use Rattle.std.specs.Prelude.{Some, slice_get}
use Rattle.std.proofs.lemmas.Option.{slice_get_within}
use Rattle.std.proofs.lemmas.Result.{err_from_is_err_and}
use Rattle.spec_core.specs.declared.records.Goal.{Goal}
use Rattle.acceptance.specs.Accepting.{IsShown, ClaimIsAccepted}
use Rattle.acceptance.specs.Claims.{IsGoalNamed}
use Rattle.claimed_goals.specs.Tracking.{AreProved, IsNumberOf}
use Rattle.replay_check.proofs.TestedClaims.{first_claim, outcome_stops, outcome_accepted}
use Rattle.replay_check.proofs.claims.check_claim.Goals as goal

pub returns-in_default : goal.returns-in_default
returns-in_default g c =
    let not : (goal : Goal) → IsGoalNamed c.args.admitted.now.spec c.args.claim.now.goal goal → ⊥ =
    rw (← c.admitted.view_is) (λ goal named. c.in_default.ensures named.0 goal named.1 named.2) in
    λ before t. inl (λ h. not h.0 h.1, refl)

pub is_claimed-requires : goal.is_claimed-requires
is_claimed-requires g c =
    let at : slice_get c.args.admitted.now.spec.goals c.in-Some.number ≡ Some
    c.in-Some.goal.now = rw (← c.admitted.view_is) c.in-Some.ensures.0 in
    omega (arith, slice_get_within c.args.admitted.now.spec.goals c.in-Some.number c.in-Some.goal.now at, c.requires)

pub check_outcome-requires : goal.check_outcome-requires
check_outcome-requires g c =
    let at : slice_get c.args.admitted.now.spec.goals c.in-Some.number ≡ Some
    c.in-Some.goal.now = rw (← c.admitted.view_is) c.in-Some.ensures.0 in
    (c.in-Some.number, at)

pub returns-in_err-check_outcome : goal.returns-in_err-check_outcome
returns-in_err-check_outcome g c = λ before t.
    let at : slice_get c.args.admitted.now.spec.goals c.in-Some.number ≡ Some
    c.in-Some.goal.now = rw (← c.admitted.view_is) c.in-Some.ensures.0 in
    let flag = sym c.is_claimed.ensures ∙ c.if-is_claimed.false in
    let first = first_claim c.args.admitted.now.spec before c.args.goals.now t c.in-Some.number
    c.in-Some.goal.now at c.args.claim.now.goal c.in-Some.ensures.1 flag in
    let p = err_from_is_err_and c.from_residual.result c.from_residual.ensures.1 in
    let numbers = subst (λ ns. AreProved c.args.admitted.now.spec before ns)
    (sym c.as_slice-proved.ensures.value) t.proved in
    rw (p.1, p.2)
    (outcome_stops (g.O.TermOrder.above c.args.admitted.now.order) c.args.admitted.now.spec before
    c.args.claim.now c.in-Some.goal.now c.in-Some.number at c.in-Some.ensures.1 first c.args.steps c.args.line
    (λ done. IsShown (g.O.TermOrder.above c.args.admitted.now.order) c.args.admitted.now.spec c.args.steps
    before c.in-Some.goal.now c.args.claim.now.outcome)
    (λ number. IsNumberOf c.args.admitted.now.spec c.args.claim.now.goal number
    × ClaimIsAccepted (g.O.TermOrder.above c.args.admitted.now.order) c.args.admitted.now.spec c.args.steps
    before c.args.claim.now)
    c.in_err-check_outcome.field-0.0 (c.in_err-check_outcome.ensures before numbers))

pub returns : goal.returns
returns g c = λ before t.
    let at : slice_get c.args.admitted.now.spec.goals c.in-Some.number ≡ Some
    c.in-Some.goal.now = rw (← c.admitted.view_is) c.in-Some.ensures.0 in
    let flag = sym c.is_claimed.ensures ∙ c.if-is_claimed.false in
    let first = first_claim c.args.admitted.now.spec before c.args.goals.now t c.in-Some.number
    c.in-Some.goal.now at c.args.claim.now.goal c.in-Some.ensures.1 flag in
    let numbers = subst (λ ns. AreProved c.args.admitted.now.spec before ns)
    (sym c.as_slice-proved.ensures.value) t.proved in (
      (c.in-Some.goal.now, at, c.in-Some.ensures.1),
      outcome_accepted (g.O.TermOrder.above c.args.admitted.now.order) c.args.admitted.now.spec before
          c.args.claim.now c.in-Some.goal.now c.in-Some.number at c.in-Some.ensures.1 first c.args.steps
          c.args.line (c.in_ok-check_outcome.ensures before numbers),
    )
