use Rattle.std.proofs.Common.{◌≡◌, ℕ, ◌+◌, ◌<◌, Some, length, get_or, take, refl, sym, ◌∙◌, ap, subst}
use Rattle.std.proofs.Common.{arith}
use Rattle.std.specs.Prelude.{slice_get}
use Rattle.std.proofs.lemmas.Option.{slice_get_read, slice_get_within}
use Rattle.spec_core.specs.declared.records.Goal.{Goal}
use Rattle.spec_core.specs.WellSorted.{IsWellSorted}
use Rattle.clause_core.specs.ClauseLaws.{OneRelation}
use Rattle.acceptance.specs.Claims.{SaysProved}
use Rattle.claimed_goals.specs.Tracking.{AreProved, IsNumberOf}
use Rattle.script_trim.specs.declared.lemmas.Lemmas.{Lemmas}
use Rattle.script_trim.proofs.TrimmedBlocks.{goal_there}
use Rattle.script_trim.proofs.TrimmedClaims.{AreTrimmed, all_trimmed, none_proved, none_trimmed, one_proved}
use Rattle.script_trim.proofs.TrimmedClaims.{still_proved, trimmed_next}
use Rattle.script_trim.proofs.claims.trimmed_claims.Goals as goal
use Rattle.script_trim.proofs.claims.trimmed_claims.Goals.{in-Proved+in_ok-add, in_default-outcome}

pub loop-number-init : goal.loop-number-init
loop-number-init g c =
    let above = g.O.TermOrder.above c.args.admitted.now.order in
    let spec = c.args.admitted.now.spec in (
      ap length c.in_ok-trimmed.ensures.items,
      subst (λ ds. AreTrimmed above spec c.args.report.now ds) (sym c.in_ok-trimmed.ensures.items)
          (none_trimmed above spec c.args.report.now c.requires),
      rw (← c.admitted.view_is) c.in_ok-lemmas.ensures.clauses,
      none_proved spec c.in_ok-lemmas.lemmas.numbers.items c.in_ok-lemmas.ensures.numbers,
    )

pub trimmed_claim-requires-clause-there : goal.trimmed_claim-requires-clause-there
trimmed_claim-requires-clause-there g c =
    let claims = c.args.report.now.claims in
    let n = c.loop-number.number in
    let lt : c.loop-number.number < length c.args.report.now.claims =
    omega (arith, c.loop-number-test.true, ap length c.as_slice-claim-items.ensures) in
    let is : c.claim-item.result ≡ get_or c.args.report.now.claims c.loop-number.number c.claim-item.result =
    c.claim-item.is ∙ ap (λ xs. get_or xs c.loop-number.number c.claim-item.result)
    c.as_slice-claim-items.ensures in
    let at = slice_get_read claims (length claims) n c.claim-item.result refl lt is in
    at

pub returns : goal.returns
returns g c =
    all_trimmed (g.O.TermOrder.above c.args.admitted.now.order) c.args.admitted.now.spec c.args.report.now
    c.loop-number.trimmed.items (omega (
      arith,
      c.loop-number.invariant.0,
      c.loop-number-test.false,
      ap length c.as_slice-claim-items.ensures,
    )) c.loop-number.invariant.1

pub unreachable-requires : goal.unreachable-requires
unreachable-requires g c =
    let claims = c.args.report.now.claims in
    let lt : c.loop-number.number < length c.args.report.now.claims =
    omega (arith, c.loop-number-test.true, ap length c.as_slice-claim-items.ensures) in
    let is : c.claim-item.result ≡ get_or c.args.report.now.claims c.loop-number.number c.claim-item.result =
    c.claim-item.is ∙ ap (λ xs. get_or xs c.loop-number.number c.claim-item.result)
    c.as_slice-claim-items.ensures in
    let at = slice_get_read claims (length claims) c.loop-number.number c.claim-item.result refl lt is in
    let none : (k : ℕ) (goal : Goal) → slice_get c.args.admitted.now.spec.goals k ≡ Some goal →
    goal.name ≡ c.claim-item.result.goal → ⊥ = rw (← c.admitted.view_is) c.in_default.ensures in
    let found = goal_there (g.O.TermOrder.above c.args.admitted.now.order) c.args.admitted.now.spec c.args.report.now
    c.requires c.loop-number.number c.claim-item.result at in
    none found.1.0 found.0 found.1.1 found.1.2

pub overflow_cast-goal_number : goal.overflow_cast-goal_number
overflow_cast-goal_number g c =
    let fine : IsWellSorted c.args.admitted.now.spec = rw (← c.admitted.view_is) c.admitted.invariant.0 in
    let there : slice_get c.args.admitted.now.spec.goals c.in-Some.goal_number ≡ Some c.in-Some.goal.now =
    rw (← c.admitted.view_is) c.in-Some.ensures.0 in
    omega (
      arith,
      slice_get_within c.args.admitted.now.spec.goals c.in-Some.goal_number c.in-Some.goal.now there,
      fine.few_goals,
    )

pub loop-number-preserved : goal.loop-number-preserved
loop-number-preserved g c =
    let above = g.O.TermOrder.above c.args.admitted.now.order in
    let spec = c.args.admitted.now.spec in
    let fine : IsWellSorted c.args.admitted.now.spec = rw (← c.admitted.view_is) c.admitted.invariant.0 in
    let one : OneRelation (g.O.TermOrder.above c.args.admitted.now.order) =
    rw (← c.admitted.view_is) c.one_relation.ensures in
    let claims = c.args.report.now.claims in
    let lt : c.loop-number.number < length c.args.report.now.claims =
    omega (arith, c.loop-number-test.true, ap length c.as_slice-claim-items.ensures) in
    let is : c.claim-item.result ≡ get_or c.args.report.now.claims c.loop-number.number c.claim-item.result =
    c.claim-item.is ∙ ap (λ xs. get_or xs c.loop-number.number c.claim-item.result)
    c.as_slice-claim-items.ensures in
    let at = slice_get_read claims (length claims) c.loop-number.number c.claim-item.result refl lt is in
    let there : slice_get c.args.admitted.now.spec.goals c.in-Some.goal_number ≡ Some c.in-Some.goal.now =
    rw (← c.admitted.view_is) c.in-Some.ensures.0 in
    let named : IsNumberOf c.args.admitted.now.spec c.claim-item.result.goal c.in-Some.goal_number =
    (c.in-Some.goal.now, there, c.in-Some.ensures.1) in
    let next = trimmed_next above spec one fine c.args.report.now c.loop-number.number c.loop-number.trimmed.items
    c.push.new.self.items c.claim-item.result c.in_ok-trimmed_claim.field-0 c.requires c.loop-number.invariant.0
    c.loop-number.invariant.1 at c.in_ok-trimmed_claim.ensures c.in_ok-push.ensures.items in
    elim c.match-claim.branch [
      | in-Proved+in_ok-add w ↦ (
        next.0,
        next.1,
        ap (λ (l : Lemmas). l.clauses.items) w.lemmas-is ∙ ap (λ cs. cs.items) w.in_ok-add.ensures.clauses ∙
            c.loop-number.invariant.2,
        one_proved spec fine claims c.loop-number.number c.claim-item.result lt is c.in-Some.goal_number named
            c.loop-number.lemmas.numbers.items c.loop-number.invariant.3 c.match-claim.lemmas.numbers.items
            (subst SaysProved (sym w.in-Proved.is) tt) (ap (λ (l : Lemmas). l.numbers.items) w.lemmas-is ∙
            w.in_ok-add.ensures.numbers),
      )
      | in_default-outcome w ↦ (
        next.0,
        next.1,
        ap (λ (l : Lemmas). l.clauses.items) w.lemmas-is ∙ c.loop-number.invariant.2,
        subst (λ (l : Lemmas). AreProved spec (take (c.loop-number.number + 1) claims) l.numbers.items)
            (sym w.lemmas-is) (still_proved spec fine claims c.loop-number.number c.claim-item.result lt is
            c.in-Some.goal_number named c.loop-number.lemmas.numbers.items c.loop-number.invariant.3
            w.in_default-outcome.not-Proved),
      )
    ]
