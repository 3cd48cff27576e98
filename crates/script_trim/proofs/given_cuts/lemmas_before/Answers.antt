use Rattle.std.proofs.Common.{◌≡◌, ℕ, ◌+◌, ◌<◌, [], ◌∷◌, ◌++◌, Some, length, get_or, take, refl, sym, ◌∙◌, ap, subst}
use Rattle.std.proofs.Common.{arith}
use Rattle.std.specs.Prelude.{slice_get}
use Rattle.std.proofs.lemmas.Option.{slice_get_read, slice_get_within}
use Rattle.spec_core.specs.declared.records.Goal.{Goal}
use Rattle.spec_core.specs.WellSorted.{IsWellSorted}
use Rattle.acceptance.specs.Claims.{SaysProved}
use Rattle.claimed_goals.specs.Tracking.{AreProved, IsNumberOf}
use Rattle.script_trim.specs.declared.lemmas.Lemmas.{Lemmas}
use Rattle.script_trim.proofs.TrimmedBlocks.{goal_there}
use Rattle.script_trim.proofs.TrimmedClaims.{one_proved, still_proved}
use Rattle.script_trim.proofs.given_cuts.lemmas_before.Goals as goal
use Rattle.script_trim.proofs.given_cuts.lemmas_before.Goals.{in-Proved+in_ok-add, in_default-outcome}
use Rattle.std.proofs.lemmas.List.{take_all}
use Rattle.script_trim.proofs.Passing.{got_taken}

pub unreachable-requires : goal.unreachable-requires
unreachable-requires g c =
    let above = g.O.TermOrder.above c.args.admitted.now.order in
    let spec = c.args.admitted.now.spec in
    let fine : IsWellSorted c.args.admitted.now.spec = rw (← c.admitted.view_is) c.admitted.invariant.0 in
    let claims = take c.args.count c.args.report.now.claims in
    let e : take c.args.count c.as_slice-claims.result.now ≡ take c.args.count c.args.report.now.claims = ap
    (λ cs. take c.args.count cs) c.as_slice-claims.ensures in
    let lt : c.loop-claim.claim-index < length (take c.args.count c.args.report.now.claims) = omega
    (arith, c.loop-claim-test.true, ap length e) in
    let is : c.claim-item.result ≡ get_or (take c.args.count c.args.report.now.claims) c.loop-claim.claim-index
    c.claim-item.result = c.claim-item.is ∙ ap (λ xs. get_or xs c.loop-claim.claim-index c.claim-item.result) e in
    let at = got_taken c.args.report.now.claims c.args.count c.loop-claim.claim-index c.claim-item.result
    (slice_get_read claims (length claims) c.loop-claim.claim-index c.claim-item.result refl lt is) in
    let none : (k : ℕ) (goal : Goal) → slice_get c.args.admitted.now.spec.goals k ≡ Some goal → goal.name ≡
    c.claim-item.result.goal → ⊥ = rw (← c.admitted.view_is) c.in_default.ensures in
    let found = goal_there above spec c.args.report.now c.requires.accepted c.loop-claim.claim-index
    c.claim-item.result at in
    none found.1.0 found.0 found.1.1 found.1.2

pub overflow_cast-number : goal.overflow_cast-number
overflow_cast-number g c =
    let fine : IsWellSorted c.args.admitted.now.spec = rw (← c.admitted.view_is) c.admitted.invariant.0 in
    let there : slice_get c.args.admitted.now.spec.goals c.in-Some.number ≡ Some c.in-Some._goal.now = rw
    (← c.admitted.view_is) c.in-Some.ensures.0 in
    omega (
      arith,
      slice_get_within c.args.admitted.now.spec.goals c.in-Some.number c.in-Some._goal.now there,
      fine.few_goals,
    )

pub loop-claim-preserved : goal.loop-claim-preserved
loop-claim-preserved g c =
    let spec = c.args.admitted.now.spec in
    let fine : IsWellSorted c.args.admitted.now.spec = rw (← c.admitted.view_is) c.admitted.invariant.0 in
    let claims = take c.args.count c.args.report.now.claims in
    let e : take c.args.count c.as_slice-claims.result.now ≡ take c.args.count c.args.report.now.claims = ap
    (λ cs. take c.args.count cs) c.as_slice-claims.ensures in
    let lt : c.loop-claim.claim-index < length (take c.args.count c.args.report.now.claims) = omega
    (arith, c.loop-claim-test.true, ap length e) in
    let is : c.claim-item.result ≡ get_or (take c.args.count c.args.report.now.claims) c.loop-claim.claim-index
    c.claim-item.result = c.claim-item.is ∙ ap (λ xs. get_or xs c.loop-claim.claim-index c.claim-item.result) e in
    let there : slice_get c.args.admitted.now.spec.goals c.in-Some.number ≡ Some c.in-Some._goal.now = rw
    (← c.admitted.view_is) c.in-Some.ensures.0 in
    let named : IsNumberOf spec c.claim-item.result.goal c.in-Some.number =
    (c.in-Some._goal.now, there, c.in-Some.ensures.1) in
    elim c.match-claim.branch [
      | in-Proved+in_ok-add w ↦ (
        ap (λ (l : Lemmas). l.clauses.items) w.lemmas-is ∙ ap (λ cs. cs.items) w.in_ok-add.ensures.clauses ∙
            c.loop-claim.invariant.0,
        one_proved spec fine claims c.loop-claim.claim-index c.claim-item.result lt is c.in-Some.number named
            c.loop-claim.lemmas.numbers.items c.loop-claim.invariant.1 c.match-claim.lemmas.numbers.items
            (subst SaysProved (sym w.in-Proved.is) tt)
            (ap (λ (l : Lemmas). l.numbers.items) w.lemmas-is ∙ w.in_ok-add.ensures.numbers),
      )
      | in_default-outcome w ↦ (
        ap (λ (l : Lemmas). l.clauses.items) w.lemmas-is ∙ c.loop-claim.invariant.0,
        subst (λ (l : Lemmas). AreProved spec (take (c.loop-claim.claim-index + 1) claims) l.numbers.items)
            (sym w.lemmas-is) (still_proved spec fine claims c.loop-claim.claim-index c.claim-item.result lt is
            c.in-Some.number named c.loop-claim.lemmas.numbers.items c.loop-claim.invariant.1
            w.in_default-outcome.not-Proved),
      )
    ]

pub returns-clause-proved : goal.returns-clause-proved
returns-clause-proved g c =
    let spec = c.args.admitted.now.spec in
    let claims = take c.args.count c.args.report.now.claims in
    let e : take c.args.count c.as_slice-claims.result.now ≡ take c.args.count c.args.report.now.claims = ap
    (λ cs. take c.args.count cs) c.as_slice-claims.ensures in
    subst (λ cs. AreProved spec cs c.loop-claim.lemmas.numbers.items)
    (take_all c.loop-claim.claim-index claims (omega (arith, c.loop-claim-test.false, ap length e)))
    c.loop-claim.invariant.1
