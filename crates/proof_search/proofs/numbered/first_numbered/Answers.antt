use Rattle.std.proofs.Common.{◌≡◌, ◌+◌, ◌<◌, ◌≤◌, ℕ, true, false, length, subst, arith}
use Rattle.std.specs.Prelude.{is_some}
use Rattle.std.specs.List.{range_with_len}
use Rattle.clause_core.specs.declared.steps.Step.{Step}
use Rattle.routine_proof.specs.Candidates.{Gives, certain, nothing}
use Rattle.proof_search.specs.Taking.{SaysAt, IsTaken}
use Rattle.proof_search.specs.Numbers.{step_of, equations_named}
use Rattle.proof_search.proofs.Walking.{found_at, passed_at, none_found, number_at, range_long}
use Rattle.proof_search.proofs.TakenSteps.{certain_found}
use Rattle.proof_search.proofs.numbered.first_numbered.Goals as goal

pub returns-then-is_some : goal.returns-then-is_some
returns-then-is_some g c =
    let says = SaysAt (g.O.TermOrder.above c.args.order.now) c.args.at.now in
    let k = c.loop-passed.passed in
    let n = length (equations_named c.args.entry c.args.at.now.here.now) in
    let lt : k < n = omega (arith, c.loop-passed-test.true, c.count-count.ensures) in
    let found = c.in_ok-found.found in
    let there : is_some found ≡ true = cc (c.is_some.ensures, c.if-is_some.true) in
    found_at (Gives says) (range_with_len 1 n) (λ (k : ℕ). certain (step_of c.args.entry k)) k
    (k + 1) found (number_at n k lt) c.loop-passed.invariant there
    (certain_found says (step_of c.args.entry (k + 1)) found
    (subst (λ (s : Step). IsTaken says s nothing found) c.step-step.ensures
    c.in_ok-found.ensures))

pub loop-passed-preserved : goal.loop-passed-preserved
loop-passed-preserved g c =
    let says = SaysAt (g.O.TermOrder.above c.args.order.now) c.args.at.now in
    let k = c.loop-passed.passed in
    let n = length (equations_named c.args.entry c.args.at.now.here.now) in
    let lt : k < n = omega (arith, c.loop-passed-test.true, c.count-count.ensures) in
    let found = c.in_ok-found.found in
    let there : is_some found ≡ false = cc (c.is_some.ensures, c.if-is_some.false) in
    passed_at (Gives says) (range_with_len 1 n) (λ (k : ℕ). certain (step_of c.args.entry k)) k
    (k + 1) found (number_at n k lt) c.loop-passed.invariant there
    (certain_found says (step_of c.args.entry (k + 1)) found
    (subst (λ (s : Step). IsTaken says s nothing found) c.step-step.ensures
    c.in_ok-found.ensures))

pub returns : goal.returns
returns g c =
    let says = SaysAt (g.O.TermOrder.above c.args.order.now) c.args.at.now in
    let n = length (equations_named c.args.entry c.args.at.now.here.now) in
    let past : length (range_with_len 1 n) ≤ c.loop-passed.passed = omega
    (arith, range_long 1 n, c.count-count.ensures, c.loop-passed-test.false) in
    none_found (Gives says) (range_with_len 1 n)
    (λ (k : ℕ). certain (step_of c.args.entry k)) c.loop-passed.passed past
    c.loop-passed.invariant
