use Rattle.std.proofs.Common.{◌≡◌, ◌+◌, ◌<◌, ◌≤◌, ℕ, true, false, length, arith}
use Rattle.std.specs.Prelude.{is_some}
use Rattle.std.specs.List.{range_with_len}
use Rattle.routine_proof.specs.Candidates.{Gives}
use Rattle.proof_search.specs.declared.numbered.Numbered.TheVariants.{Match}
use Rattle.proof_search.specs.Taking.{SaysAt}
use Rattle.proof_search.specs.Numbers.{numbered}
use Rattle.proof_search.proofs.Walking.{found_at, passed_at, none_found, number_at, range_long}
use Rattle.proof_search.proofs.numbered.first_match.Goals as goal

pub returns-then-is_some : goal.returns-then-is_some
returns-then-is_some g c =
    let says = SaysAt (g.O.TermOrder.above c.args.order.now) c.args.at.now in
    let k = c.loop-passed.passed in
    let n = length c.args.at.now.here.now.conclusions in
    let lt : k < n = omega (arith, c.loop-passed-test.true, c.count-count.ensures) in
    let found = c.in_ok-found.found in
    let there : is_some found ≡ true = cc (c.is_some.ensures, c.if-is_some.true) in
    found_at (Gives says) (range_with_len 1 n)
    (λ (k : ℕ). numbered (Match k) c.args.at.now.here.now) k (k + 1) found
    (number_at n k lt) c.loop-passed.invariant there c.in_ok-found.ensures

pub loop-passed-preserved : goal.loop-passed-preserved
loop-passed-preserved g c =
    let says = SaysAt (g.O.TermOrder.above c.args.order.now) c.args.at.now in
    let k = c.loop-passed.passed in
    let n = length c.args.at.now.here.now.conclusions in
    let lt : k < n = omega (arith, c.loop-passed-test.true, c.count-count.ensures) in
    let found = c.in_ok-found.found in
    let there : is_some found ≡ false = cc (c.is_some.ensures, c.if-is_some.false) in
    passed_at (Gives says) (range_with_len 1 n)
    (λ (k : ℕ). numbered (Match k) c.args.at.now.here.now) k (k + 1) found
    (number_at n k lt) c.loop-passed.invariant there c.in_ok-found.ensures

pub returns : goal.returns
returns g c =
    let says = SaysAt (g.O.TermOrder.above c.args.order.now) c.args.at.now in
    let n = length c.args.at.now.here.now.conclusions in
    let past : length (range_with_len 1 n) ≤ c.loop-passed.passed = omega
    (arith, range_long 1 n, c.count-count.ensures, c.loop-passed-test.false) in
    none_found (Gives says) (range_with_len 1 n)
    (λ (k : ℕ). numbered (Match k) c.args.at.now.here.now) c.loop-passed.passed past
    c.loop-passed.invariant
