use Rattle.std.proofs.Common.{◌≡◌, ◌<◌, ◌≤◌, true, false, get_or, arith}
use Rattle.std.specs.Prelude.{is_some}
use Rattle.std.proofs.lemmas.Option.{slice_get-get_or}
use Rattle.inference_rules.specs.Answers.{clauses_of}
use Rattle.plain_search.specs.declared.candidates.Candidate.TheVariants.{Trivial}
use Rattle.plain_search.proofs.Chosen.{all, found_here, passed_here, none_found}
use Rattle.plain_search.proofs.choosing.next_step.Goals as goal

pub returns-then-is_some-clause-next : goal.returns-then-is_some-clause-next
returns-then-is_some-clause-next g c = λ start clause p q.
    let i = c.loop-candidate.candidate-index in
    let lt : i < 6 = omega (arith, c.loop-candidate-test.true) in
    let there : is_some c.in_ok-found.found ≡ true = cc (c.is_some.ensures, c.if-is_some.true) in
    found_here (g.O.TermOrder.above c.args.order.now) c.args.spec.now start (clauses_of c.args.nodes.now) clause
    i (get_or all i Trivial) (slice_get-get_or all i Trivial lt)
    (c.loop-candidate.invariant start clause p q) c.in_ok-found.found
    (c.in_ok-found.ensures.taken start clause p q) there

pub loop-candidate-preserved : goal.loop-candidate-preserved
loop-candidate-preserved g c = λ start clause p q.
    let i = c.loop-candidate.candidate-index in
    let lt : i < 6 = omega (arith, c.loop-candidate-test.true) in
    let gone : is_some c.in_ok-found.found ≡ false = cc (c.is_some.ensures, c.if-is_some.false) in
    passed_here (g.O.TermOrder.above c.args.order.now) c.args.spec.now start (clauses_of c.args.nodes.now)
    clause i (get_or all i Trivial) (slice_get-get_or all i Trivial lt)
    (c.loop-candidate.invariant start clause p q) p c.in_ok-found.found
    (c.in_ok-found.ensures.taken start clause p q) gone

pub returns-clause-next : goal.returns-clause-next
returns-clause-next g c = λ start clause p q.
    let i = c.loop-candidate.candidate-index in
    let past : 6 ≤ i = omega (arith, c.loop-candidate-test.false) in
    none_found (g.O.TermOrder.above c.args.order.now) c.args.spec.now start (clauses_of c.args.nodes.now) clause
    i past (c.loop-candidate.invariant start clause p q)
