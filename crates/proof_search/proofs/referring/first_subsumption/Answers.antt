use Rattle.std.proofs.Common.{◌≡◌, true, false, None, get_or, ◌∙◌}
use Rattle.std.specs.Prelude.{is_some}
use Rattle.std.proofs.lemmas.Option.{slice_get-get_or}
use Rattle.routine_proof.specs.Candidates.{Gives}
use Rattle.proof_search.specs.Chosen.{subsumptions_by}
use Rattle.proof_search.specs.Taking.{SaysAt}
use Rattle.proof_search.proofs.ListedNodes.{by_ancestors}
use Rattle.proof_search.proofs.Walking.{found_at, passed_at, none_found}
use Rattle.proof_search.proofs.referring.first_subsumption.Goals as goal

pub returns-then-is_some : goal.returns-then-is_some
returns-then-is_some g c =
    let says = SaysAt (g.O.TermOrder.above c.args.order.now) c.args.at.now in
    let k = c.loop-number.number-index in
    let found = c.in_ok-found.found in
    let numbers = c.as_slice-number-items.result.now in
    let there : is_some found ≡ true = cc (c.is_some.ensures, c.if-is_some.true) in
    by_ancestors c.args.at.now c.requires (Gives says) numbers
    (λ here e. c.as_slice-number-items.ensures.value ∙ c.in_ok-ancestors.ensures here e)
    (subsumptions_by c.args.at.now) found
    (found_at (Gives says) numbers (subsumptions_by c.args.at.now) k (get_or numbers k 0) found
    (slice_get-get_or numbers k 0 c.loop-number-test.true) c.loop-number.invariant there
    c.in_ok-found.ensures)

pub loop-number-preserved : goal.loop-number-preserved
loop-number-preserved g c =
    let says = SaysAt (g.O.TermOrder.above c.args.order.now) c.args.at.now in
    let k = c.loop-number.number-index in
    let found = c.in_ok-found.found in
    let numbers = c.as_slice-number-items.result.now in
    let there : is_some found ≡ false = cc (c.is_some.ensures, c.if-is_some.false) in
    passed_at (Gives says) numbers (subsumptions_by c.args.at.now) k (get_or numbers k 0) found
    (slice_get-get_or numbers k 0 c.loop-number-test.true) c.loop-number.invariant there
    c.in_ok-found.ensures

pub returns : goal.returns
returns g c =
    let says = SaysAt (g.O.TermOrder.above c.args.order.now) c.args.at.now in
    let k = c.loop-number.number-index in
    let numbers = c.as_slice-number-items.result.now in
    by_ancestors c.args.at.now c.requires (Gives says) numbers
    (λ here e. c.as_slice-number-items.ensures.value ∙ c.in_ok-ancestors.ensures here e)
    (subsumptions_by c.args.at.now) None
    (none_found (Gives says) numbers (subsumptions_by c.args.at.now) k c.loop-number-test.false
    c.loop-number.invariant)
