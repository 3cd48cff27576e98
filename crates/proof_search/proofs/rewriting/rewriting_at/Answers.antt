use Rattle.std.proofs.Common.{◌≡◌, Option, true, false}
use Rattle.std.specs.Prelude.{is_some}
use Rattle.routine_proof.specs.declared.moves.Move.{Move}
use Rattle.routine_proof.specs.Candidates.{Gives}
use Rattle.term_core.proofs.Items.{if_ok_map}
use Rattle.proof_search.specs.Referring.{target_of, falling_rewriting, falling_rewritings}
use Rattle.proof_search.specs.Taking.{SaysAt, IsFound, place_of, term_of}
use Rattle.proof_search.proofs.FallingSteps.{found_in_first, found_in_second}
use Rattle.proof_search.proofs.rewriting.rewriting_at.Goals as goal

pub returns-then-is_some : goal.returns-then-is_some
returns-then-is_some g c =
    let at = c.args.at.now in
    let r = c.args.rewriting.now in
    let by = falling_rewriting (target_of r.referral.now) r.clause.now (place_of at c.args.index)
    (term_of at c.args.index) r.equation.now r.sides in
    let there : is_some c.in_ok-found.found ≡ true = cc (c.is_some.ensures, c.if-is_some.true) in
    found_in_first (Gives (SaysAt (g.O.TermOrder.above c.args.order.now) at)) (by true) (by false)
    c.in_ok-found.found there c.in_ok-found.ensures

pub returns : goal.returns
returns g c =
    let at = c.args.at.now in
    let above = g.O.TermOrder.above c.args.order.now in
    let r = c.args.rewriting.now in
    let target = target_of r.referral.now in
    let place = place_of at c.args.index in
    let term = term_of at c.args.index in
    let by = falling_rewriting target r.clause.now place term r.equation.now r.sides in
    let there : is_some c.in_ok-found.found ≡ false = cc (c.is_some.ensures, c.if-is_some.false) in
    if_ok_map c.rewriting_from-2.result (IsFound above at (by false))
    (IsFound above at (falling_rewritings target r.clause.now place term r.equation.now r.sides))
    (λ (found : Option Move) second.
    found_in_second (Gives (SaysAt above at)) (by true) (by false) c.in_ok-found.found found there
    c.in_ok-found.ensures second)
    c.rewriting_from-2.ensures
