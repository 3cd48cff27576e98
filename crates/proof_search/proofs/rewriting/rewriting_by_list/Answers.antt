use Rattle.std.proofs.Common.{List, subst}
use Rattle.std.specs.Prelude.{IfOk}
use Rattle.term_core.specs.Tree.{Tree}
use Rattle.clause_core.specs.declared.steps.Place.{Place}
use Rattle.clause_core.specs.declared.steps.Step.{Step}
use Rattle.routine_proof.specs.Candidates.{all_less}
use Rattle.proof_search.specs.Referring.{target_of, rewriting_step}
use Rattle.proof_search.specs.Taking.{SaysAt, IsTaken}
use Rattle.proof_search.proofs.rewriting.rewriting_by_list.Goals as goal

pub returns : goal.returns
returns g c =
    let says = SaysAt (g.O.TermOrder.above c.args.order.now) c.args.at.now in
    let target = target_of c.args.referral.now in
    subst
    (λ (x : Place × List Tree).
    IfOk c.taken.result (IsTaken says (rewriting_step target x.0 x.1 c.args.left) all_less))
    (λ i. (c.in_ok-place.ensures i, c.in_ok-terms.ensures i))
    (subst (λ (s : Step). IfOk c.taken.result (IsTaken says s all_less)) c.in_ok-step.ensures
    c.taken.ensures)
