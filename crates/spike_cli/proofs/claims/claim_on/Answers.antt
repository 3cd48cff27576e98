use Rattle.std.proofs.Common.{◌≡◌, sym, subst}
use Rattle.clause_core.specs.Admitted.{IsAdmitted}
use Rattle.spec_order.specs.Orders.{order_of}
use Rattle.spec_order.proofs.OwnOrders.{by_own_order}
use Rattle.routine_proof.specs.Laws.{ProvesBehindClaims}
use Rattle.soundness.specs.AcceptedAreTrue.{AcceptedAreTrue}
use Rattle.spike_cli.proofs.TrueClaims.{claim_made, looked_for, not_open}
use Rattle.spike_cli.proofs.claims.claim_on.Goals as goal
use Rattle.spike_cli.proofs.claims.claim_on.Goals.{in-Open+in_ok-outcome-in-Open, in_default}

pub returns : goal.returns
returns c =
    let spec = c.admitted.inside.spec in
    let own =
    subst (λ a. a.order ≡ order_of a.spec) (sym c.admitted.view_is) c.requires.ordered in
    let sound = by_own_order AcceptedAreTrue spec own c.accepted_are_true.ensures in
    let behind = by_own_order ProvesBehindClaims spec own c.proves_behind_claims.ensures in
    let admitted = by_own_order (λ above. IsAdmitted above spec) spec own c.admitted.invariant.1 in
    let one = c.args.goal.goal.now in
    let listed = rw (← c.admitted.view_is) at c.requires.listed in
    let known = rw (← c.admitted.view_is) at c.requires.lemmas in
    let searched = c.in_ok-name.field-0 in
    let made = c.match-outcome.outcome in
    let lemmas = c.args.lemmas.now in
    rw (← c.admitted.view_is)
    (claim_made spec sound behind c.admitted.invariant.0 admitted one (c.args.goal.number, listed)
    c.args.bounds lemmas known searched c.in_ok-name.ensures made
    (elim c.match-outcome.branch [
      | in-Open+in_ok-outcome-in-Open w ↦ looked_for c.args.bounds spec lemmas one searched.outcome
          w.in-Open.searched w.in-Open.is made w.in_ok-outcome-in-Open.outcome w.outcome-is
          (rw (← c.admitted.view_is) at w.in_ok-outcome-in-Open.ensures)
      | in_default w ↦ not_open c.args.bounds spec lemmas one searched.outcome w.in_default.not-Open
          made w.outcome-is
    ]))
