use Rattle.std.proofs.Common.{◌<◌, length, sym, subst}
use Rattle.proof_search.specs.Guided.{IsAcceptedAfter}
use Rattle.freer_search.proofs.Checked.{accepted_if_ok}
use Rattle.freer_search.proofs.ListedGoals.{listed, of_listed}
use Rattle.freer_search.proofs.finding.freer.Goals as goal

pub returns-clause-accepted : goal.returns-clause-accepted
returns-clause-accepted g c =
    let spec = c.admitted.inside.spec in
    let above = g.O.TermOrder.above c.admitted.inside.order in
    let lemmas = c.args.lemmas.now in
    let within = rw (← c.admitted.view_is) at c.requires.in_range in
    let ensures = rw (← c.admitted.view_is) at c.checked.ensures in
    let at =
    listed spec.goals c.as_slice-goals.result.now c.args.goal c.index-goals-goal.result
    c.as_slice-goals.ensures
    (subst (λ gs. c.args.goal < length gs) (sym c.as_slice-goals.ensures) within)
    c.index-goals-goal.is in
    rw (← c.admitted.view_is)
    (of_listed spec.goals c.args.goal c.index-goals-goal.result
    (λ it found. IsAcceptedAfter above spec lemmas it found) at c.checked.result
    (accepted_if_ok above spec lemmas c.index-goals-goal.result c.args.goal c.args.bounds.nodes
    c.proves_behind_claims.ensures at c.checked.result ensures))
