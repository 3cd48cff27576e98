use Rattle.std.proofs.Common.{◌<◌, sym, subst, length}
use Rattle.proof_search.specs.Stuck.{AreStuckStarts}
use Rattle.proof_search.proofs.ListedGoals.{listed, of_listed}
use Rattle.proof_search.proofs.stopping.stuck_starts.Goals as goal

pub starts_of-requires-clause-sorted : goal.starts_of-requires-clause-sorted
starts_of-requires-clause-sorted g c =
    let within = rw (← c.admitted.view_is) at c.requires.in_range in
    let at =
    listed c.admitted.inside.spec.goals c.as_slice-goals.result.now c.args.goal
    c.index-goals-goal.result c.as_slice-goals.ensures
    (subst (λ gs. c.args.goal < length gs) (sym c.as_slice-goals.ensures) within)
    c.index-goals-goal.is in
    c.admitted.invariant.0.goals c.args.goal c.index-goals-goal.result at

pub returns : goal.returns
returns g c =
    let within = rw (← c.admitted.view_is) at c.requires.in_range in
    let at =
    listed c.admitted.inside.spec.goals c.as_slice-goals.result.now c.args.goal
    c.index-goals-goal.result c.as_slice-goals.ensures
    (subst (λ gs. c.args.goal < length gs) (sym c.as_slice-goals.ensures) within)
    c.index-goals-goal.is in
    rw (← c.admitted.view_is)
    (of_listed c.admitted.inside.spec.goals c.args.goal c.index-goals-goal.result
    (λ it found. AreStuckStarts (g.O.TermOrder.above c.admitted.inside.order) c.admitted.inside.spec
    c.args.lemmas.now it found.items) at c.starts_of.result c.starts_of.ensures)
