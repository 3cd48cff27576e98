use Rattle.std.proofs.Common.{◌≡◌, ◌<◌, List, ℕ, Some, sym, subst, length}
use Rattle.std.specs.Prelude.{Result, IfOk, Ok, Err, slice_get}
use Rattle.term_core.specs.Tree.{Tree}
use Rattle.spec_core.specs.declared.records.Goal.{Goal}
use Rattle.spec_core.specs.declared.records.Spec.{Spec}
use Rattle.routine_proof.specs.Laws.{ProvesBehindClaims}
use Rattle.routine_proof.specs.Routine.{IsFirstProof}
use Rattle.proof_search.specs.declared.answers.Guided.{Guided}
use Rattle.proof_search.specs.Guided.{steps_in, IsAcceptedAfter}
use Rattle.proof_search.proofs.AcceptedProofs.{accepted_after}
use Rattle.proof_search.proofs.ListedGoals.{listed, of_listed}
use Rattle.proof_search.proofs.guiding.guided.Goals as goal

accepted_if_ok :
    {E : Type 0} (above : Tree → Tree → Type 0) (spec : Spec) (lemmas : List ℕ) (one : Goal)
    (i most : ℕ) → ProvesBehindClaims above → slice_get spec.goals i ≡ Some one →
    (result : Result Guided E) →
    IfOk result (λ found. IsFirstProof above spec lemmas one most (steps_in found)) →
    IfOk result (IsAcceptedAfter above spec lemmas one)
accepted_if_ok above spec lemmas one i most behind at (Ok found) h =
    accepted_after above behind spec lemmas one i most at found h
accepted_if_ok above spec lemmas one i most behind at (Err error) h = h

pub first_proof-requires-clause-sorted : goal.first_proof-requires-clause-sorted
first_proof-requires-clause-sorted g c =
    let within = rw (← c.admitted.view_is) at c.requires.in_range in
    let at =
    listed c.admitted.inside.spec.goals c.as_slice-goals.result.now c.args.goal
    c.index-goals-goal.result c.as_slice-goals.ensures
    (subst (λ gs. c.args.goal < length gs) (sym c.as_slice-goals.ensures) within)
    c.index-goals-goal.is in
    c.admitted.invariant.0.goals c.args.goal c.index-goals-goal.result at

pub returns-clause-first : goal.returns-clause-first
returns-clause-first g c =
    let within = rw (← c.admitted.view_is) at c.requires.in_range in
    let at =
    listed c.admitted.inside.spec.goals c.as_slice-goals.result.now c.args.goal
    c.index-goals-goal.result c.as_slice-goals.ensures
    (subst (λ gs. c.args.goal < length gs) (sym c.as_slice-goals.ensures) within)
    c.index-goals-goal.is in
    rw (← c.admitted.view_is)
    (of_listed c.admitted.inside.spec.goals c.args.goal c.index-goals-goal.result
    (λ it found. IsFirstProof (g.O.TermOrder.above c.admitted.inside.order) c.admitted.inside.spec
    c.args.lemmas.now it c.args.nodes (steps_in found)) at c.first_proof.result
    c.first_proof.ensures)

pub returns-clause-accepted : goal.returns-clause-accepted
returns-clause-accepted g c =
    let spec = c.admitted.inside.spec in
    let above = g.O.TermOrder.above c.admitted.inside.order in
    let lemmas = c.args.lemmas.now in
    let within = rw (← c.admitted.view_is) at c.requires.in_range in
    let at =
    listed spec.goals c.as_slice-goals.result.now c.args.goal c.index-goals-goal.result
    c.as_slice-goals.ensures
    (subst (λ gs. c.args.goal < length gs) (sym c.as_slice-goals.ensures) within)
    c.index-goals-goal.is in
    rw (← c.admitted.view_is)
    (of_listed spec.goals c.args.goal c.index-goals-goal.result
    (λ it found. IsAcceptedAfter above spec lemmas it found) at c.first_proof.result
    (accepted_if_ok above spec lemmas c.index-goals-goal.result c.args.goal c.args.nodes
    c.proves_behind_claims.ensures at c.first_proof.result c.first_proof.ensures))
