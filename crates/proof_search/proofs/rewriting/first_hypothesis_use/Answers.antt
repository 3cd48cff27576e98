use Rattle.std.proofs.Common.{◌≡◌, List, Option, Some, sym, subst}
use Rattle.std.specs.Prelude.{slice_get}
use Rattle.clause_core.specs.declared.clauses.Clause.{Clause}
use Rattle.inference_rules.specs.Answers.{clauses_of}
use Rattle.inference_rules.specs.declared.nodes.Node.{Node}
use Rattle.routine_proof.specs.declared.moves.Move.{Move}
use Rattle.routine_proof.specs.Candidates.{Gives, each}
use Rattle.proof_search.specs.Chosen.{clause_of}
use Rattle.proof_search.specs.Referring.{node, rewritings}
use Rattle.proof_search.specs.Taking.{SaysAt, IsFound}
use Rattle.term_core.proofs.Items.{if_ok_map}
use Rattle.proof_search.proofs.ListedNodes.{clause_listed, found_listed}
use Rattle.proof_search.proofs.rewriting.first_hypothesis_use.Goals as goal

pub first_rewriting-requires-clause-sorted : goal.first_rewriting-requires-clause-sorted
first_rewriting-requires-clause-sorted g c =
    (c.requires.at.nodes 0 _ (clause_listed c.args.at.now.nodes.now 0 c.in-Some.first.now
    (sym c.in-Some.ensures.value))).sorted

pub returns : goal.returns
returns g c =
    let at = c.args.at.now in
    let above = g.O.TermOrder.above c.args.order.now in
    if_ok_map c.first_rewriting.result (IsFound above at
    (rewritings at.here.now (node 0) c.in-Some.first.now.clause))
    (IsFound above at (each (clause_of at 0) (rewritings at.here.now (node 0))))
    (λ (found : Option Move) first.
    found_listed (Gives (SaysAt above at)) (λ (d : Clause). rewritings at.here.now (node 0) d)
    (slice_get (clauses_of at.nodes.now) 0) c.in-Some.first.now.clause found
    (clause_listed at.nodes.now 0 c.in-Some.first.now (sym c.in-Some.ensures.value)) first)
    c.first_rewriting.ensures

pub first_rewriting-requires-clause-referred : goal.first_rewriting-requires-clause-referred
first_rewriting-requires-clause-referred g c =
    clause_listed c.args.at.now.nodes.now 0 c.in-Some.first.now (sym c.in-Some.ensures.value)

pub first_rewriting-requires-clause-falling : goal.first_rewriting-requires-clause-falling
first_rewriting-requires-clause-falling g c =
    let listed = clause_listed c.args.at.now.nodes.now 0 c.in-Some.first.now
    (sym c.in-Some.ensures.value) in
    c.requires.sides.first c.in-Some.first.now.clause
    (subst (λ (ns : List Node). slice_get (clauses_of ns) 0 ≡ Some c.in-Some.first.now.clause)
    c.requires.at.own listed)
