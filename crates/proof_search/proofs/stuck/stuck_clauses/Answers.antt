use Rattle.std.proofs.Common.{◌≡◌, List, Some, Result, Ok, Err, map, sym, subst}
use Rattle.std.specs.Prelude.{IfOk, slice_get}
use Rattle.spec_core.specs.declared.records.Goal.{Goal}
use Rattle.clause_core.specs.declared.clauses.Clause.{Clause}
use Rattle.proof_search.specs.declared.stuck.Stuck.{Stuck}
use Rattle.proof_search.specs.Stuck.{AreStuckClauses}
use Rattle.proof_search.proofs.StuckNodes.{stuck_clauses_are}
use Rattle.proof_search.proofs.stuck.stuck_clauses.Goals as goal

-- what is so of these clauses is so of the same ones
of_same :
    {V E : Type 0} (r : Result V E) (items : V → List Clause) (clauses : List Clause)
    (Holds : List Clause → Type 0) → Holds clauses → IfOk r (λ v. items v ≡ clauses) →
    IfOk r (λ v. Holds (items v))
of_same (Ok v) items clauses Holds h e = subst Holds (sym e) h
of_same (Err error) items clauses Holds h e = tt

pub returns : goal.returns
returns g c =
    let above = g.O.TermOrder.above c.args.admitted.now.order in
    let spec = c.args.admitted.now.spec in
    let lemmas = c.args.lemmas.now in
    of_same c.clauses.result (λ v. v.items)
    (map (λ (s : Stuck). s.clause) c.in_ok-stuck.stuck.items)
    (λ (cs : List Clause). (it : Goal) → slice_get spec.goals c.args.goal ≡ Some it →
    AreStuckClauses above spec lemmas it cs)
    (λ it at. stuck_clauses_are above spec lemmas it c.in_ok-stuck.stuck.items
    (c.in_ok-stuck.ensures it at))
    c.clauses.ensures
