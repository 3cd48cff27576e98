use Rattle.std.proofs.Common.{◌≡◌, ℕ, ◌<◌, List, Some, Result, Ok, Err, refl, ap, sym, ◌∙◌, subst, length, arith}
use Rattle.std.specs.Prelude.{IfOk, slice_get}
use Rattle.std.proofs.lemmas.Option.{slice_get_read}
use Rattle.clause_core.specs.declared.clauses.Clause.{Clause}
use Rattle.inference_rules.specs.declared.nodes.Node.{Node}
use Rattle.proof_search.specs.declared.building.Building.{Building}
use Rattle.proof_search.specs.Walks.{IsNextClause}
use Rattle.proof_search.proofs.ListedNodes.{clause_listed}
use Rattle.proof_search.proofs.passing.next_clause.Goals as goal

-- a copy of the node's clause is the next node's
copy_is :
    {E : Type 0} (r : Result Clause E) (b : Building) (node : Node) →
    slice_get b.block.nodes.items (length b.steps.items) ≡ Some node →
    IfOk r (λ made. made ≡ node.clause) → IfOk r (IsNextClause b)
copy_is (Ok made) b node at e =
    clause_listed b.block.nodes.items (length b.steps.items) node at
    ∙ ap (λ (c : Clause). Some c) (sym e)
copy_is (Err error) b node at e = tt

pub returns : goal.returns
returns c =
    let b = c.args.building.now in
    let k : c.len.result ≡ length b.steps.items = omega (arith, c.len.ensures, b.steps.ok.0) in
    let same = c.as_slice-nodes.ensures.value in
    let lt : c.len.result < length c.as_slice-nodes.result.now =
    omega (arith, k, c.requires, ap length same) in
    let at : slice_get c.as_slice-nodes.result.now c.len.result ≡ Some c.index-nodes-len.result =
    slice_get_read c.as_slice-nodes.result.now _ c.len.result c.index-nodes-len.result refl lt
    c.index-nodes-len.is in
    copy_is c.copied.result b c.index-nodes-len.result
    (subst
    (λ (p : List Node × ℕ). slice_get p.0 p.1 ≡ Some c.index-nodes-len.result)
    (λ i. (same i, k i)) at)
    c.copied.ensures
