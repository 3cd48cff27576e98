-- A node after others.
use Rattle.std.proofs.Common.{◌≡◌, ℕ, zero, suc, List, [], ◌∷◌, ◌++◌, Some, None, subst}
use Rattle.std.specs.Prelude.{slice_get}
use Rattle.spec_core.specs.Sig.{Sig}
use Rattle.clause_core.specs.declared.clauses.Clause.{Clause}
use Rattle.descent.specs.SortedChildren.{IsNode}
use Rattle.inference_rules.specs.declared.nodes.Node.{Node}
use Rattle.inference_rules.specs.Answers.{clauses_of}
use Rattle.inference_rules.specs.Nodes.{AreNodes}

pub with_node : (sig : Sig) (nodes : List Node) (n : Node) → AreNodes sig (clauses_of nodes) →
    IsNode sig n.clause → AreNodes sig (clauses_of (nodes ++ n ∷ []))
with_node sig [] n before last zero d at = let q : Some n.clause ≡ Some d = at in
    subst (λ c. IsNode sig c) (let e : n.clause ≡ d = cc in e) last
with_node sig [] n before last (suc j) d at = absurd (let q : None ≡ Some d = at in cc)
with_node sig (m ∷ nodes) n before last zero d at = before zero d at
with_node sig (m ∷ nodes) n before last (suc j) d at = with_node sig nodes n (λ i e is. before (suc i) e is) last j d at
