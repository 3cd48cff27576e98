-- Clauses of nodes and of children by their places.
use Rattle.std.proofs.Common.{◌≡◌, ℕ, zero, suc, ◌<◌, List, [], ◌∷◌, Some, None, map, length, get_or, refl, subst}
use Rattle.std.proofs.Common.{arith}
use Rattle.std.specs.Prelude.{slice_get}
use Rattle.spec_core.specs.Sig.{Sig}
use Rattle.clause_core.specs.declared.clauses.Clause.{Clause}
use Rattle.clause_core.specs.declared.answers.Child.{Child}
use Rattle.clause_core.specs.declared.answers.Children.{Children}
use Rattle.descent.specs.SortedChildren.{IsNode}
use Rattle.inference_rules.specs.declared.nodes.Node.{Node}
use Rattle.inference_rules.specs.Answers.{clauses_of}
use Rattle.inference_rules.specs.Nodes.{AreNodes, clauses_made}

-- the clause of the node at a place
pub clause_at : (nodes : List Node) (i : ℕ) (n : Node) → i < length nodes →
    slice_get (clauses_of nodes) i ≡ Some (get_or nodes i n).clause
clause_at [] i n lt = absurd (omega arith)
clause_at (m ∷ nodes) zero n lt = refl
clause_at (m ∷ nodes) (suc i) n lt = clause_at nodes i n (omega arith)

child_at : (ds : List Child) (i : ℕ) (c : Clause) → slice_get (map (λ (d : Child). d.clause) ds) i ≡ Some c →
    (d : Child) × (slice_get ds i ≡ Some d) × (d.clause ≡ c)
child_at [] i c at = absurd (let q : None ≡ Some c = at in cc)
child_at (d ∷ ds) zero c at = let q : Some d.clause ≡ Some c = at in (d, refl, cc)
child_at (d ∷ ds) (suc i) c at = child_at ds i c at

-- children that can each be a node
pub made_nodes : (sig : Sig) (made : Children) → ((i : ℕ) (d : Child) → slice_get made.clauses i ≡ Some d →
    IsNode sig d.clause) → AreNodes sig (clauses_made made)
made_nodes sig made each j c at = let d = child_at made.clauses j c at in subst (λ x. IsNode sig x) d.2 (each j d.0 d.1)
