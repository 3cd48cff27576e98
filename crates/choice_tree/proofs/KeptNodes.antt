-- The nodes of a tree stay nodes of a block as some are read, added or taken away.
use Rattle.std.proofs.Common.{◌≡◌, ◌∙◌, ◌<◌, ℕ, zero, suc, List, [], ◌∷◌, ◌++◌, Some, None, refl, sym, ap, subst, length, take, get_or}
use Rattle.std.specs.Prelude.{option_map}
use Rattle.std.proofs.lemmas.List.{map-append}
use Rattle.std.proofs.lemmas.Option.{slice_get-map, slice_get_read}
use Rattle.spec_core.specs.declared.records.Spec.{Spec}
use Rattle.spec_core.specs.Sig.{Sig}
use Rattle.clause_core.specs.declared.answers.Children.{Children}
use Rattle.descent.specs.SortedChildren.{IsNode}
use Rattle.inference_rules.specs.declared.nodes.Node.{Node}
use Rattle.inference_rules.specs.Answers.{clauses_of}
use Rattle.inference_rules.specs.Nodes.{AreNodes, clauses_made}
use Rattle.block_steps.proofs.Taking.{nodes_joined}
use Rattle.choice_tree.specs.Trees.{IsTree}

-- the node that is read is one
pub node_read :
    (sig : Sig) (ns : List Node) (i : ℕ) (one : Node) → AreNodes sig (clauses_of ns) →
    i < length ns → one ≡ get_or ns i one → IsNode sig one.clause
node_read sig ns i one are lt is =
    are i one.clause
    (slice_get-map (λ (n : Node). n.clause) ns i
    ∙ ap (option_map (λ (n : Node). n.clause)) (slice_get_read ns _ i one refl lt is))

nodes_taken :
    (sig : Sig) (ns : List Node) (k : ℕ) → AreNodes sig (clauses_of ns) →
    AreNodes sig (clauses_of (take k ns))
nodes_taken sig ns zero are j d at = absurd (let q : None ≡ Some d = at in cc)
nodes_taken sig [] (suc k) are j d at = absurd (let q : None ≡ Some d = at in cc)
nodes_taken sig (n ∷ ns) (suc k) are zero d at = are 0 d at
nodes_taken sig (n ∷ ns) (suc k) are (suc j) d at =
    nodes_taken sig ns k (λ i e p. are (suc i) e p) j d at

pub tree_taken :
    (spec : Spec) (ns left : List Node) (k : ℕ) → left ≡ take k ns → IsTree spec ns →
    IsTree spec left
tree_taken spec ns left k is tree =
    subst (IsTree spec) (sym is)
    (record { fine = tree.fine; nodes = nodes_taken spec.sig ns k tree.nodes })

pub tree_joined :
    (spec : Spec) (ns more all : List Node) (made : Children) → all ≡ ns ++ more →
    clauses_of more ≡ clauses_made made → AreNodes spec.sig (clauses_made made) → IsTree spec ns →
    IsTree spec all
tree_joined spec ns more all made is same are tree =
    subst (IsTree spec) (sym is)
    (record {
      fine = tree.fine;
      nodes =
          subst (AreNodes spec.sig) (sym (map-append (λ (n : Node). n.clause) ns more))
          (nodes_joined spec.sig (clauses_of ns) (clauses_of more) tree.nodes
          (subst (AreNodes spec.sig) (sym same) are));
    })
