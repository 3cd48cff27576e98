-- Nodes that are made, by their numbers.
use Rattle.std.proofs.Common.{◌≡◌, ℕ, ◌<◌, ◌≤◌, List, Some, None, refl, ap, sym, ◌∙◌, length, get_or}
use Rattle.std.specs.Prelude.{slice_get, option_map}
use Rattle.std.proofs.lemmas.Option.{slice_get-map, slice_get_read, slice_get_past}
use Rattle.clause_core.specs.Referred.{NodeAt}
use Rattle.inference_rules.specs.declared.nodes.Node.{Node}
use Rattle.inference_rules.specs.Answers.{clauses_of}

pub node_there :
    (nodes : List Node) (n : ℕ) (node : Node) → n < length nodes → node ≡ get_or nodes n node →
    (at : NodeAt (clauses_of nodes) n) × (at.clause ≡ node.clause)
node_there nodes n node lt is =
    let here : slice_get nodes n ≡ Some node = slice_get_read nodes (length nodes) n node refl lt is in (
      record {
        clause = node.clause;
        is = slice_get-map (λ (node : Node). node.clause) nodes n
            ∙ ap (λ o. option_map (λ (node : Node). node.clause) o) here;
      },
      refl,
    )

pub no_node : (nodes : List Node) (n : ℕ) → length nodes ≤ n → NodeAt (clauses_of nodes) n → ⊥
no_node nodes n past at =
    let none : slice_get (clauses_of nodes) n ≡ None = slice_get-map (λ (node : Node). node.clause) nodes n
    ∙ ap (λ o. option_map (λ (node : Node). node.clause) o) (slice_get_past nodes n past) in
    let q : None ≡ Some at.clause = sym none ∙ at.is in
    cc
