use Rattle.std.proofs.Common.{ℕ, ◌++◌, List, [], ◌∷◌, Option, ap, ◌∙◌}
use Rattle.fitting_lists.specs.declared.leading_equations.LeadingPlace.{LeadingPlace}
use Rattle.inference_rules.specs.declared.nodes.Node.{Node as ClauseNode}
use Rattle.proof_search.proofs.AddedNodes.{same_nodes}
use Rattle.proof_search.proofs.LeadingPlaces.{places_more}
use Rattle.proof_search.proofs.building.Building.new.Goals as goal

pub returns-clause-begins : goal.returns-clause-begins
returns-clause-begins g c =
    let node : ClauseNode = record { clause = c.args.clause } in
    let place = c.in_ok-leading.field-0 in
    let nodes = same_nodes c.in_ok-block.block.nodes.items (node ∷ []) c.in_ok-block.ensures.nodes in
    record {
      nodes = nodes;
      parents =
          c.in_ok-push-2.ensures.items
          ∙ ap (λ (ps : List ℕ). ps ++ 0 ∷ []) c.new-parents.ensures.items;
      steps = c.new-2.ensures.items;
      links = c.in_ok-block.ensures.links;
      leadings =
          places_more [] c.in_ok-block.block.nodes.items [] c.push.new.self.items node place tt
          c.in_ok-leading.ensures nodes
          (c.in_ok-push.ensures.items
          ∙ ap (λ (ps : List (Option LeadingPlace)). ps ++ place ∷ []) c.new-leadings.ensures.items);
    }
