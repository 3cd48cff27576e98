-- Nodes by their numbers.
use Rattle.std.proofs.Common.{◌≡◌, ℕ, ◌<◌, List, Option, Some, None, ap, sym, ◌∙◌, subst, arith, length, get_or}
use Rattle.std.specs.Prelude.{slice_get, option_map, option_to_list}
use Rattle.std.proofs.lemmas.List.{append-nil}
use Rattle.std.proofs.lemmas.Option.{slice_get-map, slice_get-get_or}
use Rattle.clause_core.specs.declared.clauses.Clause.{Clause}
use Rattle.inference_rules.specs.declared.nodes.Node.{Node}
use Rattle.inference_rules.specs.Answers.{clauses_of}
use Rattle.routine_proof.specs.Candidates.{each}
use Rattle.routine_proof.specs.First.{NoneIs, IsFirst}
use Rattle.routine_proof.specs.Ways.{Node as WayNode, ancestors}
use Rattle.proof_search.specs.declared.at.At.{At}
use Rattle.proof_search.specs.Building.{nodes_in}
use Rattle.proof_search.specs.Chosen.{ancestors_at}
use Rattle.proof_search.specs.Taking.{IsAt}
use Rattle.proof_search.proofs.BuiltNodes.{there, nodes_length}

-- the clause of a node that is listed
pub clause_listed : (nodes : List Node) (k : ℕ) (node : Node) → slice_get nodes k ≡ Some node →
    slice_get (clauses_of nodes) k ≡ Some node.clause
clause_listed nodes k node e = slice_get-map (λ (n : Node). n.clause) nodes k
    ∙ ap (λ (o : Option Node). option_map (λ (n : Node). n.clause) o) e

pub clause_not_listed : (nodes : List Node) (k : ℕ) → slice_get nodes k ≡ None →
    slice_get (clauses_of nodes) k ≡ None
clause_not_listed nodes k e = slice_get-map (λ (n : Node). n.clause) nodes k
    ∙ ap (λ (o : Option Node). option_map (λ (n : Node). n.clause) o) e

-- the clause of a node that is read
pub clause_read : (nodes : List Node) (k : ℕ) (d : Node) → k < length nodes →
    slice_get (clauses_of nodes) k ≡ Some (get_or nodes k d).clause
clause_read nodes k d lt = clause_listed nodes k (get_or nodes k d) (slice_get-get_or nodes k d lt)

-- candidates by a clause if it is listed
module _ {B R : Type 0} (is : B → R → Type 0) (f : Clause → List B) where
  pub none_listed : (o : Option Clause) → o ≡ None → NoneIs is (each (option_to_list o) f)
  unfolding each
  none_listed o e = subst (λ (p : Option Clause). NoneIs is (each (option_to_list p) f)) (sym e) tt

  pub found_listed : (o : Option Clause) (d : Clause) (found : Option R) → o ≡ Some d →
      IsFirst is (f d) found → IsFirst is (each (option_to_list o) f) found
  unfolding each
  found_listed o d found e first =
      subst (λ (p : Option Clause). IsFirst is (each (option_to_list p) f) found) (sym e)
      (subst (λ (l : List B). IsFirst is l found) (sym (append-nil (f d))) first)

-- the ancestors of the node
module _ (at : At) (is : IsAt at) where
  pub ancestors_are :
      (here : WayNode) → slice_get (nodes_in at.building.now) at.number ≡ Some here →
      ancestors_at at ≡ ancestors here.way
  unfolding each
  ancestors_are here e =
      ap (λ (o : Option WayNode). each (option_to_list o) (λ (n : WayNode). ancestors n.way)) e
      ∙ append-nil (ancestors here.way)

  ancestors_found :
      (numbers : List ℕ) →
      ((here : WayNode) → slice_get (nodes_in at.building.now) at.number ≡ Some here →
      numbers ≡ ancestors here.way) →
      numbers ≡ ancestors_at at
  ancestors_found numbers found =
      let long = nodes_length at.building.now is.whole in
      let node = there (nodes_in at.building.now) at.number (omega (arith, long, is.in_range)) in
      found node.0 node.1 ∙ sym (ancestors_are node.0 node.1)

  -- by ancestors that are found
  pub by_ancestors :
      {B R : Type 0} (found_by : B → R → Type 0) (numbers : List ℕ) →
      ((here : WayNode) → slice_get (nodes_in at.building.now) at.number ≡ Some here →
      numbers ≡ ancestors here.way) →
      (f : ℕ → List B) (found : Option R) → IsFirst found_by (each numbers f) found →
      IsFirst found_by (each (ancestors_at at) f) found
  by_ancestors {B} {R} found_by numbers climbed f found first =
      subst (λ (ns : List ℕ). IsFirst found_by (each ns f) found)
      (ancestors_found numbers climbed) first
