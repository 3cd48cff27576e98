-- What the children of a step add to a block that is built: their nodes, the number of their parent, and the places of
-- their leading equations.
use Rattle.std.proofs.Common.{◌≡◌, ℕ, ◌<◌, List, [], ◌∷◌, ◌++◌, ◌+◌, Option, map, take, length, get_or, refl, ap, sym}
use Rattle.std.proofs.Common.{◌∙◌, arith, append_assoc}
use Rattle.std.proofs.lemmas.List.{map-append}
use Rattle.term_core.proofs.Items.{taken_next}
use Rattle.clause_core.specs.declared.answers.Child.{Child}
use Rattle.fitting_lists.specs.declared.leading_equations.LeadingPlace.{LeadingPlace}
use Rattle.fitting_lists.specs.Leading.{IsPlace}
use Rattle.inference_rules.specs.declared.nodes.Node.{Node as ClauseNode}
use Rattle.inference_rules.specs.Answers.{clauses_of}
use Rattle.proof_search.specs.declared.building.Building.{Building}
use Rattle.proof_search.specs.Building.{child_nodes, child_parents}
use Rattle.proof_search.specs.Leading.{ArePlaces}
use Rattle.proof_search.proofs.LeadingPlaces.{places_more}

-- nodes are the same if their clauses are
pub same_nodes : (nodes others : List ClauseNode) → clauses_of nodes ≡ clauses_of others → nodes ≡ others
same_nodes [] [] e = refl
same_nodes [] (n ∷ others) e = absurd (omega (arith, ap length e))
same_nodes (n ∷ nodes) [] e = absurd (omega (arith, ap length e))
same_nodes (n ∷ nodes) (m ∷ others) e =
    let q : n.clause ∷ clauses_of nodes ≡ m.clause ∷ clauses_of others = e in
    let h : n.clause ≡ m.clause = cc in
    let t : clauses_of nodes ≡ clauses_of others = cc in
    let rest = same_nodes nodes others t in
    λ i. record { clause = h i } ∷ rest i

-- the clauses of children's nodes
pub child_clauses :
    (nodes : List ClauseNode) (children : List Child) →
    clauses_of (nodes ++ child_nodes children) ≡ clauses_of nodes ++ map (λ (d : Child). d.clause) children
child_clauses [] [] = refl
child_clauses [] (d ∷ children) = ap (λ cs. d.clause ∷ cs) (child_clauses [] children)
child_clauses (n ∷ nodes) children = ap (λ cs. n.clause ∷ cs) (child_clauses nodes children)

-- the numbers of the parent and the places for these children are added
pub record AddsChildren (old new : Building) (parent : ℕ) (children : List Child) : Type 0 where
  pub parents : new.parents.items ≡ old.parents.items ++ child_parents parent children
  pub leadings :
      ArePlaces old.block.nodes.items old.leadings.items →
      ArePlaces (old.block.nodes.items ++ child_nodes children) new.leadings.items
  pub nodes : new.block.nodes.items ≡ old.block.nodes.items
  pub links : new.block.links.items ≡ old.block.links.items
  pub steps : new.steps.items ≡ old.steps.items
  pub sides : new.sides ≡ old.sides

-- the next child of a step
module _ (children : List Child) (i : ℕ) (child : Child) (lt : i < length children)
    (is : child ≡ get_or children i child) where
  next : take (i + 1) children ≡ take i children ++ child ∷ []
  next = taken_next children i child lt is

  pub parents_more :
      (parents old now : List ℕ) (parent : ℕ) → now ≡ old ++ child_parents parent (take i children) →
      parents ≡ now ++ parent ∷ [] → parents ≡ old ++ child_parents parent (take (i + 1) children)
  parents_more parents old now parent so_far more =
      more ∙ ap (λ ps. ps ++ parent ∷ []) so_far
      ∙ append_assoc old (child_parents parent (take i children)) (parent ∷ [])
      ∙ ap (λ (ps : List ℕ). old ++ ps)
      (sym (map-append {B = ℕ} (λ (d : Child). parent) (take i children) (child ∷ [])))
      ∙ ap (λ cs. old ++ child_parents parent cs) (sym next)

  pub leadings_more :
      (nodes : List ClauseNode) (now places : List (Option LeadingPlace)) (place : Option LeadingPlace) →
      ArePlaces (nodes ++ child_nodes (take i children)) now → IsPlace child.clause place →
      places ≡ now ++ place ∷ [] → ArePlaces (nodes ++ child_nodes (take (i + 1) children)) places
  leadings_more nodes now places place all one more =
      places_more (nodes ++ child_nodes (take i children)) (nodes ++ child_nodes (take (i + 1) children)) now places
      (record { clause = child.clause }) place all one
      (ap (λ cs. nodes ++ child_nodes cs) next
      ∙ ap (λ (ns : List ClauseNode). nodes ++ ns)
      (map-append {B = ClauseNode} (λ (d : Child). record { clause = d.clause }) (take i children) (child ∷ []))
      ∙ sym (append_assoc nodes (child_nodes (take i children)) (child_nodes (child ∷ []))))
      more
