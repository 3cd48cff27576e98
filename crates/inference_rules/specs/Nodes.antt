-- The clauses of nodes.
use Rattle.std.specs.Prelude.{◌≡◌, ℕ, List, [], ◌∷◌, Option, Some, None, map, slice_get}
use Rattle.spec_core.specs.Sig.{Sig}
use Rattle.clause_core.specs.declared.clauses.Clause.{Clause}
use Rattle.clause_core.specs.declared.clauses.Relation.{Relation}
use Rattle.clause_core.specs.declared.answers.Child.{Child}
use Rattle.clause_core.specs.declared.answers.Children.{Children}
use Rattle.descent.specs.SortedChildren.{IsNode}

-- each of the clauses can be in a node: it is sorted, tidied and within the limits
abbrev pub AreNodes : Sig → List Clause → Type 0
AreNodes sig clauses = (j : ℕ) (d : Clause) → slice_get clauses j ≡ Some d → IsNode sig d

-- the clauses of the children that are made
abbrev pub clauses_made : Children → List Clause
clauses_made made = map (λ (d : Child). d.clause) made.clauses

-- the clauses as children, with one relation of the node to each of them, and no references
abbrev pub children_with : Relation → List Clause → Children
children_with relation ds =
    record {
      clauses = map (λ (d : Clause). record { clause = d; relation = relation }) ds;
      refs = [];
    }

-- the reference that a step makes to a node by an instance of it, if it makes one
abbrev pub referred_to : Option ℕ → Clause → List (ℕ × Clause)
referred_to (Some node) instance = (node, instance) ∷ []
referred_to None instance = []
