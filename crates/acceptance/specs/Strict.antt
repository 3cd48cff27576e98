-- Strict nodes of a block, and which children and references are allowed there.
use Rattle.std.specs.Prelude.{◌≡◌, ◌⊎◌, ℕ, suc, ◌+◌, ◌<◌, List, Some, length, take, sum, map, slice_get}
use Rattle.clause_core.specs.declared.clauses.Relation.{Relation}
use Rattle.clause_core.specs.declared.clauses.Relation.TheVariants.{Less, Same}
use Rattle.clause_core.specs.declared.answers.Child.{Child}
use Rattle.clause_core.specs.declared.answers.Children.{Children}
use Rattle.clause_core.specs.declared.answers.Reference.{Reference}

-- the number of the first child of node k: children take the next free numbers, from 1 on
abbrev pub first_child : List Children → ℕ → ℕ
first_child made k = suc (sum (map (λ (m : Children). length m.clauses) (take k made)))

-- what the steps of a block make, node by node
module _ (made : List Children) where
  -- node k has node j as a child, with this relation
  abbrev pub HasChild : ℕ → ℕ → Relation → Type 0
  HasChild k j relation =
      (m : Children) × (i : ℕ) × (child : Child)
      × (slice_get made k ≡ Some m) × (slice_get m.clauses i ≡ Some child)
      × (child.relation ≡ relation) × (j ≡ first_child made k + i)

  -- node k refers to node j, with this relation
  abbrev pub RefersTo : ℕ → ℕ → Relation → Type 0
  RefersTo k j relation =
      (m : Children) × (i : ℕ) × (reference : Reference)
      × (slice_get made k ≡ Some m) × (slice_get m.refs i ≡ Some reference)
      × (reference.relation ≡ relation) × (j ≡ reference.node)

  abbrev pub LeadsTo : ℕ → ℕ → Relation → Type 0
  LeadsTo k j relation = HasChild k j relation ⊎ RefersTo k j relation

  -- each child and each node that is referred to is Less, or is Same, later and strict
  pub data Strict : ℕ → Type 0 where
    strict :
        {k : ℕ} →
        ((j : ℕ) (relation : Relation) →
        LeadsTo k j relation → (relation ≡ Less) ⊎ ((relation ≡ Same) × (k < j))) →
        ((j : ℕ) → LeadsTo k j Same → Strict j) →
        Strict k

  -- a child is Less or Same
  abbrev pub ChildIsAllowed : Relation → Type 0
  ChildIsAllowed relation = (relation ≡ Less) ⊎ (relation ≡ Same)

  -- a reference of node k is Less, or Same and later, or Same to a strict node
  abbrev pub ReferenceIsAllowed : ℕ → ℕ → Relation → Type 0
  ReferenceIsAllowed k j relation =
      (relation ≡ Less) ⊎ ((relation ≡ Same) × ((k < j) ⊎ Strict j))

  -- each child and each reference of node k is allowed
  pub record NodeIsAllowed (k : ℕ) : Type 0 where
    pub children : (j : ℕ) (relation : Relation) → HasChild k j relation → ChildIsAllowed relation
    pub refs :
        (j : ℕ) (relation : Relation) → RefersTo k j relation → ReferenceIsAllowed k j relation

  abbrev pub AllAreAllowed : Type 0
  AllAreAllowed = (k : ℕ) → NodeIsAllowed k
