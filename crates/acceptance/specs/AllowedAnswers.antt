-- What the test of a block's children and references answers, and what it goes by.
use Rattle.std.specs.Prelude.{◌≡◌, ◌⊎◌, ◌↔◌, ℕ, suc, ◌^◌, ◌<◌, ◌≤◌, List, Bool, false, IsTrue, length, map, sum}
use Rattle.std.specs.Prelude.{slice_index_or}
use Rattle.clause_core.specs.declared.clauses.Relation.{Relation}
use Rattle.clause_core.specs.declared.clauses.Relation.TheVariants.{Less, Same}
use Rattle.clause_core.specs.declared.answers.Children.{Children}
use Rattle.acceptance.specs.declared.answers.Allowed.{Allowed}
use Rattle.acceptance.specs.declared.answers.Allowed.TheVariants.{All, Not}
use Rattle.acceptance.specs.Strict.{HasChild, RefersTo, Strict, ChildIsAllowed, NodeIsAllowed, AllAreAllowed}

-- there is an entry for the first node and for each child, and each reference is to one of these
pub record IsWholeBlock (made : List Children) : Type 0 where
  pub few : length made < 2 ^ 32
  pub counted : length made ≡ suc (sum (map (λ (m : Children). length m.clauses) made))
  pub refs : (k j : ℕ) (relation : Relation) → RefersTo made k j relation → j < length made

-- all is allowed, or this is the first node with a child or a reference that isn't
abbrev pub TellsAllowed : List Children → Allowed → Type 0
TellsAllowed made All = AllAreAllowed made
TellsAllowed made (Not node) =
    (¬ (NodeIsAllowed made node)) × ((j : ℕ) → j < node → NodeIsAllowed made j)

-- the flag of node k, and that of each node after it, says whether the node is strict
pub record TellsStrict (made : List Children) (k : ℕ) (flags : List Bool) : Type 0 where
  pub long : length flags ≡ length made
  pub tells :
      (j : ℕ) → k ≤ j → j < length made → IsTrue (slice_index_or flags j false) ↔ Strict made j

-- by these flags node j, to which node k leads, is Less, or is Same, later and strict
abbrev pub FallsBy : List Bool → ℕ → ℕ → Relation → Type 0
FallsBy flags k j relation =
    (relation ≡ Less) ⊎ ((relation ≡ Same) × (k < j) × IsTrue (slice_index_or flags j false))

-- and a reference to it is Less, or Same and later, or Same to a strict node
abbrev pub AllowedBy : List Bool → ℕ → ℕ → Relation → Type 0
AllowedBy flags k j relation =
    (relation ≡ Less)
    ⊎ ((relation ≡ Same) × ((k < j) ⊎ IsTrue (slice_index_or flags j false)))

-- all children of node k, or all its references, fall so
abbrev pub ChildrenFallBy : List Children → List Bool → ℕ → Type 0
ChildrenFallBy made flags k =
    (j : ℕ) (relation : Relation) → HasChild made k j relation → FallsBy flags k j relation

abbrev pub ReferencesFallBy : List Children → List Bool → ℕ → Type 0
ReferencesFallBy made flags k =
    (j : ℕ) (relation : Relation) → RefersTo made k j relation → FallsBy flags k j relation

-- all children of node k are allowed, and all its references are by these flags
abbrev pub ChildrenAreAllowed : List Children → ℕ → Type 0
ChildrenAreAllowed made k =
    (j : ℕ) (relation : Relation) → HasChild made k j relation → ChildIsAllowed made relation

abbrev pub ReferencesAllowedBy : List Children → List Bool → ℕ → Type 0
ReferencesAllowedBy made flags k =
    (j : ℕ) (relation : Relation) → RefersTo made k j relation → AllowedBy flags k j relation
