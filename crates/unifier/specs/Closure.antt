-- Unification closure (Huet, 1976): the classes of nodes that are the same under each unifier.
use Rattle.std.specs.Prelude.{◌≡◌, ℕ, ◌<◌, List, [], ◌∷◌, ◌++◌}
use Rattle.term_core.specs.Tree.{Tree}
use Rattle.unifier.specs.declared.unification.graph.Shape.{Shape}
use Rattle.unifier.specs.Markings.{IsModel, Splits, Follows, Joins}
use Rattle.unifier.specs.Classes.{Classes}
use Rattle.unifier.specs.Work.{work}

-- closed classes with both nodes in one of them, which each marking that splits and has one mark
-- for both nodes follows
pub record IsClosure (graph : List Shape) (first second : ℕ) (roots : List ℕ) : Type 0 where
  pub classes : Classes graph roots []
  pub joined : (mark : ℕ → Tree) → Follows graph roots mark → mark first ≡ mark second
  pub sound : (mark : ℕ → Tree) →
      Splits graph mark → mark first ≡ mark second → Follows graph roots mark

-- no instances give both nodes one tree
abbrev pub IsClash : List Shape → ℕ → ℕ → Type 0
IsClash graph first second = (mark : ℕ → Tree) → IsModel graph mark → mark first ≡ mark second → ⊥

-- the new classes and pairs ask as much of a marking that splits as the old ones do
pub record IsStep (graph : List Shape) (old : List ℕ) (before : List (ℕ × ℕ))
    (new : List ℕ) (after : List (ℕ × ℕ)) : Type 0 where
  pub forth : (mark : ℕ → Tree) → Splits graph mark →
      Follows graph old mark → Joins mark before → Follows graph new mark × Joins mark after
  pub back : (mark : ℕ → Tree) →
      Follows graph new mark → Joins mark after → Follows graph old mark × Joins mark before

-- the classes of the last pair are joined
pub record Joined (graph : List Shape) (old : List ℕ) (rest : List (ℕ × ℕ)) (left right : ℕ)
    (new : List ℕ) (pending : List (ℕ × ℕ)) : Type 0 where
  pub classes : Classes graph new pending
  pub step : IsStep graph old (rest ++ (left, right) ∷ []) new pending
  pub falls : work graph new pending < work graph old (rest ++ (left, right) ∷ [])

-- no instances give both nodes one tree, and the nodes of each class
abbrev pub NotJoined : List Shape → List ℕ → ℕ → ℕ → Type 0
NotJoined graph roots left right =
    (mark : ℕ → Tree) → IsModel graph mark → Follows graph roots mark → mark left ≡ mark right → ⊥
