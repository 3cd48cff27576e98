-- A block from which the nodes below one of them are taken out.
use Rattle.std.specs.Prelude.{◌≡◌, ◌↔◌, ℕ, zero, suc, ◌<◌, List, [], ◌∷◌, Bool, IsTrue, cond, length, map, slice_set}
use Rattle.std.specs.List.{AllByRecursion}
use Rattle.clause_core.specs.declared.answers.Children.{Children}
use Rattle.clause_core.specs.declared.clauses.Relation.{Relation}
use Rattle.clause_core.specs.declared.steps.Step.{Step}
use Rattle.clause_core.specs.declared.steps.Step.TheVariants.{Subsume, Hyp}
use Rattle.acceptance.specs.Strict.{HasChild}

-- node j descends from node i, if the steps of a block make this
module _ (made : List Children) (i : ℕ) where
  pub data Descends : ℕ → Type 0 where
    child : {j : ℕ} (r : Relation) → HasChild made i j r → Descends j
    further : {j : ℕ} (k : ℕ) (r : Relation) → Descends k → HasChild made k j r → Descends j

module _ (stays : ℕ → Bool) where
  -- what stays of a list whose items have the numbers from k on
  abbrev pub staying : {A : Type 0} → ℕ → List A → List A
  staying k [] = []
  staying k (x ∷ xs) = cond (stays k) (x ∷ staying (suc k) xs) (staying (suc k) xs)

  -- the number that node k gets: how many nodes before it stay
  abbrev pub new_number : ℕ → ℕ
  new_number zero = 0
  new_number (suc k) = cond (stays k) (suc (new_number k)) (new_number k)

  -- the node that the step refers to, if it refers to one, stays
  abbrev pub RefersToStaying : Step → Type 0
  RefersToStaying (Subsume k terms) = IsTrue (stays k)
  RefersToStaying (Hyp k terms place left) = IsTrue (stays k)
  RefersToStaying step = Unit {0}

  -- the step with that node under its new number
  abbrev pub renumbered : Step → Step
  renumbered (Subsume k terms) = Subsume (new_number k) terms
  renumbered (Hyp k terms place left) = Hyp (new_number k) terms place left
  renumbered step = step

-- in a block of these steps, which make this, node i has another step, and what descends from it is
-- taken out; what is left are these steps, with the nodes that they refer to under their new numbers
pub record IsCut (steps : List Step) (made : List Children) (i : ℕ) (step : Step) (rest : List Step) :
    Type 0 where
  pub stays : ℕ → Bool
  pub which : (k : ℕ) → IsTrue (stays k) ↔ ((k < length steps) × ¬ (Descends made i k))
  pub refer : AllByRecursion (RefersToStaying stays) (staying stays 0 (slice_set steps i step))
  pub is : rest ≡ map (renumbered stays) (staying stays 0 (slice_set steps i step))
