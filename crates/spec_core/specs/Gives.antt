-- Evaluation with its cost.
use Rattle.std.specs.Prelude.{◌≡◌, ℕ, ◌+◌, List, [], ◌∷◌, Bool, if◌then◌else◌, Some, slice_get}
use Rattle.std.specs.List.{AllByRecursion}
use Rattle.term_core.specs.Tree.{Tree, Trees, app, none, some, instance}
use Rattle.spec_core.specs.declared.records.Rule.{Rule}
use Rattle.spec_core.specs.declared.records.Guard.{Guard}
use Rattle.spec_core.specs.declared.records.Spec.{Spec}
use Rattle.spec_core.specs.Sig.{IsConstructor}
use Rattle.spec_core.specs.Sorts.{IsBuilt}

-- the Boolean as a value
abbrev pub boolean : Bool → Tree
boolean b = app (if b then 0 else 1) none

module _ (spec : Spec) where
  mutual
    -- the term gives the value at the cost
    pub data Gives : Tree → Tree → ℕ → Type 0 where
      built : {f : ℕ} {ts vs : Trees} {n : ℕ} → IsConstructor spec.sig f → GivesAll ts vs n
          → Gives (app f ts) (app f vs) n
      called : {f : ℕ} {ts vs : Trees} {v : Tree} {n g k m : ℕ} (number : ℕ) (rule : Rule)
          (values : List Tree) → GivesAll ts vs n → slice_get spec.rules number ≡ Some rule
          → AllByRecursion (IsBuilt spec.sig) values → instance values rule.left ≡ app f vs
          → GivesGuards values rule.guards g → Gives (instance values rule.right) v k
          → m ≡ 1 + n + g + k → Gives (app f ts) v m

    -- terms give values, and the costs are added
    pub data GivesAll : Trees → Trees → ℕ → Type 0 where
      no_terms : GivesAll none none 0
      more_terms : {t v : Tree} {ts vs : Trees} {n k m : ℕ} → Gives t v n → GivesAll ts vs k
          → m ≡ n + k → GivesAll (some t ts) (some v vs) m

    -- each guard gives the Boolean that it wants
    pub data GivesGuards : List Tree → List Guard → ℕ → Type 0 where
      no_guards : {values : List Tree} → GivesGuards values [] 0
      more_guards : {values : List Tree} {guard : Guard} {guards : List Guard} {n k m : ℕ}
          → Gives (instance values guard.test) (boolean guard.wanted) n
          → GivesGuards values guards k → m ≡ n + k → GivesGuards values (guard ∷ guards) m
