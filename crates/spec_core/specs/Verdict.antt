-- The verdict of a goal under values, within a budget for each side.
use Rattle.std.specs.Prelude.{◌≡◌, ◌≢◌, ℕ, ◌≤◌, ◌⊎◌, List, [], ◌∷◌}
use Rattle.term_core.specs.Tree.{Tree, instance}
use Rattle.spec_core.specs.declared.records.Equation.{Equation}
use Rattle.spec_core.specs.declared.records.Goal.{Goal}
use Rattle.spec_core.specs.declared.records.Spec.{Spec}
use Rattle.spec_core.specs.declared.records.Verdict.{Verdict}
use Rattle.spec_core.specs.declared.records.Verdict.TheVariants.{Holds, Fails, Spent}
use Rattle.spec_core.specs.Gives.{Gives}

module _ (spec : Spec) (values : List Tree) (budget : ℕ) where
  -- the side gives the value at a cost within the budget
  abbrev pub SideGives : Tree → Tree → Type 0
  SideGives t v = (n : ℕ) × Gives spec (instance values t) v n × (n ≤ budget)

  -- the side gives no value at a cost within the budget
  abbrev pub SideSpent : Tree → Type 0
  SideSpent t = (v : Tree) (n : ℕ) → Gives spec (instance values t) v n → n ≤ budget → ⊥

  -- the first side that is looked at without a value: the left one, or the right one
  abbrev pub SidesSpent : Equation → Type 0
  SidesSpent e = SideSpent e.left ⊎ ((v : Tree) × SideGives e.left v × SideSpent e.right)

  -- both sides give one value within the budget
  abbrev pub SidesSame : Equation → Type 0
  SidesSame e = (v : Tree) × SideGives e.left v × SideGives e.right v

  -- the sides give two different values within the budget
  abbrev pub SidesDiffer : Equation → Type 0
  SidesDiffer e = (v : Tree) × (w : Tree) × (v ≢ w) × SideGives e.left v × SideGives e.right w

  -- the conclusions in order: the first that is spent or holds decides; if each is broken the goal fails
  abbrev pub ConclusionsSay : List Equation → Verdict → Type 0
  ConclusionsSay [] r = r ≡ Fails
  ConclusionsSay (e ∷ es) r = (SidesSpent e × (r ≡ Spent))
      ⊎ ((SidesSame e × (r ≡ Holds)) ⊎ (SidesDiffer e × ConclusionsSay es r))

  -- the premises in order: the first that is spent or broken decides; if each holds the conclusions do
  abbrev pub PremisesSay : List Equation → List Equation → Verdict → Type 0
  PremisesSay [] cs r = ConclusionsSay cs r
  PremisesSay (e ∷ es) cs r = (SidesSpent e × (r ≡ Spent))
      ⊎ ((SidesDiffer e × (r ≡ Holds)) ⊎ (SidesSame e × PremisesSay es cs r))

  -- the goal's verdict within the budget
  abbrev pub IsVerdict : Goal → Verdict → Type 0
  IsVerdict goal r = PremisesSay goal.premises goal.conclusions r
