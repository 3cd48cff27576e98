-- The walk of a verdict when some variables have no value. It ends only if each list of values that goes on with the
-- fixed ones has one verdict.
use Rattle.std.specs.Prelude.{◌≡◌, ◌≢◌, ℕ, ◌-◌, ◌≤◌, zero, suc, ◌⊎◌, List, [], ◌∷◌, ◌++◌, length}
use Rattle.term_core.specs.Tree.{Tree, var, app, instance}
use Rattle.spec_core.specs.declared.records.Equation.{Equation}
use Rattle.spec_core.specs.declared.records.Goal.{Goal}
use Rattle.spec_core.specs.declared.records.Spec.{Spec}
use Rattle.spec_core.specs.declared.records.Verdict.{Verdict}
use Rattle.spec_core.specs.declared.records.Verdict.TheVariants.{Holds, Fails}
use Rattle.open_evaluation.specs.OpenGives.{HasNoVariable, OpenGives}

-- this many variables, from the number k on
abbrev pub variables_from : ℕ → ℕ → List Tree
variables_from k zero = []
variables_from k (suc n) = var k ∷ variables_from (suc k) n

-- the fixed values, and after them each further variable below n, which stands for itself
abbrev pub opened : List Tree → ℕ → List Tree
opened fixed n = fixed ++ variables_from (length fixed) (n - length fixed)

-- the heads of two open values are two different constructors
abbrev pub HeadsDiffer : Tree → Tree → Type 0
HeadsDiffer (var m) u = ⊥
HeadsDiffer (app f ts) (var n) = ⊥
HeadsDiffer (app f ts) (app g us) = f ≢ g

-- two open values are different whatever the variables are: their heads differ, or they are two terms without variables
abbrev pub AreDifferent : Tree → Tree → Type 0
AreDifferent v w = HeadsDiffer v w ⊎ ((v ≢ w) × HasNoVariable v × HasNoVariable w)

module _ (spec : Spec) (values : List Tree) (budget : ℕ) where
  -- the side gives the open value at a cost within the budget
  abbrev pub SideOpens : Tree → Tree → Type 0
  SideOpens t v = (n : ℕ) × OpenGives spec (instance values t) v n × (n ≤ budget)

  -- both sides give one open value within the budget
  abbrev pub OpenSame : Equation → Type 0
  OpenSame e = (v : Tree) × SideOpens e.left v × SideOpens e.right v

  -- the sides give two open values within the budget that are different
  abbrev pub OpenDiffer : Equation → Type 0
  OpenDiffer e =
      (v : Tree) × (w : Tree) × AreDifferent v w × SideOpens e.left v × SideOpens e.right w

  -- the conclusions in order: the first that holds decides; if each is broken the goal fails
  abbrev pub OpenConclusionsSay : List Equation → Verdict → Type 0
  OpenConclusionsSay [] r = r ≡ Fails
  OpenConclusionsSay (e ∷ es) r =
      (OpenSame e × (r ≡ Holds)) ⊎ (OpenDiffer e × OpenConclusionsSay es r)

  -- the premises in order: the first that is broken decides; if each holds the conclusions do
  abbrev pub OpenPremisesSay : List Equation → List Equation → Verdict → Type 0
  OpenPremisesSay [] cs r = OpenConclusionsSay cs r
  OpenPremisesSay (e ∷ es) cs r =
      (OpenDiffer e × (r ≡ Holds)) ⊎ (OpenSame e × OpenPremisesSay es cs r)

  -- the verdict at which the walk ends; it doesn't end if it meets a side that gives no open value within the budget,
  -- nor if it meets two sides that are neither the same nor different
  abbrev pub IsOpenVerdict : Goal → Verdict → Type 0
  IsOpenVerdict goal r = OpenPremisesSay goal.premises goal.conclusions r
