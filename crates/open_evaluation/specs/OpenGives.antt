-- Evaluation when some variables have no value, with its cost.
use Rattle.std.specs.Prelude.{◌≡◌, ℕ, ◌+◌, ◌<◌, List, [], ◌∷◌, Some, slice_get}
use Rattle.std.specs.List.{AllByRecursion}
use Rattle.term_core.specs.Tree.{Tree, Trees, var, app, none, some, instance}
use Rattle.term_core.specs.Variables.{Occurs}
use Rattle.spec_core.specs.declared.records.Rule.{Rule}
use Rattle.spec_core.specs.declared.records.Guard.{Guard}
use Rattle.spec_core.specs.declared.records.Spec.{Spec}
use Rattle.spec_core.specs.Sig.{Sig, IsConstructor}
use Rattle.spec_core.specs.WellSorted.{IsPattern, ArePatterns}
use Rattle.spec_core.specs.Gives.{boolean}

-- an open value: it is made of constructors and variables, as a pattern is
abbrev pub IsOpen : Sig → Tree → Type 0
IsOpen = IsPattern

abbrev pub AreOpen : Sig → Trees → Type 0
AreOpen = ArePatterns

-- the numbers of the term's variables are below n
abbrev pub VariablesAreBelow : ℕ → Tree → Type 0
VariablesAreBelow n t = (k : ℕ) → Occurs k t → k < n

abbrev pub HasNoVariable : Tree → Type 0
HasNoVariable t = (k : ℕ) → Occurs k t → ⊥

module _ (spec : Spec) where
  mutual
    -- the term gives the open value at the cost: a variable gives itself for nothing, and a rule is used if the
    -- call is an instance of its left side
    pub data OpenGives : Tree → Tree → ℕ → Type 0 where
      unknown : {k : ℕ} → OpenGives (var k) (var k) 0
      open_built : {f : ℕ} {ts vs : Trees} {n : ℕ} →
          IsConstructor spec.sig f → OpenGivesAll ts vs n → OpenGives (app f ts) (app f vs) n
      open_called : {f : ℕ} {ts vs : Trees} {v : Tree} {n g k m : ℕ} (number : ℕ) (rule : Rule)
          (values : List Tree) →
          OpenGivesAll ts vs n → slice_get spec.rules number ≡ Some rule →
          AllByRecursion (IsOpen spec.sig) values → instance values rule.left ≡ app f vs →
          OpenGivesGuards values rule.guards g → OpenGives (instance values rule.right) v k →
          m ≡ 1 + n + g + k → OpenGives (app f ts) v m

    -- terms give open values, and the costs are added
    pub data OpenGivesAll : Trees → Trees → ℕ → Type 0 where
      no_open_terms : OpenGivesAll none none 0
      more_open_terms : {t v : Tree} {ts vs : Trees} {n k m : ℕ} →
          OpenGives t v n → OpenGivesAll ts vs k → m ≡ n + k
          → OpenGivesAll (some t ts) (some v vs) m

    -- each guard gives the Boolean that it wants
    pub data OpenGivesGuards : List Tree → List Guard → ℕ → Type 0 where
      no_open_guards : {values : List Tree} → OpenGivesGuards values [] 0
      more_open_guards : {values : List Tree} {guard : Guard} {guards : List Guard} {n k m : ℕ} →
          OpenGives (instance values guard.test) (boolean guard.wanted) n →
          OpenGivesGuards values guards k → m ≡ n + k → OpenGivesGuards values (guard ∷ guards) m
