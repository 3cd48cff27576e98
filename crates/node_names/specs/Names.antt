-- Names of variables: what they are made from, and lists of them that tell variables apart.
use Rattle.std.specs.Prelude.{◌≡◌, ◌≤◌, ◌⊎◌, ℕ, List, ◌∷◌, ◌++◌, All, Contains, Some, codes, map, slice_get}
use Rattle.std.specs.Prelude.{slice_index_or}
use Rattle.std.specs.List.{flat_map}
use Rattle.spec_core.specs.declared.records.Goal.{Goal}
use Rattle.spec_core.specs.declared.records.Rule.{Rule}
use Rattle.spec_core.specs.declared.records.Spec.{Spec}
use Rattle.spec_core.specs.Sig.{Sig, names_of}
use Rattle.spec_core.specs.TermText.{variable_names}
use Rattle.clause_core.specs.Tidied.{variables_of, written_clause}

-- a prime or a digit
abbrev pub IsMark : ℕ → Type 0
IsMark c = (c ≡ 39) ⊎ ((48 ≤ c) × (c ≤ 57))

-- the stem with nothing after it, or with primes and digits
abbrev pub IsMarked : List ℕ → List ℕ → Type 0
IsMarked stem name = (marks : List ℕ) × (name ≡ stem ++ marks) × All IsMark marks

-- `v`, the names of the goal's variables and those of the rules' variables
unfoldable pub stems_of : Spec → Goal → List (List ℕ)
stems_of spec goal =
    codes "v" ∷ (variable_names goal.vars
    ++ flat_map (λ (rule : Rule). variable_names rule.vars) spec.rules)

-- one of these names, with nothing after it or with primes and digits
abbrev pub IsDerived : Spec → Goal → List ℕ → Type 0
IsDerived spec goal name =
    (stem : List ℕ) × Contains (stems_of spec goal) stem × IsMarked stem name

-- no symbol has one of the names
abbrev pub AreNoSymbols : Sig → List (List ℕ) → Type 0
AreNoSymbols sig names = All (λ (name : List ℕ). Contains (names_of sig) name → ⊥) names

-- no name is there twice
abbrev pub AreDifferent : List (List ℕ) → Type 0
AreDifferent names = (j k : ℕ) (name : List ℕ) → slice_get names j ≡ Some name
    → slice_get names k ≡ Some name → j ≡ k

-- derived names, all different, and none of them a symbol's
pub record AreNames (spec : Spec) (goal : Goal) (names : List (List ℕ)) : Type 0 where
  pub different : AreDifferent names
  pub no_symbols : AreNoSymbols spec.sig names
  pub derived : All (IsDerived spec goal) names

-- the goal's own names of the variables of its clause. Each variable of a sorted goal has one: `v`
-- stands for none
abbrev pub goal_names : Goal → List (List ℕ)
goal_names goal =
    map (λ n. slice_index_or (variable_names goal.vars) n (codes "v"))
    (variables_of (written_clause goal))

-- no symbol has the name, and it is none of those that are taken
abbrev pub IsFree : Sig → List (List ℕ) → List ℕ → Type 0
IsFree sig taken name = (Contains (names_of sig) name → ⊥) × (Contains taken name → ⊥)
