-- The variables of a term.
use Rattle.std.specs.Prelude.{◌≡◌, ℕ, ◌+◌, ◌<◌, ◌⊎◌, ◌==◌, not, List, [], ◌∷◌, ◌++◌, filter, map}
use Rattle.term_core.specs.Tree.{Tree, Trees, var, app, none, some}
use Rattle.term_core.specs.declared.ids.VarId.{VarId}

-- every occurrence of a variable, from the left
abbrev mutual
  pub occurrences : Tree → List ℕ
  occurrences (var n) = n ∷ []
  occurrences (app f ts) = occurrences_all ts

  pub occurrences_all : Trees → List ℕ
  occurrences_all none = []
  occurrences_all (some t ts) = occurrences t ++ occurrences_all ts

-- the numbers of the list, each once, where it first occurs
abbrev pub firsts : List ℕ → List ℕ
firsts [] = []
firsts (n ∷ ns) = n ∷ filter (λ m. not (m == n)) (firsts ns)

-- the numbers of the variables
abbrev pub numbers_of : List VarId → List ℕ
numbers_of vars = map (λ (v : VarId). v.0) vars

-- the variable is in the term
abbrev mutual
  pub Occurs : ℕ → Tree → Type 0
  Occurs n (var m) = n ≡ m
  Occurs n (app f ts) = OccursAny n ts

  pub OccursAny : ℕ → Trees → Type 0
  OccursAny n none = ⊥
  OccursAny n (some t ts) = Occurs n t ⊎ OccursAny n ts

-- the variables are numbered by first occurrence, where k numbers are taken before the term, and m after it
abbrev mutual
  pub Numbered : ℕ → Tree → ℕ → Type 0
  Numbered k (var n) m = ((n < k) × (m ≡ k)) ⊎ ((n ≡ k) × (m ≡ k + 1))
  Numbered k (app f ts) m = NumberedAll k ts m

  pub NumberedAll : ℕ → Trees → ℕ → Type 0
  NumberedAll k none m = m ≡ k
  NumberedAll k (some t ts) m = (j : ℕ) × Numbered k t j × NumberedAll j ts m
