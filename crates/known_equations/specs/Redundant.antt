-- Clauses that say nothing new.
use Rattle.std.specs.Prelude.{◌≡◌, ◌⊎◌, ℕ, List, Option, Some, slice_get}
use Rattle.term_core.specs.Tree.{Tree}
use Rattle.spec_core.specs.declared.records.Equation.{Equation}
use Rattle.spec_core.specs.Sig.{Sig}
use Rattle.substitutions.specs.Fitting.{Fits}
use Rattle.clause_core.specs.declared.clauses.Clause.{Clause}
use Rattle.clause_core.specs.ClauseInstances.{clause_instance}
use Rattle.clause_core.specs.Subsuming.{Subsumes}
use Rattle.known_equations.specs.Knowledge.{Knowledge}
use Rattle.known_equations.specs.Uses.{Rewrites}
use Rattle.known_equations.specs.Chains.{Chain}

-- both sides become one term
abbrev pub AreJoined : (Tree → Tree → Type 0) → Equation → Type 0
AreJoined uses e = (t : Tree) × Chain uses e.left t × Chain uses e.right t

-- those of some conclusion do
abbrev pub IsJoined : (Tree → Tree → Type 0) → Clause → Type 0
IsJoined uses c =
    (n : ℕ) × (e : Equation) × (slice_get c.conclusions n ≡ Some e) × AreJoined uses e

-- an instance of the known clause says no less than the clause, by entries of the right sorts
abbrev pub IsCoveredBy : Sig → Clause → Clause → Type 0
IsCoveredBy sig c known =
    (entries : List (Option Tree))
    × Fits sig known.ctx c.ctx entries × Subsumes c (clause_instance entries c.ctx known)

abbrev pub IsCovered : {O : Type 0} → Knowledge O → Clause → Type 0
IsCovered k c =
    (n : ℕ) × (known : Clause)
    × (slice_get k.clauses n ≡ Some known) × IsCoveredBy k.spec.sig c known

module _ {O : Type 0} (above : Tree → Tree → Type 0) (k : Knowledge O) where
  abbrev pub IsRedundant : Clause → Type 0
  IsRedundant c = IsJoined (Rewrites above k) c ⊎ IsCovered k c
