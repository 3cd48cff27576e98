-- Laws of routine proofs, for an order on terms.
use Rattle.std.specs.Prelude.{◌≡◌, ℕ, List, Option, Contains}
use Rattle.term_core.specs.Tree.{Tree}
use Rattle.spec_core.specs.declared.records.Goal.{Goal}
use Rattle.spec_core.specs.declared.records.Spec.{Spec}
use Rattle.spec_core.specs.WellSorted.{IsWellSorted}
use Rattle.clause_core.specs.declared.clauses.Clause.{Clause}
use Rattle.clause_core.specs.declared.steps.Step.{Step}
use Rattle.clause_core.specs.declared.reports.Claim.{Claim}
use Rattle.acceptance.specs.Blocks.{Proves}
use Rattle.acceptance.specs.Claims.{ProvedBefore}
use Rattle.routine_proof.specs.Routine.{Start, IsRoutine, IsFirstProof}

-- each start has at most one routine block
abbrev pub OneBlock : (Tree → Tree → Type 0) → Type 0
OneBlock above =
    (spec : Spec) (lemmas : List ℕ) (goal : Clause) (start : Start) (a b : List Step) →
    IsWellSorted spec → IsRoutine above spec lemmas goal start a →
    IsRoutine above spec lemmas goal start b → a ≡ b

-- a goal has one first routine proof, or none
abbrev pub OneProof : (Tree → Tree → Type 0) → Type 0
OneProof above =
    (spec : Spec) (lemmas : List ℕ) (goal : Goal) (most : ℕ) (a b : Option (List Step)) →
    IsWellSorted spec → IsFirstProof above spec lemmas goal most a →
    IsFirstProof above spec lemmas goal most b → a ≡ b

-- steps that prove a clause by some lemmas prove it after claims that prove these goals
abbrev pub ProvesBehindClaims : (Tree → Tree → Type 0) → Type 0
ProvesBehindClaims above =
    (spec : Spec) (lemmas : List ℕ) (before : List Claim) (start : Clause) (steps : List Step) →
    ((n : ℕ) → Contains lemmas n → ProvedBefore spec before n) →
    Proves above spec (Contains lemmas) start steps →
    Proves above spec (ProvedBefore spec before) start steps
