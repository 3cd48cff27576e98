-- The entries of the list whose steps name equations by their numbers.
use Rattle.std.specs.Prelude.{ℕ, true, false, List, length}
use Rattle.std.specs.List.{range_with_len}
use Rattle.spec_core.specs.declared.records.Equation.{Equation}
use Rattle.clause_core.specs.declared.clauses.Clause.{Clause}
use Rattle.clause_core.specs.declared.steps.Step.{Step}
use Rattle.clause_core.specs.declared.steps.Step.TheVariants.{Trivial as trivial, Match as match_by}
use Rattle.clause_core.specs.declared.steps.Step.TheVariants.{Absurd as absurd_premise, Decompose as decompose}
use Rattle.clause_core.specs.declared.steps.Step.TheVariants.{Clash as clash, Solve as solve}
use Rattle.routine_proof.specs.Candidates.{Candidate, certain, each}
use Rattle.proof_search.specs.declared.numbered.Numbered.{Numbered}
use Rattle.proof_search.specs.declared.numbered.Numbered.TheVariants.{Trivial, Match, Absurd, DecomposePremise, Clash}
use Rattle.proof_search.specs.declared.numbered.Numbered.TheVariants.{Solve, DecomposeConclusion}

abbrev pub step_of : Numbered → ℕ → Step
step_of Trivial k = trivial k
step_of (Match conclusion) k = match_by conclusion k
step_of Absurd k = absurd_premise k
step_of DecomposePremise k = decompose false k
step_of Clash k = clash k
step_of Solve k = solve k
step_of DecomposeConclusion k = decompose true k

-- the equations of the clause that the steps name
abbrev pub equations_named : Numbered → Clause → List Equation
equations_named Trivial c = c.conclusions
equations_named (Match conclusion) c = c.premises
equations_named Absurd c = c.premises
equations_named DecomposePremise c = c.premises
equations_named Clash c = c.conclusions
equations_named Solve c = c.premises
equations_named DecomposeConclusion c = c.conclusions

abbrev pub numbered : Numbered → Clause → List Candidate
numbered entry c =
    each (range_with_len 1 (length (equations_named entry c)))
    (λ k. certain (step_of entry k))
