-- The entries of the list that rewrite by rules.
use Rattle.std.specs.Prelude.{ℕ, List}
use Rattle.spec_core.specs.declared.records.Spec.{Spec}
use Rattle.clause_core.specs.declared.clauses.Clause.{Clause}
use Rattle.clause_core.specs.declared.steps.Place.{Place}
use Rattle.clause_core.specs.declared.steps.Step.{Step}
use Rattle.clause_core.specs.declared.steps.Step.TheVariants.{Rule as rule, Case as case_step}
use Rattle.clause_places.specs.Spots.{places}
use Rattle.routine_proof.specs.Candidates.{Candidate, certain, each}
use Rattle.routine_proof.specs.Entries.{rules}
use Rattle.proof_search.specs.declared.ruling.ByRule.{ByRule}
use Rattle.proof_search.specs.declared.ruling.ByRule.TheVariants.{Rule, Case}

abbrev pub ruling_step : ByRule → Place → ℕ → Step
ruling_step Rule place number = rule place number
ruling_step Case place number = case_step place number

-- the steps at a place by the rules of these numbers
abbrev pub rulings_by : ByRule → Place → List ℕ → List Candidate
rulings_by entry place numbers = each numbers (λ n. certain (ruling_step entry place n))

abbrev pub rulings : ByRule → Spec → Clause → List Candidate
rulings entry spec c = each (places c) (λ (p : Place). rulings_by entry p (rules spec))
