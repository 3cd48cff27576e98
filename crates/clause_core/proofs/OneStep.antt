-- Each step of a node says one thing.
use Rattle.std.proofs.Common.{ℕ, List}
use Rattle.std.specs.Prelude.{Contains}
use Rattle.term_core.specs.Tree.{Tree}
use Rattle.spec_core.specs.declared.records.Spec.{Spec}
use Rattle.spec_core.specs.WellSorted.{IsWellSorted}
use Rattle.clause_core.specs.declared.clauses.Clause.{Clause}
use Rattle.clause_core.specs.declared.steps.Step.{Step}
use Rattle.clause_core.specs.declared.steps.Step.TheVariants.{Trivial, Match, Absurd, Subsume, ByLemma}
use Rattle.clause_core.specs.declared.steps.Step.TheVariants.{Rule as RuleStep, Case, Decompose, Clash as ClashStep}
use Rattle.clause_core.specs.declared.steps.Step.TheVariants.{Drop, Solve, Cover, Generalize, Context as ContextStep}
use Rattle.clause_core.specs.declared.steps.Step.TheVariants.{Hyp, Lemma}
use Rattle.clause_core.specs.Steps.{row_of}
use Rattle.clause_core.specs.StepLaws.{OneAnswer}
use Rattle.clause_core.proofs.OneAnswer.{Agree, says_one}
use Rattle.clause_core.proofs.OneClosing.{trivial_one, match_one, absurd_one}
use Rattle.clause_core.proofs.OneSubsuming.{subsume_one, by_lemma_one}
use Rattle.clause_core.proofs.OneRewriting.{rule_one, case_one}
use Rattle.clause_core.proofs.OneSimplifying.{decompose_one, clash_one, drop_one}
use Rattle.clause_core.proofs.OneSolving.{solve_one}
use Rattle.clause_core.proofs.OneCovering.{cover_one}
use Rattle.clause_core.proofs.OneGeneralizing.{generalize_one}
use Rattle.clause_core.proofs.OneReplacing.{context_one, hyp_one, lemma_one}
use Rattle.clause_core.proofs.OneRelation.{one_relation}

module _ (spec : Spec) (fine : IsWellSorted spec) (c : Clause) where
  -- each step says one thing
  pub step_one : (usable : ℕ → Type 0) (nodes : List Clause) (step : Step) →
      Agree (row_of spec usable nodes c step) (row_of spec usable nodes c step)
  step_one usable nodes (Trivial k) = trivial_one spec c k
  step_one usable nodes (Match k j) = match_one spec c k j
  step_one usable nodes (Absurd j) = absurd_one spec c j
  step_one usable nodes (Subsume j ts) = subsume_one spec fine c nodes j ts
  step_one usable nodes (ByLemma name ts) = by_lemma_one spec fine c usable name ts
  step_one usable nodes (RuleStep place n) = rule_one spec fine c place n
  step_one usable nodes (Case place n) = case_one spec fine c place n
  step_one usable nodes (Decompose kind n) = decompose_one spec c kind n
  step_one usable nodes (ClashStep n) = clash_one spec c n
  step_one usable nodes (Drop kind n) = drop_one spec c kind n
  step_one usable nodes (Solve n) = solve_one spec c n
  step_one usable nodes (Cover v ps) = cover_one spec c v.0 ps
  step_one usable nodes (Generalize t) = generalize_one spec c t
  step_one usable nodes (ContextStep place n left) = context_one spec fine c place n left
  step_one usable nodes (Hyp j ts place left) = hyp_one spec fine c nodes j ts place left
  step_one usable nodes (Lemma name ts place left) = lemma_one spec fine c usable name ts place left

-- so a step at a node has at most one answer, by any order
pub one_answer : (above : Tree → Tree → Type 0) → OneAnswer above
one_answer above spec numbers nodes c step a b fine p q =
    says_one above (one_relation above) c nodes _ _ (step_one spec fine c (Contains numbers) nodes step)
    a b p q
