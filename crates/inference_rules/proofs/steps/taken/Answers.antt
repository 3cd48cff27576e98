use Rattle.std.proofs.Common.{ℕ, List, [], ap, sym, ◌∙◌, subst}
use Rattle.std.specs.Prelude.{◌≡◌, Result}
use Rattle.term_core.specs.Tree.{Tree}
use Rattle.spec_core.specs.declared.records.Spec.{Spec}
use Rattle.clause_core.specs.declared.clauses.Clause.{Clause}
use Rattle.clause_core.specs.declared.answers.Children.{Children}
use Rattle.clause_core.specs.declared.steps.Step.{Step}
use Rattle.clause_core.specs.declared.steps.Step.TheVariants.{Subsume, ByLemma, Cover, Hyp, Lemma}
use Rattle.clause_core.specs.Steps.{row_of}
use Rattle.inference_rules.specs.declared.nodes.StepError.{StepError}
use Rattle.inference_rules.specs.Answers.{Answered, AnsweredAlone}
use Rattle.inference_rules.proofs.Alone.{ComparesNothing, by_any_order}
use Rattle.inference_rules.proofs.AloneRows.{trivial_alone, match_alone, absurd_alone, by_lemma_alone, rule_alone}
use Rattle.inference_rules.proofs.AloneRows.{case_alone, decompose_alone, clash_alone, drop_alone, solve_alone}
use Rattle.inference_rules.proofs.AloneRows.{cover_alone, generalize_alone}
use Rattle.inference_rules.proofs.steps.taken.Goals as goal

module _ (above : Tree → Tree → Type 0) (spec : Spec) (usable : ℕ → Type 0) (nodes : List Clause) (here : Clause) where
  -- the step is this one
  this_step : (step this : Step) (answer : Result Children StepError) → step ≡ this →
      Answered above here [] (row_of spec usable nodes here this) answer →
      Answered above here [] (row_of spec usable nodes here step) answer
  this_step step this answer is h = subst (λ s. Answered above here [] (row_of spec usable nodes here s) answer)
      (sym is) h

  -- the step is this one, which compares nothing
  alone : (step this : Step) (answer : Result Children StepError) → step ≡ this →
      ComparesNothing (row_of spec usable nodes here this) →
      AnsweredAlone here (row_of spec usable nodes here this) answer →
      Answered above here [] (row_of spec usable nodes here step) answer
  alone step this answer is nothing h = this_step step this answer is
      (by_any_order above here (row_of spec usable nodes here this) answer nothing h)

pub returns-in-Trivial : goal.returns-in-Trivial
returns-in-Trivial g c =
    alone _ _ _ _ _ _ _ _ c.in-Trivial.is
    (trivial_alone c.args.scope.now.spec.now c.args.here.now c.in-Trivial.conclusion) (c.trivial.ensures c.args.scope.now.spec.now)

pub returns-in-Match : goal.returns-in-Match
returns-in-Match g c =
    alone _ _ _ _ _ _ _ _ c.in-Match.is
    (match_alone c.args.scope.now.spec.now c.args.here.now c.in-Match.conclusion c.in-Match.premise)
    (c.match_premise.ensures c.args.scope.now.spec.now)

pub returns-in-Subsume : goal.returns-in-Subsume
returns-in-Subsume g c =
    this_step _ _ _ _ _ _ _ _ (c.in-Subsume.is
    ∙ ap (λ ts. Subsume c.in-Subsume.number ts) (sym c.as_slice.ensures)) c.subsume.ensures

pub returns-in-ByLemma : goal.returns-in-ByLemma
returns-in-ByLemma g c =
    alone _ _ _ _ _ _ _ _ (c.in-ByLemma.is
    ∙ ap (λ ts. ByLemma c.in-ByLemma.name ts) (sym c.as_slice-in-ByLemma.ensures))
    (by_lemma_alone _ _ _ _ _) c.by_lemma.ensures

pub returns-in-Decompose : goal.returns-in-Decompose
returns-in-Decompose g c =
    alone _ _ _ _ _ _ _ _ c.in-Decompose.is
    (decompose_alone c.args.scope.now.spec.now c.args.here.now c.in-Decompose.conclusion c.in-Decompose.number)
    c.decompose.ensures

pub returns-in-Drop : goal.returns-in-Drop
returns-in-Drop g c =
    alone _ _ _ _ _ _ _ _ c.in-Drop.is
    (drop_alone c.args.scope.now.spec.now c.args.here.now c.in-Drop.conclusion c.in-Drop.number)
    (c.drop_equation.ensures c.args.scope.now.spec.now)

pub returns-in-Rule : goal.returns-in-Rule
returns-in-Rule g c =
    alone _ _ _ _ _ _ _ _ c.in-Rule.is
    (rule_alone _ _ _ _) c.rewrite.ensures

pub returns-in-Case : goal.returns-in-Case
returns-in-Case g c =
    alone _ _ _ _ _ _ _ _ c.in-Case.is
    (case_alone _ _ _ _) c.rewrite_by_cases.ensures

pub returns-in-Context : goal.returns-in-Context
returns-in-Context g c =
    this_step _ _ _ _ _ _ _ _ c.in-Context.is
    (c.context.ensures c.args.scope.now.spec.now)

pub returns-in-Hyp : goal.returns-in-Hyp
returns-in-Hyp g c =
    this_step _ _ _ _ _ _ _ _ (c.in-Hyp.is ∙ ap (λ ts. Hyp c.in-Hyp.number ts c.in-Hyp.place c.in-Hyp.left)
    (sym c.as_slice-in-Hyp.ensures)) c.hyp.ensures

pub returns-in-Lemma : goal.returns-in-Lemma
returns-in-Lemma g c =
    this_step _ _ _ _ _ _ _ _ (c.in-Lemma.is ∙ ap (λ ts. Lemma c.in-Lemma.name ts c.in-Lemma.place c.in-Lemma.left)
    (sym c.as_slice-in-Lemma.ensures)) c.lemma.ensures

pub returns-in-Generalize : goal.returns-in-Generalize
returns-in-Generalize g c =
    alone _ _ _ _ _ _ _ _ c.in-Generalize.is
    (generalize_alone c.args.scope.now.spec.now c.args.here.now c.in-Generalize.term) c.generalize.ensures

pub returns-in-Cover : goal.returns-in-Cover
returns-in-Cover g c =
    alone _ _ _ _ _ _ _ _ (c.in-Cover.is
    ∙ ap (λ ts. Cover c.in-Cover.variable ts) (sym c.as_slice-in-Cover.ensures))
    (cover_alone c.args.scope.now.spec.now c.args.here.now c.in-Cover.variable.0 c.as_slice-in-Cover.result.now)
    c.cover_variable.ensures

pub returns-in-Absurd : goal.returns-in-Absurd
returns-in-Absurd g c =
    alone _ _ _ _ _ _ _ _ c.in-Absurd.is
    (absurd_alone c.args.scope.now.spec.now c.args.here.now c.in-Absurd.premise) c.absurd_premise.ensures

pub returns-in-Clash : goal.returns-in-Clash
returns-in-Clash g c =
    alone _ _ _ _ _ _ _ _ c.in-Clash.is
    (clash_alone c.args.scope.now.spec.now c.args.here.now c.in-Clash.conclusion) c.clash.ensures

pub returns-in-Solve : goal.returns-in-Solve
returns-in-Solve g c =
    alone _ _ _ _ _ _ _ _ c.in-Solve.is
    (solve_alone c.args.scope.now.spec.now c.args.here.now c.in-Solve.premise) c.solve.ensures
