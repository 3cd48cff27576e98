use Rattle.std.proofs.Common.{Bool, true, false, Option, Some, None, sym, subst}
use Rattle.std.specs.Prelude.{IfOk}
use Rattle.term_core.proofs.Items.{if_ok_map}
use Rattle.spec_core.specs.declared.records.Spec.{Spec}
use Rattle.clause_core.specs.declared.clauses.Clause.{Clause}
use Rattle.clause_core.specs.declared.steps.Step.{Step}
use Rattle.plain_search.specs.declared.candidates.Candidate.TheVariants.{RuleOnLeft, RuleOnRight}
use Rattle.plain_search.specs.Choices.{IsUse}
use Rattle.plain_search.specs.Candidates.{IsOnly, IsFull, IsCandidate}
use Rattle.plain_search.proofs.candidates.Candidate.step.Goals as goal

module _ (spec : Spec) (start c : Clause) where
  use_full : (left : Bool) (step : Step) → IsUse spec c left step → IsFull start step
  use_full left step u = subst (λ s. IsFull start s) (sym u.6) tt

  on_left : (found : Option Step) → IsOnly (IsUse spec c true) found →
      IsOnly (IsCandidate spec start c RuleOnLeft) found
  on_left (Some step) h = ((h.0, use_full true step h.0), λ other p. h.1 other p.0)
  on_left None h = λ other p. h other p.0

  on_right : (found : Option Step) → IsOnly (IsUse spec c false) found →
      IsOnly (IsCandidate spec start c RuleOnRight) found
  on_right (Some step) h = ((h.0, use_full false step h.0), λ other p. h.1 other p.0)
  on_right None h = λ other p. h other p.0

pub returns-in-RuleOnLeft : goal.returns-in-RuleOnLeft
returns-in-RuleOnLeft c =
    subst (λ k. IfOk c.use_on.result
    (IsOnly (IsCandidate c.args.rewriter.now c.args.start.now c.args.here.now k))) (sym c.in-RuleOnLeft.is)
    (if_ok_map c.use_on.result _ _ (on_left c.args.rewriter.now c.args.start.now c.args.here.now) c.use_on.ensures)

pub returns-in-RuleOnRight : goal.returns-in-RuleOnRight
returns-in-RuleOnRight c =
    subst (λ k. IfOk c.use_on-in-RuleOnRight.result
    (IsOnly (IsCandidate c.args.rewriter.now c.args.start.now c.args.here.now k))) (sym c.in-RuleOnRight.is)
    (if_ok_map c.use_on-in-RuleOnRight.result _ _
    (on_right c.args.rewriter.now c.args.start.now c.args.here.now) c.use_on-in-RuleOnRight.ensures)
