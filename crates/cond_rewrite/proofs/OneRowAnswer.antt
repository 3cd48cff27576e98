-- Rows that agree have one answer by themselves.
use Rattle.std.proofs.Common.{◌≡◌, inl, inr, List, [], Result, Ok, Err, map, ap, sym, ◌∙◌, subst}
use Rattle.std.specs.List.{AllByRecursion}
use Rattle.clause_core.specs.declared.clauses.Clause.{Clause}
use Rattle.clause_core.specs.declared.steps.Step.TheVariants.{Rule as RuleStep, Case}
use Rattle.clause_core.specs.declared.answers.Why.{Why}
use Rattle.clause_core.specs.Limits.{IsWithin}
use Rattle.clause_core.specs.Rows.{Row, needs, makes}
use Rattle.clause_core.specs.Rewriting.{rule_row}
use Rattle.clause_core.specs.CaseSplitting.{case_row}
use Rattle.clause_core.proofs.OneAnswer.{Agree}
use Rattle.clause_core.proofs.OneStep.{step_one}
use Rattle.cond_rewrite.specs.RowAnswers.{clause_of, AnswersClauses, RowAnswers}
use Rattle.cond_rewrite.specs.Laws.{OneRowAnswer}

clauses_one : (xs ys : List Clause) (a b : Result (List Clause) Why) → xs ≡ ys → AnswersClauses xs a →
    AnswersClauses ys b → a ≡ b
clauses_one xs ys a b e (inl p) (inl q) = p.1 ∙ ap (λ x. Ok x) e ∙ sym q.1
clauses_one xs ys a b e (inl p) (inr q) = absurd (q.0 (subst (λ ds. AllByRecursion IsWithin ds) e p.0))
clauses_one xs ys a b e (inr p) (inl q) = absurd (p.0 (subst (λ ds. AllByRecursion IsWithin ds) (sym e) q.0))
clauses_one xs ys a b e (inr p) (inr q) = p.1 ∙ sym q.1

one : (r s : Row) → Agree r s → (a b : Result (List Clause) Why) → RowAnswers r a → RowAnswers s b → a ≡ b
one (needs P why rest) (needs Q other next) h a b (inl p) (inl q) = one (rest p.0) (next q.0) (h.3 p.0 q.0) a b p.1 q.1
one (needs P why rest) (needs Q other next) h a b (inl p) (inr q) = absurd (q.0 (h.0 p.0))
one (needs P why rest) (needs Q other next) h a b (inr p) (inl q) = absurd (p.0 (h.1 q.0))
one (needs P why rest) (needs Q other next) h a b (inr p) (inr q) = p.1 ∙ ap (λ w. Err w) h.2 ∙ sym q.1
one (needs P why rest) (makes ds ss) h a b p q = absurd h
one (makes cs rs) (needs Q other next) h a b p q = absurd h
one (makes cs rs) (makes ds ss) h a b p q = clauses_one (map clause_of cs) (map clause_of ds) a b
    (ap (λ ms. map clause_of ms) h.0) p q

pub one_row_answer : OneRowAnswer
one_row_answer spec c place number a b fine = (
  one (rule_row spec c place number) (rule_row spec c place number)
      (step_one spec fine c (λ n. ⊥) [] (RuleStep place number)) a b,
  one (case_row spec c place number) (case_row spec c place number)
      (step_one spec fine c (λ n. ⊥) [] (Case place number)) a b,
)
