-- What rows answer that are answered by clauses of children that are tidied and within the limits.
use Rattle.std.proofs.Common.{◌≡◌, ℕ, List, [], ◌∷◌, inl, inr, map, length, refl, ap, sym, ◌∙◌, subst, arith}
use Rattle.std.specs.Prelude.{Result, Ok, Err}
use Rattle.std.proofs.lemmas.List.{length-map}
use Rattle.term_core.specs.Tree.{Tree}
use Rattle.spec_core.specs.declared.records.Rule.{Rule}
use Rattle.spec_core.specs.declared.records.Spec.{Spec}
use Rattle.clause_core.specs.declared.clauses.Clause.{Clause}
use Rattle.clause_core.specs.declared.clauses.Relation.{Relation}
use Rattle.clause_core.specs.declared.clauses.Relation.TheVariants.{Less, Same}
use Rattle.clause_core.specs.declared.steps.Place.{Place}
use Rattle.clause_core.specs.declared.answers.Children.{Children}
use Rattle.clause_core.specs.declared.answers.RewriteError.{RewriteError}
use Rattle.clause_core.specs.declared.answers.RewriteError.TheVariants.{NoSuchPlace as no_such_place}
use Rattle.clause_core.specs.declared.answers.RewriteError.TheVariants.{NoSuchRule as no_such_rule}
use Rattle.clause_core.specs.declared.answers.RewriteError.TheVariants.{DoesNotFit as does_not_fit, Limit as limit}
use Rattle.clause_core.specs.declared.answers.RewriteError.TheVariants.{OutOfMemory as no_memory}
use Rattle.clause_core.specs.Places.{TermAt}
use Rattle.clause_core.specs.Rows.{Row}
use Rattle.clause_core.specs.RuleInstances.{group_of}
use Rattle.clause_core.specs.Rewriting.{rule_row}
use Rattle.clause_core.specs.CaseSplitting.{case_child, case_row}
use Rattle.clause_core.specs.Covering.{ArePatternsFor, cover_row}
use Rattle.cond_rewrite.specs.RowAnswers.{RowAnswers, IsRefused}
use Rattle.cond_rewrite.specs.Laws.{SaysInBlock}
use Rattle.cond_rewrite.proofs.Blocks.{AreLesser, says_in_block}
use Rattle.test_sets.specs.declared.answers.CoverError.{CoverError}
use Rattle.test_sets.specs.declared.answers.CoverError.TheVariants.{NotCovering as not_covering, Limit as past_limit}
use Rattle.test_sets.specs.declared.answers.CoverError.TheVariants.{OutOfMemory as no_memory_left}
use Rattle.test_sets.specs.Covers.{AreChildren, IsRefused as IsRefusedCover}
use Rattle.test_sets.proofs.CoverSays.{cover_says}
use Rattle.inference_rules.specs.declared.nodes.StepError.{StepError}
use Rattle.inference_rules.specs.Answers.{AnsweredAlone}
use Rattle.inference_rules.specs.Counting.{IsCounted}
use Rattle.inference_rules.specs.Nodes.{children_with}
use Rattle.inference_rules.specs.Reasons.{error_of_rewriting, error_of_covering}

each_is_less : (spec : Spec) (c : Clause) (place : Place) (p : TermAt c place) (terms : List Tree)
    (rules : List Rule) → AreLesser (map (case_child spec c p terms) rules)
each_is_less spec c place p terms [] = tt
each_is_less spec c place p terms (r ∷ rules) = (refl, each_is_less spec c place p terms rules)

pub rule_in_block : (spec : Spec) (c : Clause) (place : Place) (number : ℕ) →
    SaysInBlock (λ t s. ⊥) c [] (rule_row spec c place number)
rule_in_block spec c place number = says_in_block (λ t s. ⊥) c [] (rule_row spec c place number)
    (λ p at m. ((refl, tt), refl))

pub case_in_block : (spec : Spec) (c : Clause) (place : Place) (number : ℕ) →
    SaysInBlock (λ t s. ⊥) c [] (case_row spec c place number)
case_in_block spec c place number = says_in_block (λ t s. ⊥) c [] (case_row spec c place number)
    (λ p at m. (each_is_less spec c place p m.terms (group_of spec at.rule.left), refl))

count_of : (relation : Relation) (ds : List Clause) (made : Children) → made ≡ children_with relation ds →
    length made.clauses ≡ length ds
count_of relation ds made e = ap (λ (m : Children). length m.clauses) e
    ∙ length-map ds (λ (d : Clause). record { clause = d; relation = relation })

pub block_made :
    (c : Clause) (row : Row) → SaysInBlock (λ t s. ⊥) c [] row → (ds : List Clause) → RowAnswers row (Ok ds) →
    (made : Children) → made ≡ children_with Less ds → (answer : Result Children StepError) →
    IsCounted 0 (Ok made) answer → AnsweredAlone c row answer
block_made c row says ds r made e answer (inl k) =
    subst (λ (a : Result Children StepError). AnsweredAlone c row a) (sym (k.1 ∙ ap (λ m. Ok m) e))
    (says.made ds r (omega (arith, k.0, count_of Less ds made e)))
block_made c row says ds r made e answer (inr k) =
    subst (λ (a : Result Children StepError). AnsweredAlone c row a) (sym k.1)
    (says.too_many ds r (omega (arith, k.0, count_of Less ds made e)))

pub block_refused :
    (c : Clause) (row : Row) → SaysInBlock (λ t s. ⊥) c [] row → (error : RewriteError) → IsRefused row error →
    (e : StepError) → e ≡ error_of_rewriting error → AnsweredAlone c row (Err e)
block_refused c row says error r e is = subst (λ x. AnsweredAlone c row (Err x)) (sym is) (by error r)
  where
    by : (error : RewriteError) → IsRefused row error → AnsweredAlone c row (Err (error_of_rewriting error))
    by no_such_place r = says.refused _ r
    by no_such_rule r = says.refused _ r
    by does_not_fit r = says.refused _ r
    by limit r = says.refused _ r
    by no_memory r = tt

module _ (spec : Spec) (c : Clause) (n : ℕ) (patterns : List Tree) (are : ArePatternsFor spec.sig c n patterns) where
  pub cover_made :
      (ds : List Clause) → AreChildren spec.sig c n patterns are ds → (made : Children) → made ≡ children_with Same ds →
      (answer : Result Children StepError) → IsCounted 0 (Ok made) answer →
      AnsweredAlone c (cover_row spec c n patterns) answer
  cover_made ds r made e answer (inl k) =
      subst (λ (a : Result Children StepError). AnsweredAlone c (cover_row spec c n patterns) a)
      (sym (k.1 ∙ ap (λ m. Ok m) e)) ((cover_says (λ t s. ⊥)).children spec [] c n patterns are ds r
      (omega (arith, k.0, count_of Same ds made e)))
  cover_made ds r made e answer (inr k) =
      subst (λ (a : Result Children StepError). AnsweredAlone c (cover_row spec c n patterns) a) (sym k.1)
      ((cover_says (λ t s. ⊥)).full spec [] c n patterns are ds r (omega (arith, k.0, count_of Same ds made e)))

  pub cover_refused : (error : CoverError) → IsRefusedCover spec.sig c n patterns are error → (e : StepError) →
      e ≡ error_of_covering error → AnsweredAlone c (cover_row spec c n patterns) (Err e)
  cover_refused error r e is = subst (λ x. AnsweredAlone c (cover_row spec c n patterns) (Err x)) (sym is) (by error r)
    where
      by : (error : CoverError) → IsRefusedCover spec.sig c n patterns are error →
          AnsweredAlone c (cover_row spec c n patterns) (Err (error_of_covering error))
      by (not_covering value) r = (cover_says (λ t s. ⊥)).not_covering spec [] c n patterns are value r
      by past_limit r = (cover_says (λ t s. ⊥)).limit spec [] c n patterns are r
      by no_memory_left r = tt
