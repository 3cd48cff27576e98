-- One child that is compared, and references: within the limits they are made, and past them they
-- are the limit.
use Rattle.std.proofs.Common.{◌≡◌, ℕ, List, [], ◌∷◌, inl, inr, refl, ap, arith}
use Rattle.std.specs.Prelude.{Ok, Err}
use Rattle.std.specs.List.{AllZip}
use Rattle.term_core.specs.Tree.{Tree}
use Rattle.clause_core.specs.declared.clauses.Clause.{Clause}
use Rattle.clause_core.specs.declared.clauses.Relation.{Relation}
use Rattle.clause_core.specs.declared.answers.Children.{Children}
use Rattle.clause_core.specs.declared.answers.Reference.{Reference}
use Rattle.clause_core.specs.declared.answers.Why.TheVariants.{Limit}
use Rattle.clause_core.specs.Comparing.{Compares}
use Rattle.clause_core.specs.Limits.{IsWithin}
use Rattle.clause_core.specs.Rows.{compared_child, makes}
use Rattle.clause_core.specs.Says.{IsReference}
use Rattle.clause_core.specs.Tidied.{tidied}
use Rattle.clause_core.proofs.TidiedLimits.{tidied_within}
use Rattle.inference_rules.specs.declared.nodes.StepError.TheVariants.{Why as because}
use Rattle.inference_rules.specs.Answers.{Answered}

module _ (above : Tree → Tree → Type 0) (c d : Clause) (relation : Relation)
    (compares : Compares above c d relation) (referred : List (ℕ × Clause)) (refs : List Reference)
    (are : AllZip (IsReference above c) referred refs) where
  the_child : Children
  the_child = record { clauses = record { clause = tidied d; relation = relation } ∷ []; refs = refs }

  pub past_limits : (IsWithin d → ⊥) →
      Answered above c [] (makes (compared_child d ∷ []) referred) (Err (because Limit))
  unfolding the_child
  past_limits n = (the_child, ((refl, compares), tt), are, inr (λ w. n ((tidied_within d).0 w.0.0), refl))

  pub child_held : IsWithin d → (made : Children) →
      made ≡ record { clauses = record { clause = tidied d; relation = relation } ∷ []; refs = refs } →
      Answered above c [] (makes (compared_child d ∷ []) referred) (Ok made)
  unfolding the_child
  child_held w made is = (
    the_child,
    ((refl, compares), tt),
    are,
    inl ((((tidied_within d).1 w, tt), omega arith), ap (λ z. Ok z) is),
  )
