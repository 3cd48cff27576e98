-- If two words say the same of which goals may be used, by their numbers, steps make the same and are
-- refused for the same reasons.
use Rattle.std.proofs.Common.{ℕ, suc, List, [], ◌∷◌, ◌++◌, inl, inr, take}
use Rattle.std.specs.Prelude.{◌↔◌, Result, Ok, Err}
use Rattle.term_core.specs.Tree.{Tree}
use Rattle.spec_core.specs.declared.records.Spec.{Spec}
use Rattle.clause_core.specs.declared.clauses.Clause.{Clause}
use Rattle.clause_core.specs.declared.steps.Step.{Step}
use Rattle.clause_core.specs.declared.steps.Step.TheVariants.{ByLemma, Lemma}
use Rattle.clause_core.specs.declared.answers.Children.{Children}
use Rattle.clause_core.specs.declared.answers.Why.{Why}
use Rattle.clause_core.specs.Referred.{UsableGoal}
use Rattle.clause_core.specs.Says.{Says}
use Rattle.clause_core.specs.Steps.{row_of}
use Rattle.acceptance.specs.Blocks.{clauses_of, StepsMake}
use Rattle.acceptance.specs.StepRefusals.{IsRefused, StepIsRefused}

abbrev usable_too : (spec : Spec) (usable other : ℕ → Type 0) → ((k : ℕ) → usable k → other k) →
    (name : List ℕ) → UsableGoal spec usable name → UsableGoal spec other name
usable_too spec usable other too name u =
    record {
      number = u.number;
      goal = u.goal;
      is = u.is;
      named = u.named;
      may_be_used = too u.number u.may_be_used;
    }

module _
    (above : Tree → Tree → Type 0) (spec : Spec) (usable other : ℕ → Type 0)
    (same : (k : ℕ) → usable k ↔ other k)
  where
    abbrev there : (name : List ℕ) → UsableGoal spec usable name → UsableGoal spec other name
    there = usable_too spec usable other (λ k. (same k).0)

    abbrev back : (name : List ℕ) → UsableGoal spec other name → UsableGoal spec usable name
    back = usable_too spec other usable (λ k. (same k).1)

    says_same : (c : Clause) (nodes : List Clause) (step : Step) (answer : Result Children Why) →
        Says above c nodes (row_of spec usable nodes c step) answer →
        Says above c nodes (row_of spec other nodes c step) answer
    says_same c nodes (ByLemma name terms) answer (inl h) = inl (there name h.0, h.1)
    says_same c nodes (ByLemma name terms) answer (inr h) = inr (λ u. h.0 (back name u), h.1)
    says_same c nodes (Lemma name terms place left) answer (inl h) = inl (there name h.0, h.1)
    says_same c nodes (Lemma name terms place left) answer (inr h) = inr (λ u. h.0 (back name u), h.1)
    says_same c nodes step answer h = h

    pub makes_same : (nodes : List Clause) (k : ℕ) (steps : List Step) (made : List Children) →
        StepsMake above spec usable nodes k steps made → StepsMake above spec other nodes k steps made
    makes_same nodes k [] [] p = tt
    makes_same nodes k [] (m ∷ made) p = absurd p
    makes_same nodes k (step ∷ steps) [] p = absurd p
    makes_same nodes k (step ∷ steps) (m ∷ made) p = (
      record {
        clause = p.0.clause;
        is = p.0.is;
        says = says_same p.0.clause nodes step (Ok m) p.0.says;
      },
      makes_same (nodes ++ clauses_of m) (suc k) steps made p.1,
    )

    refused_here :
        (nodes : List Clause) (k : ℕ) (step : Step) (why : Why) → IsRefused above spec usable nodes k step why →
        IsRefused above spec other nodes k step why
    refused_here nodes k step why (inl h) = inl h
    refused_here nodes k step why (inr h) = inr (h.0, h.1, says_same h.0 nodes step (Err why) h.2)

    pub refused_same :
        (start : Clause) (steps : List Step) (k : ℕ) (why : Why) →
        StepIsRefused above spec usable start steps k why → StepIsRefused above spec other start steps k why
    refused_same start steps k why h =
        (h.0, h.1, h.2, makes_same (start ∷ []) 0 (take k steps) h.1 h.3, refused_here _ k h.0 why h.4)
