-- What steps make by some goals they make if more goals may be used.
use Rattle.std.proofs.Common.{◌≡◌, ℕ, suc, List, [], ◌∷◌, ◌++◌, inl, inr}
use Rattle.std.specs.Prelude.{Ok, Err}
use Rattle.term_core.specs.Tree.{Tree}
use Rattle.spec_core.specs.declared.records.Spec.{Spec}
use Rattle.clause_core.specs.declared.answers.Children.{Children}
use Rattle.clause_core.specs.declared.answers.Why.TheVariants.{NotProvedBefore}
use Rattle.clause_core.specs.declared.clauses.Clause.{Clause}
use Rattle.clause_core.specs.declared.steps.Step.{Step}
use Rattle.clause_core.specs.declared.steps.Step.TheVariants.{Trivial, Match, Absurd, Subsume, ByLemma, Rule, Case}
use Rattle.clause_core.specs.declared.steps.Step.TheVariants.{Decompose, Clash, Drop, Solve, Cover, Generalize}
use Rattle.clause_core.specs.declared.steps.Step.TheVariants.{Context, Hyp, Lemma}
use Rattle.clause_core.specs.Referred.{UsableGoal}
use Rattle.clause_core.specs.Says.{Says}
use Rattle.clause_core.specs.Steps.{row_of}
use Rattle.acceptance.specs.Blocks.{clauses_of, StepsMake, Proves}

module _
    (above : Tree → Tree → Type 0) (spec : Spec)
    (usable more : ℕ → Type 0) (may : (n : ℕ) → usable n → more n)
  where
    abbrev usable_more : (name : List ℕ) → UsableGoal spec usable name → UsableGoal spec more name
    usable_more name g = record {
      number = g.number;
      goal = g.goal;
      is = g.is;
      named = g.named;
      may_be_used = may g.number g.may_be_used;
    }

    pub says_more :
        (nodes : List Clause) (c : Clause) (step : Step) (m : Children) →
        Says above c nodes (row_of spec usable nodes c step) (Ok m) →
        Says above c nodes (row_of spec more nodes c step) (Ok m)
    says_more nodes c (Trivial k) m p = p
    says_more nodes c (Match k j) m p = p
    says_more nodes c (Absurd j) m p = p
    says_more nodes c (Subsume j terms) m p = p
    says_more nodes c (ByLemma name terms) m (inl (g, p)) = inl (usable_more name g, p)
    says_more nodes c (ByLemma name terms) m (inr p) =
        absurd (let e : Ok m ≡ Err NotProvedBefore = p.1 in cc)
    says_more nodes c (Rule place n) m p = p
    says_more nodes c (Case place n) m p = p
    says_more nodes c (Decompose kind n) m p = p
    says_more nodes c (Clash n) m p = p
    says_more nodes c (Drop kind n) m p = p
    says_more nodes c (Solve n) m p = p
    says_more nodes c (Cover v patterns) m p = p
    says_more nodes c (Generalize t) m p = p
    says_more nodes c (Context place n left) m p = p
    says_more nodes c (Hyp j terms place left) m p = p
    says_more nodes c (Lemma name terms place left) m (inl (g, p)) = inl (usable_more name g, p)
    says_more nodes c (Lemma name terms place left) m (inr p) =
        absurd (let e : Ok m ≡ Err NotProvedBefore = p.1 in cc)

    pub steps_more :
        (nodes : List Clause) (k : ℕ) (steps : List Step) (made : List Children) →
        StepsMake above spec usable nodes k steps made →
        StepsMake above spec more nodes k steps made
    steps_more nodes k [] [] p = tt
    steps_more nodes k [] (m ∷ made) p = absurd p
    steps_more nodes k (step ∷ steps) [] p = absurd p
    steps_more nodes k (step ∷ steps) (m ∷ made) p = (
      record {
        clause = p.0.clause;
        is = p.0.is;
        says = says_more nodes p.0.clause step m p.0.says;
      },
      steps_more (nodes ++ clauses_of m) (suc k) steps made p.1,
    )

    pub proves_more :
        (start : Clause) (steps : List Step) →
        Proves above spec usable start steps → Proves above spec more start steps
    proves_more start steps p = record {
      within = p.within;
      made = p.made;
      makes = steps_more (start ∷ []) 0 steps p.made p.makes;
      finished = p.finished;
      allowed = p.allowed;
    }
