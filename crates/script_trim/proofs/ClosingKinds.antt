-- What holds of each kind of closing step holds of every closing step.
use Rattle.std.proofs.Common.{ℕ, suc, ◌+◌, ◌≤◌, ◌<◌, List, [], ◌∷◌, ◌++◌, arith, length, map, subst}
use Rattle.std.specs.Prelude.{Contains, flat_map}
use Rattle.std.specs.List.{AllByRecursion}
use Rattle.term_core.proofs.Items.{all_append, all_at_or}
use Rattle.spec_core.specs.declared.records.Equation.{Equation}
use Rattle.spec_core.specs.declared.records.Goal.{Goal}
use Rattle.spec_core.specs.declared.records.Spec.{Spec}
use Rattle.clause_core.specs.declared.clauses.Clause.{Clause}
use Rattle.clause_core.specs.declared.steps.Step.{Step}
use Rattle.clause_core.specs.declared.steps.Step.TheVariants.{Trivial, Match, Absurd, Subsume, ByLemma}
use Rattle.clause_core.specs.Tidied.{goal_clause}
use Rattle.proof_script.specs.Standing.{Between}
use Rattle.script_trim.specs.Closing.{numbers, own_variables, subsume_each, by_each_lemma, closing_steps}
use Rattle.script_trim.proofs.AllItems.{all_mapped, all_flat, all_from}

-- a goal as it is
abbrev pub as_lemma : Goal → Step
as_lemma goal = ByLemma goal.name (own_variables (goal_clause goal))

-- P holds of the closing steps of each kind at a node with clause c, where these are the nodes
pub record HoldsOfKinds (P : Step → Type 0) (spec : Spec) (nodes : List Clause) (c : Clause) :
    Type 0 where
  pub trivials : (k : ℕ) → Between 1 (length c.conclusions) k → P (Trivial k)
  pub matches :
      (k j : ℕ) → Between 1 (length c.conclusions) k → Between 1 (length c.premises) j →
      P (Match k j)
  pub absurds : (j : ℕ) → Between 1 (length c.premises) j → P (Absurd j)
  pub others : (k : ℕ) (d : Clause) → k < length nodes → P (Subsume k (own_variables d))
  pub lemmas : AllByRecursion (λ (goal : Goal). P (as_lemma goal)) spec.goals

all_numbers :
    (P : ℕ → Type 0) (es : List Equation) → ((k : ℕ) → Between 1 (length es) k → P k) →
    AllByRecursion P (numbers es)
all_numbers P es h = all_from P 1 (length es) (λ k low high. h k (low, omega (arith, high)))

all_subsume :
    (P : Step → Type 0) (n k : ℕ) (cs : List Clause) → k + length cs ≤ n →
    ((j : ℕ) (d : Clause) → j < n → P (Subsume j (own_variables d))) →
    AllByRecursion P (subsume_each k cs)
all_subsume P n k [] l h = tt
all_subsume P n k (c ∷ cs) l h =
    (h k c (omega (arith, l)), all_subsume P n (suc k) cs (omega (arith, l)) h)

module _
    (P : Step → Type 0) (spec : Spec) (nodes : List Clause) (c : Clause)
    (h : HoldsOfKinds P spec nodes c)
  where
    abbrev trivials : List Step
    trivials = map (λ (k : ℕ). Trivial k) (numbers c.conclusions)

    abbrev matches_of : ℕ → List Step
    matches_of k = map (λ (j : ℕ). Match k j) (numbers c.premises)

    abbrev matches : List Step
    matches = flat_map (λ (k : ℕ). matches_of k) (numbers c.conclusions)

    abbrev absurds : List Step
    absurds = map (λ (j : ℕ). Absurd j) (numbers c.premises)

    abbrev by_others : List Step
    by_others = subsume_each 0 nodes ++ by_each_lemma spec.goals

    all_trivial : AllByRecursion P trivials
    all_trivial =
        all_mapped P (λ (k : ℕ). Trivial k) (numbers c.conclusions)
        (all_numbers (λ k. P (Trivial k)) c.conclusions h.trivials)

    all_match : AllByRecursion P matches
    all_match =
        all_flat P (λ (k : ℕ). matches_of k) (numbers c.conclusions)
        (all_numbers (λ k. AllByRecursion P (matches_of k)) c.conclusions (λ k b. each k b))
      where
        each : (k : ℕ) → Between 1 (length c.conclusions) k → AllByRecursion P (matches_of k)
        each k b =
            all_mapped P (λ (j : ℕ). Match k j) (numbers c.premises)
            (all_numbers (λ j. P (Match k j)) c.premises (λ j a. h.matches k j b a))

    all_absurd : AllByRecursion P absurds
    all_absurd =
        all_mapped P (λ (j : ℕ). Absurd j) (numbers c.premises)
        (all_numbers (λ j. P (Absurd j)) c.premises h.absurds)

    all_others : AllByRecursion P by_others
    all_others =
        all_append P (subsume_each 0 nodes) (by_each_lemma spec.goals)
        (all_subsume P (length nodes) 0 nodes (omega arith) h.others)
        (all_mapped P as_lemma spec.goals h.lemmas)

    all_closing : AllByRecursion P (closing_steps spec nodes c)
    all_closing =
        all_append P trivials (matches ++ (absurds ++ by_others)) all_trivial
        (all_append P matches (absurds ++ by_others) all_match
        (all_append P absurds by_others all_absurd all_others))

    pub closing_has : (step : Step) → Contains (closing_steps spec nodes c) step → P step
    closing_has step (k, l, e) =
        subst P e (all_at_or P (closing_steps spec nodes c) k step all_closing l)
