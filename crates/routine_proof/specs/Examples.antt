-- What the definitions say of naturals with addition, as one works it out by hand.
use Rattle.std.specs.Prelude.{◌≡◌, List, [], ◌∷◌, true, false, Some, None, codes, map}
use Rattle.term_core.specs.Tree.{var}
use Rattle.spec_core.specs.declared.records.Goal.{Goal}
use Rattle.spec_core.specs.declared.records.Spec.{Spec}
use Rattle.spec_core.specs.Naturals.{naturals, zero_term, succ_term, plus_term}
use Rattle.sample_specs.specs.SumOrder.{AboveInSums}
use Rattle.clause_core.specs.declared.steps.Step.{Step}
use Rattle.clause_core.specs.declared.steps.Step.TheVariants.{Trivial, Match, Absurd, Decompose, Clash, Solve, Rule}
use Rattle.clause_core.specs.declared.steps.Step.TheVariants.{Subsume, ByLemma, Hyp, Lemma, Case, Cover}
use Rattle.clause_core.specs.ClauseExamples.{equals, claims}
use Rattle.clause_core.specs.ExampleClauses.{one, unit_clause, conclusion_side}
use Rattle.clause_core.specs.TableExamples.{zero_or_succ}
use Rattle.clause_core.specs.Tidied.{goal_clause}
use Rattle.routine_proof.specs.Blocks.{root}
use Rattle.routine_proof.specs.Candidates.{Candidate}
use Rattle.routine_proof.specs.Entries.{lemma_goals, entries, demanded_covers}
use Rattle.routine_proof.specs.Routine.{no_split, split, starts, candidates, IsRoutine, IsFirstProof}
use Rattle.routine_proof.specs.Ways.{Node, ancestors}

-- goal sum : plus(succ(zero), zero) = succ(zero)
abbrev pub sum_goal : Goal
sum_goal = record {
  name = codes "sum";
  vars = [];
  premises = [];
  conclusions = equals (plus_term (succ_term zero_term) zero_term) (succ_term zero_term) ∷ [];
}

-- rule c1.l 2, rule c1.l.1 1, trivial c1
abbrev pub sum_steps : List Step
sum_steps =
    Rule (conclusion_side true []) 2 ∷ Rule (conclusion_side true (1 ∷ [])) 1 ∷ Trivial 1 ∷ []

-- cover ?0 [zero, succ(_)], and rule c1.l 2
abbrev pub by_cases : Step
by_cases = Cover (record { 0 = 0 }) zero_or_succ

abbrev pub by_rule : Step
by_rule = Rule (conclusion_side true []) 2

-- the steps of candidates in their order, each with no terms for its list
abbrev pub listed : List Candidate → List Step
listed cs = map (λ (c : Candidate). c.step []) cs

-- => ?0 = zero, after the node plus(?0, zero) = ?0 and the step rule c1.l 2 there
abbrev pub behind_unit : Node
behind_unit = record {
  clause = claims one (equals (var 0) zero_term);
  way = (0, by_rule) ∷ [];
}

-- ?0 = zero => ?0 = zero, zero = ?0, as the only node
abbrev pub with_premise : Node
with_premise = root (record {
  ctx = one;
  premises = equals (var 0) zero_term ∷ [];
  conclusions = equals (var 0) zero_term ∷ equals zero_term (var 0) ∷ [];
})

-- naturals without rules
abbrev pub no_rules : Spec
no_rules = record naturals { rules = [] }

pub record WorkedExamples : Type 0 where
  -- plus(succ(zero), zero) = succ(zero) has this routine block, which is its first proof if
  -- three nodes may be made; with two nodes it has none
  pub block : IsRoutine AboveInSums naturals [] (goal_clause sum_goal) no_split sum_steps
  pub first_proof : IsFirstProof AboveInSums naturals [] sum_goal 3 (Some sum_steps)
  pub too_few_nodes : IsFirstProof AboveInSums naturals [] sum_goal 2 None
  -- a clause with one variable is tried without a split, and then with the split at it
  pub starts_of_unit : starts unit_clause ≡ no_split ∷ split 0 ∷ []
  -- the split is the cover of its variable, at node 0 alone
  pub split_covers :
      listed (candidates naturals [] (split 0) 0 (root unit_clause ∷ []) (root unit_clause))
      ≡ by_cases ∷ []
  pub behind_the_split :
      listed (candidates no_rules [] (split 0) 1 (with_premise ∷ []) with_premise)
      ≡ listed (entries no_rules [] (with_premise ∷ []) with_premise)
  -- nodes after which there are covers alone aren't among the ancestors
  pub ancestors_to_a_rule :
      ancestors ((0, by_cases) ∷ (2, by_rule) ∷ (4, by_cases) ∷ []) ≡ 0 ∷ 2 ∷ []
  pub no_ancestors : ancestors ((0, by_cases) ∷ (1, by_cases) ∷ []) ≡ []
  -- goals are lemmas in the order of the specification, each once
  pub lemmas_in_order : lemma_goals naturals (1 ∷ 0 ∷ 1 ∷ []) ≡ naturals.goals
  -- after node 0 and with the goal unit as a lemma: each entry in its order, the places of the
  -- left side before those of the right one, and an equation as written before it is swapped
  pub list_behind_unit :
      listed
      (entries naturals (lemma_goals naturals (1 ∷ []))
      (root unit_clause ∷ behind_unit ∷ []) behind_unit)
      ≡ Trivial 1
      ∷ Clash 1
      ∷ Rule (conclusion_side true []) 1
      ∷ Rule (conclusion_side true []) 2
      ∷ Rule (conclusion_side false []) 1
      ∷ Rule (conclusion_side false []) 2
      ∷ Decompose true 1
      ∷ Subsume 0 []
      ∷ Subsume 0 []
      ∷ ByLemma (codes "unit") []
      ∷ ByLemma (codes "unit") []
      ∷ Hyp 0 [] (conclusion_side true []) true
      ∷ Hyp 0 [] (conclusion_side true []) false
      ∷ Hyp 0 [] (conclusion_side false []) true
      ∷ Hyp 0 [] (conclusion_side false []) false
      ∷ Lemma (codes "unit") [] (conclusion_side true []) true
      ∷ Lemma (codes "unit") [] (conclusion_side true []) false
      ∷ Lemma (codes "unit") [] (conclusion_side false []) true
      ∷ Lemma (codes "unit") [] (conclusion_side false []) false
      ∷ Case (conclusion_side true []) 1
      ∷ Case (conclusion_side true []) 2
      ∷ Case (conclusion_side false []) 1
      ∷ Case (conclusion_side false []) 2
      ∷ []
  -- with a premise and two conclusions, and without rules: the least number first
  pub list_with_premise :
      listed (entries no_rules [] (with_premise ∷ []) with_premise)
      ≡ Trivial 1
      ∷ Trivial 2
      ∷ Match 1 1
      ∷ Match 2 1
      ∷ Absurd 1
      ∷ Decompose false 1
      ∷ Clash 1
      ∷ Clash 2
      ∷ Solve 1
      ∷ Decompose true 1
      ∷ Decompose true 2
      ∷ []
  -- plus(?0, zero) asks for ?0
  pub cover_by_demand : listed (demanded_covers naturals unit_clause) ≡ by_cases ∷ []
