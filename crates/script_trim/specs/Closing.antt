-- Steps that could close a node without a choice of terms.
use Rattle.std.specs.Prelude.{ℕ, suc, List, [], ◌∷◌, ◌++◌, flat_map, length, map}
use Rattle.std.specs.List.{range_with_len}
use Rattle.term_core.specs.Tree.{Tree}
use Rattle.spec_core.specs.declared.records.Goal.{Goal}
use Rattle.spec_core.specs.declared.records.Spec.{Spec}
use Rattle.clause_core.specs.declared.clauses.Clause.{Clause}
use Rattle.clause_core.specs.declared.steps.Step.{Step}
use Rattle.clause_core.specs.declared.steps.Step.TheVariants.{Trivial, Match, Absurd, Subsume, ByLemma}
use Rattle.clause_core.specs.Instances.{variables}
use Rattle.clause_core.specs.Tidied.{goal_clause}

-- the numbers of the equations of a list, from 1 on
abbrev pub numbers : {A : Type 0} → List A → List ℕ
numbers equations = range_with_len 1 (length equations)

-- each of its own conclusions, each with each premise, and each premise
abbrev pub trivials : Clause → List Step
trivials c = map (λ k. Trivial k) (numbers c.conclusions)

abbrev pub matches_of : Clause → ℕ → List Step
matches_of c k = map (λ j. Match k j) (numbers c.premises)

abbrev pub matches : Clause → List Step
matches c = flat_map (matches_of c) (numbers c.conclusions)

abbrev pub absurds : Clause → List Step
absurds c = map (λ j. Absurd j) (numbers c.premises)

-- [?0, ?1, ..]: the variables of a clause, as a list of terms for them
abbrev pub own_variables : Clause → List Tree
own_variables c = variables 0 (length c.ctx)

-- each node as it is, where these nodes have the numbers from k on
abbrev pub subsume_each : ℕ → List Clause → List Step
subsume_each k [] = []
subsume_each k (c ∷ cs) = Subsume k (own_variables c) ∷ subsume_each (suc k) cs

-- a goal as it is, and each goal
abbrev pub by_whole_lemma : Goal → Step
by_whole_lemma goal = ByLemma goal.name (own_variables (goal_clause goal))

abbrev pub by_each_lemma : List Goal → List Step
by_each_lemma goals = map by_whole_lemma goals

-- the closing steps at a node of a block with these nodes, in their order: first by its own
-- equations, then by another node as it is, then by a goal as it is
abbrev pub closing_steps : Spec → List Clause → Clause → List Step
closing_steps spec nodes c =
    trivials c
    ++ (matches c ++ (absurds c ++ (subsume_each 0 nodes ++ by_each_lemma spec.goals)))
