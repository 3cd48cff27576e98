-- What stays the same while a proof is looked for: the lemmas as clauses, and the table of the rules
-- of each function.
use Rattle.std.specs.Prelude.{◌≡◌, ℕ, List, map}
use Rattle.std.specs.List.{AllByRecursion}
use Rattle.term_core.specs.Tree.{Tree}
use Rattle.spec_core.specs.declared.records.Goal.{Goal}
use Rattle.spec_core.specs.declared.records.Spec.{Spec}
use Rattle.spec_core.specs.RuleTables.{IsTableOf}
use Rattle.spec_core.specs.WellSorted.{IsWellSorted}
use Rattle.clause_core.specs.declared.clauses.Clause.{Clause}
use Rattle.clause_core.specs.Tidied.{goal_clause}
use Rattle.routine_proof.specs.Entries.{lemma_goals}
use Rattle.proof_search.specs.declared.setting.LemmaGoal.{LemmaGoal}
use Rattle.proof_search.specs.declared.setting.Setting.{Setting}
use Rattle.proof_search.specs.FallingSides.{AreLemmaSides}
use Rattle.fitting_lists.specs.Leading.{IsPlace}

-- the name and the clause of a lemma
abbrev pub named : LemmaGoal → List ℕ × Clause
named m = (m.name, m.clause)

abbrev pub lemma_goal : Goal → List ℕ × Clause
lemma_goal goal = (goal.name, goal_clause goal)

-- the lemma is the goal, with what is asked of it at each node
pub record IsLemma (above : Tree → Tree → Type 0) (goal : Goal) (m : LemmaGoal) : Type 0 where
  pub is : named m ≡ lemma_goal goal
  pub leading : IsPlace m.clause m.leading
  pub sides : AreLemmaSides above m.clause m.sides

-- the lemmas are the goals of these numbers
pub record AreLemmas (above : Tree → Tree → Type 0) (spec : Spec) (lemmas : List ℕ)
    (ms : List LemmaGoal) : Type 0 where
  pub are : map named ms ≡ map lemma_goal (lemma_goals spec lemmas)
  pub leadings : AllByRecursion (λ (m : LemmaGoal). IsPlace m.clause m.leading) ms
  pub sides : AllByRecursion (λ (m : LemmaGoal). AreLemmaSides above m.clause m.sides) ms

pub record IsSetting (s : Setting) : Type 0 where
  pub fine : IsWellSorted s.spec.now
  pub goals : map named s.goals.items ≡ map lemma_goal (lemma_goals s.spec.now s.lemmas.now)
  pub leadings : AllByRecursion (λ (m : LemmaGoal). IsPlace m.clause m.leading) s.goals.items
  pub rules : IsTableOf s.spec.now s.rules
