-- Closing steps that are tried at a node, one after the other.
use Rattle.std.specs.Prelude.{◌≡◌, ◌<◌, ◌^◌, List, ◌++◌, Option, Some, None, Contains, IsTrue, length, map}
use Rattle.std.specs.Prelude.{slice_get, take}
use Rattle.term_core.specs.Tree.{Tree}
use Rattle.spec_core.specs.declared.records.Goal.{Goal}
use Rattle.spec_core.specs.declared.records.Spec.{Spec}
use Rattle.clause_core.specs.declared.answers.Children.{Children}
use Rattle.clause_core.specs.declared.clauses.Clause.{Clause}
use Rattle.clause_core.specs.declared.steps.Step.{Step}
use Rattle.clause_core.specs.Tidied.{goal_clause}
use Rattle.descent.specs.SortedChildren.{IsNode}
use Rattle.spec_core.specs.WellSorted.{IsWellSorted}
use Rattle.acceptance.specs.Blocks.{StepMakes}
use Rattle.inference_rules.specs.Answers.{clauses_of}
use Rattle.inference_rules.specs.Nodes.{AreNodes}
use Rattle.script_trim.specs.declared.blocks.Fit.{Fit}
use Rattle.script_trim.specs.declared.fitting.Spot.{Spot}
use Rattle.script_trim.specs.declared.lemmas.LemmaClause.{LemmaClause}
use Rattle.script_trim.specs.declared.lemmas.Lemmas.{Lemmas}
use Rattle.script_trim.specs.Fitting.{AreDefined}
use Rattle.script_trim.specs.Keys.{key_of}
use Rattle.script_trim.specs.Sharing.{IsAlone}

-- the clause of a goal, with its key
abbrev pub lemma_clause : Goal → LemmaClause
lemma_clause goal = record { clause = goal_clause goal; key = key_of (goal_clause goal) }

-- they have the clauses of the specification's goals
abbrev pub AreLemmas : Spec → Lemmas → Type 0
AreLemmas spec lemmas = lemmas.clauses.items ≡ map lemma_clause spec.goals

-- the clause is that of the node with this number, among nodes of a well sorted specification; if it is
-- said to be alone it is
pub record IsSpot (spot : Spot) : Type 0 where
  pub fine : IsWellSorted spot.spec.now
  pub nodes : AreNodes spot.spec.now.sig (clauses_of spot.nodes.now)
  pub few : length spot.nodes.now < 2 ^ 32
  pub in_range : spot.number < length spot.nodes.now
  pub here : slice_get (clauses_of spot.nodes.now) spot.number ≡ Some spot.here.now
  pub node : IsNode spot.spec.now.sig spot.here.now
  pub alone : IsTrue spot.alone → IsAlone (clauses_of spot.nodes.now) spot.number spot.here.now

module _ (above : Tree → Tree → Type 0) (spot : Spot) where
  -- what the step makes there
  abbrev pub MakesThere : Step → Children → Type 0
  MakesThere =
      StepMakes above spot.spec.now (Contains spot.proved.now) (clauses_of spot.nodes.now)
      spot.number

  -- what is made, or none if the step isn't defined
  abbrev pub IsTried : Step → Option Children → Type 0
  IsTried step None = (made : Children) → MakesThere step made → ⊥
  IsTried step (Some made) = MakesThere step made

  -- those of the steps that are defined there are added to the list
  pub record Adds (steps : List Step) (old new : List Fit) : Type 0 where
    pub more : List Fit
    pub is : new ≡ old ++ more
    pub defined :
        AreDefined above spot.spec.now (Contains spot.proved.now) (clauses_of spot.nodes.now)
        spot.number steps more

  -- the fits at the node of a block that begins with these nodes, whatever nodes come later
  abbrev pub AreFits : (Spec → List Clause → Clause → List Step) → List Fit → Type 0
  AreFits steps fits =
      (all : List Clause) →
      take (length (clauses_of spot.nodes.now)) all ≡ clauses_of spot.nodes.now →
      AreDefined above spot.spec.now (Contains spot.proved.now) (clauses_of spot.nodes.now)
      spot.number (steps spot.spec.now all spot.here.now) fits
