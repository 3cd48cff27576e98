-- Steps of a block that are taken: the nodes so far, and the links from those with a step.
use Rattle.std.specs.Prelude.{◌≡◌, ◌≤◌, ◌-◌, ℕ, List, [], ◌∷◌, ◌++◌, Result, Ok, Err, length, map, take}
use Rattle.term_core.specs.Tree.{Tree}
use Rattle.spec_core.specs.declared.records.Spec.{Spec}
use Rattle.clause_core.specs.declared.clauses.Clause.{Clause}
use Rattle.clause_core.specs.declared.steps.Step.{Step}
use Rattle.clause_core.specs.declared.answers.Children.{Children}
use Rattle.acceptance.specs.Blocks.{nodes_of, StepMakes, StepsMake}
use Rattle.acceptance.specs.StepRefusals.{IsRefused}
use Rattle.inference_rules.specs.declared.nodes.StepError.{StepError}
use Rattle.inference_rules.specs.declared.nodes.StepError.TheVariants.{Why as because, OutOfMemory as no_memory}
use Rattle.inference_rules.specs.Answers.{clauses_of}
use Rattle.inference_rules.specs.Nodes.{AreNodes, clauses_made}
use Rattle.block_links.specs.Links.{links_of}
use Rattle.block_steps.specs.declared.taken_steps.TakenSteps.{TakenSteps}

module _ (above : Tree → Tree → Type 0) (spec : Spec) (usable : ℕ → Type 0) where
  -- each node that is made can be in a block, there are few, and each step has its own
  pub record AreFewNodes (taken : TakenSteps) : Type 0 where
    pub nodes : AreNodes spec.sig (clauses_of taken.nodes.items)
    pub few : length taken.nodes.items ≤ 10000
    pub reached : length taken.links.items ≤ length taken.nodes.items

  -- the step of the next node adds what it makes, or is refused
  abbrev pub TakesStep : TakenSteps → TakenSteps → Step → Result Unit StepError → Type 0
  TakesStep old new step (Ok done) =
      (made : Children)
      × StepMakes above spec usable (clauses_of old.nodes.items) (length old.links.items) step made
      × (clauses_of new.nodes.items ≡ clauses_of old.nodes.items ++ clauses_made made)
      × (new.links.items ≡ old.links.items ++ links_of made ∷ [])
      × AreFewNodes new
  TakesStep old new step (Err (because why)) =
      IsRefused above spec usable (clauses_of old.nodes.items) (length old.links.items) step why
  TakesStep old new step (Err no_memory) = Unit {0}

  -- the steps of a block that begins with this clause are taken
  pub record AreTaken (start : Clause) (steps : List Step) (taken : TakenSteps) : Type 0 where
    pub made : List Children
    pub makes : StepsMake above spec usable (start ∷ []) 0 steps made
    pub nodes : clauses_of taken.nodes.items ≡ nodes_of start made
    pub links : taken.links.items ≡ map links_of made
    pub few : AreFewNodes taken

-- the last link is dropped, with as many nodes as it has children; if there is none, nothing is
pub record TakesBack (old new : TakenSteps) : Type 0 where
  pub last :
      (links : List Children) (link : Children) → old.links.items ≡ links ++ link ∷ [] →
      (new.links.items ≡ links)
      × (clauses_of new.nodes.items
      ≡ take (length old.nodes.items - length link.clauses) (clauses_of old.nodes.items))
  pub none :
      old.links.items ≡ [] →
      (new.links.items ≡ []) × (clauses_of new.nodes.items ≡ clauses_of old.nodes.items)
