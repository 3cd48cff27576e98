-- Steps of a block that are taken: the nodes so far, and the links from those with a step.
use Rattle.std.specs.Prelude.{◌≡◌, ◌<◌, ◌+◌, suc, ℕ, List, [], ◌∷◌, Result, Ok, Err, length, map, take}
use Rattle.term_core.specs.Tree.{Tree}
use Rattle.spec_core.specs.declared.records.Spec.{Spec}
use Rattle.clause_core.specs.declared.clauses.Clause.{Clause}
use Rattle.clause_core.specs.declared.steps.Step.{Step}
use Rattle.clause_core.specs.declared.answers.Children.{Children}
use Rattle.clause_core.specs.declared.answers.Why.{Why}
use Rattle.clause_core.specs.declared.reports.ReplayWhy.TheVariants.{Step as of_step}
use Rattle.acceptance.specs.Blocks.{nodes_of, StepsMake}
use Rattle.acceptance.specs.StepRefusals.{StepIsRefused}
use Rattle.inference_rules.specs.declared.nodes.StepError.{StepError}
use Rattle.inference_rules.specs.declared.nodes.StepError.TheVariants.{Why as because, OutOfMemory as no_memory}
use Rattle.inference_rules.specs.Answers.{clauses_of}
use Rattle.block_links.specs.Links.{links_of}
use Rattle.block_steps.specs.declared.taken_steps.TakenSteps.{TakenSteps}
use Rattle.block_steps.specs.Taken.{AreFewNodes}
use Rattle.replay_check.specs.Kept.{Agree, IsNeededFrom}
use Rattle.replay_check.specs.declared.answers.Stop.{Stop}
use Rattle.replay_check.specs.declared.answers.Stop.TheVariants.{Refused, OutOfMemory}

-- a step that isn't defined is refused on its line, after the first one of the claim; want of memory
-- may always come
abbrev pub StopsAt : ℕ → ℕ → StepError → Stop → Type 0
StopsAt line k (because why) (Refused at reason) = (at ≡ line + suc k) × (reason ≡ of_step why)
StopsAt line k no_memory (Refused at reason) = ⊥
StopsAt line k error OutOfMemory = Unit {0}

module _ (above : Tree → Tree → Type 0) (spec : Spec) (usable : ℕ → Type 0) where
  -- the first k steps of a block that begins with this clause are taken, and the clauses that are
  -- needed from there on are kept
  pub record AreTaken (start : Clause) (steps : List Step) (k : ℕ) (taken : TakenSteps) : Type 0
    where
      pub made : List Children
      pub makes : StepsMake above spec usable (start ∷ []) 0 (take k steps) made
      pub nodes : Agree (IsNeededFrom steps k) (clauses_of taken.nodes.items) (nodes_of start made)
      pub links : taken.links.items ≡ map links_of made
      pub few : AreFewNodes above spec usable taken

  -- all steps are taken, or one is refused, on its line, after the first one of the claim
  abbrev pub FindsSteps : Clause → List Step → ℕ → Result TakenSteps Stop → Type 0
  FindsSteps start steps line (Ok taken) = AreTaken start steps (length steps) taken
  FindsSteps start steps line (Err (Refused at reason)) =
      (k : ℕ) × (why : Why) × (k < length steps) × (at ≡ line + suc k) × (reason ≡ of_step why)
      × StepIsRefused above spec usable start steps k why
  FindsSteps start steps line (Err OutOfMemory) = Unit {0}
