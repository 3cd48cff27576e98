-- The clauses of a block's nodes that are kept while its steps are taken.
use Rattle.std.specs.Prelude.{◌≡◌, ◌⊎◌, ◌<◌, ◌≤◌, ℕ, List, Option, Some, None, length, slice_get, slice_index_or}
use Rattle.spec_core.specs.Sig.{Sig}
use Rattle.clause_core.specs.declared.clauses.Clause.{Clause}
use Rattle.clause_core.specs.declared.steps.Step.{Step}
use Rattle.clause_core.specs.declared.steps.Step.TheVariants.{Subsume, Hyp}
use Rattle.inference_rules.specs.Answers.{clauses_of}
use Rattle.inference_rules.specs.Nodes.{AreNodes}
use Rattle.block_steps.specs.declared.taken_steps.TakenSteps.{TakenSteps}

-- the node that the step refers to by its number
abbrev pub referred : Step → Option ℕ
referred (Subsume node terms) = Some node
referred (Hyp node terms place left) = Some node
referred step = None

-- no step after the one that is given for a node refers to it
abbrev pub TellLastUses : List Step → List ℕ → Type 0
TellLastUses steps lasts =
    (k node : ℕ) (step : Step) → slice_get steps k ≡ Some step → referred step ≡ Some node →
    node < length lasts → k ≤ slice_index_or lasts node 0

-- the node's step is step k or comes after it, or such a step refers to the node
abbrev pub IsNeededFrom : List Step → ℕ → ℕ → Type 0
IsNeededFrom steps k node =
    (k ≤ node)
    ⊎ ((j : ℕ) × (step : Step) × (k ≤ j) × (slice_get steps j ≡ Some step)
    × (referred step ≡ Some node))

-- the node's step is after step k, or the last step that refers to the node is
abbrev pub IsNeededBehind : List ℕ → ℕ → ℕ → Type 0
IsNeededBehind lasts k node = (k < node) ⊎ (k < slice_index_or lasts node 0)

-- there are as many clauses, and those of these nodes are the same
pub record Agree (needed : ℕ → Type 0) (clauses others : List Clause) : Type 0 where
  pub long : length clauses ≡ length others
  pub same : (k : ℕ) → needed k → slice_get clauses k ≡ slice_get others k

-- the clauses of these nodes are kept, and others may be let go; what is left can be in a block
-- as before
pub record LetsGo (needed : ℕ → Type 0) (old new : TakenSteps) : Type 0 where
  pub kept : Agree needed (clauses_of new.nodes.items) (clauses_of old.nodes.items)
  pub nodes :
      (sig : Sig) → AreNodes sig (clauses_of old.nodes.items) →
      AreNodes sig (clauses_of new.nodes.items)
  pub links : new.links.items ≡ old.links.items
