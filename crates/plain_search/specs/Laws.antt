-- Laws of the blocks of plain proofs.
use Rattle.std.specs.Prelude.{◌≡◌, ℕ, ◌+◌, ◌<◌, ◌≤◌, List, [], Contains, Some, length, slice_get}
use Rattle.term_core.specs.Tree.{Tree}
use Rattle.spec_core.specs.declared.records.Goal.{Goal}
use Rattle.spec_core.specs.declared.records.Spec.{Spec}
use Rattle.spec_core.specs.Sig.{Sig, names_of}
use Rattle.spec_core.specs.WellSorted.{IsWellSorted, GoalIsSorted}
use Rattle.clause_core.specs.declared.clauses.Clause.{Clause}
use Rattle.clause_core.specs.declared.steps.Step.{Step}
use Rattle.clause_core.specs.declared.reports.Claim.{Claim}
use Rattle.clause_core.specs.declared.reports.Outcome.TheVariants.{Proved}
use Rattle.clause_core.specs.Tidied.{IsTidied, goal_clause}
use Rattle.acceptance.specs.Blocks.{Proves}
use Rattle.acceptance.specs.Claims.{ProvedBefore}
use Rattle.proof_script.specs.Claims.{claim_text}
use Rattle.plain_proof.specs.PlainProofs.{IsPlain}
use Rattle.plain_search.specs.Choices.{IsChosen}
use Rattle.plain_search.specs.Blocks.{IsPlainBlock}

-- one step at most is chosen at a node, in a block that begins with a tidied clause without premises
abbrev pub OneChoice : (Tree → Tree → Type 0) → Type 0
OneChoice above =
    (spec : Spec) (numbers : List ℕ) (start : Clause) (nodes : List Clause) (c : Clause)
    (a b : Step) → IsWellSorted spec → IsTidied start → start.premises ≡ [] →
    slice_get nodes 0 ≡ Some start → IsChosen above spec (Contains numbers) start nodes c a →
    IsChosen above spec (Contains numbers) start nodes c b → a ≡ b

-- a goal without premises has at most one such block on a variable
abbrev pub OneBlock : (Tree → Tree → Type 0) → Type 0
OneBlock above =
    (spec : Spec) (goal : Goal) (x : ℕ) (a b : List Step) → IsWellSorted spec →
    goal.premises ≡ [] → IsPlainBlock above spec goal x a → IsPlainBlock above spec goal x b → a ≡ b

-- no name of a symbol has more than 64 bytes
abbrev pub NamesAreShort : Sig → Type 0
NamesAreShort sig =
    (f : ℕ) (name : List ℕ) → slice_get (names_of sig) f ≡ Some name → length name ≤ 64

-- the goal's plain proof on x of this length has a block, which proves the goal after any claims, and
-- has at most one step more than the proof is long; the text of the claim has at most 300,000 bytes
-- if the length is at most 1,000, names are short and there are few rules
pub record HasBlock (above : Tree → Tree → Type 0) (spec : Spec) (goal : Goal) (x long : ℕ) :
    Type 0 where
  pub steps : List Step
  pub plain : IsPlainBlock above spec goal x steps
  pub proves :
      (before : List Claim) → Proves above spec (ProvedBefore spec before) (goal_clause goal) steps
  pub few : length steps ≤ long + 1
  pub short :
      long ≤ 1000 → length goal.name ≤ 64 → NamesAreShort spec.sig → length spec.rules < 9999 →
      length
      (claim_text spec.sig (record {
        goal = goal.name;
        outcome = Proved (record { steps = steps });
      }))
      ≤ 300000

-- a goal with a plain proof that is shorter than the most nodes of a block has a block of it
abbrev pub PlainBlocks : (Tree → Tree → Type 0) → Type 0
PlainBlocks above =
    (spec : Spec) (goal : Goal) (x long : ℕ) → IsWellSorted spec → GoalIsSorted spec.sig goal →
    IsPlain spec goal x long → long < 10000 → HasBlock above spec goal x long
