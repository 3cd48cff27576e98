-- Steps that are taken one after the other, and whose links are allowed, prove the goal.
use Rattle.std.proofs.Common.{◌≡◌, ℕ, ◌≤◌, List, ◌∷◌, [], length, ap, sym, ◌∙◌, subst, arith, refl}
use Rattle.std.specs.Prelude.{Contains, Some, Ok, Err, Result, IfOk, slice_get}
use Rattle.std.proofs.lemmas.List.{length-map}
use Rattle.term_core.specs.Tree.{Tree}
use Rattle.spec_core.specs.declared.records.Goal.{Goal}
use Rattle.spec_core.specs.declared.records.Spec.{Spec}
use Rattle.clause_core.specs.declared.steps.Step.{Step}
use Rattle.clause_core.specs.Limits.{IsWithin}
use Rattle.clause_core.specs.Tidied.{goal_clause}
use Rattle.inference_rules.specs.declared.nodes.Node.{Node}
use Rattle.acceptance.specs.AllowedAnswers.{IsWholeBlock, TellsAllowed}
use Rattle.acceptance.specs.declared.answers.Allowed.TheVariants.{All}
use Rattle.acceptance.specs.Blocks.{nodes_of, Proves}
use Rattle.acceptance.specs.Strict.{NodeIsAllowed}
use Rattle.acceptance.proofs.WholeBlocks.{as_many, whole_block}
use Rattle.block_links.specs.Links.{links_of}
use Rattle.block_links.proofs.LinksAlone.{allowed_by_links, whole_links}
use Rattle.block_steps.specs.declared.taken_steps.TakenSteps.{TakenSteps}
use Rattle.block_steps.specs.Taken.{AreTaken}
use Rattle.block_steps.proofs.StepsInRange.{claim_in_range}
use Rattle.proof_script.specs.Ranges.{ClaimIsInRange}
use Rattle.routine_proof.specs.Laws.{ProvesBehindClaims}
use Rattle.proof_search.specs.declared.answers.Guided.{Guided}
use Rattle.proof_search.specs.declared.answers.Guided.TheVariants.{Block, Unfinished}
use Rattle.proof_search.specs.Guided.{IsAcceptedAfter, proved_by}
use Rattle.freer_search.specs.Found.{IsShort, IsProofWithin, IsFound}

module _
    (above : Tree → Tree → Type 0) (spec : Spec) (lemmas : List ℕ) (goal : Goal) (steps : List Step)
    (taken : TakenSteps)
    (t : AreTaken above spec (Contains lemmas) (goal_clause goal) steps taken)
  where
    many : length taken.nodes.items ≡ length (nodes_of (goal_clause goal) t.made)
    many = sym (length-map taken.nodes.items (λ (n : Node). n.clause)) ∙ ap length t.nodes

    entries : length taken.links.items ≡ length steps
    entries =
        ap length t.links ∙ length-map t.made links_of
        ∙ as_many above spec (Contains lemmas) (goal_clause goal ∷ []) 0 steps t.made t.makes

    pub in_range : ClaimIsInRange spec.sig (proved_by goal (record { steps = steps }))
    in_range =
        claim_in_range above spec (Contains lemmas) goal.name (record { steps = steps })
        (goal_clause goal) t.made t.makes

    module _ (no_more : length taken.nodes.items ≤ length steps) where
      finished : length (nodes_of (goal_clause goal) t.made) ≡ length steps
      finished = omega (arith, no_more, many, entries, t.few.reached)

      pub whole : IsWholeBlock taken.links.items
      whole =
          subst IsWholeBlock (sym t.links)
          (whole_links t.made
          (whole_block above spec (Contains lemmas) (goal_clause goal) steps t.made t.makes
          finished))

      module _ (within : IsWithin (goal_clause goal)) (tells : TellsAllowed taken.links.items All) where
        proves : Proves above spec (Contains lemmas) (goal_clause goal) steps
        proves = record {
          within = within;
          made = t.made;
          makes = t.makes;
          finished = finished;
          allowed =
              λ k. allowed_by_links t.made k (subst (λ ls. NodeIsAllowed ls k) t.links (tells k));
        }

        pub found_proof :
            (most : ℕ) → length steps ≤ most → (found : Guided) → IsShort spec goal steps found →
            IsFound above spec lemmas goal most found
        found_proof most few (Block block) short =
            subst (IsProofWithin above spec lemmas goal most) (sym short.0)
            (record { few = few; short = short.1; proves = proves })
        found_proof most few Unfinished short = tt

        pub found_if_ok :
            {E : Type 0} (most : ℕ) → length steps ≤ most → (result : Result Guided E) →
            IfOk result (IsShort spec goal steps) →
            IfOk result (IsFound above spec lemmas goal most)
        found_if_ok most few (Ok found) short = found_proof most few found short
        found_if_ok most few (Err error) short = tt

-- such a proof is accepted after claims that prove the lemmas
pub accepted_after :
    (above : Tree → Tree → Type 0) (spec : Spec) (lemmas : List ℕ) (goal : Goal) (k most : ℕ) →
    ProvesBehindClaims above → slice_get spec.goals k ≡ Some goal → (found : Guided) →
    IsFound above spec lemmas goal most found → IsAcceptedAfter above spec lemmas goal found
accepted_after above spec lemmas goal k most behind at (Block block) proof =
    λ steps before known unclaimed.
    record {
      goal = goal;
      named = (k, at, refl);
      first = unclaimed;
      shown = behind spec lemmas before (goal_clause goal) block.steps known proof.proves;
    }
accepted_after above spec lemmas goal k most behind at Unfinished proof = tt

pub accepted_if_ok :
    {E : Type 0} (above : Tree → Tree → Type 0) (spec : Spec) (lemmas : List ℕ) (goal : Goal)
    (k most : ℕ) → ProvesBehindClaims above → slice_get spec.goals k ≡ Some goal →
    (result : Result Guided E) → IfOk result (IsFound above spec lemmas goal most) →
    IfOk result (IsAcceptedAfter above spec lemmas goal)
accepted_if_ok above spec lemmas goal k most behind at (Ok found) proof =
    accepted_after above spec lemmas goal k most behind at found proof
accepted_if_ok above spec lemmas goal k most behind at (Err error) proof = tt
