-- Whether the block of a start is a proof.
use Rattle.std.proofs.Common.{◌≡◌, ℕ, ◌<◌, ◌≤◌, List, [], ◌∷◌, length, ap, sym, ◌∙◌, subst, arith}
use Rattle.std.specs.Prelude.{Contains, Option, Result, Ok, Err, IfOk, slice_get}
use Rattle.std.specs.List.{AllByRecursion}
use Rattle.std.proofs.lemmas.Option.{same_Some}
use Rattle.term_core.specs.Tree.{Tree}
use Rattle.term_core.specs.declared.memory.OutOfMemory.{OutOfMemory}
use Rattle.spec_core.specs.declared.records.Goal.{Goal}
use Rattle.spec_core.specs.declared.records.Spec.{Spec}
use Rattle.spec_core.specs.declared.records.VarInfo.{VarInfo}
use Rattle.spec_core.specs.Sig.{IsSort}
use Rattle.spec_core.specs.WellSorted.{IsWellSorted, GoalIsSorted, sorts_of}
use Rattle.clause_core.specs.declared.clauses.Clause.{Clause}
use Rattle.clause_core.specs.declared.steps.Block.{Block}
use Rattle.clause_core.specs.declared.steps.Step.{Step}
use Rattle.clause_core.specs.ClauseLaws.{OneRelation, TidyingLaws}
use Rattle.clause_core.specs.Clauses.{ClauseIsSorted}
use Rattle.clause_core.specs.Limits.{IsWithin}
use Rattle.clause_core.specs.StepLaws.{OneAnswer}
use Rattle.clause_core.specs.Tidied.{goal_clause, written_clause}
use Rattle.descent.specs.SortedChildren.{IsNode}
use Rattle.acceptance.specs.AllowedAnswers.{IsWholeBlock, TellsAllowed}
use Rattle.acceptance.specs.Blocks.{Proves}
use Rattle.acceptance.specs.Strict.{NodeIsAllowed, AllAreAllowed}
use Rattle.acceptance.specs.declared.answers.Allowed.TheVariants.{All, Not}
use Rattle.acceptance.proofs.WholeBlocks.{whole_block}
use Rattle.proof_script.specs.Ranges.{ClaimIsInRange}
use Rattle.routine_proof.specs.Blocks.{IsChosen, root}
use Rattle.routine_proof.specs.Entries.{lemma_goals}
use Rattle.routine_proof.specs.First.{HasNone}
use Rattle.routine_proof.specs.Routine.{Start, candidates, makes, IsRoutine, IsProof, claim_bytes}
use Rattle.routine_proof.specs.Ways.{Node}
use Rattle.routine_proof.proofs.Built.{IsBuilt, proves_by_relations}
use Rattle.routine_proof.proofs.OneProofs.{routine_one}
use Rattle.proof_search.specs.declared.building.Building.{Building}
use Rattle.proof_search.specs.declared.proving.Tried.{Tried}
use Rattle.proof_search.specs.declared.proving.Tried.TheVariants.{Proof, Not as NoProof}
use Rattle.proof_search.specs.declared.starting.Built.TheVariants.{Not as NotBuilt}
use Rattle.proof_search.specs.Guided.{proved_by}
use Rattle.proof_search.specs.Proving.{IsShortBlock, IsTried}
use Rattle.proof_search.specs.Starting.{BeginsWith, IsBlock, IsDone}
use Rattle.block_links.proofs.LinksAlone.{allowed_by_links, links_allowed, whole_links}
use Rattle.block_steps.proofs.StepsInRange.{claim_in_range}

-- the clause of a goal within the limits can be a node
pub goal_node :
    TidyingLaws → (spec : Spec) → IsWellSorted spec → (goal : Goal) →
    GoalIsSorted spec.sig goal → IsWithin (goal_clause goal) → IsNode spec.sig (goal_clause goal)
goal_node laws spec fine goal sorted within =
    let written : ClauseIsSorted spec.sig (written_clause goal) =
    record {
      variables = sorts_are goal.vars sorted.variables;
      premises = sorted.premises;
      conclusions = sorted.conclusions;
    } in
    record {
      sorted = laws.keeps_sorts spec.sig (written_clause goal) fine.signature written;
      is_tidied = laws.is_tidied (written_clause goal);
      within = within;
    }
  where
    sorts_are :
        (vars : List VarInfo) → AllByRecursion (λ (v : VarInfo). IsSort spec.sig v.sort) vars →
        AllByRecursion (IsSort spec.sig) (sorts_of vars)
    sorts_are [] h = tt
    sorts_are (v ∷ vars) h = (h.0, sorts_are vars h.1)

-- the first step of a routine block is chosen at the node of the clause
routine_begins :
    (above : Tree → Tree → Type 0) (spec : Spec) (lemmas : List ℕ) (start : Start) (goal : Clause)
    (steps : List Step) → IsRoutine above spec lemmas goal start steps →
    BeginsWith above spec lemmas start goal (slice_get steps 0)
routine_begins above spec lemmas start goal [] r = tt
routine_begins above spec lemmas start goal (x ∷ steps) r =
    let list = candidates spec (lemma_goals spec lemmas) start in
    let same : root goal ≡ r.0 = same_Some (root goal) r.0 r.2 in (
      r.1,
      r.4,
      subst
          (λ (n : Node). IsChosen (makes above spec lemmas) list (root goal ∷ []) 0 n r.1)
          (sym same) r.3,
    )

module _
    (above : Tree → Tree → Type 0) (spec : Spec) (lemmas : List ℕ) (goal : Goal) (most : ℕ)
  where
    abbrev IsOne : Start → List Step → Type 0
    IsOne start steps = IsProof above spec lemmas goal most start steps

    module _ (start : Start) where
      abbrev HasNo : Type 0
      HasNo = HasNone (IsProof above spec lemmas goal most) start

      -- a start whose blocks are too long has no proof
      pub none_built :
          (first : Option Step) →
          IsBlock above spec lemmas start (goal_clause goal) most (NotBuilt first) →
          IsTried above spec lemmas goal most start (NoProof first)
      none_built first none = (none_few, none.1)
        where
          none_few : HasNo
          none_few steps p =
              let more = none.0 steps p.routine in
              let few = p.few in
              omega (arith, more, few)

      module _
          (b : Building) (done : IsDone above spec lemmas start (goal_clause goal) most b)
        where
          abbrev Begins : Option Step → Type 0
          Begins first = BeginsWith above spec lemmas start (goal_clause goal) first

          begins : (first : Option Step) → first ≡ slice_get b.steps.items 0 → Begins first
          begins first is =
              subst Begins (sym is)
              (routine_begins above spec lemmas start (goal_clause goal) b.steps.items done.routine)

          pub links_whole : IsWholeBlock b.block.links.items
          links_whole =
              let whole =
              whole_block above spec (Contains lemmas) (goal_clause goal) b.steps.items done.made
              done.made_by done.finished in
              subst IsWholeBlock (sym done.links) (whole_links done.made whole)

          pub in_range :
              (block : Block) → block.steps ≡ b.steps.items →
              ClaimIsInRange spec.sig (proved_by goal block)
          in_range block e =
              claim_in_range above spec (Contains lemmas) goal.name block (goal_clause goal) done.made
              (rw e done.made_by)

          module _
              (one : OneAnswer above) (relation : OneRelation above) (fine : IsWellSorted spec)
            where
              abbrev built : IsBuilt above spec lemmas (goal_clause goal ∷ []) 0 b.steps.items
              built = record {
                made = done.made;
                makes = done.made_by;
                finished = let e = done.finished in omega (arith, e);
              }

              same_steps : (steps : List Step) → IsOne start steps → b.steps.items ≡ steps
              same_steps steps p =
                  routine_one above one spec fine lemmas (goal_clause goal) start b.steps.items
                  steps done.routine p.routine

              none_allowed : (k : ℕ) → TellsAllowed b.block.links.items (Not k) → HasNo
              none_allowed k tells steps p =
                  let proves =
                  subst (λ ss. Proves above spec (Contains lemmas) (goal_clause goal) ss)
                  (sym (same_steps steps p)) p.proves in
                  let by =
                  proves_by_relations above spec lemmas relation fine (goal_clause goal)
                  b.steps.items built in
                  let allowed : AllAreAllowed done.made = (by.0 proves).1 in
                  tells.0
                  (subst (λ ls. NodeIsAllowed ls k) (sym done.links)
                  (links_allowed done.made k (allowed k)))

              pub not_allowed :
                  (k : ℕ) → TellsAllowed b.block.links.items (Not k) → (first : Option Step) →
                  first ≡ slice_get b.steps.items 0 →
                  IsTried above spec lemmas goal most start (NoProof first)
              not_allowed k tells first is = (none_allowed k tells, begins first is)

              module _
                  (within : IsWithin (goal_clause goal)) (tells : TellsAllowed b.block.links.items All)
                  (block : Block) (e : block.steps ≡ b.steps.items)
                where
                  proves : Proves above spec (Contains lemmas) (goal_clause goal) b.steps.items
                  proves =
                      let allowed : AllAreAllowed done.made =
                      λ k.
                      allowed_by_links done.made k
                      (subst (λ ls. NodeIsAllowed ls k) done.links (tells k)) in
                      (proves_by_relations above spec lemmas relation fine (goal_clause goal)
                      b.steps.items built).1
                      (within, allowed)

                  -- the claim has at most 300,000 bytes
                  abbrev IsShort : List Step → Type 0
                  IsShort steps = length (claim_bytes spec goal steps) ≤ 300000

                  short_is_proof :
                      (found : Tried) → IsShortBlock spec goal block found →
                      IsTried above spec lemmas goal most start found
                  short_is_proof (Proof answer) short =
                      let is : IsOne start b.steps.items =
                      record {
                        routine = done.routine;
                        few = done.few;
                        short = subst IsShort e short.1;
                        proves = proves;
                      } in
                      subst (IsOne start) (sym (ap (λ (x : Block). x.steps) short.0))
                      (subst (IsOne start) (sym e) is)
                  short_is_proof (NoProof first) long =
                      (too_long long.0, begins first (long.1 ∙ ap (λ l. slice_get l 0) e))
                    where
                      too_long : 300000 < length (claim_bytes spec goal block.steps) → HasNo
                      too_long more steps p =
                          let same : block.steps ≡ steps = e ∙ same_steps steps p in
                          let short : length (claim_bytes spec goal block.steps) ≤ 300000 =
                          subst IsShort (sym same) p.short in
                          omega (arith, more, short)

                  pub short_result :
                      (r : Result Tried OutOfMemory) →
                      IfOk r (IsShortBlock spec goal block) →
                      IfOk r (IsTried above spec lemmas goal most start)
                  short_result (Ok found) short = short_is_proof found short
                  short_result (Err error) short = tt
