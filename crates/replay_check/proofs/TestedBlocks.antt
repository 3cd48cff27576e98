-- What a block's tests find, by how far its steps are taken.
use Rattle.std.proofs.Common.{◌≡◌, ◌⊎◌, ℕ, suc, ◌+◌, ◌≤◌, ◌<◌, List, [], ◌∷◌, inl, inr, refl, sym, ◌∙◌, ap, subst}
use Rattle.std.proofs.Common.{arith, length}
use Rattle.std.specs.Prelude.{Some, Err, Contains, slice_get}
use Rattle.std.specs.List.{AllByRecursion}
use Rattle.std.proofs.lemmas.List.{length-map, take_all}
use Rattle.std.proofs.lemmas.Option.{slice_get_past}
use Rattle.term_core.specs.Tree.{Tree}
use Rattle.spec_core.specs.declared.records.Goal.{Goal}
use Rattle.spec_core.specs.declared.records.Spec.{Spec}
use Rattle.spec_core.specs.declared.records.VarInfo.{VarInfo}
use Rattle.spec_core.specs.Sig.{IsSort}
use Rattle.spec_core.specs.Findings.{First}
use Rattle.spec_core.specs.WellSorted.{IsWellSorted, sorts_of}
use Rattle.clause_core.specs.declared.answers.Why.{Why}
use Rattle.clause_core.specs.declared.answers.Why.TheVariants.{Limit}
use Rattle.clause_core.specs.declared.reports.Claim.{Claim}
use Rattle.clause_core.specs.declared.reports.ReplayWhy.{ReplayWhy}
use Rattle.clause_core.specs.declared.reports.ReplayWhy.TheVariants.{Step as of_step, Pending, NotSmaller}
use Rattle.clause_core.specs.declared.steps.Step.{Step}
use Rattle.clause_core.specs.ClauseLaws.{OneRelation, TidyingLaws}
use Rattle.clause_core.specs.Limits.{IsWithin}
use Rattle.clause_core.specs.Tidied.{goal_clause, written_clause}
use Rattle.descent.specs.SortedChildren.{IsNode}
use Rattle.acceptance.specs.AllowedAnswers.{IsWholeBlock, TellsAllowed}
use Rattle.acceptance.specs.declared.answers.Allowed.TheVariants.{All, Not}
use Rattle.acceptance.specs.Blocks.{nodes_of, StepsMake, Proves}
use Rattle.acceptance.specs.Claims.{IsGoalNamed, ProvedBefore}
use Rattle.acceptance.specs.Refusals.{block_tests}
use Rattle.acceptance.specs.StepRefusals.{StepIsRefused}
use Rattle.acceptance.specs.Strict.{NodeIsAllowed}
use Rattle.acceptance.proofs.FirstRefusal.{first_limit, first_step, first_pending, first_larger}
use Rattle.acceptance.proofs.Links.{allowed_past}
use Rattle.acceptance.proofs.WholeBlocks.{as_many, whole_block}
use Rattle.inference_rules.specs.declared.nodes.Node.{Node}
use Rattle.block_links.specs.Links.{links_of}
use Rattle.block_links.proofs.LinksAlone.{allowed_by_links, links_allowed, whole_links}
use Rattle.replay_check.specs.declared.answers.Stop.{Stop}
use Rattle.replay_check.specs.declared.answers.Stop.TheVariants.{Refused, OutOfMemory}
use Rattle.block_steps.specs.declared.taken_steps.TakenSteps.{TakenSteps}
use Rattle.replay_check.specs.Finds.{Finds}
use Rattle.replay_check.specs.Taken.{AreTaken, FindsSteps}
use Rattle.claimed_goals.specs.Tracking.{AreProved}
use Rattle.claimed_goals.proofs.UsableGoals.{makes_same, refused_same}

-- the clause of a goal within the limits can be a node
pub goal_node : (laws : TidyingLaws) (spec : Spec) → IsWellSorted spec → (goal : Goal) (k : ℕ) →
    slice_get spec.goals k ≡ Some goal → IsWithin (goal_clause goal) → IsNode spec.sig (goal_clause goal)
goal_node laws spec fine goal k at within =
    let sorted = fine.goals k goal at in
    record {
      sorted = laws.keeps_sorts spec.sig (written_clause goal) fine.signature
          (record {
            variables = sorts_are goal.vars sorted.variables;
            premises = sorted.premises;
            conclusions = sorted.conclusions;
          });
      is_tidied = laws.is_tidied (written_clause goal);
      within = within;
    }
  where
    sorts_are : (vars : List VarInfo) → AllByRecursion (λ (v : VarInfo). IsSort spec.sig v.sort) vars →
        AllByRecursion (IsSort spec.sig) (sorts_of vars)
    sorts_are [] h = tt
    sorts_are (v ∷ vars) h = (h.0, sorts_are vars h.1)

before_or_behind : (k n : ℕ) → (k < n) ⊎ (n ≤ k)
before_or_behind k n = grind arith

-- the nodes and the links of a block whose steps are taken
module _ (above : Tree → Tree → Type 0) (spec : Spec) (numbers : List ℕ) (goal : Goal) (steps : List Step)
    (taken : TakenSteps) (t : AreTaken above spec (Contains numbers) (goal_clause goal) steps (length steps)
    taken) where
  many : length taken.nodes.items ≡ length (nodes_of (goal_clause goal) t.made)
  many = sym (length-map taken.nodes.items (λ (n : Node). n.clause)) ∙ t.nodes.long

  makes_all : StepsMake above spec (Contains numbers) (goal_clause goal ∷ []) 0 steps t.made
  makes_all = subst (λ s. StepsMake above spec (Contains numbers) (goal_clause goal ∷ []) 0 s t.made)
      (take_all (length steps) steps (omega arith)) t.makes

  entries : length taken.links.items ≡ length steps
  entries = ap length t.links ∙ length-map t.made links_of
      ∙ as_many above spec (Contains numbers) (goal_clause goal ∷ []) 0 steps t.made makes_all

  module _ (no_more : length taken.nodes.items ≤ length steps) where
    finished : length (nodes_of (goal_clause goal) t.made) ≡ length steps
    finished = omega (arith, no_more, many, entries, t.few.reached)

    pub whole : IsWholeBlock taken.links.items
    whole = subst IsWholeBlock (sym t.links)
        (whole_links t.made (whole_block above spec (Contains numbers) (goal_clause goal) steps t.made makes_all
        finished))

module _ (above : Tree → Tree → Type 0) (one : OneRelation above) (spec : Spec) (fine : IsWellSorted spec)
    (before : List Claim) (line : ℕ) (goal : Goal) (number : ℕ) (at : slice_get spec.goals number ≡ Some goal)
    (steps : List Step) where
  named : IsGoalNamed spec goal.name goal
  named = (number, at, refl)

  abbrev IsFirst : ℕ → ReplayWhy → Type 0
  IsFirst place why = First (block_tests above spec before line goal.name steps) (place, why)

  pub past_limits : (IsWithin (goal_clause goal) → ⊥) → IsFirst line (of_step Limit)
  past_limits h = first_limit above one spec fine before line goal.name goal named steps h

  module _ (numbers : List ℕ) (proved : AreProved spec before numbers) (within : IsWithin (goal_clause goal)) where
    pub step_refused : (k place : ℕ) (why : Why) (reason : ReplayWhy) → k < length steps →
        place ≡ line + suc k → reason ≡ of_step why →
        StepIsRefused above spec (Contains numbers) (goal_clause goal) steps k why → IsFirst place reason
    step_refused k place why reason lt is because h =
        let f = first_step above one spec fine before line goal.name goal named steps k why lt within
        (refused_same above spec (Contains numbers) (ProvedBefore spec before) proved (goal_clause goal)
        steps k why h) in
        subst (λ w. IsFirst place w) (sym because) (subst (λ n. IsFirst n (of_step why)) (sym is) f)

    pub block_stops : (P : Unit {0} → Type 0) (stop : Stop) →
        FindsSteps above spec (Contains numbers) (goal_clause goal) steps line (Err stop) →
        Finds {T = Unit {0}} (block_tests above spec before line goal.name steps) P (Err stop)
    block_stops P (Refused at reason) h = step_refused h.0 at h.1 reason h.2 h.3 h.4 h.5
    block_stops P OutOfMemory h = tt

    module _ (taken : TakenSteps) (t : AreTaken above spec (Contains numbers) (goal_clause goal) steps
        (length steps) taken) where
      makes : StepsMake above spec (ProvedBefore spec before) (goal_clause goal ∷ []) 0 steps t.made
      makes = makes_same above spec (Contains numbers) (ProvedBefore spec before) proved (goal_clause goal ∷ [])
          0 steps t.made (makes_all above spec numbers goal steps taken t)

      pub more_nodes : length steps < length taken.nodes.items → IsFirst line Pending
      more_nodes lt = first_pending above one spec fine before line goal.name goal named steps within t.made
          makes (omega (arith, lt, many above spec numbers goal steps taken t))

      module _ (no_more : length taken.nodes.items ≤ length steps) where
        by_links : (k : ℕ) → NodeIsAllowed taken.links.items k → NodeIsAllowed t.made k
        by_links k h = allowed_by_links t.made k (subst (λ ls. NodeIsAllowed ls k) t.links h)

        of_links : (k : ℕ) → NodeIsAllowed t.made k → NodeIsAllowed taken.links.items k
        of_links k h = subst (λ ls. NodeIsAllowed ls k) (sym t.links) (links_allowed t.made k h)

        pub all_allowed : TellsAllowed taken.links.items All →
            Proves above spec (ProvedBefore spec before) (goal_clause goal) steps
        all_allowed h = record {
          within = within;
          made = t.made;
          makes = makes;
          finished = finished above spec
              numbers goal steps taken t no_more;
          allowed = λ k. by_links k (h k);
        }

        pub not_allowed : (k place : ℕ) → place ≡ line + suc k → TellsAllowed taken.links.items (Not k) →
            IsFirst place NotSmaller
        not_allowed k place is h =
            let lt : k < length steps = elim (before_or_behind k (length taken.links.items)) [
              | inl l ↦ omega (arith, l, entries above spec numbers goal steps taken t)
              | inr l ↦ absurd
                  (h.0 (allowed_past taken.links.items k (slice_get_past taken.links.items k l)))
            ] in
            subst (λ n. IsFirst n NotSmaller) (sym is) (first_larger above one spec fine before line goal.name
            goal named steps within t.made makes (finished above spec numbers goal steps taken t no_more) k
            lt (λ j l. by_links j (h.1 j l)) (λ a. h.0 (of_links k a)))
