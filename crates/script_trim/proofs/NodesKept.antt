-- The nodes of a kept block can be nodes.
use Rattle.std.proofs.Common.{◌≡◌, ℕ, zero, suc, List, [], ◌∷◌, ◌++◌, Some, take, sym, subst, append_assoc}
use Rattle.std.specs.Prelude.{Contains, flat_map, slice_get}
use Rattle.std.proofs.lemmas.List.{append-nil}
use Rattle.term_core.specs.Tree.{Tree}
use Rattle.spec_core.specs.declared.records.Spec.{Spec}
use Rattle.spec_core.specs.WellSorted.{IsWellSorted}
use Rattle.clause_core.specs.declared.answers.Child.{Child}
use Rattle.clause_core.specs.declared.answers.Children.{Children}
use Rattle.clause_core.specs.declared.clauses.Clause.{Clause}
use Rattle.clause_core.specs.declared.reports.Report.{Report}
use Rattle.clause_core.specs.declared.steps.Step.{Step}
use Rattle.clause_core.specs.ClauseLaws.{OneRelation, TidyingLaws}
use Rattle.clause_core.specs.Tidied.{goal_clause}
use Rattle.descent.specs.SortedChildren.{ChildrenAreSorted, IsNode}
use Rattle.acceptance.specs.Blocks.{clauses_of, StepsMake}
use Rattle.block_links.proofs.LinksAlone.{made_of}
use Rattle.claimed_goals.specs.Tracking.{AreProved}
use Rattle.claimed_goals.proofs.UsableGoals.{makes_same}
use Rattle.inference_rules.specs.Answers.{clauses_of as clauses_in}
use Rattle.inference_rules.specs.Nodes.{AreNodes}
use Rattle.script_trim.specs.declared.blocks.KeptBlock.{KeptBlock}
use Rattle.script_trim.specs.Kept.{IsKept}
use Rattle.script_trim.specs.Trimmed.{proves}
use Rattle.block_steps.proofs.BlocksTaken.{one_node}
use Rattle.script_trim.proofs.KeptBlocks.{start_node}
use Rattle.script_trim.proofs.Places.{take_set}

-- what holds of each item of two lists holds of each item of both
each_joined :
    {X : Type 0} (P : X → Type 0) (xs ys : List X) → ((j : ℕ) (x : X) → slice_get xs j ≡ Some x → P x) →
    ((j : ℕ) (x : X) → slice_get ys j ≡ Some x → P x) → (j : ℕ) (x : X) → slice_get (xs ++ ys) j ≡ Some x → P x
each_joined P [] ys h k j x at = k j x at
each_joined P (y ∷ xs) ys h k zero x at = h 0 x at
each_joined P (y ∷ xs) ys h k (suc j) x at = each_joined P xs ys (λ i z. h (suc i) z) k j x at

module _ (above : Tree → Tree → Type 0) (keep : ChildrenAreSorted above) (spec : Spec) (fine : IsWellSorted spec)
    (numbers : List ℕ) where
  -- what steps make over nodes
  more_nodes :
      (nodes : List Clause) (k : ℕ) (steps : List Step) (made : List Children) →
      StepsMake above spec (Contains numbers) nodes k steps made → AreNodes spec.sig nodes →
      AreNodes spec.sig (nodes ++ flat_map clauses_of made)
  more_nodes nodes k [] [] p are = subst (λ ns. AreNodes spec.sig ns) (sym (append-nil nodes)) are
  more_nodes nodes k [] (m ∷ made) p are = absurd p
  more_nodes nodes k (s ∷ steps) [] p are = absurd p
  more_nodes nodes k (s ∷ steps) (m ∷ made) p are =
      let sorted = λ (j : ℕ) (d : Clause) (at : slice_get nodes j ≡ Some d). (are j d at).sorted in
      let children : (j : ℕ) (d : Clause) → slice_get (clauses_of m) j ≡ Some d → IsNode spec.sig d = λ j d at. (
      let x = made_of (λ (child : Child). child.clause) m.clauses j d at in
      subst (λ c. IsNode spec.sig c) x.2 (keep s spec numbers nodes p.0.clause m fine sorted
      (sorted k p.0.clause p.0.is) p.0.says j x.0 x.1)
      ) in
      let here : AreNodes spec.sig (nodes ++ clauses_of m) =
      each_joined (IsNode spec.sig) nodes (clauses_of m) are children in
      subst (λ ns. AreNodes spec.sig ns) (append_assoc nodes (clauses_of m) (flat_map clauses_of made))
      (more_nodes (nodes ++ clauses_of m) (suc k) steps made p.1 here)

  pub kept_nodes :
      (one :
      OneRelation above) (laws : TidyingLaws) (report : Report) (number : ℕ) (block : KeptBlock)
      (k : IsKept above spec report number block) → AreProved spec (take number report.claims) numbers →
      AreNodes spec.sig (clauses_in block.nodes.items)
  kept_nodes one laws report number block k proved =
      let same = take_set report.claims number (proves k.name block.steps.items) in
      let there = subst (λ cs. AreProved spec cs numbers) (sym same) proved in
      let start = start_node above one spec fine _ k.accepted number k.claim.goal k.claim.named k.claim.steps
      k.claim.is numbers there laws in
      let makes = makes_same above spec _ (Contains numbers) (λ j. ((there j).1, (there j).0))
      (goal_clause k.claim.goal ∷ []) 0 k.claim.steps k.claim.made k.claim.makes in
      subst (λ ns. AreNodes spec.sig ns) (sym k.nodes) (more_nodes (goal_clause k.claim.goal ∷ []) 0 k.claim.steps
      k.claim.made makes (one_node above spec (goal_clause k.claim.goal) start))
