-- The block of a claim is kept once its steps are taken.
use Rattle.std.proofs.Common.{◌≡◌, ℕ, suc, ◌≤◌, ◌<◌, List, [], ◌∷◌, Some, false, sym, ◌∙◌, ap, subst, arith}
use Rattle.std.proofs.Common.{length, map, take}
use Rattle.std.specs.Prelude.{Contains, slice_get, slice_set}
use Rattle.std.proofs.lemmas.List.{length-map, take_all}
use Rattle.term_core.specs.Tree.{Tree}
use Rattle.spec_core.specs.declared.records.Goal.{Goal}
use Rattle.spec_core.specs.declared.records.Spec.{Spec}
use Rattle.spec_core.specs.WellSorted.{IsWellSorted}
use Rattle.clause_core.specs.declared.answers.Children.{Children}
use Rattle.clause_core.specs.declared.reports.Report.{Report}
use Rattle.clause_core.specs.declared.steps.Step.{Step}
use Rattle.clause_core.specs.ClauseLaws.{OneRelation, TidyingLaws}
use Rattle.clause_core.specs.Tidied.{goal_clause}
use Rattle.descent.specs.SortedChildren.{IsNode}
use Rattle.acceptance.specs.Accepting.{IsAccepted, ClaimsAreAccepted}
use Rattle.acceptance.specs.Blocks.{nodes_of, Proves, StepsMake}
use Rattle.acceptance.specs.Claims.{IsGoalNamed, ProvedBefore}
use Rattle.acceptance.specs.Strict.{first_child}
use Rattle.acceptance.proofs.NoRefusal.{goal_named_one}
use Rattle.acceptance.proofs.OneBlock.{steps_one}
use Rattle.acceptance.proofs.WholeBlocks.{as_many}
use Rattle.block_links.specs.Links.{links_of}
use Rattle.block_steps.specs.declared.taken_steps.TakenSteps.{TakenSteps}
use Rattle.block_steps.proofs.StepsInRange.{claim_in_range}
use Rattle.claimed_goals.specs.Tracking.{AreProved}
use Rattle.claimed_goals.proofs.UsableGoals.{makes_same}
use Rattle.inference_rules.specs.declared.nodes.Node.{Node}
use Rattle.inference_rules.specs.Answers.{clauses_of as clauses_in}
use Rattle.proof_script.specs.Claims.{claim_text}
use Rattle.proof_script.specs.Ranges.{ClaimIsInRange}
use Rattle.script_trim.specs.declared.blocks.KeptBlock.{KeptBlock}
use Rattle.script_trim.specs.Fitting.{OnlyItselfFits}
use Rattle.script_trim.specs.Kept.{IsKept}
use Rattle.script_trim.specs.Keys.{key_of}
use Rattle.block_steps.specs.Taken.{AreTaken}
use Rattle.script_trim.specs.Trimmed.{proves}
use Rattle.block_steps.proofs.BlocksTaken.{before_first as block_before_first}
use Rattle.block_steps.proofs.GoalNodes.{goal_node}
use Rattle.block_steps.proofs.ChildNumbers.{counted, counted_clauses}
use Rattle.script_trim.proofs.ClaimByClaim.{set_there}
use Rattle.block_steps.proofs.FirstChildren.{first_by_links}
use Rattle.script_trim.proofs.FirstFits.{itself_there}
use Rattle.script_trim.proofs.ReplacedClaims.{accepted_at}
use Rattle.script_trim.proofs.StayingChildren.{there as item_there}

module _
    (above :
    Tree → Tree → Type 0) (one : OneRelation above) (spec : Spec) (fine : IsWellSorted spec) (report : Report)
    (a : IsAccepted above spec report)
    (number :
    ℕ) (goal : Goal) (named : IsGoalNamed spec goal.name goal) (steps : List Step)
    (there : slice_get report.claims number ≡ Some (proves goal.name steps))
    (numbers : List ℕ) (proved : AreProved spec (take number report.claims) numbers) where
  abbrev usable : ℕ → Type 0
  usable = ProvedBefore spec (take number report.claims)

  shown : Proves above spec usable (goal_clause goal) steps
  shown =
      let old = accepted_at above spec report.steps [] report.claims a number (proves goal.name steps) there in
      let e = goal_named_one spec fine goal.name old.goal goal old.named named in
      subst (λ g. Proves above spec usable (goal_clause g) steps) e old.shown

  pub claim_range : ClaimIsInRange spec.sig (proves goal.name steps)
  claim_range =
      claim_in_range above spec usable goal.name (record { steps = steps }) (goal_clause goal) shown.made shown.makes

  pub start_node : TidyingLaws → IsNode spec.sig (goal_clause goal)
  start_node laws = goal_node spec fine laws named.0 goal named.1 shown.within

  pub all_defined :
      (made : List Children) × StepsMake above spec (Contains numbers) (goal_clause goal ∷ []) 0 steps made
  all_defined = (
    shown.made,
    makes_same above spec usable (Contains numbers) (λ k. ((proved k).1, (proved k).0))
        (goal_clause goal ∷ []) 0 steps shown.made shown.makes,
  )

  module _ (taken : TakenSteps) (t : AreTaken above spec (Contains numbers) (goal_clause goal) steps taken) where
    makes : StepsMake above spec usable (goal_clause goal ∷ []) 0 steps t.made
    makes = makes_same above spec (Contains numbers) usable proved (goal_clause goal ∷ []) 0 steps t.made t.makes

    same : shown.made ≡ t.made
    same = steps_one above one spec fine usable (goal_clause goal ∷ []) 0 steps shown.made t.made shown.makes makes

    many : length t.made ≡ length steps
    many = as_many above spec usable (goal_clause goal ∷ []) 0 steps t.made makes

    pub many_links : length taken.links.items ≡ length steps
    many_links = ap length t.links ∙ length-map t.made links_of ∙ many

    -- each node comes before its children
    pub before_first : (k : ℕ) → k < length taken.links.items → k < first_child taken.links.items k
    before_first k l =
        let m = item_there taken.links.items k l in
        block_before_first above spec (Contains numbers) (goal_clause goal) steps taken t k m.0 m.1

    pub all_within : first_child taken.links.items (length taken.links.items) ≤ length taken.nodes.items
    all_within =
        let e : first_child taken.links.items (length taken.links.items) ≡ first_child t.made (length t.made) =
        (λ j. first_child (t.links j) ((many_links ∙ sym many) j)) ∙ first_by_links t.made (length t.made) in
        let f : first_child t.made (length t.made) ≡ suc (counted t.made) =
        ap (λ ms. suc (counted ms)) (take_all (length t.made) t.made (omega arith)) in
        let n : length (clauses_in taken.nodes.items) ≡ length (nodes_of (goal_clause goal) t.made) =
        ap length t.nodes in
        let l : length (clauses_in taken.nodes.items) ≡ length taken.nodes.items =
        length-map taken.nodes.items (λ (x : Node). x.clause) in
        omega (arith, e, f, n, l, counted_clauses t.made)

    pub block_kept :
        (block :
        KeptBlock) → block.steps.items ≡ steps → block.nodes.items ≡ taken.nodes.items →
        block.keys.items ≡ map key_of (clauses_in taken.nodes.items) → block.links.items ≡ taken.links.items →
        length block.hopeful.items ≡ length taken.links.items →
        ((i :
        ℕ) → slice_get block.hopeful.items i ≡ Some false →
        OnlyItselfFits above spec (Contains numbers) (clauses_in taken.nodes.items) (first_child taken.links.items i)
        i) → length (claim_text spec.sig (proves goal.name steps)) ≤ block.bytes →
        IsKept above spec report number block
    block_kept block is nodes keys links flags hopeless text =
        let e : slice_set report.claims number (proves goal.name block.steps.items) ≡ report.claims =
        ap (λ ss. slice_set report.claims number (proves goal.name ss)) is ∙ set_there report.claims number
        (proves goal.name steps) there in
        record {
          name = goal.name;
          old = steps;
          there = there;
          accepted = subst (λ cs. ClaimsAreAccepted above spec report.steps [] cs) (sym e) a;
          claim = record {
            goal = goal;
            named = named;
            steps = steps;
            is = ap (λ cs. slice_get cs number) e ∙ there;
            made = t.made;
            makes =
                subst (λ cs. StepsMake above spec (ProvedBefore spec (take number cs)) (goal_clause goal ∷ []) 0 steps
                t.made) (sym e) makes;
          };
          steps = sym is;
          nodes = ap (λ ns. clauses_in ns) nodes ∙ t.nodes;
          keys = keys ∙ ap (λ ns. map key_of (clauses_in ns)) (sym nodes);
          links = links ∙ t.links;
          flags = flags ∙ many_links ∙ ap length (sym is);
          hopeless = λ i off c at.
              let b : first_child taken.links.items i ≡ first_child t.made i =
              ap (λ ls. first_child ls i) t.links ∙ first_by_links t.made i in
              let here = subst (λ n. OnlyItselfFits above spec (Contains numbers) (clauses_in taken.nodes.items) n i)
              b (hopeless i off) in
              let fits =
              subst (λ ns. OnlyItselfFits above spec (Contains numbers) (clauses_in ns) (first_child t.made i) i)
              (sym nodes) here in
              itself_there above spec (Contains numbers) usable proved _ i _ (fits c at);
          text = subst (λ ss. length (claim_text spec.sig (proves goal.name ss)) ≤ block.bytes) (sym is) text;
        }
