-- The block of a goal under work: its nodes, and what one step more makes.
use Rattle.std.proofs.Common.{◌≡◌, ℕ, suc, ◌+◌, ◌≤◌, List, [], ◌∷◌, ◌++◌, Some, Err, inl, refl, sym, ◌∙◌, ap}
use Rattle.std.proofs.Common.{subst, arith, length, length-append, map, take, append_assoc}
use Rattle.std.specs.Prelude.{Contains, flat_map, slice_get}
use Rattle.std.specs.List.{AllByRecursion}
use Rattle.std.proofs.lemmas.List.{append-nil, length-map, map-append}
use Rattle.term_core.specs.Tree.{Tree}
use Rattle.spec_core.specs.declared.records.Spec.{Spec}
use Rattle.spec_core.specs.declared.records.VarInfo.{VarInfo}
use Rattle.spec_core.specs.Sig.{IsSort}
use Rattle.spec_core.specs.WellSorted.{GoalIsSorted, IsWellSorted, sorts_of}
use Rattle.clause_core.specs.declared.answers.Child.{Child}
use Rattle.clause_core.specs.declared.answers.Children.{Children}
use Rattle.clause_core.specs.declared.answers.Why.{Why}
use Rattle.clause_core.specs.declared.clauses.Clause.{Clause}
use Rattle.clause_core.specs.declared.reports.Claim.{Claim}
use Rattle.clause_core.specs.declared.steps.Step.{Step}
use Rattle.clause_core.specs.ClauseLaws.{OneRelation, TidyingLaws}
use Rattle.clause_core.specs.Steps.{row_of}
use Rattle.clause_core.specs.Tidied.{goal_clause, written_clause}
use Rattle.descent.specs.SortedChildren.{ChildrenAreSorted, IsNode}
use Rattle.acceptance.specs.AllowedAnswers.{IsWholeBlock}
use Rattle.acceptance.specs.Blocks.{clauses_of, nodes_of, StepMakes, StepsMake}
use Rattle.acceptance.specs.Claims.{ProvedBefore}
use Rattle.acceptance.specs.StepRefusals.{IsRefused, StepIsRefused}
use Rattle.acceptance.specs.Strict.{AllAreAllowed}
use Rattle.acceptance.proofs.WholeBlocks.{whole_block}
use Rattle.block_links.specs.Links.{links_of}
use Rattle.block_links.proofs.LinksAlone.{allowed_by_links, links_allowed, made_of, whole_links}
use Rattle.block_steps.proofs.StepsInRange.{claim_in_range}
use Rattle.block_steps.proofs.Taking.{nodes_joined, one_node}
use Rattle.claimed_goals.specs.Tracking.{AreProved}
use Rattle.claimed_goals.proofs.UsableGoals.{makes_same, refused_same}
use Rattle.clause_core.proofs.OneReferred.{one_get}
use Rattle.acceptance.proofs.OneBlock.{steps_one}
use Rattle.std.proofs.Math.Seq.{take-append_seam}
use Rattle.inference_rules.specs.Nodes.{AreNodes}
use Rattle.proof_script.specs.Ranges.{LineIsInRange}
use Rattle.proof_script.specs.Steps.{step_line}
use Rattle.session_core.specs.States.{Work, nodes_at, with_step, without_step}
use Rattle.session_core.specs.Accepting.{NextMakes}
use Rattle.session_core.specs.Kept.{Kept}
use Rattle.session_core.specs.declared.errors.SessionError.{SessionError}
use Rattle.session_core.specs.declared.errors.SessionError.TheVariants.{GoalUnderWork, UnknownGoal, GoalTwice, NoGoal}
use Rattle.session_core.specs.declared.errors.SessionError.TheVariants.{Step as undefined}
use Rattle.session_core.specs.declared.errors.SessionError.TheVariants.{NotSmaller, Limit, OutOfMemory}
use Rattle.session_core.specs.Taking.{IsOpenGoal, IsStopped, MakesRelated}
use Rattle.session_core.proofs.OpenGoals.{all_last, open_counts}
use Rattle.session_core.proofs.Sound.{enough_nodes, more_nodes, more_steps}
use Rattle.session_core.proofs.Undoing.{says_few}

last_item : {A : Type 0} (xs : List A) (x : A) → slice_get (xs ++ x ∷ []) (length xs) ≡ Some x
last_item [] x = refl
last_item (y ∷ xs) x = last_item xs x

module _ (above : Tree → Tree → Type 0) (spec : Spec) (usable : ℕ → Type 0) where
  -- steps make few nodes
  few_nodes : (nodes : List Clause) (k : ℕ) (steps : List Step) (made : List Children) →
      StepsMake above spec usable nodes k steps made → length nodes ≤ 10000 →
      length (nodes ++ flat_map clauses_of made) ≤ 10000
  few_nodes nodes k [] [] p h = omega (arith, h, length-append nodes [])
  few_nodes nodes k [] (m ∷ made) p h = absurd p
  few_nodes nodes k (s ∷ steps) [] p h = absurd p
  few_nodes nodes k (s ∷ steps) (m ∷ made) p h =
      let few = says_few above p.0.clause nodes (row_of spec usable nodes p.0.clause s) m p.0.says in
      let many = length-map m.clauses (λ (d : Child). d.clause) in
      let here : length (nodes ++ clauses_of m) ≤ 10000 = omega (arith, few, many, length-append nodes (clauses_of m))
      in
      subst (λ ns. length ns ≤ 10000) (append_assoc nodes (clauses_of m) (flat_map clauses_of made))
      (few_nodes (nodes ++ clauses_of m) (suc k) steps made p.1 here)

module _ (above : Tree → Tree → Type 0) (keep : ChildrenAreSorted above) (spec : Spec) (fine : IsWellSorted spec)
    (numbers : List ℕ) where
  -- the nodes that steps make can be nodes
  sorted_nodes : (nodes : List Clause) (k : ℕ) (steps : List Step) (made : List Children) →
      StepsMake above spec (Contains numbers) nodes k steps made → AreNodes spec.sig nodes →
      AreNodes spec.sig (nodes ++ flat_map clauses_of made)
  sorted_nodes nodes k [] [] p are = subst (λ ns. AreNodes spec.sig ns) (sym (append-nil nodes)) are
  sorted_nodes nodes k [] (m ∷ made) p are = absurd p
  sorted_nodes nodes k (s ∷ steps) [] p are = absurd p
  sorted_nodes nodes k (s ∷ steps) (m ∷ made) p are =
      let sorted = λ (j : ℕ) (d : Clause) (at : slice_get nodes j ≡ Some d). (are j d at).sorted in
      let children : AreNodes spec.sig (clauses_of m) = λ j d at. (
      let x = made_of (λ (child : Child). child.clause) m.clauses j d at in
      subst (λ c. IsNode spec.sig c) x.2 (keep s spec numbers nodes p.0.clause m fine sorted (sorted k p.0.clause
      p.0.is) p.0.says j x.0 x.1)
      ) in
      let here = nodes_joined spec.sig nodes (clauses_of m) are children in
      subst (λ ns. AreNodes spec.sig ns) (append_assoc nodes (clauses_of m) (flat_map clauses_of made))
      (sorted_nodes (nodes ++ clauses_of m) (suc k) steps made p.1 here)

sorts_are : (sig : _) (vars : List VarInfo) → AllByRecursion (λ (v : VarInfo). IsSort sig v.sort) vars →
    AllByRecursion (IsSort sig) (sorts_of vars)
sorts_are sig [] h = tt
sorts_are sig (v ∷ vars) h = (h.0, sorts_are sig vars h.1)

module _ (above : Tree → Tree → Type 0) (spec : Spec) (fine : IsWellSorted spec) (one : OneRelation above)
    (claims : List Claim) (work : Work) (kept : Kept) (o : IsOpenGoal above spec claims work kept) where
  abbrev usable : ℕ → Type 0
  usable = ProvedBefore spec claims

  start_node : TidyingLaws → IsNode spec.sig (goal_clause work.goal)
  start_node laws = record {
    sorted =
        laws.keeps_sorts spec.sig (written_clause work.goal) fine.signature
        (record {
          variables = sorts_are spec.sig work.goal.vars its.variables;
          premises = its.premises;
          conclusions = its.conclusions;
        });
    is_tidied = laws.is_tidied (written_clause work.goal);
    within = o.under.within;
  }
    where
      its : GoalIsSorted spec.sig work.goal
      its = fine.goals kept.number work.goal o.keeps.number

  module _ (numbers : List ℕ) (proved : AreProved spec claims numbers) where
    makes_there : StepsMake above spec (Contains numbers) (goal_clause work.goal ∷ []) 0 work.steps work.made
    makes_there = makes_same above spec usable (Contains numbers) (λ k. ((proved k).1, (proved k).0)) (goal_clause
        work.goal ∷ []) 0 work.steps work.made o.under.makes

    pub open_nodes : ChildrenAreSorted above → TidyingLaws → AreNodes spec.sig kept.nodes
    open_nodes keep laws =
        subst (λ ns. AreNodes spec.sig ns) (sym o.keeps.nodes)
        (sorted_nodes above keep spec fine numbers (goal_clause work.goal ∷ []) 0 work.steps work.made makes_there
        (one_node spec.sig (goal_clause work.goal) (start_node laws)))

    -- what the step makes, by the numbers of the proved goals
    pub next_by : (nodes : List Clause) (k : ℕ) (step : Step) (m : Children) → nodes ≡ kept.nodes →
        k ≡ length kept.links → StepMakes above spec (Contains numbers) nodes k step m →
        NextMakes above spec claims work step m
    next_by nodes k step m e n p =
        let there : StepsMake above spec (Contains numbers) nodes k (step ∷ []) (m ∷ []) = (p, tt) in
        let here = (makes_same above spec (Contains numbers) usable proved nodes k (step ∷ []) (m ∷ []) there).0 in
        let j : k ≡ length work.steps = n ∙ (open_counts above spec fine one claims work kept o).1 in
        subst (λ x. StepMakes above spec usable (nodes_at work) x step m) j (subst (λ ns. StepMakes above spec usable
        ns k step m) (e ∙ o.keeps.nodes) here)

    -- a step that is refused by these numbers is refused
    refused_there : (step : Step) (why : Why) → IsRefused above spec (Contains numbers) (nodes_at work)
        (length work.steps) step why → IsRefused above spec usable (nodes_at work) (length work.steps) step why
    refused_there step why h =
        let all = work.steps ++ step ∷ [] in
        let n = length work.steps in
        let before : StepsMake above spec (Contains numbers) (goal_clause work.goal ∷ []) 0 (take n all) work.made =
        subst (λ ss. StepsMake above spec (Contains numbers) (goal_clause work.goal ∷ []) 0 ss work.made)
        (sym (take-append_seam work.steps (step ∷ []))) makes_there in
        let s : StepIsRefused above spec (Contains numbers) (goal_clause work.goal) all n why = (
          step,
          work.made,
          last_item work.steps step,
          before,
          h,
        ) in
        let r = refused_same above spec (Contains numbers) usable proved (goal_clause work.goal) all n why s in
        let here : r.0 ≡ step = one_get all n n r.0 step r.2 (last_item work.steps step) refl in
        let makes : StepsMake above spec usable (goal_clause work.goal ∷ []) 0 work.steps r.1 =
        subst (λ ss. StepsMake above spec usable (goal_clause work.goal ∷ []) 0 ss r.1) (take-append_seam
        work.steps (step ∷ [])) r.3 in
        let made : r.1 ≡ work.made = steps_one above one spec fine usable (goal_clause work.goal ∷ []) 0 work.steps
        r.1 work.made makes o.under.makes in
        subst (λ x. IsRefused above spec usable (nodes_at work) n x why) here (subst (λ ms. IsRefused above spec
        usable (nodes_of (goal_clause work.goal) ms) n r.0 why) made r.4)

    -- what is made isn't related, or nothing is made
    pub stopped_by : (nodes : List Clause) (k : ℕ) (step : Step) (e : SessionError) → nodes ≡ kept.nodes →
        k ≡ length kept.links → MakesRelated above spec (Contains numbers) nodes k step (Err e) →
        IsStopped above spec claims work step e
    stopped_by nodes k step (undefined why) e n h =
        let j : k ≡ length work.steps = n ∙ (open_counts above spec fine one claims work kept o).1 in
        refused_there step why (subst (λ x. IsRefused above spec (Contains numbers) (nodes_at work) x step why) j
        (subst (λ ns. IsRefused above spec (Contains numbers) ns k step why) (e ∙ o.keeps.nodes) h))
    stopped_by nodes k step NotSmaller e n (m, makes, h) = (m, next_by nodes k step m e n makes, inl h)
    stopped_by nodes k step OutOfMemory e n h = tt
    stopped_by nodes k step GoalUnderWork e n h = absurd h
    stopped_by nodes k step UnknownGoal e n h = absurd h
    stopped_by nodes k step GoalTwice e n h = absurd h
    stopped_by nodes k step NoGoal e n h = absurd h
    stopped_by nodes k step Limit e n h = absurd h

  pub open_few : length kept.nodes ≤ 10000
  open_few = subst (λ ns. length ns ≤ 10000) (sym o.keeps.nodes) (few_nodes above spec usable (goal_clause work.goal ∷
      []) 0 work.steps work.made o.under.makes (omega arith))

  module _ (step : Step) (m : Children) (next : NextMakes above spec claims work step m) where
    abbrev after : Work
    after = with_step work step m

    all_steps : StepsMake above spec usable (goal_clause work.goal ∷ []) 0 after.steps after.made
    all_steps = more_steps above spec claims work o.under step m next

    -- the symbols in the step's line are the signature's
    pub step_in_range : LineIsInRange spec.sig (step_line step)
    step_in_range =
        let all = (claim_in_range above spec usable [] (record { steps = after.steps }) (goal_clause work.goal)
        after.made all_steps).1 in
        all_last (LineIsInRange spec.sig) (map step_line work.steps) (step_line step) (subst (λ ls. AllByRecursion
        (LineIsInRange spec.sig) ls) (map-append step_line work.steps (step ∷ [])) all)

    enough : length after.steps ≤ length (nodes_at after)
    enough = enough_nodes above spec claims work o.under step m

    pub links_after : kept.links ++ links_of m ∷ [] ≡ map links_of after.made
    links_after = ap (λ ls. ls ++ links_of m ∷ []) o.keeps.links ∙ sym (map-append links_of work.made (m ∷ []))

    -- if each node has a step, the links are those of a whole block
    counts : (nodes : ℕ) → nodes ≡ length kept.nodes + length (clauses_of m) → (nodes ≡ length (nodes_at after)) ×
        (length (kept.links ++ links_of m ∷ []) ≡ length after.steps)
    counts nodes e =
        let n = open_counts above spec fine one claims work kept o in
        let more = more_nodes work step m in
        let links = length-append kept.links (links_of m ∷ []) in
        let steps = length-append work.steps (step ∷ []) in
        (omega (arith, e, n.0, more), omega (arith, links, steps, n.1))

    pub whole_after : (nodes : ℕ) → nodes ≡ length kept.nodes + length (clauses_of m) →
        nodes ≡ length (kept.links ++ links_of m ∷ []) → IsWholeBlock (kept.links ++ links_of m ∷ [])
    whole_after nodes e f =
        let n = counts nodes e in
        let finished : length (nodes_at after) ≡ length after.steps = omega (arith, f, n.0, n.1) in
        subst IsWholeBlock (sym links_after) (whole_links after.made (whole_block above spec usable (goal_clause
        work.goal) after.steps after.made all_steps finished))

    pub none_without : (nodes : ℕ) → nodes ≡ length kept.nodes + length (clauses_of m) → without_step after ≡ 0 →
        nodes ≡ length (kept.links ++ links_of m ∷ [])
    none_without nodes e f = let n = counts nodes e in omega (arith, f, enough, n.0, n.1)

    pub finished_without : (nodes : ℕ) → nodes ≡ length kept.nodes + length (clauses_of m) →
        nodes ≡ length (kept.links ++ links_of m ∷ []) → without_step after ≡ 0
    finished_without nodes e f = let n = counts nodes e in omega (arith, f, n.0, n.1)

    pub allowed_after : AllAreAllowed (kept.links ++ links_of m ∷ []) → AllAreAllowed after.made
    allowed_after a = let b : AllAreAllowed (map links_of after.made) = subst AllAreAllowed links_after a in
        λ k. allowed_by_links after.made k (b k)

    pub links_are_allowed : AllAreAllowed after.made → AllAreAllowed (kept.links ++ links_of m ∷ [])
    links_are_allowed a = subst AllAreAllowed (sym links_after) (λ k. links_allowed after.made k (a k))

    pub nodes_after : (nodes : ℕ) → nodes ≡ length kept.nodes + length (clauses_of m) →
        nodes ≡ length (nodes_at after)
    nodes_after nodes e = (counts nodes e).0
