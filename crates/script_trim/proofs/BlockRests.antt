-- What is left of a kept block if a closing step that is defined at a node closes it, and why
-- nothing is.
use Rattle.std.proofs.Common.{◌≡◌, ◌↔◌, ℕ, suc, ◌<◌, ◌≤◌, List, [], ◌∷◌, Bool, true, Some, take, ltb, refl}
use Rattle.std.proofs.Common.{sym, ◌∙◌}
use Rattle.std.proofs.Common.{ap, subst, arith, length, map}
use Rattle.std.specs.Prelude.{Contains, slice_get, slice_set, IsTrue}
use Rattle.std.specs.List.{AllByRecursion}
use Rattle.std.proofs.lemmas.Bool.{ltb-true, lt-ltb}
use Rattle.std.proofs.lemmas.List.{length-map}
use Rattle.std.proofs.lemmas.Option.{slice_get_within}
use Rattle.term_core.specs.Tree.{Tree}
use Rattle.spec_core.specs.declared.records.Goal.{Goal}
use Rattle.spec_core.specs.declared.records.Spec.{Spec}
use Rattle.spec_core.specs.WellSorted.{IsWellSorted}
use Rattle.clause_core.specs.declared.answers.Children.{Children}
use Rattle.clause_core.specs.declared.answers.Reference.{Reference}
use Rattle.clause_core.specs.declared.clauses.Clause.{Clause}
use Rattle.clause_core.specs.declared.clauses.Relation.TheVariants.{Less}
use Rattle.clause_core.specs.declared.reports.Claim.{Claim}
use Rattle.clause_core.specs.declared.reports.Report.{Report}
use Rattle.clause_core.specs.declared.steps.Step.{Step}
use Rattle.clause_core.specs.declared.steps.Step.TheVariants.{Subsume, Hyp}
use Rattle.clause_core.specs.ClauseLaws.{OneRelation}
use Rattle.clause_core.specs.Tidied.{goal_clause}
use Rattle.acceptance.specs.AllowedAnswers.{IsWholeBlock}
use Rattle.acceptance.specs.Blocks.{nodes_of, StepMakes, StepsMake}
use Rattle.acceptance.specs.Claims.{ProvedBefore}
use Rattle.acceptance.specs.Strict.{first_child, AllAreAllowed}
use Rattle.acceptance.proofs.OneBlock.{steps_one}
use Rattle.acceptance.proofs.WholeBlocks.{as_many, whole_block}
use Rattle.block_links.specs.Links.{links_of}
use Rattle.block_links.proofs.LinksAlone.{allowed_by_links, links_allowed, whole_links}
use Rattle.inference_rules.specs.declared.nodes.Node.{Node}
use Rattle.inference_rules.specs.Answers.{clauses_of}
use Rattle.proof_script.specs.Claims.{claim_text}
use Rattle.proof_script.specs.Ranges.{ClaimIsInRange}
use Rattle.script_trim.specs.declared.blocks.Fit.{Fit}
use Rattle.script_trim.specs.declared.blocks.KeptBlock.{KeptBlock}
use Rattle.script_trim.specs.Closing.{closing_steps}
use Rattle.script_trim.specs.Cut.{new_number, renumbered, staying, Descends, IsCut, RefersToStaying}
use Rattle.script_trim.specs.Cutting.{ClosesAt, FitsAt, IsCuttable}
use Rattle.script_trim.specs.Fitting.{RefersToItself}
use Rattle.script_trim.specs.Flags.{flag_of, AreInOrder, RefersWithin, TellStaying}
use Rattle.script_trim.specs.Kept.{kept_report, IsKept}
use Rattle.script_trim.specs.Keys.{key_of}
use Rattle.script_trim.specs.Made.{cut_made}
use Rattle.script_trim.specs.Quick.{CanClose}
use Rattle.script_trim.specs.Trimmed.{proves, ProvedClaim, Closes}
use Rattle.block_steps.proofs.ChildNumbers.{all_children, counted, counted_clauses}
use Rattle.script_trim.proofs.ClosingSteps.{closing_makes_none, none_by}
use Rattle.script_trim.proofs.CutBlocks.{cut_makes, cut_finished, cut_nodes}
use Rattle.block_steps.proofs.FirstChildren.{first_nodes}
use Rattle.script_trim.proofs.LinkedCuts.{descends_linked, linked_descends, linked_in_order, linked_cut}
use Rattle.script_trim.proofs.LinkedCuts.{refers_within}
use Rattle.script_trim.proofs.NodeCounts.{nodes_few}
use Rattle.script_trim.proofs.OneCut.{goal_same, length_rest, steps_same, made_same, stays_one, rest_one}
use Rattle.script_trim.proofs.Places.{set_same, take_set}
use Rattle.script_trim.proofs.Prefixes.{RefersBelow, refers_below}
use Rattle.script_trim.proofs.QuickTests.{finished, less_allowed, necessary, sufficient}
use Rattle.script_trim.proofs.ReferredNodes.{made_there}
use Rattle.block_steps.proofs.StepsInRange.{claim_in_range}
use Rattle.script_trim.proofs.StayingChildren.{there, stays_before}
use Rattle.script_trim.proofs.Unclosable.{not_by_itself}

-- the node that a step refers to stays by the test whether its number is below
below_stays : (n : ℕ) (step : Step) → RefersBelow n step → RefersToStaying (λ j. ltb j n) step
below_stays n (Subsume k terms) l = lt-ltb k n l
below_stays n (Hyp k terms place left) l = lt-ltb k n l
below_stays n step l = tt

module _
    (above : Tree → Tree → Type 0) (one : OneRelation above) (spec : Spec) (fine : IsWellSorted spec)
    (report : Report) (number : ℕ) (block : KeptBlock) (kept : IsKept above spec report number block) where
  abbrev pub whole : Report
  whole = kept_report above spec report number kept.name block

  abbrev pub start : Clause
  start = goal_clause kept.claim.goal

  abbrev pub made : List Children
  made = kept.claim.made

  abbrev pub usable : ℕ → Type 0
  usable = ProvedBefore spec (take number whole.claims)

  pub all_finished : length (nodes_of start made) ≡ length kept.claim.steps
  all_finished = finished above one spec fine whole kept.accepted number kept.claim

  few : length made ≡ length kept.claim.steps
  few = as_many above spec usable (start ∷ []) 0 kept.claim.steps made kept.claim.makes

  whole_made : IsWholeBlock made
  whole_made = whole_block above spec usable start kept.claim.steps made kept.claim.makes all_finished

  pub whole_linked : IsWholeBlock block.links.items
  whole_linked = subst IsWholeBlock (sym kept.links) (whole_links made whole_made)

  pub in_order : AreInOrder block.links.items
  in_order =
      subst AreInOrder (sym kept.links) (linked_in_order above spec usable start kept.claim.steps made
      kept.claim.makes)

  pub long_steps : length kept.claim.steps ≡ length block.steps.items
  long_steps = ap (λ ss. length ss) kept.steps

  pub long_links : length block.links.items ≡ length block.steps.items
  long_links = omega (arith, ap (λ ls. length ls) kept.links, length-map made links_of, few, long_steps)

  pub long_nodes : length (clauses_of block.nodes.items) ≡ length block.steps.items
  long_nodes = omega (arith, ap (λ ns. length ns) kept.nodes, all_finished, long_steps)

  pub few_clauses : length block.steps.items ≤ 10000
  few_clauses =
      omega (arith, few_by kept.claim.steps made kept.claim.makes, all_finished, long_steps, counted_clauses made)
    where
      few_by :
          (steps : List Step) (ms : List Children) → StepsMake above spec usable (start ∷ []) 0 steps ms →
          suc (counted ms) ≤ 10000
      few_by [] [] p = omega arith
      few_by [] (m ∷ ms) p = absurd p
      few_by (s ∷ steps) [] p = absurd p
      few_by (s ∷ steps) (m ∷ ms) p = omega (arith, nodes_few above spec usable (start ∷ []) 0 s steps m ms p)

  -- the claim is on the goal of the block's name
  pub named : kept.claim.goal.name ≡ kept.name
  named =
      let a : slice_get whole.claims number ≡ Some (proves kept.name block.steps.items) =
      set_same report.claims number (proves kept.name block.steps.items)
      (slice_get_within report.claims number _ kept.there) in
      let e : Some (proves kept.claim.goal.name kept.claim.steps) ≡ Some (proves kept.name block.steps.items) =
      sym kept.claim.is ∙ a in
      let f : proves kept.claim.goal.name kept.claim.steps ≡ proves kept.name block.steps.items = cc in
      ap (λ (c : Claim). c.goal) f

  pub same_claims : take number whole.claims ≡ take number report.claims
  same_claims = take_set report.claims number (proves kept.name block.steps.items)

  module _ (i : ℕ) (within : i < length block.steps.items) (fit : Fit)
      (fits : FitsAt above spec report number block kept i fit) where
    pub within_claim : i < length kept.claim.steps
    within_claim = omega (arith, within, long_steps)

    here : (c : Clause) × (slice_get (clauses_of block.nodes.items) i ≡ Some c)
    here = there (clauses_of block.nodes.items) i (omega (arith, within, long_nodes))

    node_is : slice_get (nodes_of start made) i ≡ Some here.0
    node_is = ap (λ ns. slice_get ns i) (sym kept.nodes) ∙ here.1

    closing : Contains (closing_steps spec (nodes_of start made) here.0) fit.step
    closing = subst (λ ns. Contains (closing_steps spec ns here.0) fit.step) kept.nodes (fits here.0 here.1).0

    taken_nodes : take (first_child made i) (clauses_of block.nodes.items) ≡ nodes_of start (take i made)
    taken_nodes = ap (λ ns. take (first_child made i) ns) kept.nodes ∙ first_nodes start made i

    pub closes : StepMakes above spec usable (nodes_of start (take i made)) i fit.step fit.made
    closes =
        subst (λ cs. StepMakes above spec (ProvedBefore spec cs) (nodes_of start (take i made)) i fit.step fit.made)
        (sym same_claims)
        (subst (λ ns. StepMakes above spec (ProvedBefore spec (take number report.claims)) ns i fit.step fit.made)
        taken_nodes (fits here.0 here.1).1)

    pub none : fit.made.clauses ≡ []
    none =
        none_by above spec usable (nodes_of start (take i made)) i fit.step fit.made closes
        (closing_makes_none spec (nodes_of start made) here.0 fit.step closing)

    reached : length (nodes_of start (take i made)) ≤ length block.links.items
    reached =
        let m = there made i (omega (arith, within_claim, few)) in
        omega (
          arith,
          counted_clauses (take i made),
          all_children made i m.0 m.1,
          counted_clauses made,
          all_finished,
          long_steps,
          long_links,
        )

    -- the references of the closing step are to nodes
    pub closed_refers : RefersWithin (length block.links.items) fit.made
    closed_refers a r at =
        let n = length (nodes_of start (take i made)) in
        let below = refers_below above spec usable (nodes_of start (take i made)) i fit.step fit.made closes in
        let t : ltb r.node n ≡ true = made_there (λ j. ltb j n) above spec usable (nodes_of start (take i made)) i
        fit.step fit.made closes (below_stays n fit.step below) a r at in
        omega (arith, reached, ltb-true r.node n t)

    pub cuttable : IsCuttable block i fit.made
    cuttable = record {
      whole = whole_linked;
      order = in_order;
      nodes = omega (arith, long_nodes, length-map block.nodes.items (λ (n : Node). n.clause), long_links);
      keys =
          omega (
            arith,
            ap (λ ks. length ks) kept.keys,
            length-map (clauses_of block.nodes.items) key_of,
            long_nodes,
            long_links,
          );
      flags = omega (arith, kept.flags, long_links);
      within = omega (arith, within, long_links);
      refs = closed_refers;
    }

    -- if the step closes the node, it makes what is kept of it, and not a reference to the node itself
    module _ (rest : List Step) (c : Closes above spec whole number i fit.step rest) where
      quick : CanClose above spec whole number i fit.step rest
      quick = necessary above one spec fine whole kept.accepted number i fit.step rest c

      same_goal : quick.claim.goal ≡ kept.claim.goal
      same_goal = goal_same above one spec fine whole number number refl quick.claim kept.claim

      same_made : quick.claim.made ≡ made
      same_made = made_same above one spec fine whole number number refl quick.claim kept.claim

      same_closed : quick.closed ≡ fit.made
      same_closed =
          let p : StepMakes above spec usable (nodes_of start (take i made)) i fit.step quick.closed =
          subst (λ ns. StepMakes above spec usable ns i fit.step quick.closed)
          (λ k. nodes_of (goal_clause (same_goal k)) (take i (same_made k))) quick.closes in
          let e : quick.closed ∷ [] ≡ fit.made ∷ [] = steps_one above one spec fine usable
          (nodes_of start (take i made)) i (fit.step ∷ []) (quick.closed ∷ []) (fit.made ∷ []) (p, tt)
          (closes, tt) in
          cc

      pub not_itself : RefersToItself i fit.made.refs → ⊥
      not_itself (a, r, get, node, sides) =
          let long : length quick.claim.made ≡ length made = ap (λ ms. length ms) same_made in
          let steps : length quick.claim.made ≡ length quick.claim.steps =
          as_many above spec usable (goal_clause quick.claim.goal ∷ []) 0 quick.claim.steps quick.claim.made
          quick.claim.makes in
          let there : i < length quick.claim.steps = omega (arith, within, long, steps, long_links, many) in
          let stay = stays_before quick.cut.stays i above spec usable (goal_clause quick.claim.goal)
          quick.claim.steps quick.claim.made quick.claim.makes
          (finished above one spec fine whole kept.accepted number quick.claim) quick.cut.which there i
          (omega arith) in
          not_by_itself quick.cut.stays quick.claim.made i quick.closed stay (omega (arith, there, steps)) a r
          (subst (λ (x : Children). slice_get x.refs a ≡ Some r) (sym same_closed) get) node sides quick.allowed
        where
          many : length block.links.items ≡ length made
          many = ap (λ ls. length ls) kept.links ∙ length-map made links_of

    module _ (flags : List Bool) (told : TellStaying block.links.items i flags) where
      abbrev pub stays : ℕ → Bool
      stays = flag_of flags

      told_links : TellStaying (map links_of made) i flags
      told_links = subst (λ ls. TellStaying ls i flags) kept.links told

      pub long_flags : length flags ≡ length block.steps.items
      long_flags = omega (arith, told.long, long_links)

      pub which : (k : ℕ) → IsTrue (stays k) ↔ ((k < length kept.claim.steps) × ¬ (Descends made i k))
      which k = (
        λ t. (let h = (told_links.tells k).0 t in (
          omega (arith, h.0, length-map made links_of, few),
          λ d. h.1 (descends_linked made i k d),
        )),
        λ h. (told_links.tells k).1 (
          omega (arith, h.0, length-map made links_of, few),
          λ d. h.1 (linked_descends made i k d),
        ),
      )

      abbrev pub left_steps : List Step
      left_steps = staying stays 0 (slice_set block.steps.items i fit.step)

      abbrev pub others : List Step
      others = map (renumbered stays) left_steps

      -- why the step can't close the node
      module _ (rest : List Step) (c : Closes above spec whole number i fit.step rest) where
        abbrev can : CanClose above spec whole number i fit.step rest
        can = quick rest c

        g : can.claim.goal ≡ kept.claim.goal
        g = same_goal rest c

        m : can.claim.made ≡ made
        m = same_made rest c

        one_made : can.closed ≡ fit.made
        one_made = same_closed rest c

        s : can.claim.steps ≡ block.steps.items
        s = steps_same above one spec fine whole number number refl can.claim kept.claim ∙ kept.steps

        its_cut : IsCut block.steps.items made i fit.step rest
        its_cut =
            subst (λ ms. IsCut block.steps.items ms i fit.step rest) m
            (subst (λ ss. IsCut ss can.claim.made i fit.step rest) s can.cut)

        which_block : (k : ℕ) → IsTrue (stays k) ↔ ((k < length block.steps.items) × ¬ (Descends made i k))
        which_block =
            subst (λ (ss : List Step). (k : ℕ) → IsTrue (stays k) ↔ ((k < length ss) × ¬ (Descends made i k)))
            kept.steps which

        same : ◌≡◌ {A = ℕ → Bool} its_cut.stays stays
        same = λ j k. stays_one block.steps.items made i its_cut.stays stays its_cut.which which_block k j

        pub must_refer : AllByRecursion (RefersToStaying stays) left_steps
        must_refer =
            subst (λ (t : ℕ → Bool). AllByRecursion (RefersToStaying t)
            (staying t 0 (slice_set block.steps.items i fit.step))) same its_cut.refer

        pub must_be : rest ≡ others
        must_be =
            its_cut.is ∙ ap (λ (t : ℕ → Bool). map (renumbered t)
            (staying t 0 (slice_set block.steps.items i fit.step))) same

        its_stays : ◌≡◌ {A = ℕ → Bool} can.cut.stays stays
        its_stays = λ j k. stays_one can.claim.steps can.claim.made i can.cut.stays stays can.cut.which which_can k j
          where
            which_can : (k : ℕ) → IsTrue (stays k) ↔ ((k < length can.claim.steps) × ¬ (Descends can.claim.made i k))
            which_can =
                subst (λ (ms : List Children). (k : ℕ) → IsTrue (stays k) ↔
                ((k < length can.claim.steps) × ¬ (Descends ms i k))) (sym m)
                (subst (λ (ss : List Step). (k : ℕ) → IsTrue (stays k) ↔ ((k < length ss) × ¬ (Descends made i k)))
                (sym s) which_block)

        pub must_be_allowed : AllAreAllowed (cut_made stays made i fit.made)
        must_be_allowed = subst AllAreAllowed (λ k. cut_made (its_stays k) (m k) i (one_made k)) can.allowed

        pub must_be_short : length (claim_text spec.sig (proves kept.name others)) ≤ 300000
        must_be_short =
            let n : can.claim.goal.name ≡ kept.name = ap (λ (x : Goal). x.name) g ∙ named in
            subst (λ ss. length (claim_text spec.sig (proves kept.name ss)) ≤ 300000) must_be
            (subst (λ x. length (claim_text spec.sig (proves x rest)) ≤ 300000) n can.short)

      -- and what is left if it can
      module _ (refer : AllByRecursion (RefersToStaying stays) left_steps) where
        pub cut : IsCut kept.claim.steps made i fit.step others
        cut = record {
          stays = flag_of flags;
          which = which;
          refer =
              subst (λ ss. AllByRecursion (RefersToStaying stays) (staying stays 0 (slice_set ss i fit.step)))
              (sym kept.steps) refer;
          is = ap (λ ss. map (renumbered stays) (staying stays 0 (slice_set ss i fit.step))) (sym kept.steps);
        }

        pub new_makes : StepsMake above spec usable (start ∷ []) 0 others (cut_made stays made i fit.made)
        unfolding cut
        new_makes =
            cut_makes above spec usable start kept.claim.steps made kept.claim.makes all_finished i within_claim
            fit.step others cut fit.made none closes

        pub new_finished : length (nodes_of start (cut_made stays made i fit.made)) ≡ length others
        unfolding cut
        new_finished =
            cut_finished above spec usable start kept.claim.steps made kept.claim.makes all_finished i within_claim
            fit.step others cut fit.made none

        -- its nodes are those that stay
        pub left_nodes :
            nodes_of start (cut_made stays made i fit.made) ≡ staying stays 0 (nodes_of start made)
        unfolding cut
        left_nodes =
            cut_nodes above spec usable start kept.claim.steps made kept.claim.makes all_finished i within_claim
            fit.step others cut fit.made none

        pub left_length : length others ≡ new_number stays (length kept.claim.steps)
        unfolding cut
        left_length = length_rest kept.claim.steps made i fit.step others cut

        pub in_range : ClaimIsInRange spec.sig (proves kept.name others)
        in_range =
            claim_in_range above spec usable kept.name (record { steps = others }) start
            (cut_made stays made i fit.made) new_makes

        pub new_links :
            map links_of (cut_made stays made i fit.made) ≡ map links_of (cut_made stays block.links.items i fit.made)
        new_links =
            sym (linked_cut stays made i fit.made) ∙ ap (λ ls. map links_of (cut_made stays ls i fit.made))
            (sym kept.links)

        pub new_whole : IsWholeBlock (map links_of (cut_made stays block.links.items i fit.made))
        new_whole =
            subst IsWholeBlock new_links (whole_links (cut_made stays made i fit.made)
            (whole_block above spec usable start others (cut_made stays made i fit.made) new_makes new_finished))

        pub allowed_by_less :
            ((a : ℕ) (r : Reference) → slice_get fit.made.refs a ≡ Some r → r.relation ≡ Less) →
            AllAreAllowed (cut_made stays made i fit.made)
        unfolding cut
        allowed_by_less less =
            less_allowed above one spec fine whole kept.accepted number kept.claim i fit.step others cut within_claim
            fit.made none less

        pub allowed_by_all :
            AllAreAllowed (map links_of (cut_made stays block.links.items i fit.made)) →
            AllAreAllowed (cut_made stays made i fit.made)
        allowed_by_all all =
            λ k. allowed_by_links (cut_made stays made i fit.made) k (subst AllAreAllowed (sym new_links) all k)

        pub all_by_allowed :
            AllAreAllowed (cut_made stays made i fit.made) →
            AllAreAllowed (map links_of (cut_made stays block.links.items i fit.made))
        all_by_allowed all =
            subst AllAreAllowed new_links (λ k. links_allowed (cut_made stays made i fit.made) k (all k))

        pub can_close :
            AllAreAllowed (cut_made stays made i fit.made) →
            length (claim_text spec.sig (proves kept.name others)) ≤ 300000 →
            Closes above spec whole number i fit.step others
        unfolding cut
        can_close allowed short = sufficient above one spec fine whole kept.accepted number i fit.step others (record {
          claim = kept.claim;
          node = here.0;
          node_is = node_is;
          closing = closing;
          cut = cut;
          closed = fit.made;
          closes = closes;
          allowed = allowed;
          short = subst (λ x. length (claim_text spec.sig (proves x others)) ≤ 300000) (sym named) short;
        })
