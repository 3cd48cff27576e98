-- A block that is taken is whole, and is shown as the block that its steps make.
use Rattle.std.proofs.Common.{◌≡◌, ◌<◌, ◌+◌, ℕ, zero, suc, List, [], ◌∷◌, Option, Some, None, refl, sym, ◌∙◌, ap}
use Rattle.std.proofs.Common.{subst, arith}
use Rattle.std.proofs.Common.{add-one, length, map, take}
use Rattle.std.specs.Prelude.{◌||◌, nat_lt, option_map, slice_get}
use Rattle.std.proofs.lemmas.List.{length-map}
use Rattle.std.proofs.lemmas.List.FromFn.{get_or-map-range_with_len, length-map-range_with_len}
use Rattle.std.proofs.lemmas.Option.{slice_get-map, slice_get_read, slice_get_within}
use Rattle.term_core.specs.Tree.{Tree}
use Rattle.spec_core.specs.declared.records.Goal.{Goal}
use Rattle.spec_core.specs.declared.records.Spec.{Spec}
use Rattle.clause_core.specs.declared.answers.Children.{Children}
use Rattle.clause_core.specs.declared.clauses.Clause.{Clause}
use Rattle.clause_core.specs.declared.steps.Step.{Step}
use Rattle.clause_core.specs.Tidied.{goal_clause}
use Rattle.acceptance.specs.Blocks.{nodes_of, StepsMake}
use Rattle.acceptance.specs.Strict.{first_child}
use Rattle.block_links.specs.Links.{links_of}
use Rattle.block_steps.specs.declared.taken_steps.TakenSteps.{TakenSteps}
use Rattle.block_steps.specs.Taken.{AreTaken}
use Rattle.block_steps.proofs.BlocksTaken.{before_first, children_inside}
use Rattle.block_steps.proofs.ChildNumbers.{counted, counted_cons}
use Rattle.block_steps.proofs.FirstChildren.{first_by_links, link_of}
use Rattle.inference_rules.specs.declared.nodes.Node.{Node}
use Rattle.inference_rules.specs.Answers.{clauses_of as clauses_in}
use Rattle.node_names.specs.declared.names.NodeNames.{NodeNames}
use Rattle.node_names.specs.Nodes.{AreNodeNames}
use Rattle.page_core.specs.declared.parts.Part.TheVariants.{CaseHeading}
use Rattle.page_core.specs.Events.{within}
use Rattle.proof_trees.specs.declared.blocks.NamedBlock.{NamedBlock}
use Rattle.proof_trees.specs.Blocks.{IsWhole}
use Rattle.proof_trees.specs.Firsts.{AreFew, firsts_of}
use Rattle.proof_trees.specs.Nodes.{ShownBlock, block_events, child_count, node_events, shown_case, splits}
use Rattle.proof_trees.specs.Shown.{IsProofShown}
use Rattle.proof_trees.specs.Trees.{tree}

counted_next :
    (made : List Children) (k : ℕ) (own : Children) → slice_get made k ≡ Some own →
    counted (take (suc k) made) ≡ counted (take k made) + length own.clauses
counted_next [] k own at = absurd (let q : None ≡ Some own = at in cc)
counted_next (m ∷ made) zero own at =
    let q : Some m ≡ Some own = at in
    let same : m ≡ own = cc in
    omega (arith, counted_cons m [], ap (λ (x : Children). length x.clauses) same)
counted_next (m ∷ made) (suc k) own at =
    omega (
      arith,
      counted_next made k own at,
      counted_cons m (take (suc k) made),
      counted_cons m (take k made),
    )

-- the children of the next node are numbered after those of this one
pub next_first :
    (made : List Children) (k : ℕ) (own : Children) → slice_get made k ≡ Some own →
    first_child made (k + 1) ≡ first_child made k + length own.clauses
next_first made k own at =
    omega (arith, counted_next made k own at, ap (λ n. first_child made n) (add-one k))

-- the numbers of first children, one by one
pub firsts_at :
    (links : List Children) (k : ℕ) (link : Children) → slice_get links k ≡ Some link →
    slice_get (firsts_of links) k ≡ Some (first_child links k)
firsts_at links k link at =
    let lt : k < length links = slice_get_within links k link at in
    slice_get_read (firsts_of links) (length links) k (first_child links k)
    (sym (length-map-range_with_len (first_child links) 0 (length links))) lt
    (sym (get_or-map-range_with_len (first_child links) 0 (length links) k k (first_child links k) lt (omega arith)))

module _ (above : Tree → Tree → Type 0) (spec : Spec) (usable : ℕ → Type 0) (start : Clause) (steps : List Step)
    (taken : TakenSteps) (t : AreTaken above spec usable start steps taken) where
  pub few_links : AreFew taken.links.items
  few_links k link at =
      omega (arith, children_inside above spec usable start steps taken t k link at, t.few.few)

-- without their clauses as many children are made
count_same :
    (made : List Children) (k : ℕ) →
    child_count (slice_get (map links_of made) k) ≡ child_count (slice_get made k)
count_same made k =
    ap (λ found. child_count found) (slice_get-map links_of made k) ∙ either (slice_get made k)
  where
    either : (found : Option Children) → child_count (option_map links_of found) ≡ child_count found
    either None = refl
    either (Some m) = length-map m.clauses link_of

-- a block is drawn by its links as by what its steps make
pub same_events :
    (spec : Spec) (goal : ℕ) (clauses : List Clause) (steps : List Step) (made : List Children)
    (names : List NodeNames) →
    block_events (record {
      spec = spec;
      goal = goal;
      clauses = clauses;
      steps = steps;
      made = map links_of made;
      names = names;
    })
    ≡ block_events (record {
      spec = spec;
      goal = goal;
      clauses = clauses;
      steps = steps;
      made = made;
      names = names;
    })
same_events spec goal clauses steps made names =
    let b : ShownBlock = record {
      spec = spec;
      goal = goal;
      clauses = clauses;
      steps = steps;
      made = made;
      names = names;
    } in
    let firsts : first_child (map links_of made) ≡ first_child made = λ j k. first_by_links made k j in
    let counts :
    (λ k. child_count (slice_get (map links_of made) k)) ≡ (λ k. child_count (slice_get made k)) =
    λ j k. count_same made k j in
    λ j.
    tree (record {
      own = node_events b;
      heading =
          λ k i.
          within CaseHeading
          (shown_case b k i (firsts j k + i) (slice_get steps k) (slice_get clauses (firsts j k + i)));
      first = firsts j;
      count = counts j;
      has_cases = λ k. splits (slice_get steps k) || nat_lt 1 (counts j k);
    }) (length clauses + 1) 0

module _ (above : Tree → Tree → Type 0) (spec : Spec) (usable : ℕ → Type 0) (start : Clause) (steps : List Step)
    (taken : TakenSteps) (t : AreTaken above spec usable start steps taken) (b : NamedBlock)
    (nodes : b.nodes.now ≡ taken.nodes.items) (links : b.links.now ≡ taken.links.items) where
  -- a block of a taken one's nodes and links is whole
  pub whole_block : b.firsts.now ≡ firsts_of taken.links.items → IsWhole b
  whole_block firsts = record {
    few = omega (arith, ap length nodes, t.few.few);
    firsts =
        λ k link at.
        ap (λ fs. slice_get fs k) firsts
        ∙ firsts_at taken.links.items k link (there k link at)
        ∙ ap (λ ls. Some (first_child ls k)) (sym links);
    later =
        λ k link at.
        omega (
          arith,
          before_first above spec usable start steps taken t k link (there k link at),
          ap (λ ls. first_child ls k) links,
        );
    inside =
        λ k link at.
        omega (
          arith,
          children_inside above spec usable start steps taken t k link (there k link at),
          ap (λ ls. first_child ls k) links,
          ap length nodes,
        );
  }
    where
      there :
          (k : ℕ) (link : Children) → slice_get b.links.now k ≡ Some link →
          slice_get taken.links.items k ≡ Some link
      there k link at = ap (λ ls. slice_get ls k) (sym links) ∙ at

module _ (above : Tree → Tree → Type 0) (spec : Spec) (usable : ℕ → Type 0) (start : Clause) (steps : List Step)
    (taken : TakenSteps) (t : AreTaken above spec usable start steps taken) where
  -- what is drawn of a taken block's nodes and links is the proof of these steps
  pub shown_proof :
      (goal : Goal) (number : ℕ) (own : Spec) (nodes : List Node) (links : List Children) (names : List NodeNames) →
      nodes ≡ taken.nodes.items → links ≡ taken.links.items → start ≡ goal_clause goal → own ≡ spec →
      AreNodeNames spec goal (clauses_in taken.nodes.items) names →
      IsProofShown above spec usable number goal steps
      (block_events (record {
        spec = own;
        goal = number;
        clauses = clauses_in nodes;
        steps = steps;
        made = links;
        names = names;
      }))
  shown_proof goal number own nodes links names nodes_are links_are begins spec_is named =
      let clauses : clauses_in nodes ≡ nodes_of (goal_clause goal) t.made =
      ap clauses_in nodes_are ∙ t.nodes ∙ ap (λ s. nodes_of s t.made) begins in
      let made : links ≡ map links_of t.made = links_are ∙ t.links in
      record {
        made = t.made;
        makes = subst (λ s. StepsMake above spec usable (s ∷ []) 0 steps t.made) begins t.makes;
        names = names;
        named =
            subst (λ cs. AreNodeNames spec goal cs names)
            (t.nodes ∙ ap (λ s. nodes_of s t.made) begins) named;
        is =
            (λ j. block_events (record {
              spec = spec_is j;
              goal = number;
              clauses = clauses j;
              steps = steps;
              made = made j;
              names = names;
            }))
            ∙ same_events spec number (nodes_of (goal_clause goal) t.made) steps t.made names;
      }
