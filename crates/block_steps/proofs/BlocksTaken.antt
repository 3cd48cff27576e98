-- The steps of a block that are taken one after the other, each of which is defined.
use Rattle.std.proofs.Common.{◌≡◌, ℕ, zero, suc, ◌+◌, ◌<◌, List, [], ◌∷◌, ◌++◌, Option, Some, None, Ok, Err, refl, sym}
use Rattle.std.proofs.Common.{◌∙◌}
use Rattle.std.proofs.Common.{ap, subst, arith, length, map, take, get_or}
use Rattle.std.specs.Prelude.{◌≤◌, flat_map, option_map, slice_get}
use Rattle.std.proofs.lemmas.Grind.{flat_map-append}
use Rattle.std.proofs.lemmas.List.{append-nil, length-map, length-take-le, map-append}
use Rattle.std.proofs.lemmas.Option.{slice_get-map, slice_get_read}
use Rattle.term_core.specs.Tree.{Tree}
use Rattle.term_core.proofs.Items.{taken_next}
use Rattle.spec_core.specs.declared.records.Spec.{Spec}
use Rattle.spec_core.specs.WellSorted.{IsWellSorted}
use Rattle.clause_core.specs.declared.answers.Children.{Children}
use Rattle.clause_core.specs.declared.answers.Why.{Why}
use Rattle.clause_core.specs.declared.clauses.Clause.{Clause}
use Rattle.clause_core.specs.declared.steps.Step.{Step}
use Rattle.clause_core.specs.ClauseLaws.{OneRelation}
use Rattle.descent.specs.SortedChildren.{IsNode}
use Rattle.acceptance.specs.Blocks.{clauses_of, nodes_of, StepMakes, StepsMake}
use Rattle.acceptance.specs.Strict.{first_child}
use Rattle.acceptance.specs.StepRefusals.{IsRefused}
use Rattle.acceptance.proofs.Longer.{steps_longer}
use Rattle.acceptance.proofs.OneBlock.{none_refused}
use Rattle.acceptance.proofs.WholeBlocks.{as_many}
use Rattle.block_links.specs.Links.{links_of}
use Rattle.block_steps.specs.declared.taken_steps.TakenSteps.{TakenSteps}
use Rattle.block_steps.specs.Taken.{AreTaken, TakesStep}
use Rattle.block_steps.proofs.ChildNumbers.{all_children, before_children, counted_clauses}
use Rattle.block_steps.proofs.FirstChildren.{first_by_links, link_of}
use Rattle.inference_rules.specs.declared.nodes.Node.{Node}
use Rattle.inference_rules.specs.declared.nodes.StepError.{StepError}
use Rattle.inference_rules.specs.declared.nodes.StepError.TheVariants.{Why as because, OutOfMemory as no_memory}
use Rattle.inference_rules.specs.Answers.{clauses_of as clauses_in}
use Rattle.inference_rules.specs.Nodes.{AreNodes, clauses_made}

pub one_node :
    (above : Tree → Tree → Type 0) (spec : Spec) (c : Clause) → IsNode spec.sig c → AreNodes spec.sig (c ∷ [])
one_node above spec c h j d at = only j at
  where
    only : (j : ℕ) → slice_get (c ∷ []) j ≡ Some d → IsNode spec.sig d
    only zero at = let q : Some c ≡ Some d = at in let e : c ≡ d = cc in subst (λ x. IsNode spec.sig x) e h
    only (suc j) at = absurd (let q : None ≡ Some d = at in cc)

module _ (above : Tree → Tree → Type 0) (spec : Spec) (usable : ℕ → Type 0) (start : Clause) where
  pub none_taken :
      (taken : TakenSteps) → IsNode spec.sig start → clauses_in taken.nodes.items ≡ start ∷ [] →
      taken.links.items ≡ [] → AreTaken above spec usable start [] taken
  none_taken taken node nodes links =
      let one : length taken.nodes.items ≡ 1 = sym (length-map taken.nodes.items (λ (n : Node). n.clause)) ∙ ap length
      nodes in
      record {
        made = [];
        makes = tt;
        nodes = nodes;
        links = links;
        few = record {
          nodes = subst (λ ns. AreNodes spec.sig ns) (sym nodes) (one_node above spec start node);
          few = omega (arith, one);
          reached = omega (arith, ap length links);
        };
      }

  module _ (steps : List Step) (i : ℕ) (step : Step) (lt : i < length steps) (is : step ≡ get_or steps i step)
      (old : TakenSteps) (t : AreTaken above spec usable start (take i steps) old) where
    count : length (take i steps) ≡ i
    count = length-take-le i steps (omega (arith, lt))

    reached : length old.links.items ≡ i
    reached =
        ap length t.links ∙ length-map t.made links_of ∙ as_many above spec usable (start ∷ []) 0 (take i steps)
        t.made t.makes ∙ count

    pub one_taken :
        (new : TakenSteps) → TakesStep above spec usable old new step (Ok tt) →
        AreTaken above spec usable start (take (i + 1) steps) new
    one_taken new (m, taking, nodes, links, few) =
        let k : length old.links.items ≡ 0 + length (take i steps) = omega (arith, reached, count) in
        let here : StepMakes above spec usable (nodes_of start t.made) (0 + length (take i steps)) step m =
        subst (λ j. StepMakes above spec usable (nodes_of start t.made) j step m) k
        (subst (λ ns. StepMakes above spec usable ns (length old.links.items) step m) t.nodes taking) in
        let longer : StepsMake above spec usable (start ∷ []) 0 (take i steps ++ step ∷ []) (t.made ++ m ∷ []) =
        steps_longer above spec usable (start ∷ []) 0 (take i steps) t.made t.makes step m here in
        let more : nodes_of start (t.made ++ m ∷ []) ≡ nodes_of start t.made ++ clauses_made m =
        ap (λ cs. start ∷ cs) (flat_map-append clauses_of t.made (m ∷ []) ∙ ap
        (λ cs. flat_map clauses_of t.made ++ cs) (append-nil (clauses_made m))) in
        record {
          made = t.made ++ m ∷ [];
          makes =
              subst (λ ss. StepsMake above spec usable (start ∷ []) 0 ss (t.made ++ m ∷ []))
              (sym (taken_next steps i step lt is)) longer;
          nodes = nodes ∙ ap (λ ns. ns ++ clauses_made m) t.nodes ∙ sym more;
          links = links ∙ ap (λ ls. ls ++ links_of m ∷ []) t.links ∙ sym (map-append links_of t.made (m ∷ []));
          few = few;
        }

    -- no step is refused if all are defined
    pub not_refused :
        OneRelation above → IsWellSorted spec → (made : List Children) →
        StepsMake above spec usable (start ∷ []) 0 steps made → (new : TakenSteps) (why : Why) →
        TakesStep above spec usable old new step (Err (because why)) → ⊥
    not_refused one fine made makes new why refused =
        let here : IsRefused above spec usable (nodes_of start t.made) i step why =
        subst (λ j. IsRefused above spec usable (nodes_of start t.made) j step why) reached
        (subst (λ ns. IsRefused above spec usable ns (length old.links.items) step why) t.nodes refused) in
        none_refused above one spec fine usable start steps made makes i why
        (step, t.made, slice_get_read steps (length steps) i step refl lt is, t.makes, here)

    pub only_memory :
        OneRelation above → IsWellSorted spec → (made : List Children) →
        StepsMake above spec usable (start ∷ []) 0 steps made → (new : TakenSteps) (error : StepError) →
        TakesStep above spec usable old new step (Err error) → error ≡ no_memory
    only_memory one fine made makes new (because why) refused = absurd (not_refused one fine made makes new why refused)
    only_memory one fine made makes new no_memory refused = refl

  -- the numbers of children in a block that is taken
  module _ (steps : List Step) (taken : TakenSteps) (t : AreTaken above spec usable start steps taken) where
    first_is : (k : ℕ) → first_child taken.links.items k ≡ first_child t.made k
    first_is k = ap (λ ls. first_child ls k) t.links ∙ first_by_links t.made k

    -- what a link without clauses was made from
    made_at :
        (k : ℕ) (link : Children) → slice_get taken.links.items k ≡ Some link →
        (m : Children) × (slice_get t.made k ≡ Some m) × (length link.clauses ≡ length m.clauses)
    made_at k link at = either (slice_get t.made k) refl
      where
        there : option_map links_of (slice_get t.made k) ≡ Some link
        there = sym (slice_get-map links_of t.made k) ∙ ap (λ ls. slice_get ls k) (sym t.links) ∙ at

        either :
            (found : Option Children) → slice_get t.made k ≡ found →
            (m : Children) × (slice_get t.made k ≡ Some m) × (length link.clauses ≡ length m.clauses)
        either None e = absurd (let q : None ≡ Some link = ap (option_map links_of) (sym e) ∙ there in cc)
        either (Some m) e =
            let q : Some (links_of m) ≡ Some link = ap (option_map links_of) (sym e) ∙ there in
            let same : links_of m ≡ link = cc in
            (m, e, ap (λ (c : Children). length c.clauses) (sym same) ∙ length-map m.clauses link_of)

    -- a node comes before its first child
    pub before_first :
        (k : ℕ) (link : Children) → slice_get taken.links.items k ≡ Some link → k < first_child taken.links.items k
    before_first k link at =
        let m = made_at k link at in
        omega (
          arith,
          before_children above spec usable (start ∷ []) 0 steps t.made t.makes k m.0 m.1,
          first_is k,
        )

    -- and all its children are nodes
    pub children_inside :
        (k : ℕ) (link : Children) → slice_get taken.links.items k ≡ Some link →
        first_child taken.links.items k + length link.clauses ≤ length taken.nodes.items
    children_inside k link at =
        let m = made_at k link at in
        let nodes : length (clauses_in taken.nodes.items) ≡ length taken.nodes.items =
        length-map taken.nodes.items (λ (n : Node). n.clause) in
        omega (
          arith,
          all_children t.made k m.0 m.1,
          m.2,
          first_is k,
          counted_clauses t.made,
          ap length t.nodes,
          nodes,
        )
