-- A claim whose block is kept: its nodes and links, and what a closing step makes there.
use Rattle.std.proofs.Common.{◌≡◌, ◌≢◌, ℕ, suc, ◌+◌, ◌≤◌, ◌<◌, List, [], ◌∷◌, Some, take}
use Rattle.std.proofs.Common.{refl, sym, ◌∙◌, ap, subst, arith, length, map}
use Rattle.std.specs.Prelude.{Contains, slice_get}
use Rattle.std.proofs.lemmas.List.{length-map}
use Rattle.std.proofs.lemmas.Option.{slice_get_within}
use Rattle.term_core.specs.Tree.{Tree}
use Rattle.spec_core.specs.declared.records.Spec.{Spec}
use Rattle.spec_core.specs.WellSorted.{IsWellSorted}
use Rattle.clause_core.specs.declared.answers.Children.{Children}
use Rattle.clause_core.specs.declared.clauses.Clause.{Clause}
use Rattle.clause_core.specs.declared.reports.Report.{Report}
use Rattle.clause_core.specs.declared.steps.Step.{Step}
use Rattle.clause_core.specs.ClauseLaws.{OneRelation}
use Rattle.clause_core.specs.Tidied.{goal_clause}
use Rattle.acceptance.specs.Blocks.{nodes_of, StepMakes}
use Rattle.acceptance.specs.Claims.{ProvedBefore}
use Rattle.acceptance.specs.Strict.{first_child}
use Rattle.acceptance.proofs.WholeBlocks.{as_many}
use Rattle.block_links.specs.Links.{links_of}
use Rattle.block_links.proofs.LinksAlone.{there_mapped, made_of}
use Rattle.inference_rules.specs.declared.nodes.Node.{Node}
use Rattle.inference_rules.specs.Answers.{clauses_of as clauses_in}
use Rattle.script_trim.specs.declared.blocks.KeptBlock.{KeptBlock}
use Rattle.script_trim.specs.Closing.{closing_steps}
use Rattle.script_trim.specs.Cutting.{ClosesAt}
use Rattle.script_trim.specs.Kept.{kept_report, IsKept}
use Rattle.script_trim.specs.Trimmed.{proves, ProvedClaim, HasChildren}
use Rattle.block_steps.proofs.ChildNumbers.{all_children, before_children, counted, counted_clauses}
use Rattle.block_steps.proofs.FirstChildren.{first_by_links, first_nodes, link_of}
use Rattle.script_trim.proofs.OneCut.{goal_same, made_same}
use Rattle.script_trim.proofs.Places.{take_set}
use Rattle.script_trim.proofs.QuickTests.{necessary}
use Rattle.script_trim.proofs.StayingChildren.{there as item_there}

-- a node has children by its links if it has some
map_none : {A B : Type 0} (f : A → B) (xs : List A) → map f xs ≡ [] → xs ≡ []
map_none f [] e = refl
map_none f (x ∷ xs) e = absurd (let q : f x ∷ map f xs ≡ [] = e in cc)

module _ (above : Tree → Tree → Type 0) (one : OneRelation above) (spec : Spec) (fine : IsWellSorted spec)
    (report : Report) (number : ℕ) (block : KeptBlock) (k : IsKept above spec report number block) where
  abbrev kept : Report
  kept = kept_report above spec report number k.name block

  abbrev nodes : List Clause
  nodes = clauses_in block.nodes.items

  abbrev usable : ℕ → Type 0
  usable = ProvedBefore spec (take number report.claims)

  claim_nodes : (c : ProvedClaim above spec kept number) → nodes_of (goal_clause c.goal) c.made ≡ nodes
  claim_nodes c =
      let g = goal_same above one spec fine kept number number refl c k.claim in
      let m = made_same above one spec fine kept number number refl c k.claim in
      let e : nodes_of (goal_clause c.goal) c.made ≡ nodes_of (goal_clause k.claim.goal) k.claim.made =
      (λ j. nodes_of (goal_clause (g j)) (m j)) in
      e ∙ sym k.nodes

  pub steps_same :
      (c : ProvedClaim above spec kept number) (node : Clause) →
      closing_steps spec (nodes_of (goal_clause c.goal) c.made) node ≡ closing_steps spec nodes node
  steps_same c node = ap (λ ns. closing_steps spec ns node) (claim_nodes c)

  pub node_there :
      (i : ℕ) (step : Step) (rest : List Step) (c : ClosesAt above spec report number block k i step rest) →
      slice_get nodes i ≡ Some c.node
  node_there i step rest c = ap (λ ns. slice_get ns i) (sym (claim_nodes c.claim)) ∙ c.node_is

  pub closing_there :
      (i : ℕ) (step : Step) (rest : List Step) (c : ClosesAt above spec report number block k i step rest) →
      Contains (closing_steps spec nodes c.node) step
  closing_there i step rest c = subst (λ ss. Contains ss step) (steps_same c.claim c.node) c.closing

  -- if a closing step closes a node it makes something there
  pub closing_makes :
      (i : ℕ) (step : Step) (rest : List Step) → ClosesAt above spec report number block k i step rest →
      (m : Children) × StepMakes above spec usable (take (first_child k.claim.made i) nodes) i step m
  closing_makes i step rest c =
      let d = necessary above one spec fine kept k.accepted number i step rest c in
      let g = goal_same above one spec fine kept number number refl d.claim k.claim in
      let m = made_same above one spec fine kept number number refl d.claim k.claim in
      let before : nodes_of (goal_clause d.claim.goal) (take i d.claim.made) ≡ nodes_of (goal_clause k.claim.goal)
      (take i k.claim.made) = (λ j. nodes_of (goal_clause (g j)) (take i (m j))) in
      let e : nodes_of (goal_clause d.claim.goal) (take i d.claim.made) ≡ take (first_child k.claim.made i) nodes =
      before ∙ sym (first_nodes (goal_clause k.claim.goal) k.claim.made i) ∙ ap
      (λ ns. take (first_child k.claim.made i) ns) (sym k.nodes) in
      let here : StepMakes above spec usable (nodes_of (goal_clause d.claim.goal) (take i d.claim.made)) i step
      d.closed = subst (λ cs. StepMakes above spec (ProvedBefore spec cs)
      (nodes_of (goal_clause d.claim.goal) (take i d.claim.made)) i step d.closed)
      (take_set report.claims number (proves k.name block.steps.items)) d.closes in
      (d.closed, subst (λ ns. StepMakes above spec usable ns i step d.closed) e here)

  -- a node has children if it has some by its links
  pub has_children :
      (i : ℕ) (links : Children) → slice_get block.links.items i ≡ Some links → links.clauses ≢ [] →
      HasChildren above spec kept number i
  has_children i links at some =
      let p = made_of links_of k.claim.made i links (ap (λ ls. slice_get ls i) (sym k.links) ∙ at) in
      record {
        claim = k.claim;
        children = p.0;
        at = p.1;
        some = λ e. some (ap (λ (m : Children). m.clauses) (sym p.2) ∙ ap (λ ds. map link_of ds) e);
      }

  pub has_no_children :
      (i : ℕ) (links : Children) → slice_get block.links.items i ≡ Some links → links.clauses ≡ [] →
      HasChildren above spec kept number i → ⊥
  has_no_children i links at none h =
      let m = made_same above one spec fine kept number number refl h.claim k.claim in
      let is : slice_get k.claim.made i ≡ Some h.children = ap (λ ms. slice_get ms i) (sym m) ∙ h.at in
      let q : Some links ≡ Some (links_of h.children) = sym at ∙ ap (λ ls. slice_get ls i) k.links ∙ there_mapped
      links_of k.claim.made i h.children is in
      let e : links ≡ links_of h.children = cc in
      h.some (map_none link_of h.children.clauses (ap (λ (l : Children). l.clauses) (sym e) ∙ none))

  -- each node has its step, comes before its children, and is among the nodes
  pub many_links : length block.links.items ≡ length block.steps.items
  many_links =
      ap length k.links ∙ length-map k.claim.made links_of ∙ as_many above spec _ (goal_clause k.claim.goal ∷ []) 0
      k.claim.steps k.claim.made k.claim.makes ∙ ap length k.steps

  module _ (i : ℕ) (lt : i < length block.links.items) where
    its_children : (m : Children) × (slice_get k.claim.made i ≡ Some m)
    its_children = item_there k.claim.made i (omega (arith, lt, ap length k.links, length-map k.claim.made links_of))

    pub first_is : first_child block.links.items i ≡ first_child k.claim.made i
    first_is = ap (λ ls. first_child ls i) k.links ∙ first_by_links k.claim.made i

    pub before_first : i < first_child block.links.items i
    before_first =
        omega (
          arith,
          before_children above spec _ (goal_clause k.claim.goal ∷ []) 0 k.claim.steps k.claim.made
              k.claim.makes i its_children.0 its_children.1,
          first_is,
        )

    many_nodes : length block.nodes.items ≡ suc (counted k.claim.made)
    many_nodes =
        let a : length nodes ≡ length block.nodes.items = length-map block.nodes.items (λ (n : Node). n.clause) in
        let b : length nodes ≡ length (nodes_of (goal_clause k.claim.goal) k.claim.made) = ap length k.nodes in
        omega (arith, a, b, counted_clauses k.claim.made)

    pub first_within : first_child block.links.items i ≤ length block.nodes.items
    first_within = omega (arith, many_nodes, first_is, all_children k.claim.made i its_children.0 its_children.1)

    pub after_within :
        (links : Children) → slice_get block.links.items i ≡ Some links →
        first_child block.links.items i + length links.clauses ≤ length block.nodes.items
    after_within links at =
        let p = made_of links_of k.claim.made i links (ap (λ ls. slice_get ls i) (sym k.links) ∙ at) in
        let n : length (links_of p.0).clauses ≡ length p.0.clauses = length-map p.0.clauses link_of in
        let e : length (links_of p.0).clauses ≡ length links.clauses = ap (λ (l : Children). length l.clauses) p.2 in
        omega (arith, many_nodes, first_is, all_children k.claim.made i p.0 p.1, n, e)

  pub children_within : (i : ℕ) → HasChildren above spec kept number i → i < length block.links.items
  children_within i h =
      let m = made_same above one spec fine kept number number refl h.claim k.claim in
      omega (
        arith,
        slice_get_within h.claim.made i h.children h.at,
        ap length m,
        ap length k.links,
        length-map k.claim.made links_of,
      )
