use Rattle.std.proofs.Common.{◌≡◌, ◌<◌, ◌++◌, [], ◌∷◌, get_or, length, take, ap, sym, ◌∙◌, subst, arith}
use Rattle.std.proofs.lemmas.List.{take_all}
use Rattle.block_links.specs.Links.{links_of}
use Rattle.inference_rules.specs.Answers.{clauses_of}
use Rattle.inference_rules.specs.Nodes.{clauses_made}
use Rattle.proof_search.specs.Building.{child_nodes, child_parents}
use Rattle.proof_search.specs.Leading.{ArePlaces}
use Rattle.proof_search.proofs.AddedNodes.{child_clauses, leadings_more, parents_more, same_nodes}
use Rattle.proof_search.proofs.building.Building.take.Goals as goal

pub loop-child-preserved : goal.loop-child-preserved
loop-child-preserved c =
    let old = c.args.self.now in
    let now = c.loop-child.self in
    let adds = c.loop-child.invariant.0 in
    let children = c.args.taken.made.clauses in
    let i = c.loop-child.child-index in
    let lt : i < length children =
    omega (arith, c.loop-child-test.true, ap length c.as_slice-child-items.ensures) in
    let is : c.child-item.result ≡ get_or children i c.child-item.result =
    c.child-item.is ∙ ap (λ xs. get_or xs i c.child-item.result) c.as_slice-child-items.ensures in (
      record {
        parents =
            parents_more children i c.child-item.result lt is c.push-in-loop-child.new.self.items
            old.parents.items now.parents.items c.len-parent.result adds.parents
            c.in_ok-push-2.ensures.items;
        leadings = λ kept.
            leadings_more children i c.child-item.result lt is old.block.nodes.items
            now.leadings.items c.push.new.self.items c.in_ok-leading.field-0
            (adds.leadings kept) c.in_ok-leading.ensures c.in_ok-push.ensures.items;
        nodes = adds.nodes;
        links = adds.links;
        steps = adds.steps;
        sides = adds.sides;
      },
      c.loop-child.invariant.1,
    )

pub returns : goal.returns
returns c =
    let old = c.args.self.now in
    let adds = c.loop-child.invariant.0 in
    let made = c.args.taken.made in
    let all : take c.loop-child.child-index made.clauses ≡ made.clauses =
    take_all c.loop-child.child-index made.clauses
    (omega (arith, c.loop-child-test.false, ap length c.as_slice-child-items.ensures)) in
    let parent : c.len-parent.result ≡ length old.steps.items =
    omega (arith, c.len-parent.ensures, old.steps.ok.0) in
    let nodes : c.add.new.self.nodes.items ≡ old.block.nodes.items ++ child_nodes made.clauses =
    same_nodes c.add.new.self.nodes.items (old.block.nodes.items ++ child_nodes made.clauses)
    (c.in_ok-add.ensures.nodes ∙ ap (λ ns. clauses_of ns ++ clauses_made made) adds.nodes
    ∙ sym (child_clauses old.block.nodes.items made.clauses)) in
    record {
      nodes = nodes;
      parents =
          adds.parents
          ∙ (λ i. old.parents.items ++ child_parents (parent i) (all i));
      steps =
          c.in_ok-push-3.ensures.items
          ∙ ap (λ ss. ss ++ c.loop-child.step-1 ∷ []) adds.steps
          ∙ ap (λ s. old.steps.items ++ s ∷ []) c.loop-child.invariant.1;
      links = c.in_ok-add.ensures.links ∙ ap (λ ls. ls ++ links_of made ∷ []) adds.links;
      leadings = λ kept.
          subst (λ ns. ArePlaces ns c.loop-child.self.leadings.items) (sym nodes)
          (subst (λ cs. ArePlaces (old.block.nodes.items ++ child_nodes cs) c.loop-child.self.leadings.items) all
          (adds.leadings kept));
      sides = adds.sides;
    }
