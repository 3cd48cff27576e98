use Rattle.std.proofs.Common.{◌≤◌, ◌+◌, ◌∷◌, List, arith, length, subst, sym, take}
use Rattle.std.specs.Prelude.{All}
use Rattle.inference_rules.specs.Answers.{clauses_of}
use Rattle.node_names.specs.declared.names.NodeNames.{NodeNames}
use Rattle.node_names.specs.Names.{AreNames}
use Rattle.node_names.proofs.Walked.{AreNamed, all_named, named_all, named_more}
use Rattle.node_names.proofs.nodes.node_names.Goals as goal

pub other_names-requires-clause-names : goal.other_names-requires-clause-names
other_names-requires-clause-names c =
    let spec = c.args.spec.now in
    let goal = c.args.goal.now in
    subst (λ (ms : List NodeNames). All (λ (n : NodeNames). AreNames spec goal n.variables) ms)
    (sym c.deref-in-loop-place.ensures.value)
    (all_named spec goal
    (c.loop-place.invariant.first.clause ∷ clauses_of (take c.loop-place.place c.in-Some.others.now))
    c.loop-place.made.items c.loop-place.invariant.named.each)

pub loop-place-preserved : goal.loop-place-preserved
loop-place-preserved c =
    let spec = c.args.spec.now in
    let goal = c.args.goal.now in
    let first = c.loop-place.invariant.first in
    let others = c.in-Some.others.now in
    let place = c.loop-place.place in
    record {
      first = first;
      nodes_are = c.loop-place.invariant.nodes_are;
      named = subst (λ (ms : List NodeNames). AreNamed spec goal first others (place + 1) ms)
          (sym c.in_ok-push-2.ensures.items)
          (named_more spec goal first others place c.loop-place.made.items c.index-others-place.result
          c.in_ok-names.names c.loop-place-test.true c.index-others-place.is
          c.loop-place.invariant.named c.in_ok-names.ensures);
    }

pub returns : goal.returns
returns c =
    let others = c.in-Some.others.now in
    let le : length others ≤ c.loop-place.place = omega arith in
    named_all c.args.spec.now c.args.goal.now c.loop-place.invariant.first others
    c.args.taken.now.nodes.items c.loop-place.place c.loop-place.made.items
    c.loop-place.invariant.nodes_are le c.loop-place.invariant.named
