use Rattle.std.proofs.Common.{◌≡◌, ◌<◌, Some, refl, sym, subst, length}
use Rattle.std.specs.Prelude.{slice_get}
use Rattle.std.proofs.lemmas.Option.{slice_get_within}
use Rattle.rule_code.specs.DecisionTrees.{next_of}
use Rattle.rule_code.proofs.Descending.{leads, left_below}
use Rattle.rule_code.proofs.Ranges.{item_listed}
use Rattle.rule_code.proofs.decision_trees.DecisionTree.rules_for.Goals as goal

pub down-preserved : goal.down-preserved
down-preserved c =
    let tree = c.args.self.now in
    let nodes = tree.nodes.items in
    let at = c.down.at in
    let node = c.index-node.result.now in
    let split = c.in-Some.split in
    let sym_there = c.in-Some-symbol_of.sym in
    let listed : slice_get nodes at ≡ Some node = item_listed nodes nodes at node refl c.down.invariant.within
    c.index-node.ensures in
    let r = c.requires.tree in
    let l = leads r.0 r.1 tree r.2 c.requires.call.0 at node listed split c.in-Some.is sym_there in
    record {
      within = subst (λ k. k < length nodes) (sym c.next-at.ensures)
          (slice_get_within nodes (next_of split sym_there) l.node l.there);
      left = λ rules numbers terms h stand next at₂. left_below rules numbers tree h terms at node listed split
          c.in-Some.is sym_there (sym (c.in-Some-symbol_of.ensures terms stand))
          (c.down.invariant.left rules numbers terms h stand node listed) next
          (subst (λ k. slice_get nodes k ≡ Some next) c.next-at.ensures at₂);
    }
