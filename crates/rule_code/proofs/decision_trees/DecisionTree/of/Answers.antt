use Rattle.std.proofs.Common.{◌≡◌, ℕ, [], ◌∷◌, ◌++◌, ap, sym, ◌∙◌, subst, arith}
use Rattle.std.specs.Prelude.{slice_get}
use Rattle.std.specs.Global.{Vec}
use Rattle.rule_code.specs.DecisionTrees.{AreNodes}
use Rattle.rule_code.proofs.Parts.{tree_starts, root_kept}
use Rattle.rule_code.proofs.decision_trees.DecisionTree.of.Goals as goal

pub nodes-init : goal.nodes-init
nodes-init c =
    let shown : c.push.new.self.items ≡ c.leaf.result ∷ [] = c.in_ok-push.ensures.items
    ∙ ap (λ xs. xs ++ c.leaf.result ∷ []) c.new-nodes.ensures.items in
    let all : c.leaf.result.rules.items ≡ c.args.numbers.now = ap (λ (v : Vec ℕ). v.items) c.leaf.ensures.rules
    ∙ c.in_ok-extend_from_slice.ensures.items ∙ ap (λ xs. xs ++ c.args.numbers.now) c.new-all.ensures.items in
    record {
      within = omega arith;
      nodes = subst (λ xs. AreNodes c.args.rules.now c.args.numbers.now xs) (sym shown)
          (tree_starts c.args.rules.now c.args.numbers.now c.leaf.result all c.leaf.ensures.split);
      root = (c.leaf.result, ap (λ xs. slice_get xs 0) shown, all);
    }

pub nodes-preserved : goal.nodes-preserved
nodes-preserved c =
    record {
      within = omega (arith, c.in_ok-room.ensures.grow.more);
      nodes = c.in_ok-room.ensures.nodes c.args.numbers.now c.nodes.invariant.nodes;
      root = root_kept c.nodes.nodes.items c.grow.new.nodes.items _ c.args.numbers.now c.in_ok-room.ensures.grow
          c.nodes.invariant.root;
    }

pub nodes-smaller : goal.nodes-smaller
nodes-smaller c = omega (arith, c.in_ok-room.ensures.within, c.in_ok-room.ensures.grow.count)

pub returns : goal.returns
returns c =
    let root = c.nodes.invariant.root in
    record { root = root.0; first = root.1; whole = root.2; nodes = c.nodes.invariant.nodes }
