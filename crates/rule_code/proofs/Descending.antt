-- The nodes of a decision tree keep what matches a call.
use Rattle.std.proofs.Common.{◌≡◌, ℕ, zero, suc, ◌-◌, ◌≤◌, List, [], ◌∷◌, Option, Some, None, refl, ap, sym, ◌∙◌}
use Rattle.std.proofs.Common.{subst, arith, length, take, drop, length-drop}
use Rattle.std.specs.Prelude.{slice_get}
use Rattle.term_core.specs.Tree.{Tree, app, instance, trees_of}
use Rattle.spec_core.specs.declared.records.Rule.{Rule}
use Rattle.rule_code.specs.declared.decision_trees.Split.{Split}
use Rattle.rule_code.specs.declared.decision_trees.TreeNode.{TreeNode}
use Rattle.rule_code.specs.declared.decision_trees.DecisionTree.{DecisionTree}
use Rattle.rule_code.specs.DecisionTrees.{Lists, next_of, Leads, IsSplit, IsTree, AreLeft}
use Rattle.rule_code.specs.Symbols.{symbol_at, symbol_in, CanBe}
use Rattle.rule_code.proofs.Looking.{matched_has}
use Rattle.rule_code.proofs.Matches.{some_same}

module _ (rules : List Rule) (numbers : List ℕ) (tree : DecisionTree) (h : IsTree rules numbers tree)
    (values : List Tree) where
  pub left_at_root : (node : TreeNode) → slice_get tree.nodes.items 0 ≡ Some node →
      AreLeft rules numbers values node.rules.items
  left_at_root node at =
      let same : h.root ≡ node = some_same (slice_get tree.nodes.items 0) h.root node h.first at in
      let e : numbers ≡ node.rules.items = sym h.whole ∙ ap (λ (n : TreeNode). n.rules.items) same in
      subst (λ xs. AreLeft rules numbers values xs) e (record { some = λ k l. l; all = λ k f rule xs l at is. l })

  module _ (i : ℕ) (node : TreeNode) (at : slice_get tree.nodes.items i ≡ Some node) (split : Split)
      (splits : node.split ≡ Some split) (d : ℕ) where
    pub leads : Leads rules tree.nodes.items i node.rules.items split.path d (next_of split d)
    leads =
        let s : IsSplit rules tree.nodes.items i node.rules.items (Some split) = subst
        (λ o. IsSplit rules tree.nodes.items i node.rules.items o) splits (h.nodes i node at).split in
        s d

    pub left_below : symbol_at split.path.argument split.path.below.items values ≡ Some d →
        AreLeft rules numbers values node.rules.items → (next : TreeNode) →
        slice_get tree.nodes.items (next_of split d) ≡ Some next → AreLeft rules numbers values next.rules.items
    left_below there left next at₂ =
        let same : leads.node ≡ next = some_same (slice_get tree.nodes.items (next_of split d)) leads.node next
        leads.there at₂ in
        record {
          some = (h.nodes (next_of split d) next at₂).some;
          all = λ k f rule xs l known is.
              let can : CanBe (symbol_in split.path rule) d = by rule xs f is (symbol_in split.path rule) refl in
              subst (λ (n : TreeNode). Lists n.rules.items k) same
              (leads.keeps k rule (left.all k f rule xs l known is) known can);
        }
      where
        by : (rule : Rule) (xs : List Tree) (f : ℕ) → instance xs rule.left ≡ app f (trees_of values) →
            (o : Option ℕ) → symbol_in split.path rule ≡ o → CanBe o d
        by rule xs f is None e = tt
        by rule xs f is (Some c) e =
            let q : Some c ≡ Some d = sym (matched_has split.path rule xs values f c is e) ∙ there in
            cc

-- a list from a place on
pub rest_is : (xs ys : List ℕ) (n : ℕ) → xs ≡ ys → take (length xs - n) (drop n xs) ≡ drop n ys
rest_is xs ys n e =
    let whole : take (length xs - n) (drop n xs) ≡ drop n xs = take_all (drop n xs) (length xs - n)
    (omega (arith, length-drop n xs)) in
    whole ∙ ap (λ z. drop n z) e
  where
    take_all : (zs : List ℕ) (m : ℕ) → length zs ≤ m → take m zs ≡ zs
    take_all [] zero h = refl
    take_all [] (suc m) h = refl
    take_all (z ∷ zs) zero h = absurd (omega arith)
    take_all (z ∷ zs) (suc m) h = ap (λ us. z ∷ us) (take_all zs m (omega arith))
