use Rattle.std.proofs.Common.{◌≡◌, List, [], ◌∷◌, Some, inl, inr, ap, sym, ◌∙◌, subst, arith, length, length-append}
use Rattle.std.specs.Prelude.{slice_get}
use Rattle.spec_core.specs.declared.records.Rule.{Rule}
use Rattle.spec_core.specs.RuleTables.{numbers_of}
use Rattle.rule_code.specs.declared.decision_trees.DecisionTree.{DecisionTree}
use Rattle.rule_code.specs.DecisionTrees.{IsTree}
use Rattle.rule_code.proofs.Parts.{at_place}
use Rattle.rule_code.proofs.growing.grow_trees.Goals as goal

pub loop-symbol-preserved : goal.loop-symbol-preserved
loop-symbol-preserved c =
    let rules = c.args.spec.now.rules in
    let i = c.loop-symbol.symbol in
    let are : c.rules_of-places.result.now ≡ numbers_of i 0 rules = c.rules_of-places.ensures
    ∙ c.in_ok-table.ensures i in
    let tree : IsTree rules (numbers_of i 0 rules) c.in_ok-of.field-0 = subst
    (λ ns. IsTree rules ns c.in_ok-of.field-0) are
    (subst (λ (rs : List Rule). IsTree rs c.rules_of-places.result.now c.in_ok-of.field-0)
    c.as_slice.ensures c.in_ok-of.ensures) in
    record {
      count = omega (
        arith,
        ap length c.in_ok-push.ensures.items,
        length-append c.loop-symbol.trees.items (c.in_ok-of.field-0 ∷ []),
        c.loop-symbol.invariant.count,
      );
      each = λ f one e. elim (at_place c.loop-symbol.trees.items c.in_ok-of.field-0 one f
          (subst (λ xs. slice_get xs f ≡ Some one) c.in_ok-push.ensures.items e)) [
            | inl a ↦ c.loop-symbol.invariant.each f one a
            | inr (same, is) ↦ subst (λ (t : DecisionTree). IsTree rules (numbers_of f 0 rules) t) is
                (subst (λ k. IsTree rules (numbers_of k 0 rules) c.in_ok-of.field-0)
                (sym (same ∙ c.loop-symbol.invariant.count)) tree)
          ];
    }
