use Rattle.std.proofs.Common.{◌∙◌, ap, sym}
use Rattle.term_core.specs.View.{tree_of}
use Rattle.spec_core.proofs.RuleTables.{rule_added_at, rule_without_at}
use Rattle.spec_core.proofs.rule_table.RuleTable.new.Goals as goal

pub loop-place-preserved-in-Var : goal.loop-place-preserved-in-Var
loop-place-preserved-in-Var c = rule_without_at c.as_slice-rule-items.result.now c.args.spec.now.rules
    c.loop-place.place c.rule-item.result c.as_slice-rule-items.ensures c.loop-place-test.true c.rule-item.is
    c.loop-place.lists.items _ c.loop-place.invariant (ap tree_of (sym c.in-Var.is) ∙ c.left.view_is)

pub loop-place-preserved : goal.loop-place-preserved
loop-place-preserved c = rule_added_at c.as_slice-rule-items.result.now c.args.spec.now.rules c.loop-place.place
    c.rule-item.result c.as_slice-rule-items.ensures c.loop-place-test.true c.rule-item.is
    c.loop-place.lists.items c.add_place.new.lists.items c.in-App.sym.0 _ c.loop-place.invariant
    (ap tree_of (sym c.in-App.is) ∙ c.left.view_is) c.in_ok-add_place-in-App.ensures
