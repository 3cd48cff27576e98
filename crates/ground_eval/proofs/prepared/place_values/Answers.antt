use Rattle.std.proofs.Common.{refl, length}
use Rattle.value_bank.proofs.Placed.{adds_both}
use Rattle.rule_code.proofs.Ranges.{item_listed}
use Rattle.ground_eval.proofs.FewCells.{values_few}
use Rattle.ground_eval.proofs.SharedSides.{value_stands}
use Rattle.ground_eval.proofs.prepared.place_values.Goals as goal

pub loop-value-preserved : goal.loop-value-preserved
loop-value-preserved c =
    let at = item_listed c.args.values.now c.args.values.now c.loop-value.value-index c.value-item.result refl
    c.loop-value-test.true c.value-item.is in
    record {
      stand = value_stands c.loop-value.bank c.value.new.self c.loop-value.ids.items c.push.new.self.items
          c.args.values.now c.loop-value.value-index c.in_ok-value.field-0 c.value-item.result
          at c.in_ok-value.ensures.adds c.loop-value.invariant.stand c.in_ok-value.ensures.placed
          c.in_ok-push.ensures.items;
      few = values_few (length c.args.bank.now) (length c.loop-value.bank) (length c.value.new.self)
          c.args.values.now c.loop-value.value-index c.value-item.result at c.loop-value.invariant.few
          c.value.ensures.few;
      adds = adds_both c.args.bank.now c.loop-value.bank c.value.new.self c.loop-value.invariant.adds
          c.in_ok-value.ensures.adds;
    }
